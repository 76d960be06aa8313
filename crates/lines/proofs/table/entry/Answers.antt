-- `entry` meets its contract: the constant is the table of the listed moves, entry for entry, which antt computes.
-- Assumes nothing.
use Rattle.std.proofs.Common.{ap, ◌∙◌}
use Rattle.laws.specs.Pick.{pick}
use Rattle.lines.specs.Moves.{entry_of, moves_table, said_by}
use Rattle.lines.proofs.Listed.{table_is_the_list}
use Rattle.lines.proofs.table.entry.Goals as goal

pub returns : goal.returns
unfolding moves_table entry_of pick
returns c =
    (rw (c.from.ensures, c.from-2.ensures) at c.said_by.ensures) ∙ ap said_by (table_is_the_list.entry c.args.old c.args.new c.requires.0 c.requires.1)
