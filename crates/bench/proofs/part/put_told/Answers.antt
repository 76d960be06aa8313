-- `bench::part::put_told` meets its contract: four pieces, one behind the other.
-- Assumes nothing.
use Prim.Native.Nat.{◌+◌, ◌*◌, ◌/◌, ◌≤◌}
use native.Mathlib.Omega.{arith}
use mathlib.Core.List.{append_assoc}
use lib.ListN.{length, drop, length-append}
use Rattle.bench.specs.Text.{numbered_line}
use Rattle.bench.specs.Line.{owner_line}
use Rattle.bench.specs.Part.{ran_word, next_line}
use Rattle.bench.specs.Told.{told_lines}
use Rattle.bench.proofs.Lines.{text_size}
use Rattle.bench.proofs.part.put_told.Goals as goal
use Rattle.bench.proofs.part.put_told.Goals.{Start}

room : (c : Start) → let a = c.args.told.now in
    let lines_told = told_lines (a.from + 1) a.count (drop (8 * a.from) a.records.now) a.answers.now a.gaps.now in
    length c.args.text.now.items + length (numbered_line ran_word a.count) + length lines_told + length (owner_line c.args.owner)
    + length (next_line (length a.records.now / 8) (a.from + a.count)) ≤ 163850
room c = let a = c.args.told.now in
    let lines_told = told_lines (a.from + 1) a.count (drop (8 * a.from) a.records.now) a.answers.now a.gaps.now in
    omega (arith, c.requires.1, text_size a.count lines_told c.args.owner (length a.records.now / 8) (a.from + a.count))

pub put_numbered-requires : goal.put_numbered-requires
put_numbered-requires c = omega (arith, room (goal.at.put_numbered-requires c).Start)

pub put_lines-requires : goal.put_lines-requires
put_lines-requires c = simp (c.put_numbered.ensures, length-append) (omega (arith, room (goal.at.put_lines-requires c).Start))

pub put_owner-requires : goal.put_owner-requires
put_owner-requires c = simp (c.put_lines.ensures, c.put_numbered.ensures, length-append) (omega (arith, room (goal.at.put_owner-requires c).Start))

pub put_next-requires : goal.put_next-requires
put_next-requires c =
    simp (c.put_owner.ensures, c.put_lines.ensures, c.put_numbered.ensures, length-append) (omega (arith, room (goal.at.put_next-requires c).Start))

pub returns : goal.returns
returns c = simp (c.put_next.ensures, c.put_owner.ensures, c.put_lines.ensures, c.put_numbered.ensures, append_assoc)
