-- `defects::crc::one_more` meets its contract: what it looks up is the law of one octet more.
-- Assumes nothing.
use mathlib.Core.Path.{sym}
use borrow.Author.Rules.{rules}
use Rattle.defects.proofs.CrcLaws.{looked_up}
use Rattle.defects.proofs.crc.one_more.Goals as goal

pub returns : goal.returns
returns c read e = rw (c.crc_table.ensures, e) (sym (looked_up read c.args.octet (search rules)))
