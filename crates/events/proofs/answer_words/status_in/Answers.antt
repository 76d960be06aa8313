-- `status_in` meets its contract.
-- Assumes nothing.
use Rattle.std.proofs.Common.{◌≡◌, ◌<◌, ◌∙◌, arith}
use Rattle.std.specs.Prelude.{Ok}
use Rattle.laws.specs.Pick.{pick}
use Rattle.refusals.proofs.OnPaper.{paper_only}
use Rattle.laws.proofs.Lists.{each_one_of}
use Rattle.status.specs.DriveStatus.{known_octets, is_drive_status, status_of}
use Rattle.events.proofs.answer_words.status_in.Goals as goal
use Rattle.events.proofs.answer_words.status_in.Goals.{After-try_from}

pub overflow_cast-word : goal.overflow_cast-word
unfolding is_drive_status
overflow_cast-word c = record { fits = each_one_of (λ n. n < 256) known_octets c.args.word c.requires (omega arith, (omega arith, (omega arith, (omega arith, (omega arith, tt))))) }

read : (c : After-try_from) → c.try_from.result ≡ Ok (status_of c.args.word)
unfolding pick
read c = paper_only (c.try_from.ensures ∙ rw c.requires)

pub unwrap-requires : goal.unwrap-requires
unwrap-requires c = rw (read (goal.at.unwrap-requires c).After-try_from)

pub returns : goal.returns
returns c = cc (read (goal.at.returns c).After-try_from)
