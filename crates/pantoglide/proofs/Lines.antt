-- The follower on an octet: from what the follower answers to the promise.
-- Assumes nothing.
use Prim.Native.Nat.{ℕ, ◌<◌, ◌≤◌}
use mathlib.Core.Path.{◌≡◌, refl, sym, ap, ◌∙◌}
use mathlib.Core.List.{List, ◌∷◌}
use native.Mathlib.Omega.{arith}
use borrow.Author.Tests.{lt-ltb, le-ltb, eqb-true, eqb-false}
use lib.Dec.{ltb}
use lib.ListN.{length, get_or, set}
use Rattle.std.specs.Prelude.{Result, Ok, Err, is_ok, ◌==◌}
use mathlib.Core.Bool.{Bool, true, false, true≢false, false≢true}
use Rattle.laws.specs.Pick.{pick}
use Rattle.laws.specs.Rows.{Row, first, ◌when◌, unless_refused, refused_or}
use Rattle.refusals.specs.Refusal.{number, on_paper}
use Rattle.refusals.specs.declared.refusal.Refusal.{Refusal}
use Rattle.refusals.proofs.OnPaper.{number_is_not_0, value_given, refusal_given, left_as_it_was}
use Rattle.lines.specs.Follower.{said, step_rows, step_of, Stepped}
use Rattle.lines.specs.Reading.{octet_said, octet_of}
use Rattle.lines.specs.declared.follower.Follower.{Follower}
use Rattle.lines.specs.declared.follower.Followed.{Followed}
use Rattle.lines.specs.declared.follower.Answer.{Answer}
use Rattle.lines.specs.declared.follower.Answer.TheVariants.{Same, Controllers, Drives, Undefined, Lost, Idle}
use Rattle.lines.proofs.Step.{stepped}
use Rattle.pantoglide.specs.Line.{follower_in, follower_octet, line_refusal, LineFollowed}

-- ---- the number of an answer: that of its row, or one from 16 on

said_from_sixteen : (said : Answer) → 16 ≤ octet_said said
said_from_sixteen Same = omega arith
said_from_sixteen Controllers = omega arith
said_from_sixteen Drives = omega arith
said_from_sixteen Undefined = omega arith
said_from_sixteen Lost = omega arith
said_from_sixteen Idle = omega arith

from_sixteen_lem : (rows : List Row) (value : Answer) (answer : Result Answer Refusal) → on_paper answer ≡ refused_or rows value → first rows ≡ 0 → 16 ≤ octet_of answer
unfolding octet_of
from_sixteen_lem rows value (Ok said) e z = said_from_sixteen said
from_sixteen_lem rows value (Err refusal) e z = absurd (number_is_not_0 refusal (sym (refusal_given rows refusal value e) ∙ z))

numbered_lem : (rows : List Row) (value : Answer) (answer : Result Answer Refusal) → on_paper answer ≡ refused_or rows value
    → unless_refused (first rows) (first rows) (octet_of answer) ≡ octet_of answer
unfolding octet_of
numbered_lem rows value (Ok said) e = rw (value_given rows e).0
numbered_lem rows value (Err refusal) e = rw (refusal_given rows refusal value e) (left_as_it_was refusal (number refusal) refl)

pub from_sixteen : (f : Follower) (new : ℕ) → first (step_rows f new) ≡ 0 → 16 ≤ octet_of (step_of f new).answer
from_sixteen f new = let s : Stepped f new (step_of f new) = stepped refl in from_sixteen_lem (step_rows f new) (said f new) _ s.on_paper

pub numbered : (f : Follower) (new : ℕ) → unless_refused (first (step_rows f new)) (first (step_rows f new)) (octet_of (step_of f new).answer) ≡ octet_of (step_of f new).answer
numbered f new = let s : Stepped f new (step_of f new) = stepped refl in numbered_lem (step_rows f new) (said f new) _ s.on_paper

-- ---- a call

-- is there an octet?
pub none_there : (octets : List ℕ) {empty : Bool} → empty ≡ (length octets == 0) → empty ≡ true → length octets < 1
none_there octets e t = let none = eqb-true (length octets) 0 (sym e ∙ t) in omega arith

pub one_there : (octets : List ℕ) {empty : Bool} → empty ≡ (length octets == 0) → empty ≡ false → 1 ≤ length octets
one_there octets e t = let some = eqb-false (length octets) 0 (sym e ∙ t) in omega arith

pub no_follower : (follower : List ℕ) (setting : ℕ) → length follower < 1 → LineFollowed follower setting 10 follower
unfolding pick
no_follower follower setting h = let short = lt-ltb (length follower) 1 h in record { answer = rw short; follower = rw short }

-- where there is an octet it is the other rows that tell
pub with_octet : (follower : List ℕ) (rows : List Row) → 1 ≤ length follower → first (10 when ltb (length follower) 1 ∷ rows) ≡ first rows
unfolding pick
with_octet follower rows h = rw (le-ltb (length follower) 1 h)

module _ (follower : List ℕ) (setting : ℕ) (r : Followed) (there : 1 ≤ length follower) (t : Stepped (follower_in (get_or follower 0 0)) setting r) where
  abbrev rows : List Row
  rows = step_rows (follower_in (get_or follower 0 0)) setting

  same_rows : line_refusal follower setting ≡ first rows
  same_rows = with_octet follower rows there

  answered : octet_of r.answer ≡ unless_refused (line_refusal follower setting) (line_refusal follower setting) (octet_of (step_of (follower_in (get_or follower 0 0)) setting).answer)
  answered = ap octet_of t.answer ∙ rw same_rows (sym (numbered (follower_in (get_or follower 0 0)) setting))

  pub line_told : is_ok r.answer ≡ true → LineFollowed follower setting (octet_of r.answer) (set follower 0 (follower_octet r.follower))
  line_told e = by_answer r.answer e t.on_paper
    where
      by_answer : (answer : Result Answer Refusal) → is_ok answer ≡ true → on_paper answer ≡ refused_or rows (said (follower_in (get_or follower 0 0)) setting)
          → LineFollowed follower setting (octet_of r.answer) (set follower 0 (follower_octet r.follower))
      by_answer (Ok said') e p =
          record { answer = answered; follower = rw (same_rows, (value_given rows p).0) (ap (λ (f : Follower). set follower 0 (follower_octet f)) t.follower) }
      by_answer (Err refusal) e p = absurd (false≢true e)

  pub line_refused : is_ok r.answer ≡ false → LineFollowed follower setting (octet_of r.answer) follower
  line_refused e = by_answer r.answer e t.on_paper
    where
      by_answer : (answer : Result Answer Refusal) → is_ok answer ≡ false → on_paper answer ≡ refused_or rows (said (follower_in (get_or follower 0 0)) setting)
          → LineFollowed follower setting (octet_of r.answer) follower
      by_answer (Ok said') e p = absurd (true≢false e)
      by_answer (Err refusal) e p = record { answer = answered; follower = rw same_rows (sym (left_as_it_was refusal _ (refusal_given rows refusal _ p))) }
