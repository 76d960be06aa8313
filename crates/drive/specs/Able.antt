-- What the private functions of `events` ask and go by. No public call asks anything of this, and no sentence of document 01 is said here.
use Rattle.std.specs.Prelude.{ℕ, ◌+◌, ◌≤◌, ◌<◌, ◌≡◌, false, List, [], ◌∷◌, length, get_or}
use Rattle.laws.specs.Rows.{first, ◌when◌, unless_refused}
use Rattle.laws.specs.Lists.{written_over}
use Rattle.refusals.specs.Refusal.{named}
use Rattle.parts.specs.Setup.{sector_words}
use Rattle.parts.specs.Control.{words_to_come, words_read}
use Rattle.parts.specs.declared.kind.Kind.{Kind}
use Rattle.parts.specs.declared.event.Event.{Event}
use Rattle.parts.specs.declared.setup.Setup.{Setup}
use Rattle.drive.specs.State.{told, Result}
use Rattle.drive.specs.Refusal.{row11, row10, own_rows}
use Rattle.drive.specs.Event.{refused_with}
use Rattle.drive.specs.Run.{Machine, machine, answer_to, after, answers, final}
use Rattle.drive.specs.AnswerWords.{answer_words, words_of_answers}
use Rattle.drive.specs.declared.answer.Outcome.{Outcome}
use Rattle.drive.specs.declared.answer.Answer.TheVariants.{Refused}
use Rattle.drive.specs.declared.drive.Drive.{Drive}

-- Rows 11 and 10 let the state pass.
pub record Passable (d : Drive) (sectors staging : List ℕ) : Type 0 where
  pub sound : row11 d ≡ false
  pub room : row10 d.setup sectors staging ≡ false

-- What a kind's own tests, from 8 on, leave of what it would do.
unfoldable pub unless_own_row : Kind → Drive → Event → Outcome → Outcome
unless_own_row k d e accepted = let n = first (own_rows k d e) in unless_refused n (told (Refused (named n)) d) accepted

-- The same of a kind that touches the lent words.
unfoldable pub unless_own_row_in : Kind → Drive → Event → List ℕ → List ℕ → Result → Result
unless_own_row_in k d e sectors staging accepted = let n = first (own_rows k d e) in unless_refused n (refused_with n d sectors staging) accepted

-- The slices hold a sector from `start` on, and what is staged of it.
pub record Room (s : Setup) (start : ℕ) (sectors staging : List ℕ) : Type 0 where
  pub sector : start + sector_words s ≤ length sectors
  pub stage : sector_words s ≤ length staging

-- Rows 11 and 10 let the state pass, and the open transfer has a word to come.
pub record Able (d : Drive) (sectors staging : List ℕ) : Type 0 where
  pub sound : row11 d ≡ false
  pub room : row10 d.setup sectors staging ≡ false
  pub moved : d.transfer.moved < words_to_come d.setup d.transfer.control

-- Word k of a read is the sector's word at this offset.
pub record ReadsAt (s : Setup) (c k offset : ℕ) : Type 0 where
  pub inside : offset < sector_words s
  pub reads : (sector : List ℕ) → length sector ≡ sector_words s → get_or (words_read s c sector) k 0 ≡ get_or sector offset 0

-- ---- a batch

-- What rows 11 and 10 say of a state, 0 where both let it pass.
unfoldable pub judgement : Drive → List ℕ → List ℕ → ℕ
judgement d sectors staging = first (11 when row11 d ∷ 10 when row10 d.setup sectors staging ∷ [])

-- One of them: the machine after the event, and the words of its answer at the front of a slice.
pub record TurnTaken (m : Machine) (e : Event) (out₀ : List ℕ) (m' : Machine) (out₁ : List ℕ) : Type 0 where
  pub machine : m' ≡ after m e
  pub out : out₁ ≡ written_over out₀ (answer_words (answer_to m e))

-- After the events: the drive, the lent words, and the words of the answers at the front of a slice.
pub record Gone (d : Drive) (events : List Event) (sectors₀ staging₀ out₀ : List ℕ) (r : Drive) (sectors₁ staging₁ out₁ : List ℕ) : Type 0 where
  pub end : machine r sectors₁ staging₁ ≡ final (machine d sectors₀ staging₀) events
  pub out : out₁ ≡ written_over out₀ (words_of_answers (answers (machine d sectors₀ staging₀) events))
