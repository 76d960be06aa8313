-- The journal of completed writes, "read off the set-up, the events and the answers alone": it never sees the drive.
use Rattle.std.specs.Prelude.{ℕ, ◌≡◌, true, List, [], ◌∷◌, ◌++◌, eqb, length}
use Rattle.std.proofs.Math.Option.{Option, some, none}
use Rattle.laws.specs.Pick.{pick}
use Rattle.parts.specs.Setup.{sector_start, is_place}
use Rattle.parts.specs.Control.{control_of, is_write, words_to_come}
use Rattle.drive.specs.Answer.{Paper, paper, normal}
use Rattle.parts.specs.Kind.{kind_of, word_of}
use Rattle.parts.specs.declared.kind.Kind.{Kind}
use Rattle.parts.specs.declared.kind.Kind.TheVariants.{Select, Deselect, Use, Reset, Unknown}
use Rattle.parts.specs.declared.kind.Work.TheVariants.{DataControl, WordFromHost, TakeWord, End, Position, Target, ReadStatus}
use Rattle.drive.specs.Accepted.{is_refused}
use Rattle.drive.specs.Frame.{word_written}
use Rattle.parts.specs.declared.setup.Setup.{Setup}
use Rattle.parts.specs.declared.setup.Place.{Place}
use Rattle.parts.specs.declared.event.Event.{Event}
use Rattle.drive.specs.declared.answer.Answer.{Answer}

-- A write: its control, its place, and its words so far.
pub record Write : Type 0 where
  pub control : ℕ
  pub place : Place
  pub words : List ℕ

abbrev pub with_word : Write → ℕ → Write
with_word write word = record { control = write.control; place = write.place; words = write.words ++ (word ∷ []) }

-- What stands in the journal after an event: the write that is going on, if one is, and what the event completed.
pub record Page : Type 0 where
  pub going : Option Write
  pub complete : List Write

abbrev pub page : Option Write → List Write → Page
page going complete = record { going = going; complete = complete }

-- "The answer that opens a transfer tells the number of words to come and the place." A write begins if the control is one.
abbrev pub begun : ℕ → Option Place → Option Write → Page
begun c none going = page going []
begun c (some place) going = page (pick (is_write (control_of c)) (some (record { control = c; place = place; words = [] })) none) []

-- A word that carries no status is one more of the write; a status ends the write, and 0 completes it.
abbrev pub grown : ℕ → Option ℕ → Option Write → Page
grown word status none = page none []
grown word none (some write) = page (some (with_word write word)) []
grown word (some status) (some write) = page none (pick (eqb status normal) (with_word write word ∷ []) [])

-- An accepted event with its answer: a selection, a deselection, End and reset end a write without completing it.
abbrev pub noted : Kind → Event → Paper → Option Write → Page
noted Select e told going = page none []
noted Deselect e told going = page none []
noted Reset e told going = page none []
noted (Use DataControl) e told going = begun e.a0 told.place going
noted (Use WordFromHost) e told going = grown (word_of e) told.status going
noted (Use End) e told going = page none []
noted (Use TakeWord) e told going = page going []
noted (Use Position) e told going = page going []
noted (Use Target) e told going = page going []
noted (Use ReadStatus) e told going = page going []
noted Unknown e told going = page going []

-- The page after any event and its answer. "A refusal .. changes nothing."
unfoldable pub page_after : Event → Answer → Option Write → Page
page_after e answer going = pick (is_refused answer) (page going []) (noted (kind_of e.kind) e (paper answer) going)

-- What a run completes, in order, with this write going on at its start.
unfoldable pub journal_from : Option Write → List Event → List Answer → List Write
journal_from going [] told = []
journal_from going (e ∷ events) [] = []
journal_from going (e ∷ events) (answer ∷ told) = (page_after e answer going).complete ++ journal_from (page_after e answer going).going events told

-- From power-up no write is going on.
abbrev pub journal : List Event → List Answer → List Write
journal events told = journal_from none events told

-- "the last completed write that covered it .. or else its power-up word"
unfoldable pub last_write : Setup → List Write → ℕ → ℕ → ℕ
last_write s [] address power_up = power_up
last_write s (write ∷ later) address power_up =
    last_write s later address (word_written s write.control (sector_start s write.place) write.words address power_up)

-- ---- a completed write is whole

-- A write control, a place in the drive, and exactly "the number of words to come".
pub record Whole (s : Setup) (write : Write) : Type 0 where
  pub control : is_write (control_of write.control) ≡ true
  pub place : is_place s write.place ≡ true
  pub words : length write.words ≡ words_to_come s write.control

abbrev pub AllWhole : Setup → List Write → Type 0
AllWhole s [] = Unit
AllWhole s (write ∷ later) = Whole s write × AllWhole s later
