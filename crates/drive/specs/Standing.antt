-- Where the drive stands and what is open, read off the set-up, the events and the answers alone: it never sees the drive.
use Rattle.std.specs.Prelude.{ℕ, ◌+◌, ◌≡◌, Bool, true, false, List, [], ◌∷◌, eqb}
use Rattle.std.proofs.Math.Option.{Option, some, none}
use Rattle.laws.specs.Pick.{pick}
use Rattle.parts.specs.Setup.{no_target, following, is_place}
use Rattle.parts.specs.Command.{load_drive_function, function_in}
use Rattle.parts.specs.Control.{control_of, is_data, is_at_target, words_to_come}
use Rattle.parts.specs.Tests.{transferring, moved_on, no_transfer}
use Rattle.parts.specs.Kind.{kind_of, word_of, place_of}
use Rattle.parts.specs.declared.kind.Kind.{Kind}
use Rattle.parts.specs.declared.kind.Kind.TheVariants.{Select, Deselect, Use, Reset, Unknown}
use Rattle.parts.specs.declared.kind.Work.TheVariants.{DataControl, WordFromHost, TakeWord, End, Position, Target, ReadStatus}
use Rattle.parts.specs.declared.control.Control.{Control}
use Rattle.parts.specs.declared.control.Control.TheVariants.{Write, Read, Command, Response, StepHead, Reserved, Unsupported, Invalid}
use Rattle.parts.specs.declared.command.Function.{Function}
use Rattle.parts.specs.declared.command.Function.TheVariants.{PriorityReserve, Reserve, Release, NoOperation, Recalibrate, ActsOnMore, NotListed}
use Rattle.parts.specs.declared.transfer.Transfer.{Transfer}
use Rattle.parts.specs.declared.setup.Setup.{Setup}
use Rattle.parts.specs.declared.setup.Place.{Place}
use Rattle.parts.specs.declared.event.Event.{Event}
use Rattle.drive.specs.State.{at_place}
use Rattle.drive.specs.Answer.{Paper, paper, normal}
use Rattle.drive.specs.Command.{with_parameter, on_cylinder0, place_sought, target_sought}
use Rattle.drive.specs.Accepted.{is_refused}
use Rattle.drive.specs.Along.{Saying}
use Rattle.drive.specs.declared.answer.Answer.{Answer}

pub record Standing : Type 0 where
  pub place : Place
  pub target : ℕ
  pub transfer : Transfer

abbrev pub standing : Place → ℕ → Transfer → Standing
standing place target transfer = record { place = place; target = target; transfer = transfer }

abbrev pub with_transfer : Standing → Transfer → Standing
with_transfer w transfer = standing w.place w.target transfer

-- "position 0/0/0, target FFFF hex", at power-up and after a reset.
abbrev pub at_start : Standing
at_start = standing (at_place 0 0 0) no_target no_transfer

-- "the sector becomes the next, 0 after the last"
abbrev pub on_next_sector : Setup → Standing → Standing
on_next_sector s w = standing (at_place w.place.cylinder w.place.head (following w.place.sector s.sectors)) w.target no_transfer

-- "Step Head (head plus one, 0 after the last; sector unchanged)"
abbrev pub on_next_head : Setup → Standing → Standing
on_next_head s w = standing (at_place w.place.cylinder (following w.place.head s.heads) w.place.sector) w.target w.transfer

-- "The sector is the position's, or the target's for "at target", which becomes the position."
abbrev pub sought : ℕ → Standing → Standing
sought c w = pick (is_at_target c) (standing (at_place w.place.cylinder w.place.head w.target) w.target w.transfer) w

abbrev pub is_normal : Option ℕ → Bool
is_normal none = false
is_normal (some status) = eqb status normal

-- A data control that was answered with 0 alone: Step Head, or "No words to come: it ends at once".
abbrev pub at_once : Control → Setup → ℕ → Standing → Standing
at_once StepHead s c w = on_next_head s w
at_once Write s c w = on_next_sector s (sought c w)
at_once Read s c w = on_next_sector s (sought c w)
at_once Command s c w = w
at_once Response s c w = w
at_once Reserved s c w = w
at_once Unsupported s c w = w
at_once Invalid s c w = w

abbrev pub by_control : Option Place → Option ℕ → Setup → ℕ → Standing → Standing
by_control (some place) status s c w = with_transfer (sought c w) (transferring c 0)
by_control none status s c w = pick (is_normal status) (at_once (control_of c) s c w) w

-- A transfer ends: "the sector becomes the next", but "a command's end doesn't make the sector the next".
abbrev pub finished : Setup → Standing → Standing
finished s w = pick (is_data w.transfer.control) (on_next_sector s w) (with_transfer w no_transfer)

-- What a good command asked for: a function, of which Recalibrate moves the cylinder to 0, or a place and a target.
abbrev pub recalibrated : Function → Place → Place
recalibrated Recalibrate p = on_cylinder0 p
recalibrated PriorityReserve p = p
recalibrated Reserve p = p
recalibrated Release p = p
recalibrated NoOperation p = p
recalibrated ActsOnMore p = p
recalibrated NotListed p = p

abbrev pub commanded : ℕ → Standing → Standing
commanded word w =
    pick (eqb w.transfer.control load_drive_function) (standing (recalibrated (function_in word) w.place) w.target no_transfer)
    (standing (place_sought w.transfer w.place word) (target_sought w.transfer w.target word) no_transfer)

-- A word from the host: one before the last carries no status.
abbrev pub by_word : Option ℕ → Setup → ℕ → Standing → Standing
by_word none s word w =
    with_transfer w (pick (is_data w.transfer.control) (moved_on w.transfer (w.transfer.moved + 1)) (with_parameter w.transfer word))
by_word (some status) s word w = pick (is_data w.transfer.control) (on_next_sector s w) (pick (eqb status normal) (commanded word w) (with_transfer w no_transfer))

-- A word to the host.
abbrev pub by_take : Option ℕ → Setup → Standing → Standing
by_take none s w = with_transfer w (moved_on w.transfer (w.transfer.moved + 1))
by_take (some status) s w = finished s w

-- An accepted event with its answer. "Takeover leaves the position."
abbrev pub stands : Kind → Setup → Event → Paper → Standing → Standing
stands Select s e told w = with_transfer w no_transfer
stands Deselect s e told w = w
stands Reset s e told w = at_start
stands (Use DataControl) s e told w = by_control told.place told.status s e.a0 w
stands (Use WordFromHost) s e told w = by_word told.status s (word_of e) w
stands (Use TakeWord) s e told w = by_take told.status s w
stands (Use End) s e told w = finished s w
stands (Use Position) s e told w = pick (is_normal told.status) (standing (place_of e) w.target w.transfer) w
stands (Use Target) s e told w = pick (is_normal told.status) (standing w.place (word_of e) w.transfer) w
stands (Use ReadStatus) s e told w = w
stands Unknown s e told w = w

-- "A refusal .. changes nothing."
unfoldable pub stands_after : Setup → Event → Answer → Standing → Standing
stands_after s e answer w = pick (is_refused answer) w (stands (kind_of e.kind) s e (paper answer) w)

unfoldable pub standing_from : Setup → Standing → List Event → List Answer → Standing
standing_from s w [] told = w
standing_from s w (e ∷ events) [] = w
standing_from s w (e ∷ events) (answer ∷ told) = standing_from s (stands_after s e answer w) events told

-- "The answer that opens a transfer tells the number of words to come and the place": neither is made up.
pub record OpeningTold (s : Setup) (c : ℕ) (from : Standing) (told : Paper) (place : Place) : Type 0 where
  pub follows : place ≡ (sought c from).place
  pub inside : is_place s place ≡ true
  pub count : told.word_count ≡ some (words_to_come s c)

abbrev pub OpeningFollows : Setup → Saying
OpeningFollows s before told e answer =
    (place : Place) → (paper answer).place ≡ some place → OpeningTold s e.a0 (standing_from s at_start before told) (paper answer) place
