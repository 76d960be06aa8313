-- What the code that reads status tells and leaves, and that Load Position does what Position and Target do: each event's outcome, one behind the other.
-- Assumes nothing.
use Prim.Native.Nat.{ℕ, zero, suc, ◌+◌, ◌/◌, ◌%◌, ◌<◌}
use mathlib.Core.Path.{◌≡◌, refl, sym, ap, ◌∙◌}
use mathlib.Core.Bool.{true}
use mathlib.Core.List.{[], ◌∷◌}
use native.Mathlib.Nat.{zero-add, div-add-mod'}
use native.Mathlib.Numerals.{add-one}
use native.Mathlib.Omega.{arith}
use borrow.Author.Tests.{eq-eqb, ne_eqb}
use lib.ListN.{get_or}
use Rattle.laws.specs.Pick.{pick}
use Rattle.status.specs.declared.drive_status.DriveStatus.TheVariants.{Normal}
use Rattle.parts.specs.Setup.{is_place, is_target}
use Rattle.parts.specs.Command.{load_position, read_status, code_of, parameter_words}
use Rattle.parts.specs.Control.{control_of, words_to_come}
use Rattle.parts.specs.Kind.{kind_of}
use Rattle.parts.specs.declared.kind.Work.TheVariants.{DataControl, WordFromHost, TakeWord, Target, ReadStatus}
use Rattle.parts.specs.Pending.{nothing_pending}
use Rattle.parts.specs.Tests.{parameters, no_parameters, transferring_with}
use Rattle.parts.specs.declared.setup.Place.{Place}
use Rattle.parts.specs.declared.pending.Pending.{Pending}
use Rattle.parts.specs.declared.transfer.Parameters.{Parameters}
use Rattle.drive.specs.State.{at_place, with_place, with_target, with_transfer, pending_on, posted_on, told}
use Rattle.drive.specs.Drive.{closed}
use Rattle.drive.specs.Request.{octet2_cleared, opened, data_control, targeted, status_read}
use Rattle.drive.specs.Command.{kept_as, cylinder_of, place_sought, target_sought, seeking, obeyed, parameter_sent, status_told, words_told, status_cleared, response_taken, word_from_host, word_to_host}
use Rattle.drive.specs.Run.{Machine, after, final}
use Rattle.drive.specs.StaysSound.{IsSound}
use Rattle.drive.specs.Calls.{Ran}
use Rattle.drive.specs.NeverDead.{sent, word_sent, position_sent}
use Rattle.drive.specs.Commands.{Idle, takes_sent, status_asked, taken, StatusBy44, position_sent_by07, PositionBy07, Commands}
use Rattle.drive.specs.Ignored.{cleared_on}
use Rattle.drive.specs.declared.answer.Answer.TheVariants.{Done, Status, Opened, Word, LastWord}
use Rattle.drive.proofs.Cleared.{nothing_to_clear, nothing_left_lem}
use Rattle.drive.proofs.NeverDead.{Does, follows, nothing_follows, work_does, quietly, with_drive, position_does}
use Rattle.drive.proofs.Commands.{holds_by_command, commands_keep_out, command_cut_short}

-- this code is open, with so many words moved and kept
abbrev within : Machine → ℕ → ℕ → Parameters → Machine
within m c moved kept = with_drive m (with_transfer m.drive (transferring_with c moved kept))

module _ (m : Machine) (port : ℕ) (q : Idle m port) where
  -- ---- `status_by_44`

  abbrev responding : ℕ → Machine
  responding moved = within m read_status moved no_parameters

  status_opens : Does m (sent port 3 read_status 0) (quietly m (told (Opened 4 m.drive.place) (responding 0).drive))
  unfolding kind_of data_control opened words_to_come parameter_words pick
  status_opens = work_does DataControl q.sound q.real refl refl q.mine q.idle refl

  status_tells : (moved : ℕ) → moved + 1 < 4 → IsSound (responding moved)
      → Does (responding moved) (sent port 5 0 0) (quietly m (told (Word (get_or (status_told (pending_on m.drive port)) moved 0)) (responding (suc moved)).drive))
  unfolding kind_of control_of code_of word_to_host response_taken words_to_come parameter_words words_told pending_on pick
  status_tells moved h s = work_does TakeWord s q.real refl refl q.mine refl (rw (ne_eqb (moved + 1) 4 (λ z. omega arith), add-one moved))

  status_clears : IsSound (responding 3)
      → Does (responding 3) (sent port 5 0 0) (quietly m (told (LastWord 0) (closed (posted_on m.drive port nothing_pending))))
  unfolding kind_of control_of code_of word_to_host response_taken words_to_come parameter_words words_told status_cleared closed posted_on pick
  status_clears s = work_does TakeWord s q.real refl refl q.mine refl refl

  status_run : Ran m (status_asked port 4) (Opened 4 m.drive.place ∷ taken (status_told (pending_on m.drive port)))
      (with_drive m (closed (posted_on m.drive port nothing_pending)))
  status_run =
      let first = status_tells 0 (omega arith) status_opens.sound in
      let second = status_tells 1 (omega arith) first.sound in
      let third = status_tells 2 (omega arith) second.sound in
      follows status_opens (follows first (follows second (follows third (follows (status_clears third.sound) nothing_follows))))

  words_taken : (moved count end : ℕ) → moved + count ≡ end → end < 4 → IsSound (responding moved)
      → (final (responding moved) (takes_sent port count)).drive ≡ (responding end).drive
  unfolding final
  words_taken moved zero end z h s = ap (λ (n : ℕ). (responding n).drive) (omega arith)
  words_taken moved (suc count) end z h s =
      let now = status_tells moved (omega arith) s in
      ap (λ (x : Machine). (final x (takes_sent port count)).drive) now.next ∙ words_taken (suc moved) count end (omega arith) h now.sound

  status_read_lem : (after m (sent port 9 0 0)).drive ≡ posted_on m.drive port nothing_pending
  unfolding kind_of status_read pick
  status_read_lem = ap (λ (x : Machine). x.drive) (work_does ReadStatus q.sound q.real refl refl q.mine q.idle refl).next

  status_by_44 : StatusBy44 m port
  unfolding final
  status_by_44 =
      record {
        told = sym status_run.answered;
        before = λ count h.
            ap (λ (x : Machine). (final x (takes_sent port count)).drive) status_opens.next ∙ words_taken 0 count count (omega arith) h status_opens.sound;
        afterwards = rw (← status_run.ended, status_read_lem);
      }

  -- ---- `position_by_07`

  module _ (quiet : (pending_on m.drive port).octet1 ≡ 0) where
    -- what the three find
    abbrev heard : Machine
    heard = cleared_on m port

    position_opens : Does m (sent port 3 load_position 0) (quietly m (told (Opened 4 m.drive.place) (within heard load_position 0 no_parameters).drive))
    unfolding kind_of data_control control_of code_of opened words_to_come parameter_words octet2_cleared posted_on pick
    position_opens = work_does DataControl q.sound q.real refl refl q.mine q.idle (rw (eq-eqb (pending_on m.drive port).octet1 0 quiet))

    position_keeps : (moved : ℕ) (kept : Parameters) (word : ℕ) → moved + 1 < 4 → IsSound (within heard load_position moved kept)
        → Does (within heard load_position moved kept) (word_sent port word) (quietly m (told Done (within heard load_position (suc moved) (kept_as kept moved word)).drive))
    unfolding kind_of control_of code_of word_from_host parameter_sent words_to_come parameter_words octet2_cleared posted_on pick
    position_keeps moved kept word h s =
        work_does WordFromHost s q.real refl refl q.mine refl (rw (div-add-mod' word 256, ne_eqb (moved + 1) 4 (λ z. omega arith), add-one moved))

    module _ (p : Place) (target : ℕ) (inside : is_place m.drive.setup p ≡ true) (sector : p.sector ≡ m.drive.place.sector)
        (aimed : is_target m.drive.setup target ≡ true) where
      there : at_place (cylinder_of 0 p.cylinder) p.head m.drive.place.sector ≡ p
      there = rw (zero-add p.cylinder, ← sector)

      position_obeys : IsSound (within heard load_position 3 (parameters 0 p.cylinder p.head))
          → Does (within heard load_position 3 (parameters 0 p.cylinder p.head)) (word_sent port target)
          (quietly m (told (Status Normal) (closed (with_target (with_place heard.drive p) target))))
      unfolding kind_of control_of code_of word_from_host parameter_sent obeyed seeking place_sought target_sought closed words_to_come parameter_words octet2_cleared posted_on pick
      position_obeys s = work_does WordFromHost s q.real refl refl q.mine refl (rw (div-add-mod' target 256, there, inside, aimed))

      position_run : Ran m (position_sent_by07 port p target) (Opened 4 m.drive.place ∷ Done ∷ Done ∷ Done ∷ Status Normal ∷ [])
          (with_drive m (closed (with_target (with_place heard.drive p) target)))
      unfolding kept_as pick
      position_run =
          let first = position_keeps 0 no_parameters 0 (omega arith) position_opens.sound in
          let second = position_keeps 1 no_parameters p.cylinder (omega arith) first.sound in
          let third = position_keeps 2 (parameters 0 p.cylinder 0) p.head (omega arith) second.sound in
          follows position_opens (follows first (follows second (follows third (follows (position_obeys third.sound) nothing_follows))))

      -- Position, and then Target, which finds octet 2 cleared
      placed : Does m (position_sent port p) (quietly m (told (Status Normal) (with_place heard.drive p)))
      placed = position_does q.real q.sound (record { selected = q.mine; idle = q.idle; quiet = quiet }) p inside

      none_pending : pending_on (with_place heard.drive p) port ≡ nothing_pending
      unfolding pending_on
      none_pending = nothing_left_lem m.drive port quiet

      still_aimed : is_target heard.drive.setup target ≡ true
      unfolding octet2_cleared posted_on
      still_aimed = aimed

      aim_told : targeted (with_place heard.drive p) port target ≡ told (Status Normal) (with_target (with_place heard.drive p) target)
      unfolding targeted pick
      aim_told =
          rw (
            eq-eqb (pending_on (with_place heard.drive p) port).octet1 0 (ap (λ (x : Pending). x.octet1) none_pending),
            nothing_to_clear (with_place heard.drive p) port (ap (λ (x : Pending). x.octet2) none_pending),
            still_aimed,
          )

      aims : Does (with_drive m (with_place heard.drive p)) (sent port 8 (target / 256) (target % 256))
          (quietly m (told (Status Normal) (with_target (with_place heard.drive p) target)))
      unfolding kind_of octet2_cleared posted_on pick
      aims = work_does Target placed.sound q.real refl refl q.mine q.idle (rw (div-add-mod' target 256) (ap (quietly m) aim_told))

      position_by_07 : PositionBy07 m port p target
      position_by_07 =
          record { told = sym position_run.answered; same = rw (← position_run.ended, ← (follows placed (follows aims nothing_follows)).ended) }

pub commands : Commands
commands =
    record {
      holds_by_command = holds_by_command;
      commands_keep_out = commands_keep_out;
      command_cut_short = command_cut_short;
      status_by_44 = status_by_44;
      position_by_07 = λ m port p target q quiet. position_by_07 m port q quiet p target;
    }
