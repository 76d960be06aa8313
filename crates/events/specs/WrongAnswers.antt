-- Wrong answers of the public calls: what a careless programmer would get, and no promise allows.
use Rattle.std.specs.Prelude.{ℕ, ◌*◌, List, [], ◌∷◌, ◌++◌, take, drop, replicate, Ok, slice_set}
use Rattle.laws.specs.Octets.{octets_of}
use Rattle.refusals.specs.declared.refusal.Refusal.TheVariants.{NotOurAddress, Busy, TransferOpenOrNot}
use Rattle.status.specs.declared.drive_status.DriveStatus.TheVariants.{Normal, OperationException, UnsolicitedException}
use Rattle.parts.specs.Pending.{alternate_port_priority_select, pending_of, nothing_pending}
use Rattle.parts.specs.Tests.{transferring}
use Rattle.parts.specs.declared.setup.Setup.{Setup}
use Rattle.parts.specs.declared.event.Event.{Event}
use Rattle.parts.specs.declared.holding.Hold.TheVariants.{None, Strong}
use Rattle.drive.specs.State.{at_place, with_place, with_target, with_transfer, with_pending, told}
use Rattle.drive.specs.Power.{at_rest, setup_of}
use Rattle.drive.specs.Event.{Handled}
use Rattle.drive.specs.AnswerWords.{answer_words}
use Rattle.drive.specs.Cases.{bench}
use Rattle.drive.specs.NeverDead.{sent, word_sent}
use Rattle.drive.specs.WrongAnswers.{selected_by}
use Rattle.drive.specs.declared.drive.Drive.{Drive}
use Rattle.drive.specs.declared.answer.Answer.{Answer}
use Rattle.drive.specs.declared.answer.Answer.TheVariants.{Refused, Done, Status, Opened, Word}
use Rattle.events.specs.State.{state_words}
use Rattle.events.specs.Power.{PoweredUpOnWords}
use Rattle.events.specs.Event.{EventOnWords}
use Rattle.events.specs.Run.{RunOnWords}
use Rattle.events.specs.Stops.{Lending, PartCall}

-- A sector's words: header, field 1 and field 2 of the bench drive.
abbrev pub sector : ℕ → ℕ → ℕ → ℕ → List ℕ
sector header first second field2 = header ∷ first ∷ second ∷ field2 ∷ []

abbrev pub zeros : List ℕ
zeros = sector 0 0 0 0

-- All its sector words: these in the first sector, zeros elsewhere.
abbrev pub disk : List ℕ → List ℕ
disk first = first ++ replicate 44 0

-- The record of a selection with octet 30.
abbrev pub selection : ℕ → List ℕ
selection port = 0 ∷ 0 ∷ port ∷ 1 ∷ 0x30 ∷ 0 ∷ 0 ∷ 0 ∷ []

-- Port 0 is selected, and so many words of a transfer have passed.
abbrev moving : ℕ → ℕ → Drive
moving control moved = with_transfer (selected_by 0 None) (transferring control moved)

-- Port 0 is selected, and this stands in octet 2 of port 0 and of port 1.
abbrev faulty : ℕ → ℕ → Drive
faulty first second = with_pending (selected_by 0 None) (pending_of 0 first) (pending_of 0 second)

-- A takeover was noticed on port 0, which is selected again, and this stands in its octet 2.
abbrev warned : ℕ → Drive
warned octet2 = with_pending (selected_by 0 None) (pending_of alternate_port_priority_select octet2) nothing_pending

-- A transfer is over, at the next sector.
abbrev over : Drive
over = with_place (selected_by 0 None) (at_place 0 0 1)

-- The drive, the event, the first sector and the staging; the answer, and what is left of them.
abbrev Handles : Drive → Event → List ℕ → List ℕ → Answer → Drive → List ℕ → List ℕ → Type 0
Handles d e first staging answer d' first' staging' = Handled d e (disk first) staging (told answer d') (disk first') staging'

-- A drive with no heads: power-up refuses it with 9.
abbrev headless : Setup
headless = setup_of 2 0 3 1 2 1 3

-- The set-up and the state's words; the number, and the state's words after it.
abbrev PowersUp : Setup → List ℕ → ℕ → List ℕ → Type 0
PowersUp s state r state' = PoweredUpOnWords s (disk zeros) zeros state r state'

-- The state's words and the event; the number, and the state's and the answer's words after it.
abbrev Answers : List ℕ → Event → ℕ → List ℕ → List ℕ → Type 0
Answers state e r state' answer = EventOnWords state e (disk zeros) zeros (replicate 13 0) r state' (disk zeros) zeros answer

-- The same with no room for the answer, and nothing changed.
abbrev Unanswered : List ℕ → Event → ℕ → Type 0
Unanswered state e r = EventOnWords state e (disk zeros) zeros [] r state (disk zeros) zeros []

-- The records, and room for so many answers; the number, and the state's and the answers' words after a run from rest.
abbrev Runs : List ℕ → ℕ → ℕ → List ℕ → List ℕ → Type 0
Runs records count r state out = RunOnWords (state_words (at_rest bench)) records (disk zeros) zeros (replicate (13 * count) 0) r state (disk zeros) zeros out

-- A selection at a tick.
abbrev selection_at : ℕ → ℕ → List ℕ
selection_at tick port = octets_of 2 tick ++ drop 2 (selection port)

-- Both ports select at these ticks: port 1 is refused.
abbrev both_select : ℕ → ℕ → List ℕ
both_select first second = selection_at first 0 ++ selection_at second 1

-- What a part is lent: the words of a drive, and room for two answers and their gaps, with these words in it.
abbrev lent_with : List ℕ → List ℕ → List ℕ → Lending
lent_with state answers gaps = record { state = state; sectors = disk zeros; staging = zeros; answers = answers; gaps = gaps }

-- With a drive at rest, and zeros.
abbrev lent_at_rest : Lending
lent_at_rest = lent_with (state_words (at_rest bench)) (replicate 26 0) (replicate 2 0)

pub record WrongAnswers : Type 0 where
  -- ---- `handle`
  -- A drive that refuses all: here the selection of a free one.
  pub refuses_all : Handles (at_rest bench) (sent 0 1 0x30 0) zeros zeros (Refused Busy) (at_rest bench) zeros zeros → ⊥
  -- A drive that does nothing: it grants the selection, and nobody is selected.
  pub does_nothing : Handles (at_rest bench) (sent 0 1 0x30 0) zeros zeros Done (at_rest bench) zeros zeros → ⊥
  -- 0 for the reserved control D0.
  pub zero_for_abad_request : Handles (selected_by 0 None) (sent 0 3 0xD0 0) zeros zeros (Status Normal) (selected_by 0 None) zeros zeros → ⊥
  -- A header that differs goes through.
  pub header_not_compared : Handles (moving 0x85 0) (word_sent 0 8) (sector 7 0 0 0) zeros Done (moving 0x85 1) (sector 7 0 0 0) (sector 8 0 0 0) → ⊥
  -- A word is written as it arrives.
  pub written_as_it_arrives : Handles (moving 0x85 1) (word_sent 0 0xAA) (sector 7 0 0 0) (sector 7 0 0 0)
      Done (moving 0x85 2) (sector 7 0xAA 0 0) (sector 7 0xAA 0 0) → ⊥
  -- Field 1 is put where the sector begins.
  pub field_over_the_header : Handles (moving 0x85 2) (word_sent 0 0xBB) (sector 7 0 0 0) (sector 7 0xAA 0 0)
      (Status Normal) over (sector 0xAA 0xBB 0 0) (sector 7 0xAA 0xBB 0) → ⊥
  -- Field 2 is put where field 1 stands.
  pub field_two_over_field_one : Handles (moving 0x86 1) (word_sent 0 0xCC) (sector 7 0 0 0) (sector 7 0 0 0)
      (Status Normal) over (sector 7 0xCC 0 0) (sector 7 0xCC 0 0) → ⊥
  -- A read of field 1 begins with the header's word.
  pub read_afield_too_early : Handles (moving 0xC1 0) (sent 0 5 0 0) (sector 7 1 2 3) zeros (Word 7) (moving 0xC1 1) (sector 7 1 2 3) zeros → ⊥
  -- A good request leaves the bit of the one before.
  pub old_bit_left : Handles (faulty 0x80 0) (sent 0 8 0 1) zeros zeros (Status Normal) (with_target (faulty 0x80 0) 1) zeros zeros → ⊥
  -- A request clears the other port's octet 2 as well.
  pub other_port_cleared : Handles (faulty 0x80 0x80) (sent 0 8 0 1) zeros zeros (Status Normal) (with_target (faulty 0 0) 1) zeros zeros → ⊥
  -- A request that is answered C clears octet 2.
  pub clears_with_c : Handles (warned 0x80) (sent 0 8 0 1) zeros zeros (Status UnsolicitedException) (warned 0) zeros zeros → ⊥
  -- A request that is refused clears octet 2: a write is open.
  pub refused_yet_clears : Handles (with_transfer (faulty 0x80 0) (transferring 0x85 2)) (sent 0 8 0 1) zeros zeros
      (Refused TransferOpenOrNot) (with_transfer (faulty 0 0) (transferring 0x85 2)) zeros zeros → ⊥
  -- A bad request adds its bit to the one that was ignored.
  pub bits_add_up : Handles (faulty 0x80 0) (sent 0 8 0 3) zeros zeros (Status OperationException) (faulty 0xC0 0) zeros zeros → ⊥
  -- The code that reads status clears at its opening.
  pub cleared_unread : Handles (faulty 0x80 0) (sent 0 3 0x44 0) zeros zeros
      (Opened 4 (at_place 0 0 0)) (with_transfer (faulty 0 0) (transferring 0x44 0)) zeros zeros → ⊥
  -- A command's bad last word clears the bit that stands: it only sets its own.
  pub last_word_clears : Handles (with_transfer (faulty 0x80 0) (transferring 0x05 0)) (word_sent 0 2) zeros zeros (Status OperationException) (faulty 0x40 0) zeros zeros → ⊥
  -- ---- `power_up_words`
  -- Address and field 2 changed over.
  pub address_for_field_two : PowersUp bench (replicate 21 0) 0 (state_words (at_rest (setup_of 2 2 3 1 2 3 1))) → ⊥
  -- A state of 20 words is taken.
  pub state_of20_taken : PowersUp bench (replicate 20 0) 0 (take 20 (state_words (at_rest bench))) → ⊥
  -- 9, and the state is written all the same.
  pub refused_yet_written : PowersUp headless (replicate 21 0) 9 (state_words (at_rest headless)) → ⊥
  -- ---- `answer_event`
  -- A takeover's notice is written as that of the port that took over.
  pub notice_to_the_winner : Answers (state_words (selected_by 0 None)) (sent 1 1 0x31 0)
      0 (state_words (with_pending (selected_by 1 None) nothing_pending (pending_of alternate_port_priority_select 0))) (answer_words Done) → ⊥
  -- A state of 13 words is taken.
  pub state_of13_taken : Answers (take 13 (state_words (at_rest bench))) (sent 0 1 0x30 0) 0 (take 13 (state_words (selected_by 0 None))) (answer_words Done) → ⊥
  -- Answer words are written for a refused event.
  pub refusal_answered : Answers (state_words (at_rest bench)) (sent 0 1 0x40 0) 4 (state_words (at_rest bench)) (answer_words (Refused NotOurAddress)) → ⊥
  -- A hold of 3 is taken for a strong one: the other port is told 6.
  pub hold_of3_taken : Answers (slice_set (state_words (selected_by 0 Strong)) 9 3) (sent 1 1 0x33 0) 6 (slice_set (state_words (selected_by 0 Strong)) 9 3) (replicate 13 0) → ⊥
  -- 10 for a state that is not sound, since the answer's slice is too short: 11 is tested first.
  pub ten_before_eleven : Unanswered (slice_set (state_words (at_rest bench)) 9 3) (sent 0 1 0x30 0) 10 → ⊥
  -- 1 for port 2, where there is no room for the answer: 10 is tested first.
  pub one_before_ten : Unanswered (state_words (at_rest bench)) (sent 2 1 0x30 0) 1 → ⊥
  -- ---- `run_records`
  -- 10 for records that are not whole.
  pub ten_for_torn_records : Runs (replicate 7 0) 0 10 (state_words (at_rest bench)) [] → ⊥
  -- 8 for no record at all.
  pub eight_for_no_record : Runs [] 0 8 (state_words (at_rest bench)) [] → ⊥
  -- A record is left out.
  pub record_left_out : Runs (selection 0) 1 0 (state_words (at_rest bench)) (answer_words Done) → ⊥
  -- Answers twelve words apart.
  pub answers_twelve_apart : Runs (selection 0 ++ selection 1) 2
      0 (state_words (selected_by 0 None)) (take 12 (answer_words Done) ++ answer_words (Refused Busy) ++ (0 ∷ [])) → ⊥
  -- ---- `replay_part`
  -- A count that leaves refused events out, whatever is told of them.
  pub refused_not_counted : (left : Lending) → PartCall lent_at_rest (both_select 0 0) 0 2 (Ok 1) left → ⊥
  -- A limit taken as one more.
  pub one_more_than_the_limit : (left : Lending) → PartCall lent_at_rest (both_select 0 0) 0 1 (Ok 2) left → ⊥
  -- A part that begins one record late: port 1 is granted the drive.
  pub one_record_late : PartCall lent_at_rest (both_select 0 0) 0 1 (Ok 1) (lent_with (state_words (selected_by 1 None)) (answer_words Done ++ replicate 13 0) (0 ∷ 0 ∷ [])) → ⊥
  -- A gap of the wrong neighbour: each record has the gap to the one behind it.
  pub gap_to_the_next : PartCall lent_at_rest (both_select 5 9) 0 2 (Ok 2) (lent_with (state_words (selected_by 0 None)) (answer_words Done ++ answer_words (Refused Busy)) (4 ∷ 0 ∷ [])) → ⊥
  -- The first gap of a part is 0, though the record before it was run by an earlier call.
  pub gap_forgotten : PartCall (lent_with (state_words (selected_by 0 None)) (replicate 26 0) (replicate 2 0)) (both_select 5 9) 1 1
      (Ok 1) (lent_with (state_words (selected_by 0 None)) (answer_words (Refused Busy) ++ replicate 13 0) (0 ∷ 0 ∷ [])) → ⊥
  -- A gap that stops at zero where the ticks went round: from FFFF to 1 it is 2.
  pub gap_not_round : PartCall lent_at_rest (both_select 0xFFFF 1) 0 2 (Ok 2) (lent_with (state_words (selected_by 0 None)) (answer_words Done ++ answer_words (Refused Busy)) (0 ∷ 0 ∷ [])) → ⊥
