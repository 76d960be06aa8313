-- Wrong answers of the public calls: what a careless programmer would get, and no promise allows. `pg_power_up`, `pg_event` and `pg_run` promise what
-- the calls of `events` do, so that the wrong answers of those are wrong here too.
use Rattle.std.specs.Prelude.{ℕ, List, [], ◌∷◌, ◌++◌, replicate, set}
use Rattle.laws.specs.Octets.{octets_of}
use Rattle.refusals.specs.declared.refusal.Refusal.TheVariants.{SliceTooShort}
use Rattle.status.specs.declared.drive_status.DriveStatus.TheVariants.{Normal}
use Rattle.parts.specs.Tests.{parameters, no_parameters, transferring_with}
use Rattle.parts.specs.declared.holding.Hold.TheVariants.{None}
use Rattle.parts.specs.declared.transfer.Parameters.{Parameters}
use Rattle.capture.specs.Encoding.{capture_octets}
use Rattle.capture.specs.Cases.{three_events, its_trailer}
use Rattle.drive.specs.Power.{at_rest, setup_of}
use Rattle.drive.specs.AnswerWords.{answer_words}
use Rattle.drive.specs.Cases.{bench}
use Rattle.drive.specs.State.{at_place, with_transfer}
use Rattle.drive.specs.WrongAnswers.{selected_by}
use Rattle.drive.specs.declared.drive.Drive.{Drive}
use Rattle.drive.specs.declared.answer.Answer.TheVariants.{Refused, Done, Status, Opened}
use Rattle.events.specs.State.{state_words}
use Rattle.events.specs.Power.{PoweredUpOnWords}
use Rattle.events.specs.Event.{event_of_octets, EventOnWords}
use Rattle.events.specs.Run.{RunOnWords}
use Rattle.events.specs.WrongAnswers.{sector, zeros, disk, selection}
use Rattle.lines.specs.Reading.{Read, step_by_step}
use Rattle.lines.specs.Turns.{read_plainly}
use Rattle.lines.specs.declared.follower.Follower.{Follower}
use Rattle.defects.specs.Cases.{narrow, small, no_defects, copy_three, behind_the_last_cylinder, order_broken}
use Rattle.defects.specs.WrongAnswers.{lent, its_octets, crc_of_one_less, blank, on_the_last_track, on_the_first_track}
use Rattle.pantoglide.specs.Capture.{CaptureFound, CaptureMade}
use Rattle.pantoglide.specs.Defects.{DefectTold, DefectMade, PlaceTold, MapTold, MapMade, MapReadOff, MapPut}
use Rattle.pantoglide.specs.Line.{LineFollowed}
use Rattle.pantoglide.specs.Lines.{LinesRead}
use Rattle.pantoglide.specs.Replay.{ReplayOnWords}

-- The words of the bench drive at rest.
abbrev rest : List ℕ
rest = state_words (at_rest bench)

-- Port 0 is selected, and so many words of Load Position are sent.
abbrev commanding : ℕ → Parameters → Drive
commanding moved kept = with_transfer (selected_by 0 None) (transferring_with 0x07 moved kept)

-- Port 0 selects, reserves and deselects.
abbrev reservation : List ℕ
reservation =
    selection 0
    ++ (0 ∷ 0 ∷ 0 ∷ 3 ∷ 0x01 ∷ 0 ∷ 0 ∷ 0 ∷ [])
    ++ (0 ∷ 0 ∷ 0 ∷ 4 ∷ 0x14 ∷ 0x14 ∷ 0 ∷ 0 ∷ [])
    ++ (0 ∷ 0 ∷ 0 ∷ 2 ∷ 0 ∷ 0 ∷ 0 ∷ 0 ∷ [])

-- Of `pg_lines` and `pg_lines_plain`, by whatever they read.
pub record WrongLines (read : Follower → List ℕ → Read) : Type 0 where
  -- The octet of no follower is read and written back: bit 7 is gone.
  pub no_follower_written_back : LinesRead read (0x80 ∷ []) (16 ∷ []) (0 ∷ []) 0 (0 ∷ []) (11 ∷ []) → ⊥
  -- Two settings are read into room for one.
  pub read_as_far_as_there_is_room : LinesRead read (0 ∷ []) (16 ∷ 24 ∷ []) (0 ∷ []) 0 (0x30 ∷ []) (17 ∷ []) → ⊥
  -- A setting over 31 is refused, as by `pg_line`.
  pub trace_refused : LinesRead read (0 ∷ []) (32 ∷ 16 ∷ []) (0 ∷ 0 ∷ []) 8 (0 ∷ []) (0 ∷ 0 ∷ []) → ⊥

pub record WrongAnswers : Type 0 where
  -- ---- `pg_power_up`
  -- Cylinders and heads changed over.
  pub cylinders_for_heads : PoweredUpOnWords (setup_of 1 2 3 1 2 1 3) (disk zeros) zeros (replicate 21 0) 0 (state_words (at_rest (setup_of 2 1 3 1 2 1 3))) → ⊥
  -- ---- `pg_event`
  -- Port and kind changed over: the selection is an event of no kind.
  pub port_for_kind : EventOnWords rest (event_of_octets 0 1 0x30 0 0 0) (disk zeros) zeros (replicate 13 0) 8 rest (disk zeros) zeros (replicate 13 0) → ⊥
  -- A word of Load Position is staged.
  pub parameter_staged : EventOnWords (state_words (commanding 0 no_parameters)) (event_of_octets 0 4 0 1 0 0) (disk zeros) zeros (replicate 13 0)
      0 (state_words (commanding 1 (parameters 1 0 0))) (disk zeros) (sector 1 0 0 0) (answer_words Done) → ⊥
  -- ---- `pg_run`
  -- Sectors and staging changed over: every event is told 10.
  pub staging_for_sectors : RunOnWords rest (selection 0) (disk zeros) zeros (replicate 13 0) 0 rest (disk zeros) zeros (answer_words (Refused SliceTooShort)) → ⊥
  -- Reserved and deselected, the drive is free.
  pub reservation_forgotten : RunOnWords rest reservation (disk zeros) zeros (replicate 52 0)
      0 rest (disk zeros) zeros (answer_words Done ++ answer_words (Opened 1 (at_place 0 0 0)) ++ answer_words (Status Normal) ++ answer_words Done) → ⊥
  -- ---- `pg_replay`
  -- `from` and `limit` changed over: nothing is run.
  pub limit_for_from : ReplayOnWords rest (selection 0 ++ selection 1) 0 1 (disk zeros) zeros (replicate 13 0) (0 ∷ []) (7 ∷ [])
      0 rest (disk zeros) zeros (replicate 13 0) (0 ∷ []) (0 ∷ []) → ⊥
  -- How many were run is not told.
  pub number_forgotten : (state answers gaps : List ℕ) → ReplayOnWords rest (selection 0) 0 1 (disk zeros) zeros (replicate 13 0) (0 ∷ []) (7 ∷ [])
      0 state (disk zeros) zeros answers gaps (7 ∷ []) → ⊥
  -- A call without room for the number is taken.
  pub taken_without_the_number : (state answers gaps : List ℕ) → ReplayOnWords rest (selection 0) 0 1 (disk zeros) zeros (replicate 13 0) (0 ∷ []) []
      0 state (disk zeros) zeros answers gaps [] → ⊥
  -- ---- `pg_line`
  -- 18, the drive's, for the controller's move from IDLE to SELECT.
  pub drives_for_controllers : LineFollowed (0 ∷ []) 16 18 (0x30 ∷ []) → ⊥
  -- An octet with bit 7 set is taken.
  pub bit7_taken : LineFollowed (0x80 ∷ []) 16 17 (0x30 ∷ []) → ⊥
  -- The history is forgotten: the next move to IDLE would be undefined.
  pub history_forgotten : LineFollowed (0 ∷ []) 16 17 (0x10 ∷ []) → ⊥
  -- ---- `pg_lines`, `pg_lines_plain`
  pub lines_by_the_table : WrongLines step_by_step
  pub lines_plainly : WrongLines read_plainly
  -- ---- `pg_capture`
  -- The first record of document 01's own capture is taken for notes.
  pub first_record_for_notes : CaptureFound (three_events ++ its_trailer) 0 0 0 8 2 → ⊥
  -- A refused capture is said to have no record.
  pub refused_yet_counted : CaptureFound [] 7 7 12 7 0 → ⊥
  -- ---- `pg_make_capture`
  -- Torn records are taken, and the trailer counts them.
  pub torn_records_taken : CaptureMade [] (replicate 7 0) (replicate 15 0) 0 0 (capture_octets [] (replicate 7 0)) 15 → ⊥
  -- The size leaves the trailer out.
  pub trailer_not_counted : CaptureMade [] three_events (replicate 32 0) 0 0 (three_events ++ its_trailer) 24 → ⊥
  -- ---- `pg_decode_defect`
  -- The head stays as it was.
  pub head_forgotten : DefectTold its_octets 7 7 7 7 0 1 7 300 5 → ⊥
  -- A refused call puts the cylinder to 0.
  pub refused_yet_written : DefectTold [] 7 7 7 7 10 0 7 7 7 → ⊥
  -- ---- `pg_encode_defect`
  -- Offset and length changed over.
  pub length_for_offset : DefectMade 1 1 300 5 (lent 12) 0 (octets_of 12 0x00000001000100000005012c) → ⊥
  -- Twelve octets are said to be too few.
  pub twelve_too_few : DefectMade 1 1 300 5 (lent 12) 10 (lent 12) → ⊥
  -- ---- `pg_map_place`
  -- The first track for the last.
  pub first_track_for_last : PlaceTold narrow 0 7 7 7 0 1 0 0 → ⊥
  -- Heads and sectors changed over: data field 2 is the last sector of its track, and not the first of the next.
  pub sectors_for_heads : PlaceTold narrow 2 7 7 7 0 1 1 0 → ⊥
  -- ---- `pg_decode_map`
  -- The second set lies below the first with bit 3 clear, and is taken.
  pub order_broken_taken : (defects : List ℕ) → MapTold small order_broken (lent 56) 7 7 7 7 0 defects 2 1 0 7 → ⊥
  -- A CRC of one octet less is taken.
  pub crc_of_one_less_taken : (defects : List ℕ) → MapTold narrow crc_of_one_less (lent 16) 7 7 7 7 0 defects 0 1 0 7 → ⊥
  -- A defect on cylinder 2 of 2 is taken.
  pub cylinder_behind_the_last_taken : (defects : List ℕ) → MapTold small behind_the_last_cylinder (lent 28) 7 7 7 7 0 defects 1 1 0 7 → ⊥
  -- Where the offence lies is not told.
  pub offset_forgotten : MapTold narrow copy_three (lent 16) 7 7 7 7 20 (lent 16) 7 7 7 7 → ⊥
  -- A map that is taken puts the offset to 0.
  pub offset_cleared : MapTold narrow no_defects (lent 16) 7 7 7 7 0 (lent 16) 0 1 0 0 → ⊥
  -- ---- `pg_encode_map`
  -- The size is that of one data field.
  pub one_copy_counted : MapMade narrow 1 0 [] (lent 48) 7 0 no_defects 16 → ⊥
  -- Cylinder and head of the storage track changed over.
  pub storage_changed_over : MapMade narrow 0 1 [] (lent 48) 7 0 no_defects 48 → ⊥
  -- ---- `pg_read_map`
  -- The first track for the last: the map there is taken, though the last track is blank.
  pub first_track_read : (defects : List ℕ) → MapReadOff narrow on_the_first_track (lent 32) 7 7 7 7 0 defects 0 1 0 7 → ⊥
  -- What stands behind the map is an offence.
  pub rest_of_the_cylinder_judged : (defects : List ℕ) → MapReadOff narrow on_the_last_track (lent 32) 7 7 7 7 28 defects 7 7 7 48 → ⊥
  -- ---- `pg_write_map`
  -- The header word of the last track's first sector is written over.
  pub header_written_over : MapPut narrow 1 0 [] blank 0 (set on_the_last_track 81 0x000E) → ⊥
  -- The map is put on the first track.
  pub first_track_written : MapPut narrow 1 0 [] blank 0 on_the_first_track → ⊥
