-- `specs/WrongAnswers` proved: each differs from the right answer, which antt computes.
-- Assumes nothing.
use mathlib.Core.Path.{◌≡◌, refl, ap}
use mathlib.Core.Bool.{true≢false, false≢true}
use Rattle.laws.specs.Pick.{pick}
use Rattle.laws.proofs.Differ.{differ, differ_at, never}
use Rattle.lines.specs.Moves.{entry_of, said_by, move_rows}
use Rattle.lines.specs.declared.moves.Move.{Move}
use Rattle.refusals.proofs.OnPaper.{value_given}
use Rattle.lines.specs.Follower.{is_reached, lacks_history, remembers, undefined_at, while_lost, moved_by, step_of}
use Rattle.lines.specs.Traces.{after, answers}
use Rattle.lines.specs.Reading.{octet_of, step_by_step}
use Rattle.lines.specs.Turns.{read_plainly}
use Rattle.lines.specs.WrongAnswers.{WrongReadings, WrongAnswers}
use Rattle.lines.specs.declared.follower.Follower.{Follower}
use Rattle.lines.proofs.Turns.{plain_is_the_table}

wrong_by_the_table : WrongReadings step_by_step
unfolding pick entry_of said_by is_reached lacks_history remembers undefined_at while_lost moved_by step_of after answers octet_of
wrong_by_the_table =
    record {
      drives_move_as_the_controllers = λ h. differ_at 0 refl h.answers;
      history_forgotten_at_a_hand_over = λ h. differ_at 2 refl h.answers;
      lost_stretch_ended_by_1 = λ h. differ_at 1 refl h.answers;
      trace_ended_by_32 = λ h. differ_at 1 refl h.answers;
      octet_behind_cleared = λ h. differ_at 1 refl h.answers;
    }

-- what no trace by the table allows, the turns do not allow either
wrong_plainly : WrongReadings read_plainly
wrong_plainly =
    record {
      drives_move_as_the_controllers = λ h. wrong_by_the_table.drives_move_as_the_controllers ((plain_is_the_table.same_call _ _).0 h);
      history_forgotten_at_a_hand_over = λ h. wrong_by_the_table.history_forgotten_at_a_hand_over ((plain_is_the_table.same_call _ _).0 h);
      lost_stretch_ended_by_1 = λ h. wrong_by_the_table.lost_stretch_ended_by_1 ((plain_is_the_table.same_call _ _).0 h);
      trace_ended_by_32 = λ h. wrong_by_the_table.trace_ended_by_32 ((plain_is_the_table.same_call _ _).0 h);
      octet_behind_cleared = λ h. wrong_by_the_table.octet_behind_cleared ((plain_is_the_table.same_call _ _).0 h);
    }

pub wrong_answers : WrongAnswers
unfolding pick entry_of said_by is_reached lacks_history undefined_at while_lost moved_by step_of octet_of
wrong_answers =
    record {
      sync_out_2 = λ h. differ refl h.answer;
      select_out_8 = λ h. differ refl h.answer;
      master_out_the_drives = λ h. differ refl h.on_paper;
      sync_in_the_controllers = λ h. differ refl h.on_paper;
      transfer_the_drives = λ h. let e : Move.Drives ≡ Move.Controllers = (value_given (move_rows 24 28) h.answer).1 in never (cc);
      setting_32_answered = λ h. differ refl (value_given (move_rows 0 32) {value = said_by (entry_of 0 32)} h.answer).0;
      starts_lost = λ h. true≢false (ap (λ (f : Follower). f.lost) h.follower);
      starts_at_select = λ h. differ refl (ap (λ (f : Follower). f.setting) h.follower);
      select_left_without_history = λ h. never (cc);
      deselect_with_history = λ h. never (cc);
      undefined_while_lost = λ h. never (cc);
      deselect_with_history_reached = λ h. true≢false h.answer;
      lost_unreached = λ h. false≢true h.answer;
      controllers_18 = λ h. differ refl h.answer;
      refusal_0 = λ h. differ refl h.answer;
      by_the_table = wrong_by_the_table;
      plainly = wrong_plainly;
    }
