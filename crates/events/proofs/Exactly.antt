-- Each refusal of each call on the words of a state is given exactly when its row holds and no row tested earlier does.
-- Assumes nothing.
use Rattle.std.proofs.Common.{length}
use Rattle.laws.proofs.Rows.{first_is_exact}
use Rattle.refusals.proofs.OnPaper.{exactly_on_paper}
use Rattle.events.specs.Power.{power_up_rows}
use Rattle.events.specs.Event.{event_rows}
use Rattle.events.specs.Run.{run_rows}
use Rattle.events.specs.Part.{part_of, part_rows}
use Rattle.events.specs.Exactly.{Exactly}

pub exactly_when : Exactly
exactly_when =
    record {
      power_up_words_exactly = λ {s} {sectors} {staging} {state} h n. rw h.answer (first_is_exact n (power_up_rows s sectors staging state));
      answer_event_exactly = λ {state} {e} {sectors} {staging} {answer} h n. rw h.refusal (first_is_exact n (event_rows state e sectors staging answer));
      run_records_exactly = λ {state} {records} {out = out} h n. rw h.refusal (first_is_exact n (run_rows state records out));
      replay_part_exactly = λ {state} {records} {from} {limit} {answers = answers} {gaps} {r} h n.
          exactly_on_paper (part_rows state records from limit answers gaps) (length (part_of records from limit)) r h.answer n;
    }
