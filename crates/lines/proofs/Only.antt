-- No second answer satisfies a promise of this crate, and each refusal is given exactly when its row says so.
-- Assumes nothing.
use Rattle.std.proofs.Common.{ℕ, suc, ◌≡◌, Bool, List}
use Rattle.std.specs.Prelude.{Result, ◌↔◌}
use Rattle.laws.specs.Rows.{Given}
use Rattle.laws.proofs.Only.{answer_only}
use Rattle.refusals.specs.Refusal.{refusal_in}
use Rattle.refusals.specs.declared.refusal.Refusal.{Refusal}
use Rattle.refusals.proofs.OnPaper.{exactly_on_paper}
use Rattle.refusals.proofs.OnPaper as on_paper
use Rattle.lines.specs.Line.{WeightSaid, OwnerSaid}
use Rattle.lines.specs.Moves.{entry_of, said_by, move_rows, MoveSaid}
use Rattle.lines.specs.Follower.{said, step_rows, Started, Stepped, ReachedSaid}
use Rattle.lines.specs.Reading.{Read, read_rows, OctetSaid, TraceRead}
use Rattle.lines.specs.declared.line.Line.{Line}
use Rattle.lines.specs.declared.line.Side.{Side}
use Rattle.lines.specs.declared.moves.Move.{Move}
use Rattle.lines.specs.declared.follower.Follower.{Follower}
use Rattle.lines.specs.declared.follower.Followed.{Followed}
use Rattle.lines.specs.declared.follower.Answer.{Answer}

pub weight_only : {line : Line} {r r' : ℕ} → WeightSaid line r → WeightSaid line r' → r ≡ r'
weight_only h k = answer_only h.answer k.answer

pub owner_only : {line : Line} {r r' : Side} → OwnerSaid line r → OwnerSaid line r' → r ≡ r'
owner_only h k = answer_only h.answer k.answer

pub move_of_only : {old new : ℕ} {r r' : Result Move Refusal} → MoveSaid old new r → MoveSaid old new r' → r ≡ r'
move_of_only h k = on_paper.answer_only h.answer k.answer

pub start_only : {r r' : Follower} → Started r → Started r' → r ≡ r'
start_only h k = answer_only h.follower k.follower

pub step_only : {f : Follower} {new : ℕ} {r r' : Followed} → Stepped f new r → Stepped f new r' → r ≡ r'
step_only h k = λ i. record { answer = answer_only h.answer k.answer i; follower = answer_only h.follower k.follower i }

pub is_reached_only : {f : Follower} {r r' : Bool} → ReachedSaid f r → ReachedSaid f r' → r ≡ r'
is_reached_only h k = answer_only h.answer k.answer

pub octet_only : {said : Result Answer Refusal} {r r' : ℕ} → OctetSaid said r → OctetSaid said r' → r ≡ r'
octet_only h k = answer_only h.answer k.answer

-- of `follow` and of `read_plainly`
pub trace_read_only : {read : Read} {trace answers : List ℕ} {r r' : Result Follower Refusal} {answers' answers'' : List ℕ} → TraceRead read trace answers r answers'
    → TraceRead read trace answers r' answers'' → (r ≡ r') × (answers' ≡ answers'')
trace_read_only h k = (on_paper.answer_only h.answer k.answer, answer_only h.answers k.answers)

-- ---- refusals

-- whatever meets the promise
pub move_of_exactly : {old new : ℕ} {r : Result Move Refusal} → MoveSaid old new r → (n : ℕ) → refusal_in r ≡ suc n ↔ Given (suc n) (move_rows old new)
move_of_exactly {old} {new} {r} h n = exactly_on_paper (move_rows old new) (said_by (entry_of old new)) r h.answer n

pub step_exactly : {f : Follower} {new : ℕ} {r : Followed} → Stepped f new r → (n : ℕ) → refusal_in r.answer ≡ suc n ↔ Given (suc n) (step_rows f new)
step_exactly {f} {new} {r} h n = exactly_on_paper (step_rows f new) (said f new) r.answer h.on_paper n

pub trace_read_exactly : {read : Read} {trace answers : List ℕ} {r : Result Follower Refusal} {answers' : List ℕ} → TraceRead read trace answers r answers'
    → (n : ℕ) → refusal_in r ≡ suc n ↔ Given (suc n) (read_rows trace answers)
trace_read_exactly {read} {trace} {answers} {r} h n = exactly_on_paper (read_rows trace answers) read.last r h.answer n
