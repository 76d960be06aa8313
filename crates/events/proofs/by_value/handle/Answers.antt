-- `handle` meets its contract.
-- Assumes nothing.
use Rattle.std.proofs.Common.{◌≡◌, ◌≤◌, length, refl, ap, ◌∙◌, arith}
use Rattle.status.specs.DriveStatus.{is_drive_status}
use Rattle.drive.specs.Bounded.{AreOctets}
use Rattle.drive.proofs.Posted.{OnBoth}
use Rattle.events.specs.State.{drive_in, moving_words, state_words}
use Rattle.events.proofs.Back.{read_again}
use Rattle.events.proofs.ByValue.{told_fit, octets_made, handled_by}
use Rattle.events.proofs.by_value.handle.Goals as goal
use Rattle.events.proofs.by_value.handle.Goals.{After-put_state}

octets : (c : After-put_state) → OnBoth AreOctets c.args.drive
octets c = ((omega (arith, c.well_formed.0), omega (arith, c.well_formed.0)), (omega (arith, c.well_formed.0), omega (arith, c.well_formed.0)))

same : (c : After-put_state) → drive_in c.put_state.new.state ≡ c.args.drive
same c = let o = octets c in ap drive_in c.put_state.ensures ∙ read_again _ _ (o.0.1, o.1.1)

pub answer_in-answer-requires : goal.answer_in-answer-requires
unfolding is_drive_status
answer_in-answer-requires c =
    let made = (goal.at.answer_in-answer-requires c).After-put_state in
    told_fit _ (omega arith) refl (octets_made _ _ (same made) (octets made)) c.answer_event-refused.ensures

pub returns : goal.returns
unfolding state_words moving_words
returns c =
    let made = (goal.at.returns c).After-put_state in
    let long : 21 ≤ length c.put_state.new.state = rw c.put_state.ensures (omega arith) in
    handled_by _ long (omega arith) (same made) (octets_made _ _ (same made) (octets made)) c.answer_event-refused.ensures c.answer_in-answer.ensures c.drive_in-after.ensures
