-- `replay_part` meets its contract.
-- Assumes nothing.
use Rattle.std.proofs.Common.{true≢false, arith, length-drop}
use Rattle.laws.specs.Pick.{pick}
use Rattle.refusals.proofs.OnPaper.{number_is_not_0}
use Rattle.laws.proofs.Runs.{rest_whole}
use Rattle.events.proofs.Parts.{part_short, part_not_whole, part_none, part_room, part_worked}
use Rattle.events.proofs.part.replay_part.Goals as goal

pub returns-then-state-answers : goal.returns-then-state-answers
returns-then-state-answers c =
    part_short _ _ _ _ _ _ _ _ c.count_within-count.ensures c.if-state-answers.true

pub returns-then-records-ne0 : goal.returns-then-records-ne0
returns-then-records-ne0 c =
    part_not_whole _ _ _ _ _ _ _ _ c.count_within-count.ensures c.if-state-answers.false c.if-records-ne0.true

pub returns-then-count-eq0 : goal.returns-then-count-eq0
returns-then-count-eq0 c =
    part_none _ _ _ _ _ _ _ _ c.count_within-count.ensures c.if-state-answers.false c.if-records-ne0.false c.if-count-eq0.true

pub put_gaps-requires : goal.put_gaps-requires
put_gaps-requires c =
    let args = c.args in
    let room = part_room args.state.now args.records.now args.from args.limit args.answers.now args.gaps.now c.count_within-count.ensures c.if-state-answers.false in
    (omega (arith, c.if-count-eq0.false), room.whole c.if-count-eq0.false, room.gapped)

pub work-requires : goal.work-requires
work-requires c =
    let args = c.args in
    let room = part_room args.state.now args.records.now args.from args.limit args.answers.now args.gaps.now c.count_within-count.ensures c.if-state-answers.false in
    record { long = room.long; some = omega (arith, c.if-count-eq0.false); whole = rw (rest_whole args.records.now _, length-drop _ args.records.now) (omega (arith, room.whole c.if-count-eq0.false)); room = room.told; quiet = λ e. absurd (true≢false e) }

-- a batch that tells answers no refusal
pub returns-in_err-work : goal.returns-in_err-work
unfolding pick
returns-in_err-work c = absurd (number_is_not_0 _ c.in_err-work.ensures.number)

pub returns : goal.returns
returns c =
    part_worked c.count_within-count.ensures c.if-state-answers.false c.if-records-ne0.false (rw (rest_whole _ _) at c.in_ok-work.ensures) c.put_gaps.ensures
