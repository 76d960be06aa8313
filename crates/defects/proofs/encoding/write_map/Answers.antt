-- `defects::encoding::write_map` meets its contract: at each `return` the tests that led there say which row holds first, or that none does.
-- Assumes nothing.
use mathlib.Core.Path.{◌≡◌, sym, ◌∙◌}
use mathlib.Core.Bool.{false}
use lib.Dec.{ltb}
use lib.ListN.{length}
use Rattle.laws.specs.Pick.{pick}
use Rattle.parts.specs.Setup.{all_words}
use Rattle.defects.specs.EncodeSteps.{Planned}
use Rattle.defects.specs.Encoding.{is_malformed}
use Rattle.defects.proofs.SectorFields.{lacks_words}
use Rattle.defects.proofs.EncodeRows.{planned, job_given, no_job, words_fit}
use Rattle.defects.proofs.Stored.{words_put}
use Rattle.defects.proofs.encoding.write_map.Goals as goal
use Rattle.defects.proofs.encoding.write_map.Goals.{After-lacks_room, In-Some}

pub returns-then-not-within_limits : goal.returns-then-not-within_limits
unfolding pick
returns-then-not-within_limits c = let outside = sym c.within_limits.ensures ∙ c.if-not-within_limits.true in record { answer = rw outside; sectors = rw outside }

told : (c : After-lacks_room) → let a = c.args in
    c.lacks_room.result ≡ ltb (length a.sectors.now) (all_words a.setup)
told c = c.lacks_room.ensures ∙ lacks_words _ _ _ (sym c.within_limits.ensures ∙ c.if-not-within_limits.false) c.sector_words.ensures

right : (c : In-Some) → let a = c.args in
    (is_malformed a.setup a.storage_cylinder a.storage_head a.defects.now ≡ false) × (c.in-Some.job ≡ record { sets = c.sets_for-sets.result; cylinder = a.storage_cylinder; head = a.storage_head })
right c = let a = c.args in job_given _ c.in-Some.job _ (sym c.in-Some.is ∙ c.job_of.ensures)

ready : (c : In-Some) → let a = c.args in
    Planned a.setup (record { sets = c.sets_for-sets.result; cylinder = a.storage_cylinder; head = a.storage_head }) a.defects.now
ready c = planned (sym c.within_limits.ensures ∙ c.if-not-within_limits.false) c.sets_for-sets.ensures (right c).0

pub returns-then-lacks_room : goal.returns-then-lacks_room
unfolding pick
returns-then-lacks_room c =
    let small = sym c.within_limits.ensures ∙ c.if-not-within_limits.false in
    let short = sym (told (goal.at.returns-then-lacks_room c).After-lacks_room) ∙ c.if-lacks_room.true in
    record { answer = rw (small, short); sectors = rw (small, short) }

pub job_of-requires : goal.job_of-requires
job_of-requires c = (sym c.within_limits.ensures ∙ c.if-not-within_limits.false, c.sets_for-sets.ensures)

pub returns-in_default : goal.returns-in_default
unfolding pick
returns-in_default c =
    let a = c.args in
    let room = sym (told (goal.at.returns-in_default c).After-lacks_room) ∙ c.if-lacks_room.false in
    let small = sym c.within_limits.ensures ∙ c.if-not-within_limits.false in
    let wrong = no_job (is_malformed a.setup a.storage_cylinder a.storage_head a.defects.now) _ (sym c.in_default.is ∙ c.job_of.ensures) in
    record { answer = rw (small, room, wrong); sectors = rw (small, room, wrong) }

pub put_sets-requires : goal.put_sets-requires
put_sets-requires c =
    let here = goal.at.put_sets-requires c in
    let room = sym (told here.After-lacks_room) ∙ c.if-lacks_room.false in
    rw (right here.In-Some).1 (ready here.In-Some, words_fit (ready here.In-Some) room)

pub returns : goal.returns
unfolding pick
returns c =
    let here = goal.at.returns c in
    let room = sym (told here.After-lacks_room) ∙ c.if-lacks_room.false in
    let small = sym c.within_limits.ensures ∙ c.if-not-within_limits.false in
    let (fine, job) = right here.In-Some in
    let put = rw job at c.put_sets.ensures in
    record { answer = rw (small, room, fine); sectors = rw (small, room, fine, ← c.sets_for-sets.ensures) (put ∙ words_put _ _ _ 0 _) }
