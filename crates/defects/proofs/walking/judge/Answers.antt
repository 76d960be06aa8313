-- `defects::walking::judge` meets its contract: after so many turns the walk stands where the definition has it, and no offence is behind it.
-- Assumes nothing.
use Prim.Native.Nat.{◌+◌, ◌*◌, ◌^◌, ◌<◌, ◌≤◌}
use mathlib.Core.Path.{◌≡◌}
use mathlib.Core.Bool.{false}
use native.Mathlib.Omega.{arith}
use Rattle.laws.proofs.Pick.{told}
use Rattle.parts.proofs.Bounds.{limits}
use mathlib.Core.List.{[], ◌∷◌}
use lib.Dec.{ltb}
use lib.ListN.{length}
use Rattle.defects.specs.Offence.{◌at◌when◌, no_offence, first_of}
use Rattle.defects.specs.Place.{field_octets, data_fields}
use Rattle.defects.specs.Source.{string_in, is_alone}
use Rattle.defects.specs.Steps.{last_tests}
use Rattle.defects.specs.Walk.{is_ended}
use Rattle.defects.proofs.Thirds.{counted}
use Rattle.defects.proofs.Fields.{few_fields}
use Rattle.defects.proofs.Loadables.{start_few}
use Rattle.defects.proofs.Offences.{passed_on}
use Rattle.defects.proofs.Reaching.{reached_outset, reached_end, reached_short, reached_stop, reached_next, reached_last, last_ended, is_whole, ends_at}
use Rattle.defects.proofs.walking.judge.Goals as goal
use Rattle.defects.proofs.walking.judge.Goals.{At-loop-k, Else-is_ended, In-loop-k, In_ok-refuse_if, After-loop-k}

pub loop-k-init : goal.loop-k-init
loop-k-init c = rw c.outset.ensures (reached_outset _ c.args.setup (string_in c.args.setup c.args.source))

start_small : (c : At-loop-k) → c.loop-k.k * c.field_octets-each.result ≤ 2 ^ 24
start_small c = rw c.field_octets-each.ensures (start_few c.args.setup c.loop-k.k c.requires.limits c.loop-k.invariant.within)

going : (c : Else-is_ended) → is_ended c.loop-k.progress.walk ≡ false
going c = told _ _ _ c.is_ended.ensures c.if-is_ended.false

one_more : (c : In-loop-k) → c.loop-k.k < data_fields c.args.setup
one_more c = rw (← c.data_fields-count.ensures) c.loop-k-test.true

pub overflow_mul-start : goal.overflow_mul-start
overflow_mul-start c = omega (arith, start_small (goal.at.overflow_mul-start c).At-loop-k)

pub returns-in_err-judge_end : goal.returns-in_err-judge_end
returns-in_err-judge_end c =
    let end = told _ _ _ c.is_ended.ensures c.if-is_ended.true in
    rw (passed_on c.from_residual.ensures) (record { offence = reached_end _ _ _ _ _ _ c.loop-k.invariant end (rw (← c.is_alone-alone.ensures, ← c.size-size.ensures, ← c.field_octets-each.ensures) c.in_err-judge_end.ensures); ends = tt })

pub returns-then-is_ended : goal.returns-then-is_ended
returns-then-is_ended c =
    let end = told _ _ _ c.is_ended.ensures c.if-is_ended.true in
    record { offence = reached_end _ _ _ _ _ _ c.loop-k.invariant end (rw (← c.is_alone-alone.ensures, ← c.size-size.ensures, ← c.field_octets-each.ensures) c.in_ok-judge_end.ensures); ends = ends_at _ _ _ _ _ _ c.loop-k.invariant end }

pub overflow_add-start : goal.overflow_add-start
overflow_add-start c =
    let few = limits c.args.setup c.requires.limits in
    omega (arith, start_small (goal.at.overflow_add-start c).At-loop-k, c.field_octets-each.ensures)

pub returns-in_err-refuse_if : goal.returns-in_err-refuse_if
returns-in_err-refuse_if c =
    let here = goal.at.returns-in_err-refuse_if c in
    rw (passed_on c.from_residual-in_err-refuse_if.ensures) (record { offence = reached_short _ _ _ _ _ _ c.loop-k.invariant (one_more here.In-loop-k) (going here.Else-is_ended) (rw (← c.size-size.ensures, ← c.field_octets-each.ensures) c.in_err-refuse_if.ensures); ends = tt })

fits : (c : In_ok-refuse_if) → let k = c.loop-k.k in
    let each = field_octets c.args.setup in
    no_offence ≡ first_of (17 at k * each when ltb (length (string_in c.args.setup c.args.source)) (k * each + each) ∷ [])
fits c = rw (← c.size-size.ensures, ← c.field_octets-each.ensures) c.in_ok-refuse_if.ensures

pub turn-requires : goal.turn-requires
turn-requires c =
    let here = goal.at.turn-requires c in
    let octets = string_in c.args.setup c.args.source in
    let so_far = counted c.args.setup octets c.loop-k.k in
    let reached = c.loop-k.invariant in
    let many = few_fields c.args.setup (limits c.args.setup c.requires.limits) in (
      record { readable = c.requires; inside = one_more here.In-loop-k; whole = is_whole _ _ _ _ _ _ reached (one_more here.In-loop-k) (going here.Else-is_ended) (fits here.In_ok-refuse_if) },
      rw reached.walk (omega (arith, so_far.fields, reached.within, many)),
      rw reached.walk so_far.original,
    )

pub returns-in_err-progress : goal.returns-in_err-progress
returns-in_err-progress c =
    let here = goal.at.returns-in_err-progress c in
    rw (passed_on c.from_residual-in_err-progress.ensures)
    (record { offence = reached_stop _ _ _ _ _ _ c.loop-k.invariant (one_more here.In-loop-k) (going here.Else-is_ended) (fits here.In_ok-refuse_if) _ c.in_err-progress.ensures; ends = tt })

pub loop-k-preserved : goal.loop-k-preserved
loop-k-preserved c =
    let here = goal.at.loop-k-preserved c in
    reached_next _ _ _ _ _ _ c.loop-k.invariant (one_more here.In-loop-k) (going here.Else-is_ended) (fits here.In_ok-refuse_if) _ c.in_ok-progress.ensures

pub overflow_mul-count : goal.overflow_mul-count
overflow_mul-count c =
    let few = start_few c.args.setup (data_fields c.args.setup) c.requires.limits (omega arith) in
    rw (c.field_octets-each.ensures, c.data_fields-count.ensures) (omega arith)

-- the loop has gone to the last data field
all_gone : (c : After-loop-k) → c.loop-k.k ≡ c.data_fields-count.result
all_gone c = omega (arith, c.loop-k.invariant.within, c.data_fields-count.ensures)

all_fields : (c : After-loop-k) → data_fields c.args.setup ≤ c.loop-k.k
all_fields c = omega (arith, all_gone c, c.data_fields-count.ensures)

pub returns-in_err-judge_last : goal.returns-in_err-judge_last
returns-in_err-judge_last c =
    let here = goal.at.returns-in_err-judge_last c in
    rw (passed_on c.from_residual-in_err-judge_last.ensures)
    (record { offence = reached_last _ _ _ _ _ _ c.loop-k.invariant (all_fields here.After-loop-k) (rw (← c.is_alone-alone.ensures, ← c.size-size.ensures, ← c.field_octets-each.ensures, all_gone here.After-loop-k) c.in_err-judge_last.ensures); ends = tt })

pub returns : goal.returns
returns c =
    let here = (goal.at.returns c).After-loop-k in
    let last : no_offence ≡ first_of (last_tests c.loop-k.progress.walk (is_alone c.args.source) (c.loop-k.k * field_octets c.args.setup) (length (string_in c.args.setup c.args.source))) =
    rw (← c.is_alone-alone.ensures, ← c.size-size.ensures, ← c.field_octets-each.ensures, all_gone here) c.in_ok-judge_last.ensures in
    rw (← all_gone here)
    (record {
      offence = reached_last _ _ _ _ _ _ c.loop-k.invariant (all_fields here) last;
      ends = ends_at _ _ _ _ _ _ c.loop-k.invariant (last_ended _ _ _ _ _ _ c.loop-k.invariant last);
    })
