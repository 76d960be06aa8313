-- `bench::part::put_part` meets its contract: what the part told is its report.
-- Assumes nothing.
use Prim.Native.Nat.{ℕ}
use mathlib.Core.Path.{◌≡◌}
use native.Mathlib.Omega.{arith}
use lib.ListN.{length}
use Rattle.events.specs.Part.{part_of}
use Rattle.bench.proofs.part.put_part.Goals as goal

pub put_told-requires : goal.put_told-requires
put_told-requires c =
    let count : c.in-Ok.count ≡ length (part_of c.args.records.now c.args.from c.args.limit) = cc (c.run_part-part.ensures.ran, c.in-Ok.is) in
    let few = c.run_part-part.ensures.few in
    (rw count (omega (arith, few, c.ranges.from)), rw (count, c.run_part-part.ensures.report) c.requires.0)

pub returns : goal.returns
returns c =
    let count : c.in-Ok.count ≡ length (part_of c.args.records.now c.args.from c.args.limit) = cc (c.run_part-part.ensures.ran, c.in-Ok.is) in
    rw (count, c.run_part-part.ensures.report) at c.put_told.ensures

pub unreachable-requires : goal.unreachable-requires
unreachable-requires c = absurd (let z : ◌≡◌ {A = ℕ} 0 1 = cc c.run_part-part.ensures.ran in omega arith)
