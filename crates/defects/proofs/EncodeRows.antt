-- The rows of the calls that encode a map, as the code tests them, and what they leave; the whole map put.
-- Assumes nothing.
use Prim.Native.Nat.{ℕ, suc, ◌*◌, ◌/◌, ◌%◌, ◌<◌, ◌≤◌}
use mathlib.Core.Path.{◌≡◌, refl, ap, ◌∙◌}
use mathlib.Core.Bool.{Bool, true, false, not, ◌||◌}
use mathlib.Core.List.{List}
use native.Mathlib.Nat.{mul-le-mul_right, div-lt_iff_lt-mul, le-div_iff_mul-le}
use native.Mathlib.Omega.{arith}
use borrow.Author.Tests.{lt-ltb, le-ltb, ltb-false, not-false}
use lib.Dec.{eqb, ltb}
use lib.ListN.{length}
use lib.Seq.{take_all}
use Rattle.std.specs.Prelude.{Some, None}
use Rattle.laws.specs.Pick.{pick}
use Rattle.laws.specs.Lists.{written_over}
use Rattle.laws.proofs.Tests.{or_r}
use Rattle.parts.specs.Setup.{within_limits, all_words}
use Rattle.parts.specs.declared.setup.Setup.{Setup}
use Rattle.parts.proofs.Bounds.{limits}
use Rattle.defects.specs.Place.{field_octets}
use Rattle.defects.specs.Encoding.{sets_for, map_octets, map_length, is_encodable}
use Rattle.defects.specs.EncodeSteps.{value_in, Planned, HasOctets, HasSectors, octet_start, put_fields}
use Rattle.defects.specs.declared.body.Job.{Job}
use Rattle.defects.proofs.Plans.{plan, all_octets}
use Rattle.defects.proofs.Stored.{octets_put}

-- 10, without a product that can be too large for a number
pub record Told (s : Setup) (count size sets : ℕ) : Type 0 where
  pub limits : within_limits s ≡ true
  pub sized : size ≡ field_octets s
  pub counted : sets ≡ sets_for s count

module _ {s : Setup} {count size sets : ℕ} (told : Told s count size sets) where
  pub some_octets : 0 < 3 * size
  some_octets = let l = limits s told.limits in omega arith

  pub length_told : sets * (3 * size) ≡ map_length s count
  length_told = rw (told.sized, told.counted) (omega arith)

  pub lacks_octets : (room : ℕ) → room / (3 * size) < sets → ltb room (map_length s count) ≡ true
  lacks_octets room h = lt-ltb room (map_length s count) (omega (arith, (div-lt_iff_lt-mul {k = 3 * size} {x = room} {y = sets} some_octets).0 h, length_told))

  pub has_octets : (room : ℕ) → sets ≤ room / (3 * size) → ltb room (map_length s count) ≡ false
  has_octets room h = le-ltb room (map_length s count) (omega (arith, (le-div_iff_mul-le {k = 3 * size} {x = sets} {y = room} some_octets).0 h, length_told))

-- 8 not given
pub planned : {s : Setup} {job : Job} {octets : List ℕ} → within_limits s ≡ true → job.sets ≡ sets_for s (length octets / 12)
    → not (eqb (length octets % 12) 0) || not (is_encodable s (value_in job octets)) ≡ false → Planned s job octets
planned {s} {job} {octets} w n e = record { limits = w; encodable = not-false (is_encodable s (value_in job octets)) (or_r (not (eqb (length octets % 12) 0)) _ e); sets = n }

-- what is to be put is there exactly where 8 is not given
pub job_given : (wrong : Bool) (job made : Job) → Some job ≡ pick wrong None (Some made) → (wrong ≡ false) × (job ≡ made)
unfolding pick
job_given true job made e = absurd (cc)
job_given false job made e = (refl, cc)

pub no_job : (wrong : Bool) (made : Job) → None ≡ pick wrong None (Some made) → wrong ≡ true
unfolding pick
no_job true made e = refl
no_job false made e = absurd (cc)

-- 10 not given: each data field has its place
pub octets_fit : {s : Setup} {job : Job} {octets : List ℕ} {room : ℕ} → Planned s job octets → ltb room (map_length s (length octets / 12)) ≡ false
    → (k : ℕ) → k < 3 * job.sets → HasOctets s k room
octets_fit {s} {job} {octets} {room} p e k h =
    let whole : suc k * field_octets s ≤ 3 * job.sets * field_octets s = mul-le-mul_right (field_octets s) h in
    let all : 3 * job.sets * field_octets s ≤ room = rw p.sets (ltb-false room (map_length s (length octets / 12)) e) in
    record { whole = omega arith }

pub words_fit : {s : Setup} {job : Job} {octets : List ℕ} {room : ℕ} → Planned s job octets → ltb room (all_words s) ≡ false → (k : ℕ) → k < 3 * job.sets → HasSectors s k room
words_fit {s} {room = room} p e k h = record { limits = p.limits; inside = omega (arith, (plan p).fields); words = ltb-false room (all_words s) e }

-- ---- the map is there

pub whole_map : {s : Setup} {job : Job} {octets : List ℕ} (out : List ℕ) → Planned s job octets
    → put_fields octet_start (λ octets. octets) s (map_octets s (value_in job octets)) out 0 (3 * job.sets) ≡ written_over out (map_octets s (value_in job octets))
whole_map {s} {job} {octets} out p =
    let map = map_octets s (value_in job octets) in
    let all = all_octets (plan p) in
    octets_put s map out (3 * job.sets) (omega arith) ∙ ap (written_over out) (take_all (3 * job.sets * field_octets s) map (omega arith))
