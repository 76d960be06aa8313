-- To read a map off the last cylinder is to decode its string, but for 28: no other test differs, and none but this one has that number.
-- Assumes nothing.
use Prim.Native.Nat.{ℕ, zero, suc, ◌+◌, ◌*◌, ◌≤◌}
use mathlib.Core.Path.{◌≡◌, refl, sym, ◌∙◌}
use mathlib.Core.Bool.{Bool, true, false}
use mathlib.Core.List.{List, [], ◌∷◌, ◌++◌}
use borrow.Author.Tests.{le-ltb}
use lib.Dec.{eqb, ltb, leb}
use lib.ListN.{length}
use Rattle.std.proofs.Math.Option.{Option}
use Rattle.laws.specs.Pick.{pick}
use Rattle.laws.proofs.Pick.{either}
use Rattle.parts.specs.Setup.{within_limits, all_words}
use Rattle.parts.specs.declared.setup.Setup.{Setup}
use Rattle.defects.specs.Offence.{Test, Found, no_offence, offence_at, first_of, tests_over}
use Rattle.defects.specs.Defect.{behind, behind_all}
use Rattle.defects.specs.Field.{is_ignored}
use Rattle.defects.specs.Place.{field_octets, data_fields}
use Rattle.defects.specs.Judging.{opening_tests, later_tests, front_tests, entry_tests, list_tests, zero_test, same_test, crc_tests, field_tests}
use Rattle.defects.specs.Walk.{is_ended, field_at, walk_at, defects_before, tests_at, tests_from, map_tests}
use Rattle.defects.specs.Decoding.{decode_offence}
use Rattle.defects.specs.Sectors.{last_cylinder, read_offence}
use Rattle.defects.specs.OnTheCylinder.{as_read}
use Rattle.defects.specs.declared.defect.Defect.{Defect}
use Rattle.defects.specs.declared.front.Front.{Front}
use Rattle.defects.specs.declared.walk.Walk.{Walk}
use Rattle.defects.proofs.Offences.{All, end, next, none_found, both, over}
use Rattle.defects.proofs.WalkSteps.{still_ended}
use Rattle.defects.proofs.TestsAt.{due_tests, tests_going, tests_ended, none_behind}
use Rattle.defects.proofs.SectorFields.{length_cylinder}

-- ---- tests of other numbers

abbrev pub Others : List Test → Type 0
Others tests = All (λ test. eqb test.number 28 ≡ false) tests

of_front : (s : Setup) (w : Walk) (start size : ℕ) (front : Front) → Others (front_tests s w start size front)
unfolding front_tests opening_tests later_tests
of_front s w start size front =
    next refl
    (either Others (eqb w.set 0) (next refl (next refl (next refl (next refl (next refl (next refl end))))))
    (next refl (next refl (next refl (next refl (next refl (next refl end)))))))

of_list : (s : Setup) (flagged : Bool) (least offset : ℕ) (defects : List Defect) → Others (list_tests s flagged least offset defects)
unfolding list_tests entry_tests
of_list s flagged least offset [] = end
of_list s flagged least offset (d ∷ defects) = next refl (next refl (next refl (of_list s flagged (behind least d) (offset + 12) defects)))

of_field : (s : Setup) (w : Walk) (least start : ℕ) (original field : List ℕ) → Others (field_tests s w least start original field)
of_field s w least start original field =
    let crc : Others (crc_tests start field) = next refl end in
    let padding = over (zero_test start field) _ _ (λ i l m. refl) in
    let same : (i left : ℕ) → Others (tests_over (same_test start field original) i left) = λ i left. over (same_test start field original) i left (λ j l m. refl) in
    either Others (eqb w.copy 0) (both (both (both (of_front s w start (length field) _) (of_list s _ least (start + 14) _)) padding) crc)
    (both (both (same 0 3) (next refl (same 4 _))) crc)

-- ---- the tests at a data field

pub due_others : (s : Setup) (octets : List ℕ) (k : ℕ) → Others (due_tests s octets k)
due_others s octets k =
    let w = walk_at s octets k in
    let field = field_at s octets k in
    let own = of_field s w (behind_all 0 (defects_before s octets k)) (k * field_octets s) (field_at s octets w.original) field in
    either Others (leb (data_fields s) k) (next refl end) (next refl (either Others (is_ignored field) end own))

-- ---- reading and decoding

one_more : (holds : Bool) (n offset : ℕ) (x y : Option Found) → eqb n 28 ≡ false → x ≡ as_read y → pick holds (offence_at n offset) x ≡ as_read (pick holds (offence_at n offset) y)
unfolding pick
one_more true n offset x y h e = rw h
one_more false n offset x y h e = e

behind_others : {tests : List Test} (read decoded : List Test) → Others tests → first_of read ≡ as_read (first_of decoded)
    → first_of (tests ++ read) ≡ as_read (first_of (tests ++ decoded))
unfolding first_of
behind_others read decoded end e = e
behind_others read decoded (next {test = test} h p) e = one_more test.holds test.number test.offset _ _ h (behind_others read decoded p e)

read_from : (s : Setup) (octets : List ℕ) (k count : ℕ) → first_of (tests_from false s octets k count) ≡ as_read (first_of (tests_from true s octets k count))
unfolding tests_from first_of pick
read_from s octets k zero = refl
read_from s octets k (suc count) = by_test (is_ended (walk_at s octets k)) refl (read_from s octets (suc k) count)
  where
    by_test : (over : Bool) → is_ended (walk_at s octets k) ≡ over
        → first_of (tests_from false s octets (suc k) count) ≡ as_read (first_of (tests_from true s octets (suc k) count))
        → first_of (tests_at false s octets k ++ tests_from false s octets (suc k) count) ≡ as_read (first_of (tests_at true s octets k ++ tests_from true s octets (suc k) count))
    by_test true e below =
        let none = none_found (none_behind false s octets k (suc count) e refl) in
        let rest = none_found (none_behind false s octets (suc k) count (still_ended s octets k e) refl) in
        none
        ∙ rw (tests_ended true s octets k e)
        (either (λ (o : Option Found). no_offence ≡ as_read o) (ltb (k * field_octets s) (length octets)) refl (sym rest ∙ below))
    by_test false e below = rw (tests_going false s octets k e, tests_going true s octets k e) (behind_others _ _ (due_others s octets k) below)

pub but_for_28 : (s : Setup) (octets : List ℕ) → first_of (map_tests false s octets) ≡ as_read (first_of (map_tests true s octets))
but_for_28 s octets = read_from s octets 0 (suc (data_fields s))

pub read_is_decode : (s : Setup) (sectors lent : List ℕ) → within_limits s ≡ true → all_words s ≤ length sectors
    → read_offence s sectors lent ≡ as_read (decode_offence s (last_cylinder s sectors) lent)
read_is_decode s sectors lent small room =
    rw (le-ltb (length sectors) (all_words s) room, length_cylinder s sectors small room)
    (behind_others _ _ (next refl (next refl end)) (but_for_28 s (last_cylinder s sectors)))
