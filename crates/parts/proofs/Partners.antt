-- `bit_4_changes_nothing`: a control and its partner with bit 4 are of one kind and name the same parts.
-- Assumes nothing.
use Prim.Native.Nat.{ℕ, ◌+◌, ◌/◌, ◌%◌, ◌<◌, ◌≤◌}
use mathlib.Core.Path.{◌≡◌, refl, sym, ap, ◌∙◌}
use mathlib.Core.Bool.{Bool, true, false, ◌&&◌, ◌||◌}
use native.Mathlib.Omega.{arith}
use borrow.Author.Tests.{lt-ltb, le-ltb, ne_eqb, ltb-true, ltb-false, le-leb, leb-true}
use lib.Dec.{ltb, leb, eqb}
use Rattle.laws.specs.Pick.{pick}
use Rattle.laws.proofs.Tests.{and_l, and_r}
use Rattle.parts.specs.Control.{control_of, names_field1, names_field2, header_bits, is_data, header_passes, data_words, words_to_come, words_read}
use Rattle.parts.specs.declared.setup.Setup.{Setup}
use Rattle.parts.specs.Bit4.{has_partner, Bit4ChangesNothing}
use Rattle.parts.specs.declared.control.Control.TheVariants.{Write, Read, Unsupported}

low_unsupported : (c : ℕ) → 0x80 ≤ c → c < 0x84 → control_of c ≡ Unsupported
unfolding control_of pick
low_unsupported c h k = rw (le-ltb c 0x80 h, lt-ltb c 0x84 k)

high_unsupported : (c : ℕ) → 0x91 ≤ c → c < 0x94 → control_of c ≡ Unsupported
unfolding control_of pick
high_unsupported c h k = rw (le-ltb c 0x80 (omega arith), le-ltb c 0x84 (omega arith), le-ltb c 0x90 (omega arith), ne_eqb c 0x90 (λ e. omega arith), lt-ltb c 0x94 k)

low_write : (c : ℕ) → 0x84 ≤ c → c < 0x90 → control_of c ≡ Write
unfolding control_of pick
low_write c h k = rw (le-ltb c 0x80 (omega arith), le-ltb c 0x84 h, lt-ltb c 0x90 k)

high_write : (c : ℕ) → 0x94 ≤ c → c < 0xA0 → control_of c ≡ Write
unfolding control_of pick
high_write c h k =
    rw (le-ltb c 0x80 (omega arith), le-ltb c 0x84 (omega arith), le-ltb c 0x90 (omega arith), ne_eqb c 0x90 (λ e. omega arith), le-ltb c 0x94 h, lt-ltb c 0xA0 k)

-- C0 to DF but D0
a_read : (c : ℕ) → 0xC0 ≤ c → c < 0xE0 → (c ≡ 0xD0 → ⊥) → control_of c ≡ Read
unfolding control_of pick
a_read c h k n =
    rw (le-ltb c 0x80 (omega arith), le-ltb c 0x84 (omega arith), le-ltb c 0x90 (omega arith), ne_eqb c 0x90 (λ e. omega arith), le-ltb c 0x94 (omega arith), le-ltb c 0xA0 (omega arith), le-ltb c 0xC0 h, ne_eqb c 0xD0 n, lt-ltb c 0xE0 k)

same_low : (c : ℕ) (unsupported : Bool) → ltb c 0x84 ≡ unsupported → 0x81 ≤ c → c < 0x90 → control_of (c + 16) ≡ control_of c
same_low c true e h k = let small = ltb-true c 0x84 e in high_unsupported (c + 16) (omega arith) (omega arith) ∙ sym (low_unsupported c (omega arith) small)
same_low c false e h k = let large = ltb-false c 0x84 e in high_write (c + 16) (omega arith) (omega arith) ∙ sym (low_write c large k)

same_kind_by : (c : ℕ) (low : Bool) → (leb 0x81 c && ltb c 0x90) ≡ low → (low || leb 0xC1 c && ltb c 0xD0) ≡ true → control_of (c + 16) ≡ control_of c
same_kind_by c true e h =
    same_low c (ltb c 0x84) refl (leb-true 0x81 c (and_l (leb 0x81 c) (ltb c 0x90) e)) (ltb-true c 0x90 (and_r (leb 0x81 c) (ltb c 0x90) e))
same_kind_by c false e h =
    let low = leb-true 0xC1 c (and_l (leb 0xC1 c) (ltb c 0xD0) h) in
    let high = ltb-true c 0xD0 (and_r (leb 0xC1 c) (ltb c 0xD0) h) in
    a_read (c + 16) (omega arith) (omega arith) (λ n. omega arith) ∙ sym (a_read c (omega arith) (omega arith) (λ n. omega arith))

same_kind : (c : ℕ) → has_partner c ≡ true → control_of (c + 16) ≡ control_of c
same_kind c h = same_kind_by c (leb 0x81 c && ltb c 0x90) refl h

same_field1 : (c : ℕ) → names_field1 (c + 16) ≡ names_field1 c
same_field1 c = let e : (c + 16) / 1 % 2 ≡ c / 1 % 2 = omega arith in ap (λ (n : ℕ). eqb n 1) e

same_field2 : (c : ℕ) → names_field2 (c + 16) ≡ names_field2 c
same_field2 c = let e : (c + 16) / 2 % 2 ≡ c / 2 % 2 = omega arith in ap (λ (n : ℕ). eqb n 1) e

same_bits : (c : ℕ) → header_bits (c + 16) ≡ header_bits c
same_bits c = omega arith

same_passes : (c : ℕ) → has_partner c ≡ true → header_passes (c + 16) ≡ header_passes c
unfolding header_passes
same_passes c h = rw (same_kind c h, same_bits c)

has_data : (c : ℕ) → has_partner c ≡ true → is_data c ≡ true
has_data c h = le-leb 0x80 c (by_range (leb 0x81 c && ltb c 0x90) refl h)
  where
    by_range : (low : Bool) → (leb 0x81 c && ltb c 0x90) ≡ low → (low || leb 0xC1 c && ltb c 0xD0) ≡ true → 0x80 ≤ c
    by_range true e o = omega (arith, leb-true 0x81 c (and_l (leb 0x81 c) (ltb c 0x90) e))
    by_range false e o = omega (arith, leb-true 0xC1 c (and_l (leb 0xC1 c) (ltb c 0xD0) o))

same_words_lem : (c : ℕ) → has_partner c ≡ true → (s : Setup) → words_to_come s (c + 16) ≡ words_to_come s c
unfolding words_to_come data_words pick
same_words_lem c h s =
    let low = leb-true 0x80 c (has_data c h) in
    rw (has_data c h, le-leb 0x80 (c + 16) (omega arith), same_passes c h, same_field1 c, same_field2 c)

pub bit_4_changes_nothing : (c : ℕ) → has_partner c ≡ true → Bit4ChangesNothing c
unfolding words_read
bit_4_changes_nothing c h =
    record {
      kind = same_kind c h;
      field1 = same_field1 c;
      field2 = same_field2 c;
      verify = ap (λ (n : ℕ). eqb n 1) (same_bits c);
      header = ap (λ (n : ℕ). leb 2 n) (same_bits c);
      target = ap (λ (n : ℕ). eqb n 3) (same_bits c);
      passes = same_passes c h;
      words = same_words_lem c h;
      read = λ s sector. rw (same_passes c h, same_field1 c, same_field2 c);
    }
