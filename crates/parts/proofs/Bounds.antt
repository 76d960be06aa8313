-- The set-up's numbers are small, so no product of them wraps, and a sector of the drive lies within the words of all sectors. The words to come.
-- Assumes nothing.
use Prim.Native.Nat.{ℕ, ◌+◌, ◌*◌, ◌%◌, ◌^◌, ◌≤◌, ◌<◌}
use mathlib.Core.Path.{◌≡◌, refl}
use mathlib.Core.Bool.{Bool, true, false, false≢true}
use native.Mathlib.Nat.{mul-le-mul, mul-le-mul_right, suc-mul}
use native.Mathlib.Numerals.{add-one}
use native.Mathlib.Omega.{arith}
use borrow.Author.Tests.{leb-true, ltb-true}
use lib.Dec.{eqb}
use Rattle.laws.proofs.Tests.{and_l, and_r}
use Rattle.laws.proofs.Pick.{pick_le, either}
use Rattle.laws.specs.Pick.{pick}
use Rattle.parts.specs.Command.{parameter_words, load_drive_function, load_cylinder_address, load_head_address, load_target_sector_address, load_position, read_status, read_current_sector_address, read_current_position}
use Rattle.parts.specs.Control.{control_of, is_write, is_read, is_data, moves_header, header_passes, names_field1, names_field2, part, data_words, words_to_come}
use Rattle.parts.proofs.ByBits.{write_is_data}
use Rattle.parts.specs.Setup.{within_limits, sector_words, all_words, sector_number, sector_start, is_place}
use Rattle.parts.specs.declared.control.Control.{Control}
use Rattle.parts.specs.declared.setup.Setup.{Setup}
use Rattle.parts.specs.declared.setup.Place.{Place}

pub record Limits (s : Setup) : Type 0 where
  pub some_cylinder : 1 ≤ s.cylinders
  pub cylinders : s.cylinders ≤ 4096
  pub some_head : 1 ≤ s.heads
  pub heads : s.heads ≤ 32
  pub some_sector : 1 ≤ s.sectors
  pub sectors : s.sectors ≤ 256
  pub header : s.header ≤ 8
  pub some_field1 : 1 ≤ s.field1
  pub field1 : s.field1 ≤ 1024
  pub field2 : s.field2 ≤ 1024

pub limits : (s : Setup) → within_limits s ≡ true → Limits s
unfolding within_limits
limits s h =
    record {
      some_cylinder = leb-true 1 s.cylinders (search (and_l, and_r) depth 9);
      cylinders = leb-true s.cylinders 4096 (search (and_l, and_r) depth 9);
      some_head = leb-true 1 s.heads (search (and_l, and_r) depth 9);
      heads = leb-true s.heads 32 (search (and_l, and_r) depth 9);
      some_sector = leb-true 1 s.sectors (search (and_l, and_r) depth 9);
      sectors = leb-true s.sectors 256 (search (and_l, and_r) depth 9);
      header = leb-true s.header 8 (search (and_l, and_r) depth 9);
      some_field1 = leb-true 1 s.field1 (search (and_l, and_r) depth 9);
      field1 = leb-true s.field1 1024 (search (and_l, and_r) depth 9);
      field2 = leb-true s.field2 1024 (search (and_l, and_r) depth 9);
    }

pub record Inside (s : Setup) (p : Place) : Type 0 where
  pub cylinder : p.cylinder < s.cylinders
  pub head : p.head < s.heads
  pub sector : p.sector < s.sectors

pub inside : (s : Setup) (p : Place) → is_place s p ≡ true → Inside s p
unfolding is_place
inside s p h =
    record {
      cylinder = ltb-true p.cylinder s.cylinders (search (and_l, and_r));
      head = ltb-true p.head s.heads (search (and_l, and_r));
      sector = ltb-true p.sector s.sectors (search (and_l, and_r));
    }

pub sector_words_few : (s : Setup) → Limits s → sector_words s ≤ 2056
sector_words_few s l = omega arith

-- no more words of a data transfer pass than the sector has
data_words_within : (s : Setup) (c : ℕ) → data_words s c ≤ sector_words s
unfolding data_words
data_words_within s c =
    omega (arith, pick_le (header_passes c) s.header, pick_le (names_field1 c) s.field1, pick_le (names_field2 c) s.field2)

pub data_words_lem : (s : Setup) (c : ℕ) → is_data c ≡ true → words_to_come s c ≡ data_words s c
unfolding words_to_come pick
data_words_lem s c h = rw h

pub words_within : (s : Setup) (c : ℕ) → is_data c ≡ true → words_to_come s c ≤ sector_words s
unfolding words_to_come pick
words_within s c h = rw h (data_words_within s c)

few : (test : Bool) (n : ℕ) {m : ℕ} → n ≤ 5 → m ≤ 5 → pick test n m ≤ 5
few test n h k = either (λ (j : ℕ). j ≤ 5) test h k

pub parameters_few : (c : ℕ) → parameter_words c ≤ 5
unfolding parameter_words
parameters_few c =
    few (eqb c load_drive_function) 1 (omega arith)
    (few (eqb c load_cylinder_address) 2 (omega arith)
    (few (eqb c load_head_address) 1 (omega arith)
    (few (eqb c load_target_sector_address) 1 (omega arith)
    (few (eqb c load_position) 4 (omega arith)
    (few (eqb c read_status) 4 (omega arith)
    (few (eqb c read_current_sector_address) 1 (omega arith)
    (few (eqb c read_current_position) 5 (omega arith) (omega arith))))))))

pub code_words : (s : Setup) (c : ℕ) → is_data c ≡ false → words_to_come s c ≡ parameter_words c
unfolding words_to_come pick
code_words s c h = rw h

pub code_words_few : (s : Setup) (c : ℕ) → is_data c ≡ false → words_to_come s c ≤ 5
code_words_few s c h = rw (code_words s c h) (parameters_few c)

-- a write takes the header's words and those of the fields that it names
pub write_words : (s : Setup) (c : ℕ) → is_write (control_of c) ≡ true → words_to_come s c ≡ s.header + part (names_field1 c) s.field1 + part (names_field2 c) s.field2
unfolding words_to_come data_words header_passes pick
write_words s c h = rw (write_is_data c h, h)

-- a read takes the header's words where it moves them
pub read_passes : (c : ℕ) → is_read (control_of c) ≡ true → header_passes c ≡ moves_header c
unfolding header_passes
read_passes c r = rw (by_control_lem (control_of c) r)
  where
    by_control_lem : (k : Control) → is_read k ≡ true → is_write k ≡ false
    by_control_lem Control.Read h = refl
    by_control_lem Control.Write h = absurd (false≢true h)
    by_control_lem Control.Command h = absurd (false≢true h)
    by_control_lem Control.Response h = absurd (false≢true h)
    by_control_lem Control.StepHead h = absurd (false≢true h)
    by_control_lem Control.Reserved h = absurd (false≢true h)
    by_control_lem Control.Unsupported h = absurd (false≢true h)
    by_control_lem Control.Invalid h = absurd (false≢true h)

pub words_few : (s : Setup) (c : ℕ) → Limits s → words_to_come s c ≤ 2056
unfolding words_to_come
words_few s c l =
    either (λ (n : ℕ). n ≤ 2056) (is_data c) (omega (arith, data_words_within s c, sector_words_few s l)) (omega (arith, parameters_few c))

-- the products on the way to all words
pub record FewWords (s : Setup) : Type 0 where
  pub tracks : s.cylinders * s.heads ≤ 4096 * 32
  pub sectors : s.cylinders * s.heads * s.sectors ≤ 4096 * 32 * 256
  pub words : s.cylinders * s.heads * s.sectors * sector_words s ≤ 4096 * 32 * 256 * 2056

pub few_words : (s : Setup) → Limits s → FewWords s
few_words s l =
    let t = mul-le-mul l.cylinders l.heads in
    let n = mul-le-mul t l.sectors in
    record { tracks = t; sectors = n; words = mul-le-mul n (sector_words_few s l) }

-- i below m and j below n: place j of run i, of runs of n, is below m runs
inner : (i m j n : ℕ) → i < m → j < n → i * n + j + 1 ≤ m * n
inner i m j n hi hj =
    let h : (i + 1) * n ≤ m * n = mul-le-mul_right n (omega arith) in
    let e : (i + 1) * n ≡ i * n + n = rw (add-one i) (suc-mul i n) in
    omega arith

-- the products on the way to a sector's start
pub record InRange (s : Setup) (p : Place) : Type 0 where
  pub track : p.cylinder * s.heads + p.head < s.cylinders * s.heads
  pub sector : (p.cylinder * s.heads + p.head) * s.sectors + p.sector < s.cylinders * s.heads * s.sectors

pub in_range : (s : Setup) (p : Place) → Inside s p → InRange s p
in_range s p i =
    let t = inner p.cylinder s.cylinders p.head s.heads i.cylinder i.head in
    let n = inner (p.cylinder * s.heads + p.head) (s.cylinders * s.heads) p.sector s.sectors (omega arith) i.sector in
    record { track = omega arith; sector = omega arith }

-- a sector of the drive ends within the words of all sectors
pub sector_in_room : (s : Setup) (p : Place) → Inside s p → sector_start s p + sector_words s ≤ all_words s
unfolding sector_start sector_number all_words
sector_in_room s p i =
    let n = (p.cylinder * s.heads + p.head) * s.sectors + p.sector in
    let h : (n + 1) * sector_words s ≤ s.cylinders * s.heads * s.sectors * sector_words s = mul-le-mul_right (sector_words s) (omega (arith, in_range s p i)) in
    let e : (n + 1) * sector_words s ≡ n * sector_words s + sector_words s = rw (add-one n) (suc-mul n (sector_words s)) in
    omega arith

pub start_small : (s : Setup) (p : Place) → Limits s → Inside s p → sector_number s p * sector_words s ≤ 4096 * 32 * 256 * 2056
unfolding sector_number
start_small s p l i =
    let f = few_words s l in
    let r = in_range s p i in
    mul-le-mul {n₁ = (p.cylinder * s.heads + p.head) * s.sectors + p.sector} {n₂ = 4096 * 32 * 256} (omega arith) (sector_words_few s l)

-- of a place in the drive, the product does not wrap
pub start_exact : (s : Setup) (p : Place) → within_limits s ≡ true → is_place s p ≡ true → sector_start s p % 2 ^ 64 ≡ sector_start s p
unfolding sector_start
start_exact s p w i = let h = start_small s p (limits s w) (inside s p i) in omega (arith, h)
