-- An encoded data field, taken apart: what a decoding reads off it is what was written.
-- Assumes nothing.
use Prim.Native.Nat.{ℕ, zero, suc, ◌+◌, ◌-◌, ◌*◌, ◌≤◌, ◌<◌}
use mathlib.Core.Path.{◌≡◌, refl, sym, ap, ◌∙◌}
use mathlib.Core.Bool.{true, false}
use mathlib.Core.List.{List, [], ◌∷◌, ◌++◌, append_assoc}
use native.Mathlib.Omega.{arith}
use lib.ListN.{length, get_or, take, replicate, length-append, get_or-replicate, replicate-append-replicate, get_or-append}
use lib.Seq.{take_at, drop_at, get_or-append-add, get_or-set_other}
use Rattle.laws.specs.Pick.{pick}
use Rattle.laws.specs.Octets.{number_of, octets_of}
use Rattle.laws.proofs.Octets.{number_of_octets}
use Rattle.parts.specs.declared.setup.Setup.{Setup}
use Rattle.defects.specs.Crc.{crc_of}
use Rattle.defects.specs.Defect.{number_at, defect_at, defect_octets, list_octets, is_blank}
use Rattle.defects.specs.DefectRoundTrip.{Fitting}
use Rattle.defects.specs.Field.{front_of, crc_in, slots, defects_from, defects_in}
use Rattle.defects.specs.Place.{field_octets}
use Rattle.defects.specs.Encoding.{Value, defects_of_set, set_flags, front_octets, body_octets, data_field}
use Rattle.defects.specs.declared.defect.Defect.{Defect}
use Rattle.defects.specs.declared.front.Front.{Front}
use Rattle.defects.proofs.CrcLaws.{fits}
use Rattle.defects.proofs.DefectOctets.{length_defect_octets, length_list, defect_at_drop, defect_of_octets}
use Rattle.defects.proofs.Bodies.{few_entries, length_front, length_body, length_field, renumbered}
use Rattle.defects.proofs.EncodableValue.{AllEntries, sets, Encodable, entries_taken, entries_dropped}

abbrev zeros : ℕ → List ℕ
zeros count = replicate count 0

-- ---- the entries, behind octets in front and before zeros

pub defect_behind : (d : Defect) (front rest : List ℕ) (at : ℕ) → length front ≡ at → Fitting d → defect_at at (front ++ (defect_octets d ++ rest)) ≡ d
defect_behind d front rest at e f =
    defect_at_drop at (front ++ (defect_octets d ++ rest)) ∙ ap (defect_at 0) (drop_at front (defect_octets d ++ rest) at e) ∙ defect_of_octets d rest f

zeros_are_blank : (more : ℕ) (rest : List ℕ) → is_blank (defect_at 0 (zeros 12 ++ zeros more ++ rest)) ≡ true
unfolding is_blank number_at
zeros_are_blank more rest = refl

blank_behind : (front rest : List ℕ) (at count : ℕ) → length front ≡ at → 12 ≤ count → is_blank (defect_at at (front ++ (zeros count ++ rest))) ≡ true
blank_behind front rest at count e h =
    let sum : 12 + (count - 12) ≡ count = omega arith in
    let split : zeros 12 ++ zeros (count - 12) ≡ zeros count = replicate-append-replicate 12 (count - 12) 0 ∙ ap zeros sum in
    ap is_blank (defect_at_drop at (front ++ (zeros count ++ rest)) ∙ ap (defect_at 0) (drop_at front (zeros count ++ rest) at e))
    ∙ rw (← split) (zeros_are_blank (count - 12) rest)

one_entry : (x d : Defect) (rest defects : List Defect) → x ≡ d → is_blank d ≡ false → rest ≡ defects → pick (is_blank x) [] (x ∷ rest) ≡ d ∷ defects
unfolding pick
one_entry x d rest defects e b r = rw (e, b, r)

no_entry : (x : Defect) (rest : List Defect) → is_blank x ≡ true → pick (is_blank x) [] (x ∷ rest) ≡ []
unfolding pick
no_entry x rest b = rw b

entries_read : (s : Setup) (defects : List Defect) (left at count : ℕ) (front rest : List ℕ)
    → length front ≡ at → AllEntries s defects → length defects ≤ left → 12 * left ≤ 12 * length defects + count
    → defects_from (front ++ (list_octets defects ++ (zeros count ++ rest))) at left ≡ defects
unfolding defects_from defect_octets
entries_read s [] zero at count front rest e f h z = refl
entries_read s [] (suc left) at count front rest e f h z = no_entry _ _ (blank_behind front rest at count e (omega arith))
entries_read s (d ∷ defects) zero at count front rest e f h z = absurd (omega arith)
entries_read s (d ∷ defects) (suc left) at count front rest e f h z =
    let tail = zeros count ++ rest in
    let next : length (front ++ defect_octets d) ≡ at + 12 = omega (arith, length-append front (defect_octets d), length_defect_octets d) in
    let below = entries_read s defects left (at + 12) count (front ++ defect_octets d) rest next f.1 (omega arith) (omega arith) in
    rw (append_assoc (defect_octets d) (list_octets defects) tail)
    (one_entry _ d _ defects (defect_behind d front (list_octets defects ++ tail) at e f.0.fitting) f.0.told
    (rw (append_assoc front (defect_octets d) (list_octets defects ++ tail)) at below))

-- ---- the CRC

crc_read : (body : List ℕ) → let field = body ++ octets_of 2 (crc_of body) in crc_in field ≡ crc_of (take (length field - 2) field)
unfolding number_at
crc_read body =
    let crc = octets_of 2 (crc_of body) in
    let field = body ++ crc in
    let end : length body ≡ length field - 2 = omega (arith, length-append body crc) in
    ap (λ (rest : List ℕ). number_of (take 2 rest)) (drop_at body crc (length field - 2) end)
    ∙ number_of_octets 2 (crc_of body) (fits body)
    ∙ ap crc_of (sym (take_at body crc (length field - 2) end))

-- ---- what is read off it

-- what is written in front
abbrev pub front_for : Setup → Value → ℕ → ℕ → Front
front_for s v set copy =
    record {
      count = field_octets s - 2;
      flags = set_flags s v set;
      copy = copy;
      sets = sets s v;
      set = set;
      cylinder = v.cylinder;
      head = v.head;
    }

pub set_entries : (s : Setup) (v : Value) (e : Encodable s v) (set : ℕ) → AllEntries s (defects_of_set s v set)
set_entries s v e set = entries_taken s (slots (field_octets s)) _ (entries_dropped s (set * slots (field_octets s)) v.defects e.entries)

-- octet 3 alone tells the copy
pub copy_told : (s : Setup) (v : Value) (set copy : ℕ) → get_or (data_field s v set copy) 3 0 ≡ copy
unfolding data_field body_octets front_octets
copy_told s v set copy = refl

pub crc_written : (s : Setup) (v : Value) (set copy : ℕ) → let field = data_field s v set copy in crc_in field ≡ crc_of (take (length field - 2) field)
unfolding data_field
crc_written s v set copy = crc_read (body_octets s v set copy)

module _ (s : Setup) (v : Value) (e : Encodable s v) (set copy : ℕ) where
  pub front_written : set < sets s v → front_of (data_field s v set copy) ≡ front_for s v set copy
  unfolding front_of number_at data_field body_octets front_octets
  front_written h =
      let l = e.limits in
      λ i. record {
        count = number_of_octets 2 (field_octets s - 2) (omega arith) i;
        flags = set_flags s v set;
        copy = copy;
        sets = number_of_octets 2 (sets s v) (omega arith) i;
        set = number_of_octets 2 set (omega arith) i;
        cylinder = number_of_octets 4 v.cylinder (omega arith) i;
        head = number_of_octets 2 v.head (omega arith) i;
      }

  pub defects_written : defects_in (data_field s v set copy) ≡ defects_of_set s v set
  unfolding data_field body_octets
  defects_written =
      let defects = defects_of_set s v set in
      let front = front_octets s v set copy in
      let padding = zeros (field_octets s - 16 - length (list_octets defects)) in
      let crc = octets_of 2 (crc_of (body_octets s v set copy)) in
      rw (length_field s v set copy e.field1, append_assoc (front ++ list_octets defects) padding crc, append_assoc front (list_octets defects) (padding ++ crc))
      (entries_read s defects (slots (field_octets s)) 14 (field_octets s - 16 - length (list_octets defects)) front crc
      (length_front s v set copy) (set_entries s v e set) (few_entries s v set) (omega (arith, few_entries s v set, length_list defects)))

  in_body : (i : ℕ) → i < field_octets s - 2 → get_or (data_field s v set copy) i 0 ≡ get_or (body_octets s v set copy) i 0
  unfolding data_field
  in_body i h = get_or-append (body_octets s v set copy) _ 0 i (rw (length_body s v set copy e.field1) h)

  pub padding_written : (i : ℕ) → 14 + 12 * length (defects_of_set s v set) ≤ i → i < field_octets s - 2 → get_or (data_field s v set copy) i 0 ≡ 0
  unfolding body_octets
  padding_written i h l =
      let defects = defects_of_set s v set in
      let written = front_octets s v set copy ++ list_octets defects in
      let count = field_octets s - 16 - length (list_octets defects) in
      let long : length written ≡ 14 + 12 * length defects = simp (length-append, length_front, length_list) in
      let at : length written + (i - length written) ≡ i = omega arith in
      in_body i l
      ∙ ap (λ (j : ℕ). get_or (written ++ zeros count) j 0) (sym at)
      ∙ get_or-append-add written (zeros count) (i - length written) 0
      ∙ get_or-replicate count (i - length written) 0 0 (omega (arith, length_list defects))

pub copies_alike : (s : Setup) (v : Value) (e : Encodable s v) (set copy i : ℕ) → i < field_octets s - 2 → (i ≡ 3 → ⊥)
    → get_or (data_field s v set copy) i 0 ≡ get_or (data_field s v set 0) i 0
copies_alike s v e set copy i h other =
    in_body s v e set copy i h
    ∙ ap (λ (body : List ℕ). get_or body i 0) (sym (renumbered s v set 0 copy))
    ∙ get_or-set_other (body_octets s v set 0) 3 i copy 0 other
    ∙ sym (in_body s v e set 0 i h)
