-- A commit, word by word: those of the header go where they stand, those of the fields where they stand or behind a field 1 that is not named.
-- Assumes nothing.
use Rattle.std.proofs.Common.{◌≡◌, ℕ, ◌+◌, ◌-◌, ◌<◌, ◌≤◌, Bool, true, false, ◌⊎◌, List, length, get_or, drop, set, sym, refl, ap, ◌∙◌, inl, inr, arith, length-drop, drop-drop}
use lib.Seq.{length-paste, paste, paste-zero}
use Rattle.laws.specs.Pick.{pick}
use Rattle.laws.proofs.Pick.{pick_le}
use Rattle.laws.proofs.Windows.{copy_step, paste_on}
use Rattle.parts.specs.Control.{moves_header, names_field1, names_field2, part}
use Rattle.parts.specs.declared.setup.Setup.{Setup}
use Rattle.drive.specs.Transfer.{committed}
use Rattle.drive.specs.Able.{Room}
use Rattle.events.specs.Copy as copy

-- word k of those from `from` on goes behind the ones before it
next_word_lem : (d staging : List ℕ) (at from end k : ℕ) → from ≤ k → k < end → at + (end - from) ≤ length d → end ≤ length staging
    → set (paste d at (drop from staging) (k - from)) (at + (k - from)) (get_or staging k 0) ≡ paste d at (drop from staging) (k + 1 - from)
next_word_lem d staging at from end k f h room stage =
    let word : k ≡ from + (k - from) = omega arith in
    let next : k - from + 1 ≡ k + 1 - from = omega arith in
    ap (λ (i : ℕ). set (paste d at (drop from staging) (k - from)) (at + (k - from)) (get_or staging i 0)) word
    ∙ copy_step d at staging from (end - from) (k - from) (omega arith) room (omega arith)
    ∙ ap (λ (n : ℕ). paste d at (drop from staging) n) next

module _ (d staging : List ℕ) (start first header fields : ℕ) where
  abbrev headed : ℕ → List ℕ
  headed k = copy.headed d staging start first k

  abbrev fielded : ℕ → List ℕ
  fielded n = copy.fielded d staging start first header fields n

  abbrev Within : ℕ → Type 0
  Within count = copy.Within d staging start first header fields count

  -- Word k is the next, and this its place, but that the first word of the fields still has to go to theirs.
  abbrev pub Committing : ℕ → ℕ → List ℕ → Type 0
  Committing k at l = ((k ≤ header) × (at ≡ start + k) × (l ≡ headed k)) ⊎ ((header < k) × (at ≡ fields + (k - header)) × (l ≡ fielded (k - header)))

  pub committing_start : first ≤ header → Committing first (start + first) d
  committing_start h =
      let z : 0 ≡ first - first = omega arith in
      inl (h, refl, paste-zero d (start + first) (drop first staging) ∙ ap (λ (n : ℕ). paste d (start + first) (drop first staging) n) z)

  -- a turn that goes to the fields' place, or not
  abbrev pub Turned : Type 0 → Type 0 → ℕ → ℕ → Type 0
  Turned Goes Not at at' = ((g : Goes) × (at' ≡ fields)) ⊎ ((n : Not) × (at' ≡ at))

  pub place_within : {Goes Not : Type 0} (k at at' count : ℕ) (l : List ℕ) → (Goes → k ≡ header) → (Not → k ≡ header → ⊥) → k < count → Committing k at l
      → Turned Goes Not at at' → Within count → at' < length d
  place_within k at at' count l goes not h (inl (b, a, e)) (inl (g, p)) w = let y = goes g in omega (arith, w.room)
  place_within k at at' count l goes not h (inl (b, a, e)) (inr (n, p)) w = let y = not n in omega (arith, w.sector)
  place_within k at at' count l goes not h (inr (b, a, e)) (inl (g, p)) w = let y = goes g in absurd (omega arith)
  place_within k at at' count l goes not h (inr (b, a, e)) (inr (n, p)) w = omega (arith, w.room)

  headed_length : (count : ℕ) → Within count → length (headed header) ≡ length d
  headed_length count w =
      length-paste d (start + first) (drop first staging) (header - first) (omega (arith, w.sector, w.from)) (simp length-drop (omega (arith, w.stage, w.from, w.headers)))

  header_word : (k count : ℕ) → Within count → first ≤ k → k < header → set (headed k) (start + k) (get_or staging k 0) ≡ headed (k + 1)
  header_word k count w f h =
      let at : start + k ≡ start + first + (k - first) = omega arith in
      ap (λ (i : ℕ). set (headed k) i (get_or staging k 0)) at
      ∙ next_word_lem d staging (start + first) first header k f h (omega (arith, w.sector, w.from)) (omega (arith, w.stage, w.headers))

  field_word : (k count : ℕ) → Within count → header ≤ k → k < count → set (fielded (k - header)) (fields + (k - header)) (get_or staging k 0) ≡ fielded (k + 1 - header)
  field_word k count w f h = next_word_lem (headed header) staging fields header count k f h (omega (arith, headed_length count w, w.room)) w.stage

  -- the first word of the fields follows all of the header's
  first_field : (k : ℕ) (l : List ℕ) → k ≡ header → l ≡ headed k → l ≡ fielded (k - header)
  first_field k l y e =
      let z : 0 ≡ k - header = omega arith in
      e ∙ ap (λ (n : ℕ). headed n) y ∙ paste-zero (headed header) fields (drop header staging) ∙ ap (λ (n : ℕ). fielded n) z

  pub committing_next : {Goes Not : Type 0} (k at at' count : ℕ) (l : List ℕ) → (Goes → k ≡ header) → (Not → k ≡ header → ⊥) → first ≤ k → k < count → Committing k at l
      → Turned Goes Not at at' → Within count → Committing (k + 1) (at' + 1) (set l at' (get_or staging k 0))
  committing_next k at at' count l goes not f h (inl (b, a, e)) (inl (g, p)) w =
      let y = goes g in
      let q : at' ≡ fields + (k - header) = omega arith in
      inr (omega arith, omega arith, rw (q, first_field k l y e) (field_word k count w (omega arith) h))
  committing_next k at at' count l goes not f h (inl (b, a, e)) (inr (n, p)) w =
      let y = not n in
      let q : at' ≡ start + k = omega arith in
      inl (omega arith, omega arith, rw (q, e) (header_word k count w f (omega arith)))
  committing_next k at at' count l goes not f h (inr (b, a, e)) (inl (g, p)) w = let y = goes g in absurd (omega arith)
  committing_next k at at' count l goes not f h (inr (b, a, e)) (inr (n, p)) w =
      let q : at' ≡ fields + (k - header) = omega arith in
      inr (omega arith, omega arith, rw (q, e) (field_word k count w (omega arith) h))

  pub all_in : (k at count : ℕ) (l : List ℕ) → k ≤ count → count ≤ k → Committing k at l → header ≤ count → l ≡ fielded (count - header)
  all_in k at count l h g (inl (b, a, e)) f =
      let c : k - header ≡ count - header = omega arith in
      first_field k l (omega arith) e ∙ ap (λ (n : ℕ). fielded n) c
  all_in k at count l h g (inr (b, a, e)) f =
      let c : k - header ≡ count - header = omega arith in
      e ∙ ap (λ (n : ℕ). fielded n) c

-- ---- as the definition has it: header, field 1, field 2

header_as : (moves : Bool) (d staging : List ℕ) (start n : ℕ)
    → paste d (start + (n - part moves n)) (drop (n - part moves n) staging) (n - (n - part moves n)) ≡ paste d start staging (part moves n)
unfolding pick
header_as true d staging start n =
    let z : n - n ≡ 0 = omega arith in
    let m : n - 0 ≡ n = omega arith in
    let w : start + 0 ≡ start = omega arith in
    rw (z, m, w)
header_as false d staging start n =
    let m : n - 0 ≡ n = omega arith in
    let z : n - n ≡ 0 = omega arith in
    rw (m, z) (sym (paste-zero d (start + n) (drop n staging)) ∙ paste-zero d start staging)

fields_as : (named : Bool) (d staging : List ℕ) (at n field1 field2 : ℕ) → at + field1 ≤ length d → field1 ≤ length (drop n staging)
    → paste d (at + (field1 - part named field1)) (drop n staging) (part named field1 + field2)
    ≡ paste (paste d at (drop n staging) (part named field1)) (at + field1) (drop (n + part named field1) staging) field2
unfolding pick
fields_as true d staging at n field1 field2 h g =
    let z : field1 - field1 ≡ 0 = omega arith in
    let w : at + 0 ≡ at = omega arith in
    rw (z, w, paste_on d at (drop n staging) field1 field2 h g, drop-drop field1 n staging)
fields_as false d staging at n field1 field2 h g =
    let m : field1 - 0 ≡ field1 = omega arith in
    let z : n + 0 ≡ n = omega arith in
    let o : 0 + field2 ≡ field2 = omega arith in
    rw (m, z, o) (ap (λ (x : List ℕ). paste x (at + field1) (drop n staging) field2) (paste-zero d at (drop n staging)))

pub committed_so : (s : Setup) (c start : ℕ) (d staging : List ℕ) (written field1 field2 : ℕ) → written ≡ part (moves_header c) s.header
    → field1 ≡ part (names_field1 c) s.field1 → field2 ≡ part (names_field2 c) s.field2 → Room s start d staging
    → fielded d staging start (s.header - written) s.header (start + s.header + s.field1 - field1) (s.header + field1 + field2 - s.header) ≡ committed s c start d staging
unfolding committed
committed_so s c start d staging written field1 field2 w f g room =
    let n : s.header + field1 + field2 - s.header ≡ field1 + field2 = omega arith in
    let p : start + s.header + s.field1 - field1 ≡ start + s.header + (s.field1 - field1) = omega (arith, f, pick_le (names_field1 c) s.field1) in
    let headed-first = paste d start staging (part (moves_header c) s.header) in
    let moved = pick_le (moves_header c) s.header in
    let l = length-paste d start staging (part (moves_header c) s.header) (omega (arith, room.sector, moved)) (omega (arith, room.stage, moved)) in
    let hd : start + s.header + s.field1 ≤ length headed-first = omega (arith, room.sector, l) in
    let hs : s.field1 ≤ length (drop s.header staging) = simp length-drop (omega (arith, room.stage)) in
    rw (n, p, w, f, g, header_as (moves_header c) d staging start s.header)
    (fields_as (names_field1 c) headed-first staging (start + s.header) s.header s.field1 (part (names_field2 c) s.field2) hd hs)
