-- A step of the walk over a map's data fields: what is due next and what is listed by then, before the map's end and behind it. Of every string.
-- Assumes nothing.
use Prim.Native.Nat.{ℕ, zero, suc, ◌+◌}
use mathlib.Core.Path.{◌≡◌, refl, sym, ap, ◌∙◌}
use mathlib.Core.Bool.{Bool, true, false, not, ◌&&◌, and-false}
use mathlib.Core.List.{List, [], ◌++◌, append_assoc, append-nil}
use native.Mathlib.Nat.{add-zero, add-suc}
use borrow.Author.Tests.{ne_eqb, eqb-true, eqb-false, not-true}
use lib.Dec.{eqb}
use Rattle.laws.specs.Pick.{pick}
use Rattle.laws.proofs.Pick.{cases}
use Rattle.laws.proofs.Tests.{and_l, and_r}
use Rattle.parts.specs.declared.setup.Setup.{Setup}
use Rattle.defects.specs.Field.{front_of, is_ignored, defects_in}
use Rattle.defects.specs.Walk.{is_ended, after_original, after_copy, after, field_at, walk_at, is_original, defects_before}
use Rattle.defects.specs.declared.defect.Defect.{Defect}
use Rattle.defects.specs.declared.walk.Walk.{Walk}

-- where a set begins the map has not ended, the data field is not ignored, and copy 0 is due
pub begins_set : (w : Walk) (field : List ℕ) → is_original w field ≡ true → (is_ended w ≡ false) × (is_ignored field ≡ false) × (eqb w.copy 0 ≡ true)
begins_set w field h =
    let both : (not (is_ended w) && not (is_ignored field)) ≡ true = and_l _ _ h in
    (not-true _ (and_l (not (is_ended w)) _ both), not-true _ (and_r (not (is_ended w)) _ both), and_r (not (is_ended w) && not (is_ignored field)) _ h)

-- a step of the walk: behind its end, past an ignored data field, past copy 0 and past another copy
pub next_step : (P : Walk → Type 0) (s : Setup) (octets : List ℕ) (k : ℕ)
    → let w = walk_at s octets k in
    let field = field_at s octets k in
    (is_ended w ≡ true → P w) → (is_ended w ≡ false → is_ignored field ≡ true → P w) → (is_original w field ≡ true → P (after_original w k (front_of field)))
    → (is_ended w ≡ false → is_ignored field ≡ false → (w.copy ≡ 0 → ⊥) → P (after_copy w)) → P (walk_at s octets (suc k))
unfolding walk_at after
next_step P s octets k ended ignored begins copies =
    let w = walk_at s octets k in
    let field = field_at s octets k in
    cases P (is_ended w) ended (λ going. cases P (is_ignored field) (ignored going) (λ heard.
    cases P (eqb w.copy 0) (λ first. begins (rw (going, heard, first))) (λ other. copies going heard (eqb-false _ _ other))))

-- between the copies of a set the map has not ended
pub going_on_lem : (w : Walk) → (w.copy ≡ 0 → ⊥) → is_ended w ≡ false
going_on_lem w other = rw (ne_eqb w.copy 0 other) (and-false w.last)

module _ (s : Setup) (octets : List ℕ) (k : ℕ) where
  -- ---- what is due

  pub walk_next : is_ended (walk_at s octets k) ≡ false → walk_at s octets (suc k) ≡ after (walk_at s octets k) k (field_at s octets k)
  unfolding walk_at pick
  walk_next going = rw going

  -- past a data field that is ignored, that begins a set, and that is another copy
  pub past_ignored : is_ended (walk_at s octets k) ≡ false → is_ignored (field_at s octets k) ≡ true → walk_at s octets (suc k) ≡ walk_at s octets k
  unfolding after pick
  past_ignored going ignored = walk_next going ∙ rw ignored

  pub past_original : is_original (walk_at s octets k) (field_at s octets k) ≡ true
      → walk_at s octets (suc k) ≡ after_original (walk_at s octets k) k (front_of (field_at s octets k))
  unfolding after pick
  past_original begins = let (going, heard, first) = begins_set (walk_at s octets k) (field_at s octets k) begins in walk_next going ∙ rw (heard, first)

  pub past_copy : is_ignored (field_at s octets k) ≡ false → ((walk_at s octets k).copy ≡ 0 → ⊥) → walk_at s octets (suc k) ≡ after_copy (walk_at s octets k)
  unfolding after pick
  past_copy heard other = walk_next (going_on_lem (walk_at s octets k) other) ∙ rw (heard, ne_eqb (walk_at s octets k).copy 0 other)

  -- ---- what is listed

  pub defects_next : is_ended (walk_at s octets k) ≡ false
      → defects_before s octets (suc k)
      ≡ defects_before s octets k ++ pick (not (is_ignored (field_at s octets k)) && eqb (walk_at s octets k).copy 0) (defects_in (field_at s octets k)) []
  unfolding defects_before
  defects_next going = rw going

  pub set_listed : is_original (walk_at s octets k) (field_at s octets k) ≡ true → defects_before s octets (suc k) ≡ defects_before s octets k ++ defects_in (field_at s octets k)
  unfolding defects_before pick
  set_listed begins = rw begins

  none_listed : is_original (walk_at s octets k) (field_at s octets k) ≡ false → defects_before s octets (suc k) ≡ defects_before s octets k
  unfolding defects_before pick
  none_listed other = rw other (append-nil (defects_before s octets k))

  pub next_listed : (P : Walk → List Defect → Type 0)
      → let w = walk_at s octets k in
      let field = field_at s octets k in
      let defects = defects_before s octets k in
      P w defects → (is_original w field ≡ true → P (after_original w k (front_of field)) (defects ++ defects_in field)) → ((w.copy ≡ 0 → ⊥) → P (after_copy w) defects)
      → P (walk_at s octets (suc k)) (defects_before s octets (suc k))
  next_listed P same begins copies =
      let w = walk_at s octets k in
      let field = field_at s octets k in
      next_step (λ (w' : Walk). P w' (defects_before s octets (suc k))) s octets k
      (λ ended. rw (none_listed (rw ended)) same) (λ going ignored. rw (none_listed (rw (going, ignored))) same) (λ first. rw (set_listed first) (begins first))
      (λ going heard other. rw (none_listed (rw (going, heard) (ne_eqb w.copy 0 other))) (copies other))

  -- another copy lists nothing anew
  pub copy_lists_none : ((walk_at s octets k).copy ≡ 0 → ⊥) → defects_before s octets (suc k) ≡ defects_before s octets k
  copy_lists_none other = by_test (is_original (walk_at s octets k) (field_at s octets k)) refl
    where
      by_test : (begins : Bool) → is_original (walk_at s octets k) (field_at s octets k) ≡ begins → defects_before s octets (suc k) ≡ defects_before s octets k
      by_test true e = absurd (other (eqb-true _ _ (begins_set (walk_at s octets k) (field_at s octets k) e).2))
      by_test false e = none_listed e

  -- what was listed stays listed
  pub listed_on : (more : ℕ) → (rest : List Defect) × (defects_before s octets (k + more) ≡ defects_before s octets k ++ rest)
  unfolding defects_before
  listed_on zero = ([], rw add-zero (sym (append-nil (defects_before s octets k))))
  listed_on (suc more) =
      let (rest, e) = listed_on more in
      let next = pick (is_original (walk_at s octets (k + more)) (field_at s octets (k + more))) (defects_in (field_at s octets (k + more))) [] in
      (rest ++ next, rw add-suc (ap (λ (defects : List Defect). defects ++ next) e ∙ append_assoc (defects_before s octets k) rest next))

  -- ---- behind the end

  pub still_ended : is_ended (walk_at s octets k) ≡ true → is_ended (walk_at s octets (suc k)) ≡ true
  unfolding walk_at pick
  still_ended e = rw e e

  pub ended_stays : (n : ℕ) → is_ended (walk_at s octets k) ≡ true → walk_at s octets (k + n) ≡ walk_at s octets k
  unfolding walk_at pick
  ended_stays zero e = rw add-zero
  ended_stays (suc n) e = rw (add-suc, ended_stays n e, e)

  pub defects_stay : (n : ℕ) → is_ended (walk_at s octets k) ≡ true → defects_before s octets (k + n) ≡ defects_before s octets k
  unfolding defects_before pick
  defects_stay zero e = rw add-zero
  defects_stay (suc n) e = rw (add-suc, ended_stays n e, e, defects_stay n e) (append-nil (defects_before s octets k))
