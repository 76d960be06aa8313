-- `lines_are_singles`: what `pg_line` does with a setting and `pg_lines` with the rest is what `pg_lines` does with both.
-- Assumes nothing.
use Prim.Native.Nat.{ℕ, zero, suc, ◌+◌, ◌/◌, ◌%◌, ◌<◌, ◌≤◌}
use mathlib.Core.Path.{◌≡◌, refl, sym, ap, ap₂, ◌∙◌}
use mathlib.Core.Bool.{Bool, true, false}
use mathlib.Core.List.{List, [], ◌∷◌}
use native.Mathlib.Omega.{arith}
use borrow.Author.Tests.{eqb-true, eqb-false, ne_eqb, ltb-false, le-ltb}
use lib.Dec.{eqb}
use lib.ListN.{length, get_or, set}
use lib.Seq.{set-set, set-get_or}
use Rattle.laws.specs.Pick.{pick}
use Rattle.laws.specs.Rows.{first, unless_refused}
use Rattle.laws.specs.Octets.{bit}
use Rattle.laws.proofs.Rows.{all_passed}
use Rattle.lines.specs.Follower.{is_reached, step_rows, step_of}
use Rattle.lines.specs.Traces.{after, answers}
use Rattle.lines.specs.Reading.{octet_of, answers_in, read_rows, step_by_step}
use Rattle.lines.proofs.Step.{unreached_refused}
use Rattle.lines.proofs.Reached.{reached_below_32, step_stays}
use Rattle.lines.specs.declared.follower.Follower.{Follower}
use Rattle.lines.specs.declared.follower.Followed.{Followed}
use Rattle.pantoglide.specs.Line.{setting_in, follower_in, follower_octet, LineFollowed}
use Rattle.pantoglide.specs.Lines.{lines_rows, octet_left, LinesRead, LinesAreSingles}
use Rattle.pantoglide.proofs.Lines.{numbered, with_octet}
use Rattle.pantoglide.proofs.LinesFollow.{lines_follow}

-- ---- an octet that a trace reaches is written back as it was

even : (m : ℕ) → eqb (m % 2) 1 ≡ false → m % 2 ≡ 0
even m e = omega (arith, eqb-false (m % 2) 1 e)

-- of two neighbours the one whose remainder by 2 is known
which : (m low odd : ℕ) → low ≤ m → m < low + 2 → m % 2 ≡ odd → low % 2 ≡ 0 → odd < 2 → m ≡ low + odd
which m low odd a b c d e = omega arith

by_bits : (n : ℕ) (b5 b6 : Bool) → eqb (n / 32 % 2) 1 ≡ b5 → eqb (n / 64 % 2) 1 ≡ b6 → n < 128 → n % 32 + pick b5 32 0 + pick b6 64 0 ≡ n
unfolding pick
by_bits n true true e f h =
    let x : n / 64 ≡ 1 = which (n / 64) 0 1 (omega arith) (omega arith) (eqb-true (n / 64 % 2) 1 f) refl (omega arith) in
    let y : n / 32 ≡ 3 = which (n / 32) 2 1 (omega arith) (omega arith) (eqb-true (n / 32 % 2) 1 e) refl (omega arith) in
    omega arith
by_bits n true false e f h =
    let x : n / 64 ≡ 0 = which (n / 64) 0 0 (omega arith) (omega arith) (even (n / 64) f) refl (omega arith) in
    let y : n / 32 ≡ 1 = which (n / 32) 0 1 (omega arith) (omega arith) (eqb-true (n / 32 % 2) 1 e) refl (omega arith) in
    omega arith
by_bits n false true e f h =
    let x : n / 64 ≡ 1 = which (n / 64) 0 1 (omega arith) (omega arith) (eqb-true (n / 64 % 2) 1 f) refl (omega arith) in
    let y : n / 32 ≡ 2 = which (n / 32) 2 0 (omega arith) (omega arith) (even (n / 32) e) refl (omega arith) in
    omega arith
by_bits n false false e f h =
    let x : n / 64 ≡ 0 = which (n / 64) 0 0 (omega arith) (omega arith) (even (n / 64) f) refl (omega arith) in
    let y : n / 32 ≡ 0 = which (n / 32) 0 0 (omega arith) (omega arith) (even (n / 32) e) refl (omega arith) in
    omega arith

-- bit 7 is clear
low : (octet : ℕ) (high : Bool) → bit 7 octet ≡ high → octet < 256 → pick high 32 (octet % 32) < 32 → octet < 128
unfolding pick
low octet true e h s = absurd (omega arith)
low octet false e h s = let a = even (octet / 128) e in omega arith

written_back : (octet : ℕ) → octet < 256 → is_reached (follower_in octet) ≡ true → follower_octet (follower_in octet) ≡ octet
unfolding follower_octet follower_in setting_in pick
written_back octet h e =
    let small = reached_below_32 (follower_in octet) e in
    let under = low octet (bit 7 octet) refl h small in
    let clear : bit 7 octet ≡ false = ne_eqb (octet / 128 % 2) 1 (λ one. omega arith) in
    rw clear (let m : octet % 32 % 32 ≡ octet % 32 = omega arith in rw m (by_bits octet (bit 5 octet) (bit 6 octet) refl refl under))

stays : (octets : List ℕ) → get_or octets 0 0 < 256 → (reached : Bool) → is_reached (follower_in (get_or octets 0 0)) ≡ reached → octets ≡ octet_left octets (follower_in (get_or octets 0 0))
unfolding pick
stays octets h true e = rw e (sym (ap (set octets 0) (written_back (get_or octets 0 0) h e) ∙ set-get_or octets 0 0))
stays octets h false e = rw e

no_setting : {octets : List ℕ} (room : List ℕ) → 1 ≤ length octets → get_or octets 0 0 < 256 → LinesRead step_by_step octets [] room 0 octets room
unfolding after answers pick
no_setting {octets} room there h =
    record {
      refusal = sym (with_octet octets (read_rows [] room) there ∙ rw (le-ltb (length room) 0 (omega arith)));
      follower = stays octets h (is_reached (follower_in (get_or octets 0 0))) refl;
      answers = refl;
    }

-- ---- a setting more

module _ {octets : List ℕ} {setting r : ℕ} {octets₁ trace room octets₂ room₁ : List ℕ} (slot : ℕ) (there : 1 ≤ length octets) (w : LineFollowed octets setting r octets₁)
    (v : LinesRead step_by_step octets₁ trace room 0 octets₂ room₁) where
  abbrev before : Follower
  before = follower_in (get_or octets 0 0)

  abbrev next : Follower
  next = (step_of before setting).follower

  followed : follower_in (get_or octets₁ 0 0) ≡ next
  followed = lines_follow.next there w

  number : r ≡ octet_of (step_of before setting).answer
  number = (rw (with_octet octets (step_rows before setting) there) at w.answer) ∙ numbered before setting

  put : octets₁ ≡ unless_refused (first (step_rows before setting)) octets (set octets 0 (follower_octet next))
  put = rw (with_octet octets (step_rows before setting) there) at w.follower

  set_again : (n x : ℕ) → octets₁ ≡ unless_refused n octets (set octets 0 (follower_octet next)) → set octets₁ 0 x ≡ set octets 0 x
  set_again zero x e = rw e (set-set octets 0 (follower_octet next) x)
  set_again (suc n) x e = rw e

  left_by : (last : Follower) (reached : Bool) → is_reached before ≡ reached → octet_left octets₁ last ≡ octet_left octets last
  unfolding pick
  left_by last true e =
      let reached : is_reached (follower_in (get_or octets₁ 0 0)) ≡ true = ap is_reached followed ∙ step_stays before setting e in
      rw (reached, e) (set_again (first (step_rows before setting)) (follower_octet last) put)
  left_by last false e =
      let same : next ≡ before = ap (λ (d : Followed). d.follower) (unreached_refused before setting e) in
      let unreached : is_reached (follower_in (get_or octets₁ 0 0)) ≡ false = ap is_reached (followed ∙ same) ∙ e in
      rw (unreached, e) (put ∙ rw e)

  enough : length trace ≤ length room
  enough = ltb-false (length room) (length trace) (all_passed (lines_rows octets₁ trace room) refl (sym v.refusal)).1.0

  both : LinesRead step_by_step octets (setting ∷ trace) (slot ∷ room) 0 octets₂ (r ∷ room₁)
  unfolding after answers pick
  both =
      record {
        refusal = sym (with_octet octets (read_rows (setting ∷ trace) (slot ∷ room)) there ∙ rw (le-ltb (length (slot ∷ room)) (length (setting ∷ trace)) (omega (arith, enough))));
        follower = v.follower ∙ ap (λ (f : Follower). octet_left octets₁ (after f trace)) followed ∙ left_by (after next trace) (is_reached before) refl;
        answers = ap₂ (λ (n : ℕ) (list : List ℕ). n ∷ list) number (v.answers ∙ ap (λ (f : Follower). answers_in room (step_by_step f trace)) followed);
      }

pub lines_are_singles : LinesAreSingles
lines_are_singles = record { none = no_setting; one_more = λ slot there w v. both slot there w v }
