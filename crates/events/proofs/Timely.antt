-- A state that row 11 lets pass has no control but that of an open transfer, and its upper two bits tell what is open.
-- Assumes nothing.
use Rattle.std.proofs.Common.{◌≡◌, ℕ, ◌/◌, Bool, true, false, not, ◌&&◌, ◌||◌, eqb, leb, List, [], ◌∷◌, sym, refl, ◌∙◌, arith, eq-eqb, ne_eqb}
use mathlib.Core.Bool.{false≢true}
use borrow.Author.Tests.{eqb-false, not-true, not-false}
use Rattle.laws.specs.Rows.{first, ◌when◌}
use Rattle.laws.proofs.Tests.{and_l, and_r, or_l, or_r}
use Rattle.laws.specs.Pick.{pick}
use Rattle.refusals.specs.Refusal.{number}
use Rattle.refusals.specs.declared.refusal.Refusal.{Refusal}
use Rattle.refusals.proofs.OnPaper.{number_is_not_0}
use Rattle.parts.specs.Control.{control_of, is_write, is_read, takes_words, gives_words, is_data, words_to_come}
use Rattle.parts.specs.Holding.{nobody}
use Rattle.parts.specs.Tests.{is_taking, is_giving, is_open, is_broken_transfer}
use Rattle.parts.specs.declared.setup.Setup.{Setup}
use Rattle.parts.specs.declared.holding.Holding.{Holding}
use Rattle.parts.specs.declared.transfer.Transfer.{Transfer}
use Rattle.parts.proofs.ByBits.{writes_take, reads_give, UpperBits, upper_bits}
use Rattle.drive.specs.Refusal.{row11}
use Rattle.drive.specs.declared.drive.Drive.{Drive}
use Rattle.drive.proofs.Sound.{sound}
use Rattle.events.specs.State.{drive_in}
use Rattle.events.specs.Fit.{Fit}

-- a control that is not 0 takes words or gives them
opens : (s : Setup) (h : Holding) (t : Transfer) → is_broken_transfer s h t ≡ false → (t.control ≡ 0 → ⊥) → (is_taking t || is_giving t) ≡ true
unfolding is_broken_transfer
opens s h t b n =
    let opened : is_open t ≡ true = rw (ne_eqb t.control 0 n) in
    let rest : (eqb h.selected nobody || not (is_taking t || is_giving t) || leb (words_to_come s t.control) t.moved) ≡ false = rw opened at b in
    not-false (is_taking t || is_giving t) (or_r (eqb h.selected nobody) (not (is_taking t || is_giving t)) (or_l (eqb h.selected nobody || not (is_taking t || is_giving t)) (leb (words_to_come s t.control) t.moved) rest))

-- what the control's word says of what is open
pub timely_told : {state : List ℕ} → Fit state → UpperBits (drive_in state).transfer.control
timely_told {state} f = told_of (drive_in state) f.sound
  where
    told_of : (d : Drive) → row11 d ≡ false → UpperBits d.transfer.control
    told_of d h = upper_bits d.transfer.control (by_control_lem (eqb d.transfer.control 0) refl)
      where
        by_control_lem : (none : Bool) → eqb d.transfer.control 0 ≡ none → (none || (is_taking d.transfer || is_giving d.transfer)) ≡ true
        by_control_lem true z = refl
        by_control_lem false z = opens d.setup d.holding d.transfer (sound d h).transfer (eqb-false d.transfer.control 0 z)

-- what takes words is a write or a command, and what gives them a read or a response
two_kinds : (words high : Bool) → (words && high || words && not high) ≡ words
two_kinds true true = refl
two_kinds true false = refl
two_kinds false high = refl

takes_told : (c : ℕ) → (is_write (control_of c) || takes_words (control_of c) && not (is_data c)) ≡ takes_words (control_of c)
takes_told c = rw (writes_take c) (two_kinds (takes_words (control_of c)) (is_data c))

gives_told : (c : ℕ) → (is_read (control_of c) || gives_words (control_of c) && not (is_data c)) ≡ gives_words (control_of c)
gives_told c = rw (reads_give c) (two_kinds (gives_words (control_of c)) (is_data c))

-- ---- kinds 4 and 5, by the bits

pub write_sent : {c : ℕ} → UpperBits c → c / 64 ≡ 2 → is_write (control_of c) ≡ true
write_sent {c} b e = sym b.write ∙ eq-eqb (c / 64) 2 e

pub record Command (c : ℕ) : Type 0 where
  pub takes : takes_words (control_of c) ≡ true
  pub low : is_data c ≡ false

pub command_sent : {c : ℕ} → UpperBits c → (not (eqb (c / 64) 0) || eqb c 0) ≡ false → Command c
command_sent {c} b e =
    let here = not-false (eqb (c / 64) 0) (or_l (not (eqb (c / 64) 0)) (eqb c 0) e) in
    let both : (takes_words (control_of c) && not (is_data c)) ≡ true = sym b.command ∙ rw (here, or_r (not (eqb (c / 64) 0)) (eqb c 0) e) in
    record { takes = and_l (takes_words (control_of c)) (not (is_data c)) both; low = not-true (is_data c) (and_r (takes_words (control_of c)) (not (is_data c)) both) }

pub none_sent : {c : ℕ} → UpperBits c → (c / 64 ≡ 2 → ⊥) → (not (eqb (c / 64) 0) || eqb c 0) ≡ true → takes_words (control_of c) ≡ false
none_sent {c} b n e =
    sym (takes_told c) ∙ rw (← b.write, ne_eqb (c / 64) 2 n, ← b.command) (neither (eqb (c / 64) 0) (eqb c 0) e)
  where
    neither : (here none : Bool) → (not here || none) ≡ true → (here && not none) ≡ false
    neither true true h = refl
    neither true false h = absurd (false≢true h)
    neither false none h = refl

pub record ReadOpen (c : ℕ) : Type 0 where
  pub read : is_read (control_of c) ≡ true
  pub gives : gives_words (control_of c) ≡ true
  pub high : is_data c ≡ true

pub read_told : {c : ℕ} → UpperBits c → c / 64 ≡ 3 → ReadOpen c
read_told {c} b e =
    let read = sym b.read ∙ eq-eqb (c / 64) 3 e in
    let both = sym (reads_give c) ∙ read in
    record { read = read; gives = and_l (gives_words (control_of c)) (is_data c) both; high = and_r (gives_words (control_of c)) (is_data c) both }

pub record ResponseOpen (c : ℕ) : Type 0 where
  pub gives : gives_words (control_of c) ≡ true
  pub low : is_data c ≡ false

pub response_told : {c : ℕ} → UpperBits c → c / 64 ≡ 1 → ResponseOpen c
response_told {c} b e =
    let both = sym b.response ∙ eq-eqb (c / 64) 1 e in
    record { gives = and_l (gives_words (control_of c)) (not (is_data c)) both; low = not-true (is_data c) (and_r (gives_words (control_of c)) (not (is_data c)) both) }

pub none_told : {c : ℕ} → UpperBits c → (c / 64 ≡ 3 → ⊥) → (c / 64 ≡ 1 → ⊥) → gives_words (control_of c) ≡ false
none_told {c} b n m = sym (gives_told c) ∙ rw (← b.read, ne_eqb (c / 64) 3 n, ← b.response, ne_eqb (c / 64) 1 m)

-- ---- the numbers

-- the number of `refusal` is that of a kind's own rows, when its octets and the control say what these ask
pub number_as : (unselected : Bool) {n : ℕ} {formed formed' untimely untimely' : Bool} → n ≡ first (8 when not formed ∷ 2 when unselected ∷ 7 when untimely ∷ [])
    → formed ≡ formed' → untimely ≡ untimely' → n ≡ first (8 when not formed' ∷ 2 when unselected ∷ 7 when untimely' ∷ [])
number_as unselected e f t = rw (← f, ← t) e

front : (malformed unselected untimely : Bool) (refusal : Refusal) → number refusal ≡ first (8 when malformed ∷ 2 when unselected ∷ [])
    → number refusal ≡ first (8 when malformed ∷ 2 when unselected ∷ 7 when untimely ∷ [])
unfolding pick
front true unselected untimely refusal e = e
front false true untimely refusal e = e
front false false untimely refusal e = absurd (number_is_not_0 refusal e)

behind : (malformed unselected untimely : Bool) → 0 ≡ first (8 when malformed ∷ 2 when unselected ∷ [])
    → pick untimely 7 0 ≡ first (8 when malformed ∷ 2 when unselected ∷ 7 when untimely ∷ [])
unfolding pick
behind true unselected untimely h = let e : ◌≡◌ {A = ℕ} 0 8 = h in absurd (omega arith)
behind false true untimely h = let e : ◌≡◌ {A = ℕ} 0 2 = h in absurd (omega arith)
behind false false untimely h = refl

-- the number of `stranger` where it is one, and where it is none
pub number_front : (refusal : Refusal) (unselected untimely : Bool) {formed formed' : Bool} → number refusal ≡ first (8 when not formed ∷ 2 when unselected ∷ []) → formed ≡ formed'
    → number refusal ≡ first (8 when not formed' ∷ 2 when unselected ∷ 7 when untimely ∷ [])
number_front refusal unselected untimely {formed' = formed'} e f = front (not formed') unselected untimely refusal (rw f at e)

pub number_passed : (unselected untimely : Bool) {formed formed' : Bool} → 0 ≡ first (8 when not formed ∷ 2 when unselected ∷ []) → formed ≡ formed'
    → untimely ≡ false → 0 ≡ first (8 when not formed' ∷ 2 when unselected ∷ 7 when untimely ∷ [])
unfolding pick
number_passed unselected untimely {formed' = formed'} e f u = rw u (behind (not formed') unselected false (rw f at e))

pub number_last : (unselected untimely : Bool) {formed formed' : Bool} → 0 ≡ first (8 when not formed ∷ 2 when unselected ∷ []) → formed ≡ formed'
    → untimely ≡ true → 7 ≡ first (8 when not formed' ∷ 2 when unselected ∷ 7 when untimely ∷ [])
unfolding pick
number_last unselected untimely {formed' = formed'} e f u = rw u (behind (not formed') unselected true (rw f at e))
