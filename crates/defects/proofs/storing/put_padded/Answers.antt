-- `defects::storing::put_padded` meets its contract: after i turns, i of the octets and the zeros behind them are pasted.
-- Assumes nothing.
use Prim.Native.Nat.{ℕ, zero, suc, ◌+◌, ◌-◌, ◌<◌, ◌≤◌}
use mathlib.Core.Path.{◌≡◌, refl, sym, ◌∙◌}
use mathlib.Core.List.{List, [], ◌∷◌, ◌++◌}
use native.Mathlib.Numerals.{add-one}
use native.Mathlib.Omega.{arith}
use Rattle.std.proofs.lemmas.Grind.{common_steps}
use lib.ListN.{length, get_or, replicate, length-append, length-replicate}
use lib.Seq.{paste-zero, paste-suc, take-length}
use Rattle.defects.proofs.storing.put_padded.Invariants.{padded}
use Rattle.defects.proofs.storing.put_padded.Goals as goal

length_padded : (octets : List ℕ) (room : ℕ) → length octets ≤ room → length (padded octets room) ≡ room
length_padded octets room h =
    let zeros = room - length octets in
    omega (arith, length-append octets (replicate zeros 0), length-replicate {A = ℕ} zeros 0)

-- zeros at the end are what is read behind the end
zeros_read : (n i : ℕ) → get_or {A = ℕ} (replicate n 0) i 0 ≡ 0
zeros_read zero i = refl
zeros_read (suc n) zero = refl
zeros_read (suc n) (suc i) = zeros_read n i

read_padded : (octets : List ℕ) (n i : ℕ) → get_or (octets ++ replicate n 0) i 0 ≡ get_or octets i 0
read_padded [] n i = zeros_read n i
read_padded (octet ∷ octets) n zero = refl
read_padded (octet ∷ octets) n (suc i) = read_padded octets n i

pub loop-i-init : goal.loop-i-init
loop-i-init c = paste-zero c.args.out.now c.args.at (padded c.args.octets.now (length c.args.out.now - c.args.at))

pub loop-i-preserved : goal.loop-i-preserved
loop-i-preserved c =
    let a = c.args in
    let i = c.loop-i.i in
    let room = length a.out.now - a.at in
    let octets = a.octets.now in
    let inside : a.at + i < length a.out.now = omega arith in
    let told : c.unwrap_or.result ≡ get_or octets i 0 = grind (arith, common_steps) in
    let octet = told ∙ sym (read_padded octets (room - length octets) i) in
    rw (c.loop-i.invariant, octet, add-one, paste-suc a.out.now a.at (padded octets room) i 0 inside (omega (arith, length_padded octets room (omega arith))))

pub returns : goal.returns
returns c =
    let a = c.args in
    let room = length a.out.now - a.at in
    let all : c.loop-i.i ≡ length (padded a.octets.now room) = omega (arith, length_padded a.octets.now room (omega arith)) in
    rw (c.loop-i.invariant, all, take-length (padded a.octets.now room))
