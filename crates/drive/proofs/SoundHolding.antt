-- A sound drive whose holding or transfer an event has changed is sound: selection, deselection, reset, a word more, an end; and so is power-up.
-- Assumes nothing.
use Prim.Native.Nat.{ℕ, ◌<◌}
use mathlib.Core.Path.{◌≡◌, refl}
use mathlib.Core.Bool.{Bool, true, false, not, ◌&&◌, ◌||◌, and-false, true≢false}
use native.Mathlib.Omega.{arith}
use borrow.Author.Tests.{eqb-true, lt-leb, le-ltb, eq-eqb, ne_eqb, not-false}
use lib.Dec.{eqb, ltb, leb}
use Rattle.laws.proofs.Pick.{either}
use Rattle.laws.proofs.Tests.{or_l, or_r}
use Rattle.parts.specs.Setup.{within_limits, is_place, is_target}
use Rattle.parts.specs.Control.{control_of, takes_words, gives_words, words_to_come}
use Rattle.parts.specs.Holding.{nobody, holds, free, with_hold, granted_to, hold_set, released, released_from}
use Rattle.drive.specs.State.{at_place, with_holding, with_transfer}
use Rattle.parts.specs.Tests.{transferring_with, no_transfer, is_open, is_disowned, is_broken_transfer, has_stray_bit}
use Rattle.drive.specs.Drive.{owner_noticed, selected, deselected, after_reset, closed, ended}
use Rattle.drive.specs.Power.{at_rest}
use Rattle.drive.specs.Refusal.{is_one_open}
use Rattle.parts.specs.declared.holding.Hold.{Hold}
use Rattle.parts.specs.declared.holding.Hold.TheVariants.{None, Plain, Strong}
use Rattle.parts.specs.declared.holding.Holding.{Holding}
use Rattle.parts.specs.declared.transfer.Parameters.{Parameters}
use Rattle.parts.specs.declared.transfer.Transfer.{Transfer}
use Rattle.parts.specs.declared.setup.Setup.{Setup}
use Rattle.drive.specs.declared.drive.Drive.{Drive}
use Rattle.parts.proofs.Bounds.{limits, inside}
use Rattle.drive.proofs.Sound.{Sound}
use Rattle.drive.proofs.SoundPlace.{is_place_lem, following_below, place_kept, posted_kept, pending_stray, notice_stray}

-- ---- who holds the drive, and the transfer

-- who holds, with a transfer open or not
record Owned (h : Holding) (open' : Bool) : Type 0 where
  selected : (not (eqb h.selected nobody) && not (eqb h.selected h.owner)) ≡ false
  hold : ((holds h.hold || open') && eqb h.owner nobody) ≡ false
  owner : (not (eqb h.owner nobody) && eqb h.selected nobody && not (holds h.hold)) ≡ false

owned : (h : Holding) (t : Transfer) → is_disowned h t ≡ false → Owned h (is_open t)
unfolding is_disowned
owned h t e = record { selected = search (or_l, or_r); hold = search (or_l, or_r); owner = search (or_l, or_r) }

not_disowned : (h : Holding) (t : Transfer) → Owned h (is_open t) → is_disowned h t ≡ false
unfolding is_disowned
not_disowned h t o = rw (o.selected, o.hold, o.owner)

-- a change of who holds, and of the transfer
held_kept : {d : Drive} {h : Holding} {t : Transfer} → Sound d → ltb nobody h.selected ≡ false → ltb nobody h.owner ≡ false → Owned h (is_open t)
    → is_broken_transfer d.setup h t ≡ false → Sound (with_transfer (with_holding d h) t)
held_kept {d} {h} {t} s selected owner o b =
    record {
      limits = s.limits;
      selected = selected;
      owner = owner;
      place = s.place;
      target = s.target;
      owned = not_disowned h t o;
      transfer = b;
      bits0 = s.bits0;
      bits1 = s.bits1;
    }

nothing_open : (hold open' free : Bool) → ((hold || open') && free) ≡ false → ((hold || false) && free) ≡ false
nothing_open true open' free e = e
nothing_open false open' free e = refl

pub closed_kept : {d : Drive} → Sound d → Sound (closed d)
unfolding closed is_broken_transfer
closed_kept {d} s =
    let o = owned d.holding d.transfer s.owned in
    let hold = nothing_open (holds d.holding.hold) (is_open d.transfer) _ o.hold in
    held_kept s s.selected s.owner (record { selected = o.selected; hold = hold; owner = o.owner }) refl

pub ended_kept : {d : Drive} → Sound d → Sound (ended d)
unfolding ended closed
ended_kept {d} s =
    let l = limits d.setup s.limits in
    let i = inside d.setup d.place s.place in
    let next = following_below d.place.sector d.setup.sectors l.some_sector in
    closed_kept (place_kept s (is_place_lem d.setup _ (record { cylinder = i.cylinder; head = i.head; sector = next })))

-- the selected port is the owner
owned_by_selected : (h : Holding) {open' : Bool} → eqb h.selected nobody ≡ false → Owned h open' → eqb h.owner nobody ≡ false
owned_by_selected h n o =
    let e : not (eqb h.selected h.owner) ≡ false = rw n at o.selected in
    rw (← (eqb-true h.selected h.owner (not-false (eqb h.selected h.owner) e))) n

pub transfer_kept : {d : Drive} {c moved : ℕ} {p : Parameters} → Sound d → eqb d.holding.selected nobody ≡ false
    → (takes_words (control_of c) || gives_words (control_of c)) ≡ true → moved < words_to_come d.setup c → Sound (with_transfer d (transferring_with c moved p))
unfolding is_broken_transfer
transfer_kept {d} {c} {moved} {p} s n opens h =
    let o = owned d.holding d.transfer s.owned in
    let t = transferring_with c moved p in
    held_kept s s.selected s.owner
    (record { selected = o.selected; hold = rw (owned_by_selected d.holding n o) (and-false (holds d.holding.hold || is_open t)); owner = o.owner })
    (rw (n, opens, lt-leb (words_to_come d.setup c) moved h) (and-false (is_open t)))

-- a hold by command: the selected port is the owner, whatever its hold
pub hold_kept : {d : Drive} (hold : Hold) → Sound d → eqb d.holding.selected nobody ≡ false → Sound (with_holding d (with_hold d.holding hold))
unfolding is_broken_transfer
hold_kept {d} hold s n =
    let o = owned d.holding d.transfer s.owned in
    let mine = owned_by_selected d.holding n o in
    held_kept {t = d.transfer} s s.selected s.owner
    (record { selected = o.selected; hold = rw mine (and-false (holds hold || is_open d.transfer)); owner = rw (mine, n) })
    s.transfer

-- ---- selection, deselection, reset

noticed_kept : {d : Drive} (port : ℕ) → Sound d → Sound (owner_noticed d port)
unfolding owner_noticed
noticed_kept {d} port s = either Sound _ (posted_kept d.holding.owner _ s (notice_stray _ (pending_stray d.holding.owner s))) s

granted_kept : {d : Drive} (port octet : ℕ) → port < nobody → Sound d → Sound (with_transfer (with_holding d (granted_to port octet)) no_transfer)
unfolding granted_to is_broken_transfer
granted_kept port octet h s =
    let n = ne_eqb port nobody (λ e. omega arith) in
    held_kept s (le-ltb nobody port (omega arith)) (le-ltb nobody port (omega arith))
    (record { selected = rw (n, eq-eqb port port refl); hold = rw n (and-false (holds (hold_set octet) || false)); owner = rw n })
    refl

pub selected_kept : {d : Drive} (port octet : ℕ) → port < nobody → Sound d → Sound (selected d port octet)
unfolding selected
selected_kept port octet h s = granted_kept port octet h (noticed_kept port s)

-- a state that row 11 lets pass has nothing open if no write and no read is
not_open : (open' noOne one over : Bool) → (open' && (noOne || not one || over)) ≡ false → one ≡ false → open' ≡ false
not_open false noOne one over e z = refl
not_open true true one over e z = absurd (true≢false e)
not_open true false one over e z = absurd (true≢false (rw z at e))

record Released (h : Holding) : Type 0 where
  selected : ltb nobody h.selected ≡ false
  owner : ltb nobody h.owner ≡ false
  owned : Owned h false

released_by : (hold : Hold) (owner : ℕ) (open' : Bool) → ltb nobody owner ≡ false → ((holds hold || open') && eqb owner nobody) ≡ false
    → Released (released_from hold owner)
released_by None owner open' h e = record { selected = refl; owner = refl; owned = record { selected = refl; hold = refl; owner = refl } }
released_by Plain owner open' h e = record { selected = refl; owner = h; owned = record { selected = refl; hold = e; owner = rw e } }
released_by Strong owner open' h e = record { selected = refl; owner = h; owned = record { selected = refl; hold = e; owner = rw e } }

pub deselected_kept : {d : Drive} → Sound d → is_one_open d ≡ false → Sound (deselected d)
unfolding deselected released is_broken_transfer
deselected_kept {d} s h =
    let o = owned d.holding d.transfer s.owned in
    let over = leb (words_to_come d.setup d.transfer.control) d.transfer.moved in
    let z : is_open d.transfer ≡ false = not_open (is_open d.transfer) (eqb d.holding.selected nobody) (is_one_open d) over s.transfer h in
    let r = released_by d.holding.hold d.holding.owner (is_open d.transfer) s.owner o.hold in
    held_kept {t = d.transfer} s r.selected r.owner (rw z r.owned) (rw z)

at_start_lem : (s : Setup) → within_limits s ≡ true → is_place s (at_place 0 0 0) ≡ true
at_start_lem s h = let l = limits s h in is_place_lem s (at_place 0 0 0) (record { cylinder = l.some_cylinder; head = l.some_head; sector = l.some_sector })

pub reset_kept : {d : Drive} → Sound d → Sound (after_reset d)
unfolding after_reset is_target is_disowned is_broken_transfer has_stray_bit
reset_kept {d} s =
    record {
      limits = s.limits;
      selected = refl;
      owner = refl;
      place = at_start_lem d.setup s.limits;
      target = refl;
      owned = refl;
      transfer = refl;
      bits0 = refl;
      bits1 = refl;
    }

pub rest_sound : (s : Setup) → within_limits s ≡ true → Sound (at_rest s)
unfolding is_target is_disowned is_broken_transfer has_stray_bit
rest_sound s h =
    record {
      limits = h;
      selected = refl;
      owner = refl;
      place = at_start_lem s h;
      target = refl;
      owned = refl;
      transfer = refl;
      bits0 = refl;
      bits1 = refl;
    }
