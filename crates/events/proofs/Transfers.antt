-- What the words of a state that rows 11 and 10 let pass say of its sector and of its open transfer.
-- Assumes nothing.
use Rattle.std.proofs.Common.{◌≡◌, ℕ, ◌+◌, ◌<◌, true, false, eqb, List, length, get_or, set, sym, refl, ◌∙◌, arith, length-set, eq-eqb, ne_eqb, ◌%◌, ◌^◌}
use Rattle.laws.specs.Pick.{pick}
use Rattle.status.specs.declared.drive_status.DriveStatus.TheVariants.{Normal, HeaderMiscompare}
use Rattle.parts.specs.Setup.{sector_start, sector_at}
use Rattle.parts.specs.declared.transfer.Transfer.{Transfer}
use Rattle.parts.proofs.ByBits.{writes_take}
use Rattle.laws.proofs.Tests.{and_l, and_r}
use Rattle.parts.specs.Control.{control_of, is_write, is_data, words_to_come, words_read}
use Rattle.parts.specs.Tests.{moved_on, is_taking}
use Rattle.parts.specs.declared.setup.Setup.{Setup}
use Rattle.parts.specs.declared.setup.Place.{Place}
use Rattle.drive.specs.Able.{Able, Room, ReadsAt}
use Rattle.drive.specs.Drive.{ended}
use Rattle.drive.specs.Refusal.{row10}
use Rattle.drive.specs.State.{told, with_transfer, result}
use Rattle.drive.specs.Transfer.{miscompares, committed, staged, word_taken}
use Rattle.drive.specs.declared.drive.Drive.{Drive}
use Rattle.drive.specs.declared.answer.Answer.TheVariants.{Done, Status, Word, LastWord}
use Rattle.parts.proofs.Bounds.{limits, start_exact, words_few, words_within}
use Rattle.drive.proofs.Own.{able_to_write}
use Rattle.drive.proofs.Reading.{read_in_place}
use Rattle.drive.proofs.Sound.{sound, room}
use Rattle.events.specs.State.{drive_in}
use Rattle.events.specs.Fit.{Fits}

-- ---- the sector that the state stands at

pub started : {state sectors staging : List ℕ} → Fits state sectors staging → (s : Setup) (p : Place) (start : ℕ) → s ≡ (drive_in state).setup
    → p ≡ (drive_in state).place → start ≡ sector_start s p % 2 ^ 64 → start ≡ sector_start s p
started {state} f s p start e q b = let k = sound (drive_in state) f.passable.sound in b ∙ rw (e, q) (start_exact _ _ k.limits k.place)

pub has_room : {state sectors staging : List ℕ} → Fits state sectors staging → (s : Setup) (p : Place) (start : ℕ) → s ≡ (drive_in state).setup
    → p ≡ (drive_in state).place → start ≡ sector_start s p % 2 ^ 64 → Room s start sectors staging
has_room {state} {sectors} {staging} f s p start e q b = rw (started f s p start e q b, e, q) (room (drive_in state) sectors staging f.passable.sound f.passable.room)

-- ---- the open transfer

moved_word : (state : List ℕ) → (drive_in state).transfer.moved ≡ get_or state 15 0
unfolding drive_in
moved_word state = refl

-- an open write takes words, and they are data
pub record Written (t : Transfer) : Type 0 where
  pub takes : is_taking t ≡ true
  pub high : is_data t.control ≡ true

pub written : {t : Transfer} {c : ℕ} → c ≡ t.control → is_write (control_of c) ≡ true → Written t
written {t} e w =
    let both = sym (writes_take t.control) ∙ rw e at w in
    record { takes = and_l (is_taking t) (is_data t.control) both; high = and_r (is_taking t) (is_data t.control) both }

-- the words moved are fewer than a sector has, and staging holds a sector
pub record Moving (state staging : List ℕ) : Type 0 where
  pub few : get_or state 15 0 < 2056
  pub inside : get_or state 15 0 < length staging

pub moving : {state sectors staging : List ℕ} → Able (drive_in state) sectors staging → is_data (drive_in state).transfer.control ≡ true → Moving state staging
moving {state} {sectors} {staging} a high =
    let d = drive_in state in
    let r = room d sectors staging a.sound a.room in
    let few = words_few d.setup d.transfer.control (limits d.setup (sound d a.sound).limits) in
    let within = words_within d.setup d.transfer.control high in
    let n = moved_word state in
    record { few = omega (arith, a.moved); inside = omega (arith, a.moved) }

pub write_moving : {state sectors staging : List ℕ} {c : ℕ} → Fits state sectors staging → c ≡ (drive_in state).transfer.control → is_write (control_of c) ≡ true
    → Moving state staging
write_moving {state} f e w =
    let t = written {t = (drive_in state).transfer} e w in
    moving (able_to_write f.passable t.takes) t.high

-- row 10 looks at the length of staging alone
pub staging_set : {state sectors staging : List ℕ} (i word : ℕ) → Fits state sectors staging → Fits state sectors (set staging i word)
unfolding row10
staging_set i word f =
    record { long = f.long; passable = record { sound = f.passable.sound; room = simp length-set f.passable.room } }

-- ---- a word from the host, by how many are staged

-- the header differs
pub differs : (d : Drive) (count start : ℕ) (sectors staging : List ℕ) → miscompares d.setup d.transfer.control count start sectors staging ≡ true
    → result (told (Status HeaderMiscompare) (ended d)) sectors staging ≡ staged d count start sectors staging
unfolding staged pick
differs d count start sectors staging h = rw h

-- it was the last word
pub last_word : (d : Drive) (c count start : ℕ) (sectors staging : List ℕ) → c ≡ d.transfer.control
    → miscompares d.setup d.transfer.control count start sectors staging ≡ false → eqb count (words_to_come d.setup c) ≡ true
    → result (told (Status Normal) (ended d)) (committed d.setup c start sectors staging) staging ≡ staged d count start sectors staging
unfolding staged pick
last_word d c count start sectors staging e h n = rw (h, rw e at n, e)

-- more are to come
pub one_of_more : (d : Drive) (c count start : ℕ) (sectors staging : List ℕ) → c ≡ d.transfer.control
    → miscompares d.setup d.transfer.control count start sectors staging ≡ false → eqb count (words_to_come d.setup c) ≡ false
    → result (told Done (with_transfer d (moved_on d.transfer count))) sectors staging ≡ staged d count start sectors staging
unfolding staged pick
one_of_more d c count start sectors staging e h n = rw (h, rw e at n)

-- ---- a word to the host

-- word k of the open read is the sector's word at its offset
word_at_lem : (d : Drive) (s : Setup) (p : Place) (start offset : ℕ) (sectors staging : List ℕ) → s ≡ d.setup → p ≡ d.place → start ≡ sector_start s p
    → Room s start sectors staging → ReadsAt s d.transfer.control d.transfer.moved offset
    → get_or (words_read d.setup d.transfer.control (sector_at d.setup d.place sectors)) d.transfer.moved 0 ≡ get_or sectors (start + offset) 0
word_at_lem d s p start offset sectors staging e q b h r =
    let h' = rw (b, e, q) at h.sector in
    rw (b, e, q) (read_in_place d.setup d.place d.transfer.control d.transfer.moved offset sectors h' (rw e at r))

pub last_taken_lem : (d : Drive) (s : Setup) (p : Place) (start offset : ℕ) (sectors staging : List ℕ) → s ≡ d.setup → p ≡ d.place → start ≡ sector_start s p
    → Room s start sectors staging → ReadsAt s d.transfer.control d.transfer.moved offset → d.transfer.moved + 1 ≡ words_to_come d.setup d.transfer.control
    → told (LastWord (get_or sectors (start + offset) 0)) (ended d) ≡ word_taken d sectors
unfolding word_taken pick
last_taken_lem d s p start offset sectors staging e q b h r n = rw (eq-eqb _ _ n, word_at_lem d s p start offset sectors staging e q b h r)

pub one_taken : (d : Drive) (s : Setup) (p : Place) (start offset : ℕ) (sectors staging : List ℕ) → s ≡ d.setup → p ≡ d.place → start ≡ sector_start s p
    → Room s start sectors staging → ReadsAt s d.transfer.control d.transfer.moved offset → (d.transfer.moved + 1 ≡ words_to_come d.setup d.transfer.control → ⊥)
    → told (Word (get_or sectors (start + offset) 0)) (with_transfer d (moved_on d.transfer (d.transfer.moved + 1))) ≡ word_taken d sectors
unfolding word_taken pick
one_taken d s p start offset sectors staging e q b h r n = rw (ne_eqb _ _ n, word_at_lem d s p start offset sectors staging e q b h r)
