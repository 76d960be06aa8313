-- One status: the octets that the drive answers are those that `status` writes, so that its decoders take them.
-- Assumes nothing.
use Prim.Native.Nat.{ℕ, ◌+◌, ◌*◌, ◌/◌, ◌%◌}
use mathlib.Core.Path.{◌≡◌, refl, sym, ap, subst, ◌∙◌}
use mathlib.Core.Bool.{Bool, true, false, not, ◌||◌}
use mathlib.Core.List.{List, ◌∷◌, ◌++◌}
use mathlib.Core.Option.{some}
use native.Mathlib.Omega.{arith}
use borrow.Author.Tests.{eqb-true}
use lib.Dec.{eqb}
use Rattle.laws.specs.Pick.{pick}
use Rattle.laws.specs.Octets.{bit}
use Rattle.laws.specs.Lists.{one_of}
use Rattle.laws.proofs.Pick.{pick_not}
use Rattle.laws.proofs.Differ.{absent}
use Rattle.laws.proofs.Tests.{or_l, or_r}
use Rattle.laws.proofs.Lists.{every_below, every_below_lem, each_one_of}
use Rattle.parts.specs.Pending.{pending_of, octet0}
use Rattle.parts.specs.Tests.{has_stray_bit}
use Rattle.parts.specs.declared.setup.Setup.{Setup}
use Rattle.parts.specs.declared.pending.Pending.{Pending}
use Rattle.status.specs.DriveStatus.{octet_of, is_drive_status, status_of, DecodedDriveStatus}
use Rattle.status.specs.Response.{bit_when, unsolicited_octet, bus_control_octet, exception_octet, response_of, response_octets, DecodedResponse}
use Rattle.std.specs.Prelude.{Ok}
use Rattle.status.proofs.Only.{decode_drive_status_only, decode_response_only}
use Rattle.status.proofs.Decoding.{octet_of_status}
use Rattle.status.proofs.RoundTrip.{encoded_octet, encoded_octets}
use Rattle.drive.specs.Answer.{paper}
use Rattle.drive.specs.State.{pending_on}
use Rattle.drive.specs.Bounded.{AreOctets, statuses, response_to, Bounded, PendingOctets}
use Rattle.drive.specs.Command.{status_told}
use Rattle.drive.specs.Commands.{Idle}
use Rattle.drive.specs.Run.{Machine, answer_to}
use Rattle.drive.specs.declared.answer.Answer.{Answer}
use Rattle.drive.specs.declared.answer.Answer.TheVariants.{Refused, Done, Status, Opened, Word, LastWord, Response}
use Rattle.drive.proofs.Posted.{on_either}
use Rattle.drive.proofs.Sound.{sound}
use Rattle.drive.proofs.SoundPlace.{pending_stray}
use Rattle.drive.proofs.CommandRuns.{commands}
use Rattle.drive.proofs.Bounded.{answers_bounded}
use Rattle.pantoglide.specs.OneStatus.{StatusTaken, ResponseTaken, octets_in, WordsTaken, OneStatus}

-- ---- the status

known_status : (octet : ℕ) → one_of statuses octet ≡ true → is_drive_status octet ≡ true
unfolding is_drive_status
known_status octet h = each_one_of (λ n. is_drive_status n ≡ true) statuses octet h (refl, (refl, (refl, (refl, tt))))

status_in : (s : Setup) (answer : Answer) → Bounded s answer → (octet : ℕ) → (paper answer).status ≡ some octet → one_of statuses octet ≡ true
unfolding paper
status_in s (Refused refusal) b octet h = absent refl h
status_in s Done b octet h = absent refl h
status_in s (Status status) b octet h = let same : octet_of status ≡ octet = cc in rw same at b
status_in s (Opened words place) b octet h = absent refl h
status_in s (Word word) b octet h = absent refl h
status_in s (LastWord word) b octet h = let same : 0 ≡ octet = cc in rw (← same)
status_in s (Response first second third) b octet h = let same : 0 ≡ octet = cc in rw (← same)

status_taken : (octet : ℕ) → is_drive_status octet ≡ true → StatusTaken octet
status_taken octet known =
    let same = octet_of_status octet known in
    let read = Ok (status_of octet) in
    record {
      taken = λ rest r d. decode_drive_status_only (octet ∷ rest) r read d (subst (λ (n : ℕ). DecodedDriveStatus (n ∷ rest) read) same (encoded_octet (status_of octet) rest));
      same = same;
    }

-- ---- the response

-- octets without a stray bit are the bits that `status` writes: one computed test each over all octets
unsolicited_kept : ℕ → Bool
unsolicited_kept n = not (eqb (n % 64) 0) || eqb (bit_when 7 (bit 7 n) + bit_when 6 (bit 6 n)) n

bus_control_kept : ℕ → Bool
bus_control_kept n = not (eqb (n % 16) 0) || eqb (bit_when 7 (bit 7 n) + bit_when 6 (bit 6 n) + bit_when 5 (bit 5 n) + bit_when 4 (bit 4 n)) n

all_unsolicited_kept : every_below 256 unsolicited_kept ≡ true
unfolding unsolicited_kept pick
all_unsolicited_kept = refl

all_bus_control_kept : every_below 256 bus_control_kept ≡ true
unfolding bus_control_kept pick
all_bus_control_kept = refl

-- what such a test says of an octet without a stray bit
kept : (weight octet written : ℕ) → not (eqb (octet % weight) 0) ≡ false → (not (eqb (octet % weight) 0) || eqb written octet) ≡ true → written ≡ octet
kept weight octet written none-stray test = eqb-true written octet (rw none-stray at test)

exception_fits : (octet1 octet2 : ℕ) → exception_octet octet1 octet2 ≡ octet0 (pending_of octet1 octet2)
unfolding exception_octet octet0
exception_fits octet1 octet2 = rw (pick_not {A = ℕ} (eqb octet1 0) 0x40 0, pick_not {A = ℕ} (eqb octet2 0) 0x20 0)

response_same : (p : Pending) → AreOctets p → has_stray_bit p ≡ false → response_octets (response_of p.octet1 p.octet2) ≡ response_to p
unfolding response_of unsolicited_octet bus_control_octet has_stray_bit unsolicited_kept bus_control_kept
response_same p octets known =
    let stray1 = not (eqb (p.octet1 % 64) 0) in
    let stray2 = not (eqb (p.octet2 % 16) 0) in
    let first = kept 64 p.octet1 _ (or_l stray1 stray2 known) (every_below_lem 256 unsolicited_kept all_unsolicited_kept p.octet1 octets.0) in
    let second = kept 16 p.octet2 _ (or_r stray1 stray2 known) (every_below_lem 256 bus_control_kept all_bus_control_kept p.octet2 octets.1) in
    rw (first, second, exception_fits p.octet1 p.octet2)

response_taken_lem : (m : Machine) (port : ℕ) (octets : List ℕ) → AreOctets (pending_on m.drive port) → has_stray_bit (pending_on m.drive port) ≡ false
    → octets ≡ response_to (pending_on m.drive port) → ResponseTaken m port octets
response_taken_lem m port octets few known told =
    let p = pending_on m.drive port in
    let same = response_same p few known ∙ sym told in
    let read = Ok (response_of p.octet1 p.octet2) in
    record {
      taken = λ rest r d.
          decode_response_only (octets ++ rest) r read d (subst (λ (l : List ℕ). DecodedResponse (l ++ rest) read) same (encoded_octets (response_of p.octet1 p.octet2) rest));
      same = same;
    }

-- the response is that of a port on which no stray bit is pending
response_in_lem : (s : Setup) (answer : Answer) (p : Pending) → Bounded s answer → (paper answer).response ≡ some (response_to p) → has_stray_bit p ≡ false
unfolding paper
response_in_lem s (Response first second third) p b h =
    let one : second ≡ p.octet1 = cc in
    let two : third ≡ p.octet2 = cc in
    subst (λ (q : Pending). has_stray_bit q ≡ false) (λ i. record { octet1 = one i; octet2 = two i }) b.known
response_in_lem s (Refused refusal) p b h = absent refl h
response_in_lem s Done p b h = absent refl h
response_in_lem s (Status status) p b h = absent refl h
response_in_lem s (Opened words place) p b h = absent refl h
response_in_lem s (Word word) p b h = absent refl h
response_in_lem s (LastWord word) p b h = absent refl h

-- ---- by code 44

octets_told : (p : Pending) → AreOctets p → octets_in (status_told p) ≡ response_to p
octets_told p octets =
    let high : (octet0 p * 256 + p.octet1) / 256 ≡ octet0 p = omega (arith, octets.0) in
    let low : (octet0 p * 256 + p.octet1) % 256 ≡ p.octet1 = omega (arith, octets.0) in
    let next : p.octet2 * 256 / 256 ≡ p.octet2 = omega arith in
    let last : p.octet2 * 256 % 256 ≡ 0 = omega arith in
    rw (high, low, next, last)

words_taken : (m : Machine) (port : ℕ) → Idle m port → PendingOctets m → WordsTaken m port
words_taken m port idle f =
    let p = pending_on m.drive port in
    let few = on_either AreOctets m.drive port f in
    record {
      words = status_told p;
      told = (commands.status_by_44 m port idle).told;
      response = response_taken_lem m port _ few (pending_stray port (sound m.drive idle.sound.sound)) (octets_told p few);
    }

pub one_status : OneStatus
one_status =
    record {
      status = λ m e f octet h. status_taken octet (known_status octet (status_in m.drive.setup (answer_to m e) (answers_bounded.bounded m e f) octet h));
      response = λ m e f octets h.
          let p = pending_on m.drive e.port in
          let told = answers_bounded.response m e octets h in
          response_taken_lem m e.port octets (on_either AreOctets m.drive e.port f)
          (response_in_lem m.drive.setup (answer_to m e) p (answers_bounded.bounded m e f) (h ∙ ap some told)) told;
      by_44 = words_taken;
    }
