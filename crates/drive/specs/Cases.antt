-- "Bench cases" P1 to P12, and the case of M-102: one table. Each is a run from power-up; a case that goes on from another has the other's events
-- before its own.
use Rattle.std.specs.Prelude.{ℕ, ◌/◌, ◌%◌, ◌≡◌, List, [], ◌∷◌, ◌++◌, replicate}
use Rattle.drive.specs.Power.{at_rest}
use Rattle.drive.specs.State.{at_place}
use Rattle.drive.specs.Run.{Machine, machine, answers, final}
use Rattle.refusals.specs.declared.refusal.Refusal.TheVariants.{NotSelected, AlreadySelected, NotOurAddress, ModeCannotChange, Busy}
use Rattle.status.specs.declared.drive_status.DriveStatus.TheVariants.{Normal, HeaderMiscompare, OperationException, UnsolicitedException}
use Rattle.parts.specs.declared.setup.Setup.{Setup}
use Rattle.parts.specs.declared.event.Event.{Event}
use Rattle.drive.specs.declared.answer.Answer.{Answer}
use Rattle.drive.specs.declared.answer.Answer.TheVariants.{Refused, Done, Status, Opened, Response}

-- "Address 3; 2 cylinders, 2 heads, 3 sectors; header 1, field 1 of 2, field 2 of 1: 48 words."
abbrev pub bench : Setup
bench = record { cylinders = 2; heads = 2; sectors = 3; header = 1; field1 = 2; field2 = 1; address = 3 }

-- Power-up with these words in the first sector and zeros elsewhere.
abbrev pub bench_with : List ℕ → Machine
bench_with sector = machine (at_rest bench) (sector ++ replicate 44 0) (replicate 4 0)

pub record Case : Type 0 where
  pub stored : List ℕ
  pub events : List Event
  pub answers : List Answer
  pub left : List ℕ
  pub sector : ℕ

-- The answers are these, the first sector is left with these words, all others are zero, and the position's sector is this.
pub record Holds (c : Case) : Type 0 where
  pub answered : answers (bench_with c.stored) c.events ≡ c.answers
  pub words : (final (bench_with c.stored) c.events).sectors ≡ c.left ++ replicate 44 0
  pub position : (final (bench_with c.stored) c.events).drive.place.sector ≡ c.sector

abbrev pub event : ℕ → ℕ → ℕ → ℕ → Event
event port kind a0 a1 = record { port = port; kind = kind; a0 = a0; a1 = a1; a2 = 0; a3 = 0 }

abbrev pub select : ℕ → ℕ → Event
select port octet = event port 1 octet 0

abbrev pub deselect : ℕ → Event
deselect port = event port 2 0 0

abbrev pub control : ℕ → ℕ → Event
control port octet = event port 3 octet 0

abbrev pub word : ℕ → ℕ → Event
word port w = event port 4 (w / 256) (w % 256)

abbrev pub take : ℕ → Event
take port = event port 5 0 0

abbrev pub status : ℕ → Event
status port = event port 9 0 0

abbrev pub end : ℕ → Event
end port = event port 6 0 0

abbrev zeros : List ℕ
zeros = replicate 4 0

abbrev seven : List ℕ
seven = 7 ∷ 0 ∷ 0 ∷ 0 ∷ []

-- "P1 port 0 selects 30: granted. P2 then port 1 30: 6. P3 then port 1 31: granted, port 0's Take: 2."
abbrev pub p1_p2_p3 : Case
p1_p2_p3 =
    record {
      stored = zeros;
      events = select 0 0x30 ∷ select 1 0x30 ∷ select 1 0x31 ∷ take 0 ∷ [];
      answers = Done ∷ Refused Busy ∷ Done ∷ Refused NotSelected ∷ [];
      left = zeros;
      sector = 0;
    }

-- "P4 port 0 32, Deselect, port 1 31: 6. P5 then port 1 33: granted. P6 then port 0 33: 6."
abbrev pub p4_p5_p6 : Case
p4_p5_p6 =
    record {
      stored = zeros;
      events = select 0 0x32 ∷ deselect 0 ∷ select 1 0x31 ∷ select 1 0x33 ∷ select 0 0x33 ∷ [];
      answers = Done ∷ Done ∷ Refused Busy ∷ Done ∷ Refused Busy ∷ [];
      left = zeros;
      sector = 0;
    }

-- "P7 octets 40 and B0: 4; 38: 5; selected port, 30 again: 3."
abbrev pub p7 : Case
p7 =
    record {
      stored = zeros;
      events = select 0 0x40 ∷ select 0 0xB0 ∷ select 0 0x38 ∷ select 0 0x30 ∷ select 0 0x30 ∷ [];
      answers = Refused NotOurAddress ∷ Refused NotOurAddress ∷ Refused ModeCannotChange ∷ Done ∷ Refused AlreadySelected ∷ [];
      left = zeros;
      sector = 0;
    }

-- "P8 selected, control D0: status 8; response 20 00 80 00 00 00 00 00."
abbrev pub p8 : Case
p8 =
    record {
      stored = zeros;
      events = select 0 0x30 ∷ control 0 0xD0 ∷ status 0 ∷ [];
      answers = Done ∷ Status OperationException ∷ Response 0x20 0x00 0x80 ∷ [];
      left = zeros;
      sector = 0;
    }

-- "P9 after P3, port 1 deselects, port 0 selects 30, control C1: C. Read status: 40 40 and six 00. C1: two words to come."
abbrev pub p9 : Case
p9 =
    record {
      stored = zeros;
      events = p1_p2_p3.events ++ (deselect 1 ∷ select 0 0x30 ∷ control 0 0xC1 ∷ status 0 ∷ control 0 0xC1 ∷ []);
      answers = p1_p2_p3.answers ++ (Done ∷ Done ∷ Status UnsolicitedException ∷ Response 0x40 0x40 0x00 ∷ Opened 2 (at_place 0 0 0) ∷ []);
      left = zeros;
      sector = 0;
    }

-- "P10 selected by 30, header 0007 stored, 85, word 0008: status 7, sectors unchanged, next sector 1."
abbrev pub p10 : Case
p10 =
    record {
      stored = seven;
      events = select 0 0x30 ∷ control 0 0x85 ∷ word 0 8 ∷ [];
      answers = Done ∷ Opened 3 (at_place 0 0 0) ∷ Status HeaderMiscompare ∷ [];
      left = seven;
      sector = 1;
    }

-- "P11 same, 0007 00AA 00BB: two answers "more", then 0; words 1 and 2 of the sector are 00AA 00BB."
abbrev pub p11 : Case
p11 =
    record {
      stored = seven;
      events = select 0 0x30 ∷ control 0 0x85 ∷ word 0 7 ∷ word 0 0xAA ∷ word 0 0xBB ∷ [];
      answers = Done ∷ Opened 3 (at_place 0 0 0) ∷ Done ∷ Done ∷ Status Normal ∷ [];
      left = 7 ∷ 0xAA ∷ 0xBB ∷ 0 ∷ [];
      sector = 1;
    }

-- "P12 same, after 00AA port 1 selects 31: no sector word changed."
abbrev pub p12 : Case
p12 =
    record {
      stored = seven;
      events = select 0 0x30 ∷ control 0 0x85 ∷ word 0 7 ∷ word 0 0xAA ∷ select 1 0x31 ∷ [];
      answers = Done ∷ Opened 3 (at_place 0 0 0) ∷ Done ∷ Done ∷ Done ∷ [];
      left = seven;
      sector = 0;
    }

-- M-102: "D0 followed by C4, which ends at once, after which the response is eight zeros."
abbrev pub d0_then_c4 : Case
d0_then_c4 =
    record {
      stored = zeros;
      events = select 0 0x30 ∷ control 0 0xD0 ∷ control 0 0xC4 ∷ status 0 ∷ [];
      answers = Done ∷ Status OperationException ∷ Status Normal ∷ Response 0x00 0x00 0x00 ∷ [];
      left = zeros;
      sector = 1;
    }

abbrev pub cases : List Case
cases = p1_p2_p3 ∷ p4_p5_p6 ∷ p7 ∷ p8 ∷ p9 ∷ p10 ∷ p11 ∷ p12 ∷ d0_then_c4 ∷ []

-- "Cases P1 to P12 are proved together, one table, one statement".
abbrev pub AllHold : List Case → Type 0
AllHold [] = Unit
AllHold (c ∷ cs) = Holds c × AllHold cs

pub record CasesHold : Type 0 where
  pub all : AllHold cases
