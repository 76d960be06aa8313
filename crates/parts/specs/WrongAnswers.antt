-- Wrong answers, two for each call: what a careless programmer would get, and no promise allows.
use Rattle.std.specs.Prelude.{ℕ, ◌%◌, ◌^◌, ◌≡◌, true, false}
use Rattle.laws.specs.Rows.{first}
use Rattle.parts.specs.Setup.{within_limits, sector_words, sector_start, lacks_room, is_place, no_target, is_target, following}
use Rattle.parts.specs.Control.{ControlSaid, control_of, is_data, is_write, is_read, names_field1, names_field2, verifies_header, moves_header, is_at_target, part, header_passes, words_to_come}
use Rattle.parts.specs.Command.{parameter_words, FunctionSaid}
use Rattle.parts.specs.Holding.{nobody, held, free, is_owned_by_other, is_busy, Granted, NotHeld, Released}
use Rattle.parts.specs.Pending.{pending_of, noticed, bit_of, faulted, octet0}
use Rattle.parts.specs.Kind.{none_after1, none_after2, none_at_all, word_of}
use Rattle.parts.specs.Tests.{transferring, no_transfer, is_misaddressed, changes_mode, inside_rows, select_rows}
use Rattle.parts.specs.declared.setup.Setup.{Setup}
use Rattle.parts.specs.declared.setup.Place.{Place}
use Rattle.parts.specs.declared.command.Function.{Function}
use Rattle.parts.specs.declared.control.Control.{Control}
use Rattle.parts.specs.declared.pending.Fault.{Fault}
use Rattle.parts.specs.declared.event.Event.{Event}
use Rattle.parts.specs.declared.holding.Hold.{Hold}

-- "Address 3; 2 cylinders, 2 heads, 3 sectors; header 1, field 1 of 2, field 2 of 1", but for the cylinders and the header.
abbrev pub bench_with : ℕ → ℕ → Setup
bench_with cylinders header = record { cylinders = cylinders; heads = 2; sectors = 3; header = header; field1 = 2; field2 = 1; address = 3 }

abbrev pub bench : Setup
bench = bench_with 2 1

abbrev pub at : ℕ → ℕ → ℕ → Place
at cylinder head sector = record { cylinder = cylinder; head = head; sector = sector }

-- An event with these argument octets.
abbrev pub octets : ℕ → ℕ → ℕ → ℕ → Event
octets a0 a1 a2 a3 = record { port = 0; kind = 1; a0 = a0; a1 = a1; a2 = a2; a3 = a3 }

pub record WrongAnswers : Type 0 where
  -- ---- control_of
  -- D0 is reserved.
  pub read_for_d0 : ControlSaid 0xD0 Control.Read → ⊥
  -- 80 is unsupported.
  pub write_for_80 : ControlSaid 0x80 Control.Write → ⊥
  -- "Bit 7 of octet 2 no longer covers these codes": 01 is a command.
  pub invalid_for_reserve_code : ControlSaid 0x01 Control.Invalid → ⊥
  -- ---- is_data
  -- 7F is the last code.
  pub low_is_data : true ≡ is_data 0x7F → ⊥
  -- 80 is the first data control.
  pub high_is_code : false ≡ is_data 0x80 → ⊥
  -- ---- parameter_words
  -- The cylinder's 4 octets are two words.
  pub one_for_cylinder : 1 ≡ parameter_words 0x04 → ⊥
  -- 02 acts on more and never opens.
  pub words_for_format : 1 ≡ parameter_words 0x02 → ⊥
  -- ---- function_of
  -- "If the 2 octets are not the same, the Command is rejected".
  pub unequal_reserves : FunctionSaid 0x1413 Function.Reserve → ⊥
  -- 17 is not listed.
  pub unlisted_acts : FunctionSaid 0x1717 Function.ActsOnMore → ⊥
  -- ---- is_write
  -- 90 is Step Head.
  pub step_head_writes : true ≡ is_write (control_of 0x90) → ⊥
  -- 84 is the first write.
  pub first_write_left_out : false ≡ is_write (control_of 0x84) → ⊥
  -- ---- is_read
  -- D0 is reserved.
  pub reserved_reads : true ≡ is_read (control_of 0xD0) → ⊥
  -- C0 is the first read.
  pub first_read_left_out : false ≡ is_read (control_of 0xC0) → ⊥
  -- ---- names_field1
  -- Bit 0 names field 1.
  pub field1_left_out : false ≡ names_field1 0xC1 → ⊥
  -- Bit 1 does not.
  pub field1_by_bit_1 : true ≡ names_field1 0xC2 → ⊥
  -- ---- names_field2
  -- Bit 1 names field 2.
  pub field2_left_out : false ≡ names_field2 0xC2 → ⊥
  -- Bit 0 does not.
  pub field2_by_bit_0 : true ≡ names_field2 0xC1 → ⊥
  -- ---- verifies_header
  -- Bits 3–2 of 85 are 01.
  pub verify_left_out : false ≡ verifies_header 0x85 → ⊥
  -- Those of 89 are 10.
  pub write_verifies : true ≡ verifies_header 0x89 → ⊥
  -- ---- moves_header
  -- 85 verifies the header.
  pub verify_moves : true ≡ moves_header 0x85 → ⊥
  -- 8C writes it, at the target.
  pub target_moves_none : false ≡ moves_header 0x8C → ⊥
  -- ---- is_at_target
  -- Bits 3–2 of 88 are 10.
  pub write_at_target : true ≡ is_at_target 0x88 → ⊥
  -- Those of 8C are 11.
  pub target_left_out : false ≡ is_at_target 0x8C → ⊥
  -- ---- part_of
  -- A part that passes has its words.
  pub no_words_pass : 0 ≡ part true 1024 → ⊥
  -- One that does not has none.
  pub words_pass_anyway : 5 ≡ part false 5 → ⊥
  -- ---- header_passes
  -- A write that verifies takes the header's words.
  pub verify_takes_none : false ≡ header_passes 0x85 → ⊥
  -- A read with bits 01 skips the header.
  pub skipped_header_passes : true ≡ header_passes 0xC5 → ⊥
  -- ---- Setup::words_to_come
  -- C1 reads field 1 alone: 2 words.
  pub header_counted : 3 ≡ words_to_come bench 0xC1 → ⊥
  -- 85 takes header and field 1: 3 words.
  pub header_not_counted : 2 ≡ words_to_come bench 0x85 → ⊥
  -- ---- none_after_1
  -- The last octet counts.
  pub last_octet_overlooked : true ≡ none_after1 (octets 0x30 0 0 1) → ⊥
  -- The first is used.
  pub used_octet_refused : false ≡ none_after1 (octets 0x30 0 0 0) → ⊥
  -- ---- none_after_2
  -- The first two are used.
  pub used_word_refused : false ≡ none_after2 (octets 0x12 0x34 0 0) → ⊥
  -- The third is not.
  pub third_octet_overlooked : true ≡ none_after2 (octets 0x12 0x34 1 0) → ⊥
  -- ---- none_at_all
  -- The first octet counts.
  pub first_octet_overlooked : true ≡ none_at_all (octets 1 0 0 0) → ⊥
  -- All are zero.
  pub zeros_refused : false ≡ none_at_all (octets 0 0 0 0) → ⊥
  -- ---- word_of
  -- A word is high first.
  pub word_low_first : 0x3412 ≡ word_of (octets 0x12 0x34 0 0) → ⊥
  -- It has two octets.
  pub low_octet_alone : 0x0034 ≡ word_of (octets 0x12 0x34 0 0) → ⊥
  -- ---- is_misaddressed
  -- B0 has bit 7 set.
  pub bit_7_overlooked : false ≡ is_misaddressed 0xB0 3 → ⊥
  -- 30 is for address 3.
  pub own_address_refused : true ≡ is_misaddressed 0x30 3 → ⊥
  -- ---- changes_mode
  -- 38 has bit 3 set.
  pub bit_3_overlooked : false ≡ changes_mode 0x38 → ⊥
  -- 33 has neither bit 3 nor bit 2.
  pub holds_refused : true ≡ changes_mode 0x33 → ⊥
  -- ---- granted_to
  -- Both bits set a strong hold.
  pub plain_with_both_bits : Granted 1 0x33 (held 1 1 Hold.Plain) → ⊥
  -- Bit 0 alone sets none.
  pub strong_without_bit_1 : Granted 0 0x31 (held 0 0 Hold.Strong) → ⊥
  -- ---- no_holding
  -- Nobody owns a free drive.
  pub free_with_owner : NotHeld (held nobody 0 Hold.None) → ⊥
  -- Nobody holds it.
  pub free_with_hold : NotHeld (held nobody nobody Hold.Plain) → ⊥
  -- ---- Holding::is_owned_by_other
  -- Port 0 is the other for port 1.
  pub other_owner_overlooked : false ≡ is_owned_by_other (held 0 0 Hold.None) 1 → ⊥
  -- Nobody is no other port.
  pub nobody_owns : true ≡ is_owned_by_other free 1 → ⊥
  -- ---- Holding::is_busy
  -- "Letting Priority Select alone break a plain hold."
  pub plain_broken_by_select : false ≡ is_busy (held nobody 0 Hold.Plain) 1 0x31 → ⊥
  -- It breaks an ownership without a hold.
  pub none_not_broken : true ≡ is_busy (held 0 0 Hold.None) 1 0x31 → ⊥
  -- ---- Holding::released
  -- Without a hold the drive is free.
  pub owner_stays : Released (held 0 0 Hold.None) (held nobody 0 Hold.None) → ⊥
  -- With a hold the port still owns it.
  pub hold_lost : Released (held 0 0 Hold.Plain) (held nobody nobody Hold.None) → ⊥
  -- ---- Pending::noticed
  -- A takeover is no reset.
  pub notice_of_a_reset : pending_of 0x80 0x00 ≡ noticed (pending_of 0x00 0x00) → ⊥
  -- Reset Complete stays pending.
  pub notice_clears_the_reset : pending_of 0x40 0x00 ≡ noticed (pending_of 0x80 0x00) → ⊥
  -- ---- Pending::faulted
  -- An invalid bus control is bit 7.
  pub control_as_parameter : pending_of 0x00 0x40 ≡ faulted (pending_of 0x00 0x00) (bit_of Fault.InvalidBusControl) → ⊥
  -- The bit that was pending stays.
  pub fault_clears_another : pending_of 0x00 0x40 ≡ faulted (pending_of 0x00 0x80) (bit_of Fault.InvalidParameter) → ⊥
  -- ---- Pending::octet0
  -- Octet 1 sets bit 6.
  pub octet_1_as_octet_2 : 0x20 ≡ octet0 (pending_of 0x40 0x00) → ⊥
  -- Octet 2 sets bit 5 beside it.
  pub octet_2_overlooked : 0x40 ≡ octet0 (pending_of 0x40 0x80) → ⊥
  -- ---- inside_refusal
  -- 8 goes before 2.
  pub selection_before_form : 2 ≡ first (inside_rows false false true) → ⊥
  -- 2 goes before 7.
  pub transfer_before_selection : 7 ≡ first (inside_rows true false true) → ⊥
  -- ---- select_refusal
  -- 3 goes before 4.
  pub address_before_selected : 4 ≡ first (select_rows true true true false false) → ⊥
  -- 5 goes before 6.
  pub busy_before_mode : 6 ≡ first (select_rows true false false true true) → ⊥
  -- ---- Setup::within_limits
  -- 4,096 cylinders are the most.
  pub cylinder_too_many : true ≡ within_limits (bench_with 4097 1) → ⊥
  -- A header may have no words.
  pub no_header_refused : false ≡ within_limits (bench_with 2 0) → ⊥
  -- ---- Setup::lacks_room
  -- The last word of the last sector is needed.
  pub last_word_overlooked : false ≡ lacks_room bench 47 4 → ⊥
  -- The bench drive has 48 words, and one sector four.
  pub room_denied : true ≡ lacks_room bench 48 4 → ⊥
  -- ---- Setup::sector_words
  -- Header, field 1 and field 2 are 4 words.
  pub sector_without_header : 3 ≡ sector_words bench → ⊥
  -- Field 1 is not all.
  pub sector_of_field1 : 2 ≡ sector_words bench → ⊥
  -- ---- Setup::sector_start
  -- The last sector of the bench drive is the twelfth, of four words, and the first one of its track the tenth.
  pub start_of_the_track : 36 ≡ sector_start bench (at 1 1 2) % 2 ^ 64 → ⊥
  -- Before the second cylinder stand two heads of three sectors, and not one.
  pub cylinder_of_one_head : 12 ≡ sector_start bench (at 1 0 0) % 2 ^ 64 → ⊥
  -- ---- Setup::is_place
  -- Of 2 cylinders the last is 1.
  pub cylinder_after_the_last : true ≡ is_place bench (at 2 0 0) → ⊥
  -- 1/1/2 is the last place.
  pub last_place_refused : false ≡ is_place bench (at 1 1 2) → ⊥
  -- ---- Setup::is_target
  -- FFFF is never outside the drive.
  pub no_target_refused : false ≡ is_target bench no_target → ⊥
  -- Of 3 sectors the last is 2.
  pub sector_after_the_last : true ≡ is_target bench 3 → ⊥
  -- ---- next_of
  -- 0 comes after the last.
  pub never_around : 3 ≡ following 2 3 → ⊥
  -- 1 comes after 0.
  pub always_around : 0 ≡ following 0 3 → ⊥
  -- ---- no_transfer
  -- No transfer has no control.
  pub none_with_control : transferring 0x84 0 ≡ no_transfer → ⊥
  -- It has moved no word.
  pub none_with_a_word : transferring 0 1 ≡ no_transfer → ⊥
