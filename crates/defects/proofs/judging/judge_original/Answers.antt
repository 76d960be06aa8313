-- `defects::judging::judge_original` meets its contract: the groups of rows are asked in the order of their offsets.
-- Assumes nothing.
use Prim.Native.Nat.{ℕ}
use native.Mathlib.Omega.{arith}
use mathlib.Core.Path.{◌≡◌, ap}
use mathlib.Core.List.{List}
use lib.ListN.{length}
use Rattle.std.proofs.Math.Option.{Option}
use Rattle.defects.specs.Offence.{Found, first_of}
use Rattle.defects.specs.Field.{slots, defects_in}
use Rattle.defects.specs.Judging.{padding_tests}
use Rattle.defects.specs.declared.entries.Entries.{Entries}
use Rattle.defects.proofs.EntriesLeft.{entries_few}
use Rattle.defects.proofs.Offences.{passed_on}
use Rattle.defects.proofs.Originals.{in_front, in_entries, in_padding, in_crc}
use Rattle.defects.proofs.judging.judge_original.Goals as goal
use Rattle.defects.proofs.judging.judge_original.Goals.{In_ok-entries}

many : (c : In_ok-entries) → c.in_ok-entries.entries.count ≡ length (defects_in c.args.field.octets.now)
many c = ap (λ (e : Entries). e.count) c.in_ok-entries.ensures.entries

padding : (field : List ℕ) (start count : ℕ) → count ≡ length (defects_in field) → {x : Option Found} → x ≡ first_of (padding_tests start field count)
    → x ≡ first_of (padding_tests start field (length (defects_in field)))
padding field start count e p = rw (← e) p

pub returns-in_err-judge_front : goal.returns-in_err-judge_front
returns-in_err-judge_front c = rw (passed_on c.from_residual.ensures) (record { offence = in_front _ _ _ _ _ _ c.requires.2 c.in_err-judge_front.ensures; next = tt })

pub returns-in_err-entries : goal.returns-in_err-entries
returns-in_err-entries c =
    rw (passed_on c.from_residual-in_err-entries.ensures) (record { offence = in_entries _ _ _ _ _ _ c.requires.2 c.in_ok-judge_front.ensures c.in_err-entries.ensures.offence; next = tt })

pub judge_padding-requires : goal.judge_padding-requires
judge_padding-requires c =
    let few = entries_few c.args.field.octets.now 14 (slots (length c.args.field.octets.now)) in
    let sized = c.requires.0 in
    let count = many (goal.at.judge_padding-requires c).In_ok-entries in
    (omega (arith, count, few, sized.least), record { within = omega (arith, sized.within, sized.most) })

pub returns-in_err-judge_padding : goal.returns-in_err-judge_padding
returns-in_err-judge_padding c =
    let count = many (goal.at.returns-in_err-judge_padding c).In_ok-entries in
    rw (passed_on c.from_residual-in_err-judge_padding.ensures)
    (record {
      offence = in_padding _ _ _ _ _ _ c.requires.2 c.in_ok-judge_front.ensures c.in_ok-entries.ensures.offence (padding _ _ _ count c.in_err-judge_padding.ensures);
      next = tt;
    })

pub returns-in_err-judge_crc : goal.returns-in_err-judge_crc
returns-in_err-judge_crc c =
    let count = many (goal.at.returns-in_err-judge_crc c).In_ok-entries in
    rw (passed_on c.from_residual-in_err-judge_crc.ensures)
    (record {
      offence = in_crc _ _ _ _ _ _ c.requires.2 c.in_ok-judge_front.ensures c.in_ok-entries.ensures.offence (padding _ _ _ count c.in_ok-judge_padding.ensures) c.in_err-judge_crc.ensures;
      next = tt;
    })

pub returns : goal.returns
returns c =
    let count = many (goal.at.returns c).In_ok-entries in
    record {
      offence = in_crc _ _ _ _ _ _ c.requires.2 c.in_ok-judge_front.ensures c.in_ok-entries.ensures.offence (padding _ _ _ count c.in_ok-judge_padding.ensures) c.in_ok-judge_crc.ensures;
      next = ap (λ (e : Entries). e.least) c.in_ok-entries.ensures.entries;
    }
