-- Each refusal of `pg_replay`, of the calls for the lines, of the calls for captures and of those for the defect map is given exactly when its row holds and no row
-- tested earlier does.
-- Assumes nothing.
use Prim.Native.Nat.{ℕ, zero, suc, ◌≤◌}
use mathlib.Core.Path.{◌≡◌, refl, sym, ◌∙◌}
use mathlib.Core.Logic.{◌↔◌}
use mathlib.Core.List.{List}
use native.Mathlib.Omega.{arith}
use borrow.Author.Tests.{lt-ltb, le-ltb}
use lib.Dec.{ltb}
use lib.ListN.{length, get_or}
use Rattle.laws.specs.Pick.{pick}
use Rattle.laws.specs.Rows.{unless_refused}
use Rattle.laws.proofs.Rows.{first_is_exact, first_up_to, rows_rest}
use Rattle.lines.specs.Follower.{step_of}
use Rattle.lines.specs.Reading.{octet_of}
use Rattle.pantoglide.specs.Replay.{replay_rows}
use Rattle.pantoglide.specs.Lines.{lines_rows}
use Rattle.pantoglide.specs.Line.{follower_in, line_rows, line_refusal, LineFollowed, refusal_in}
use Rattle.capture.specs.Capture.{capture_rows}
use Rattle.capture.specs.Encoding.{encode_rows}
use Rattle.std.proofs.Math.Option.{Option, some, none}
use Rattle.defects.specs.Offence.{Test, Found, offence_at, first_of, number_in, offset_in}
use Rattle.defects.specs.Defect.{defect_rows}
use Rattle.defects.specs.Place.{place_rows}
use Rattle.defects.specs.Decoding.{decode_tests}
use Rattle.defects.specs.Encoding as map
use Rattle.defects.specs.Sectors.{read_tests, write_rows}
use Rattle.defects.specs.Exactly.{GivenAt}
use Rattle.defects.proofs.ExactOffence.{exact_offence}
use Rattle.pantoglide.specs.Exactly.{Exactly}
use Rattle.pantoglide.proofs.Lines.{from_sixteen}

-- the number that a call answers is its refusal, if no refusal is over 11 and an answer is from 16 on
told_by_lem : (refusal answer : ℕ) → refusal ≤ 11 → (refusal ≡ 0 → 16 ≤ answer) → refusal_in (unless_refused refusal refusal answer) ≡ refusal
unfolding pick
told_by_lem zero answer h k = rw (le-ltb answer 16 (k refl))
told_by_lem (suc n) answer h k = rw (lt-ltb (suc n) 16 (omega arith))

line_refusal_lem : {follower : List ℕ} {setting r : ℕ} {follower' : List ℕ} → LineFollowed follower setting r follower' → refusal_in r ≡ line_refusal follower setting
line_refusal_lem {follower} {setting} w =
    let f = follower_in (get_or follower 0 0) in
    rw w.answer
    (told_by_lem (line_refusal follower setting) (octet_of (step_of f setting).answer) (first_up_to 11 (line_rows follower setting) refl)
    (λ z. from_sixteen f setting (rows_rest (ltb (length follower) 1) 9 _ z)))

-- a number that is not 0 is that of an offence that was found
found_at : (x : Option Found) {n offset : ℕ} → number_in x ≡ suc n → offset_in x ≡ offset → x ≡ offence_at (suc n) offset
found_at none e f = absurd (omega arith)
found_at (some found) e f = rw (← e, ← f)

-- the number of the first offence, and where it lies if there is one
offence_is_exact : (tests : List Test) (offset₀ r offset₁ : ℕ) → r ≡ number_in (first_of tests) → offset₁ ≡ unless_refused r (offset_in (first_of tests)) offset₀
    → (n offset : ℕ) → (r ≡ suc n) × (offset₁ ≡ offset) ↔ GivenAt (suc n) offset tests
offence_is_exact tests offset₀ r offset₁ e f n offset =
    let (to, from) = exact_offence.first_offence_is_exact tests (suc n) offset in (
      λ p. to (found_at (first_of tests) (sym e ∙ p.0) (sym (rw p.0 at f) ∙ p.1)),
      λ g. let same = from g in let number : r ≡ suc n = e ∙ rw same in (number, rw number at f ∙ rw same),
    )

pub exactly_when : Exactly
exactly_when =
    record {
      pg_replay_exactly = λ {state} {records} {from} {limit} {answers = answers} {gaps} {ran} w n.
          rw w.refusal (first_is_exact n (replay_rows state records from limit answers gaps ran));
      pg_line_exactly = λ {follower} {setting} w n. rw (line_refusal_lem w) (first_is_exact n (line_rows follower setting));
      pg_lines_exactly = λ {follower = follower} {trace} {answers} w n. rw w.refusal (first_is_exact n (lines_rows follower trace answers));
      pg_capture_exactly = λ {octets} w n. rw w.refusal (first_is_exact n (capture_rows octets));
      pg_make_capture_exactly = λ {notes} {records} {out₀} w n. rw w.refusal (first_is_exact n (encode_rows notes records out₀));
      pg_decode_defect_exactly = λ {octets} w n. rw w.refusal (first_is_exact n (defect_rows octets));
      pg_encode_defect_exactly = λ {octets₀ = octets₀} w n. rw w.refusal (first_is_exact n (defect_rows octets₀));
      pg_map_place_exactly = λ {s} {k} w n. rw w.refusal (first_is_exact n (place_rows s k));
      pg_decode_map_exactly = λ {s} {octets} {defects₀} w n offset. offence_is_exact (decode_tests s octets defects₀) _ _ _ w.refusal w.offset n offset;
      pg_encode_map_exactly = λ {s} {cylinder} {head} {defects} {out₀} w n. rw w.refusal (first_is_exact n (map.encode_rows s cylinder head defects (length out₀)));
      pg_read_map_exactly = λ {s} sectors {defects₀} w n offset. offence_is_exact (read_tests s sectors defects₀) _ _ _ w.refusal w.offset n offset;
      pg_write_map_exactly = λ {s} {cylinder} {head} {defects} {sectors₀} w n. rw w.refusal (first_is_exact n (write_rows s cylinder head defects sectors₀));
    }
