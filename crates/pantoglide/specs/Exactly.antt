-- "Each number is given when its row holds and no row tested earlier does": of `pg_replay`, the calls for the lines, the calls for captures and those for the defect map.
-- The other calls promise what those of `events` do, and so refuse as these.
use Rattle.std.specs.Prelude.{ℕ, suc, List, ◌↔◌, ◌≡◌, length}
use Rattle.laws.specs.Rows.{Given}
use Rattle.parts.specs.declared.setup.Setup.{Setup}
use Rattle.capture.specs.Capture.{capture_rows}
use Rattle.capture.specs.Encoding.{encode_rows}
use Rattle.defects.specs.Defect.{defect_rows}
use Rattle.defects.specs.Place.{place_rows}
use Rattle.defects.specs.Decoding.{decode_tests}
use Rattle.defects.specs.Encoding as map
use Rattle.defects.specs.Sectors.{read_tests, write_rows}
use Rattle.defects.specs.Exactly.{GivenAt}
use Rattle.pantoglide.specs.Capture.{CaptureFound, CaptureMade}
use Rattle.pantoglide.specs.Defects.{DefectTold, DefectMade, PlaceTold, MapTold, MapMade, MapReadOff, MapPut}
use Rattle.pantoglide.specs.Replay.{replay_rows, ReplayOnWords}
use Rattle.lines.specs.Reading.{Read}
use Rattle.lines.specs.declared.follower.Follower.{Follower}
use Rattle.pantoglide.specs.Line.{line_rows, LineFollowed, refusal_in}
use Rattle.pantoglide.specs.Lines.{lines_rows, LinesRead}

-- Whatever meets the promise refuses with number n if and only if row n holds and no row tested earlier does.
pub record Exactly : Type 0 where
  -- The rows of the call itself: those of each event are told in the words of its answer.
  pub pg_replay_exactly : {state records : List ℕ} {from limit : ℕ} {sectors staging answers gaps ran : List ℕ} {r : ℕ} {state' sectors' staging' answers' gaps' ran' : List ℕ}
      → ReplayOnWords state records from limit sectors staging answers gaps ran r state' sectors' staging' answers' gaps' ran'
      → (n : ℕ) → r ≡ suc n ↔ Given (suc n) (replay_rows state records from limit answers gaps ran)
  pub pg_line_exactly : {follower : List ℕ} {setting r : ℕ} {follower' : List ℕ} → LineFollowed follower setting r follower'
      → (n : ℕ) → refusal_in r ≡ suc n ↔ Given (suc n) (line_rows follower setting)
  -- The rows of `pg_lines` and of `pg_lines_plain`: 8 and 11 are answers to settings.
  pub pg_lines_exactly : {read : Follower → List ℕ → Read} {follower trace answers : List ℕ} {r : ℕ} {follower' answers' : List ℕ}
      → LinesRead read follower trace answers r follower' answers' → (n : ℕ) → r ≡ suc n ↔ Given (suc n) (lines_rows follower trace answers)
  pub pg_capture_exactly : {octets : List ℕ} {first₀ count₀ r first₁ count₁ : ℕ} → CaptureFound octets first₀ count₀ r first₁ count₁
      → (n : ℕ) → r ≡ suc n ↔ Given (suc n) (capture_rows octets)
  pub pg_make_capture_exactly : {notes records out₀ : List ℕ} {size₀ r : ℕ} {out₁ : List ℕ} {size₁ : ℕ} → CaptureMade notes records out₀ size₀ r out₁ size₁
      → (n : ℕ) → r ≡ suc n ↔ Given (suc n) (encode_rows notes records out₀)
  pub pg_decode_defect_exactly : {octets : List ℕ} {cylinder₀ head₀ offset₀ length₀ r cylinder₁ head₁ offset₁ length₁ : ℕ}
      → DefectTold octets cylinder₀ head₀ offset₀ length₀ r cylinder₁ head₁ offset₁ length₁ → (n : ℕ) → r ≡ suc n ↔ Given (suc n) (defect_rows octets)
  pub pg_encode_defect_exactly : {cylinder head offset length : ℕ} {octets₀ : List ℕ} {r : ℕ} {octets₁ : List ℕ}
      → DefectMade cylinder head offset length octets₀ r octets₁ → (n : ℕ) → r ≡ suc n ↔ Given (suc n) (defect_rows octets₀)
  pub pg_map_place_exactly : {s : Setup} {k cylinder₀ head₀ sector₀ r cylinder₁ head₁ sector₁ : ℕ}
      → PlaceTold s k cylinder₀ head₀ sector₀ r cylinder₁ head₁ sector₁ → (n : ℕ) → r ≡ suc n ↔ Given (suc n) (place_rows s k)
  -- Number and offset, exactly when a test of both holds and no test before it does.
  pub pg_decode_map_exactly : {s : Setup} {octets defects₀ : List ℕ} {count₀ cylinder₀ head₀ offset₀ r : ℕ} {defects₁ : List ℕ} {count₁ cylinder₁ head₁ offset₁ : ℕ}
      → MapTold s octets defects₀ count₀ cylinder₀ head₀ offset₀ r defects₁ count₁ cylinder₁ head₁ offset₁
      → (n offset : ℕ) → (r ≡ suc n) × (offset₁ ≡ offset) ↔ GivenAt (suc n) offset (decode_tests s octets defects₀)
  pub pg_encode_map_exactly : {s : Setup} {cylinder head : ℕ} {defects out₀ : List ℕ} {size₀ r : ℕ} {out₁ : List ℕ} {size₁ : ℕ}
      → MapMade s cylinder head defects out₀ size₀ r out₁ size₁ → (n : ℕ) → r ≡ suc n ↔ Given (suc n) (map.encode_rows s cylinder head defects (length out₀))
  pub pg_read_map_exactly : {s : Setup} (sectors : List ℕ) {defects₀ : List ℕ} {count₀ cylinder₀ head₀ offset₀ r : ℕ} {defects₁ : List ℕ} {count₁ cylinder₁ head₁ offset₁ : ℕ}
      → MapReadOff s sectors defects₀ count₀ cylinder₀ head₀ offset₀ r defects₁ count₁ cylinder₁ head₁ offset₁
      → (n offset : ℕ) → (r ≡ suc n) × (offset₁ ≡ offset) ↔ GivenAt (suc n) offset (read_tests s sectors defects₀)
  pub pg_write_map_exactly : {s : Setup} {cylinder head : ℕ} {defects sectors₀ : List ℕ} {r : ℕ} {sectors₁ : List ℕ}
      → MapPut s cylinder head defects sectors₀ r sectors₁ → (n : ℕ) → r ≡ suc n ↔ Given (suc n) (write_rows s cylinder head defects sectors₀)
