-- `pg_capture` and `pg_make_capture`: "Capture" on numbers and lent slices.
use Rattle.std.specs.Prelude.{ℕ, ◌/◌, ◌≡◌, List}
use Rattle.laws.specs.Rows.{unless_refused}
use Rattle.laws.specs.Lists.{written_over}
use Rattle.capture.specs.Capture.{capture_refusal, first_record, distance_of}
use Rattle.capture.specs.Encoding.{encode_refusal, capture_octets, capture_length}

-- The promise of `pg_capture`: "Capture decoding tests 12, 13, 14"; else where the first record starts and how many there are.
pub record CaptureFound (octets : List ℕ) (first₀ count₀ r first₁ count₁ : ℕ) : Type 0 where
  pub refusal : r ≡ capture_refusal octets
  pub first : first₁ ≡ unless_refused r first₀ (first_record octets)
  pub count : count₁ ≡ unless_refused r count₀ (distance_of octets / 8)

-- The promise of `pg_make_capture`: "all encoders 10, then 8"; else notes, records and trailer at the front of `out`, and how many octets they are.
pub record CaptureMade (notes records out₀ : List ℕ) (size₀ r : ℕ) (out₁ : List ℕ) (size₁ : ℕ) : Type 0 where
  pub refusal : r ≡ encode_refusal notes records out₀
  pub out : out₁ ≡ unless_refused r out₀ (written_over out₀ (capture_octets notes records))
  pub size : size₁ ≡ unless_refused r size₀ (capture_length notes records)
