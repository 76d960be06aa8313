-- No second answer: two outcomes that satisfy what a call promises are equal, the number and every lent word and octet. `pg_power_up`, `pg_event` and
-- `pg_run` promise what the calls of `events` do, whose laws are `power_up_words_only`, `answer_event_only` and `run_records_only`.
-- Assumes nothing.
use Prim.Native.Nat.{ℕ}
use mathlib.Core.Path.{◌≡◌}
use mathlib.Core.List.{List}
use Rattle.laws.proofs.Only.{answer_only}
use Rattle.std.proofs.Math.Option.{Option}
use Rattle.pantoglide.specs.Capture.{CaptureFound, CaptureMade}
use Rattle.parts.specs.declared.setup.Setup.{Setup}
use Rattle.defects.specs.Offence.{Found}
use Rattle.pantoglide.specs.Defects.{DefectTold, DefectMade, PlaceTold, MapAnswered, MapTold, MapMade, MapReadOff, MapPut}
use Rattle.lines.specs.Reading.{Read}
use Rattle.lines.specs.declared.follower.Follower.{Follower}
use Rattle.pantoglide.specs.Line.{LineFollowed}
use Rattle.pantoglide.specs.Lines.{LinesRead}
use Rattle.pantoglide.specs.Replay.{ReplayOnWords}

pub pg_replay_only : {state records : List ℕ} {from limit : ℕ} {sectors staging answers gaps ran : List ℕ} {r r' : ℕ}
    {state' sectors' staging' answers' gaps' ran' state'' sectors'' staging'' answers'' gaps'' ran'' : List ℕ}
    → ReplayOnWords state records from limit sectors staging answers gaps ran r state' sectors' staging' answers' gaps' ran'
    → ReplayOnWords state records from limit sectors staging answers gaps ran r' state'' sectors'' staging'' answers'' gaps'' ran''
    → (r ≡ r') × (state' ≡ state'') × (sectors' ≡ sectors'') × (staging' ≡ staging'') × (answers' ≡ answers'') × (gaps' ≡ gaps'') × (ran' ≡ ran'')
pg_replay_only h k =
    let e = answer_only h.refusal k.refusal in (
      e,
      answer_only (rw e at h.state) k.state,
      answer_only (rw e at h.sectors) k.sectors,
      answer_only (rw e at h.staging) k.staging,
      answer_only (rw e at h.answers) k.answers,
      answer_only (rw e at h.gaps) k.gaps,
      answer_only (rw e at h.ran) k.ran,
    )

pub pg_line_only : {follower : List ℕ} {setting r r' : ℕ} {follower' follower'' : List ℕ} → LineFollowed follower setting r follower'
    → LineFollowed follower setting r' follower'' → (r ≡ r') × (follower' ≡ follower'')
pg_line_only h k = (answer_only h.answer k.answer, answer_only h.follower k.follower)

-- of `pg_lines` and of `pg_lines_plain`
pub pg_lines_only : {read : Follower → List ℕ → Read} {follower trace answers : List ℕ} {r r' : ℕ} {follower' follower'' answers' answers'' : List ℕ}
    → LinesRead read follower trace answers r follower' answers' → LinesRead read follower trace answers r' follower'' answers''
    → (r ≡ r') × (follower' ≡ follower'') × (answers' ≡ answers'')
pg_lines_only h k =
    let e = answer_only h.refusal k.refusal in
    (e, answer_only (rw e at h.follower) k.follower, answer_only (rw e at h.answers) k.answers)

pub pg_capture_only : {octets : List ℕ} {first₀ count₀ r r' first₁ count₁ first₂ count₂ : ℕ} → CaptureFound octets first₀ count₀ r first₁ count₁
    → CaptureFound octets first₀ count₀ r' first₂ count₂ → (r ≡ r') × (first₁ ≡ first₂) × (count₁ ≡ count₂)
pg_capture_only h k =
    let e = answer_only h.refusal k.refusal in
    (e, answer_only (rw e at h.first) k.first, answer_only (rw e at h.count) k.count)

pub pg_make_capture_only : {notes records out₀ : List ℕ} {size₀ r r' : ℕ} {out₁ out₂ : List ℕ} {size₁ size₂ : ℕ} → CaptureMade notes records out₀ size₀ r out₁ size₁
    → CaptureMade notes records out₀ size₀ r' out₂ size₂ → (r ≡ r') × (out₁ ≡ out₂) × (size₁ ≡ size₂)
pg_make_capture_only h k =
    let e = answer_only h.refusal k.refusal in
    (e, answer_only (rw e at h.out) k.out, answer_only (rw e at h.size) k.size)

pub pg_decode_defect_only : {octets : List ℕ} {cylinder₀ head₀ offset₀ length₀ r r' cylinder₁ head₁ offset₁ length₁ cylinder₂ head₂ offset₂ length₂ : ℕ}
    → DefectTold octets cylinder₀ head₀ offset₀ length₀ r cylinder₁ head₁ offset₁ length₁
    → DefectTold octets cylinder₀ head₀ offset₀ length₀ r' cylinder₂ head₂ offset₂ length₂
    → (r ≡ r') × (cylinder₁ ≡ cylinder₂) × (head₁ ≡ head₂) × (offset₁ ≡ offset₂) × (length₁ ≡ length₂)
pg_decode_defect_only h k =
    let e = answer_only h.refusal k.refusal in (
      e,
      answer_only (rw e at h.cylinder) k.cylinder,
      answer_only (rw e at h.head) k.head,
      answer_only (rw e at h.offset) k.offset,
      answer_only (rw e at h.length) k.length,
    )

pub pg_encode_defect_only : {cylinder head offset length : ℕ} {octets₀ : List ℕ} {r r' : ℕ} {octets₁ octets₂ : List ℕ}
    → DefectMade cylinder head offset length octets₀ r octets₁ → DefectMade cylinder head offset length octets₀ r' octets₂ → (r ≡ r') × (octets₁ ≡ octets₂)
pg_encode_defect_only h k = let e = answer_only h.refusal k.refusal in (e, answer_only (rw e at h.octets) k.octets)

pub pg_map_place_only : {s : Setup} {k cylinder₀ head₀ sector₀ r r' cylinder₁ head₁ sector₁ cylinder₂ head₂ sector₂ : ℕ}
    → PlaceTold s k cylinder₀ head₀ sector₀ r cylinder₁ head₁ sector₁ → PlaceTold s k cylinder₀ head₀ sector₀ r' cylinder₂ head₂ sector₂
    → (r ≡ r') × (cylinder₁ ≡ cylinder₂) × (head₁ ≡ head₂) × (sector₁ ≡ sector₂)
pg_map_place_only h k =
    let e = answer_only h.refusal k.refusal in
    (e, answer_only (rw e at h.cylinder) k.cylinder, answer_only (rw e at h.head) k.head, answer_only (rw e at h.sector) k.sector)

map_only : {s : Setup} {octets : List ℕ} {offence : Option Found} {defects₀ : List ℕ} {count₀ cylinder₀ head₀ offset₀ r r' : ℕ} {defects₁ defects₂ : List ℕ}
    {count₁ cylinder₁ head₁ offset₁ count₂ cylinder₂ head₂ offset₂ : ℕ}
    → MapAnswered s octets offence defects₀ count₀ cylinder₀ head₀ offset₀ r defects₁ count₁ cylinder₁ head₁ offset₁
    → MapAnswered s octets offence defects₀ count₀ cylinder₀ head₀ offset₀ r' defects₂ count₂ cylinder₂ head₂ offset₂
    → (r ≡ r') × (defects₁ ≡ defects₂) × (count₁ ≡ count₂) × (cylinder₁ ≡ cylinder₂) × (head₁ ≡ head₂) × (offset₁ ≡ offset₂)
map_only h k =
    let e = answer_only h.refusal k.refusal in (
      e,
      answer_only (rw e at h.defects) k.defects,
      answer_only (rw e at h.count) k.count,
      answer_only (rw e at h.cylinder) k.cylinder,
      answer_only (rw e at h.head) k.head,
      answer_only (rw e at h.offset) k.offset,
    )

pub pg_decode_map_only : {s : Setup} {octets defects₀ : List ℕ} {count₀ cylinder₀ head₀ offset₀ r r' : ℕ} {defects₁ defects₂ : List ℕ}
    {count₁ cylinder₁ head₁ offset₁ count₂ cylinder₂ head₂ offset₂ : ℕ}
    → MapTold s octets defects₀ count₀ cylinder₀ head₀ offset₀ r defects₁ count₁ cylinder₁ head₁ offset₁
    → MapTold s octets defects₀ count₀ cylinder₀ head₀ offset₀ r' defects₂ count₂ cylinder₂ head₂ offset₂
    → (r ≡ r') × (defects₁ ≡ defects₂) × (count₁ ≡ count₂) × (cylinder₁ ≡ cylinder₂) × (head₁ ≡ head₂) × (offset₁ ≡ offset₂)
pg_decode_map_only h k = map_only h k

pub pg_encode_map_only : {s : Setup} {cylinder head : ℕ} {defects out₀ : List ℕ} {size₀ r r' : ℕ} {out₁ out₂ : List ℕ} {size₁ size₂ : ℕ}
    → MapMade s cylinder head defects out₀ size₀ r out₁ size₁ → MapMade s cylinder head defects out₀ size₀ r' out₂ size₂
    → (r ≡ r') × (out₁ ≡ out₂) × (size₁ ≡ size₂)
pg_encode_map_only h k =
    let e = answer_only h.refusal k.refusal in
    (e, answer_only (rw e at h.out) k.out, answer_only (rw e at h.size) k.size)

pub pg_read_map_only : {s : Setup} (sectors : List ℕ) {defects₀ : List ℕ} {count₀ cylinder₀ head₀ offset₀ r r' : ℕ} {defects₁ defects₂ : List ℕ}
    {count₁ cylinder₁ head₁ offset₁ count₂ cylinder₂ head₂ offset₂ : ℕ}
    → MapReadOff s sectors defects₀ count₀ cylinder₀ head₀ offset₀ r defects₁ count₁ cylinder₁ head₁ offset₁
    → MapReadOff s sectors defects₀ count₀ cylinder₀ head₀ offset₀ r' defects₂ count₂ cylinder₂ head₂ offset₂
    → (r ≡ r') × (defects₁ ≡ defects₂) × (count₁ ≡ count₂) × (cylinder₁ ≡ cylinder₂) × (head₁ ≡ head₂) × (offset₁ ≡ offset₂)
pg_read_map_only sectors h k = map_only h k

pub pg_write_map_only : {s : Setup} {cylinder head : ℕ} {defects sectors₀ : List ℕ} {r r' : ℕ} {sectors₁ sectors₂ : List ℕ}
    → MapPut s cylinder head defects sectors₀ r sectors₁ → MapPut s cylinder head defects sectors₀ r' sectors₂ → (r ≡ r') × (sectors₁ ≡ sectors₂)
pg_write_map_only h k = let e = answer_only h.refusal k.refusal in (e, answer_only (rw e at h.sectors) k.sectors)
