-- What an accepted event of kinds 3 to 9 can have done: its outcomes one by one, each with the tests that led to it. Those of commands and responses first.
-- Assumes nothing.
use Prim.Native.Nat.{ℕ, ◌+◌}
use mathlib.Core.Path.{◌≡◌, refl, sym, ◌∙◌}
use mathlib.Core.Bool.{true, false, ◌||◌, true≢false}
use mathlib.Core.List.{List}
use mathlib.Core.Option.{some, none}
use borrow.Author.Tests.{eqb-true, not-true}
use lib.Dec.{eqb}
use lib.ListN.{set, get_or}
use Rattle.laws.specs.Pick.{pick}
use Rattle.laws.proofs.Pick.{either, cases}
use Rattle.laws.proofs.Tests.{and_l, and_r}
use Rattle.status.specs.declared.drive_status.DriveStatus.TheVariants.{Normal, HeaderMiscompare, OperationException, UnsolicitedException}
use Rattle.parts.specs.Setup.{sector_start, sector_at, is_place, is_target, no_target}
use Rattle.parts.specs.Command.{load_drive_function, read_status, code_of, parameter_words, function_in}
use Rattle.parts.specs.Control.{control_of, is_write, is_read, takes_words, gives_words, is_data, is_at_target, words_to_come, words_read}
use Rattle.parts.specs.Pending.{invalid_parameter, unsupported_bus_control, OneBit, bit7, bit6, bit5, bit4, nothing_pending, faulted, octet0}
use Rattle.drive.specs.Answer.{paper}
use Rattle.drive.specs.State.{at_place, with_place, with_target, with_transfer, pending_on, posted_on, told, Result, result}
use Rattle.parts.specs.Tests.{transferring, moved_on}
use Rattle.drive.specs.Drive.{reserved, unreserved, priority_reserved, head_stepped, at_its_target, closed, ended}
use Rattle.drive.specs.Request.{octet2_cleared, taken_up, bad_request, controlled, data_control, opened, opening, positioned, targeted, status_read}
use Rattle.drive.specs.Transfer.{committed, staged, word_staged, word_taken}
use Rattle.drive.specs.Command.{with_parameter, place_sought, target_sought, seeking, functioned, obeyed, parameter_sent, words_told, status_cleared, response_taken, word_from_host, word_to_host, ended_early}
use Rattle.parts.specs.Kind.{word_of, place_of}
use Rattle.parts.specs.declared.kind.Kind.TheVariants.{Use}
use Rattle.parts.specs.declared.kind.Work.{Work}
use Rattle.parts.specs.declared.kind.Work.TheVariants.{DataControl, WordFromHost, TakeWord, End, Position, Target, ReadStatus}
use Rattle.drive.specs.Refusal.{is_one_open, row7}
use Rattle.drive.specs.Event.{act}
use Rattle.drive.specs.Frame.{ClearsFirst, control, position, target}
use Rattle.parts.specs.declared.control.Control.{Control}
use Rattle.parts.specs.declared.control.Control.TheVariants.{StepHead}
use Rattle.parts.specs.declared.control.Control.TheVariants as control-of
use Rattle.parts.specs.declared.command.Function.{Function}
use Rattle.parts.specs.declared.command.Function.TheVariants.{PriorityReserve, Reserve, Release, NoOperation, Recalibrate, ActsOnMore, NotListed}
use Rattle.parts.proofs.ByBits.{command_low, response_low, codes_open, codes_in_place}
use Rattle.parts.specs.declared.setup.Setup.{Setup}
use Rattle.drive.specs.declared.drive.Drive.{Drive}
use Rattle.parts.specs.declared.event.Event.{Event}
use Rattle.drive.specs.declared.answer.Outcome.{Outcome}
use Rattle.drive.specs.declared.answer.Answer.TheVariants.{Done, Status, Opened, Word, LastWord, Response}

-- ---- commands and responses

-- what a function does to a drive with nothing open
pub data FunctionDone (d : Drive) : Function → Drive → Type 0 where
  prioritised : FunctionDone d PriorityReserve (priority_reserved d)
  reserves : FunctionDone d Reserve (reserved d)
  releases : FunctionDone d Release (unreserved d)
  idles : FunctionDone d NoOperation d
  recalibrates : FunctionDone d Recalibrate (with_place d (at_place 0 d.place.head d.place.sector))

-- a good command
pub data Obeyed (d : Drive) (last : ℕ) : Drive → Type 0 where
  by_function : {f : Function} {at : Drive} → eqb d.transfer.control load_drive_function ≡ true → function_in last ≡ f → FunctionDone (closed d) f at → Obeyed d last at
  by_seek : eqb d.transfer.control load_drive_function ≡ false
      → is_place d.setup (place_sought d.transfer d.place last) ≡ true → is_target d.setup (target_sought d.transfer d.target last) ≡ true
      → Obeyed d last (with_target (with_place (closed d) (place_sought d.transfer d.place last)) (target_sought d.transfer d.target last))

-- a bad command, and the bit that it sets
pub data Disobeyed (d : Drive) (last : ℕ) : ℕ → Type 0 where
  acts_on_more : function_in last ≡ ActsOnMore → Disobeyed d last unsupported_bus_control
  not_listed : function_in last ≡ NotListed → Disobeyed d last invalid_parameter
  outside : eqb d.transfer.control load_drive_function ≡ false → Disobeyed d last invalid_parameter

pub its_bit : {d : Drive} {last bit : ℕ} → Disobeyed d last bit → OneBit bit
its_bit (acts_on_more q) = bit5
its_bit (not_listed q) = bit6
its_bit (outside z) = bit6

-- the next word of an open response
abbrev pub response_at : Drive → ℕ → ℕ
response_at d port = get_or (words_told d.transfer.control (pending_on d port) d.place d.target) d.transfer.moved 0

pub data Exchanged (d : Drive) (e : Event) : Work → Outcome → Type 0 where
  kept : eqb (d.transfer.moved + 1) (words_to_come d.setup d.transfer.control) ≡ false
      → Exchanged d e WordFromHost (told Done (with_transfer d (with_parameter d.transfer (word_of e))))
  obeys : {at : Drive} → Obeyed d (word_of e) at → Exchanged d e WordFromHost (told (Status Normal) at)
  disobeys : {bit : ℕ} → Disobeyed d (word_of e) bit
      → Exchanged d e WordFromHost (told (Status OperationException) (posted_on (closed d) e.port (faulted (pending_on (closed d) e.port) bit)))
  tells : eqb (d.transfer.moved + 1) (words_to_come d.setup d.transfer.control) ≡ false
      → Exchanged d e TakeWord (told (Word (response_at d e.port)) (with_transfer d (moved_on d.transfer (d.transfer.moved + 1))))
  tells_last : eqb (d.transfer.moved + 1) (words_to_come d.setup d.transfer.control) ≡ true
      → Exchanged d e TakeWord (told (LastWord (response_at d e.port)) (status_cleared d.transfer.control (closed d) e.port))
  cut : Exchanged d e End (told (Status Normal) (closed d))

-- ---- all of them

-- nothing is open where a request is let pass
pub request_idle : {work : Work} {e : Event} (d : Drive) → ClearsFirst e (Use work) → row7 work d ≡ false → is_one_open d ≡ false
request_idle d (control n) t = t
request_idle d position t = t
request_idle d target t = t

-- the code that reads status is none that clears or could be bad
pub not_for_status : {e : Event} → ClearsFirst e (Use DataControl) → eqb e.a0 read_status ≡ true → ⊥
not_for_status (control n) y = true≢false (sym y ∙ n)

-- the drive as a transfer opens on it: where it was, or at its target
pub data Sought (d : Drive) (c : ℕ) : Drive → Type 0 where
  in_place : is_at_target c ≡ false → Sought d c d
  at_target : is_at_target c ≡ true → eqb d.target no_target ≡ false → Sought d c (at_its_target d)

-- the drive that a request finds: octet 2 of its port is cleared, but not by the code that reads status
pub data Heard (d : Drive) (e : Event) : Work → Drive → Type 0 where
  afresh : {work : Work} → ClearsFirst e (Use work) → eqb (pending_on d e.port).octet1 0 ≡ true → Heard d e work (octet2_cleared d e.port)
  as_it_was : eqb e.a0 read_status ≡ true → Heard d e DataControl d

-- what a request does to the drive that it finds
pub data Asked (d : Drive) (e : Event) : Work → Outcome → Type 0 where
  bad : {work : Work} {bit : ℕ} → ClearsFirst e (Use work) → OneBit bit
      → Asked d e work (told (Status OperationException) (posted_on d e.port (faulted (pending_on d e.port) bit)))
  stepped : control_of e.a0 ≡ StepHead → Asked d e DataControl (told (Status Normal) (head_stepped d))
  nothing_to_come : {at : Drive} → Sought d e.a0 at → (is_write (control_of e.a0) || is_read (control_of e.a0)) ≡ true
      → Asked d e DataControl (told (Status Normal) (ended at))
  opens : {at : Drive} → Sought d e.a0 at → (takes_words (control_of e.a0) || gives_words (control_of e.a0)) ≡ true → eqb (words_to_come at.setup e.a0) 0 ≡ false
      → Asked d e DataControl (told (Opened (words_to_come at.setup e.a0) at.place) (with_transfer at (transferring e.a0 0)))
  placed : is_place d.setup (place_of e) ≡ true → Asked d e Position (told (Status Normal) (with_place d (place_of e)))
  aimed : is_target d.setup (word_of e) ≡ true → Asked d e Target (told (Status Normal) (with_target d (word_of e)))

-- the next word of an open read
abbrev pub word_at : Drive → List ℕ → ℕ
word_at d sectors = get_or (words_read d.setup d.transfer.control (sector_at d.setup d.place sectors)) d.transfer.moved 0

-- what leaves the lent words as they were
pub data Quiet (d : Drive) (e : Event) (sectors : List ℕ) : Work → Outcome → Type 0 where
  unsolicited : {work : Work} → ClearsFirst e (Use work) → eqb (pending_on d e.port).octet1 0 ≡ false → Quiet d e sectors work (told (Status UnsolicitedException) d)
  asked : {at : Drive} {work : Work} {o : Outcome} → Heard d e work at → Asked at e work o → Quiet d e sectors work o
  taken_last : is_data d.transfer.control ≡ true → Quiet d e sectors TakeWord (told (LastWord (word_at d sectors)) (ended d))
  taken : is_data d.transfer.control ≡ true → eqb (d.transfer.moved + 1) (words_to_come d.setup d.transfer.control) ≡ false
      → Quiet d e sectors TakeWord (told (Word (word_at d sectors)) (with_transfer d (moved_on d.transfer (d.transfer.moved + 1))))
  ends : is_data d.transfer.control ≡ true → Quiet d e sectors End (told (Status Normal) (ended d))
  exchanged : {work : Work} {o : Outcome} → is_data d.transfer.control ≡ false → Exchanged d e work o → Quiet d e sectors work o
  status_told : Quiet d e sectors ReadStatus
      (told (Response (octet0 (pending_on d e.port)) (pending_on d e.port).octet1 (pending_on d e.port).octet2) (posted_on d e.port nothing_pending))

-- the same, or a word of a write: it is staged, and it can be one that differs, the last, or one before that
pub data WorkDone (d : Drive) (e : Event) (sectors staging : List ℕ) : Work → Result → Type 0 where
  quiet : {work : Work} {o : Outcome} → Quiet d e sectors work o → WorkDone d e sectors staging work (result o sectors staging)
  miscompared : is_data d.transfer.control ≡ true → WorkDone d e sectors staging WordFromHost
      (result (told (Status HeaderMiscompare) (ended d)) sectors (set staging d.transfer.moved (word_of e)))
  completed : is_data d.transfer.control ≡ true → eqb (d.transfer.moved + 1) (words_to_come d.setup d.transfer.control) ≡ true → WorkDone d e sectors staging WordFromHost
      (result (told (Status Normal) (ended d))
      (committed d.setup d.transfer.control (sector_start d.setup d.place) sectors (set staging d.transfer.moved (word_of e)))
      (set staging d.transfer.moved (word_of e)))
  more : is_data d.transfer.control ≡ true → eqb (d.transfer.moved + 1) (words_to_come d.setup d.transfer.control) ≡ false → WorkDone d e sectors staging WordFromHost
      (result (told Done (with_transfer d (moved_on d.transfer (d.transfer.moved + 1)))) sectors (set staging d.transfer.moved (word_of e)))

-- ---- how each comes about

pub status_responds : (c : ℕ) → eqb c read_status ≡ true → control_of c ≡ control-of.Response
unfolding control_of code_of pick
status_responds c z = rw (eqb-true c read_status z)

pub code_words_come : (s : Setup) (c : ℕ) → is_data c ≡ false → (takes_words (control_of c) || gives_words (control_of c)) ≡ true → eqb (words_to_come s c) 0 ≡ false
unfolding words_to_come pick
code_words_come s c low w = rw low (not-true (eqb (parameter_words c) 0) (sym (codes_open c low) ∙ w))

module _ (d : Drive) (e : Event) where
  data_opened : {at : Drive} → Sought d e.a0 at → (is_write (control_of e.a0) || is_read (control_of e.a0)) ≡ true
      → (takes_words (control_of e.a0) || gives_words (control_of e.a0)) ≡ true → Asked d e DataControl (opened at e.a0)
  unfolding opened
  data_opened {at} q o w = cases (Asked d e DataControl) (eqb (words_to_come at.setup e.a0) 0) (λ z. nothing_to_come q o) (λ z. opens q w z)

  data_sought : eqb e.a0 read_status ≡ false → (is_write (control_of e.a0) || is_read (control_of e.a0)) ≡ true → (takes_words (control_of e.a0) || gives_words (control_of e.a0)) ≡ true
      → Asked d e DataControl (opening d e.port e.a0)
  unfolding opening bad_request
  data_sought n o w =
      cases (Asked d e DataControl) (is_at_target e.a0)
      (λ a. cases (Asked d e DataControl) (eqb d.target no_target) (λ z. bad (control n) bit4) (λ z. data_opened (at_target a z) o w))
      (λ a. data_opened (in_place a) o w)

  -- a code below 80 has words to come, and is not at the target
  code_opened : is_data e.a0 ≡ false → (takes_words (control_of e.a0) || gives_words (control_of e.a0)) ≡ true → Asked d e DataControl (opened d e.a0)
  unfolding opened pick
  code_opened low w = rw (code_words_come d.setup e.a0 low w) (opens (in_place (codes_in_place e.a0 low w)) w (code_words_come d.setup e.a0 low w))

  control_done : eqb e.a0 read_status ≡ false → (k : Control) → control_of e.a0 ≡ k → Asked d e DataControl (controlled k d e.port e.a0)
  unfolding bad_request
  control_done n control-of.Write q = data_sought n (rw q) (rw q)
  control_done n control-of.Read q = data_sought n (rw q) (rw q)
  control_done n control-of.Command q = code_opened (command_low e.a0 q) (rw q)
  control_done n control-of.Response q = code_opened (response_low e.a0 q) (rw q)
  control_done n control-of.StepHead q = stepped q
  control_done n control-of.Reserved q = bad (control n) bit7
  control_done n control-of.Unsupported q = bad (control n) bit5
  control_done n control-of.Invalid q = bad (control n) bit7

module _ (d : Drive) (e : Event) (sectors staging : List ℕ) where
  unless_stopped : {work : Work} {request : Drive → Outcome} → ClearsFirst e (Use work) → ((at : Drive) → Asked at e work (request at))
      → Quiet d e sectors work (taken_up d e.port request)
  unless_stopped {work} q done = cases (Quiet d e sectors work) _ (λ z. asked (afresh q z) (done (octet2_cleared d e.port))) (unsolicited q)

  function_done_lem : (f : Function) → function_in (word_of e) ≡ f → eqb d.transfer.control load_drive_function ≡ true
      → Exchanged d e WordFromHost (functioned f (closed d) e.port)
  unfolding bad_request
  function_done_lem PriorityReserve q z = obeys (by_function z q prioritised)
  function_done_lem Reserve q z = obeys (by_function z q reserves)
  function_done_lem Release q z = obeys (by_function z q releases)
  function_done_lem NoOperation q z = obeys (by_function z q idles)
  function_done_lem Recalibrate q z = obeys (by_function z q recalibrates)
  function_done_lem ActsOnMore q z = disobeys (acts_on_more q)
  function_done_lem NotListed q z = disobeys (not_listed q)

  pub parameter_sent_lem : Exchanged d e WordFromHost (parameter_sent d e.port (word_of e))
  unfolding parameter_sent obeyed seeking bad_request closed
  parameter_sent_lem =
      cases (Exchanged d e WordFromHost) _
      (λ last. cases (Exchanged d e WordFromHost) _ (λ z. function_done_lem (function_in (word_of e)) refl z)
      (λ z. cases (Exchanged d e WordFromHost) _
      (λ i. obeys (by_seek z (and_l _ (is_target d.setup _) i) (and_r (is_place d.setup _) _ i))) (λ i. disobeys (outside z))))
      (λ more. kept more)

  pub response_taken_lem : Exchanged d e TakeWord (response_taken d e.port)
  unfolding response_taken
  response_taken_lem = cases (Exchanged d e TakeWord) _ tells_last tells

  pub work_done : (work : Work) → WorkDone d e sectors staging work (act (Use work) d e sectors staging)
  unfolding data_control positioned targeted status_read bad_request word_staged staged word_taken word_from_host word_to_host ended_early
  work_done DataControl =
      quiet (cases (Quiet d e sectors DataControl) (eqb e.a0 read_status)
      (λ z. let q = status_responds e.a0 z in asked (as_it_was z) (code_opened d e (response_low e.a0 q) (rw q)))
      (λ z. unless_stopped (control z) (λ at. control_done at e z (control_of e.a0) refl)))
  work_done WordFromHost =
      cases (WorkDone d e sectors staging WordFromHost) (is_data d.transfer.control)
      (λ high. either (WorkDone d e sectors staging WordFromHost) _ (miscompared high)
      (cases (WorkDone d e sectors staging WordFromHost) _ (completed high) (more high)))
      (λ low. quiet (exchanged low parameter_sent_lem))
  work_done TakeWord =
      quiet (cases (Quiet d e sectors TakeWord) (is_data d.transfer.control)
      (λ high. cases (Quiet d e sectors TakeWord) _ (λ z. taken_last high) (taken high)) (λ low. exchanged low response_taken_lem))
  work_done End =
      quiet (cases (λ (at : Drive). Quiet d e sectors End (told (Status Normal) at)) (is_data d.transfer.control) ends (λ low. exchanged low cut))
  work_done Position = quiet (unless_stopped position (λ at. cases (Asked at e Position) _ placed (λ z. bad position bit6)))
  work_done Target = quiet (unless_stopped target (λ at. cases (Asked at e Target) _ aimed (λ z. bad target bit6)))
  work_done ReadStatus = quiet status_told

-- ---- what the answer tells beside a status

pub data Told (d : Drive) (e : Event) (sectors : List ℕ) : Work → Outcome → Type 0 where
  an_opening : {heard at : Drive} → Heard d e DataControl heard → Sought heard e.a0 at → (takes_words (control_of e.a0) || gives_words (control_of e.a0)) ≡ true
      → Told d e sectors DataControl (told (Opened (words_to_come at.setup e.a0) at.place) (with_transfer at (transferring e.a0 0)))
  a_word : {o : Outcome} → is_data d.transfer.control ≡ true → (paper o.answer).word ≡ some (word_at d sectors) → (paper o.answer).place ≡ none → (paper o.answer).response ≡ none
      → Told d e sectors TakeWord o
  a_response_word : {o : Outcome} → is_data d.transfer.control ≡ false → (paper o.answer).word ≡ some (response_at d e.port) → (paper o.answer).place ≡ none
      → (paper o.answer).response ≡ none → Told d e sectors TakeWord o
  a_response : Told d e sectors ReadStatus
      (told (Response (octet0 (pending_on d e.port)) (pending_on d e.port).octet1 (pending_on d e.port).octet2) (posted_on d e.port nothing_pending))
  nothing : {work : Work} {o : Outcome} → (paper o.answer).word ≡ none → (paper o.answer).place ≡ none → (paper o.answer).response ≡ none
      → Told d e sectors work o

asked_told : {d at : Drive} {e : Event} {sectors : List ℕ} {work : Work} {o : Outcome} → Heard d e work at → Asked at e work o → Told d e sectors work o
unfolding paper
asked_told h (bad q b) = nothing refl refl refl
asked_told h (stepped k) = nothing refl refl refl
asked_told h (nothing_to_come q w) = nothing refl refl refl
asked_told h (opens q o z) = an_opening h q o
asked_told h (placed p) = nothing refl refl refl
asked_told h (aimed t) = nothing refl refl refl

quiet_told : {d : Drive} {e : Event} {sectors : List ℕ} {work : Work} {o : Outcome} → Quiet d e sectors work o → Told d e sectors work o
unfolding paper
quiet_told (unsolicited q z) = nothing refl refl refl
quiet_told (asked h x) = asked_told h x
quiet_told (taken_last high) = a_word high refl refl refl
quiet_told (taken high z) = a_word high refl refl refl
quiet_told (ends high) = nothing refl refl refl
quiet_told (exchanged low (kept z)) = nothing refl refl refl
quiet_told (exchanged low (obeys h)) = nothing refl refl refl
quiet_told (exchanged low (disobeys b)) = nothing refl refl refl
quiet_told (exchanged low (tells z)) = a_response_word low refl refl refl
quiet_told (exchanged low (tells_last z)) = a_response_word low refl refl refl
quiet_told (exchanged low cut) = nothing refl refl refl
quiet_told status_told = a_response

pub work_told : {d : Drive} {e : Event} {sectors staging : List ℕ} {work : Work} {r : Result} → WorkDone d e sectors staging work r → Told d e sectors work r.outcome
unfolding paper
work_told (quiet q) = quiet_told q
work_told (miscompared high) = nothing refl refl refl
work_told (completed high z) = nothing refl refl refl
work_told (more high z) = nothing refl refl refl
