-- Commands and responses on the words of a state: how many of their words have moved, and what a seek and a function leave.
-- Assumes nothing.
use Rattle.std.proofs.Common.{◌≡◌, ℕ, zero, suc, ◌+◌, ◌<◌, Bool, true, false, ◌&&◌, ◌||◌, eqb, List, [], ◌∷◌, get_or, sym, refl, ◌∙◌, arith, le-ltb, eq-eqb, ne_eqb, eqb-true, leb-true}
use mathlib.Core.Bool.{or-true}
use borrow.Author.Tests.{eqb-false}
use Rattle.laws.specs.Pick.{pick}
use Rattle.laws.proofs.Tests.{and_l}
use Rattle.laws.proofs.Lists.{each_one_of}
use Rattle.status.specs.declared.drive_status.DriveStatus.TheVariants.{Normal, OperationException}
use Rattle.parts.specs.Setup.{is_place, is_target}
use Rattle.parts.specs.Command.{parameter_words, function_in}
use Rattle.parts.specs.Control.{is_data}
use Rattle.parts.specs.Tests.{transferring, is_taking, is_giving}
use Rattle.parts.specs.declared.command.Function.{Function}
use Rattle.parts.specs.declared.pending.Pending.{Pending}
use Rattle.parts.specs.declared.setup.Setup.{Setup}
use Rattle.parts.specs.declared.transfer.Transfer.{Transfer}
use Rattle.parts.proofs.ByBits.{commands_few, single_commands}
use Rattle.parts.proofs.Bounds.{Limits, limits, code_words}
use Rattle.drive.specs.Request.{bad_request}
use Rattle.drive.specs.State.{at_place, with_place, with_target, told}
use Rattle.drive.specs.Command.{cylinder_of, place_sought, target_sought, seeking, functioned, obeyed, parameter_sent, status_told, response_taken, word_from_host, word_to_host, ended_early}
use Rattle.drive.specs.Drive.{closed, ended}
use Rattle.drive.specs.Transfer.{word_staged, word_taken}
use Rattle.drive.specs.declared.answer.Answer.{Answer}
use Rattle.drive.specs.declared.answer.Answer.TheVariants.{Status}
use Rattle.drive.specs.declared.drive.Drive.{Drive}
use Rattle.drive.proofs.Sound.{sound}
use Rattle.drive.proofs.Own.{word_to_come}
use Rattle.events.specs.State.{drive_in, moved_to}
use Rattle.events.specs.Fit.{Fit, Did, DidIn}
use Rattle.events.proofs.Done.{did_first, did_in}

-- ---- the words moved

pub moved_word : (state : List ℕ) → get_or state 15 0 ≡ (drive_in state).transfer.moved
unfolding drive_in
moved_word state = refl

-- fewer than its words have moved of an open command or response
pub moved_within : {state : List ℕ} → Fit state → is_data (drive_in state).transfer.control ≡ false → (is_taking (drive_in state).transfer || is_giving (drive_in state).transfer) ≡ true
    → (drive_in state).transfer.moved < parameter_words (drive_in state).transfer.control
moved_within {state} f low o =
    let d = drive_in state in
    rw (← (code_words d.setup d.transfer.control low)) (word_to_come d.setup d.holding d.transfer (sound d f.sound).transfer o)

pub told_within : {state : List ℕ} → Fit state → is_data (drive_in state).transfer.control ≡ false → is_giving (drive_in state).transfer ≡ true
    → (drive_in state).transfer.moved < parameter_words (drive_in state).transfer.control
told_within {state} f low o = moved_within f low (rw o (or-true (is_taking (drive_in state).transfer)))

-- the word of a command that has one is its last
pub one_word : {state : List ℕ} → Fit state → is_data (drive_in state).transfer.control ≡ false → is_taking (drive_in state).transfer ≡ true
    → parameter_words (drive_in state).transfer.control ≡ 1 → (drive_in state).transfer.moved + 1 ≡ parameter_words (drive_in state).transfer.control
one_word f low o e = omega (arith, moved_within f low (rw o), e)

-- and of a command there are four words at most, so that three are kept
pub kept_few : {state : List ℕ} → Fit state → is_data (drive_in state).transfer.control ≡ false → is_taking (drive_in state).transfer ≡ true
    → ((drive_in state).transfer.moved + 1 ≡ parameter_words (drive_in state).transfer.control → ⊥) → (drive_in state).transfer.moved < 3
kept_few {state} f low o n =
    let d = drive_in state in
    let few = leb-true (parameter_words d.transfer.control) 4 (commands_few d.transfer.control low o) in
    omega (arith, moved_within f low (rw o), few)

-- ---- the words of a response

-- behind the first two words of 44 stand zeros
pub zeros_later : (p : Pending) (k : ℕ) → (k ≡ 0 → ⊥) → (k ≡ 1 → ⊥) → k < 4 → 0 ≡ get_or (status_told p) k 0
zeros_later p zero n m h = absurd (n refl)
zeros_later p (suc zero) n m h = absurd (m refl)
zeros_later p (suc (suc zero)) n m h = refl
zeros_later p (suc (suc (suc zero))) n m h = refl
zeros_later p (suc (suc (suc (suc k)))) n m h = absurd (omega arith)

-- ---- a seek

-- a cylinder of more than 16 bits is outside every drive
pub sought_by : (s : Setup) (high low head sector target : ℕ) → Limits s
    → (eqb high 0 && is_place s (at_place low head sector) && is_target s target) ≡ (is_place s (at_place (cylinder_of high low) head sector) && is_target s target)
unfolding is_place
sought_by s high low head sector target l = by_high (eqb high 0) refl
  where
    by_high : (none : Bool) → eqb high 0 ≡ none
        → (none && is_place s (at_place low head sector) && is_target s target) ≡ (is_place s (at_place (cylinder_of high low) head sector) && is_target s target)
    by_high true e = let same : cylinder_of high low ≡ low = omega (arith, eqb-true high 0 e) in rw same
    by_high false e = rw (le-ltb (cylinder_of high low) s.cylinders (omega (arith, l.cylinders, eqb-false high 0 e)))

-- the words are put where the tests let them go
pub did_seek : (state : List ℕ) (port high low head target : ℕ) {r : Bool} {state' : List ℕ} → Fit state → let d = drive_in state in
    let place = at_place low head d.place.sector in
    r ≡ (eqb high 0 && is_place d.setup place && is_target d.setup target) → r ≡ true → state' ≡ moved_to state (with_target (with_place d place) target)
    → Did state (seeking d port (at_place (cylinder_of high low) head d.place.sector) target) (Status Normal) state'
unfolding seeking
did_seek state port high low head target f e t p =
    let d = drive_in state in
    let l = limits d.setup (sound d f.sound).limits in
    let none = eqb-true high 0 (and_l (eqb high 0) _ (and_l (eqb high 0 && is_place d.setup (at_place low head d.place.sector)) _ (sym e ∙ t))) in
    let same : cylinder_of high low ≡ low = omega (arith, none) in
    did_first _ _ _ _ (e ∙ sought_by d.setup high low head d.place.sector target l) t (record { answer = refl; state = rw same p })

-- what a command asks, code by code
pub obeyed_01 : (t : Transfer) (d : Drive) (port last : ℕ) → t.control ≡ 0x01 → obeyed t d port last ≡ functioned (function_in last) d port
unfolding obeyed pick
obeyed_01 t d port last e = rw e

pub obeyed_04 : (t : Transfer) (d : Drive) (port last : ℕ) → t.control ≡ 0x04
    → obeyed t d port last ≡ seeking d port (at_place (cylinder_of t.parameters.word0 last) d.place.head d.place.sector) d.target
unfolding obeyed place_sought target_sought pick
obeyed_04 t d port last e = rw e

pub obeyed_05 : (t : Transfer) (d : Drive) (port last : ℕ) → t.control ≡ 0x05
    → obeyed t d port last ≡ seeking d port (at_place (cylinder_of 0 d.place.cylinder) last d.place.sector) d.target
unfolding obeyed place_sought target_sought pick
obeyed_05 t d port last e = let low : cylinder_of 0 d.place.cylinder ≡ d.place.cylinder = omega arith in rw (e, low)

pub obeyed_06 : (t : Transfer) (d : Drive) (port last : ℕ) → t.control ≡ 0x06
    → obeyed t d port last ≡ seeking d port (at_place (cylinder_of 0 d.place.cylinder) d.place.head d.place.sector) last
unfolding obeyed place_sought target_sought pick
obeyed_06 t d port last e = let low : cylinder_of 0 d.place.cylinder ≡ d.place.cylinder = omega arith in rw (e, low)

pub obeyed_07 : (t : Transfer) (d : Drive) (port last : ℕ) → (t.control ≡ 0x01 → ⊥) → (t.control ≡ 0x04 → ⊥) → (t.control ≡ 0x05 → ⊥) → (t.control ≡ 0x06 → ⊥)
    → obeyed t d port last
    ≡ seeking d port (at_place (cylinder_of t.parameters.word0 t.parameters.word1) t.parameters.word2 d.place.sector) last
unfolding obeyed place_sought target_sought pick
obeyed_07 t d port last a b c e = rw (ne_eqb t.control 0x01 a, ne_eqb t.control 0x04 b, ne_eqb t.control 0x05 c, ne_eqb t.control 0x06 e)

-- the commands of one word do not look at those that were kept
pub single_obeyed : (t : Transfer) (d : Drive) (port last : ℕ) → is_data t.control ≡ false → is_taking t ≡ true → parameter_words t.control ≡ 1
    → obeyed (transferring t.control 0) d port last ≡ obeyed t d port last
single_obeyed t d port last low o e =
    let bare = transferring t.control 0 in
    each_one_of (λ c. t.control ≡ c → obeyed bare d port last ≡ obeyed t d port last) (0x01 ∷ 0x05 ∷ 0x06 ∷ []) t.control (single_commands t.control low o (eq-eqb (parameter_words t.control) 1 e))
    (λ z. obeyed_01 bare d port last z ∙ sym (obeyed_01 t d port last z), (λ z. obeyed_05 bare d port last z ∙ sym (obeyed_05 t d port last z), (λ z. obeyed_06 bare d port last z ∙ sym (obeyed_06 t d port last z), tt))) refl

-- a bad command is told by its status alone
pub did_bad : (state : List ℕ) (port bit : ℕ) {answer : Answer} {state' : List ℕ} → Did state (bad_request (drive_in state) port bit) answer state'
    → Did state (bad_request (drive_in state) port bit) (Status OperationException) state'
unfolding bad_request
did_bad state port bit t = record { answer = refl; state = t.state }

-- ---- a function

pub did_functioned : (state : List ℕ) (port word : ℕ) (function : Function) {answer : Answer} {state' : List ℕ} → function ≡ function_in word
    → Did state (functioned function (drive_in state) port) answer state' → Did state (functioned (function_in word) (drive_in state) port) answer state'
did_functioned state port word function e t = rw (← e) t

-- ---- kinds 4, 5 and 6, by what is open

pub did_ended : (state : List ℕ) {state' : List ℕ} → is_data (drive_in state).transfer.control ≡ true → state' ≡ moved_to state (ended (drive_in state))
    → Did state (told (Status Normal) (ended_early (drive_in state))) (Status Normal) state'
unfolding ended_early pick
did_ended state h e = rw h (record { answer = refl; state = e })

pub did_cut : (state : List ℕ) {state' : List ℕ} → is_data (drive_in state).transfer.control ≡ false → state' ≡ moved_to state (closed (drive_in state))
    → Did state (told (Status Normal) (ended_early (drive_in state))) (Status Normal) state'
unfolding ended_early pick
did_cut state h e = rw h (record { answer = refl; state = e })

pub did_write : {state state' sectors' staging' : List ℕ} {r : Answer} (port word : ℕ) (sectors staging : List ℕ) → is_data (drive_in state).transfer.control ≡ true
    → DidIn state (word_staged (drive_in state) word sectors staging) r state' sectors' staging'
    → DidIn state (word_from_host (drive_in state) port word sectors staging) r state' sectors' staging'
unfolding word_from_host pick
did_write port word sectors staging h t = rw h t

pub did_command : {state state' : List ℕ} {r : Answer} (port word : ℕ) (sectors staging : List ℕ) → is_data (drive_in state).transfer.control ≡ false
    → Did state (parameter_sent (drive_in state) port word) r state' → DidIn state (word_from_host (drive_in state) port word sectors staging) r state' sectors staging
unfolding word_from_host pick
did_command port word sectors staging h t = rw h (did_in sectors staging t)

pub did_read : {state state' : List ℕ} {r : Answer} (port : ℕ) (sectors : List ℕ) → is_data (drive_in state).transfer.control ≡ true
    → Did state (word_taken (drive_in state) sectors) r state' → Did state (word_to_host (drive_in state) port sectors) r state'
unfolding word_to_host pick
did_read port sectors h t = rw h t

pub did_respond : {state state' : List ℕ} {r : Answer} (port : ℕ) (sectors : List ℕ) → is_data (drive_in state).transfer.control ≡ false
    → Did state (response_taken (drive_in state) port) r state' → Did state (word_to_host (drive_in state) port sectors) r state'
unfolding word_to_host pick
did_respond port sectors h t = rw h t
