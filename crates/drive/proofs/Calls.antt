-- Demand 3 of calls of `handle`: what keeps its promise runs as the definitions do.
-- Assumes nothing.
use Prim.Native.Nat.{ℕ}
use mathlib.Core.Path.{◌≡◌, refl, ap, ◌∙◌}
use mathlib.Core.Bool.{true, false}
use mathlib.Core.List.{List, [], ◌∷◌, ◌++◌}
use Rattle.std.specs.Prelude.{Ok}
use Rattle.laws.proofs.Rows
use Rattle.parts.specs.Setup.{within_limits}
use Rattle.drive.specs.Refusal.{row10}
use Rattle.drive.specs.Event.{Handled}
use Rattle.drive.specs.Power.{at_rest, power_up_rows, PoweredUp}
use Rattle.drive.specs.Run.{Machine, machine, answer_to, after, answers, final}
use Rattle.drive.specs.Accepted.{accepted}
use Rattle.drive.specs.Journal.{journal}
use Rattle.drive.specs.Demand3.{MeetsDemand3}
use Rattle.drive.specs.Calls.{Calls, none, call, Ran, Demand3OfCalls}
use Rattle.parts.specs.declared.setup.Setup.{Setup}
use Rattle.drive.specs.declared.drive.Drive.{Drive}
use Rattle.parts.specs.declared.event.Event.{Event}
use Rattle.drive.specs.declared.answer.Answer.{Answer}
use Rattle.drive.specs.declared.answer.Outcome.{Outcome}
use Rattle.drive.proofs.Step.{as_promised}
use Rattle.drive.proofs.Powered.{risen}
use Rattle.drive.proofs.StruckOut.{struck_out}
use Rattle.drive.proofs.Demand3.{demand_3}

call_leaves : {d : Drive} {sectors staging : List ℕ} {e : Event} {r : Outcome} {sectors' staging' : List ℕ} → Handled d e sectors staging r sectors' staging'
    → machine r.drive sectors' staging' ≡ after (machine d sectors staging) e
unfolding after
call_leaves h = λ i. record { drive = h.drive i; sectors = h.sectors i; staging = h.staging i }

ran : {m : Machine} {events : List Event} {told : List Answer} {end : Machine} → Calls m events told end → Ran m events told end
unfolding answers final answer_to
ran none = record { answered = refl; ended = refl }
ran (call {d} {sectors} {staging} {e} {r} {sectors'} {staging'} {events} {told} {end} h later) =
    let rest = ran later in
    let left = call_leaves h in
    record {
      answered = λ i. h.answer i ∷ (rest.answered ∙ ap (λ m. answers m events) left) i;
      ended = rest.ended ∙ ap (λ m. final m events) left;
    }

run : (m : Machine) (events : List Event) → Calls m events (answers m events) (final m events)
unfolding answers final answer_to after
run m [] = none
run m (e ∷ events) = call (as_promised refl) (run (after m e) events)

powered : (s : Setup) (sectors staging : List ℕ) → within_limits s ≡ true → row10 s sectors staging ≡ false → PoweredUp s sectors staging (Ok (at_rest s))
powered s sectors staging h r = record { answer = rw (Rows.none_given (power_up_rows s sectors staging) (rw h, (r, tt))) }

met : {s : Setup} {sectors staging : List ℕ} {d : Drive} {events : List Event} {told : List Answer} {end : Machine}
    → PoweredUp s sectors staging (Ok d) → Calls (machine d sectors staging) events told end → MeetsDemand3 (machine d sectors staging) events told end
met {s} {sectors} {staging} {d} {events} p calls =
    let start = risen p in
    let run = ran calls in
    rw (run.answered, run.ended, start.drive) (demand_3.met s sectors staging start.limits start.room events)

alone : {start : Machine} {events : List Event} {told told' : List Answer} {end end' : Machine}
    → Calls start events told end → Calls start (accepted events told) told' end' → (told' ≡ accepted told told) × (end' ≡ end)
alone {start} {events} calls fewer =
    let run = ran calls in
    let left = ran fewer in
    let same = struck_out start events in
    (left.answered ∙ rw run.answered same.same_answers, left.ended ∙ rw (run.answered, run.ended) same.same_end)

cut_short : {s : Setup} {sectors staging : List ℕ} {d : Drive} {events stretch : List Event} {told told' : List Answer} {end end' : Machine}
    → PoweredUp s sectors staging (Ok d) → Calls (machine d sectors staging) events told end → Calls end stretch told' end'
    → journal (events ++ stretch) (told ++ told') ≡ journal events told → end'.sectors ≡ end.sectors
cut_short {stretch = stretch} p calls further nothing =
    let run = ran further in
    ap (λ (m : Machine). m.sectors) run.ended ∙ (met p calls).cut_short stretch (rw run.answered at nothing)

pub demand_3_of_calls : Demand3OfCalls
demand_3_of_calls = record { ran = ran; run = run; powered = powered; met = met; alone = alone; cut_short = cut_short }
