-- Demand 3 of calls of `handle`: power-up, and then calls one after another, each of which keeps its promise.
use Rattle.std.specs.Prelude.{ℕ, ◌≡◌, true, false, List, [], ◌∷◌, ◌++◌, Ok}
use Rattle.parts.specs.Setup.{within_limits}
use Rattle.drive.specs.Refusal.{row10}
use Rattle.drive.specs.Event.{Handled}
use Rattle.drive.specs.Power.{at_rest, PoweredUp}
use Rattle.drive.specs.Run.{Machine, machine, answers, final}
use Rattle.drive.specs.Accepted.{accepted}
use Rattle.drive.specs.Journal.{journal}
use Rattle.drive.specs.Demand3.{MeetsDemand3}
use Rattle.parts.specs.declared.setup.Setup.{Setup}
use Rattle.drive.specs.declared.drive.Drive.{Drive}
use Rattle.parts.specs.declared.event.Event.{Event}
use Rattle.drive.specs.declared.answer.Answer.{Answer}
use Rattle.drive.specs.declared.answer.Outcome.{Outcome}

-- Each call is handed the drive and the slices that the one before left: "with nobody else touching the lent words".
pub data Calls : Machine → List Event → List Answer → Machine → Type 0 where
  none : {m : Machine} → Calls m [] [] m
  call : {d : Drive} {sectors staging : List ℕ} {e : Event} {r : Outcome} {sectors' staging' : List ℕ} {events : List Event} {told : List Answer} {end : Machine}
      → Handled d e sectors staging r sectors' staging' → Calls (machine r.drive sectors' staging') events told end
      → Calls (machine d sectors staging) (e ∷ events) (r.answer ∷ told) end

-- The answers and the end are those that the definitions give.
pub record Ran (m : Machine) (events : List Event) (told : List Answer) (end : Machine) : Type 0 where
  pub answered : told ≡ answers m events
  pub ended : end ≡ final m events

pub record Demand3OfCalls : Type 0 where
  -- Calls that keep their promise answer and end as the definitions say, from any state.
  pub ran : {m : Machine} {events : List Event} {told : List Answer} {end : Machine} → Calls m events told end → Ran m events told end
  -- There are such calls for every list of events, and such a power-up for every set-up within its limits with slices long enough.
  pub run : (m : Machine) (events : List Event) → Calls m events (answers m events) (final m events)
  pub powered : (s : Setup) (sectors staging : List ℕ) → within_limits s ≡ true → row10 s sectors staging ≡ false → PoweredUp s sectors staging (Ok (at_rest s))
  -- From a power-up that handed back a drive, they meet the demand.
  pub met : {s : Setup} {sectors staging : List ℕ} {d : Drive} {events : List Event} {told : List Answer} {end : Machine}
      → PoweredUp s sectors staging (Ok d) → Calls (machine d sectors staging) events told end → MeetsDemand3 (machine d sectors staging) events told end
  -- "Run alone from the same power-up, they give the same answers and the same final drive, sectors and staging": also as calls.
  pub alone : {start : Machine} {events : List Event} {told told' : List Answer} {end end' : Machine}
      → Calls start events told end → Calls start (accepted events told) told' end' → (told' ≡ accepted told told) × (end' ≡ end)
  -- "A write cut short at any word writes nothing": also as calls.
  pub cut_short : {s : Setup} {sectors staging : List ℕ} {d : Drive} {events stretch : List Event} {told told' : List Answer} {end end' : Machine}
      → PoweredUp s sectors staging (Ok d) → Calls (machine d sectors staging) events told end → Calls end stretch told' end'
      → journal (events ++ stretch) (told ++ told') ≡ journal events told → end'.sectors ≡ end.sectors
