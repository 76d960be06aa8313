-- "A session is a granted selection and that port's accepted events up to its deselection, a takeover or a reset; a reset is a session of its own."
-- The events here are those that were not refused.
use Rattle.std.specs.Prelude.{ℕ, ◌≡◌, List, [], ◌∷◌, ◌++◌}
use Rattle.parts.specs.Kind.{kind_of}
use Rattle.parts.specs.declared.kind.Kind.{Kind}
use Rattle.parts.specs.declared.kind.Kind.TheVariants.{Select, Deselect, Use, Reset}
use Rattle.parts.specs.declared.kind.Work.{Work}
use Rattle.parts.specs.declared.event.Event.{Event}

abbrev pub Is : Kind → Event → Type 0
Is kind e = kind_of e.kind ≡ kind

-- "that port's accepted events": kinds 3 to 9.
pub data Works (port : ℕ) : List Event → Type 0 where
  none : Works port []
  one : {e : Event} {more : List Event} (work : Work) → Is (Use work) e → e.port ≡ port → Works port more → Works port (e ∷ more)

-- "whole sessions, one after another, the last perhaps still open"
pub data Sessions : List Event → Type 0 where
  nothing : Sessions []
  -- "a reset is a session of its own"
  reset : {e : Event} {later : List Event} → Is Reset e → Sessions later → Sessions (e ∷ later)
  -- "up to its deselection"
  deselected : {selection : Event} {work : List Event} (deselection : Event) {later : List Event} → Is Select selection → Works selection.port work
      → Is Deselect deselection → deselection.port ≡ selection.port → Sessions later → Sessions (selection ∷ work ++ deselection ∷ later)
  -- "a takeover": the other port's granted selection, which begins a session
  taken_over : {selection : Event} {work : List Event} {takeover : Event} {later : List Event} → Is Select selection → Works selection.port work
      → Is Select takeover → (takeover.port ≡ selection.port → ⊥) → Sessions (takeover ∷ later) → Sessions (selection ∷ work ++ takeover ∷ later)
  -- "or a reset"
  cut_by_reset : {selection : Event} {work : List Event} {cut : Event} {later : List Event} → Is Select selection → Works selection.port work
      → Is Reset cut → Sessions (cut ∷ later) → Sessions (selection ∷ work ++ cut ∷ later)
  -- "the last perhaps still open"
  still_open : {selection : Event} {work : List Event} → Is Select selection → Works selection.port work → Sessions (selection ∷ work)
