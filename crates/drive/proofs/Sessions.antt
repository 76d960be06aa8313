-- The accepted events of a run from a drive with nobody selected are whole sessions.
-- Assumes nothing.
use Prim.Native.Nat.{ℕ}
use mathlib.Core.Path.{◌≡◌, sym, ap, subst, ◌∙◌}
use mathlib.Core.List.{List, [], ◌∷◌, ◌++◌, append-nil}
use native.Mathlib.Omega.{arith}
use lib.Seq.{append_snoc}
use Rattle.laws.proofs.Pick.{cases}
use Rattle.parts.specs.Holding.{nobody}
use Rattle.parts.specs.declared.kind.Kind.TheVariants.{Select, Use}
use Rattle.parts.specs.declared.kind.Work.{Work}
use Rattle.drive.specs.Run.{Machine, answer_to, after, answers}
use Rattle.drive.specs.Accepted.{is_refused, accepted}
use Rattle.drive.specs.Sessions.{Is, Works, none, one, Sessions, nothing, reset, deselected, taken_over, cut_by_reset, still_open}
use Rattle.parts.specs.declared.event.Event.{Event}
use Rattle.drive.proofs.Laws.{refused_changes_nothing, Move, selects, deselects, works, resets, selected_on, move}

-- events that move the selected port, one after another
data Moves : ℕ → List Event → Type 0 where
  stop : {selected : ℕ} → Moves selected []
  more : {selected next : ℕ} {e : Event} {later : List Event} → Move selected e next → Moves next later → Moves selected (e ∷ later)

accepted_move : (m : Machine) (events : List Event) → Moves (selected_on m) (accepted events (answers m events))
unfolding accepted answers
accepted_move m [] = stop
accepted_move m (e ∷ events) =
    let later = accepted_move (after m e) events in
    cases (Moves (selected_on m)) (is_refused (answer_to m e))
    (λ refused. subst (λ selected. Moves selected (accepted events (answers (after m e) events))) (ap selected_on (refused_changes_nothing m e refused)) later)
    (λ done. more (move m e done) later)

one_more : {port : ℕ} {work : List Event} (e : Event) → Works port work → (w : Work) → Is (Use w) e → e.port ≡ port → Works port (work ++ (e ∷ []))
one_more e none w is own = one w is own none
one_more e (one v is' own' work) w is own = one v is' own' (one_more e work w is own)

-- with nobody selected a session begins; with a port selected its session goes on
record FromHere (selected : ℕ) (events : List Event) : Type 0 where
  outside : selected ≡ nobody → Sessions events
  inside : (selection : Event) (work : List Event) → Is Select selection → selected ≡ selection.port → Works selection.port work
      → Sessions (selection ∷ work ++ events)

from_here : {selected : ℕ} {events : List Event} → Moves selected events → FromHere selected events
from_here stop = record { outside = λ z. nothing; inside = λ selection work is at w. rw append-nil (still_open is w) }
from_here (more {e = e} {later = later} (selects is other to) moves) =
    let session : Sessions (e ∷ later) = (from_here moves).inside e [] is to none in
    record { outside = λ z. session; inside = λ selection work is' at w. taken_over is' w is (λ same. other (at ∙ sym same)) session }
from_here (more {e = e} (deselects is own port to) moves) =
    let later = from_here moves in
    record { outside = λ z. absurd (omega arith); inside = λ selection work is' at w. deselected e is' w is (sym own ∙ at) (later.outside to) }
from_here (more {e = e} {later = later} (works v is own port to) moves) =
    let rest = from_here moves in
    record {
      outside = λ z. absurd (omega arith);
      inside = λ selection work is' at w.
          rw (append_snoc work e later) at (rest.inside selection (work ++ (e ∷ [])) is' (to ∙ at) (one_more e w v is (sym own ∙ at)));
    }
from_here (more {e = e} {later = later} (resets is to) moves) =
    let session : Sessions (e ∷ later) = reset is ((from_here moves).outside to) in
    record { outside = λ z. session; inside = λ selection work is' at w. cut_by_reset is' w is session }

pub whole_sessions : (m : Machine) (events : List Event) → selected_on m ≡ nobody → Sessions (accepted events (answers m events))
whole_sessions m events = (from_here (accepted_move m events)).outside
