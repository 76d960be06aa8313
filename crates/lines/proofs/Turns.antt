-- The turns are the step: of a setting, of a turn, of a whole trace.
-- Assumes nothing.
use Prim.Native.Nat.{ℕ, ◌<◌}
use mathlib.Core.Path.{◌≡◌, refl, sym, ap, ◌∙◌}
use mathlib.Core.Bool.{Bool, true, false, not, ◌&&◌, false≢true, true≢false, and-false}
use mathlib.Core.List.{List, [], ◌∷◌}
use native.Mathlib.Omega.{arith}
use borrow.Author.Tests.{eqb-true, ltb-true, le-ltb, not-true}
use lib.Dec.{eqb, ltb}
use lib.ListN.{length, get_or}
use Rattle.laws.specs.Pick.{pick}
use Rattle.laws.proofs.Pick.{cases}
use Rattle.laws.proofs.Tests.{and_l, and_r}
use Rattle.lines.specs.Moves.{Pair, is_listed, controllers_moves, drives_moves, entry_of, said_by}
use Rattle.lines.specs.Follower.{told, refused, lacks_history, remembers, undefined_at, while_lost, moved_by, moved, is_reached, step_of}
use Rattle.lines.specs.Traces.{after, answers}
use Rattle.lines.specs.Reading.{Read, step_by_step}
use Rattle.lines.specs.Turns.{is_controllers, is_drives, nobodys_move, takes, controller_takes, drive_takes, comes, ◌then◌, controllers_turn, drives_turn, read_plainly}
use Rattle.lines.specs.Plain.{PlainDefinitionIsTheStep, PlainIsTheTable}
use Rattle.lines.specs.declared.moves.Move.{Move}
use Rattle.lines.specs.declared.follower.Follower.{Follower}
use Rattle.lines.specs.declared.follower.Followed.{Followed}
use Rattle.lines.specs.declared.follower.Answer.{Answer}
use Rattle.lines.specs.declared.follower.Answer.TheVariants.{Same, Controllers, Drives}
use Rattle.refusals.specs.Refusal.{named}
use Rattle.lines.proofs.Step.{step_reached, unreached_refused}

-- ---- listed moves

every_move : (ℕ → ℕ → Bool) → List Pair → Bool
every_move test [] = true
every_move test (pair ∷ pairs) = test pair.old pair.new && every_move test pairs

listed_move : (test : ℕ → ℕ → Bool) (moves : List Pair) (old new : ℕ) → is_listed moves old new ≡ true → every_move test moves ≡ true → test old new ≡ true
unfolding every_move
listed_move test [] old new l h = absurd (false≢true l)
listed_move test (pair ∷ pairs) old new l h =
    by_place (eqb old pair.old && eqb new pair.new) refl (λ k. listed_move test pairs old new k (and_r (test pair.old pair.new) _ h))
  where
    by_place : (here : Bool) → (eqb old pair.old && eqb new pair.new) ≡ here → (is_listed pairs old new ≡ true → test old new ≡ true) → test old new ≡ true
    by_place true e later =
        let o = and_l (eqb old pair.old) (eqb new pair.new) e in
        let n = and_r (eqb old pair.old) (eqb new pair.new) e in
        rw (eqb-true old pair.old o, eqb-true new pair.new n) (and_l (test pair.old pair.new) _ h)
    by_place false e later = later (rw e at l)

-- each changes the setting
changes : (moves : List Pair) → every_move (λ old new. not (eqb old new)) moves ≡ true → (old new : ℕ) → is_listed moves old new ≡ true → eqb old new ≡ false
changes moves computed old new l = not-true _ (listed_move (λ old new. not (eqb old new)) moves old new l computed)

-- none goes beyond 31
within : (moves : List Pair) → every_move (λ old new. ltb new 32) moves ≡ true → (old new : ℕ) → is_listed moves old new ≡ true → ltb 31 new ≡ false
within moves computed old new l = let h = ltb-true new 32 (listed_move (λ old new. ltb new 32) moves old new l computed) in le-ltb 31 new (omega arith)

-- no move is both sides'
apart : (mine other : List Pair) → every_move (λ old new. not (is_listed other old new)) mine ≡ true → (old new : ℕ) → is_listed mine old new ≡ true → is_listed other old new ≡ false
apart mine other computed old new l = not-true _ (listed_move (λ old new. not (is_listed other old new)) mine old new l computed)

-- ---- a setting

takes_is : (side : Answer) (own : Bool) (f : Follower) (new : ℕ)
    → (is_reached f ≡ true → pick own (told side (remembers f new)) (nobodys_move f new) ≡ pick (ltb 31 new) (refused (named 8) f) (pick f.lost (while_lost new) (moved f new)))
    → takes side own f new ≡ step_of f new
unfolding takes pick
takes_is side own f new m = by_state (is_reached f) refl
  where
    by_state : (reached : Bool) → is_reached f ≡ reached → takes side own f new ≡ step_of f new
    by_state true e = rw (step_reached f new e, e) (m e)
    by_state false e = rw (unreached_refused f new e, e)

-- by what the lists say of the pair
abbrev by_move : Followed → Followed → Followed → Followed → Move → Followed
by_move same controllers drives neither Move.Same = same
by_move same controllers drives neither Move.Controllers = controllers
by_move same controllers drives neither Move.Drives = drives
by_move same controllers drives neither Move.Undefined = neither

by_move_is : (move : Move) (f : Follower) (new : ℕ)
    → moved_by move f new ≡ by_move (told Same f) (pick (lacks_history f new) (undefined_at new) (told Controllers (remembers f new))) (told Drives (remembers f new)) (undefined_at new) move
unfolding moved_by
by_move_is Move.Same f new = refl
by_move_is Move.Controllers f new = refl
by_move_is Move.Drives f new = refl
by_move_is Move.Undefined f new = refl

controllers_said : (over gone listed lacks same : Bool) (r w s c d u : Followed) → (listed ≡ true → over ≡ false) → (listed ≡ true → same ≡ false)
    → pick (not gone && (listed && not lacks)) c (pick over r (pick gone w (pick same s u)))
    ≡ pick over r (pick gone w (by_move s (pick lacks u c) d u (said_by (pick same 0 (pick listed 1 (pick false 2 3))))))
unfolding pick said_by
controllers_said true gone true lacks same r w s c d u low moves = absurd (true≢false (low refl))
controllers_said true true false lacks same r w s c d u low moves = refl
controllers_said true false false lacks same r w s c d u low moves = refl
controllers_said false true listed lacks same r w s c d u low moves = refl
controllers_said false false true lacks true r w s c d u low moves = absurd (true≢false (moves refl))
controllers_said false false true true false r w s c d u low moves = refl
controllers_said false false true false false r w s c d u low moves = refl
controllers_said false false false lacks true r w s c d u low moves = refl
controllers_said false false false lacks false r w s c d u low moves = refl

drives_said : (drives over gone listed lacks same : Bool) (r w s c d u : Followed) → (not gone && (listed && not lacks)) ≡ false
    → (drives ≡ true → over ≡ false) → (drives ≡ true → gone ≡ false) → (drives ≡ true → listed ≡ false) → (drives ≡ true → same ≡ false)
    → pick drives d (pick over r (pick gone w (pick same s u)))
    ≡ pick over r (pick gone w (by_move s (pick lacks u c) d u (said_by (pick same 0 (pick listed 1 (pick drives 2 3))))))
unfolding pick said_by
drives_said true true gone listed lacks same r w s c d u other low here one moves = absurd (true≢false (low refl))
drives_said true false true listed lacks same r w s c d u other low here one moves = absurd (true≢false (here refl))
drives_said true false false true lacks same r w s c d u other low here one moves = absurd (true≢false (one refl))
drives_said true false false false lacks true r w s c d u other low here one moves = absurd (true≢false (moves refl))
drives_said true false false false lacks false r w s c d u other low here one moves = refl
drives_said false true gone listed lacks same r w s c d u other low here one moves = refl
drives_said false false true listed lacks same r w s c d u other low here one moves = refl
drives_said false false false true true true r w s c d u other low here one moves = refl
drives_said false false false true true false r w s c d u other low here one moves = refl
drives_said false false false true false same r w s c d u other low here one moves = absurd (true≢false other)
drives_said false false false false lacks true r w s c d u other low here one moves = refl
drives_said false false false false lacks false r w s c d u other low here one moves = refl

-- a follower that is lost, and that a trace reaches, is at 0, where the drive has no move
lost_at_0 : (history : Bool) (setting new : ℕ) → is_reached (record { setting = setting; history = history; lost = true }) ≡ true → is_listed drives_moves setting new ≡ false
unfolding is_reached pick
lost_at_0 history setting new e = rw (eqb-true setting 0 (and_l (eqb setting 0) (not history) e))

not_lost : (history gone : Bool) (setting new : ℕ) → is_reached (record { setting = setting; history = history; lost = gone }) ≡ true
    → is_listed drives_moves setting new ≡ true → gone ≡ false
not_lost history true setting new e l = absurd (true≢false (sym l ∙ lost_at_0 history setting new e))
not_lost history false setting new e l = refl

pub controller_takes_lem : (f : Follower) (new : ℕ) → is_drives f new ≡ false → controller_takes f new ≡ step_of f new
unfolding entry_of moved_by nobodys_move every_move
controller_takes_lem f new none =
    takes_is Controllers (is_controllers f new) f new
    (λ e. rw (none, by_move_is)
    (controllers_said (ltb 31 new) f.lost (is_listed controllers_moves f.setting new) (lacks_history f new) (eqb f.setting new) _ _ _ _ (told Drives (remembers f new)) _
    (within controllers_moves refl f.setting new) (changes controllers_moves refl f.setting new)))

pub drive_takes_lem : (f : Follower) (new : ℕ) → is_controllers f new ≡ false → drive_takes f new ≡ step_of f new
unfolding entry_of moved_by nobodys_move every_move
drive_takes_lem f new none =
    takes_is Drives (is_drives f new) f new
    (λ e. rw by_move_is (drives_said (is_drives f new) (ltb 31 new) f.lost (is_listed controllers_moves f.setting new) (lacks_history f new) (eqb f.setting new) _ _ _ (told Controllers (remembers f new)) _ _
    none (within drives_moves refl f.setting new) (not_lost f.history f.lost f.setting new e) (apart drives_moves controllers_moves refl f.setting new) (changes drives_moves refl f.setting new)))

-- ---- one turn of the two has it

pub not_the_controllers : (f : Follower) (trace : List ℕ) → comes is_drives f trace ≡ true → comes is_controllers f trace ≡ false
unfolding every_move
not_the_controllers f [] l = refl
not_the_controllers f (new ∷ rest) l = rw (apart drives_moves controllers_moves refl f.setting new l) (simp and-false)

not_the_drives : (f : Follower) (trace : List ℕ) → comes is_controllers f trace ≡ true → comes is_drives f trace ≡ false
unfolding every_move
not_the_drives f [] l = refl
not_the_drives f (new ∷ rest) l =
    let listed = and_l (is_listed controllers_moves f.setting new) _ (and_r (not f.lost) _ l) in
    apart controllers_moves drives_moves refl f.setting new listed

-- ---- a trace

abbrev IsRead : Follower → List ℕ → Read → Type 0
IsRead f trace read = read ≡ step_by_step f trace

then_is : (f : Follower) (new : ℕ) (rest : List ℕ) (taken : Followed) (go : Follower → Read) → taken ≡ step_of f new
    → IsRead (step_of f new).follower rest (go (step_of f new).follower) → IsRead f (new ∷ rest) (taken then go)
unfolding answers after
then_is f new rest taken go e g = rw e (ap (λ (read : Read). record { answers = (step_of f new).answer ∷ read.answers; last = read.last }) g)

-- a turn, unless a move of the other side comes: then it is the other's
mutual
  unfolding controllers_turn answers after

  controllers_turn_lem : (f : Follower) (trace : List ℕ) → comes is_drives f trace ≡ false → IsRead f trace (controllers_turn f trace)
  controllers_turn_lem f [] d = refl
  controllers_turn_lem f (new ∷ rest) d =
      let next = (step_of f new).follower in
      then_is f new rest _ (λ f'. pick (comes is_drives f' rest) (drives_turn f' rest) (controllers_turn f' rest)) (controller_takes_lem f new d)
      (cases (IsRead next rest) (comes is_drives next rest) (λ t. drives_turn_lem next rest (not_the_controllers next rest t)) (λ t. controllers_turn_lem next rest t))

  drives_turn_lem : (f : Follower) (trace : List ℕ) → comes is_controllers f trace ≡ false → IsRead f trace (drives_turn f trace)
  drives_turn_lem f [] c = refl
  drives_turn_lem f (new ∷ rest) c =
      let next = (step_of f new).follower in
      then_is f new rest _ (λ f'. pick (comes is_controllers f' rest) (controllers_turn f' rest) (drives_turn f' rest)) (drive_takes_lem f new c)
      (cases (IsRead next rest) (comes is_controllers next rest) (λ t. controllers_turn_lem next rest (not_the_drives next rest t)) (λ t. drives_turn_lem next rest t))

-- by the first setting of a stretch
comes_first : (is_move : Follower → ℕ → Bool) (f : Follower) (trace : List ℕ) → 0 < length trace → comes is_move f trace ≡ is_move f (get_or trace 0 0)
comes_first is_move f [] h = absurd (omega arith)
comes_first is_move f (new ∷ rest) h = refl

pub drives_first : (f : Follower) (trace : List ℕ) → 0 < length trace → is_drives f (get_or trace 0 0) ≡ true → IsRead f trace (drives_turn f trace)
drives_first f trace h t = drives_turn_lem f trace (not_the_controllers f trace (comes_first is_drives f trace h ∙ t))

pub controllers_first : (f : Follower) (trace : List ℕ) → 0 < length trace → is_drives f (get_or trace 0 0) ≡ false → IsRead f trace (controllers_turn f trace)
controllers_first f trace h t = controllers_turn_lem f trace (comes_first is_drives f trace h ∙ t)

pub plainly : (f : Follower) (trace : List ℕ) → IsRead f trace (read_plainly f trace)
unfolding read_plainly
plainly f trace =
    cases (IsRead f trace) (comes is_drives f trace) (λ t. drives_turn_lem f trace (not_the_controllers f trace t)) (λ t. controllers_turn_lem f trace t)

pub plain_definition_is_the_step : PlainDefinitionIsTheStep
plain_definition_is_the_step =
    record {
      controller_takes = controller_takes_lem;
      drive_takes = drive_takes_lem;
      controllers_turn = controllers_turn_lem;
      drives_turn = drives_turn_lem;
      one_sided = not_the_controllers;
    }

pub plain_is_the_table : PlainIsTheTable
plain_is_the_table =
    record {
      same_answers = λ f trace. ap (λ (read : Read). read.answers) (plainly f trace);
      same_last = λ f trace. ap (λ (read : Read). read.last) (plainly f trace);
      same_call = λ f trace. (λ h. rw (plainly f trace) at h, λ h. rw (plainly f trace) h);
    }
