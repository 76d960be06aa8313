-- `excess_stays`: a commit ends with its sector, and a word is staged within one.
-- Assumes nothing.
use Prim.Native.Nat.{ℕ, ◌+◌, ◌≤◌}
use mathlib.Core.Path.{◌≡◌, refl, sym, ◌∙◌}
use mathlib.Core.Bool.{true, Bool, false, ◌&&◌, and-false}
use mathlib.Core.List.{List, [], ◌∷◌}
use native.Mathlib.Omega.{arith}
use borrow.Author.Tests.{le-ltb, not-false}
use lib.ListN.{get_or, drop, set, length-drop}
use lib.Seq.{drop-set-lt, get_or-drop, ext_get_or}
use Rattle.laws.specs.Pick.{pick}
use Rattle.parts.specs.Setup.{sector_words, all_words, sector_start}
use Rattle.parts.specs.Control.{is_data, moves_header, names_field1, names_field2}
use Rattle.parts.specs.Kind.{word_of}
use Rattle.parts.specs.declared.kind.Kind.{Kind}
use Rattle.parts.specs.declared.kind.Kind.TheVariants.{Select, Deselect, Use, Reset, Unknown}
use Rattle.parts.specs.declared.kind.Work.{Work}
use Rattle.parts.specs.declared.kind.Work.TheVariants.{WordFromHost}
use Rattle.parts.specs.Tests.{is_taking}
use Rattle.parts.specs.declared.setup.Setup.{Setup}
use Rattle.parts.specs.declared.event.Event.{Event}
use Rattle.drive.specs.State.{Result}
use Rattle.drive.specs.Transfer.{committed}
use Rattle.drive.specs.Refusal.{row7}
use Rattle.drive.specs.Able.{Passable, Room}
use Rattle.drive.specs.Frame.{is_in, word_written}
use Rattle.drive.specs.Run.{Machine, machine, after, final}
use Rattle.drive.specs.Excess.{SameExcess, ExcessStays}
use Rattle.drive.specs.declared.drive.Drive.{Drive}
use Rattle.parts.proofs.Bounds.{inside, sector_in_room, words_within}
use Rattle.drive.proofs.Sound.{sound, room}
use Rattle.drive.proofs.Own.{able_to_write}
use Rattle.drive.proofs.Frame.{commit_frame, staged_room}
use Rattle.drive.proofs.Laws.{by_cases, done_by, left, AllPassed}
use Rattle.drive.proofs.StaysSound.{same_size_lem}
use Rattle.drive.proofs.Outcomes

-- ---- a commit

-- an address behind a part is not in it
behind : (named : Bool) (start count address : ℕ) → start + count ≤ address → (named && is_in start count address) ≡ false
behind named start count address h = rw (le-ltb address (start + count) h, and-false, and-false)

not_written : (s : Setup) (c start : ℕ) (words : List ℕ) (address before : ℕ) → start + sector_words s ≤ address → word_written s c start words address before ≡ before
unfolding word_written pick
not_written s c start words address before h =
    rw (behind (moves_header c) start s.header address (omega arith), behind (names_field1 c) (start + s.header) s.field1 address (omega arith), behind (names_field2 c) (start + s.header + s.field1) s.field2 address (omega arith))

-- from the end of its sector on, a commit leaves all words
commit_behind : (s : Setup) (c start : ℕ) (sectors staging : List ℕ) (from : ℕ) → Room s start sectors staging → start + sector_words s ≤ from
    → drop from (committed s c start sectors staging) ≡ drop from sectors
commit_behind s c start sectors staging from r h =
    let f = commit_frame s c start sectors staging r in
    ext_get_or 0 (drop from (committed s c start sectors staging)) (drop from sectors) (simp (length-drop, f.size)) (λ i l.
    get_or-drop from (committed s c start sectors staging) i 0
    ∙ f.word (from + i)
    ∙ not_written s c start staging (from + i) (get_or sectors (from + i) 0) (omega arith)
    ∙ sym (get_or-drop from sectors i 0))

-- ---- kinds 3 to 9

-- the word that came, staged within the sector
staged_behind : {d : Drive} {sectors staging : List ℕ} (word : ℕ) → Passable d sectors staging → is_data d.transfer.control ≡ true → row7 WordFromHost d ≡ false
    → drop (sector_words d.setup) (set staging d.transfer.moved word) ≡ drop (sector_words d.setup) staging
staged_behind {d} {staging = staging} word p high t =
    let a = able_to_write p (not-false (is_taking d.transfer) t) in
    drop-set-lt (sector_words d.setup) staging d.transfer.moved word (omega (arith, words_within d.setup d.transfer.control high))

work_excess : {d : Drive} {e : Event} {sectors staging : List ℕ} {work : Work} {r : Result} → Passable d sectors staging → row7 work d ≡ false
    → Outcomes.WorkDone d e sectors staging work r → SameExcess (machine d sectors staging) (left r)
work_excess p t (Outcomes.quiet q) = record { sectors = refl; staging = refl }
work_excess {e = e} p t (Outcomes.miscompared high) = record { sectors = refl; staging = staged_behind (word_of e) p high t }
work_excess {d} {e} {sectors} {staging} p t (Outcomes.completed high z) =
    let within = sector_in_room d.setup d.place (inside d.setup d.place (sound d p.sound).place) in
    record {
      sectors = commit_behind d.setup d.transfer.control (sector_start d.setup d.place) sectors _ (all_words d.setup)
          (staged_room d.transfer.moved (word_of e) (room d sectors staging p.sound p.room)) within;
      staging = staged_behind (word_of e) p high t;
    }
work_excess {e = e} p t (Outcomes.more high z) = record { sectors = refl; staging = staged_behind (word_of e) p high t }

-- ---- every kind

kind_excess : (k : Kind) (m : Machine) (e : Event) → AllPassed k m e → SameExcess m (left (done_by k m e))
kind_excess Select m e p = record { sectors = refl; staging = refl }
kind_excess Deselect m e p = record { sectors = refl; staging = refl }
kind_excess Reset m e p = record { sectors = refl; staging = refl }
kind_excess Unknown m e p = record { sectors = refl; staging = refl }
kind_excess (Use work) m e p =
    work_excess (record { sound = p.sound; room = p.room }) p.own.1.0 (Outcomes.work_done m.drive e m.sectors m.staging work)

same_excess : (m : Machine) (e : Event) → SameExcess m (after m e)
same_excess m e = by_cases (λ answer next. SameExcess m next) m e (λ n z. record { sectors = refl; staging = refl }) (λ k z p. kind_excess k m e p)

-- ---- runs

goes_on : {m n end : Machine} → n.drive.setup ≡ m.drive.setup → SameExcess m n → SameExcess n end → SameExcess m end
goes_on e now later = record { sectors = (rw e at later.sectors) ∙ now.sectors; staging = (rw e at later.staging) ∙ now.staging }

run_excess : (m : Machine) (events : List Event) → SameExcess m (final m events)
unfolding final
run_excess m [] = record { sectors = refl; staging = refl }
run_excess m (e ∷ events) = goes_on (same_size_lem m e).setup (same_excess m e) (run_excess (after m e) events)

pub excess_stays : ExcessStays
excess_stays = record { event = same_excess; run = run_excess }
