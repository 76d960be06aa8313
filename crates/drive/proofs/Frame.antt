-- `frame`: what a commit puts where and leaves, the one staging word that an event can change, and what stays pending.
-- Assumes nothing.
use Prim.Native.Nat.{ℕ, ◌+◌, ◌-◌, ◌≤◌}
use mathlib.Core.Path.{◌≡◌, refl, sym, ap, ◌∙◌}
use mathlib.Core.Bool.{Bool, true, false, not, ◌&&◌}
use mathlib.Core.List.{List}
use native.Mathlib.Nat.{zero-add}
use native.Mathlib.Omega.{arith}
use borrow.Author.Tests.{leb-true, ltb-true, not-false}
use lib.Dec.{leb, ltb}
use lib.ListN.{length, get_or, drop, set, length-drop, length-set}
use lib.Seq.{paste, paste-zero, length-paste, get_or-drop}
use Rattle.laws.specs.Pick.{pick}
use Rattle.laws.proofs.Pick.{pick_le, picks_apart}
use Rattle.laws.proofs.Tests.{and_l, and_r}
use Rattle.laws.proofs.Windows.{paste_at}
use Rattle.parts.specs.Tests.{is_taking}
use Rattle.parts.specs.Control.{control_of, is_write, is_data, moves_header, names_field1, names_field2, part}
use Rattle.parts.specs.Kind.{kind_of}
use Rattle.parts.specs.declared.kind.Kind.{Kind}
use Rattle.parts.specs.declared.kind.Kind.TheVariants.{Select, Deselect, Use, Reset, Unknown}
use Rattle.parts.specs.declared.kind.Work.{Work}
use Rattle.drive.specs.State.{Result, pending_on}
use Rattle.drive.specs.Transfer.{committed}
use Rattle.drive.specs.Refusal.{row7}
use Rattle.drive.specs.Able.{Room}
use Rattle.drive.specs.Frame.{is_in, word_written, CommitFrame, StagingFrame, as_it_was, one_word, PendingFrame, as_before, Frame}
use Rattle.drive.specs.Run.{Machine}
use Rattle.parts.specs.declared.setup.Setup.{Setup}
use Rattle.parts.specs.declared.event.Event.{Event}
use Rattle.parts.proofs.ByBits.{writes_take}
use Rattle.drive.proofs.Laws.{by_cases, done_by, AllPassed}
use Rattle.drive.proofs.Outcomes
use Rattle.drive.proofs.Pendings.{pending_by}

-- ---- the commit

-- a part of the sector that is written or not, from the staged words behind `from`
part_size : (written : Bool) (sectors : List ℕ) (at : ℕ) (staging : List ℕ) (from n : ℕ) → at + n ≤ length sectors → from + part written n ≤ length staging
    → length (paste sectors at (drop from staging) (part written n)) ≡ length sectors
part_size written sectors at staging from n hd hs =
    length-paste sectors at (drop from staging) (part written n) (omega (arith, pick_le written n)) (simp length-drop (omega arith))

part_at : (written : Bool) (sectors : List ℕ) (at : ℕ) (staging : List ℕ) (from n i : ℕ) → at + n ≤ length sectors → from + part written n ≤ length staging
    → get_or (paste sectors at (drop from staging) (part written n)) i 0 ≡ pick (written && is_in at n i) (get_or staging (from + (i - at)) 0) (get_or sectors i 0)
unfolding pick
part_at true sectors at staging from n i hd hs =
    paste_at sectors at (drop from staging) n i (omega arith) (simp length-drop (omega arith))
    ∙ ap (λ (word : ℕ). pick (is_in at n i) word (get_or sectors i 0)) (get_or-drop from staging (i - at) 0)
part_at false sectors at staging from n i hd hs = ap (λ (l : List ℕ). get_or l i 0) (sym (paste-zero sectors at (drop from staging)))

-- no address is in two parts, one behind the other
parts_apart : (a b : Bool) (at n at' n' i : ℕ) → at + n ≤ at' → (b && is_in at' n' i) ≡ true → (a && is_in at n i) ≡ true → ⊥
parts_apart a b at n at' n' i h p q =
    let low = leb-true at' i (and_l (leb at' i) (ltb i (at' + n')) (and_r b (is_in at' n' i) p)) in
    let high = ltb-true i (at + n) (and_r (leb at i) (ltb i (at + n)) (and_r a (is_in at n i) q)) in
    omega arith

-- three choices of which no two hold together, in the other order
in_order : (a b c : Bool) (x y z before : ℕ) → (b ≡ true → a ≡ true → ⊥) → (c ≡ true → a ≡ true → ⊥) → (c ≡ true → b ≡ true → ⊥)
    → pick c z (pick b y (pick a x before)) ≡ pick a x (pick b y (pick c z before))
in_order a b c x y z before ab ac bc =
    ap (pick c z) (picks_apart b a y x before ab) ∙ picks_apart c a z x (pick b y before) ac ∙ ap (pick a x) (picks_apart c b z y before bc)

module _ (s : Setup) (c start : ℕ) (sectors staging : List ℕ) (r : Room s start sectors staging) where
  pub commit_frame : CommitFrame s c start sectors staging
  unfolding committed word_written
  commit_frame =
      let first : part (moves_header c) s.header ≤ s.header = pick_le (moves_header c) s.header in
      let second : part (names_field1 c) s.field1 ≤ s.field1 = pick_le (names_field1 c) s.field1 in
      let third : part (names_field2 c) s.field2 ≤ s.field2 = pick_le (names_field2 c) s.field2 in
      let field1 = start + s.header in
      let field2 = start + s.header + s.field1 in
      let behind = s.header + part (names_field1 c) s.field1 in
      let withHeader = paste sectors start (drop 0 staging) (part (moves_header c) s.header) in
      let withField1 = paste withHeader field1 (drop s.header staging) (part (names_field1 c) s.field1) in
      let header_size : length withHeader ≡ length sectors = part_size (moves_header c) sectors start staging 0 s.header (omega arith) (omega arith) in
      let field1_size : length withField1 ≡ length withHeader = part_size (names_field1 c) withHeader field1 staging s.header s.field1 (omega arith) (omega arith) in
      record {
        size = part_size (names_field2 c) withField1 field2 staging behind s.field2 (omega arith) (omega arith) ∙ field1_size ∙ header_size;
        word = λ i.
            part_at (names_field2 c) withField1 field2 staging behind s.field2 i (omega arith) (omega arith)
            ∙ ap (pick (names_field2 c && is_in field2 s.field2 i) _)
            (part_at (names_field1 c) withHeader field1 staging s.header s.field1 i (omega arith) (omega arith)
            ∙ ap (pick (names_field1 c && is_in field1 s.field1 i) _)
            (part_at (moves_header c) sectors start staging 0 s.header i (omega arith) (omega arith) ∙ rw zero-add))
            ∙ in_order (moves_header c && is_in start s.header i) (names_field1 c && is_in field1 s.field1 i) (names_field2 c && is_in field2 s.field2 i) _ _ _ _
            (parts_apart (moves_header c) (names_field1 c) start s.header field1 s.field1 i (omega arith))
            (parts_apart (moves_header c) (names_field2 c) start s.header field2 s.field2 i (omega arith))
            (parts_apart (names_field1 c) (names_field2 c) field1 s.field1 field2 s.field2 i (omega arith));
      }

-- ---- the staging words

-- a word staged leaves the room
pub staged_room : {s : Setup} {start : ℕ} {sectors staging : List ℕ} (i word : ℕ) → Room s start sectors staging → Room s start sectors (set staging i word)
staged_room {staging = staging} i word r = record { sector = r.sector; stage = rw (length-set staging i word) r.stage }

a_write : (m : Machine) → is_data m.drive.transfer.control ≡ true → not (is_taking m.drive.transfer) ≡ false
    → is_write (control_of m.drive.transfer.control) ≡ true
a_write m high t = writes_take m.drive.transfer.control ∙ rw (not-false (is_taking m.drive.transfer) t, high)

worked_on : (m : Machine) (e : Event) {work : Work} {r : Result} → kind_of e.kind ≡ Use work → row7 work m.drive ≡ false → Outcomes.WorkDone m.drive e m.sectors m.staging work r
    → StagingFrame m e r.staging
worked_on m e z t (Outcomes.quiet q) = as_it_was refl
worked_on m e z t (Outcomes.miscompared high) = one_word z (a_write m high t) refl
worked_on m e z t (Outcomes.completed high h) = one_word z (a_write m high t) refl
worked_on m e z t (Outcomes.more high h) = one_word z (a_write m high t) refl

staging_by : (k : Kind) (m : Machine) (e : Event) → kind_of e.kind ≡ k → AllPassed k m e → StagingFrame m e (done_by k m e).staging
staging_by Select m e z p = as_it_was refl
staging_by Deselect m e z p = as_it_was refl
staging_by Reset m e z p = as_it_was refl
staging_by Unknown m e z p = as_it_was refl
staging_by (Use work) m e z p = worked_on m e z p.own.1.0 (Outcomes.work_done m.drive e m.sectors m.staging work)

pub frame : Frame
frame =
    record {
      commit = commit_frame;
      staging = λ m e. by_cases (λ answer next. StagingFrame m e next.staging) m e (λ n z. as_it_was refl) (λ k z p. staging_by k m e z p);
      pending = λ m e port real.
          by_cases (λ answer next. PendingFrame m e port answer (pending_on next.drive port)) m e (λ n z. as_before refl) (λ k z p. pending_by m e port real k z p);
    }
