-- How a kind's code meets its contract: it told the number of its first own row, or there is none and it did its work.
-- Assumes nothing.
use Prim.Native.Nat.{ℕ, ◌<◌}
use mathlib.Core.Path.{◌≡◌, refl, sym, ◌∙◌}
use mathlib.Core.Bool.{true, false, not, ◌||◌, or-true, true≢false}
use mathlib.Core.List.{List}
use borrow.Author.Tests.{ne_eqb, leb-false}
use lib.Dec.{eqb, leb}
use Rattle.laws.specs.Pick.{pick}
use Rattle.laws.specs.Rows.{first}
use Rattle.laws.proofs.Tests.{or_r}
use Rattle.refusals.specs.Refusal.{number}
use Rattle.refusals.specs.declared.refusal.Refusal.{Refusal}
use Rattle.refusals.proofs.OnPaper.{told_by_name}
use Rattle.parts.specs.Command.{code_of}
use Rattle.parts.specs.Control.{control_of, takes_words, gives_words, words_to_come}
use Rattle.parts.specs.Holding.{nobody}
use Rattle.parts.specs.declared.kind.Kind.{Kind}
use Rattle.drive.specs.State.{told, Result, result}
use Rattle.drive.specs.Refusal.{own_rows}
use Rattle.parts.specs.Tests.{is_taking, is_giving, is_open, is_broken_transfer}
use Rattle.drive.specs.Able.{Passable, Able, unless_own_row, unless_own_row_in}
use Rattle.parts.specs.declared.setup.Setup.{Setup}
use Rattle.parts.specs.declared.holding.Holding.{Holding}
use Rattle.parts.specs.declared.transfer.Transfer.{Transfer}
use Rattle.drive.specs.declared.drive.Drive.{Drive}
use Rattle.parts.specs.declared.event.Event.{Event}
use Rattle.drive.specs.declared.answer.Outcome.{Outcome}
use Rattle.drive.specs.declared.answer.Answer.TheVariants.{Refused}
use Rattle.drive.proofs.Sound.{sound}

pub own_refused : (k : Kind) (d : Drive) (e : Event) (accepted : Outcome) (refusal : Refusal) → number refusal ≡ first (own_rows k d e)
    → told (Refused refusal) d ≡ unless_own_row k d e accepted
unfolding unless_own_row
own_refused k d e accepted refusal p = told_by_name (λ r. told (Refused r) d) refusal accepted p

pub own_accepted : (k : Kind) (d : Drive) (e : Event) (accepted : Outcome) → 0 ≡ first (own_rows k d e) → accepted ≡ unless_own_row k d e accepted
unfolding unless_own_row
own_accepted k d e accepted p = rw (← p)

pub own_refused_in : (k : Kind) (d : Drive) (e : Event) (sectors staging : List ℕ) (accepted : Result) (refusal : Refusal) → number refusal ≡ first (own_rows k d e)
    → result (told (Refused refusal) d) sectors staging ≡ unless_own_row_in k d e sectors staging accepted
unfolding unless_own_row_in
own_refused_in k d e sectors staging accepted refusal p = told_by_name (λ r. result (told (Refused r) d) sectors staging) refusal accepted p

pub own_accepted_in : (k : Kind) (d : Drive) (e : Event) (sectors staging : List ℕ) (accepted : Result) → 0 ≡ first (own_rows k d e)
    → accepted ≡ unless_own_row_in k d e sectors staging accepted
unfolding unless_own_row_in
own_accepted_in k d e sectors staging accepted p = rw (← p)

-- ---- an open transfer of a state that row 11 lets pass has a word to come

opens_none : (takes_words (control_of 0) || gives_words (control_of 0)) ≡ false
unfolding control_of code_of pick
opens_none = refl

is_open_lem : (t : Transfer) → (is_taking t || is_giving t) ≡ true → is_open t ≡ true
is_open_lem t h = rw (ne_eqb t.control 0 (λ z. true≢false (sym h ∙ rw z opens_none)))

pub word_to_come : (s : Setup) (h : Holding) (t : Transfer) → is_broken_transfer s h t ≡ false → (is_taking t || is_giving t) ≡ true → t.moved < words_to_come s t.control
unfolding is_broken_transfer
word_to_come s h t b o =
    let rest : (eqb h.selected nobody || not (is_taking t || is_giving t) || leb (words_to_come s t.control) t.moved) ≡ false = rw (is_open_lem t o) at b in
    leb-false (words_to_come s t.control) t.moved (or_r (eqb h.selected nobody || not (is_taking t || is_giving t)) (leb (words_to_come s t.control) t.moved) rest)

able : {d : Drive} {sectors staging : List ℕ} → Passable d sectors staging → (is_taking d.transfer || is_giving d.transfer) ≡ true → Able d sectors staging
able {d} p o = record { sound = p.sound; room = p.room; moved = word_to_come d.setup d.holding d.transfer (sound d p.sound).transfer o }

pub able_to_write : {d : Drive} {sectors staging : List ℕ} → Passable d sectors staging → is_taking d.transfer ≡ true → Able d sectors staging
able_to_write p o = able p (rw o)

pub able_to_read : {d : Drive} {sectors staging : List ℕ} → Passable d sectors staging → is_giving d.transfer ≡ true → Able d sectors staging
able_to_read {d} p o = able p (rw o (or-true (is_taking d.transfer)))
