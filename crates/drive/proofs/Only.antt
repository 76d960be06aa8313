-- No second outcome satisfies a promise of this crate, and no two different answers have the same paper.
-- Assumes nothing.
use Prim.Native.Nat.{ℕ}
use mathlib.Core.Path.{◌≡◌, refl, sym, ap, ◌∙◌}
use mathlib.Core.List.{List, [], ◌∷◌}
use mathlib.Core.Option.{Option, some, none}
use Rattle.std.specs.Prelude.{Result}
use Rattle.laws.proofs.Only.{answer_only}
use Rattle.refusals.specs.Refusal.{named}
use Rattle.refusals.proofs.OnPaper as given
use Rattle.refusals.specs.declared.refusal.Refusal.{Refusal}
use Rattle.status.specs.DriveStatus.{status_of}
use Rattle.status.proofs.RoundTrip.{status_of_octet}
use Rattle.parts.specs.declared.setup.Setup.{Setup}
use Rattle.parts.specs.declared.setup.Place.{Place}
use Rattle.parts.specs.declared.event.Event.{Event}
use Rattle.drive.specs.Answer.{Paper, paper, Says}
use Rattle.drive.specs.Event.{Handled}
use Rattle.drive.specs.Power.{PoweredUp}
use Rattle.drive.specs.declared.drive.Drive.{Drive}
use Rattle.drive.specs.declared.answer.Outcome.{Outcome}
use Rattle.drive.specs.declared.answer.Answer.{Answer}
use Rattle.drive.specs.declared.answer.Answer.TheVariants.{Refused, Done, Status, Opened, Word, LastWord, Response}

pub power_up_only : {s : Setup} {sectors staging : List ℕ} {r r' : Result Drive Refusal} → PoweredUp s sectors staging r → PoweredUp s sectors staging r' → r ≡ r'
power_up_only h k = given.answer_only h.answer k.answer

-- the outcome and both lent slices
pub handle_only : {d : Drive} {e : Event} {sectors staging : List ℕ} {r r' : Outcome} {sectors' staging' sectors'' staging'' : List ℕ}
    → Handled d e sectors staging r sectors' staging' → Handled d e sectors staging r' sectors'' staging''
    → (r ≡ r') × (sectors' ≡ sectors'') × (staging' ≡ staging'')
handle_only h k =
    (λ i. record { answer = answer_only h.answer k.answer i; drive = answer_only h.drive k.drive i }, answer_only h.sectors k.sectors, answer_only h.staging k.staging)

-- ---- the paper tells answers apart: each can be read back from its paper

octets_back : List ℕ → Answer
octets_back [] = Done
octets_back (a ∷ []) = Done
octets_back (a ∷ b ∷ []) = Done
octets_back (a ∷ b ∷ c ∷ rest) = Response a b c

unrefused_back : Option ℕ → Option ℕ → Option Place → Option ℕ → Option (List ℕ) → Answer
unrefused_back status words place word (some octets) = octets_back octets
unrefused_back (some octet) words place (some w) none = LastWord w
unrefused_back (some octet) words place none none = Status (status_of octet)
unrefused_back none words place (some w) none = Word w
unrefused_back none (some n) (some p) none none = Opened n p
unrefused_back none (some n) none none none = Done
unrefused_back none none place none none = Done

back : Option ℕ → Paper → Answer
back (some n) p = Refused (named n)
back none p = unrefused_back p.status p.word_count p.place p.word p.response

read_back : (a : Answer) → back (paper a).refusal (paper a) ≡ a
unfolding paper back unrefused_back octets_back
read_back (Refused refusal) = ap Refused (given.of_its_number refusal)
read_back Done = refl
read_back (Status status) = ap Status (status_of_octet status).1
read_back (Opened n p) = refl
read_back (Word w) = refl
read_back (LastWord w) = refl
read_back (Response a b c) = refl

pub paper_tells_apart : (a b : Answer) → paper a ≡ paper b → a ≡ b
paper_tells_apart a b e = sym (read_back a) ∙ ap (λ (p : Paper). back p.refusal p) e ∙ read_back b

-- so that the paper's parts alone leave no second answer
pub says_only : {a b : Answer} {given : Paper} → Says a given → Says b given → a ≡ b
says_only {a} {b} h k =
    paper_tells_apart a b (λ i. record {
      refusal = answer_only h.refusal k.refusal i;
      status = answer_only h.status k.status i;
      word_count = answer_only h.word_count k.word_count i;
      place = answer_only h.place k.place i;
      word = answer_only h.word k.word i;
      response = answer_only h.response k.response i;
    })
