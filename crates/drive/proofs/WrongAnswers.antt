-- The wrong answers of `power_up` and of the methods of `Drive` break their promises, by computation.
-- Assumes nothing.
use Prim.Native.Nat.{ℕ}
use mathlib.Core.Path.{refl, ap}
use mathlib.Core.Bool.{true≢false}
use Rattle.laws.proofs.Differ.{told_apart}
use Rattle.parts.specs.Holding.{paper}
use Rattle.drive.specs.WrongAnswers.{WrongAnswers}
use Rattle.drive.specs.declared.drive.Drive.{Drive}
use Rattle.drive.proofs.Computing.{computing}
use Rattle.drive.proofs.Powered.{row_refused, risen}

-- the hold on paper
abbrev hold_of : Drive → ℕ
hold_of d = paper d.holding.hold

pub wrong_answers : WrongAnswers
unfolding computing
wrong_answers =
    record {
      ten_before_nine = λ h. told_apart 9 10 refl (row_refused h);
      last_word_lacking = λ h. true≢false (risen h).room;
      not_at_rest = λ h. told_apart 1 0 refl (ap (λ (d : Drive). d.place.sector) (risen h).drive);
      takeover_keeps_the_transfer = λ h. told_apart 2 0 refl (ap (λ (d : Drive). d.transfer.moved) h);
      takeover_posts_reset = λ h. told_apart 0x80 0x40 refl (ap (λ (d : Drive). d.pending0.octet1) h);
      takeover_posts_nothing = λ h. told_apart 0 0x40 refl (ap (λ (d : Drive). d.pending0.octet1) h);
      stays_selected = λ h. told_apart 0 2 refl (ap (λ (d : Drive). d.holding.selected) h);
      frees_the_held = λ h. told_apart 2 0 refl (ap (λ (d : Drive). d.holding.owner) h);
      reset_keeps_the_target = λ h. told_apart 2 0xFFFF refl (ap (λ (d : Drive). d.target) h);
      reset_posts_nothing = λ h. told_apart 0 0x80 refl (ap (λ (d : Drive). d.pending0.octet1) h);
      reserve_lowers = λ h. told_apart 2 3 refl (ap hold_of h);
      reserve_makes_none = λ h. told_apart 0 2 refl (ap hold_of h);
      priority_makes_plain = λ h. told_apart 2 3 refl (ap hold_of h);
      priority_disowns = λ h. told_apart 2 0 refl (ap (λ (d : Drive). d.holding.owner) h);
      release_frees = λ h. told_apart 2 0 refl (ap (λ (d : Drive). d.holding.selected) h);
      release_leaves_plain = λ h. told_apart 2 0 refl (ap hold_of h);
    }
