-- `is_last` meets its contract: with field 1 or without.
-- Assumes nothing.
use Rattle.std.proofs.Common.{◌≡◌, ℕ, ◌+◌, ◌<◌, Bool, true, false, eqb, sym, ap, ◌∙◌, arith, ne_eqb}
use Rattle.laws.specs.Pick.{pick}
use Rattle.parts.specs.Control.{control_of, is_write, names_field1, names_field2, part, words_to_come}
use Rattle.parts.specs.declared.setup.Setup.{Setup}
use Rattle.parts.proofs.Bounds.{write_words}
use Rattle.events.specs.State.{drive_in}
use Rattle.events.proofs.coming.is_last.Goals as goal

without_field1 : (s : Setup) (c count field2 : ℕ) → is_write (control_of c) ≡ true → names_field1 c ≡ false → field2 ≡ part (names_field2 c) s.field2
    → eqb count (s.header + field2) ≡ eqb count (words_to_come s c)
unfolding pick
without_field1 s c count field2 w n e = ap (λ (k : ℕ). eqb count k) (rw (write_words s c w, n, e) (omega arith))

with_field1 : (s : Setup) (c count field2 : ℕ) → is_write (control_of c) ≡ true → names_field1 c ≡ true → field2 ≡ part (names_field2 c) s.field2
    → eqb count (s.header + s.field1 + field2) ≡ eqb count (words_to_come s c)
unfolding pick
with_field1 s c count field2 w n e = ap (λ (k : ℕ). eqb count k) (rw (write_words s c w, n, e) (omega arith))

in_field1 : (s : Setup) (c count : ℕ) → is_write (control_of c) ≡ true → names_field1 c ≡ true → count < s.header + s.field1 → false ≡ eqb count (words_to_come s c)
unfolding pick
in_field1 s c count w n h = sym (ne_eqb count (words_to_come s c) (λ y. omega (arith, h, y, rw n at (write_words s c w))))

pub overflow_cast-header : goal.overflow_cast-header
overflow_cast-header c = omega (arith, c.shared_slice_known-2-1.given 3)

pub overflow_add-result : goal.overflow_add-result
overflow_add-result c = omega (arith, c.shared_slice_known-2-1.given 3, c.words_at.ensures.1)

pub returns-then-not-names_field1 : goal.returns-then-not-names_field1
unfolding drive_in
returns-then-not-names_field1 c = without_field1 (drive_in c.args.state.now).setup c.args.control c.args.count _ c.requires.1 (sym c.names_field1.ensures ∙ c.if-not-names_field1.true) (c.words_at.ensures.0 ∙ ap (λ (t : Bool). part t (drive_in c.args.state.now).setup.field2) c.names_field2.ensures)

pub overflow_cast-before_field2 : goal.overflow_cast-before_field2
overflow_cast-before_field2 c = omega (arith, c.shared_slice_known-3-1.given 4)

pub overflow_add-before_field2 : goal.overflow_add-before_field2
overflow_add-before_field2 c = omega (arith, c.shared_slice_known-2-1.given 3, c.shared_slice_known-3-1.given 4)

pub returns-then-count-before_field2 : goal.returns-then-count-before_field2
unfolding drive_in
returns-then-count-before_field2 c = in_field1 (drive_in c.args.state.now).setup c.args.control c.args.count c.requires.1 (sym c.names_field1.ensures ∙ c.if-not-names_field1.false) c.if-count-before_field2.true

pub overflow_add-result-2 : goal.overflow_add-result-2
overflow_add-result-2 c = omega (arith, c.shared_slice_known-2-1.given 3, c.shared_slice_known-3-1.given 4, c.words_at-2.ensures.1)

pub returns : goal.returns
unfolding drive_in
returns c = with_field1 (drive_in c.args.state.now).setup c.args.control c.args.count _ c.requires.1 (sym c.names_field1.ensures ∙ c.if-not-names_field1.false) (c.words_at-2.ensures.0 ∙ ap (λ (t : Bool). part t (drive_in c.args.state.now).setup.field2) c.names_field2-2.ensures)
