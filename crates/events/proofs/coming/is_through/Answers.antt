-- `is_through` meets its contract: words that do not fill field 1 are fewer than those to come.
-- Assumes nothing.
use Rattle.std.proofs.Common.{◌≡◌, ℕ, true, false, ◌&&◌, ltb, leb, sym, arith, ltb-true}
use borrow.Author.Tests.{lt-leb}
use Rattle.laws.specs.Pick.{pick}
use Rattle.laws.proofs.Tests.{and_l, and_r}
use Rattle.parts.specs.Control.{names_field1, data_words}
use Rattle.parts.specs.declared.setup.Setup.{Setup}
use Rattle.events.specs.State.{drive_in}
use Rattle.events.proofs.coming.is_through.Goals as goal

in_field1 : (s : Setup) (c moved : ℕ) → (names_field1 c && ltb moved s.field1) ≡ true → false ≡ leb (data_words s c) moved
unfolding data_words pick
in_field1 s c moved h =
    let named = and_l (names_field1 c) (ltb moved s.field1) h in
    let fewer = ltb-true moved s.field1 (and_r (names_field1 c) (ltb moved s.field1) h) in
    sym (lt-leb (data_words s c) moved (rw named (omega (arith, fewer))))

pub returns-then-names_field1-moved : goal.returns-then-names_field1-moved
unfolding drive_in
returns-then-names_field1-moved c =
    in_field1 (drive_in c.args.state.now).setup c.args.control c.args.moved (rw (← c.names_field1.ensures) c.if-names_field1-moved.true)

pub returns : goal.returns
returns c = rw c.data_words.ensures
