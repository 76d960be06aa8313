-- `header_miscompares` meets its contract.
-- Assumes nothing.
use Rattle.std.proofs.Common.{◌≡◌, ℕ, Bool, true, not, List, get_or, take, drop, sym, refl, ◌∙◌, arith, eq-eqb, ne_eqb}
use mathlib.Core.Bool.{and-false}
use Rattle.parts.specs.Control.{verifies_header}
use Rattle.parts.specs.declared.setup.Setup.{Setup}
use Rattle.laws.specs.Lists.{same_list}
use Rattle.drive.specs.Transfer.{miscompares}
use Rattle.events.specs.State.{drive_in}
use Rattle.events.proofs.Transfers.{has_room, started}
use Rattle.events.proofs.transfer.header_miscompares.Goals as goal

-- the word 3 that the code reads is the header of the set-up that a callee told
header_word : (state : List ℕ) (s : Setup) (count : ℕ) → s ≡ (drive_in state).setup → count ≡ get_or state 3 0 → count ≡ s.header
unfolding drive_in
header_word state s count e n = rw (n, e)

-- and word 14 is the control
verified : (state : List ℕ) (b : Bool) → b ≡ verifies_header (get_or state 14 0) → b ≡ true → verifies_header (drive_in state).transfer.control ≡ true
unfolding drive_in
verified state b e t = sym e ∙ t

-- with verify, at the last header word, the header decides
compared : (s : Setup) (c count start : ℕ) (sectors staging : List ℕ) → verifies_header c ≡ true → count ≡ s.header
    → miscompares s c count start sectors staging ≡ not (same_list (take count staging) (take count (drop start sectors)))
unfolding miscompares
compared s c count start sectors staging v e = rw (v, ← e, eq-eqb count count refl)

pub overflow_cast-state : goal.overflow_cast-state
overflow_cast-state c = omega (arith, c.shared_slice_known-4-1.given 3)

pub returns-then-count-state : goal.returns-then-count-state
unfolding miscompares drive_in
returns-then-count-state c = rw (ne_eqb _ _ c.if-count-state.true, and-false)

pub returns-then-not-verifies_header : goal.returns-then-not-verifies_header
unfolding miscompares drive_in
returns-then-not-verifies_header c =
    rw (← c.verifies_header.ensures, c.if-not-verifies_header.true)

pub same_words-requires : goal.same_words-requires
same_words-requires c =
    let n = header_word _ _ _ c.setup_in-setup.ensures c.if-count-state.false in
    let r = has_room c.requires _ _ _ c.setup_in-setup.ensures c.place_in.ensures c.sector_start-start.ensures in
    (omega (arith, n, r.stage), omega (arith, n, r.sector))

pub returns : goal.returns
returns c =
    let state = c.args.state.now in
    rw (← c.setup_in-setup.ensures, ← c.place_in.ensures, ← (started c.requires _ _ _ c.setup_in-setup.ensures c.place_in.ensures c.sector_start-start.ensures), c.same_words.ensures)
    (sym (compared _ _ _ _ _ _ (verified state _ c.verifies_header.ensures (c.if-not-verifies_header.false)) (header_word state _ _ c.setup_in-setup.ensures c.if-count-state.false)))
