-- `is_unsound` meets its contract: each test that was passed leaves the others of row 11.
-- Assumes nothing.
use Rattle.events.proofs.Unsoundness.{unsound_with}
use Rattle.events.proofs.judge.is_unsound.Goals as goal

pub returns-then-not-within_limits : goal.returns-then-not-within_limits
returns-then-not-within_limits c = rw (unsound_with _ _ c.setup_in-setup.ensures, ← c.within_limits.ensures, c.if-not-within_limits.true)

pub returns-then-is_misopened : goal.returns-then-is_misopened
returns-then-is_misopened c =
    rw (unsound_with _ _ c.setup_in-setup.ensures, ← c.within_limits.ensures, c.if-not-within_limits.false, ← c.is_misopened.ensures, c.if-is_misopened.true)

pub returns-then-is_misheld : goal.returns-then-is_misheld
returns-then-is_misheld c =
    rw (unsound_with _ _ c.setup_in-setup.ensures, ← c.within_limits.ensures, c.if-not-within_limits.false, ← c.is_misopened.ensures, c.if-is_misopened.false, ← c.is_misheld.ensures, c.if-is_misheld.true)

pub returns-then-has_stray : goal.returns-then-has_stray
returns-then-has_stray c =
    rw (unsound_with _ _ c.setup_in-setup.ensures, ← c.within_limits.ensures, c.if-not-within_limits.false, ← c.is_misopened.ensures, c.if-is_misopened.false, ← c.is_misheld.ensures, c.if-is_misheld.false, ← c.has_stray.ensures, ← c.has_stray-2.ensures, c.if-has_stray.true)

pub returns : goal.returns
returns c =
    rw (unsound_with _ _ c.setup_in-setup.ensures, ← c.within_limits.ensures, c.if-not-within_limits.false, ← c.is_misopened.ensures, c.if-is_misopened.false, ← c.is_misheld.ensures, c.if-is_misheld.false, ← c.has_stray.ensures, ← c.has_stray-2.ensures, c.if-has_stray.false, ← c.place_in.ensures, ← c.is_place.ensures, ← c.is_target.ensures)
