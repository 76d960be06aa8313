-- "Lines and moves": the five lines, their part in a setting and their owners.
use Rattle.std.specs.Prelude.{ℕ, ◌/◌, ◌%◌, ◌≡◌, Bool, List, [], ◌∷◌, eqb}
use Rattle.std.specs.Bool.{beq}
use Rattle.laws.specs.Pick.{pick}
use Rattle.lines.specs.declared.line.Line.{Line}
use Rattle.lines.specs.declared.line.Line.TheVariants.{SelectOut, SlaveIn, MasterOut, SyncIn, SyncOut}
use Rattle.lines.specs.declared.line.Side.{Side}
use Rattle.lines.specs.declared.line.Side.TheVariants.{Controller, Drive}

-- "A setting is the sum of SELECT OUT 16, SLAVE IN 8, MASTER OUT 4, SYNC IN 2, SYNC OUT 1 (our numbering)."
abbrev pub weight_of : Line → ℕ
weight_of SelectOut = 16
weight_of SlaveIn = 8
weight_of MasterOut = 4
weight_of SyncIn = 2
weight_of SyncOut = 1

-- "IDLE 0, MAINT 1, REQUEST 4, DESEL 8, SELECT 16, SLAVEND 20, SLAVACK 24, BUSCTL 25, MASTEND 26, BUSACK 27, XFRRDY 28, XFRST 30. Settings 31
-- and 29 finish one word's handshake."
abbrev pub named_settings : List ℕ
named_settings = 0 ∷ 1 ∷ 4 ∷ 8 ∷ 16 ∷ 20 ∷ 24 ∷ 25 ∷ 26 ∷ 27 ∷ 28 ∷ 30 ∷ 31 ∷ 29 ∷ []

-- "SLAVE IN and SYNC IN are the drive's, the others the controller's."
abbrev pub owner_of : Line → Side
owner_of SelectOut = Controller
owner_of SlaveIn = Drive
owner_of MasterOut = Controller
owner_of SyncIn = Drive
owner_of SyncOut = Controller

abbrev pub all_lines : List Line
all_lines = SelectOut ∷ SlaveIn ∷ MasterOut ∷ SyncIn ∷ SyncOut ∷ []

abbrev pub is_up : Line → ℕ → Bool
is_up line setting = eqb (setting / weight_of line % 2) 1

-- The owners of those of the lines that differ between two settings.
abbrev pub moved_owners : List Line → ℕ → ℕ → List Side
moved_owners [] old new = []
moved_owners (line ∷ lines) old new =
    pick (beq (is_up line old) (is_up line new)) (moved_owners lines old new) (owner_of line ∷ moved_owners lines old new)

-- The side on paper, by its number in the table of moves: 1 the controller's, 2 the drive's.
abbrev pub paper : Side → ℕ
paper Controller = 1
paper Drive = 2

-- The promises of `weight` and `owner`.
pub record WeightSaid (line : Line) (r : ℕ) : Type 0 where
  pub answer : r ≡ weight_of line

pub record OwnerSaid (line : Line) (r : Side) : Type 0 where
  pub answer : r ≡ owner_of line
  pub on_paper : paper r ≡ paper (owner_of line)
