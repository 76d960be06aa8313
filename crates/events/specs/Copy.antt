-- What the loop of a commit asks, and what it leaves: staging words go to the sector, those of the fields to their own place.
use Rattle.std.specs.Prelude.{ℕ, ◌+◌, ◌-◌, ◌≤◌, List, length, drop}
use Rattle.std.proofs.Math.Seq.{paste}

-- The header's words before k are in the sector, from the first that is written.
abbrev pub headed : List ℕ → List ℕ → ℕ → ℕ → ℕ → List ℕ
headed sectors staging start first k = paste sectors (start + first) (drop first staging) (k - first)

-- And so many of the fields' from their place on.
abbrev pub fielded : List ℕ → List ℕ → ℕ → ℕ → ℕ → ℕ → ℕ → List ℕ
fielded sectors staging start first header fields n = paste (headed sectors staging start first header) fields (drop header staging) n

-- So many words are staged, and the sector has room for them.
pub record Within (sectors staging : List ℕ) (start first header fields count : ℕ) : Type 0 where
  pub sector : start + header ≤ length sectors
  pub room : fields + (count - header) ≤ length sectors
  pub stage : count ≤ length staging
  pub from : first ≤ header
  pub headers : header ≤ count
