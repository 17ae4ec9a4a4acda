-- Which zero groups of an IPv6 address `::` stands for (RFC 5952, section 4.2), as the rules say it.
use Rattle.std.specs.Prelude.{◌≡◌, ℕ, ◌<◌, ◌≤◌, List, Option, None, Some, take, drop, replicate}

-- a run's groups are all zero; a run is its first place and its number of groups
abbrev pub IsZeroRun : List ℕ → ℕ × ℕ → Type 0
IsZeroRun groups run = take run.1 (drop run.0 groups) ≡ replicate run.1 0

-- "The symbol "::" MUST NOT be used to shorten just one 16-bit 0 field" (4.2.2), it "MUST be used to its maximum
-- capability" (4.2.1), on the longest run, and on a tie on the first (4.2.3)
pub record IsShortened (groups : List ℕ) (run : ℕ × ℕ) : Type 0 where
  pub several : 2 ≤ run.1
  pub zero : IsZeroRun groups run
  pub longest : (other : ℕ × ℕ) → IsZeroRun groups other → other.1 ≤ run.1
  pub first : (other : ℕ × ℕ) → IsZeroRun groups other → other.1 ≡ run.1 → run.0 ≤ other.0

-- the run that the rules choose, or that there is none to choose
abbrev pub Shortens : List ℕ → Option (ℕ × ℕ) → Type 0
Shortens groups None = (other : ℕ × ℕ) → IsZeroRun groups other → other.1 < 2
Shortens groups (Some run) = IsShortened groups run
