-- When a cut stands for a history. Contracts see a cut as its lanes' values and counts, in order.
use Rattle.std.specs.Prelude.{◌≡◌, ℕ, ◌+◌, ◌<◌, ◌≤◌, ◌^◌, List, length, slice_index_or, slice_set, All}
use Rattle.std.specs.List.{sum_by}
use Rattle.cut_publisher.specs.declared.history.Event.{Event}
use Rattle.cut_publisher.specs.History.{part, revision, IsWithin}

-- the most lanes of a station, each of which has a pass, and the most askers
abbrev pub most_passes : ℕ
most_passes = 1024

-- the number of entries that a cut stands for
abbrev pub total : {S : Type 0} → List (S × ℕ) → ℕ
total c = sum_by (λ x. x.1) c

-- the cut in which a lane has this value, which stands for so many entries more than the lane's value before
abbrev pub with_value : {S : Type 0} → List (S × ℕ) → ℕ → S → ℕ → List (S × ℕ)
with_value c lane v more = slice_set c lane (v, (slice_index_or c lane (v, 0)).1 + more)

module _ {S E : Type 0} (stands : S → List E → Type 0) where
  -- the value of a lane stands for these entries, and the count is their number
  pub record IsLane (es : List E) (x : S × ℕ) : Type 0 where
    pub value : stands x.0 es
    pub count : x.1 ≡ length es

  -- each lane has the value and the count of its part of the history
  abbrev pub AreLanes : List (S × ℕ) → List (Event E) → Type 0
  AreLanes c h = (k : ℕ) (d : S × ℕ) → k < length c → IsLane (part k h) (slice_index_or c k d)

  -- the cut stands for the history
  pub record Stands (c : List (S × ℕ)) (h : List (Event E)) : Type 0 where
    pub lanes : AreLanes c h
    pub rev : total c ≡ revision h
    pub few : length c ≤ most_passes
    pub room : All (λ (x : S × ℕ). x.1 ≤ 2 ^ 57) c

  -- the cut stands for each history whose lane parts are those that these lanes stand for
  abbrev pub IsCutOf : List (S × ℕ) → List (S × ℕ) → Type 0
  IsCutOf given c = (h : List (Event E)) → IsWithin (length given) h → AreLanes given h → Stands c h
