-- What the leading part of a path takes of one segment.
use Rattle.std.specs.Prelude.{◌≡◌, ℕ, List, [], ◌∷◌, ◌≤◌, length, take}
use Rattle.as_path.specs.declared.path.merge.Taken.{Taken}
use Rattle.as_path.specs.declared.path.merge.Taken.TheVariants.{Whole, Front, Nothing}
use Rattle.bmp_specs.specs.MergedPath.{lead_of, sequence_of}
use Rattle.bmp_specs.specs.Values.{SegmentValue}

-- Of the segment, the leading part of n AS numbers takes all, with so many numbers still to come; or a sequence of
-- its first numbers, and nothing after it; or neither it nor what follows.
abbrev pub Takes : ℕ → SegmentValue → Taken → Type 0
Takes n segment (Whole left) = (lead_rest : ℕ → List SegmentValue) → lead_of segment.kind n segment lead_rest ≡ segment ∷ lead_rest left
Takes n segment (Front count) = (count ≤ length segment.numbers) × ((lead_rest : ℕ → List SegmentValue) → lead_of segment.kind n segment lead_rest ≡ sequence_of (take count segment.numbers) ∷ [])
Takes n segment Nothing = (lead_rest : ℕ → List SegmentValue) → lead_of segment.kind n segment lead_rest ≡ []
