-- The statistics of a peer, one after another.
use Rattle.std.proofs.Common.{◌≡◌, ℕ, List, ◌∷◌, Option, Some, sym}
use Rattle.std.specs.Prelude.{slice_get}
use Rattle.std.specs.List.Sorted.{IsStrictlySortedBy}
use Rattle.std.specs.Map.{keys_of}
use Rattle.bmp_specs.specs.StatKind.{KindValue, kind_cmp}
use Rattle.bmp_specs.proofs.OrderLaws.{kind_total}
use Rattle.query_eval.specs.Later.{later}
use Rattle.query_eval.proofs.Walking.{next_is}

-- the next statistic, and those behind it
pub next_kind : (place : Option KindValue) (stats : List (KindValue × ℕ)) (e : KindValue × ℕ) → IsStrictlySortedBy kind_cmp (keys_of stats) → Some e ≡ slice_get (later kind_cmp place stats) 0
    → later kind_cmp place stats ≡ e ∷ later kind_cmp (Some e.0) stats
next_kind place stats e s h = next_is kind_cmp kind_total place stats e s (sym h)
