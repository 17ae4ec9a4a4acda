-- The pairs from a place on.
use Rattle.std.specs.Prelude.{List, Option, None, Some}
use Rattle.std.specs.Borrow.{Bor}
use Rattle.std.specs.Ordering.{is_lt, is_le}
use Rattle.std.specs.List.{filter}
use Rattle.bmp_specs.specs.Orders.{prefix_cmp}
use Rattle.bmp_specs.specs.Values.{PrefixValue}

-- the pairs after a prefix
abbrev pub pairs_after : {T : Type 0} → PrefixValue → List (PrefixValue × T) → List (PrefixValue × T)
pairs_after place es = filter (λ e. is_lt (prefix_cmp place e.0)) es

-- the pairs after a place, or all of them
abbrev pub after_place : {T : Type 0} → Option (Bor PrefixValue) → List (PrefixValue × T) → List (PrefixValue × T)
after_place None es = es
after_place (Some place) es = pairs_after place.now es

-- the pairs at a place and after it
abbrev pub from_place : {T : Type 0} → PrefixValue → List (PrefixValue × T) → List (PrefixValue × T)
from_place place es = filter (λ e. is_le (prefix_cmp place e.0)) es

-- a prefix and what a reference points to
abbrev pub shown : {T : Type 0} → PrefixValue × Bor T → PrefixValue × T
shown p = (p.0, p.1.now)
