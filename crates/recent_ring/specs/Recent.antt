-- The last items of a list, a notion of ours: the 1,024 steps that are kept of a lane.
use Rattle.std.specs.Prelude.{◌≡◌, ℕ, ◌-◌, ◌^◌, min, List, [], ◌∷◌, ◌++◌, length, drop}
use Rattle.std.specs.Arc.{arc_value}
use Rattle.std.specs.declared.alloc.Global.{Global}
use Rattle.std.specs.declared.sync.Arc.{Arc}
use Rattle.std.specs.declared.vec.Vec.{Vec}
use Rattle.std.specs.List.{AllZip}

-- how many items a list has, and the last of them, oldest first
pub record RecentValue (T : Type 0) : Type 0 where
  pub total : ℕ
  pub items : List T

-- the last 1,024 of a list, or all where there are no more
abbrev pub last_items : {T : Type 0} → List T → List T
last_items all = drop (length all - 1024) all

-- the ring of a list; its total ends at the greatest number of 64 bits
abbrev pub recent : {T : Type 0} → List T → RecentValue T
recent all = record { total = min (length all) (2 ^ 64 - 1); items = last_items all }

-- the same total, and items that are alike, place by place
pub record IsCopy {T : Type 0} (R : T → T → Type 0) (r s : RecentValue T) : Type 0 where
  pub total : s.total ≡ r.total
  pub items : AllZip R r.items s.items

-- the items of pieces, one piece after another
abbrev pub joined : {T : Type 0} → List (Arc (Vec T Global) Global) → List T
joined [] = []
joined (p ∷ ps) = (arc_value p).items ++ joined ps
