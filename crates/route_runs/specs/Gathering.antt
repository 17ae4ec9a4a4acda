-- Sets that are gathered into packs, each with a handle.
use Rattle.std.specs.Prelude.{◌≡◌, ℕ, List, [], ◌∷◌, ◌++◌, map, Option}
use Rattle.std.specs.Arc.{arc_value}
use Rattle.std.specs.declared.alloc.Global.{Global}
use Rattle.std.specs.declared.sync.Arc.{Arc}
use Rattle.std.specs.declared.vec.Vec.{Vec}
use Rattle.std.specs.List.{AllByRecursion}
use Rattle.route_runs.specs.Rows.{sets_of, set_at, IsHandle}

-- the sets of the packs that are full, and of the one that is being filled
abbrev pub gathered : {A : Type 0} → List (Arc (Vec (Arc A Global) Global) Global) → List (Arc A Global) → List (List A)
gathered packs now = sets_of packs ++ map arc_value now ∷ []

-- each handle names what it named
pub record Keeps {A : Type 0} (old new : List (List A)) : Type 0 where
  pub handles : (h : ℕ) → IsHandle old h → IsHandle new h
  pub sets : (h : ℕ) → IsHandle old h → set_at new h ≡ set_at old h

-- a handle that names this, beside those that were there
pub record Adds {A : Type 0} (old new : List (List A)) (set : Option A) (h : ℕ) : Type 0 where
  pub keeps : Keeps old new
  pub handle : IsHandle new h
  pub names : set_at new h ≡ set

-- handles that name the same, one by one
pub record IsRenamed {A : Type 0} (old : List (List A)) (vs : List ℕ) (new : List (List A)) (ws : List ℕ) : Type 0 where
  pub handles : AllByRecursion (IsHandle new) ws
  pub same : map (set_at new) ws ≡ map (set_at old) vs
