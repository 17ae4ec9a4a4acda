-- The first three fields of a record.
use Rattle.std.proofs.Common.{◌≡◌, ℕ, List, [], ◌∷◌, Some, None}
use Rattle.csv.specs.Records.{field_at}
use Rattle.rov_table.specs.declared.vrp.Vrp.{Vrp}
use Rattle.rov_table.specs.VrpFile.{IsVrp, SpellsVrp}

pub no_first : (fields : List (List ℕ)) (v : Vrp) → None ≡ field_at fields 0 → IsVrp fields v → ⊥
unfolding field_at
no_first [] v e is = is
no_first (a ∷ fields) v e is = cc

pub no_second : (fields : List (List ℕ)) (v : Vrp) → None ≡ field_at fields 1 → IsVrp fields v → ⊥
unfolding field_at
no_second [] v e is = is
no_second (a ∷ []) v e is = is
no_second (a ∷ b ∷ fields) v e is = cc

pub no_third : (fields : List (List ℕ)) (v : Vrp) → None ≡ field_at fields 2 → IsVrp fields v → ⊥
unfolding field_at
no_third [] v e is = is
no_third (a ∷ []) v e is = is
no_third (a ∷ b ∷ []) v e is = is
no_third (a ∷ b ∷ c ∷ fields) v e is = cc

-- the record is a VRP where its first three fields are one
pub from_fields : (fields : List (List ℕ)) (a b c : List ℕ) (v : Vrp) → Some a ≡ field_at fields 0 → Some b ≡ field_at fields 1 → Some c ≡ field_at fields 2 → SpellsVrp a b c v → IsVrp fields v
unfolding field_at
from_fields [] a b c v e f g is = cc
from_fields (x ∷ []) a b c v e f g is = cc
from_fields (x ∷ y ∷ []) a b c v e f g is = cc
from_fields (x ∷ y ∷ z ∷ fields) a b c v e f g is =
    let one : a ≡ x = cc in
    let two : b ≡ y = cc in
    let three : c ≡ z = cc in
    rw (← one, ← two, ← three) is

pub to_fields : (fields : List (List ℕ)) (a b c : List ℕ) (v : Vrp) → Some a ≡ field_at fields 0 → Some b ≡ field_at fields 1 → Some c ≡ field_at fields 2 → IsVrp fields v → SpellsVrp a b c v
unfolding field_at
to_fields [] a b c v e f g is = cc
to_fields (x ∷ []) a b c v e f g is = cc
to_fields (x ∷ y ∷ []) a b c v e f g is = cc
to_fields (x ∷ y ∷ z ∷ fields) a b c v e f g is =
    let one : a ≡ x = cc in
    let two : b ≡ y = cc in
    let three : c ≡ z = cc in
    rw (one, two, three) is
