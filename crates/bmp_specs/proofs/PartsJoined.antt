-- Parts, and further parts after them.
use Rattle.std.proofs.Common.{ℕ, List, [], ◌∷◌, ◌++◌, refl, sym, ap, subst, ◌∙◌, append_assoc, append-nil}
use Rattle.bmp_specs.specs.Parts.{AreParts}

pub parts_join : {V : Type 0} (Is : List ℕ → V → Type 0) (front back : List ℕ) (vs ws : List V) → AreParts Is front vs → AreParts Is back ws → AreParts Is (front ++ back) (vs ++ ws)
parts_join Is front back [] ws p q = subst (λ (l : List ℕ). AreParts Is (l ++ back) ws) (sym p) q
parts_join Is front back (v ∷ vs) ws (first, rest, split, is, p) q =
    (first, rest ++ back, record { joined = ap (λ (l : List ℕ). l ++ back) split.joined ∙ append_assoc first rest back }, is, parts_join Is rest back vs ws p q)

-- one more part at the end
pub parts_snoc : {V : Type 0} (Is : List ℕ → V → Type 0) (front part : List ℕ) (vs : List V) (v : V) → AreParts Is front vs → Is part v → AreParts Is (front ++ part) (vs ++ v ∷ [])
parts_snoc Is front part vs v p q = parts_join Is front part vs (v ∷ []) p (part, [], record { joined = sym (append-nil part) }, q, refl)
