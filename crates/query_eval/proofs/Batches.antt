-- Pairs of a walk that are put into places and written from there.
use Rattle.std.proofs.Common.{◌≡◌, ℕ, zero, suc, ◌<◌, List, [], ◌∷◌, ◌++◌, length, take, drop, get_or, set, refl, sym, ap, ◌∙◌, subst, arith, append_assoc}
use Rattle.std.specs.Borrow.{Bor}
use Rattle.std.specs.declared.alloc.Global.{Global}
use Rattle.std.specs.declared.sync.Arc.{Arc}
use Rattle.bmp_specs.specs.Values.{AttrsValue, NlriValue}
use Rattle.route_runs.specs.Runs.{shared}
use Rattle.router_tables.specs.Views.{Table}
use Rattle.query_eval.specs.RowRuns.{AreFound, shown_all}

-- a reference to a set
abbrev pub SetRef : Type 0
SetRef = Bor (Arc AttrsValue Global)

shown_all-last : (ns : List NlriValue) (rs : List SetRef) (n : NlriValue) (r : SetRef) → length ns ≡ length rs → shown_all (ns ++ (n ∷ [])) (rs ++ (r ∷ [])) ≡ shown_all ns rs ++ ((n, shared r) ∷ [])
shown_all-last [] [] n r e = refl
shown_all-last [] (r' ∷ rs) n r e = absurd (omega (arith, e))
shown_all-last (n' ∷ ns) [] n r e = absurd (omega (arith, e))
shown_all-last (n' ∷ ns) (r' ∷ rs) n r e = ap (λ (l : Table). (n', shared r') ∷ l) (shown_all-last ns rs n r (omega (arith, e)))

-- the pairs from a place on: the one there, and those behind it
pub shown_next : (ns : List NlriValue) (rs : List SetRef) (i : ℕ) (d n : NlriValue) (b r : SetRef) → i < length ns → length ns ≡ length rs → n ≡ get_or ns i d → r ≡ get_or rs i b → shown_all (drop i ns) (drop i rs) ≡ (n, shared r) ∷ shown_all (drop (suc i) ns) (drop (suc i) rs)
shown_next [] rs i d n b r h l e f = absurd (omega (arith, h))
shown_next (x ∷ ns) [] i d n b r h l e f = absurd (omega (arith, l))
shown_next (x ∷ ns) (y ∷ rs) zero d n b r h l e f = λ i. (sym e i, shared (sym f i)) ∷ shown_all ns rs
shown_next (x ∷ ns) (y ∷ rs) (suc i) d n b r h l e f = shown_next ns rs i d n b r (omega (arith, h)) (omega (arith, l)) e f

-- one more pair was put behind those before
pub shown_more : (now before : List NlriValue) (now_sets before_sets : List SetRef) (all left rest : Table) (n : NlriValue) (r : SetRef) → now ≡ before ++ (n ∷ []) → now_sets ≡ before_sets ++ (r ∷ []) → length before ≡ length before_sets
    → all ≡ shown_all before before_sets ++ left → left ≡ (n, shared r) ∷ rest → all ≡ shown_all now now_sets ++ rest
shown_more now before now_sets before_sets all left rest n r is are same e l =
    e ∙ ap (λ (t : Table). shown_all before before_sets ++ t) l ∙ sym (append_assoc (shown_all before before_sets) ((n, shared r) ∷ []) rest)
    ∙ ap (λ (t : Table). t ++ rest) (sym ((λ i. shown_all (is i) (are i)) ∙ shown_all-last before before_sets n r same))

-- what was found of the route at a place
found_at : {F : Type 0} (Finds : AttrsValue → F → Type 0) (rs : List SetRef) (fs : List F) (i : ℕ) (b r : SetRef) (d : F) → AreFound Finds rs fs → i < length rs → r ≡ get_or rs i b → Finds (shared r) (get_or fs i d)
found_at Finds [] fs i b r d are l e = absurd (omega (arith, l))
found_at Finds (x ∷ rs) [] i b r d are l e = absurd are
found_at Finds (x ∷ rs) (y ∷ fs) zero b r d are l e = subst (λ (s : SetRef). Finds (shared s) y) (sym e) are.0
found_at Finds (x ∷ rs) (y ∷ fs) (suc i) b r d are l e = found_at Finds rs fs i b r d are.1 (omega (arith, l)) e

-- it was found of the route's attributes by what writes the line now
pub found_now : {L F : Type 0} (Finds : L → AttrsValue → F → Type 0) (before now : L) (rs : List SetRef) (fs : List F) (i : ℕ) (b r : SetRef) (d : F) (a : AttrsValue)
    → AreFound (Finds before) rs fs → i < length rs → r ≡ get_or rs i b → now ≡ before → a ≡ shared r → Finds now a (get_or fs i d)
found_now Finds before now rs fs i b r d a are l e same is = subst (λ t. Finds t a (get_or fs i d)) (sym same) (subst (λ (s : AttrsValue). Finds before s (get_or fs i d)) (sym is) (found_at (Finds before) rs fs i b r d are l e))

-- what is found of the next one is put into its place
pub found_next : {F : Type 0} (Finds : AttrsValue → F → Type 0) (rs : List SetRef) (fs : List F) (i : ℕ) (b r : SetRef) (f : F) → AreFound Finds (take i rs) fs → i < length rs → i < length fs → r ≡ get_or rs i b → Finds (shared r) f → AreFound Finds (take (suc i) rs) (set fs i f)
found_next Finds [] fs i b r f are l w e is = absurd (omega (arith, l))
found_next Finds (x ∷ rs) [] i b r f are l w e is = absurd (omega (arith, w))
found_next Finds (x ∷ rs) (y ∷ fs) zero b r f are l w e is = (subst (λ (s : SetRef). Finds (shared s) f) e is, tt)
found_next Finds (x ∷ rs) (y ∷ fs) (suc i) b r f are l w e is = (are.0, found_next Finds rs fs i b r f are.1 (omega (arith, l)) (omega (arith, w)) e is)
