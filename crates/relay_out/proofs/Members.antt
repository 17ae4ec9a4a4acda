-- Members of lists that are put together, and what is so of all of them.
use Rattle.std.proofs.Common.{◌≡◌, inl, inr, List, [], ◌∷◌, ◌++◌, map, flat_map, arith, sym, subst}
use Rattle.std.specs.List.{AllByRecursion, Contains}
use Rattle.std.proofs.lemmas.List.Elements.{Contains-append_right}
use Rattle.bmp_specs.proofs.ListedOne.{contains_cases, contains_first, contains_later}
use Rattle.query_eval.proofs.Keeping.{all_join}

pub none_there : {X : Type 0} (x : X) → Contains [] x → ⊥
none_there x c = omega (arith, c.1)

pub member_has : {X : Type 0} (P : X → Type 0) (xs : List X) (x : X) → AllByRecursion P xs → Contains xs x → P x
member_has P [] x a c = absurd (none_there x c)
member_has P (y ∷ ys) x a c = elim (contains_cases y ys x c) [ inl is ↦ subst P is a.0 | inr d ↦ member_has P ys x a.1 d ]

pub all_mapped : {X Y : Type 0} (f : X → Y) (P : Y → Type 0) (xs : List X) → ((x : X) → Contains xs x → P (f x)) → AllByRecursion P (map f xs)
all_mapped f P [] each = tt
all_mapped f P (x ∷ xs) each = (each x (contains_first x xs), all_mapped f P xs (λ y c. each y (contains_later x xs y c)))

pub all_flat : {X Y : Type 0} (f : X → List Y) (P : Y → Type 0) (xs : List X) → ((x : X) → Contains xs x → AllByRecursion P (f x)) → AllByRecursion P (flat_map f xs)
all_flat f P [] each = tt
all_flat f P (x ∷ xs) each = all_join P (f x) (flat_map f xs) (each x (contains_first x xs)) (all_flat f P xs (λ y c. each y (contains_later x xs y c)))

-- what stands in a list at a place that is known
pub at_place : {X : Type 0} (xs before after : List X) (x : X) → xs ≡ before ++ x ∷ after → Contains xs x
at_place xs before after x split = subst (λ l. Contains l x) (sym split) (Contains-append_right before (x ∷ after) x (contains_first x after))

-- and behind it
pub behind_place : {X : Type 0} (xs before after : List X) (x y : X) → xs ≡ before ++ x ∷ after → Contains after y → Contains xs y
behind_place xs before after x y split c = subst (λ l. Contains l y) (sym split) (Contains-append_right before (x ∷ after) y (contains_later x after y c))

-- what is so of all of a list is so of its parts
pub all_parts : {X : Type 0} (P : X → Type 0) (xs ys : List X) → AllByRecursion P (xs ++ ys) → AllByRecursion P xs × AllByRecursion P ys
all_parts P [] ys a = (tt, a)
all_parts P (x ∷ xs) ys a = let h = all_parts P xs ys a.1 in ((a.0, h.0), h.1)

pub flat_part : {X Y : Type 0} (f : X → List Y) (P : Y → Type 0) (xs : List X) (x : X) → AllByRecursion P (flat_map f xs) → Contains xs x → AllByRecursion P (f x)
flat_part f P [] x a c = absurd (none_there x c)
flat_part f P (y ∷ ys) x a c =
    let h = all_parts P (f y) (flat_map f ys) a in
    elim (contains_cases y ys x c) [ inl is ↦ subst (λ z. AllByRecursion P (f z)) is h.0 | inr d ↦ flat_part f P ys x h.1 d ]
