-- The tests of path attributes say what is asked of a route.
use Rattle.std.proofs.Common.{◌≡◌, inl, inr, ℕ, suc, ◌+◌, ◌-◌, ◌*◌, ◌<◌, take, drop, Bool, true, false, ◌||◌, ◌==◌, List, [], ◌∷◌, ◌++◌, length, Option, None, Some, refl, sym, ap, ◌∙◌, subst, append_assoc, length-append, arith, Decides}
use Rattle.std.specs.Prelude.{IsTrue, unwrap_or}
use Rattle.std.specs.List.{Contains, list_any}
use Rattle.std.specs.Str.{bytes_eq}
use Rattle.std.proofs.lemmas.Bool.{false≢true, cond_both, eqb-true, eq-eqb, ne_eqb}
use Rattle.std.proofs.Math.Nat.{mul-suc}
use Rattle.std.proofs.lemmas.Bool.Decides.{Decides-like, Decides-and, Decides-or, Decides-eqb}
use Rattle.std.proofs.lemmas.Slice.Eq.{bytes_eq-Decides}
use Rattle.bmp_specs.specs.Values.{AttrsValue, OtherValue}
use Rattle.bmp_specs.proofs.ListedOne.{contains_cases, contains_first, contains_later}
use Rattle.ask_specs.specs.Items.{items, items_in, are_items}
use Rattle.ask_specs.specs.Traits.{CommunityValue, plain, large, extended, TraitsValue, path_numbers, StandIn, large_communities, extended_communities, HasItem, HasCommunity, HasOther, GoesThrough, IfNamed, HasTraits}
use Rattle.query_eval.specs.TraitTests.{stand_in, goes_through, has_number, has_item, has_code_item, has_code, large_octets, has_community, if_named, has_traits}

-- ---- numbers in order
-- what stands in a list stands in a longer one
stands_behind : (numbers xs ys : List ℕ) → StandIn numbers ys → StandIn numbers (xs ++ ys)
stands_behind [] xs ys s = tt
stands_behind (n ∷ numbers) xs ys s = (xs ++ s.0, s.1, ap (λ (l : List ℕ). xs ++ l) s.2 ∙ sym (append_assoc xs s.0 (n ∷ s.1)), s.3)

stand_to : (numbers list : List ℕ) → stand_in numbers list ≡ true → StandIn numbers list
stand_to [] list e = tt
stand_to (n ∷ numbers) [] e = absurd (false≢true e)
stand_to (n ∷ numbers) (x ∷ list) e =
    cond_both (n == x) (stand_in numbers list) (stand_in (n ∷ numbers) list) (λ (b : Bool). b ≡ true → StandIn (n ∷ numbers) (x ∷ list))
    (λ same t. ([], list, ap (λ (m : ℕ). m ∷ list) (sym (eqb-true n x same)), stand_to numbers list t))
    (λ other t. stands_behind (n ∷ numbers) (x ∷ []) list (stand_to (n ∷ numbers) list t))
    e

-- where the first stands, the others stand behind its first place
rest_behind : (n x : ℕ) (numbers list before after : List ℕ) → x ∷ list ≡ before ++ n ∷ after → StandIn numbers after → StandIn numbers list
rest_behind n x numbers list [] after e s = let same : list ≡ after = cc in subst (StandIn numbers) (sym same) s
rest_behind n x numbers list (b ∷ before) after e s =
    let same : list ≡ before ++ n ∷ after = cc in
    let joined : list ≡ (before ++ n ∷ []) ++ after = same ∙ sym (append_assoc before (n ∷ []) after) in
    subst (StandIn numbers) (sym joined) (stands_behind numbers (before ++ n ∷ []) after s)

-- where the first of a list is another, they stand behind it
all_behind : (n x : ℕ) (numbers list before after : List ℕ) → (n == x) ≡ false → x ∷ list ≡ before ++ n ∷ after → StandIn numbers after → StandIn (n ∷ numbers) list
all_behind n x numbers list [] after other e s = let same : x ≡ n = cc in absurd (false≢true (sym other ∙ eq-eqb n x (sym same)))
all_behind n x numbers list (b ∷ before) after other e s = let same : list ≡ before ++ n ∷ after = cc in (before, after, same, s)

stand_from : (numbers list : List ℕ) → StandIn numbers list → stand_in numbers list ≡ true
stand_from [] list s = refl
stand_from (n ∷ numbers) [] s = absurd (omega (arith, ap length s.2, length-append s.0 (n ∷ s.1)))
stand_from (n ∷ numbers) (x ∷ list) s =
    cond_both (n == x) (stand_in numbers list) (stand_in (n ∷ numbers) list) (λ (b : Bool). b ≡ true)
    (λ same. stand_from numbers list (rest_behind n x numbers list s.0 s.1 s.2 s.3))
    (λ other. stand_from (n ∷ numbers) list (all_behind n x numbers list s.0 s.1 other s.2 s.3))

pub stand_decides : (numbers list : List ℕ) → Decides (stand_in numbers list) (StandIn numbers list)
stand_decides numbers list = (stand_to numbers list, stand_from numbers list)

-- none stands in no list
pub stand_in_none : (numbers : List ℕ) → stand_in numbers [] ≡ (length numbers == 0)
stand_in_none [] = refl
stand_in_none (n ∷ numbers) = sym (ne_eqb (length (n ∷ numbers)) 0 (λ e. omega (arith, e)))

-- ---- members
any_decides : {X : Type 0} (test : X → Bool) (Is : X → Type 0) → ((x : X) → Decides (test x) (Is x)) → (xs : List X) → Decides (list_any test xs) ((x : X) × Contains xs x × Is x)
any_decides test Is each [] = (λ e. absurd (false≢true e), λ h. absurd (omega (arith, h.1.1)))
any_decides {X} test Is each (x ∷ xs) = Decides-like (test x || list_any test xs)
    (λ h. elim h [ inl is ↦ (x, contains_first x xs, is) | inr d ↦ (d.0, contains_later x xs d.0 d.1, d.2) ])
    (λ h. elim (contains_cases x xs h.0 h.1) [ inl e ↦ inl (subst Is (sym e) h.2) | inr d ↦ inr (h.0, d, h.2) ])
    (Decides-or _ _ (each x) (any_decides test Is each xs))

number_decides : (number : ℕ) (list : List ℕ) → Decides (has_number number list) (Contains list number)
number_decides number list = Decides-like (has_number number list) (λ h. subst (Contains list) h.2 h.1) (λ c. (number, c, refl)) (any_decides (λ x. x == number) (λ x. x ≡ number) (λ x. Decides-eqb x number) list)

among_decides : (item : List ℕ) (all : List (List ℕ)) → Decides (list_any (λ x. bytes_eq x item) all) (Contains all item)
among_decides item all = Decides-like (list_any (λ x. bytes_eq x item) all) (λ h. subst (Contains all) h.2 h.1) (λ c. (item, c, refl)) (any_decides (λ x. bytes_eq x item) (λ x. x ≡ item) (λ x. bytes_eq-Decides x item) all)

item_decides : (size : ℕ) (item value : List ℕ) → Decides (has_item size item value) (IsTrue (are_items size value) × Contains (items size value) item)
item_decides size item value = Decides-and (are_items size value) (list_any (λ x. bytes_eq x item) (items size value)) (λ e. e, λ e. e) (among_decides item (items size value))

abbrev IsCodeItem : ℕ → ℕ → List ℕ → OtherValue → Type 0
IsCodeItem code size item other = (other.code ≡ code) × (IsTrue (are_items size other.value) × Contains (items size other.value) item)

code_item_decides : (code size : ℕ) (item : List ℕ) (other : OtherValue) → Decides (has_code_item code size item other) (IsCodeItem code size item other)
code_item_decides code size item other = Decides-and (other.code == code) (has_item size item other.value) (Decides-eqb other.code code) (item_decides size item other.value)

items_decide : (code size : ℕ) (item : List ℕ) (others : List OtherValue) → Decides (list_any (has_code_item code size item) others) (HasItem others code size item)
items_decide code size item others = Decides-like (list_any (has_code_item code size item) others)
    (λ h. record { attribute = h.0; stands = h.1; code_is = h.2.0; formed = h.2.1.0; has = h.2.1.1 })
    (λ h. (h.attribute, h.stands, (h.code_is, (h.formed, h.has))))
    (any_decides (has_code_item code size item) (IsCodeItem code size item) (code_item_decides code size item) others)

pub community_decides : (attrs : AttrsValue) (community : CommunityValue) → Decides (has_community attrs community) (HasCommunity attrs community)
community_decides attrs (plain c) = number_decides c attrs.communities
community_decides attrs (large a b c) = items_decide large_communities 12 (large_octets a b c) attrs.others
community_decides attrs (extended octets) = items_decide extended_communities 8 octets attrs.others

pub other_decides : (attrs : AttrsValue) (code : ℕ) → Decides (list_any (has_code code) attrs.others) (HasOther attrs code)
other_decides attrs code = Decides-like (list_any (has_code code) attrs.others)
    (λ h. record { attribute = h.0; stands = h.1; code_is = h.2 })
    (λ h. (h.attribute, h.stands, h.code_is))
    (any_decides (has_code code) (λ (other : OtherValue). other.code ≡ code) (λ other. Decides-eqb other.code code) attrs.others)

pub through_decides : (attrs : AttrsValue) (numbers : List ℕ) → Decides (goes_through numbers attrs.path) (GoesThrough attrs numbers)
through_decides attrs numbers = stand_decides numbers (path_numbers (unwrap_or attrs.path []))

named_so : {A : Type 0} (test : A → Bool) (Is : A → Type 0) → ((x : A) → Decides (test x) (Is x)) → (named : Option A) → Decides (if_named named test) (IfNamed named Is)
named_so test Is each None = (λ e. tt, λ h. refl)
named_so test Is each (Some x) = each x

pub traits_decide : (traits : TraitsValue) (attrs : AttrsValue) → Decides (has_traits traits attrs) (HasTraits traits attrs)
traits_decide traits attrs =
    let through = named_so (λ numbers. goes_through numbers attrs.path) (GoesThrough attrs) (through_decides attrs) traits.through in
    let community = named_so (has_community attrs) (HasCommunity attrs) (community_decides attrs) traits.community in
    let other = named_so (λ code. list_any (has_code code) attrs.others) (HasOther attrs) (other_decides attrs) traits.other in
    Decides-like (has_traits traits attrs) (λ h. record { through_is = h.0; community_is = h.1.0; other_is = h.1.1 }) (λ h. (h.through_is, (h.community_is, h.other_is))) (Decides-and _ _ through (Decides-and _ _ community other))

-- ---- a walk over items
-- where the first item of those that are left is another, it is among the others or among none
pub item_on : (test : List ℕ → Bool) (count at size : ℕ) (rest front after : List ℕ) → at < count → front ≡ take size rest → after ≡ drop size rest → test front ≡ false
    → list_any test (items_in (count - at) size rest) ≡ list_any test (items_in (count - (at + 1)) size after)
item_on test count at size rest front after small front_is after_is other =
    let left : count - at ≡ suc (count - (at + 1)) = omega (arith, small) in
    let first : test (take size rest) ≡ false = ap test (sym front_is) ∙ other in
    ap (λ (n : ℕ). list_any test (items_in n size rest)) left
    ∙ ap (λ (b : Bool). b || list_any test (items_in (count - (at + 1)) size (drop size rest))) first
    ∙ ap (λ (l : List ℕ). list_any test (items_in (count - (at + 1)) size l)) (sym after_is)

-- where it is the one, the item is among them
pub item_found : (test : List ℕ → Bool) (count at size : ℕ) (rest front : List ℕ) → at < count → front ≡ take size rest → test front ≡ true → list_any test (items_in (count - at) size rest) ≡ true
item_found test count at size rest front small front_is is =
    let left : count - at ≡ suc (count - (at + 1)) = omega (arith, small) in
    ap (λ (n : ℕ). list_any test (items_in n size rest)) left
    ∙ ap (λ (b : Bool). b || list_any test (items_in (count - (at + 1)) size (drop size rest))) (ap test (sym front_is) ∙ is)

-- so many octets are left
pub octets_on : (count at size : ℕ) (rest after : List ℕ) → at < count → length rest ≡ size * (count - at) → length after + size ≡ length rest → length after ≡ size * (count - (at + 1))
octets_on count at size rest after small left after_is =
    let more : size * (count - at) ≡ size * (count - (at + 1)) + size = ap (λ (n : ℕ). size * n) (omega (arith, small)) ∙ mul-suc size (count - (at + 1)) in
    omega (arith, left, after_is, more)
