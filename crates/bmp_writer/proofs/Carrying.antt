-- What is tested of routes.
use Rattle.std.proofs.Common.{◌≡◌, ℕ, zero, suc, ◌+◌, ◌-◌, ◌==◌, ◌≤◌, ◌<◌, not, nat_eq, if◌then◌else◌, IsTrue, Bool, true, false, List, [], ◌∷◌, ◌++◌, length, map, take, drop, get_or, Contains, refl, sym, ap, subst, ◌∙◌, arith}
use Rattle.std.specs.List.{AllByRecursion, IsDistinct}
use Rattle.std.proofs.lemmas.List.{drop_more, length-drop, take_all}
use Rattle.bmp_specs.specs.declared.peers.View.{View}
use Rattle.bmp_specs.specs.declared.peers.View.TheVariants.{InPre, InPost, OutPre, OutPost, Loc}
use Rattle.bmp_specs.specs.declared.wire.Family.{Family}
use Rattle.bmp_specs.specs.PeerHeader.{IsViewOf}
use Rattle.bmp_specs.specs.Values.{AttrsValue, KeyValue, NlriValue, OtherValue}
use Rattle.bmp_writer.specs.WrittenRoutes.{AreAlike, CanCarryRoutes, IsAlike, IsOtherCode, family_of, ids_of}
use Rattle.bmp_writer.proofs.Headers.{four_views, only_loc}

four_among : (view : View) → (view ≡ Loc → ⊥) → Contains four_views view
four_among InPre none = (0, omega arith, refl)
four_among InPost none = (1, omega arith, refl)
four_among OutPre none = (2, omega arith, refl)
four_among OutPost none = (3, omega arith, refl)
four_among Loc none = absurd (none refl)

other_views : (b : Bool) (view : View) → (view ≡ Loc → ⊥) → (IsTrue (not b) → Contains (if b then Loc ∷ [] else four_views) view) × (Contains (if b then Loc ∷ [] else four_views) view → IsTrue (not b))
other_views true view none = (λ e. absurd cc, λ (k, l, e). absurd (none (sym (only_loc view k l e))))
other_views false view none = (λ e. four_among view none, λ c. refl)

-- a view that isn't the Loc-RIB's is one of a peer's that is no Loc-RIB Instance Peer
pub default_view : (i key : KeyValue) → i ≡ key → (view : View) → (view ≡ Loc → ⊥) → (IsTrue (not (nat_eq i.kind 3)) → IsViewOf key view) × (IsViewOf key view → IsTrue (not (nat_eq i.kind 3)))
default_view i key same view none =
    subst (λ (k : KeyValue). (IsTrue (not (nat_eq i.kind 3)) → IsViewOf k view) × (IsViewOf k view → IsTrue (not (nat_eq i.kind 3)))) same (other_views (i.kind == 3) view none)

all_join : (P : NlriValue → Type 0) (ns ms : List NlriValue) → AllByRecursion P ns → AllByRecursion P ms → AllByRecursion P (ns ++ ms)
all_join P [] ms a b = b
all_join P (n ∷ ns) ms (p, a) b = (p, all_join P ns ms a b)

all_part : (P : NlriValue → Type 0) (ns ms : List NlriValue) → AllByRecursion P (ns ++ ms) → AllByRecursion P ns × AllByRecursion P ms
all_part P [] ms a = (tt, a)
all_part P (n ∷ ns) ms (p, a) = let (front, back) = all_part P ns ms a in ((p, front), back)

pub not_true : false ≡ true → ⊥
not_true e = absurd cc

-- what holds of the items before one and of it
pub all_more : {V : Type 0} (P : V → Type 0) (vs : List V) (i : ℕ) (d v : V) → i < length vs → v ≡ get_or vs i d → AllByRecursion P (take i vs) → P v → AllByRecursion P (take (i + 1) vs)
all_more P [] i d v lt e a p = absurd (omega (arith, lt))
all_more P (x ∷ vs) zero d v lt e a p = (subst P e p, tt)
all_more P (x ∷ vs) (suc i) d v lt e (q, a) p =
    let next : suc (i + 1) ≡ suc i + 1 = omega arith in
    subst (λ (k : ℕ). AllByRecursion P (take k (x ∷ vs))) next (q, all_more P vs i d v (omega (arith, lt)) e a p)

pub alike_join : (family : Family) (ids : Bool) (ns ms : List NlriValue) → family ≡ family_of (ns ++ ms) → ids ≡ ids_of (ns ++ ms) → AllByRecursion (IsAlike family ids) ns → AllByRecursion (IsAlike family ids) ms → AreAlike (ns ++ ms)
alike_join family ids ns ms f i a b =
    subst (λ (g : Family). AllByRecursion (IsAlike g (ids_of (ns ++ ms))) (ns ++ ms)) f (subst (λ (x : Bool). AllByRecursion (IsAlike family x) (ns ++ ms)) i (all_join (IsAlike family ids) ns ms a b))

pub alike_part : (family : Family) (ids : Bool) (ns ms : List NlriValue) → family ≡ family_of (ns ++ ms) → ids ≡ ids_of (ns ++ ms) → AreAlike (ns ++ ms) → AllByRecursion (IsAlike family ids) ns × AllByRecursion (IsAlike family ids) ms
alike_part family ids ns ms f i a =
    all_part (IsAlike family ids) ns ms
    (subst (λ (x : Bool). AllByRecursion (IsAlike family x) (ns ++ ms)) (sym i) (subst (λ (g : Family). AllByRecursion (IsAlike g (ids_of (ns ++ ms))) (ns ++ ms)) (sym f) a))

abbrev pub Distinct : List OtherValue → Type 0
Distinct others = IsDistinct (λ j k. j == k) (map (λ a. a.code) others)

other_codes : (code : ℕ) (others : List OtherValue) → AllByRecursion (IsOtherCode code) others → AllByRecursion (λ y. (code == y) ≡ false) (map (λ a. a.code) others)
other_codes code [] a = tt
other_codes code (x ∷ others) (p, a) = (p, other_codes code others a)

codes_other : (code : ℕ) (others : List OtherValue) → AllByRecursion (λ y. (code == y) ≡ false) (map (λ a. a.code) others) → AllByRecursion (IsOtherCode code) others
codes_other code [] a = tt
codes_other code (x ∷ others) (p, a) = (p, codes_other code others a)

distinct_join : (a : OtherValue) (others : List OtherValue) → AllByRecursion (IsOtherCode a.code) others → Distinct others → Distinct (a ∷ others)
unfolding IsDistinct
distinct_join a others p d = (other_codes a.code others p, d)

distinct_part : (a : OtherValue) (others : List OtherValue) → Distinct (a ∷ others) → AllByRecursion (IsOtherCode a.code) others × Distinct others
unfolding IsDistinct
distinct_part a others (p, d) = (codes_other a.code others p, d)

pub distinct_none : Distinct []
unfolding IsDistinct
distinct_none = tt

-- one attribute more, in front of those that were looked at
pub distinct_more : (others : List OtherValue) (i n : ℕ) (d a : OtherValue) → i < length others → n ≡ i + 1 → a ≡ get_or others i d → AllByRecursion (IsOtherCode a.code) (drop n others) → Distinct (drop n others) → Distinct (drop i others)
distinct_more others i n d a lt on item p q =
    let all : a ∷ drop n others ≡ drop i others = ap (λ (x : OtherValue). x ∷ drop n others) item ∙ ap (λ (k : ℕ). get_or others i d ∷ drop k others) on ∙ sym (drop_more others i d lt) in
    subst Distinct all (distinct_join a (drop n others) p q)

distinct_drop : (others : List OtherValue) (n : ℕ) → Distinct others → Distinct (drop n others)
distinct_drop others zero d = d
distinct_drop [] (suc n) d = d
distinct_drop (a ∷ others) (suc n) d = distinct_drop others n (distinct_part a others d).1

-- an attribute of whose type there is another behind it
pub distinct_not : (others : List OtherValue) (i n : ℕ) (d a : OtherValue) → i < length others → n ≡ i + 1 → a ≡ get_or others i d → Distinct others → AllByRecursion (IsOtherCode a.code) (drop n others)
distinct_not others i n d a lt on item q =
    let all : drop i others ≡ a ∷ drop n others = drop_more others i d lt ∙ ap (λ (k : ℕ). get_or others i d ∷ drop k others) (sym on) ∙ ap (λ (x : OtherValue). x ∷ drop n others) (sym item) in
    (distinct_part a (drop n others) (subst Distinct all (distinct_drop others i q))).0

drop_past : (others : List OtherValue) (n : ℕ) → length others ≤ n → drop n others ≡ []
drop_past [] zero le = refl
drop_past [] (suc n) le = refl
drop_past (a ∷ others) zero le = absurd (omega (arith, le))
drop_past (a ∷ others) (suc n) le = drop_past others n (omega (arith, le))

rest_all : (others : List OtherValue) (n : ℕ) → take (length others - n) (drop n others) ≡ drop n others
rest_all others n = take_all (length others - n) (drop n others) (omega (arith, length-drop n others))

pub distinct_start : (others : List OtherValue) → Distinct (drop (length others - 0) others)
distinct_start others = subst Distinct (sym (drop_past others (length others - 0) (omega arith))) distinct_none

pub distinct_step : (others : List OtherValue) (place : ℕ) (d a : OtherValue) → place < length others → a ≡ get_or others (length others - 1 - place) d → AllByRecursion (IsOtherCode a.code) (take (length others - (length others - 1 - place + 1)) (drop (length others - 1 - place + 1) others))
    → Distinct (drop (length others - place) others) → Distinct (drop (length others - (place + 1)) others)
distinct_step others place d a lt item p q =
    let here : length others - place ≡ length others - 1 - place + 1 = omega (arith, lt) in
    let next : length others - 1 - place ≡ length others - (place + 1) = omega (arith, lt) in
    subst (λ (k : ℕ). Distinct (drop k others)) next
    (distinct_more others (length others - 1 - place) (length others - 1 - place + 1) d a (omega (arith, lt)) refl item (subst (λ (l : List OtherValue). AllByRecursion (IsOtherCode a.code) l) (rest_all others (length others - 1 - place + 1)) p) (subst (λ (k : ℕ). Distinct (drop k others)) here q))

pub distinct_stop : (others : List OtherValue) (place : ℕ) (d a : OtherValue) → place < length others → a ≡ get_or others (length others - 1 - place) d → Distinct others → AllByRecursion (IsOtherCode a.code) (take (length others - (length others - 1 - place + 1)) (drop (length others - 1 - place + 1) others))
distinct_stop others place d a lt item q =
    subst (λ (l : List OtherValue). AllByRecursion (IsOtherCode a.code) l) (sym (rest_all others (length others - 1 - place + 1))) (distinct_not others (length others - 1 - place) (length others - 1 - place + 1) d a (omega (arith, lt)) refl item q)

-- the same of the lists that were lent
pub carry_moved : (key : KeyValue) (view : View) (a withdrawn b announced : List NlriValue) (attrs : AttrsValue) → a ≡ withdrawn → b ≡ announced → CanCarryRoutes key view a b attrs → CanCarryRoutes key view withdrawn announced attrs
carry_moved key view a withdrawn b announced attrs e f p = subst (λ (l : List NlriValue). CanCarryRoutes key view l announced attrs) e (subst (λ (l : List NlriValue). CanCarryRoutes key view a l attrs) f p)
