-- What is asked of NLRI in a run stands together in their order: a walk from where the run begins gives the run first.
use Rattle.std.proofs.Common.{◌≡◌, inl, inr, ℕ, zero, suc, Bool, true, false, ◌&&◌, not, List, [], ◌∷◌, length, replicate, Option, None, Some, arith, refl, sym, ap, ◌∙◌, subst}
use Rattle.std.specs.declared.cmp.Ordering.{Ordering}
use Rattle.std.specs.declared.cmp.Ordering.TheVariants.{Less, Equal, Greater}
use Rattle.std.specs.Ordering.{nat_cmp, ordering_then, ordering_reverse, is_lt, is_gt, is_eq}
use Rattle.std.specs.Option.{option_cmp}
use Rattle.std.specs.Cmp.Lexicographic.{slice_cmp}
use Rattle.std.specs.List.{AllByRecursion, filter}
use Rattle.std.proofs.lemmas.Bool.{false≢true, true≢false, cond-true, cond-false, and_parts, and_from, false_from_ne_true}
use Rattle.std.proofs.lemmas.Bool.Decides.{nat_tests}
use Rattle.bmp_specs.specs.declared.wire.Family.{Family}
use Rattle.bmp_specs.specs.declared.wire.Family.TheVariants.{V4, V6}
use Rattle.bmp_specs.specs.Address.{IsAddressPrefix}
use Rattle.bmp_specs.specs.Containment.{ContainsPrefix}
use Rattle.bmp_specs.specs.Orders.{family_cmp, prefix_cmp, nlri_cmp}
use Rattle.bmp_specs.specs.Values.{AttrsValue, NlriValue, PrefixValue}
use Rattle.bmp_specs.proofs.OrderLaws.{prefix_total, prefix_exact}
use Rattle.bmp_specs.proofs.PrefixOrder.{contained_later, contained_between}
use Rattle.route_runs.specs.declared.walk.Place.{Place}
use Rattle.route_runs.specs.declared.walk.Place.TheVariants.{First, From, After}
use Rattle.route_runs.specs.Places.{is_after, is_from}
use Rattle.route_runs.specs.Walk.{pairs_from}
use Rattle.route_runs.proofs.Left.{all_pass}
use Rattle.route_runs.proofs.Merging.{Below, Rising, rising_head, rising_tail}
use Rattle.route_runs.proofs.Searching.{bools}
use Rattle.router_tables.specs.Views.{Table}
use Rattle.query_eval.specs.declared.run.Part.{Part}
use Rattle.query_eval.specs.declared.run.Part.TheVariants.{Whole, Exact, Within}
use Rattle.query_eval.specs.declared.run.Run.{Run}
use Rattle.query_eval.specs.RowRuns.{in_part, in_run, first_of_v6, begin_of_part, begin_of, IsPart, front_of}
use Rattle.query_eval.specs.Selecting.{is_named}
use Rattle.query_eval.proofs.RowDeciding.{contains_decides}

-- ---- places and orders
-- whether a walk from a place gives the NLRI
abbrev begins : Place → NlriValue → Bool
begins First n = true
begins (From m) n = is_from nlri_cmp m n
begins (After m) n = is_after nlri_cmp (Some m) n

begun : (place : Place) (es : Table) → pairs_from place es ≡ filter (λ (e : NlriValue × AttrsValue). begins place e.0) es
begun First es = sym (all_pass es)
begun (From m) es = refl
begun (After m) es = refl

-- the NLRI of a prefix without an identifier
abbrev plain : PrefixValue → NlriValue
plain p = record { prefix = p; id = None }

not_first : (o : Ordering) (id : Option ℕ) → is_gt o ≡ false → not (is_lt (ordering_then (ordering_reverse o) (option_cmp nat_cmp id None))) ≡ true
not_first Less id e = refl
not_first Equal None e = refl
not_first Equal (Some n) e = refl
not_first Greater id e = absurd cc

not_later : (o p : Ordering) → not (is_lt (ordering_then (ordering_reverse o) p)) ≡ true → is_gt o ≡ false
not_later Less p e = refl
not_later Equal p e = refl
not_later Greater p e = absurd cc

-- a prefix is no later than another exactly where a walk from it gives the other
from_prefix : (p : PrefixValue) (n : NlriValue) → is_gt (prefix_cmp p n.prefix) ≡ false → is_from nlri_cmp (plain p) n ≡ true
from_prefix p n e = ap (λ (o : Ordering). not (is_lt (ordering_then o (option_cmp nat_cmp n.id None)))) (prefix_total.antisymm n.prefix p) ∙ not_first (prefix_cmp p n.prefix) n.id e

prefix_from : (p : PrefixValue) (n : NlriValue) → is_from nlri_cmp (plain p) n ≡ true → is_gt (prefix_cmp p n.prefix) ≡ false
prefix_from p n e = not_later (prefix_cmp p n.prefix) (option_cmp nat_cmp n.id None) (sym (ap (λ (o : Ordering). not (is_lt (ordering_then o (option_cmp nat_cmp n.id None)))) (prefix_total.antisymm n.prefix p)) ∙ e)

less_first : (o p : Ordering) → ordering_then o p ≡ Less → is_gt o ≡ false
less_first Less p e = refl
less_first Equal p e = refl
less_first Greater p e = absurd cc

up_to : (q r : NlriValue) → nlri_cmp q r ≡ Less → is_gt (prefix_cmp q.prefix r.prefix) ≡ false
up_to q r less = less_first (prefix_cmp q.prefix r.prefix) (option_cmp nat_cmp q.id r.id) less

tie_of : (o : Ordering) → is_eq o ≡ true → o ≡ Equal
tie_of Less e = absurd cc
tie_of Equal e = refl
tie_of Greater e = absurd cc

no_more : (o : Ordering) → o ≡ Equal → is_gt o ≡ false
no_more o e = ap is_gt e

both_ways : (o : Ordering) → is_gt o ≡ false → is_gt (ordering_reverse o) ≡ false → is_eq o ≡ true
both_ways Less e f = absurd cc
both_ways Equal e f = refl
both_ways Greater e f = absurd cc

-- ---- the first NLRI of IPv6
not_gt_then : (o p : Ordering) → is_gt o ≡ false → is_gt p ≡ false → is_gt (ordering_then o p) ≡ false
not_gt_then Less p e f = refl
not_gt_then Equal p e f = f
not_gt_then Greater p e f = absurd cc

zero_first : (n : ℕ) → is_gt (nat_cmp 0 n) ≡ false
zero_first n = grind (arith, nat_tests)

zeros_first : (n : ℕ) (xs : List ℕ) → length xs ≡ n → is_gt (slice_cmp nat_cmp (replicate n 0) xs) ≡ false
zeros_first zero [] e = refl
zeros_first zero (x ∷ xs) e = absurd (omega (arith, e))
zeros_first (suc n) [] e = absurd (omega (arith, e))
zeros_first (suc n) (x ∷ xs) e = not_gt_then (nat_cmp 0 x) (slice_cmp nat_cmp (replicate n 0) xs) (zero_first x) (zeros_first n xs (omega (arith, e)))

family_first : (f : Family) → is_eq (family_cmp V6 f) ≡ true → is_gt (family_cmp V6 f) ≡ false
family_first V4 e = absurd cc
family_first V6 e = refl

v6_first : (p : PrefixValue) → IsAddressPrefix p → is_eq (family_cmp V6 p.address.family) ≡ true → is_gt (prefix_cmp first_of_v6.prefix p) ≡ false
v6_first p is e =
    not_gt_then _ (nat_cmp 0 p.bits) (not_gt_then (family_cmp V6 p.address.family) (slice_cmp nat_cmp (replicate 16 0) p.address.octets) (family_first p.address.family e) (zeros_first 16 p.address.octets is.address.len)) (zero_first p.bits)

v6_from : (f : Family) (o p : Ordering) → is_gt (ordering_then (ordering_then (family_cmp V6 f) o) p) ≡ false → is_eq (family_cmp V6 f) ≡ true
v6_from V4 o p e = absurd cc
v6_from V6 o p e = refl

-- before an NLRI of IPv4 stand those of IPv4 alone
v4_before : (f g : Family) (o p : Ordering) → is_gt (ordering_then (ordering_then (family_cmp f g) o) p) ≡ false → is_eq (family_cmp V4 g) ≡ true → is_eq (family_cmp V4 f) ≡ true
v4_before V4 g o p e h = refl
v4_before V6 V4 o p e h = absurd cc
v4_before V6 V6 o p e h = absurd cc

-- ---- where the family is one, the test of the family answers one
named_like : (family : Option Family) (q r : PrefixValue) → q.address.family ≡ r.address.family → is_named family_cmp family r.address.family ≡ true → is_named family_cmp family q.address.family ≡ true
named_like family q r same e = ap (is_named family_cmp family) same ∙ e

-- ---- what is in a run is given by the walk from where the run begins
in_begun : (part : Part) (family : Option Family) → IsPart part → (n : NlriValue) → IsAddressPrefix n.prefix → (is_named family_cmp family n.prefix.address.family && in_part part n.prefix) ≡ true → begins (begin_of_part part family) n ≡ true
in_begun Whole None is n exact e = refl
in_begun Whole (Some V4) is n exact e = refl
in_begun Whole (Some V6) is n exact e = from_prefix first_of_v6.prefix n (v6_first n.prefix exact (and_parts _ _ e).0)
in_begun (Exact p) family is n exact e = from_prefix p n (no_more (prefix_cmp p n.prefix) (tie_of (prefix_cmp p n.prefix) (and_parts _ _ e).1))
in_begun (Within p) family is n exact e = from_prefix p n (contained_later p n.prefix is exact ((contains_decides p n.prefix).0 (and_parts _ _ e).1))

-- what stands between the beginning and an NLRI of the run is in the run
in_between : (part : Part) (family : Option Family) → IsPart part → (q r : NlriValue) → IsAddressPrefix q.prefix → IsAddressPrefix r.prefix → nlri_cmp q r ≡ Less → begins (begin_of_part part family) q ≡ true
    → (is_named family_cmp family r.prefix.address.family && in_part part r.prefix) ≡ true → (is_named family_cmp family q.prefix.address.family && in_part part q.prefix) ≡ true
in_between Whole None is q r of_q of_r less b e = refl
in_between Whole (Some V4) is q r of_q of_r less b e = and_from _ _ (v4_before q.prefix.address.family r.prefix.address.family _ _ (up_to q r less) (and_parts _ _ e).0) refl
in_between Whole (Some V6) is q r of_q of_r less b e = and_from _ _ (v6_from q.prefix.address.family _ _ (prefix_from first_of_v6.prefix q b)) refl
in_between (Exact p) family is q r of_q of_r less b e =
    let parts = and_parts (is_named family_cmp family r.prefix.address.family) (in_part (Exact p) r.prefix) e in
    let that : p ≡ r.prefix = prefix_exact p r.prefix (tie_of (prefix_cmp p r.prefix) parts.1) in
    let from : is_gt (prefix_cmp p q.prefix) ≡ false = prefix_from p q b in
    let back : is_gt (prefix_cmp q.prefix p) ≡ false = subst (λ (s : PrefixValue). is_gt (prefix_cmp q.prefix s) ≡ false) (sym that) (up_to q r less) in
    let tie : is_eq (prefix_cmp p q.prefix) ≡ true = both_ways (prefix_cmp p q.prefix) from (sym (ap is_gt (prefix_total.antisymm q.prefix p)) ∙ back) in
    let this : p ≡ q.prefix = prefix_exact p q.prefix (tie_of (prefix_cmp p q.prefix) tie) in
    and_from _ _ (named_like family q.prefix r.prefix (ap (λ (s : PrefixValue). s.address.family) (sym this ∙ that)) parts.0) tie
in_between (Within p) family is q r of_q of_r less b e =
    let parts = and_parts (is_named family_cmp family r.prefix.address.family) (in_part (Within p) r.prefix) e in
    let that : ContainsPrefix p r.prefix = (contains_decides p r.prefix).0 parts.1 in
    let this : ContainsPrefix p q.prefix = contained_between p q.prefix r.prefix is of_q of_r (prefix_from p q b) (up_to q r less) that in
    and_from _ _ (named_like family q.prefix r.prefix (sym this.holds.family ∙ that.holds.family) parts.0) ((contains_decides p q.prefix).1 this)

-- ---- the walk
module _ (run : Run) (is : IsPart run.part) where
  abbrev given : NlriValue × AttrsValue → Bool
  given e = begins (begin_of run) e.0

  abbrev asked : NlriValue × AttrsValue → Bool
  asked e = in_run run e.0

  abbrev Exact_in : Table → Type 0
  Exact_in es = AllByRecursion (λ (e : NlriValue × AttrsValue). IsAddressPrefix e.0.prefix) es

  -- behind a pair that is given and not asked none is asked
  none_behind : (q : NlriValue) → IsAddressPrefix q.prefix → begins (begin_of run) q ≡ true → in_run run q ≡ false → (es : Table) → Below nlri_cmp q es → Exact_in es → filter asked es ≡ []
  none_behind q exact b over [] below all = refl
  none_behind q exact b over (e ∷ es) below all =
      let other : in_run run e.0 ≡ false = false_from_ne_true (in_run run e.0) (λ t. false≢true (sym over ∙ in_between run.part run.family is q e.0 exact all.0 below.0 b t)) in
      cond-false (asked e) (e ∷ filter asked es) (filter asked es) other ∙ none_behind q exact b over es below.1 all.1

  front_is : (es : Table) → Rising nlri_cmp es → Exact_in es → front_of run (filter given es) ≡ filter asked es
  front_is [] s all = refl
  front_is (e ∷ es) s all = elim (bools (given e)) [
    | inl b ↦ ap (front_of run) (cond-true (given e) (e ∷ filter given es) (filter given es) b) ∙ elim (bools (asked e)) [
      | inl t ↦
          cond-true (asked e) (e ∷ front_of run (filter given es)) [] t ∙ ap (λ (l : Table). e ∷ l) (front_is es (rising_tail nlri_cmp e es s) all.1)
          ∙ sym (cond-true (asked e) (e ∷ filter asked es) (filter asked es) t)
      | inr over ↦
          cond-false (asked e) (e ∷ front_of run (filter given es)) [] over ∙ sym (none_behind e.0 all.0 b over es (rising_head nlri_cmp e es s) all.1)
          ∙ sym (cond-false (asked e) (e ∷ filter asked es) (filter asked es) over)
    ]
    | inr before ↦
        let over : asked e ≡ false = false_from_ne_true (asked e) (λ t. true≢false (sym (in_begun run.part run.family is e.0 all.0 t) ∙ before)) in
        ap (front_of run) (cond-false (given e) (e ∷ filter given es) (filter given es) before) ∙ front_is es (rising_tail nlri_cmp e es s) all.1
        ∙ sym (cond-false (asked e) (e ∷ filter asked es) (filter asked es) over)
  ]

  pub walked_run : (es : Table) → Rising nlri_cmp es → AllByRecursion (λ (e : NlriValue × AttrsValue). IsAddressPrefix e.0.prefix) es → front_of run (pairs_from (begin_of run) es) ≡ filter (λ (e : NlriValue × AttrsValue). in_run run e.0) es
  walked_run es s all = ap (front_of run) (begun (begin_of run) es) ∙ front_is es s all
