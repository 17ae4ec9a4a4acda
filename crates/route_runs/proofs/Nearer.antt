-- The search for the longest prefix that holds an address, look by look.
use Rattle.std.proofs.Common.{◌≡◌, ℕ, zero, suc, ◌<◌, ◌≤◌, Bool, true, false, not, cond, inl, inr, List, [], ◌∷◌, Option, None, Some, refl, ap, sym, ◌∙◌, subst, arith}
use Rattle.std.specs.declared.cmp.Ordering.{Ordering}
use Rattle.std.specs.declared.cmp.Ordering.TheVariants.{Less, Equal, Greater}
use Rattle.std.specs.BTreeMap.{is_at}
use Rattle.std.specs.List.{Contains}
use Rattle.std.specs.Option.{is_some, option_cmp, option_map}
use Rattle.std.specs.Ordering.{is_gt, is_lt, is_eq, nat_cmp, ordering_then, ordering_reverse}
use Rattle.std.proofs.lemmas.Bool.Decides.{nat_tests}
use Rattle.std.proofs.lemmas.Map.Views.{Contains-from_lookup, tells_apart}
use Rattle.bmp_specs.specs.declared.wire.Family.{Family}
use Rattle.bmp_specs.specs.declared.wire.Family.TheVariants.{V4, V6}
use Rattle.bmp_specs.specs.Address.{IsAddress, IsAddressPrefix, prefix_at}
use Rattle.bmp_specs.specs.Containment.{HoldsAddress}
use Rattle.bmp_specs.specs.Orders.{nlri_cmp, prefix_cmp}
use Rattle.bmp_specs.specs.Prefix.{width_of}
use Rattle.bmp_specs.specs.Values.{AddressValue, NlriValue, PrefixValue}
use Rattle.bmp_specs.proofs.OrderLaws.{nlri_total, nlri_exact, prefix_total}
use Rattle.prefix_trie.specs.Agreement.{AgreesFor}
use Rattle.prefix_trie.specs.Table.{IsOfFamily}
use Rattle.prefix_trie.proofs.Nearest.{holder_up_to, shares_fewer, holder_shares, holder_shorter, holds_shared}
use Rattle.route_runs.specs.Longest.{HasPrefix, IsLongestPrefix, NoneHolds, IsLastPrefix, IsLastUpTo, IsSearching, row_prefix}
use Rattle.route_runs.specs.Nlri.{AreNlri}
use Rattle.route_runs.specs.Override.{value_at}
use Rattle.route_runs.specs.Places.{turned, is_from, IsFirst, IsFirstPair}
use Rattle.route_runs.proofs.Searching.{bools, not_both, itself}

-- ---- a pair that is listed
has_more : {X : Type 0} (b : Bool) (v : X) (o : Option X) → is_some o ≡ true → is_some (cond b (Some v) o) ≡ true
has_more true v o h = refl
has_more false v o h = h

pub listed_has : {X : Type 0} (es : List (NlriValue × X)) (e : NlriValue × X) → Contains es e → is_some (value_at nlri_cmp e.0 es) ≡ true
listed_has [] e (k, lt, is) = absurd (omega (arith, lt))
listed_has (f ∷ es) e (zero, lt, is) = ap (λ (f : NlriValue × _). is_some (cond (is_eq (nlri_cmp e.0 f.0)) (Some f.1) (value_at nlri_cmp e.0 es))) is ∙ ap (λ o. is_some (cond (is_eq o) (Some e.1) (value_at nlri_cmp e.0 es))) (itself nlri_cmp nlri_total nlri_exact e.0)
listed_has (f ∷ es) e (suc k, lt, is) = has_more (is_at (nlri_cmp e.0) f.0) f.1 (value_at nlri_cmp e.0 es) (listed_has es e (k, omega (arith, lt), is))

pub has_listed : {X : Type 0} (es : List (NlriValue × X)) (q : NlriValue) (x : X) → value_at nlri_cmp q es ≡ Some x → Contains es (q, x)
has_listed es q x e = Contains-from_lookup (λ a b t. tells_apart nlri_exact a b t) q x es e

-- ---- the last row up to a place has the last prefix up to it
not_above : (o p : Ordering) → not (is_lt (ordering_then o p)) ≡ true → is_gt (ordering_reverse o) ≡ false
not_above Less p e = absurd cc
not_above Equal p e = refl
not_above Greater p e = refl

up_to_last : (o p : Ordering) → is_gt (ordering_reverse o) ≡ false → is_lt p ≡ false → not (is_lt (ordering_then o p)) ≡ true
up_to_last Less p e l = absurd cc
up_to_last Equal p e l = ap not l
up_to_last Greater p e l = refl

first_alone : (o p : Ordering) → is_lt (ordering_then o p) ≡ false → is_lt o ≡ false
first_alone Less p e = absurd cc
first_alone Equal p e = refl
first_alone Greater p e = refl

id_not_past : (id : Option ℕ) → ((i : ℕ) → id ≡ Some i → i < 4294967296) → is_lt (option_cmp nat_cmp (Some 4294967295) id) ≡ false
id_not_past None h = refl
id_not_past (Some i) h = let l = h i refl in grind (arith, nat_tests, l)

module _ {A : Type 0} (es : List (NlriValue × A)) (all : AreNlri es) (place : PrefixValue) where
  abbrev pub last_of : NlriValue
  last_of = record { prefix = place; id = Some 4294967295 }

  row_up_to : (d : NlriValue × A) → Contains es d → is_gt (prefix_cmp d.0.prefix place) ≡ false → is_from (turned nlri_cmp) last_of d.0 ≡ true
  row_up_to d listed before = up_to_last (prefix_cmp place d.0.prefix) (option_cmp nat_cmp (Some 4294967295) d.0.id) (ap is_gt (sym (prefix_total.antisymm d.0.prefix place)) ∙ before) (id_not_past d.0.id (all d.0 (listed_has es d listed)).id)

  no_last : IsFirst (turned nlri_cmp) (is_from (turned nlri_cmp) last_of) (λ q. value_at nlri_cmp q es) None → (q : PrefixValue) → HasPrefix es q → is_gt (prefix_cmp q place) ≡ true
  no_last f q h = elim (bools (is_gt (prefix_cmp q place))) [
    | inl after ↦ after
    | inr before ↦
        let b = ap (λ p. is_gt (prefix_cmp p place)) h.same ∙ before in
        absurd (not_both (is_some (value_at nlri_cmp h.row.0 es)) (listed_has es h.row h.listed) (ap is_some (f h.row.0 (row_up_to h.row h.listed b))))
  ]

  last_up_to : (e : NlriValue × A) → IsFirstPair (turned nlri_cmp) (is_from (turned nlri_cmp) last_of) (λ q. value_at nlri_cmp q es) e → IsLastPrefix es place e.0.prefix
  last_up_to e f = record {
    listed = record { row = e; listed = has_listed es e.0 e.1 f.there; same = refl };
    up_to = ap is_gt (prefix_total.antisymm e.0.prefix place) ∙ not_above (prefix_cmp place e.0.prefix) _ f.beyond;
    last = λ q h before.
        let b = ap (λ p. is_gt (prefix_cmp p place)) h.same ∙ before in
        ap (λ p. is_lt (prefix_cmp e.0.prefix p)) (sym h.same) ∙ first_alone (prefix_cmp e.0.prefix h.row.0.prefix) _ (f.first h.row.0 (row_up_to h.row h.listed b) (listed_has es h.row h.listed));
  }

  pub last_or_none : (r : Option (NlriValue × A)) → IsFirst (turned nlri_cmp) (is_from (turned nlri_cmp) last_of) (λ q. value_at nlri_cmp q es) r → IsLastUpTo es place (option_map row_prefix r)
  last_or_none None f = no_last f
  last_or_none (Some e) f = last_up_to e f

-- ---- the search
lt_not : (o : Ordering) → is_lt o ≡ false → o ≡ Less → ⊥
lt_not Less a e = absurd cc
lt_not Equal a e = absurd cc
lt_not Greater a e = absurd cc

gt_not : (o : Ordering) → is_gt o ≡ false → o ≡ Greater → ⊥
gt_not Less a e = absurd cc
gt_not Equal a e = absurd cc
gt_not Greater a e = absurd cc

module _ {A : Type 0} (a : AddressValue) (address : IsAddress a) (es : List (NlriValue × A)) (all : AreNlri es) where
  exact_of : (q : PrefixValue) → HasPrefix es q → IsAddressPrefix q
  exact_of q h = subst IsAddressPrefix h.same (all h.row.0 (listed_has es h.row h.listed)).prefix

  of_family : (q : PrefixValue) → HasPrefix es q → HoldsAddress q a → IsOfFamily a.family q
  of_family q h holds = record { same = holds.family; exact = exact_of q h }

  pub search_starts : IsSearching a es (width_of a.family)
  search_starts = record {
    within = omega arith;
    most = λ q h holds. subst (λ f. q.bits ≤ width_of f) holds.family (exact_of q h).within;
  }

  module _ (c : ℕ) (at : IsSearching a es c) (place : PrefixValue) (is : place ≡ prefix_at a c) where
    holder_before : (q : PrefixValue) → HasPrefix es q → HoldsAddress q a → is_gt (prefix_cmp q place) ≡ false
    holder_before q h holds = subst (λ p. is_gt (prefix_cmp q p) ≡ false) (sym is) (holder_up_to a address c q (of_family q h holds) holds (at.most q h holds))

    pub search_fails : ((q : PrefixValue) → HasPrefix es q → is_gt (prefix_cmp q place) ≡ true) → NoneHolds a es
    search_fails none q h holds = not_both (is_gt (prefix_cmp q place)) (none q h) (holder_before q h holds)

    module _ (p : PrefixValue) (last : IsLastPrefix es place p) where
      place_family : place.address.family ≡ a.family
      place_family = ap (λ (p : PrefixValue). p.address.family) is

      -- the last one up to the place is of another family, so no prefix of this family is before the place
      pub search_leaves : (p.address.family ≡ a.family → ⊥) → NoneHolds a es
      search_leaves other q h holds =
          other (by_family (lt_not (prefix_cmp p q) (last.last q h (holder_before q h holds))))
        where
          by_family : (prefix_cmp p q ≡ Less → ⊥) → p.address.family ≡ a.family
          by_family l = ending p.address.family a.family refl refl
            where
              ending : (f g : Family) → p.address.family ≡ f → a.family ≡ g → p.address.family ≡ a.family
              ending V4 V4 x y = x ∙ sym y
              ending V6 V6 x y = x ∙ sym y
              ending V4 V6 x y = absurd (l (let e : q.address.family ≡ V6 = holds.family ∙ y in rw (x, e) refl))
              ending V6 V4 x y = absurd (gt_not (prefix_cmp p place) last.up_to (let e : place.address.family ≡ V4 = place_family ∙ y in rw (x, e) refl))

      module _ (s : ℕ) (same : p.address.family ≡ a.family) (agreed : AgreesFor p.address.octets a.octets s) where
        own : IsOfFamily a.family p
        own = record { same = same; exact = exact_of p last.listed }

        before : is_gt (prefix_cmp p (prefix_at a c)) ≡ false
        before = subst (λ q. is_gt (prefix_cmp p q) ≡ false) is last.up_to

        pub search_finds : p.bits ≤ s → IsLongestPrefix a es p
        search_finds shared =
            let holds = holds_shared a address c p own before s agreed shared in
            record {
              listed = last.listed;
              holds = holds;
              longest = λ q h held. holder_shorter a address c p own before holds q (of_family q h held) held (last.last q h (holder_before q h held));
            }

        pub search_nears : s < p.bits → s < c
        search_nears less = shares_fewer a address c p own before s agreed less

        pub search_goes_on : s < p.bits → IsSearching a es s
        search_goes_on less = record {
          within = let near = search_nears less in let w = at.within in omega (arith, near, w);
          most = λ q h held. holder_shares a address c p own before s agreed q (of_family q h held) held (at.most q h held) (last.last q h (holder_before q h held));
        }
