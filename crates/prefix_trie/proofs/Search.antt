-- The search for the longest prefix that holds an address, look by look.
use Rattle.std.proofs.Common.{◌≡◌, ℕ, ◌<◌, ◌≤◌, get_or, true, false, List, ap, sym, ◌∙◌, subst, arith}
use mathlib.Core.Bool.{false≢true}
use Rattle.std.specs.List.{All, Contains}
use Rattle.std.specs.Map.{keys_of}
use Rattle.std.specs.Ordering.{is_gt}
use Rattle.std.proofs.lemmas.List.{get_or-map}
use Rattle.std.proofs.lemmas.Map.Entries.{length-keys_of}
use Rattle.bmp_specs.specs.declared.wire.Family.{Family}
use Rattle.bmp_specs.specs.Address.{IsAddress, prefix_at}
use Rattle.bmp_specs.specs.Containment.{HoldsAddress}
use Rattle.bmp_specs.specs.Orders.{prefix_cmp}
use Rattle.bmp_specs.specs.Prefix.{width_of}
use Rattle.bmp_specs.specs.Values.{AddressValue, PrefixValue}
use Rattle.prefix_trie.specs.Agreement.{AgreesFor}
use Rattle.prefix_trie.specs.Longest.{IsLongestPair, NoneHolds}
use Rattle.prefix_trie.specs.Looking.{IsLastPair, IsSearching}
use Rattle.prefix_trie.specs.Table.{IsOfFamily}
use Rattle.prefix_trie.proofs.Nearest.{holder_up_to, shares_fewer, holder_shares, holder_shorter, holds_shared}

pub listed_key : {T : Type 0} (P : PrefixValue → Type 0) (es : List (PrefixValue × T)) → All P (keys_of es) → (d : PrefixValue × T) → Contains es d → P d.0
listed_key P es all d (k, here, is) =
    let key : get_or (keys_of es) k d.0 ≡ d.0 = get_or-map (λ e. e.0) es k d d.0 here ∙ ap (λ e. e.0) is in
    subst P key (all k d.0 (omega (arith, here, length-keys_of es)))

module _ {T : Type 0} (a : AddressValue) (address : IsAddress a) (family : Family) (same : a.family ≡ family) (es : List (PrefixValue × T)) (all : All (IsOfFamily family) (keys_of es)) where
  of_family : (d : PrefixValue × T) → Contains es d → IsOfFamily a.family d.0
  of_family d listed = subst (λ f. IsOfFamily f d.0) (sym same) (listed_key (IsOfFamily family) es all d listed)

  pub search_starts : IsSearching a es (width_of a.family)
  search_starts = record {
    within = omega arith;
    most = λ d listed holds. let of = of_family d listed in subst (λ f. d.0.bits ≤ width_of f) of.same of.exact.within;
  }

  module _ (c : ℕ) (at : IsSearching a es c) (place : PrefixValue) (is : place ≡ prefix_at a c) where
    holder_before : (d : PrefixValue × T) → Contains es d → HoldsAddress d.0 a → is_gt (prefix_cmp d.0 place) ≡ false
    holder_before d listed holds = subst (λ p. is_gt (prefix_cmp d.0 p) ≡ false) (sym is) (holder_up_to a address c d.0 (of_family d listed) holds (at.most d listed holds))

    pub search_fails : ((d : PrefixValue × T) → Contains es d → is_gt (prefix_cmp d.0 place) ≡ true) → NoneHolds a es
    search_fails none d listed holds = false≢true (sym (holder_before d listed holds) ∙ none d listed)

    module _ (e : PrefixValue × T) (last : IsLastPair place es e) (s : ℕ) (agreed : AgreesFor e.0.address.octets a.octets s) where
      e_before : is_gt (prefix_cmp e.0 (prefix_at a c)) ≡ false
      e_before = subst (λ p. is_gt (prefix_cmp e.0 p) ≡ false) is last.up_to

      pub search_finds : e.0.bits ≤ s → IsLongestPair a es e
      search_finds shared =
          let of = of_family e last.listed in
          let holds = holds_shared a address c e.0 of e_before s agreed shared in
          record {
            listed = last.listed;
            holds = holds;
            longest = λ d listed h. holder_shorter a address c e.0 of e_before holds d.0 (of_family d listed) h (last.last d listed (holder_before d listed h));
          }

      pub search_nears : s < e.0.bits → s < c
      search_nears less = shares_fewer a address c e.0 (of_family e last.listed) e_before s agreed less

      pub search_goes_on : s < e.0.bits → IsSearching a es s
      search_goes_on less = record {
        within = let near = search_nears less in omega (arith, at.within);
        most = λ d listed h. holder_shares a address c e.0 (of_family e last.listed) e_before s agreed d.0 (of_family d listed) h (at.most d listed h) (last.last d listed (holder_before d listed h));
      }
