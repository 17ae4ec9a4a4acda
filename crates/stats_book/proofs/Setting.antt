-- A statistic as it is set for a peer that has some: the peer is looked up, changed, and put back in its place.
use Rattle.std.proofs.Common.{◌≡◌, List, [], ◌∷◌, ◌++◌, Option, Some, Result, Ok, Err, sym, ap, ◌∙◌, subst}
use Rattle.std.specs.Prelude.{unwrap_or, OnOk, OnErr}
use Rattle.std.specs.BTreeMap.{insert_entry, is_at}
use Rattle.std.specs.List.Sorted.{IsStrictlySortedBy}
use Rattle.std.specs.Map.{keys_of, lookup, set_value}
use Rattle.std.proofs.lemmas.Map.Steps.{set_value_same}
use Rattle.bmp_specs.specs.Orders.{key_cmp}
use Rattle.bmp_specs.specs.PeerUp.{IsUp}
use Rattle.bmp_specs.specs.Values.{KeyValue, StatValue, EffectValue, statistic}
use Rattle.bmp_specs.proofs.OrderLaws.{key_total, key_exact}
use Rattle.bmp_specs.proofs.PairLookups.{inserted_there}
use Rattle.stats_book.specs.Stats.{Stats, PeerStats, with_value, with_stat}
use Rattle.stats_book.specs.Standing.{StandsForStats}
use Rattle.stats_book.proofs.Standings.{stands_set}

module _ (stats next : Stats) (key : KeyValue) (stat : StatValue) (before after : PeerStats) where
  set_there : IsStrictlySortedBy key_cmp (keys_of stats) → Some before ≡ lookup (is_at (key_cmp key)) stats → after ≡ with_value before stat → next ≡ set_value (is_at (key_cmp key)) stats after → next ≡ with_stat stats key stat
  set_there sorted there is set =
      set ∙ ap (λ (values : PeerStats). set_value (is_at (key_cmp key)) stats values) is
      ∙ sym (inserted_there key_cmp key_total key_exact stats key before (with_value before stat) sorted (sym there))
      ∙ ap (λ (o : Option PeerStats). insert_entry key_cmp stats key (with_value (unwrap_or o []) stat)) there

  pub set_ok : {A E : Type 0} (r : Result A E) → IsStrictlySortedBy key_cmp (keys_of stats) → Some before ≡ lookup (is_at (key_cmp key)) stats → OnOk r (after ≡ with_value before stat)
      → next ≡ set_value (is_at (key_cmp key)) stats after → OnOk r (next ≡ with_stat stats key stat)
  set_ok (Ok x) sorted there is set = set_there sorted there is set
  set_ok (Err e) sorted there is set = tt

  pub set_err : {A E : Type 0} (r : Result A E) → Some before ≡ lookup (is_at (key_cmp key)) stats → OnErr r (after ≡ before) → next ≡ set_value (is_at (key_cmp key)) stats after → OnErr r (next ≡ stats)
  set_err (Ok x) there is set = tt
  set_err (Err e) there is set = set ∙ ap (λ (values : PeerStats). set_value (is_at (key_cmp key)) stats values) is ∙ set_value_same (is_at (key_cmp key)) stats before (sym there)

pub set_stands : {A E : Type 0} (stats next : Stats) (key : KeyValue) (stat : StatValue) (r : Result A E) → OnOk r (next ≡ with_stat stats key stat)
    → OnOk r ((effects : List EffectValue) → IsUp effects key → StandsForStats stats effects → StandsForStats next (effects ++ statistic key stat ∷ []))
set_stands stats next key stat (Ok x) is = λ effects is_up h. subst (λ (s : Stats). StandsForStats s (effects ++ statistic key stat ∷ [])) (sym is) (stands_set stats effects key stat is_up h)
set_stands stats next key stat (Err e) is = tt
