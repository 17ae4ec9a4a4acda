-- The effects that a book of statistics stands for, with one more.
use Rattle.std.proofs.Common.{◌≡◌, inl, inr, ℕ, false, List, [], ◌∷◌, ◌++◌, Option, None, Some, sym, ap, ◌∙◌, subst}
use Rattle.std.specs.Prelude.{◌↔◌, unwrap_or}
use Rattle.std.specs.BTreeMap.{is_at}
use Rattle.std.specs.Map.{lookup}
use mathlib.Core.Logic.Iff.{trans as then_iff}
use Rattle.bmp_specs.specs.Orders.{key_cmp}
use Rattle.bmp_specs.specs.PeerUp.{Names, IsUp}
use Rattle.bmp_specs.specs.Rows.{ReplacesStatistic, HasStatistic}
use Rattle.bmp_specs.specs.Values.{KeyValue, StatValue, EffectValue, statistic}
use Rattle.bmp_specs.proofs.EffectCases.{named_other_statistic}
use Rattle.bmp_specs.proofs.OrderLaws.{key_total, key_exact, same_or_other}
use Rattle.bmp_specs.proofs.PairLookups.{at_other, inserted_here, inserted_elsewhere}
use Rattle.bmp_specs.proofs.StatisticLaws.{none_statistic, statistic_now, statistic_kept, named_ends_statistic, statistic_unheard, statistic_one}
use Rattle.bmp_specs.specs.StatKind.{KindValue, kind_cmp, kind_of}
use Rattle.stats_book.specs.Stats.{Stats, PeerStats, stats_at, value_at, with_value, with_stat}
use Rattle.stats_book.specs.Standing.{StandsForStats}
use Rattle.bmp_specs.proofs.OrderLaws.{kind_total, kind_exact}

-- no effect reports a statistic
pub stands_empty : StandsForStats [] []
stands_empty = record { values = λ key stat. (λ h. absurd cc, λ h. absurd (none_statistic key stat h)) }

-- an effect that is no Up, Down or statistic changes nothing
pub stands_still : (stats : Stats) (es : List EffectValue) (e : EffectValue) → ((key : KeyValue) (stat : StatValue) → ¬ (ReplacesStatistic key stat e)) → StandsForStats stats es → StandsForStats stats (es ++ e ∷ [])
stands_still stats es e other h = record { values = λ key stat. then_iff (h.values key stat) (statistic_kept es e key stat (other key stat)) }

-- kinds and values make a statistic
one_statistic : (a b : StatValue) → kind_of a ≡ kind_of b → a.value ≡ b.value → a ≡ b
one_statistic a b kind value = λ i. record { code = (kind i).code; afi = (kind i).afi; safi = (kind i).safi; value = value i }

-- a statistic of a peer that is up
pub stands_set : (stats : Stats) (es : List EffectValue) (k : KeyValue) (s : StatValue) → IsUp es k → StandsForStats stats es → StandsForStats (with_stat stats k s) (es ++ statistic k s ∷ [])
stands_set stats es k s is_up h = record { values = to_values }
  where
    after : List EffectValue
    after = es ++ statistic k s ∷ []

    here : stats_at (with_stat stats k s) k ≡ with_value (stats_at stats k) s
    here = ap (λ (o : Option PeerStats). unwrap_or o []) (inserted_here key_cmp key_total key_exact stats k (with_value (stats_at stats k) s))

    elsewhere : (key : KeyValue) → ¬ (key ≡ k) → stats_at (with_stat stats k s) key ≡ stats_at stats key
    elsewhere key other = ap (λ (o : Option PeerStats). unwrap_or o []) (inserted_elsewhere key_cmp key_total key_exact stats k (with_value (stats_at stats k) s) key other)

    -- of the peer, the statistic itself
    same_kind : (stat : StatValue) → kind_of stat ≡ kind_of s → (lookup (is_at (kind_cmp (kind_of stat))) (with_value (stats_at stats k) s) ≡ Some stat.value) ↔ HasStatistic after k stat
    same_kind stat kind = (forth, back)
      where
        there : lookup (is_at (kind_cmp (kind_of stat))) (with_value (stats_at stats k) s) ≡ Some s.value
        there = subst (λ (q : KindValue). lookup (is_at (kind_cmp q)) (with_value (stats_at stats k) s) ≡ Some s.value) (sym kind) (inserted_here kind_cmp kind_total kind_exact (stats_at stats k) (kind_of s) s.value)

        forth : lookup (is_at (kind_cmp (kind_of stat))) (with_value (stats_at stats k) s) ≡ Some stat.value → HasStatistic after k stat
        forth is = let value : s.value ≡ stat.value = (let e : Some s.value ≡ Some stat.value = sym there ∙ is in cc) in subst (λ (t : StatValue). HasStatistic after k t) (one_statistic s stat (sym kind) value) (statistic_now es k s is_up)

        back : HasStatistic after k stat → lookup (is_at (kind_cmp (kind_of stat))) (with_value (stats_at stats k) s) ≡ Some stat.value
        back has =
            let one : stat ≡ s = statistic_one after k stat s (record { code = ap (λ (q : KindValue). q.code) kind; afi = ap (λ (q : KindValue). q.afi) kind; safi = ap (λ (q : KindValue). q.safi) kind }) has (statistic_now es k s is_up) in
            there ∙ ap (λ (t : StatValue). Some t.value) (sym one)

    at_key : (stat : StatValue) → (lookup (is_at (kind_cmp (kind_of stat))) (with_value (stats_at stats k) s) ≡ Some stat.value) ↔ HasStatistic after k stat
    at_key stat = elim (same_or_other kind_cmp kind_total kind_exact (kind_of stat) (kind_of s)) [
      | inl kind ↦ same_kind stat kind
      | inr other ↦ subst (λ (o : Option ℕ). (o ≡ Some stat.value) ↔ HasStatistic after k stat) (sym (inserted_elsewhere kind_cmp kind_total kind_exact (stats_at stats k) (kind_of s) s.value (kind_of stat) other))
          (then_iff (h.values k stat) (statistic_kept es (statistic k s) k stat (λ r. other (λ i. record { code = sym r.1 i; afi = sym r.2 i; safi = sym r.3 i }))))
    ]

    to_values : (key : KeyValue) (stat : StatValue) → (value_at (with_stat stats k s) key (kind_of stat) ≡ Some stat.value) ↔ HasStatistic after key stat
    to_values key stat = elim (same_or_other key_cmp key_total key_exact key k) [
      | inl same ↦ subst (λ (j : KeyValue). (value_at (with_stat stats k s) j (kind_of stat) ≡ Some stat.value) ↔ HasStatistic after j stat) (sym same)
          (subst (λ (l : PeerStats). (lookup (is_at (kind_cmp (kind_of stat))) l ≡ Some stat.value) ↔ HasStatistic after k stat) (sym here) (at_key stat))
      | inr other ↦ subst (λ (l : PeerStats). (lookup (is_at (kind_cmp (kind_of stat))) l ≡ Some stat.value) ↔ HasStatistic after key stat) (sym (elsewhere key other))
          (then_iff (h.values key stat) (statistic_kept es (statistic k s) key stat (λ r. other (sym r.0))))
    ]

-- the peer's statistics go, and all others stay
pub stands_forgotten : (stats next : Stats) (es : List EffectValue) (e : EffectValue) (k : KeyValue) → Names k e → lookup (is_at (key_cmp k)) next ≡ None
    → ((key : KeyValue) → is_at (key_cmp k) key ≡ false → lookup (is_at (key_cmp key)) next ≡ lookup (is_at (key_cmp key)) stats) → StandsForStats stats es → StandsForStats next (es ++ e ∷ [])
stands_forgotten stats next es e k names gone stays h = record { values = to_values }
  where
    after : List EffectValue
    after = es ++ e ∷ []

    to_values : (key : KeyValue) (stat : StatValue) → (value_at next key (kind_of stat) ≡ Some stat.value) ↔ HasStatistic after key stat
    to_values key stat = elim (same_or_other key_cmp key_total key_exact key k) [
      | inl same ↦ subst (λ (j : KeyValue). (value_at next j (kind_of stat) ≡ Some stat.value) ↔ HasStatistic after j stat) (sym same)
          (subst (λ (o : Option PeerStats). (lookup (is_at (kind_cmp (kind_of stat))) (unwrap_or o []) ≡ Some stat.value) ↔ HasStatistic after k stat) (sym gone) (λ is. absurd cc, λ has. absurd (named_ends_statistic es e k stat names has)))
      | inr other ↦ subst (λ (o : Option PeerStats). (lookup (is_at (kind_cmp (kind_of stat))) (unwrap_or o []) ≡ Some stat.value) ↔ HasStatistic after key stat) (sym (stays key (at_other key_cmp key_total key_exact k key (λ s. other (sym s)))))
          (then_iff (h.values key stat) (statistic_kept es e key stat (named_other_statistic k key stat e names other)))
    ]

-- a statistic of a peer that isn't up changes nothing
pub stands_unheard : (stats : Stats) (es : List EffectValue) (k : KeyValue) (s : StatValue) → ¬ (IsUp es k) → StandsForStats stats es → StandsForStats stats (es ++ statistic k s ∷ [])
stands_unheard stats es k s not_up h = record { values = λ key stat. then_iff (h.values key stat) (statistic_unheard es (statistic k s) key stat (λ r is_up. not_up (subst (IsUp es) (sym r.0) is_up))) }
