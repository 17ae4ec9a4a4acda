-- What one more effect does to a statistic, and that a peer has one value of a code and a family.
use Rattle.std.proofs.Common.{◌≡◌, ◌↔◌, ◌⊎◌, inl, inr, List, [], ◌∷◌, ◌++◌, refl, sym, subst}
use Rattle.bmp_specs.specs.Latest.{Latest}
use Rattle.bmp_specs.specs.Values.{KeyValue, StatValue, EffectValue, statistic}
use Rattle.bmp_specs.specs.PeerUp.{Names, IsUp}
use Rattle.bmp_specs.specs.Rows.{ReplacesStatistic, HasStatistic}
use Rattle.bmp_specs.proofs.EffectCases.{IsSameKind, replaces_statistic_or_other, named_replaces_statistic}
use Rattle.bmp_specs.proofs.LatestLaws.{no_middle, latest_still, latest_from, latest_one}
use Rattle.bmp_specs.proofs.RowLaws.{up_while}

pub statistic_now : (es : List EffectValue) (key : KeyValue) (stat : StatValue) → IsUp es key → HasStatistic (es ++ statistic key stat ∷ []) key stat
statistic_now es key stat is_up = record { reported = record { before = es; after = []; split = refl; last = tt }; while_up = is_up }

pub statistic_still : (es : List EffectValue) (e : EffectValue) (key : KeyValue) (stat : StatValue) → ¬ (ReplacesStatistic key stat e) → HasStatistic es key stat → HasStatistic (es ++ e ∷ []) key stat
statistic_still es e key stat other h =
    let m = latest_still (ReplacesStatistic key stat) es e (statistic key stat) h.reported other in
    record { reported = m.0; while_up = subst (λ (before : List EffectValue). IsUp before key) (sym m.1) h.while_up }

-- a statistic stood and this effect doesn't replace it, or this effect reports it while its peer is up
pub statistic_from : (es : List EffectValue) (e : EffectValue) (key : KeyValue) (stat : StatValue) → HasStatistic (es ++ e ∷ []) key stat
    → ((e ≡ statistic key stat) × IsUp es key) ⊎ (HasStatistic es key stat × ¬ (ReplacesStatistic key stat e))
statistic_from es e key stat h = go (latest_from (ReplacesStatistic key stat) es e (statistic key stat) h.reported)
  where
    go : ((e ≡ statistic key stat) × (es ≡ h.reported.before)) ⊎ ((l : Latest (ReplacesStatistic key stat) es (statistic key stat)) × (l.before ≡ h.reported.before) × ¬ (ReplacesStatistic key stat e))
        → ((e ≡ statistic key stat) × IsUp es key) ⊎ (HasStatistic es key stat × ¬ (ReplacesStatistic key stat e))
    go (inl (s, t)) = inl (s, subst (λ (before : List EffectValue). IsUp before key) (sym t) h.while_up)
    go (inr (l, t, other)) = inr (record { reported = l; while_up = subst (λ (before : List EffectValue). IsUp before key) (sym t) h.while_up }, other)

pub statistic_one : (es : List EffectValue) (key : KeyValue) (a b : StatValue) → IsSameKind a b → HasStatistic es key a → HasStatistic es key b → a ≡ b
statistic_one es key a b same p q =
    let moved : Latest (ReplacesStatistic key a) es (statistic key b) =
    subst (λ (s : StatValue). Latest (ReplacesStatistic key s) es (statistic key b)) (λ i. record { code = sym same.code i; afi = sym same.afi i; safi = sym same.safi i; value = a.value }) q.reported in
    let e : statistic key a ≡ statistic key b = (latest_one (ReplacesStatistic key a) es (statistic key a) (statistic key b) p.reported moved (refl, refl, refl, refl) (refl, sym same.code, sym same.afi, sym same.safi)).0 in
    cc

-- no effects report no statistic
pub none_statistic : (key : KeyValue) (stat : StatValue) → ¬ (HasStatistic [] key stat)
none_statistic key stat h = no_middle h.reported.before h.reported.after (statistic key stat) h.reported.split

-- a peer with a statistic is up
pub up_by_statistic : (es : List EffectValue) (key : KeyValue) (stat : StatValue) → HasStatistic es key stat → IsUp es key
up_by_statistic es key stat h = up_while (ReplacesStatistic key stat) key (named_replaces_statistic key stat) es (statistic key stat) (λ n. n) h.reported h.while_up

module _ (es : List EffectValue) (e : EffectValue) (key : KeyValue) (stat : StatValue) where
  pub statistic_step : HasStatistic (es ++ e ∷ []) key stat ↔ (((e ≡ statistic key stat) × IsUp es key) ⊎ (HasStatistic es key stat × ¬ (ReplacesStatistic key stat e)))
  statistic_step = (
    statistic_from es e key stat,
    λ c. elim c [ inl now ↦ subst (λ (d : EffectValue). HasStatistic (es ++ d ∷ []) key stat) (sym now.0) (statistic_now es key stat now.1) | inr h ↦ statistic_still es e key stat h.1 h.0 ],
  )

  -- what doesn't end a statistic leaves it there or not
  pub statistic_kept : ¬ (ReplacesStatistic key stat e) → HasStatistic es key stat ↔ HasStatistic (es ++ e ∷ []) key stat
  statistic_kept other = (
    statistic_still es e key stat other,
    λ h. elim (statistic_from es e key stat h) [ inl now ↦ absurd (other (subst (ReplacesStatistic key stat) (sym now.0) (refl, refl, refl, refl))) | inr before ↦ before.0 ],
  )

  -- an Up or a Down of its peer ends it
  pub named_ends_statistic : Names key e → ¬ (HasStatistic (es ++ e ∷ []) key stat)
  named_ends_statistic names h = elim (statistic_from es e key stat h) [ inl now ↦ subst (Names key) now.0 names | inr before ↦ before.1 (named_replaces_statistic key stat e names) ]

  -- a peer that isn't up has no statistic, and no effect makes one
  pub statistic_kept_down : ¬ (IsUp es key) → HasStatistic es key stat ↔ HasStatistic (es ++ e ∷ []) key stat
  statistic_kept_down not_up = (
    λ h. absurd (not_up (up_by_statistic es key stat h)),
    λ h. elim (statistic_from es e key stat h) [ inl now ↦ absurd (not_up now.1) | inr before ↦ before.0 ],
  )

-- a statistic that is reported while its peer isn't up changes none
pub statistic_unheard : (es : List EffectValue) (e : EffectValue) (key : KeyValue) (stat : StatValue) → (ReplacesStatistic key stat e → ¬ (IsUp es key)) → HasStatistic es key stat ↔ HasStatistic (es ++ e ∷ []) key stat
statistic_unheard es e key stat unheard = elim (replaces_statistic_or_other key stat e) [ inl r ↦ statistic_kept_down es e key stat (unheard r) | inr other ↦ statistic_kept es e key stat other ]
