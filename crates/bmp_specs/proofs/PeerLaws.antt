-- What one more effect does to a peer and to its complete tables, and what effects that don't touch these leave as they are.
use Rattle.std.proofs.Common.{◌≡◌, ◌↔◌, ◌⊎◌, inl, inr, List, [], ◌∷◌, ◌++◌, refl, sym, subst, arith}
use Rattle.std.specs.List.{Contains, AllByRecursion}
use Rattle.std.proofs.lemmas.List.Elements.{All-from_recursion, Contains-append_right}
use Rattle.bmp_specs.specs.declared.wire.Family.{Family}
use Rattle.bmp_specs.specs.declared.peers.View.{View}
use Rattle.bmp_specs.specs.Complete.{IsComplete}
use Rattle.bmp_specs.specs.Latest.{Latest}
use Rattle.bmp_specs.specs.PeerUp.{Names, IsNamed, IsUpWith, IsDownWith, IsUp}
use Rattle.bmp_specs.specs.Values.{KeyValue, PeerInfoValue, DownInfoValue, EffectValue, up, down, mark}
use Rattle.bmp_specs.proofs.CompleteLaws.{complete_now, complete_still, complete_from}
use Rattle.bmp_specs.proofs.LatestLaws.{no_middle, latest_now, latest_step, latest_kept, latest_one, kept_by_all}
use Rattle.bmp_specs.proofs.RowLaws.{up_now, up_or_down, peer_cases}

-- ---- no effects
pub none_up : (key : KeyValue) (info : PeerInfoValue) → ¬ (IsUpWith [] key info)
none_up key info l = no_middle l.before l.after (up key info) l.split

pub none_down : (key : KeyValue) (info : DownInfoValue) → ¬ (IsDownWith [] key info)
none_down key info l = no_middle l.before l.after (down key info) l.split

pub none_complete : (key : KeyValue) (view : View) (family : Family) → ¬ (IsComplete [] key view family)
none_complete key view family c = none_up key c.info c.up

-- ---- peers that are named
-- an effect of the list that names the peer
named_there : (es : List EffectValue) (key : KeyValue) (x : EffectValue) → Latest (Names key) es x → Names key x → IsNamed es key
named_there es key x l names =
    let here : Contains (l.before ++ x ∷ l.after) x = Contains-append_right l.before (x ∷ l.after) x (0, omega arith, refl) in
    let there : Contains es x = subst (λ (xs : List EffectValue). Contains xs x) (sym l.split) here in
    (there.0, x, there.1, there.2, names)

pub named_up : (es : List EffectValue) (key : KeyValue) (info : PeerInfoValue) → IsUpWith es key info → IsNamed es key
named_up es key info l = named_there es key (up key info) l refl

pub named_down : (es : List EffectValue) (key : KeyValue) (info : DownInfoValue) → IsDownWith es key info → IsNamed es key
named_down es key info l = named_there es key (down key info) l refl

none_named_there : (es : List EffectValue) (key : KeyValue) → AllByRecursion (λ e. ¬ (Names key e)) es → ¬ (IsNamed es key)
none_named_there es key none n = subst (λ (e : EffectValue). ¬ (Names key e)) n.3 (All-from_recursion (λ e. ¬ (Names key e)) es none n.0 n.1 n.2) n.4

pub none_named : (key : KeyValue) → ¬ (IsNamed [] key)
none_named key = none_named_there [] key tt

-- a peer that is named is up or down
pub named_cases : (es : List EffectValue) (key : KeyValue) → IsNamed es key → IsUp es key ⊎ ((info : DownInfoValue) × IsDownWith es key info)
named_cases es key n = elim (peer_cases es key) [
  | inl u ↦ inl u
  | inr h ↦ elim h [ inl d ↦ inr d | inr none ↦ absurd (none_named_there es key none n) ]
]

-- and one that is up or down is named
pub named_by_state : (es : List EffectValue) (key : KeyValue) → IsUp es key ⊎ ((info : DownInfoValue) × IsDownWith es key info) → IsNamed es key
named_by_state es key (inl u) = named_up es key u.0 u.1
named_by_state es key (inr d) = named_down es key d.0 d.1

-- a peer that is down has one info
pub down_one : (es : List EffectValue) (key : KeyValue) (a b : DownInfoValue) → IsDownWith es key a → IsDownWith es key b → a ≡ b
down_one es key a b p q = let e : down key a ≡ down key b = (latest_one (Names key) es (down key a) (down key b) p q refl refl).0 in cc

-- ---- one more effect
module _ (es : List EffectValue) (key : KeyValue) where
  pub up_with_now : (info : PeerInfoValue) → IsUpWith (es ++ up key info ∷ []) key info
  up_with_now info = latest_now (Names key) es (up key info)

  pub down_with_now : (info : DownInfoValue) → IsDownWith (es ++ down key info ∷ []) key info
  down_with_now info = latest_now (Names key) es (down key info)

  -- a peer that went down isn't up, and one that came up isn't down
  pub down_ends_up : (info : DownInfoValue) → ¬ (IsUp (es ++ down key info ∷ []) key)
  down_ends_up info u = up_or_down (es ++ down key info ∷ []) key info u (down_with_now info)

  pub up_ends_down : (info : PeerInfoValue) (was : DownInfoValue) → ¬ (IsDownWith (es ++ up key info ∷ []) key was)
  up_ends_down info was d = up_or_down (es ++ up key info ∷ []) key was (up_now es key info) d

  module _ (e : EffectValue) where
    pub up_with_step : (info : PeerInfoValue) → IsUpWith (es ++ e ∷ []) key info ↔ ((e ≡ up key info) ⊎ (IsUpWith es key info × ¬ (Names key e)))
    up_with_step info = latest_step (Names key) es e (up key info)

    pub down_with_step : (info : DownInfoValue) → IsDownWith (es ++ e ∷ []) key info ↔ ((e ≡ down key info) ⊎ (IsDownWith es key info × ¬ (Names key e)))
    down_with_step info = latest_step (Names key) es e (down key info)

    pub complete_step : (view : View) (family : Family) → IsComplete (es ++ e ∷ []) key view family ↔ (((e ≡ mark key view family) × IsUp es key) ⊎ (IsComplete es key view family × ¬ (Names key e)))
    complete_step view family = (
      complete_from es e key view family,
      λ c. elim c [ inl m ↦ subst (λ (d : EffectValue). IsComplete (es ++ d ∷ []) key view family) (sym m.0) (complete_now es key view family m.1) | inr h ↦ complete_still es e key view family h.1 h.0 ],
    )

    -- an Up or a Down of the peer ends its complete tables
    pub named_ends_complete : (view : View) (family : Family) → Names key e → ¬ (IsComplete (es ++ e ∷ []) key view family)
    named_ends_complete view family names c = elim (complete_from es e key view family c) [ inl m ↦ subst (Names key) m.0 names | inr h ↦ h.1 names ]

-- ---- an effect that doesn't name the peer
module _ (es : List EffectValue) (e : EffectValue) (key : KeyValue) (other : ¬ (Names key e)) where
  pub up_kept : (info : PeerInfoValue) → IsUpWith es key info ↔ IsUpWith (es ++ e ∷ []) key info
  up_kept info = latest_kept (Names key) es e (up key info) refl other

  pub down_kept : (info : DownInfoValue) → IsDownWith es key info ↔ IsDownWith (es ++ e ∷ []) key info
  down_kept info = latest_kept (Names key) es e (down key info) refl other

  pub is_up_kept : IsUp es key ↔ IsUp (es ++ e ∷ []) key
  is_up_kept = (λ u. (u.0, (up_kept u.0).0 u.1), λ u. (u.0, (up_kept u.0).1 u.1))

  pub named_kept : IsNamed es key ↔ IsNamed (es ++ e ∷ []) key
  named_kept = (
    λ n. named_by_state (es ++ e ∷ []) key (elim (named_cases es key n) [ inl u ↦ inl (is_up_kept.0 u) | inr d ↦ inr (d.0, (down_kept d.0).0 d.1) ]),
    λ n. named_by_state es key (elim (named_cases (es ++ e ∷ []) key n) [ inl u ↦ inl (is_up_kept.1 u) | inr d ↦ inr (d.0, (down_kept d.0).1 d.1) ]),
  )

  -- a table that it doesn't mark, or whose peer isn't up
  pub complete_kept : (view : View) (family : Family) → ¬ ((e ≡ mark key view family) × IsUp es key) → IsComplete es key view family ↔ IsComplete (es ++ e ∷ []) key view family
  complete_kept view family unmarked = (
    complete_still es e key view family other,
    λ c. elim (complete_from es e key view family c) [ inl h ↦ absurd (unmarked h) | inr h ↦ h.0 ],
  )

-- ---- effects none of which names the peer
module _ (es more : List EffectValue) (key : KeyValue) (others : AllByRecursion (λ e. ¬ (Names key e)) more) where
  pub named_kept_by_all : IsNamed es key ↔ IsNamed (es ++ more) key
  named_kept_by_all = kept_by_all (λ e. ¬ (Names key e)) (λ xs. IsNamed xs key) (λ xs x other. named_kept xs x key other) es more others
