-- Whether a peer is up after one more effect.
use Rattle.std.proofs.Common.{◌≡◌, ◌↔◌, ◌⊎◌, inl, inr, ℕ, Bool, true, [], ◌∷◌, ◌++◌, refl, sym, subst}
use Rattle.bmp_specs.specs.Orders.{key_cmp}
use Rattle.bmp_specs.specs.PeerUp.{Names, IsUp}
use Rattle.bmp_specs.specs.Values.{KeyValue, PeerInfoValue, DownInfoValue, EffectValue, up, down}
use Rattle.bmp_specs.proofs.OrderLaws.{key_total, key_exact, same_or_other}
use Rattle.bmp_specs.proofs.RowLaws.{up_now, up_still, up_from}
use Rattle.plain_model.specs.declared.values.Peer.{Peer}
use Rattle.plain_model.specs.declared.values.Effect.{Effect}
use Rattle.plain_model.specs.declared.values.Effect.TheVariants.{Up, Down, Announce, Withdraw, Mark, Passed}
use Rattle.plain_model.specs.Rows.{KeepsUp}
use Rattle.plain_model.specs.Values.{effect_value}

pub keeps_up : (key k : KeyValue) (info : PeerInfoValue) (was after : Bool) → (after ≡ true) ↔ ((was ≡ true) ⊎ (k ≡ key)) → KeepsUp key (up k info) was after
keeps_up key k info was after is es before = (λ t. to (is.0 t), λ u. is.1 (back (up_from es (up k info) key u)))
  where
    named : k ≡ key → IsUp (es ++ up k info ∷ []) key
    named e = subst (λ (j : KeyValue). IsUp (es ++ up j info ∷ []) key) (sym e) (up_now es key info)

    to : (was ≡ true) ⊎ (k ≡ key) → IsUp (es ++ up k info ∷ []) key
    to (inr e) = named e
    to (inl w) = elim (same_or_other key_cmp key_total key_exact k key) [ inl e ↦ named e | inr other ↦ up_still es (up k info) key other (before.0 w) ]

    back : ((i : PeerInfoValue) × (up k info ≡ up key i)) ⊎ (IsUp es key × ¬ (k ≡ key)) → (was ≡ true) ⊎ (k ≡ key)
    back (inl (i, e)) = inr cc
    back (inr (u, other)) = inl (before.1 u)

pub keeps_down : (key k : KeyValue) (info : DownInfoValue) (was after : Bool) → (after ≡ true) ↔ ((was ≡ true) × ¬ (k ≡ key)) → KeepsUp key (down k info) was after
keeps_down key k info was after is es before = (λ t. let h = is.0 t in up_still es (down k info) key h.1 (before.0 h.0), λ u. is.1 (back (up_from es (down k info) key u)))
  where
    back : ((i : PeerInfoValue) × (down k info ≡ up key i)) ⊎ (IsUp es key × ¬ (k ≡ key)) → (was ≡ true) × ¬ (k ≡ key)
    back (inl (i, e)) = absurd cc
    back (inr (u, other)) = (before.1 u, other)

keeps_unnamed : (key : KeyValue) (e : EffectValue) (was : Bool) → ¬ (Names key e) → KeepsUp key e was was
keeps_unnamed key e was other es before = (λ t. up_still es e key other (before.0 t), λ u. before.1 (back (up_from es e key u)))
  where
    back : ((i : PeerInfoValue) × (e ≡ up key i)) ⊎ (IsUp es key × ¬ (Names key e)) → IsUp es key
    back (inl (i, s)) = absurd (other (subst (Names key) (sym s) refl))
    back (inr (u, _)) = u

pub keeps_other : (key : KeyValue) (e : Effect) (was : Bool) → ((p : Peer) (asn : ℕ) → e ≡ Up p asn → ⊥) → ((p : Peer) (reason : ℕ) → e ≡ Down p reason → ⊥) → KeepsUp key (effect_value e) was was
keeps_other key (Up p asn) was no_up no_down = absurd (no_up p asn refl)
keeps_other key (Down p reason) was no_up no_down = absurd (no_down p reason refl)
keeps_other key (Announce row) was no_up no_down = keeps_unnamed key (effect_value (Announce row)) was (λ n. n)
keeps_other key (Withdraw place) was no_up no_down = keeps_unnamed key (effect_value (Withdraw place)) was (λ n. n)
keeps_other key (Mark p view family) was no_up no_down = keeps_unnamed key (effect_value (Mark p view family)) was (λ n. n)
keeps_other key Passed was no_up no_down = keeps_unnamed key (effect_value Passed) was (λ n. n)
