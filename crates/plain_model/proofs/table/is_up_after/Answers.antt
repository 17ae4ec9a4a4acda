use Rattle.std.proofs.Common.{◌≡◌, Bool, true, false, not, inl, inr, refl}
use Rattle.plain_model.proofs.Peers.{keeps_up, keeps_down, keeps_other}
use Rattle.plain_model.proofs.table.is_up_after.Goals as goal

pub returns-then-was : goal.returns-then-was
returns-then-was c = rw c.in-Up.is (keeps_up _ _ _ _ _ (λ t. inl t, λ h. c.if-was.true))

pub returns-else-was : goal.returns-else-was
returns-else-was c = rw c.in-Up.is (keeps_up _ _ _ _ _ (λ t. inr (c.is_same_peer.ensures.0 t), elim [ inl w ↦ let no = c.if-was.false in cc | inr e ↦ c.is_same_peer.ensures.1 e ]))

is_other : (same : Bool) → not same ≡ true → same ≡ true → ⊥
is_other true t s = cc
is_other false t s = cc

isnt_same : (same : Bool) → (same ≡ true → ⊥) → not same ≡ true
isnt_same true other = absurd (other refl)
isnt_same false other = refl

pub returns-then-was-2 : goal.returns-then-was-2
returns-then-was-2 c =
    let same = c.is_same_peer-then-was-2.ensures in
    rw c.in-Down.is (keeps_down _ _ _ _ _ (λ t. (c.if-was-2.true, λ e. is_other _ t (same.1 e)), λ h. isnt_same _ (λ s. h.1 (same.0 s))))

pub returns-else-was-2 : goal.returns-else-was-2
returns-else-was-2 c = rw c.in-Down.is (keeps_down _ _ _ _ _ (λ t. let no = c.if-was-2.false in absurd cc, λ h. h.0))

pub returns-in_default : goal.returns-in_default
returns-in_default c = keeps_other _ _ _ c.in_default.not-Up c.in_default.not-Down
