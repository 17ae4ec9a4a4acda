-- No prefix on the wire begins another.
use Rattle.std.proofs.Common.{◌≡◌, ℕ, List, [], ◌∷◌, ◌++◌, length, take, refl, sym, ap, ◌∙◌}
use Rattle.std.proofs.lemmas.List.{take_at}
use Rattle.bmp_specs.specs.declared.wire.Family.{Family}
use Rattle.bmp_specs.specs.Parts.{IsCode}
use Rattle.bmp_specs.specs.Prefix.{IsPrefix, bytes_for, prefix_of}
use Rattle.bmp_specs.specs.Values.{PrefixValue}

-- of two equal lists the fronts of one length are one
pub same_front : (a b x y : List ℕ) → length a ≡ length b → a ++ x ≡ b ++ y → a ≡ b
same_front a b x y len e = sym (take_at a x (length a) refl) ∙ ap (λ (l : List ℕ). take (length a) l) e ∙ take_at b y (length a) (sym len)

prefix_one : (family : Family) (a b x y : List ℕ) (v w : PrefixValue) → IsPrefix family a v → IsPrefix family b w → a ++ x ≡ b ++ y → (a ≡ b) × (v ≡ w)
prefix_one family [] b x y v w p q e = absurd p
prefix_one family (m ∷ sent) [] x y v w p q e = absurd q
prefix_one family (m ∷ sent) (n ∷ other) x y v w p q e =
    let bits : m ≡ n = cc in
    let tails : sent ++ x ≡ other ++ y = cc in
    let len : length sent ≡ length other = p.whole ∙ ap (λ (k : ℕ). bytes_for k) bits ∙ sym q.whole in
    let same : sent ≡ other = same_front sent other x y len tails in
    (cc, p.value ∙ ap (λ (k : ℕ). prefix_of family k sent) bits ∙ ap (λ (l : List ℕ). prefix_of family n l) same ∙ sym q.value)

pub prefix_code : (family : Family) → IsCode (IsPrefix family)
prefix_code family = record { some = λ v p. p; one = prefix_one family }
