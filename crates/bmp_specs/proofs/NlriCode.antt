-- No NLRI item begins another.
use Rattle.std.proofs.Common.{◌≡◌, ℕ, Bool, true, false, List, ◌++◌, take, drop, Some, sym, ap, ◌∙◌, arith, take-append-drop}
use Rattle.std.proofs.lemmas.List.{drop-append-le, take-append-le}
use Rattle.byteorder.specs.Endian.{big_number}
use Rattle.bmp_specs.specs.declared.wire.Family.{Family}
use Rattle.bmp_specs.specs.Parts.{IsCode}
use Rattle.bmp_specs.specs.Nlri.{IsBareNlri, IsIdentifiedNlri, IsNlri, AreNlri}
use Rattle.bmp_specs.specs.Values.{NlriValue}
use Rattle.bmp_specs.proofs.PartsRead.{AreParts-one}
use Rattle.bmp_specs.proofs.PrefixCode.{prefix_code}

same_nlri : (v w : NlriValue) → v.prefix ≡ w.prefix → v.id ≡ w.id → v ≡ w
same_nlri v w prefix id = λ i. record { prefix = prefix i; id = id i }

bare_code : (family : Family) → IsCode (IsBareNlri family)
bare_code family = record {
  some = λ v p. (prefix_code family).some v.prefix p.prefix_is;
  one = λ a b x y v w p q e.
      let same = (prefix_code family).one a b x y v.prefix w.prefix p.prefix_is q.prefix_is e in
      (same.0, same_nlri v w same.1 (p.id_is ∙ sym q.id_is));
}

identified_one : (family : Family) (a b x y : List ℕ) (v w : NlriValue) → IsIdentifiedNlri family a v → IsIdentifiedNlri family b w → a ++ x ≡ b ++ y → (a ≡ b) × (v ≡ w)
identified_one family a b x y v w p q e =
    let after : drop 4 a ++ x ≡ drop 4 b ++ y = sym (drop-append-le 4 a x p.header) ∙ ap (λ (l : List ℕ). drop 4 l) e ∙ drop-append-le 4 b y q.header in
    let prefixes = (prefix_code family).one (drop 4 a) (drop 4 b) x y v.prefix w.prefix p.prefix_is q.prefix_is after in
    let fronts : take 4 a ≡ take 4 b = sym (take-append-le 4 a x p.header) ∙ ap (λ (l : List ℕ). take 4 l) e ∙ take-append-le 4 b y q.header in
    let same : a ≡ b = sym (take-append-drop 4 a) ∙ ap (λ (l : List ℕ). l ++ drop 4 a) fronts ∙ ap (λ (l : List ℕ). take 4 b ++ l) prefixes.0 ∙ take-append-drop 4 b in
    (same, same_nlri v w prefixes.1 (p.id_is ∙ ap (λ (l : List ℕ). Some (big_number 4 l)) same ∙ sym q.id_is))

identified_code : (family : Family) → IsCode (IsIdentifiedNlri family)
identified_code family = record { some = λ v p. omega (arith, p.header); one = identified_one family }

pub nlri_code : (family : Family) (identified : Bool) → IsCode (IsNlri family identified)
nlri_code family false = bare_code family
nlri_code family true = identified_code family

pub AreNlri-one : (family : Family) (identified : Bool) (bytes : List ℕ) (ns ms : List NlriValue) → AreNlri family identified bytes ns → AreNlri family identified bytes ms → ns ≡ ms
AreNlri-one family identified bytes ns ms p q = AreParts-one (IsNlri family identified) (nlri_code family identified) bytes ns ms p q
