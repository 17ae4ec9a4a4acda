-- No code, length and value begins another.
use Rattle.std.proofs.Common.{◌≡◌, ℕ, ◌+◌, List, ◌++◌, length, drop, get_or, sym, ap, ◌∙◌, arith}
use Rattle.std.proofs.lemmas.List.{get_or_append_left}
use Rattle.bmp_specs.specs.Coded.{IsCoded}
use Rattle.bmp_specs.specs.Parts.{IsCode}
use Rattle.bmp_specs.specs.Values.{CodedValue}
use Rattle.bmp_specs.proofs.PrefixCode.{same_front}

same_coded : (v w : CodedValue) → v.code ≡ w.code → v.value ≡ w.value → v ≡ w
same_coded v w code value = λ i. record { code = code i; value = value i }

coded_one : (a b x y : List ℕ) (v w : CodedValue) → IsCoded a v → IsCoded b w → a ++ x ≡ b ++ y → (a ≡ b) × (v ≡ w)
coded_one a b x y v w p q e =
    let says : get_or a 1 0 ≡ get_or b 1 0 =
    sym (get_or_append_left a x 0 1 (omega (arith, p.header))) ∙ ap (λ (l : List ℕ). get_or l 1 0) e ∙ get_or_append_left b y 0 1 (omega (arith, q.header)) in
    let lengths : length a ≡ length b = sym p.length_is ∙ ap (λ (n : ℕ). n + 2) says ∙ q.length_is in
    let same : a ≡ b = same_front a b x y lengths e in
    (same, same_coded v w (sym p.code_is ∙ ap (λ (l : List ℕ). get_or l 0 0) same ∙ q.code_is) (sym p.value_is ∙ ap (λ (l : List ℕ). drop 2 l) same ∙ q.value_is))

pub coded_code : IsCode IsCoded
coded_code = record { some = λ v p. omega (arith, p.header); one = coded_one }
