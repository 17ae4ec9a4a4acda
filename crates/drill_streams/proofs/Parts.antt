-- A message more, and its words.
use Rattle.std.proofs.Common.{◌≡◌, ℕ, zero, suc, ◌+◌, List, [], ◌∷◌, ◌++◌, sym, ap, subst, ◌∙◌, append_assoc, arith}
use Rattle.std.specs.List.{range_with_len}
use Rattle.bmp_specs.specs.Parts.{AreParts}
use Rattle.bmp_specs.proofs.PartsJoined.{parts_snoc}
use Rattle.bmp_writer.specs.Written.{Appends}

pub range_more : (a n : ℕ) → range_with_len a (n + 1) ≡ range_with_len a n ++ (a + n) ∷ []
range_more a zero = ap (λ (k : ℕ). k ∷ []) (omega arith)
range_more a (suc n) =
    let rest : range_with_len (a + 1) (n + 1) ≡ range_with_len (a + 1) n ++ (a + suc n) ∷ [] =
    range_more (a + 1) n ∙ ap (λ (k : ℕ). range_with_len (a + 1) n ++ k ∷ []) (omega arith) in
    let more : suc n + 1 ≡ suc (n + 1) = omega arith in
    ap (λ (k : ℕ). range_with_len a k) more ∙ ap (λ (l : List ℕ). a ∷ l) rest

-- a part more, of the number at this place
pub range_put : (Is : List ℕ → ℕ → Type 0) (n : ℕ) (old out new : List ℕ) → Appends (λ bytes. AreParts Is bytes (range_with_len 0 n)) old out
    → Appends (λ bytes. Is bytes n) out new → Appends (λ bytes. AreParts Is bytes (range_with_len 0 (n + 1))) old new
range_put Is n old out new (piece, joined, are) (part, more, is) = (
  piece ++ part,
  more ∙ ap (λ (l : List ℕ). l ++ part) joined ∙ append_assoc old piece part,
  subst (λ (ns : List ℕ). AreParts Is (piece ++ part) ns) (sym (range_more 0 n ∙ ap (λ (k : ℕ). range_with_len 0 n ++ k ∷ []) (omega arith))) (parts_snoc Is piece part (range_with_len 0 n) n are is),
)
