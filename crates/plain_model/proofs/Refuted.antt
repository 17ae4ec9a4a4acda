-- What a wrong walk would answer, and that it isn't what the contract asks for.
use Rattle.std.proofs.Common.{◌≡◌, ℕ, Bool, true, List, [], ◌∷◌, get_or, ap, sym, ◌∙◌, arith, eqb}
use Rattle.std.specs.Prelude.{MatchBool}
use Rattle.std.proofs.lemmas.List.{get_or_append_left}
use Rattle.bmp_specs.specs.Walk.{Walks, whole, termination}

where_it_ends : (A B : Type 0) (ends : Bool) → ends ≡ true → MatchBool ends A B → A
where_it_ends A B ends is m = rw is at m

-- A Termination Message and one more message, whatever bodies mean: who goes on after the first takes both.
nothing_is_read_after_a_termination : {S M : Type 0} (Is : S → ℕ → List ℕ → M → S → Type 0) (s : S) (m n : M) → Walks Is s (3 ∷ 0 ∷ 0 ∷ 0 ∷ 6 ∷ 5 ∷ 3 ∷ 0 ∷ 0 ∷ 0 ∷ 6 ∷ 4 ∷ []) (m ∷ n ∷ []) 12 whole → ⊥
nothing_is_read_after_a_termination Is s m n w =
    let first : w.0.kind ≡ 5 = sym w.0.is_frame.kind_is ∙ sym (get_or_append_left w.0.frame w.0.rest 0 5 (omega (arith, w.0.is_frame.header))) ∙ ap (λ l. get_or l 5 0) (sym w.0.split) in
    let none : n ∷ [] ≡ [] = (where_it_ends _ _ (eqb w.0.kind termination) (ap (λ k. eqb k termination) first) w.1).0 in
    absurd cc
