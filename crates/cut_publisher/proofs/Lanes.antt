-- A cut with one lane further stands for the history with its entries.
use Rattle.std.proofs.Common.{◌≡◌, ◌≢◌, ℕ, ◌+◌, ◌*◌, ◌^◌, ◌<◌, ◌≤◌, eqb, cond, Bool, true, false, List, [], ◌∷◌, ◌++◌, length, get_or, set, refl, ap, sym, ◌∙◌, subst, arith, length-append, length-set, eq-eqb, ne_eqb, get_or-set_other, get_or-set_same}
use Rattle.std.proofs.lemmas.List.{append-nil}
use Rattle.std.proofs.lemmas.List.Sums.{sum_by-set}
use Rattle.std.specs.Prelude.{All}
use native.Mathlib.Decide.{ℕ_discrete}
use Rattle.cut_publisher.specs.declared.history.Event.{Event}
use Rattle.cut_publisher.specs.declared.history.Event.TheVariants.{Of, Finish}
use Rattle.cut_publisher.specs.History.{Begins, batch, part, revision}
use Rattle.cut_publisher.specs.Cuts.{IsLane, Stands, total}
use Rattle.cut_publisher.proofs.Prefixes.{prefix_whole}

module _ {E : Type 0} where
  step_part : (b : Bool) (e : E) (xs ys : List E) → cond b (e ∷ (xs ++ ys)) (xs ++ ys) ≡ cond b (e ∷ xs) xs ++ ys
  step_part true e xs ys = refl
  step_part false e xs ys = refl

  pub part-append : (lane : ℕ) (xs ys : List (Event E)) → part lane (xs ++ ys) ≡ part lane xs ++ part lane ys
  part-append lane [] ys = refl
  part-append lane (Of k e ∷ xs) ys = ap (λ r. cond (eqb k lane) (e ∷ r) r) (part-append lane xs ys) ∙ step_part (eqb k lane) e (part lane xs) (part lane ys)
  part-append lane (Finish ∷ xs) ys = part-append lane xs ys

  pub part-batch_same : (lane : ℕ) (es : List E) → part lane (batch lane es) ≡ es
  part-batch_same lane [] = refl
  part-batch_same lane (e ∷ es) = ap (λ b. cond b (e ∷ part lane (batch lane es)) (part lane (batch lane es))) (eq-eqb lane lane refl) ∙ ap (λ r. e ∷ r) (part-batch_same lane es)

  pub part-batch_other : (lane k : ℕ) (es : List E) → lane ≢ k → part k (batch lane es) ≡ []
  part-batch_other lane k [] ne = refl
  part-batch_other lane k (e ∷ es) ne = ap (λ b. cond b (e ∷ part k (batch lane es)) (part k (batch lane es))) (ne_eqb lane k ne) ∙ part-batch_other lane k es ne

  pub revision-append : (xs ys : List (Event E)) → revision (xs ++ ys) ≡ revision xs + revision ys
  revision-append [] ys = omega arith
  revision-append (Of k e ∷ xs) ys = omega (arith, revision-append xs ys)
  revision-append (Finish ∷ xs) ys = revision-append xs ys

  pub revision-batch : (lane : ℕ) (es : List E) → revision (batch lane es) ≡ length es
  revision-batch lane [] = refl
  revision-batch lane (e ∷ es) = omega (arith, revision-batch lane es)

  pub begins_part : (lane : ℕ) (xs ys : List (Event E)) → Begins xs ys → Begins (part lane xs) (part lane ys)
  begins_part lane xs ys p = record { rest = part lane p.rest; is = sym (part-append lane xs p.rest) ∙ ap (part lane) p.is }

  -- a beginning as long as the whole is the whole
  pub begins_whole : (xs ys : List E) → Begins xs ys → length ys ≡ length xs → ys ≡ xs
  begins_whole xs ys p e = prefix_whole xs ys (p.rest, p.is) (omega (arith, e))

module _ {S E : Type 0} (stands : S → List E → Type 0) where
  lane_more : (c c' : List (S × ℕ)) (h : List (Event E)) (lane : ℕ) (v : S) (n : ℕ) (es : List E) → Stands stands c h → lane < length c
      → c' ≡ set c lane (v, n) → stands v (part lane h ++ es) → n ≡ length (part lane h ++ es)
      → (k : ℕ) (d : S × ℕ) → k < length c → Dec (k ≡ lane) → IsLane stands (part k (h ++ batch lane es)) (get_or c' k d)
  lane_more c c' h lane v n es s lt is st count k d lt' (yes e) =
      let same : part k (h ++ batch lane es) ≡ part lane h ++ es = ap (λ j. part j (h ++ batch lane es)) e ∙ part-append lane h (batch lane es) ∙ ap (λ r. part lane h ++ r) (part-batch_same lane es) in
      let at : get_or c' k d ≡ (v, n) = ap (λ (z : ℕ × List (S × ℕ)). get_or z.1 z.0 d) (λ i. (e i, is i)) ∙ get_or-set_same c lane (v, n) d lt in
      subst (λ (z : List E × (S × ℕ)). IsLane stands z.0 z.1) (λ i. (sym same i, sym at i)) (record { value = st; count = count })
  lane_more c c' h lane v n es s lt is st count k d lt' (no ne) =
      let same : part k (h ++ batch lane es) ≡ part k h = part-append k h (batch lane es) ∙ ap (λ r. part k h ++ r) (part-batch_other lane k es (λ e. ne (sym e))) ∙ append-nil (part k h) in
      let at : get_or c' k d ≡ get_or c k d = ap (λ xs. get_or xs k d) is ∙ get_or-set_other c lane k (v, n) d ne in
      subst (λ (z : List E × (S × ℕ)). IsLane stands z.0 z.1) (λ i. (sym same i, sym at i)) (s.lanes k d lt')

  room_more : (c c' : List (S × ℕ)) (lane : ℕ) (v : S) (n : ℕ) → All (λ (x : S × ℕ). x.1 ≤ 2 ^ 57) c → lane < length c → c' ≡ set c lane (v, n) → n ≤ 2 ^ 57
      → (k : ℕ) (d : S × ℕ) → k < length c → Dec (k ≡ lane) → (get_or c' k d).1 ≤ 2 ^ 57
  room_more c c' lane v n room lt is small k d lt' (yes e) =
      let at : get_or c' k d ≡ (v, n) = ap (λ (z : ℕ × List (S × ℕ)). get_or z.1 z.0 d) (λ i. (e i, is i)) ∙ get_or-set_same c lane (v, n) d lt in
      omega (arith, ap (λ (z : S × ℕ). z.1) at, small)
  room_more c c' lane v n room lt is small k d lt' (no ne) =
      let at : get_or c' k d ≡ get_or c k d = ap (λ xs. get_or xs k d) is ∙ get_or-set_other c lane k (v, n) d ne in
      omega (arith, ap (λ (z : S × ℕ). z.1) at, room k d lt')

  pub stands_more : (c c' : List (S × ℕ)) (h : List (Event E)) (lane : ℕ) (v : S) (n : ℕ) (es : List E) → Stands stands c h → lane < length c
      → c' ≡ set c lane (v, n)
      → stands v (part lane h ++ es) → n ≡ length (part lane h ++ es) → n ≤ 2 ^ 57
      → Stands stands c' (h ++ batch lane es)
  stands_more c c' h lane v n es s lt is st count room =
      let len : length c' ≡ length c = ap length is ∙ length-set c lane (v, n) in
      let was = (s.lanes lane (v, n) lt).count in
      let sums = sum_by-set (λ (x : S × ℕ). x.1) c lane (v, n) (v, n) lt in
      let sum : total c' ≡ total (set c lane (v, n)) = ap (λ (z : List (S × ℕ)). total z) is in
      let long = length-append (part lane h) es in
      record {
        lanes = λ k d lt'. lane_more c c' h lane v n es s lt is st count k d (subst (λ (m : ℕ). k < m) len lt') (ℕ_discrete k lane);
        rev = omega (arith, s.rev, sums, sum, was, count, long, revision-append h (batch lane es), revision-batch lane es);
        few = omega (arith, len, s.few);
        room = λ k d lt'. room_more c c' lane v n s.room lt is room k d (subst (λ (m : ℕ). k < m) len lt') (ℕ_discrete k lane);
      }
