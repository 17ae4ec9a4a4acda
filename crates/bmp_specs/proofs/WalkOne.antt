-- A stream is walked in one way.
use Rattle.std.proofs.Common.{◌≡◌, ◌≢◌, ℕ, ◌+◌, ◌<◌, ◌≤◌, Bool, true, false, cond, List, [], ◌∷◌, ◌++◌, length, get_or, refl, sym, ap, ◌∙◌, subst, arith, inl, inr, eqb, ltb, leb, length-append}
use Rattle.std.specs.Prelude.{MatchBool}
use Rattle.std.proofs.lemmas.List.{append_cancel_left, get_or_append_left}
use Rattle.std.proofs.lemmas.Bool.Decides.{nat_tests}
use Rattle.bmp_specs.specs.declared.causes.Why.TheVariants.{Version, Length, Body}
use Rattle.bmp_specs.specs.Frame.{IsFrame, HasHeader, IsInRange, stated}
use Rattle.bmp_specs.specs.Walk.{Verdict, whole, more, terminated, broken, Step, Stops, Walks, termination}
use Rattle.bmp_specs.proofs.FrameCode.{stated-append, frame_one}

-- what the bytes alone say; broken Body stands for a whole message
abbrev pub verdict_at : ℕ → ℕ → ℕ → Verdict
verdict_at len first says = cond (eqb len 0) whole (cond (ltb len 6) more (cond (eqb first 3) (cond (leb 6 says) (cond (leb says 1048576) (cond (ltb len says) more (broken Body)) (broken Length)) (broken Length)) (broken Version)))

at_short : (len first says : ℕ) → 0 < len → len < 6 → verdict_at len first says ≡ more
at_short len first says a b = grind (arith, nat_tests)

at_version : (len first says : ℕ) → 6 ≤ len → first ≢ 3 → verdict_at len first says ≡ broken Version
at_version len first says a b = grind (arith, nat_tests)

at_length : (len first says : ℕ) → 6 ≤ len → first ≡ 3 → ((6 ≤ says) × (says ≤ 1048576) → ⊥) → verdict_at len first says ≡ broken Length
at_length len first says a b c = grind (arith, nat_tests)

at_more : (len first says : ℕ) → 6 ≤ len → first ≡ 3 → 6 ≤ says → says ≤ 1048576 → len < says → verdict_at len first says ≡ more
at_more len first says a b c d e = grind (arith, nat_tests)

at_frame : (len first says : ℕ) → first ≡ 3 → 6 ≤ says → says ≤ 1048576 → says ≤ len → verdict_at len first says ≡ broken Body
at_frame len first says b c d e = grind (arith, nat_tests)

-- what the bytes say
abbrev pub verdict_of : List ℕ → Verdict
verdict_of bytes = verdict_at (length bytes) (get_or bytes 0 0) (stated bytes)

-- a whole message at the front, seen in the bytes
pub record IsAtFront (bytes frame : List ℕ) : Type 0 where
  pub right : HasHeader bytes
  pub range : IsInRange (stated bytes)
  pub says : stated bytes ≡ length frame
  pub here : length frame ≤ length bytes

pub at_front : (bytes frame rest body : List ℕ) (kind : ℕ) → bytes ≡ frame ++ rest → IsFrame frame kind body → IsAtFront bytes frame
at_front bytes frame rest body kind split f =
    let says : stated bytes ≡ length frame = ap (λ (l : List ℕ). stated l) split ∙ stated-append frame rest (omega (arith, f.header)) ∙ f.length_is in
    let here : length frame ≤ length bytes = omega (arith, ap length split, length-append frame rest) in
    let first : get_or bytes 0 0 ≡ 3 = ap (λ (l : List ℕ). get_or l 0 0) split ∙ get_or_append_left frame rest 0 0 (omega (arith, f.header)) ∙ f.version in
    record { right = record { header = omega (arith, f.header); version = first }; range = rw says f.in_range; says = says; here = here }

pub front_verdict : (bytes frame : List ℕ) → IsAtFront bytes frame → verdict_of bytes ≡ broken Body
front_verdict bytes frame f = at_frame (length bytes) (get_or bytes 0 0) (stated bytes) f.right.version f.range.0 f.range.1 (omega (arith, f.says, f.here))

-- a walk reads one list of values, to one place and with one verdict
module _ {S M : Type 0} (Is : S → ℕ → List ℕ → M → S → Type 0) (one : (s t u : S) (k : ℕ) (b : List ℕ) (m n : M) → Is s k b m t → Is s k b n u → (m ≡ n) × (t ≡ u)) where
  pub stop_verdict : (s : S) (bytes : List ℕ) (v : Verdict) → Stops Is s bytes v → verdict_of bytes ≡ v
  stop_verdict s bytes whole p = ap (λ (l : List ℕ). verdict_of l) p
  stop_verdict s bytes more (some, inl short) = at_short (length bytes) (get_or bytes 0 0) (stated bytes) some short
  stop_verdict s bytes more (some, inr p) = at_more (length bytes) (get_or bytes 0 0) (stated bytes) p.0.header p.0.version p.1.0 p.1.1 p.2
  stop_verdict s bytes terminated p = absurd p
  stop_verdict s bytes (broken Version) p = at_version (length bytes) (get_or bytes 0 0) (stated bytes) p.header p.version
  stop_verdict s bytes (broken Length) p = at_length (length bytes) (get_or bytes 0 0) (stated bytes) p.right.header p.right.version p.range
  stop_verdict s bytes (broken Body) p = front_verdict bytes p.frame (at_front bytes p.frame p.rest p.body p.kind p.split p.is_frame)

  stops_one : (s : S) (bytes : List ℕ) (v w : Verdict) → Stops Is s bytes v → Stops Is s bytes w → v ≡ w
  stops_one s bytes v w p q = sym (stop_verdict s bytes v p) ∙ stop_verdict s bytes w q

  no_stop : (s : S) (bytes : List ℕ) (m : M) (v : Verdict) → Step Is s bytes m → Stops Is s bytes v → ⊥
  no_stop s bytes m v step p = at v p (sym (stop_verdict s bytes v p) ∙ front_verdict bytes step.frame (at_front bytes step.frame step.rest step.body step.kind step.split step.is_frame))
    where
      at : (v : Verdict) → Stops Is s bytes v → v ≡ broken Body → ⊥
      at (broken Body) p e =
          let same = frame_one p.frame step.frame p.rest step.rest p.kind step.kind p.body step.body p.is_frame step.is_frame (sym p.split ∙ step.split) in
          p.nothing m step.next (subst (λ (k : ℕ). Is s k p.body m step.next) (sym same.1) (subst (λ (b : List ℕ). Is s step.kind b m step.next) (sym same.2) step.means))
      at (broken Version) p e = cc
      at (broken Length) p e = cc
      at whole p e = cc
      at more p e = cc
      at terminated p e = cc

  -- two steps from one state are one
  record SameStep (s : S) (bytes : List ℕ) (m n : M) (a : Step Is s bytes m) (b : Step Is s bytes n) : Type 0 where
    frame : a.frame ≡ b.frame
    rest : a.rest ≡ b.rest
    kind : a.kind ≡ b.kind
    next : a.next ≡ b.next
    value : m ≡ n

  step_one : (s : S) (bytes : List ℕ) (m n : M) (a : Step Is s bytes m) (b : Step Is s bytes n) → SameStep s bytes m n a b
  step_one s bytes m n a b =
      let same = frame_one a.frame b.frame a.rest b.rest a.kind b.kind a.body b.body a.is_frame b.is_frame (sym a.split ∙ b.split) in
      let means = subst (λ (k : ℕ). Is s k a.body n b.next) (sym same.1) (subst (λ (l : List ℕ). Is s b.kind l n b.next) (sym same.2) b.means) in
      let values = one s a.next b.next a.kind a.body m n a.means means in
      let rest : a.rest ≡ b.rest = append_cancel_left a.frame a.rest b.rest (sym a.split ∙ b.split ∙ ap (λ (f : List ℕ). f ++ b.rest) (sym same.0)) in
      record { frame = same.0; rest = rest; kind = same.1; next = values.1; value = values.0 }

  pub walk_one : (s : S) (bytes : List ℕ) (ms ns : List M) (o p : ℕ) (v w : Verdict) → Walks Is s bytes ms o v → Walks Is s bytes ns p w → (ms ≡ ns) × (o ≡ p) × (v ≡ w)
  walk_one s bytes [] [] o p v w (a, x) (b, y) = (refl, a ∙ sym b, stops_one s bytes v w x y)
  walk_one s bytes [] (n ∷ ns) o p v w (a, x) (step, y) = absurd (no_stop s bytes n v step x)
  walk_one s bytes (m ∷ ms) [] o p v w (step, x) (b, y) = absurd (no_stop s bytes m w step y)
  walk_one s bytes (m ∷ ms) (n ∷ ns) o p v w (a, x) (b, y) =
      let same = step_one s bytes m n a b in
      go (eqb a.kind termination) (eqb b.kind termination) (ap (λ (k : ℕ). eqb k termination) same.kind) (λ i j x y. walk_one a.next a.rest ms ns i j v w x y) x y same
    where
      go : (t u : Bool) → t ≡ u
          → ((i j : ℕ) → Walks Is a.next a.rest ms i v → Walks Is a.next a.rest ns j w → (ms ≡ ns) × (i ≡ j) × (v ≡ w))
          → MatchBool t ((ms ≡ []) × (o ≡ length a.frame) × (v ≡ terminated)) ((after : ℕ) × (o ≡ length a.frame + after) × Walks Is a.next a.rest ms after v)
          → MatchBool u ((ns ≡ []) × (p ≡ length b.frame) × (w ≡ terminated)) ((after : ℕ) × (p ≡ length b.frame + after) × Walks Is b.next b.rest ns after w)
          → SameStep s bytes m n a b → (m ∷ ms ≡ n ∷ ns) × (o ≡ p) × (v ≡ w)
      go true false e again x y same = absurd cc
      go false true e again x y same = absurd cc
      go true true e again x y same = (cc (same.value, x.0, y.0), x.1 ∙ ap length same.frame ∙ sym y.1, x.2 ∙ sym y.2)
      go false false e again (i, oi, x) (j, pj, y) same =
          let moved = subst (λ (t : S). Walks Is t b.rest ns j w) (sym same.next) y in
          let moved2 = subst (λ (r : List ℕ). Walks Is a.next r ns j w) (sym same.rest) moved in
          let others = again i j x moved2 in
          (cc (same.value, others.0), omega (arith, oi, pj, others.1, ap length same.frame), others.2)
