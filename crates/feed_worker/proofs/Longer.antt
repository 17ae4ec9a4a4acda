-- A walk that is decided stays so, whatever comes after it.
use Rattle.std.proofs.Common.{◌≡◌, ℕ, ◌+◌, Bool, true, false, List, [], ◌∷◌, ◌++◌, length, eqb, sym, ap, ◌∙◌, subst, append_assoc, arith, length-append}
use Rattle.std.specs.Prelude.{MatchBool}
use Rattle.std.proofs.lemmas.List.{get_or_append_left}
use Rattle.bmp_specs.specs.declared.causes.Why.TheVariants.{Version, Length, Body}
use Rattle.bmp_specs.specs.Frame.{IsInRange}
use Rattle.bmp_specs.specs.Walk.{Verdict, whole, more, terminated, broken, Step, Stops, Walks, termination}
use Rattle.bmp_specs.proofs.FrameCode.{stated-append}

abbrev pub IsDecided : Verdict → Type 0
IsDecided whole = ⊥
IsDecided more = ⊥
IsDecided terminated = Unit {0}
IsDecided (broken why) = Unit {0}

module _ {S M : Type 0} (Is : S → ℕ → List ℕ → M → S → Type 0) where
  stops_longer : (s : S) (bytes tail : List ℕ) (v : Verdict) → Stops Is s bytes v → IsDecided v → Stops Is s (bytes ++ tail) v
  stops_longer s bytes tail whole p d = absurd d
  stops_longer s bytes tail more p d = absurd d
  stops_longer s bytes tail terminated p d = absurd p
  stops_longer s bytes tail (broken Version) p d = record { header = omega (arith, p.header, length-append bytes tail); version = λ e. p.version (sym (get_or_append_left bytes tail 0 0 (omega (arith, p.header))) ∙ e) }
  stops_longer s bytes tail (broken Length) p d = record {
    right = record { header = omega (arith, p.right.header, length-append bytes tail); version = get_or_append_left bytes tail 0 0 (omega (arith, p.right.header)) ∙ p.right.version };
    range = λ r. p.range (subst IsInRange (stated-append bytes tail (omega (arith, p.right.header))) r);
  }
  stops_longer s bytes tail (broken Body) p d = record { frame = p.frame; rest = p.rest ++ tail; kind = p.kind; body = p.body; split = ap (λ (l : List ℕ). l ++ tail) p.split ∙ append_assoc p.frame p.rest tail; is_frame = p.is_frame; nothing = p.nothing }

  pub walks_longer : (s : S) (bytes tail : List ℕ) (ms : List M) (offset : ℕ) (v : Verdict) → Walks Is s bytes ms offset v → IsDecided v → Walks Is s (bytes ++ tail) ms offset v
  walks_longer s bytes tail [] offset v (place, stops) d = (place, stops_longer s bytes tail v stops d)
  walks_longer s bytes tail (m ∷ ms) offset v (step, rest) d = (first, go (eqb step.kind termination) (λ after w. walks_longer step.next step.rest tail ms after v w d) rest)
    where
      first : Step Is s (bytes ++ tail) m
      first = record { frame = step.frame; rest = step.rest ++ tail; kind = step.kind; body = step.body; next = step.next; split = ap (λ (l : List ℕ). l ++ tail) step.split ∙ append_assoc step.frame step.rest tail; is_frame = step.is_frame; means = step.means }

      go : (t : Bool) → ((after : ℕ) → Walks Is step.next step.rest ms after v → Walks Is step.next (step.rest ++ tail) ms after v)
          → MatchBool t ((ms ≡ []) × (offset ≡ length step.frame) × (v ≡ terminated)) ((after : ℕ) × (offset ≡ length step.frame + after) × Walks Is step.next step.rest ms after v)
          → MatchBool t ((ms ≡ []) × (offset ≡ length step.frame) × (v ≡ terminated)) ((after : ℕ) × (offset ≡ length step.frame + after) × Walks Is step.next (step.rest ++ tail) ms after v)
      go true again ends = ends
      go false again (after, place, w) = (after, place, again after w)
