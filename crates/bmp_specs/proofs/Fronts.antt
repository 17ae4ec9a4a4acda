-- A front of bytes whose walk isn't decided has a walk that isn't decided; so nothing is read once a walk is decided.
use Rattle.std.proofs.Common.{◌≡◌, ℕ, ◌+◌, ◌-◌, ◌<◌, ◌≤◌, Bool, true, false, List, [], ◌∷◌, ◌++◌, length, take, drop, eqb, refl, sym, ap, ◌∙◌, subst, inl, inr, arith, length-append, length-take, take-append-drop}
use Rattle.std.specs.Prelude.{MatchBool}
use Rattle.std.proofs.lemmas.Bool.{cases_lt}
use Rattle.std.proofs.lemmas.List.{get_or_append_left, nil_from_length, take-append-le}
use Rattle.std.proofs.Math.Seq.{take-append-add}
use Rattle.bmp_specs.specs.Frame.{IsFrame, HasHeader, IsInRange, NeedsMore, stated}
use Rattle.bmp_specs.specs.Life.{IsUndecided, IsReadNoFurther, most_read}
use Rattle.bmp_specs.specs.Meaning.{Meaning, WalksBy}
use Rattle.bmp_specs.specs.Values.{EntryValue}
use Rattle.bmp_specs.specs.Walk.{Verdict, whole, more, terminated, broken, Step, Stops, Walks, termination}
use Rattle.bmp_specs.proofs.FrameCode.{stated-append}

-- a front with the header says what the whole says
module _ (front rest : List ℕ) (long : 6 ≤ length front) where
  stated_front : stated front ≡ stated (front ++ rest)
  stated_front = sym (stated-append front rest (omega (arith, long)))

  header_front : HasHeader (front ++ rest) → HasHeader front
  header_front h = record { header = long; version = sym (get_or_append_left front rest 0 0 (omega (arith, long))) ∙ h.version }

-- what needs more bytes needs them when it is shorter
needs_front : (front rest : List ℕ) → NeedsMore (front ++ rest) → NeedsMore front
needs_front front rest (inl short) = inl (omega (arith, short, length-append front rest))
needs_front front rest (inr (right, range, cut)) = elim (cases_lt (length front) 6) [
  | inl short ↦ inl short
  | inr long ↦ inr (header_front front rest long right, subst IsInRange (sym (stated_front front rest long)) range, omega (arith, stated_front front rest long, cut, length-append front rest))
]

-- a part of a message needs more
needs_frame : (front rest body : List ℕ) (kind : ℕ) → IsFrame (front ++ rest) kind body → 0 < length rest → NeedsMore front
needs_frame front rest body kind is some = elim (cases_lt (length front) 6) [
  | inl short ↦ inl short
  | inr long ↦ inr (header_front front rest long (record { header = is.header; version = is.version }), subst IsInRange (sym is.length_is ∙ sym (stated_front front rest long)) is.in_range, omega (arith, stated_front front rest long, is.length_is, some, length-append front rest))
]

module _ {S M : Type 0} (Is : S → ℕ → List ℕ → M → S → Type 0) where
  -- some walk isn't decided
  record Waits (s : S) (bytes : List ℕ) : Type 0 where
    messages : List M
    offset : ℕ
    verdict : Verdict
    walk : Walks Is s bytes messages offset verdict
    undecided : IsUndecided verdict

  waits_needs : (s : S) (bytes : List ℕ) → NeedsMore bytes → Waits s bytes
  waits_needs s [] needs = record { messages = []; offset = 0; verdict = whole; walk = (refl, refl); undecided = tt }
  waits_needs s (b ∷ bytes) needs = record { messages = []; offset = 0; verdict = more; walk = (refl, (omega arith, needs)); undecided = tt }

  waits_stop : (s : S) (front rest : List ℕ) (v : Verdict) → Stops Is s (front ++ rest) v → IsUndecided v → Waits s front
  waits_stop s front rest whole stops u =
      let none : front ≡ [] = nil_from_length front (omega (arith, ap length stops, length-append front rest)) in
      subst (λ (l : List ℕ). Waits s l) (sym none) (record { messages = []; offset = 0; verdict = whole; walk = (refl, refl); undecided = tt })
  waits_stop s front rest more stops u = waits_needs s front (needs_front front rest stops.1)
  waits_stop s front rest terminated stops u = absurd u
  waits_stop s front rest (broken why) stops u = absurd u

  waits_front : (s : S) (bytes : List ℕ) (ms : List M) (offset : ℕ) (v : Verdict) → Walks Is s bytes ms offset v → IsUndecided v → (k : ℕ) → Waits s (take k bytes)
  waits_front s bytes [] offset v (none, stops) u k = waits_stop s (take k bytes) (drop k bytes) v (subst (λ (l : List ℕ). Stops Is s l v) (sym (take-append-drop k bytes)) stops) u
  waits_front s bytes (m ∷ ms) offset v (step, tail) u k = go (eqb step.kind termination) refl (λ after w n. waits_front step.next step.rest ms after v w u n) tail
    where
      here : length step.frame ≤ k → take k bytes ≡ step.frame ++ take (k - length step.frame) step.rest
      here long =
          let room : k ≡ length step.frame + (k - length step.frame) = omega (arith, long) in
          ap (λ (l : List ℕ). take k l) step.split ∙ ap (λ (n : ℕ). take n (step.frame ++ step.rest)) room ∙ take-append-add step.frame step.rest (k - length step.frame)

      inside : k < length step.frame → Waits s (take k bytes)
      inside short =
          let same : take k bytes ≡ take k step.frame = ap (λ (l : List ℕ). take k l) step.split ∙ take-append-le k step.frame step.rest (omega (arith, short)) in
          let whole_frame : IsFrame (take k step.frame ++ drop k step.frame) step.kind step.body = subst (λ (l : List ℕ). IsFrame l step.kind step.body) (sym (take-append-drop k step.frame)) step.is_frame in
          let left : 0 < length (drop k step.frame) = omega (arith, short, ap length (take-append-drop k step.frame), length-append (take k step.frame) (drop k step.frame), length-take k step.frame) in
          subst (λ (l : List ℕ). Waits s l) (sym same) (waits_needs s (take k step.frame) (needs_frame (take k step.frame) (drop k step.frame) step.body step.kind whole_frame left))

      beyond : (t : Bool) → eqb step.kind termination ≡ t → t ≡ false → length step.frame ≤ k → Waits step.next (take (k - length step.frame) step.rest) → Waits s (take k bytes)
      beyond t e on long w =
          let rest = take (k - length step.frame) step.rest in
          let first : Step Is s (step.frame ++ rest) m = record { frame = step.frame; rest = rest; kind = step.kind; body = step.body; next = step.next; split = refl; is_frame = step.is_frame; means = step.means } in
          let goes : eqb step.kind termination ≡ false = e ∙ on in
          subst (λ (l : List ℕ). Waits s l) (sym (here long)) (record { messages = m ∷ w.messages; offset = length step.frame + w.offset; verdict = w.verdict; walk = (first, rw goes (w.offset, refl, w.walk)); undecided = w.undecided })

      go : (t : Bool) → eqb step.kind termination ≡ t → ((after : ℕ) → Walks Is step.next step.rest ms after v → (n : ℕ) → Waits step.next (take n step.rest)) → MatchBool t ((ms ≡ []) × (offset ≡ length step.frame) × (v ≡ terminated)) ((after : ℕ) × (offset ≡ length step.frame + after) × Walks Is step.next step.rest ms after v) → Waits s (take k bytes)
      go true e again (none, place, ends) = absurd (subst IsUndecided ends u)
      go false e again (after, place, w) = elim (cases_lt k (length step.frame)) [
        | inl short ↦ inside short
        | inr long ↦ beyond false e refl long (again after w (k - length step.frame))
      ]

-- a read of at most so many bytes, after bytes whose walk isn't decided
pub read_no_further : (meaning : Meaning) (bytes : List ℕ) (ms : List EntryValue) (offset : ℕ) (v : Verdict) → WalksBy meaning bytes ms offset v → IsUndecided v → (piece : List ℕ) → length piece ≤ most_read → IsReadNoFurther meaning (bytes ++ piece)
read_no_further meaning bytes ms offset v w u piece short =
    let n : ℕ = length (bytes ++ piece) - most_read in
    let within : n ≤ length bytes = omega (arith, short, length-append bytes piece) in
    let front = waits_front meaning.Means meaning.start bytes ms offset v w u n in
    record {
      messages = front.messages;
      offset = front.offset;
      verdict = front.verdict;
      walk = subst (λ (l : List ℕ). WalksBy meaning l front.messages front.offset front.verdict) (sym (take-append-le n bytes piece within)) front.walk;
      undecided = front.undecided;
    }
