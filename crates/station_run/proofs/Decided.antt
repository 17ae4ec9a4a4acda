-- A walk that is decided stays the same, whatever follows; so a stream of which nothing is held back is taken whole.
use Rattle.std.proofs.Common.{◌≡◌, ℕ, ◌+◌, ◌<◌, Bool, true, false, List, [], ◌∷◌, ◌++◌, length, eqb, sym, ap, ◌∙◌, subst, arith, append-nil, append_assoc, length-append}
use Rattle.std.specs.Prelude.{MatchBool}
use Rattle.std.proofs.lemmas.List.{get_or_append_left}
use Rattle.bmp_specs.specs.declared.causes.Cause.{Cause}
use Rattle.bmp_specs.specs.declared.causes.Cause.TheVariants.{Ended, Terminated, CutShort, Broken, ReadFault, Full}
use Rattle.bmp_specs.specs.declared.causes.Why.TheVariants.{Version, Length, Body}
use Rattle.bmp_specs.specs.Frame.{IsInRange}
use Rattle.bmp_specs.specs.Life.{LastRead, gave_none, failed, most_taken, IsCause}
use Rattle.bmp_specs.specs.Meaning.{Meaning, WalksBy}
use Rattle.bmp_specs.specs.Values.{EntryValue}
use Rattle.bmp_specs.specs.Walk.{Verdict, whole, more, terminated, broken, Step, Stops, Walks, termination}
use Rattle.bmp_specs.proofs.FrameCode.{stated-append}

-- the walk doesn't go on, whatever comes
abbrev IsDecided : Verdict → Type 0
IsDecided whole = ⊥
IsDecided more = ⊥
IsDecided terminated = Unit {0}
IsDecided (broken why) = Unit {0}

module _ {S M : Type 0} (Is : S → ℕ → List ℕ → M → S → Type 0) (after : List ℕ) where
  stops_on : (s : S) (bytes : List ℕ) (v : Verdict) → Stops Is s bytes v → IsDecided v → Stops Is s (bytes ++ after) v
  stops_on s bytes whole stops d = absurd d
  stops_on s bytes more stops d = absurd d
  stops_on s bytes terminated stops d = absurd stops
  stops_on s bytes (broken Version) stops d = record {
    header = omega (arith, stops.header, length-append bytes after);
    version = λ e. stops.version (sym (get_or_append_left bytes after 0 0 (omega (arith, stops.header))) ∙ e);
  }
  stops_on s bytes (broken Length) stops d = record {
    right = record {
      header = omega (arith, stops.right.header, length-append bytes after);
      version = get_or_append_left bytes after 0 0 (omega (arith, stops.right.header)) ∙ stops.right.version;
    };
    range = λ r. stops.range (subst IsInRange (stated-append bytes after (omega (arith, stops.right.header))) r);
  }
  stops_on s bytes (broken Body) stops d = record {
    frame = stops.frame;
    rest = stops.rest ++ after;
    kind = stops.kind;
    body = stops.body;
    split = ap (λ (l : List ℕ). l ++ after) stops.split ∙ append_assoc stops.frame stops.rest after;
    is_frame = stops.is_frame;
    nothing = stops.nothing;
  }

  walks_on : (s : S) (bytes : List ℕ) (ms : List M) (offset : ℕ) (v : Verdict) → Walks Is s bytes ms offset v → IsDecided v → Walks Is s (bytes ++ after) ms offset v
  walks_on s bytes [] offset v (none, stops) d = (none, stops_on s bytes v stops d)
  walks_on s bytes (m ∷ ms) offset v (step, tail) d =
      let first : Step Is s (bytes ++ after) m = record {
        frame = step.frame;
        rest = step.rest ++ after;
        kind = step.kind;
        body = step.body;
        next = step.next;
        split = ap (λ (l : List ℕ). l ++ after) step.split ∙ append_assoc step.frame step.rest after;
        is_frame = step.is_frame;
        means = step.means;
      } in
      (first, go (eqb step.kind termination) (λ n w. walks_on step.next step.rest ms n v w d) tail)
    where
      go : (t : Bool) → ((n : ℕ) → Walks Is step.next step.rest ms n v → Walks Is step.next (step.rest ++ after) ms n v) → MatchBool t ((ms ≡ []) × (offset ≡ length step.frame) × (v ≡ terminated)) ((n : ℕ) × (offset ≡ length step.frame + n) × Walks Is step.next step.rest ms n v)
          → MatchBool t ((ms ≡ []) × (offset ≡ length step.frame) × (v ≡ terminated)) ((n : ℕ) × (offset ≡ length step.frame + n) × Walks Is step.next (step.rest ++ after) ms n v)
      go true again ends = ends
      go false again (n, place, w) = (n, place, again n w)

-- A stream of fewer than 2^46 bytes is taken whole where no read fails and nothing is left at its end.
pub walks_whole : (meaning : Meaning) (stream bytes left : List ℕ) (messages : List EntryValue) (last : LastRead) (offset : ℕ) (v : Verdict) (cause : Cause) → stream ≡ bytes ++ left → length stream < most_taken → (last ≡ gave_none → left ≡ [])
    → (last ≡ failed → ⊥) → WalksBy meaning bytes messages offset v → IsCause (length bytes) last v offset cause → WalksBy meaning stream messages offset v
walks_whole meaning stream bytes left messages last offset v cause split short end calm w because = at cause because
  where
    on : IsDecided v → WalksBy meaning stream messages offset v
    on d = subst (λ (l : List ℕ). WalksBy meaning l messages offset v) (sym split) (walks_on meaning.Means left meaning.start bytes messages offset v w d)

    ended : last ≡ gave_none → WalksBy meaning stream messages offset v
    ended e = subst (λ (l : List ℕ). WalksBy meaning l messages offset v) (sym (split ∙ ap (λ (l : List ℕ). bytes ++ l) (end e) ∙ append-nil bytes)) w

    at : (cause : Cause) → IsCause (length bytes) last v offset cause → WalksBy meaning stream messages offset v
    at Terminated c = on (subst (λ (x : Verdict). IsDecided x) (sym c.fits) tt)
    at (Broken place why) c = on (subst (λ (x : Verdict). IsDecided x) (sym c.fits.0) tt)
    at Full c = absurd (omega (arith, c.fits, short, ap length split, length-append bytes left))
    at Ended c = ended c.fits.0
    at (CutShort place) c = ended c.fits.0
    at (ReadFault place) c = absurd (calm c.fits.0)
