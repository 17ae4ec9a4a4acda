-- A strict and a lenient walk of the same bytes: the strict one's messages are the first of the lenient one's, and that
-- one ends no earlier.
use Rattle.std.proofs.Common.{◌≡◌, ◌⊎◌, ℕ, ◌+◌, ◌≤◌, eqb, Bool, true, false, inl, inr, List, [], ◌∷◌, ◌++◌, length, refl, sym, ap, ◌∙◌, subst, arith}
use Rattle.std.specs.Prelude.{MatchBool}
use Rattle.std.proofs.lemmas.List.{append_cancel_left}
use Rattle.bmp_specs.specs.declared.causes.Why.TheVariants.{Body}
use Rattle.bmp_specs.specs.Conservative.{AreReadAlike, EndsAlike, IsConservative, IsReadAlike}
use Rattle.bmp_specs.specs.Frame.{IsFrame}
use Rattle.bmp_specs.specs.LenientBody.{IsLenientEntry, OfTypeLeniently, lenient}
use Rattle.bmp_specs.specs.LenientState.{LenientState}
use Rattle.bmp_specs.specs.Meaning.{WalksBy}
use Rattle.bmp_specs.specs.MessageBody.{ReadingState, message_type, route_monitoring, statistics_report}
use Rattle.bmp_specs.specs.MessageEffects.{IsMessageEntry, effects_of, strict}
use Rattle.bmp_specs.specs.Session.{effects_in}
use Rattle.bmp_specs.specs.Values.{EffectValue, EntryValue, MessageValue, message, orphan}
use Rattle.bmp_specs.specs.Walk.{BreaksBody, Step, Stops, Verdict, Walks, broken, terminated, termination}
use Rattle.bmp_specs.proofs.FrameCode.{frame_one}
use Rattle.bmp_specs.proofs.HasHead.{lenient_head}
use Rattle.bmp_specs.proofs.LenientAgrees.{Agrees, agrees_first}
use Rattle.bmp_specs.proofs.LenientKeeps.{IsUntoldBody, Kept, of_type_keeps}
use Rattle.bmp_specs.proofs.LenientOne.{lenient_exact}
use Rattle.bmp_specs.proofs.LenientUntold.{ReadsApart, untold_apart, untold_loc_rib, untold_somehow}
use Rattle.bmp_specs.proofs.MessageOne.{strict_exact}
use Rattle.bmp_specs.proofs.OneHead.{same_entry, same_peer}
use Rattle.bmp_specs.proofs.WalkOne.{at_front, front_verdict, stop_verdict}

-- ---- one message
-- both readings of a message, and the states after it
pub record ReadsBoth (before : List EffectValue) (e f : EntryValue) (s : ReadingState) (t : LenientState) : Type 0 where
  pub alike : IsReadAlike before e f
  pub agrees : Agrees (before ++ effects_in e) s t

module _ (before : List EffectValue) (s after : ReadingState) (t : LenientState) (agrees : Agrees before s t) (kind : ℕ) (body : List ℕ) (e : EntryValue) (x : IsMessageEntry s kind body e after) where
  -- the same entry in the lenient reading
  kept_entry : (k : Kept (OfTypeLeniently (message_type kind) t body) before x.value after) → IsLenientEntry t kind body (message x.head (effects_of x.value)) k.next
  kept_entry k = record { effects = effects_of x.value; means = k.means; head = x.head; is_head = x.is_head; entry_is = refl }

  kept_both : (f : EntryValue) (next : LenientState) → IsLenientEntry t kind body f next → Kept (OfTypeLeniently (message_type kind) t body) before x.value after → ReadsBoth before e f after next
  kept_both f next y k =
      let same = lenient_exact t k.next next kind body (message x.head (effects_of x.value)) f (kept_entry k) y in
      let moved = subst (λ (n : LenientState). Agrees (before ++ effects_of x.value) after n) same.1 k.agrees in
      record { alike = inl (x.entry_is ∙ same.0); agrees = subst (λ (d : EntryValue). Agrees (before ++ effects_in d) after next) (sym x.entry_is) moved }

  untold_both : (f : EntryValue) (next : LenientState) → (y : IsLenientEntry t kind body f next) → (o : IsUntoldBody (message_type kind) t body x.value s after) → ReadsApart before s o.key y.effects next → ReadsBoth before e f after next
  untold_both f next y o p =
      let effects : effects_of x.value ≡ orphan ∷ [] = ap (λ (m : MessageValue). effects_of m) o.message.value_is in
      let is : e ≡ message x.head (orphan ∷ []) = x.entry_is ∙ ap (λ (l : List EffectValue). message x.head l) effects in
      let moved = subst (λ (r : ReadingState). Agrees (before ++ orphan ∷ []) r next) (sym o.message.state_is) p.agrees in
      record {
        alike = elim p.speaks [
          | inl same ↦ inl (x.entry_is ∙ same_entry kind body (effects_of x.value) y.effects x.head y.head (effects ∙ sym same) x.is_head y.is_head ∙ sym y.entry_is)
          | inr speaks ↦ inr (record {
            head = x.head;
            other = y.head;
            key = o.key;
            effects = y.effects;
            strictly_is = is;
            leniently_is = y.entry_is;
            same_kind = y.is_head.kind_is ∙ sym x.is_head.kind_is;
            same_size = y.is_head.size_is ∙ sym x.is_head.size_is;
            same_peer = same_peer kind body (effects_of x.value) y.effects x.head y.head x.is_head y.is_head;
            of_routes = subst (λ (k : ℕ). (message_type k ≡ route_monitoring) ⊎ (message_type k ≡ statistics_report)) (sym x.is_head.kind_is) o.message.type_is;
            is_loc_rib = untold_loc_rib t o.key o.message.untold;
            untold = agrees.untold o.key o.message.untold;
            speaks = speaks;
          })
        ];
        agrees = subst (λ (d : EntryValue). Agrees (before ++ effects_in d) after next) (sym is) moved;
      }

  entry_kept : Kept (OfTypeLeniently (message_type kind) t body) before x.value after ⊎ IsUntoldBody (message_type kind) t body x.value s after
  entry_kept = of_type_keeps before s t agrees (message_type kind) body x.value after x.means

  entry_both : (f : EntryValue) (next : LenientState) → IsLenientEntry t kind body f next → ReadsBoth before e f after next
  entry_both f next y = elim entry_kept [
    | inl k ↦ kept_both f next y k
    | inr o ↦ untold_both f next y o (untold_apart before s t agrees body x.value after (message_type kind) o y.effects next y.means)
  ]

  -- the lenient reading doesn't stop at a message that the strict one reads
  entry_somehow : ((f : EntryValue) (next : LenientState) → ¬ (IsLenientEntry t kind body f next)) → ⊥
  entry_somehow none = elim entry_kept [
    | inl k ↦ none (message x.head (effects_of x.value)) k.next (kept_entry k)
    | inr o ↦ untold_somehow before s t agrees body x.value after (message_type kind) o (λ effects next p.
        let has = lenient_head t kind body effects next p in
        none (message has.0 effects) next (record { effects = effects; means = p; head = has.0; is_head = has.1; entry_is = refl }))
  ]

-- ---- all of them
-- two walks from states that agree
pub record AreConservative (before : List EffectValue) (entries : List EntryValue) (offset : ℕ) (verdict : Verdict) (others : List EntryValue) (end : ℕ) (last : Verdict) : Type 0 where
  pub alike : AreReadAlike before entries others
  pub no_earlier : offset ≤ end
  pub ends : ¬ (verdict ≡ broken Body) → EndsAlike entries offset verdict others end last

-- a message stands at the front, so a walk that stops here stops at its body
module _ {S M : Type 0} (Is : S → ℕ → List ℕ → M → S → Type 0) (one : (s t u : S) (k : ℕ) (b : List ℕ) (m n : M) → Is s k b m t → Is s k b n u → (m ≡ n) × (t ≡ u)) where
  stops_at_body : (s : S) (bytes frame rest body : List ℕ) (kind : ℕ) (v : Verdict) → Stops Is s bytes v → bytes ≡ frame ++ rest → IsFrame frame kind body → v ≡ broken Body
  stops_at_body s bytes frame rest body kind v stops split is = sym (stop_verdict Is one s bytes v stops) ∙ front_verdict bytes frame (at_front bytes frame rest body kind split is)

broken_at : (t : LenientState) (bytes : List ℕ) (w : Verdict) → Stops lenient.Means t bytes w → w ≡ broken Body → BreaksBody lenient.Means t bytes
broken_at t bytes w stops e = subst (λ (x : Verdict). Stops lenient.Means t bytes x) e stops

-- the lenient walk stops at no message that the strict one reads
no_stop : (before : List EffectValue) (s : ReadingState) (t : LenientState) (bytes : List ℕ) (e : EntryValue) → Agrees before s t → Step strict.Means s bytes e → BreaksBody lenient.Means t bytes → ⊥
no_stop before s t bytes e agrees a b =
    let same = frame_one a.frame b.frame a.rest b.rest a.kind b.kind a.body b.body a.is_frame b.is_frame (sym a.split ∙ b.split) in
    let nothing = subst (λ (k : ℕ). (f : EntryValue) (n : LenientState) → ¬ (IsLenientEntry t k a.body f n)) (sym same.1)
    (subst (λ (l : List ℕ). (f : EntryValue) (n : LenientState) → ¬ (IsLenientEntry t b.kind l f n)) (sym same.2) b.nothing) in
    entry_somehow before s a.next t agrees a.kind a.body e a.means nothing

-- what follows a message, or that nothing does
abbrev Follows : (Is : ℕ → Verdict → Type 0) → List EntryValue → ℕ → Bool → ℕ → Verdict → Type 0
Follows Is entries here ends offset verdict = MatchBool ends ((entries ≡ []) × (offset ≡ here) × (verdict ≡ terminated)) ((after : ℕ) × (offset ≡ here + after) × Is after verdict)

module _ (before : List EffectValue) (m n : EntryValue) (ms ns : List EntryValue) (o p : ℕ) (v w : Verdict) (here there : ℕ) (long : here ≡ there) (alike : IsReadAlike before m n) where
  later_both : (I J : ℕ → Verdict → Type 0) → ((i j : ℕ) → I i v → J j w → AreConservative (before ++ effects_in m) ms i v ns j w) → (s t : Bool) → s ≡ t
      → Follows I ms here s o v → Follows J ns there t p w → AreConservative before (m ∷ ms) o v (n ∷ ns) p w
  later_both I J again true false e x y = absurd cc
  later_both I J again false true e x y = absurd cc
  later_both I J again true true e x y = record {
    alike = (alike, subst (λ (l : List EntryValue). AreReadAlike (before ++ effects_in m) l ns) (sym x.0) tt);
    no_earlier = omega (arith, x.1, y.1, long);
    ends = λ other. record { as_many = omega (arith, ap length x.0, ap length y.0); offset_is = omega (arith, x.1, y.1, long); verdict_is = y.2 ∙ sym x.2 };
  }
  later_both I J again false false e (i, oi, x) (j, pj, y) =
      let rest = again i j x y in
      record {
        alike = (alike, rest.alike);
        no_earlier = omega (arith, oi, pj, long, rest.no_earlier);
        ends = λ other. let ends = rest.ends other in record { as_many = omega (arith, ends.as_many); offset_is = omega (arith, oi, pj, long, ends.offset_is); verdict_is = ends.verdict_is };
      }

walks_both : (before : List EffectValue) (s : ReadingState) (t : LenientState) (bytes : List ℕ) (es fs : List EntryValue) (o p : ℕ) (v w : Verdict) → Agrees before s t
    → Walks strict.Means s bytes es o v → Walks lenient.Means t bytes fs p w → AreConservative before es o v fs p w
walks_both before s t bytes [] [] o p v w agrees (a, x) (b, y) = record {
  alike = tt;
  no_earlier = omega (arith, a, b);
  ends = λ other. record {
    as_many = refl;
    offset_is = b ∙ sym a;
    verdict_is = sym (stop_verdict lenient.Means lenient_exact t bytes w y) ∙ stop_verdict strict.Means strict_exact s bytes v x;
  };
}
walks_both before s t bytes [] (f ∷ fs) o p v w agrees (a, x) (step, y) = record {
  alike = tt;
  no_earlier = omega (arith, a);
  ends = λ other. absurd (other (stops_at_body strict.Means strict_exact s bytes step.frame step.rest step.body step.kind v x step.split step.is_frame));
}
walks_both before s t bytes (e ∷ es) [] o p v w agrees (step, x) (b, y) =
    let at_body = stops_at_body lenient.Means lenient_exact t bytes step.frame step.rest step.body step.kind w y step.split step.is_frame in
    absurd (no_stop before s t bytes e agrees step (broken_at t bytes w y at_body))
walks_both before s t bytes (e ∷ es) (f ∷ fs) o p v w agrees (a, x) (b, y) =
    let same = frame_one a.frame b.frame a.rest b.rest a.kind b.kind a.body b.body a.is_frame b.is_frame (sym a.split ∙ b.split) in
    let means = subst (λ (k : ℕ). IsLenientEntry t k a.body f b.next) (sym same.1) (subst (λ (l : List ℕ). IsLenientEntry t b.kind l f b.next) (sym same.2) b.means) in
    let both = entry_both before s a.next t agrees a.kind a.body e a.means f b.next means in
    let rest : a.rest ≡ b.rest = append_cancel_left a.frame a.rest b.rest (sym a.split ∙ b.split ∙ ap (λ (l : List ℕ). l ++ b.rest) (sym same.0)) in
    later_both before e f es fs o p v w (length a.frame) (length b.frame) (ap length same.0) both.alike
    (λ i u. Walks strict.Means a.next a.rest es i u) (λ j u. Walks lenient.Means b.next b.rest fs j u)
    (λ i j x y. walks_both (before ++ effects_in e) a.next b.next a.rest es fs i j v w both.agrees x (subst (λ (l : List ℕ). Walks lenient.Means b.next l fs j w) (sym rest) y))
    (eqb a.kind termination) (eqb b.kind termination) (ap (λ (k : ℕ). eqb k termination) same.1) x y

-- a strict and a lenient walk of one stream
pub lenient_conservative : (bytes : List ℕ) (es fs : List EntryValue) (o p : ℕ) (v w : Verdict) → WalksBy strict bytes es o v → WalksBy lenient bytes fs p w → IsConservative es o v fs p w
lenient_conservative bytes es fs o p v w x y =
    let all = walks_both [] strict.start lenient.start bytes es fs o p v w agrees_first x y in
    record { alike = all.alike; no_earlier = all.no_earlier; ends = all.ends }
