-- A walk that has come so far, and one message more of it. The bytes of a message are the first ones of the rest, and its
-- body is what stands there after the common header.
use Rattle.std.proofs.Common.{◌≡◌, ℕ, ◌+◌, ◌-◌, ◌≤◌, true, false, List, [], ◌∷◌, ◌++◌, length, take, drop, sym, ◌∙◌, ap, subst, append_assoc, arith, eqb, length-append, length-take}
use Rattle.std.proofs.lemmas.List.{take-append-drop, drop-take, take_rest}
use Rattle.bmp_specs.specs.declared.causes.Why.{Why}
use Rattle.bmp_specs.specs.declared.causes.Why.TheVariants.{Version, Length, Body}
use Rattle.bmp_specs.specs.Frame.{IsFrame}
use Rattle.bmp_specs.specs.Walk.{Verdict, terminated, broken, Stops, Walks, HasWalked, termination}
use Rattle.plain_model.specs.declared.stream.AtFront.TheVariants.{Bad}
use Rattle.plain_model.specs.Front.{IsAtFront}
use Rattle.bmp_specs.proofs.WalkRead.{HasWalked-more, HasWalked-stops, HasWalked-terminates}

-- the bytes before the rest are messages that mean these, and end at this offset
pub record Walking {S M : Type 0} (Is : S → ℕ → List ℕ → M → S → Type 0) (start state : S) (bytes rest : List ℕ) (messages : List M) (offset : ℕ) : Type 0 where
  pub given : List ℕ
  pub split : bytes ≡ given ++ rest
  pub walked : HasWalked Is start state given messages
  pub place : offset ≡ length given

-- a message of this size and kind stands at the front
abbrev pub IsFirst : List ℕ → ℕ → ℕ → Type 0
IsFirst rest size kind = (size ≤ length rest) × IsFrame (take size rest) kind (drop 6 (take size rest))

-- its body
abbrev pub body_in : List ℕ → ℕ → List ℕ
body_in rest size = take (size - 6) (drop 6 rest)

body_is : (rest : List ℕ) (size kind : ℕ) → IsFirst rest size kind → drop 6 (take size rest) ≡ body_in rest size
body_is rest size kind first =
    let whole : size ≡ 6 + (size - 6) = omega (arith, first.1.header, length-take size rest) in
    ap (λ (n : ℕ). drop 6 (take n rest)) whole ∙ drop-take 6 (size - 6) rest

module _ {S M : Type 0} (Is : S → ℕ → List ℕ → M → S → Type 0) where
  means_there : (state next : S) (rest : List ℕ) (size kind : ℕ) (m : M) → IsFirst rest size kind → Is state kind (body_in rest size) m next → Is state kind (drop 6 (take size rest)) m next
  means_there state next rest size kind m first means = subst (λ (b : List ℕ). Is state kind b m next) (sym (body_is rest size kind first)) means

  pub walking_more : (start state next : S) (bytes rest : List ℕ) (ms : List M) (offset size kind : ℕ) (m : M) → Walking Is start state bytes rest ms offset
      → IsFirst rest size kind → Is state kind (body_in rest size) m next → eqb kind termination ≡ false
      → Walking Is start next bytes (take (length rest - size) (drop size rest)) (ms ++ m ∷ []) (offset + size)
  walking_more start state next bytes rest ms offset size kind m w first means on = rw take_rest (record {
    given = w.given ++ take size rest;
    split = w.split ∙ ap (λ (l : List ℕ). w.given ++ l) (sym (take-append-drop size rest)) ∙ sym (append_assoc w.given (take size rest) (drop size rest));
    walked = HasWalked-more Is start state next w.given (take size rest) (drop 6 (take size rest)) ms kind m w.walked first.1 (means_there state next rest size kind m first means) on;
    place = omega (arith, w.place, first.0, length-append w.given (take size rest), length-take size rest);
  })

  pub walking_stops : (start state : S) (bytes rest : List ℕ) (ms : List M) (offset : ℕ) (v : Verdict) → Walking Is start state bytes rest ms offset → Stops Is state rest v → Walks Is start bytes ms offset v
  walking_stops start state bytes rest ms offset v w stops = rw (w.split, w.place) (HasWalked-stops Is start state w.given rest ms v w.walked stops)

  pub stops_bad : (state : S) (rest : List ℕ) (why : Why) → IsAtFront rest (Bad why) → Stops Is state rest (broken why)
  stops_bad state rest Version h = h
  stops_bad state rest Length h = h
  stops_bad state rest Body h = absurd h

  pub walking_breaks : (start state : S) (bytes rest : List ℕ) (ms : List M) (offset size kind : ℕ) → Walking Is start state bytes rest ms offset
      → IsFirst rest size kind → ((m : M) (t : S) → Is state kind (body_in rest size) m t → ⊥) → Walks Is start bytes ms offset (broken Body)
  walking_breaks start state bytes rest ms offset size kind w first nothing = walking_stops start state bytes rest ms offset (broken Body) w (record {
    frame = take size rest;
    rest = drop size rest;
    kind = kind;
    body = drop 6 (take size rest);
    split = sym (take-append-drop size rest);
    is_frame = first.1;
    nothing = λ m t means. nothing m t (subst (λ (b : List ℕ). Is state kind b m t) (body_is rest size kind first) means);
  })

  pub walking_terminates : (start state next : S) (bytes rest : List ℕ) (ms : List M) (offset size kind : ℕ) (m : M) → Walking Is start state bytes rest ms offset
      → IsFirst rest size kind → Is state kind (body_in rest size) m next → eqb kind termination ≡ true
      → Walks Is start bytes (ms ++ m ∷ []) (offset + size) terminated
  walking_terminates start state next bytes rest ms offset size kind m w first means ends =
      let whole = HasWalked-terminates Is start state next w.given (take size rest) (drop size rest) (drop 6 (take size rest)) ms kind m w.walked first.1 (means_there state next rest size kind m first means) ends in
      let bytes_are : bytes ≡ w.given ++ (take size rest ++ drop size rest) = w.split ∙ ap (λ (l : List ℕ). w.given ++ l) (sym (take-append-drop size rest)) in
      let place : offset + size ≡ length w.given + length (take size rest) = omega (arith, w.place, first.0, length-take size rest) in
      rw (bytes_are, place) whole
