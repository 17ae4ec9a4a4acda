-- One item of a list of prefixes after another, as the loop reads them.
use Rattle.std.proofs.Common.{◌≡◌, ◌+◌, ◌≤◌, ℕ, Bool, true, false, List, [], ◌∷◌, ◌++◌, length, take, drop, Some, None, refl, sym, ap, subst, ◌∙◌, append_assoc, append-nil, arith, take-append-drop, length-append, length-drop}
use Rattle.std.proofs.lemmas.List.{drop-append-le, drop-take, length-take-le}
use Rattle.std.proofs.Math.Seq.{take-append_seam}
use Rattle.byteorder.specs.Endian.{big_number}
use Rattle.byteorder.specs.Numbers.{big_from-append}
use Rattle.bmp_specs.specs.declared.wire.Family.{Family}
use Rattle.bmp_specs.specs.Nlri.{AreNlri, IsNlri}
use Rattle.bmp_specs.specs.Prefix.{IsPrefix, StandsAtFront}
use Rattle.bmp_specs.specs.Sequence.{HasFront}
use Rattle.bmp_specs.specs.Values.{NlriValue, PrefixValue}
use Rattle.bmp_specs.proofs.NlriCode.{nlri_code}
use Rattle.bmp_specs.proofs.PartsRead.{HasRead, HasRead-front}

front_stands : (family : Family) (input front rest : List ℕ) (p : PrefixValue) → input ≡ front ++ rest → IsPrefix family front p → StandsAtFront family input p (length front)
front_stands family input front rest p split is = record {
  within = omega (arith, ap length split, length-append front rest);
  is = subst (λ (l : List ℕ). IsPrefix family l p) (sym (ap (λ (l : List ℕ). take (length front) l) split ∙ take-append_seam front rest)) is;
}

-- no prefix stands at the front
pub bare_none : (family : Family) (input : List ℕ) → ((size : ℕ) (p : PrefixValue) → StandsAtFront family input p size → ⊥)
    → (n : NlriValue) (rest : List ℕ) → HasFront (IsNlri family false) input n rest → ⊥
bare_none family input none n rest (front, split, is) = none (length front) n.prefix (front_stands family input front rest n.prefix split.joined is.prefix_is)

-- the prefix that was read stands at the front
pub bare_found : (family : Family) (input : List ℕ) (p : PrefixValue) (size : ℕ) → StandsAtFront family input p size → HasFront (IsNlri family false) input (record { prefix = p; id = None }) (drop size input)
bare_found family input p size here = (take size input, record { joined = sym (take-append-drop size input) }, record { prefix_is = here.is; id_is = refl })

-- no prefix stands behind the identifier
pub identified_none : (family : Family) (input after : List ℕ) → after ≡ drop 4 input → ((size : ℕ) (p : PrefixValue) → StandsAtFront family after p size → ⊥)
    → (n : NlriValue) (rest : List ℕ) → HasFront (IsNlri family true) input n rest → ⊥
identified_none family input after others none n rest (front, split, is) =
    let behind : after ≡ drop 4 front ++ rest = others ∙ ap (λ (l : List ℕ). drop 4 l) split.joined ∙ drop-append-le 4 front rest is.header in
    none (length (drop 4 front)) n.prefix (front_stands family after (drop 4 front) rest n.prefix behind is.prefix_is)

-- the identifier and the prefix that were read stand at the front
pub identified_found : (family : Family) (input id after : List ℕ) (p : PrefixValue) (number size : ℕ) → id ≡ take 4 input → after ≡ drop 4 input → length id ≡ 4 → StandsAtFront family after p size
    → number ≡ big_number 4 id → HasFront (IsNlri family true) input (record { prefix = p; id = Some number }) (drop (size + 4) input)
identified_found family input id after p number size first others len here is =
    let front : List ℕ = take (4 + size) input in
    let behind : drop 4 front ≡ take size after = drop-take 4 size input ∙ ap (λ (l : List ℕ). take size l) (sym others) in
    let long : 4 + size ≤ length input = omega (arith, here.within, ap length others, length-drop 4 input, ap length (sym (take-append-drop 4 input)), length-append (take 4 input) (drop 4 input), ap length first, len) in
    let header : 4 ≤ length front = omega (arith, length-take-le (4 + size) input long) in
    let same : big_number 4 id ≡ big_number 4 front =
    sym (big_from-append 4 id after (omega (arith, len))) ∙ ap (λ (l : List ℕ). big_number 4 l) (ap (λ (l : List ℕ). l ++ after) first ∙ ap (λ (l : List ℕ). take 4 input ++ l) others ∙ take-append-drop 4 input ∙ sym (take-append-drop (4 + size) input))
    ∙ big_from-append 4 front (drop (4 + size) input) header in
    let at : 4 + size ≡ size + 4 = omega arith in
    subst (λ (k : ℕ). HasFront (IsNlri family true) input (record { prefix = p; id = Some number }) (drop k input)) at (
      front,
      record { joined = sym (take-append-drop (4 + size) input) },
      record {
        header = header;
        id_is = ap (λ (k : ℕ). Some k) (is ∙ same);
        prefix_is = subst (λ (l : List ℕ). IsPrefix family l p) (sym behind) here.is;
      },
    )

-- The items of these bytes are those that were read, and what was read stands behind what the list had.
pub record ReadsItems (family : Family) (identified : Bool) (bytes rest : List ℕ) (first now : List NlriValue) : Type 0 where
  pub out : List NlriValue
  pub read : HasRead (IsNlri family identified) bytes out rest
  pub is : now ≡ first ++ out

pub items_more : (family : Family) (identified : Bool) (bytes rest after : List ℕ) (first now next : List NlriValue) (n : NlriValue) (size : ℕ) → ReadsItems family identified bytes rest first now
    → HasFront (IsNlri family identified) rest n (drop size rest) → after ≡ drop size rest → next ≡ now ++ n ∷ [] → ReadsItems family identified bytes after first next
items_more family identified bytes rest after first now next n size r here others e = record {
  out = r.out ++ n ∷ [];
  read = HasRead-front (IsNlri family identified) (nlri_code family identified) bytes r.out rest after n r.read (subst (λ (l : List ℕ). HasFront (IsNlri family identified) rest n l) (sym others) here);
  is = e ∙ ap (λ (l : List NlriValue). l ++ n ∷ []) r.is ∙ append_assoc first r.out (n ∷ []);
}

-- once no item stands at what is left, the items of the bytes stand behind what the list had
pub items_end : (family : Family) (identified : Bool) (bytes rest : List ℕ) (first now : List NlriValue) → ReadsItems family identified bytes rest first now
    → ((n : NlriValue) (after : List ℕ) → HasFront (IsNlri family identified) rest n after → ⊥) → (ns : List NlriValue) → AreNlri family identified bytes ns → now ≡ first ++ ns
items_end family identified bytes rest first now r none ns are = let q = r.read.only ns are in at q.0 q.1 q.2
  where
    at : (later : List NlriValue) → ns ≡ r.out ++ later → AreNlri family identified rest later → now ≡ first ++ ns
    at [] e p = r.is ∙ ap (λ (l : List NlriValue). first ++ l) (sym (e ∙ append-nil r.out))
    at (n ∷ later) e (front, after, split, is, _) = absurd (none n after (front, split, is))
