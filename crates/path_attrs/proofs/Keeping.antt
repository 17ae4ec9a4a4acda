-- The attributes that are kept, one after another, and the numbers of COMMUNITIES.
use Rattle.std.proofs.Common.{◌≡◌, ◌*◌, ◌%◌, ◌<◌, ℕ, Bool, true, false, cond, List, [], ◌∷◌, ◌++◌, length, take, drop, take-append-drop, map, filter, not, Option, Some, None, refl, sym, ap, subst, ◌∙◌, append_assoc, append-nil, arith, length-append}
use Rattle.byteorder.specs.Endian.{big_number}
use Rattle.bmp_specs.specs.Attribute.{IsAttribute}
use Rattle.bmp_specs.specs.Attributes.{Optional, is_read, kept}
use Rattle.bmp_specs.specs.Number.{IsNumber}
use Rattle.bmp_specs.specs.Parts.{AreParts}
use Rattle.bmp_specs.specs.Sequence.{HasFront}
use Rattle.bmp_specs.specs.Values.{OtherValue}
use Rattle.bmp_specs.proofs.PartsRead.{HasRead, HasRead-more, HasRead-end}
use Rattle.bmp_specs.proofs.PeerHeaderCode.{number_code}
use Rattle.path_attrs.specs.Kept.{kept_of}
use Rattle.path_attrs.proofs.Reading.{front_part}

-- what is kept of the field is what was kept, and what is kept of the rest
pub record Keeps (field : List ℕ) (others : List OtherValue) (rest : List ℕ) : Type 0 where
  pub go : (parts : List OtherValue) → AreParts IsAttribute field parts → (later : List OtherValue) × AreParts IsAttribute rest later × (kept_of parts ≡ others ++ kept_of later)

pub keeps_first : (field : List ℕ) → Keeps field [] field
keeps_first field = record { go = λ parts are. (parts, are, refl) }

kept_cons : (a : OtherValue) (parts : List OtherValue) (b : Bool) → map kept (cond b (a ∷ filter (λ d. not (is_read d)) parts) (filter (λ d. not (is_read d)) parts)) ≡ map kept (cond b (a ∷ []) []) ++ kept_of parts
kept_cons a parts true = refl
kept_cons a parts false = refl

pub keeps_next : (field rest after : List ℕ) (others now : List OtherValue) (a : OtherValue) → Keeps field others rest → HasFront IsAttribute rest a after → now ≡ others ++ kept_of (a ∷ []) → Keeps field now after
keeps_next field rest after others now a k here is = record {
  go = λ parts are.
      let q = k.go parts are in
      let r = front_part rest after a q.0 here q.1 in (
        r.0,
        r.2,
        q.2 ∙ ap (λ (l : List OtherValue). others ++ kept_of l) r.1 ∙ ap (λ (l : List OtherValue). others ++ l) (kept_cons a r.0 (not (is_read a)))
            ∙ sym (append_assoc others (kept_of (a ∷ [])) (kept_of r.0)) ∙ ap (λ (l : List OtherValue). l ++ kept_of r.0) (sym is),
      );
}

pub keeps_end : (field rest : List ℕ) (others : List OtherValue) → Keeps field others rest → ((a : OtherValue) (after : List ℕ) → HasFront IsAttribute rest a after → ⊥)
    → (parts : List OtherValue) → AreParts IsAttribute field parts → others ≡ kept_of parts
keeps_end field rest others k none parts are = let q = k.go parts are in at q.0 q.1 q.2
  where
    at : (later : List OtherValue) → AreParts IsAttribute rest later → kept_of parts ≡ others ++ kept_of later → others ≡ kept_of parts
    at [] e p = sym (p ∙ append-nil others)
    at (a ∷ later) (front, after, split, is, _) p = absurd (none a after (front, split, is))

-- numbers of four bytes fill a multiple of four bytes
pub length-AreNumbers : (bytes values : List ℕ) → AreParts (IsNumber 4) bytes values → length bytes ≡ 4 * length values
length-AreNumbers bytes [] p = ap (λ (l : List ℕ). length l) p
length-AreNumbers bytes (v ∷ values) (front, rest, split, is, p) = omega (arith, ap length split.joined, length-append front rest, is.len, length-AreNumbers rest values p)

pub numbers_more : (bytes rest front after out : List ℕ) (n : ℕ) → HasRead (IsNumber 4) bytes out rest → front ≡ take 4 rest → after ≡ drop 4 rest → length front ≡ 4 → n ≡ big_number 4 front
    → HasRead (IsNumber 4) bytes (out ++ n ∷ []) after
numbers_more bytes rest front after out n read f b len is =
    let split : rest ≡ front ++ after = sym (take-append-drop 4 rest) ∙ ap (λ (l : List ℕ). l ++ drop 4 rest) (sym f) ∙ ap (λ (l : List ℕ). front ++ l) (sym b) in
    HasRead-more (IsNumber 4) (number_code 4 (omega arith)) bytes out rest front after n read split (record { len = len; value_is = sym is })

pub numbers_end : (bytes rest out : List ℕ) → HasRead (IsNumber 4) bytes out rest → length rest % 4 ≡ 0 → length rest < 4 → AreParts (IsNumber 4) bytes out
numbers_end bytes rest out read whole short = HasRead-end (IsNumber 4) bytes out rest read (omega (arith, whole, short))

-- the attribute that was found has no value
pub optional_broken : {V : Type 0} (Is : List ℕ → V → Type 0) (o : Option (List ℕ)) (bytes : List ℕ) → Some bytes ≡ o → ((v : V) → Is bytes v → ⊥) → (v : Option V) → Optional Is o v → ⊥
optional_broken {V} Is o bytes e none v p = at v (subst (λ (q : Option (List ℕ)). Optional Is q v) (sym e) p)
  where
    at : (w : Option V) → Optional Is (Some bytes) w → ⊥
    at None h = h
    at (Some w) h = none w h
