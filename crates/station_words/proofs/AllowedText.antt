-- Prefixes joined by commas.
use Rattle.std.proofs.Common.{◌≡◌, ◌≢◌, ℕ, ◌+◌, ◌<◌, ◌≤◌, ◌==◌, Bool, true, false, cond, nat_lt, take, drop, length-take, take-append-drop, List, [], ◌∷◌, ◌++◌, Option, None, Some, All, length, get_or, refl, sym, ap, subst, ◌∙◌, arith, lit<, ne_eqb, append_assoc, length-append}
use Rattle.std.specs.Prelude.{IfSome}
use Rattle.std.specs.Char.{digit_value}
use Rattle.std.specs.List.{AllZip, join_with_byte, position, position_or_len}
use Rattle.std.proofs.lemmas.Bool.{eqb-true, ltb-false}
use Rattle.std.proofs.lemmas.List.Sums.{fails_before_first}
use Rattle.std.proofs.lemmas.List.{drop_more, get_or-take}
use Rattle.std.proofs.lemmas.List.Quantifiers.{position-Some}
use Rattle.std.proofs.lemmas.List.Elements.{All-append, All-cons, All-from_get_or, All-nil}
use Rattle.std.proofs.lemmas.List.Splits.{join_with_byte-slice_split, length-slice_split, slice_split_at, slice_split_none}
use Rattle.std.proofs.lemmas.Slice.Zip.{AllZip-long}
use Rattle.bmp_specs.specs.declared.wire.Family.{Family}
use Rattle.bmp_specs.specs.declared.wire.Family.TheVariants.{V4, V6}
use Rattle.bmp_specs.specs.AddressText.{IsTextIn}
use Rattle.bmp_specs.specs.NumberText.{IsNumberText, most_number}
use Rattle.bmp_specs.specs.PrefixText.{IsPrefixText, slash}
use Rattle.bmp_specs.specs.Values.{PrefixValue}
use Rattle.ip_prefix.proofs.Decimals.{all_digits}
use Rattle.ip_prefix.proofs.OneValue.{prefix_one}
use Rattle.ip_prefix.proofs.V4Text.{Lacks, v4_lacks, v4_to}
use Rattle.ip_prefix.proofs.V6Text.{v6_lacks}
use Rattle.station_words.specs.AllowedTexts.{texts_of}
use Rattle.station_words.specs.ServeWords.{IsAllowed, comma}

-- a byte that no prefix has
module _ (b : ℕ) (no_digit : 16 ≤ digit_value b) (no_dot : b ≢ 46) (no_colon : b ≢ 58) (no_slash : b ≢ slash) (low : b < 48) where
  lacks_in : (family : Family) (text octets : List ℕ) → IsTextIn family text octets → Lacks b text
  lacks_in V4 text octets (numbers, is, _) = v4_lacks b (omega (arith, no_digit)) no_dot text numbers (v4_to text numbers is)
  lacks_in V6 text octets (groups, is, _) = v6_lacks b no_digit no_colon text groups is

  number_lacks : (text : List ℕ) (n : ℕ) → IsNumberText text n → Lacks b text
  number_lacks text n is = All-from_get_or (λ x. x ≢ b) text 0 (λ k h same. let at = all_digits most_number text n (lit< tt) is k h in omega (arith, at.0, same, low))

  prefix_lacks : (text : List ℕ) (p : PrefixValue) → IsPrefixText text p → Lacks b text
  prefix_lacks text p is =
      let behind = All-cons (λ x. x ≢ b) slash is.back (λ e. no_slash (sym e)) (number_lacks is.back is.bits is.is_number) in
      subst (Lacks b) (sym is.spelled) (All-append (λ x. x ≢ b) is.front (slash ∷ is.back) (lacks_in is.address.family is.front is.address.octets is.is_address) behind)

  module _ (no_comma : b ≢ comma) where
    texts_lack : (texts : List (List ℕ)) (allowed : List PrefixValue) → AllZip IsPrefixText texts allowed → Lacks b (join_with_byte comma texts)
    texts_lack [] allowed each = All-nil (λ x. x ≢ b)
    texts_lack (t ∷ ts) [] each = absurd each
    texts_lack (t ∷ []) (p ∷ ps) each = prefix_lacks t p each.0
    texts_lack (t ∷ u ∷ ts) (p ∷ ps) each =
        let behind = All-cons (λ x. x ≢ b) comma (join_with_byte comma (u ∷ ts)) (λ e. no_comma (sym e)) (texts_lack (u ∷ ts) ps each.1) in
        All-append (λ x. x ≢ b) t (comma ∷ join_with_byte comma (u ∷ ts)) (prefix_lacks t p each.0) behind

    pub allowed_lacks : (value : List ℕ) (allowed : List PrefixValue) → IsAllowed value allowed → Lacks b value
    allowed_lacks value allowed is = subst (Lacks b) (sym is.joined) (texts_lack is.texts allowed is.each)

-- ---- the texts of a value are found between its commas
abbrev is_comma : ℕ → Bool
is_comma b = b == comma

free : (text : List ℕ) (p : PrefixValue) → IsPrefixText text p → All (λ b. is_comma b ≡ false) text
free text p is = λ k d h. ne_eqb (get_or text k d) comma (prefix_lacks comma (omega arith) (λ e. omega (arith, e)) (λ e. omega (arith, e)) (λ e. omega (arith, e)) (omega arith) text p is k d h)

split_joined : (texts : List (List ℕ)) (allowed : List PrefixValue) → 0 < length texts → AllZip IsPrefixText texts allowed → texts_of (join_with_byte comma texts) ≡ texts
split_joined [] allowed some each = absurd (omega (arith, some))
split_joined (t ∷ ts) [] some each = absurd each
split_joined (t ∷ []) (p ∷ ps) some each = slice_split_none is_comma t (free t p each.0)
split_joined (t ∷ u ∷ ts) (p ∷ ps) some each =
    slice_split_at is_comma t comma (join_with_byte comma (u ∷ ts)) (free t p each.0) refl ∙ ap (λ (l : List (List ℕ)). t ∷ l) (split_joined (u ∷ ts) ps (omega arith) each.1)

allowed_texts : (value : List ℕ) (allowed : List PrefixValue) → IsAllowed value allowed → AllZip IsPrefixText (texts_of value) allowed
allowed_texts value allowed is =
    let long = AllZip-long IsPrefixText is.texts allowed is.each in
    let found : texts_of value ≡ is.texts = ap texts_of is.joined ∙ split_joined is.texts allowed (omega (arith, long, is.some)) is.each in
    subst (λ (l : List (List ℕ)). AllZip IsPrefixText l allowed) (sym found) is.each

is_allowed : (value : List ℕ) (allowed : List PrefixValue) → AllZip IsPrefixText (texts_of value) allowed → length allowed ≤ 32 → IsAllowed value allowed
is_allowed value allowed each few = record {
  texts = texts_of value;
  joined = sym (join_with_byte-slice_split comma value);
  each = each;
  some = omega (arith, AllZip-long IsPrefixText (texts_of value) allowed each, length-slice_split is_comma value);
  few = few;
}

-- a text is cut at its first comma
pub cut_comma : (text : List ℕ) (at : ℕ) → position (λ b. b == comma) text ≡ Some at → texts_of text ≡ take at text ∷ texts_of (drop (at + 1) text)
cut_comma text at found =
    let place = position-Some is_comma text at 0 found in
    let mark : get_or text at 0 ≡ comma = eqb-true (get_or text at 0) comma place.1 in
    let tail : drop at text ≡ get_or text at 0 ∷ drop (at + 1) text = drop_more text at 0 place.0 in
    let none : All (λ b. is_comma b ≡ false) (take at text) = All-from_get_or (λ b. is_comma b ≡ false) (take at text) 0 (λ k h. fits k (omega (arith, h, length-take at text)) place.2) in
    let whole : text ≡ take at text ++ (comma ∷ drop (at + 1) text) = sym (take-append-drop at text) ∙ ap (λ (l : List ℕ). take at text ++ l) (tail ∙ ap (λ (b : ℕ). b ∷ drop (at + 1) text) mark) in
    ap texts_of whole ∙ slice_split_at is_comma (take at text) comma (drop (at + 1) text) none refl
  where
    fits : (k : ℕ) → k < at → ((j : ℕ) → j < at → is_comma (get_or text j 0) ≡ false) → is_comma (get_or (take at text) k 0) ≡ false
    fits k h before = ap (λ (b : ℕ). is_comma b) (get_or-take at text k 0 h) ∙ before k h

pub no_comma_in : (text : List ℕ) → position (λ b. b == comma) text ≡ None → texts_of text ≡ text ∷ []
no_comma_in text none = slice_split_none is_comma text (λ k d h. go k d h (nat_lt (position_or_len is_comma text) (length text)) refl none)
  where
    go : (k d : ℕ) → k < length text → (t : Bool) → nat_lt (position_or_len is_comma text) (length text) ≡ t → cond t (Some (position_or_len is_comma text)) None ≡ None → is_comma (get_or text k d) ≡ false
    go k d h true e none = absurd cc
    go k d h false e none = fails_before_first is_comma text k d (omega (arith, h, ltb-false (position_or_len is_comma text) (length text) e))

-- ---- one after another

-- the first texts are these prefixes, and those of the rest are left
pub record AreRead (value left : List ℕ) (allowed : List PrefixValue) : Type 0 where
  pub done : List (List ℕ)
  pub split : texts_of value ≡ done ++ texts_of left
  pub each : AllZip IsPrefixText done allowed

pub none_read : (value : List ℕ) → AreRead value value []
none_read value = record { done = []; split = refl; each = tt }

zip_more : (ts : List (List ℕ)) (ps : List PrefixValue) (t : List ℕ) (p : PrefixValue) → AllZip IsPrefixText ts ps → IsPrefixText t p → AllZip IsPrefixText (ts ++ t ∷ []) (ps ++ p ∷ [])
zip_more [] [] t p each is = (is, tt)
zip_more [] (q ∷ ps) t p each is = absurd each
zip_more (s ∷ ts) [] t p each is = absurd each
zip_more (s ∷ ts) (q ∷ ps) t p each is = (each.0, zip_more ts ps t p each.1 is)

pub read_more : (value left front back : List ℕ) (allowed : List PrefixValue) (p : PrefixValue) → AreRead value left allowed → texts_of left ≡ front ∷ texts_of back → IsPrefixText front p → AreRead value back (allowed ++ p ∷ [])
read_more value left front back allowed p are cut is = record {
  done = are.done ++ front ∷ [];
  split = are.split ∙ ap (λ (l : List (List ℕ)). are.done ++ l) cut ∙ sym (append_assoc are.done (front ∷ []) (texts_of back));
  each = zip_more are.done allowed front p are.each is;
}

pub all_read : (value left front : List ℕ) (allowed : List PrefixValue) (p : PrefixValue) → AreRead value left allowed → texts_of left ≡ front ∷ [] → IsPrefixText front p → length allowed < 32 → IsAllowed value (allowed ++ p ∷ [])
all_read value left front allowed p are cut is few =
    let whole : texts_of value ≡ are.done ++ front ∷ [] = are.split ∙ ap (λ (l : List (List ℕ)). are.done ++ l) cut in
    let each = subst (λ (l : List (List ℕ)). AllZip IsPrefixText l (allowed ++ p ∷ [])) (sym whole) (zip_more are.done allowed front p are.each is) in
    is_allowed value (allowed ++ p ∷ []) each (omega (arith, length-append allowed (p ∷ []), few))

zip_at : (ts us : List (List ℕ)) (t : List ℕ) (ps : List PrefixValue) → AllZip IsPrefixText (ts ++ t ∷ us) ps → (p : PrefixValue) × IsPrefixText t p
zip_at [] us t [] each = absurd each
zip_at [] us t (p ∷ ps) each = (p, each.0)
zip_at (s ∷ ts) us t [] each = absurd each
zip_at (s ∷ ts) us t (p ∷ ps) each = zip_at ts us t ps each.1

-- one of the texts is no prefix
pub not_read : (value left front : List ℕ) (others : List (List ℕ)) (allowed : List PrefixValue) → AreRead value left allowed → texts_of left ≡ front ∷ others → ((p : PrefixValue) → IsPrefixText front p → ⊥) → (all : List PrefixValue) → IsAllowed value all → ⊥
not_read value left front others allowed are cut none all is =
    let whole : texts_of value ≡ are.done ++ front ∷ others = are.split ∙ ap (λ (l : List (List ℕ)). are.done ++ l) cut in
    let found = zip_at are.done others front all (subst (λ (l : List (List ℕ)). AllZip IsPrefixText l all) whole (allowed_texts value all is)) in
    none found.0 found.1

-- there are more than 32
pub too_many : (value left : List ℕ) (allowed : List PrefixValue) → AreRead value left allowed → 32 ≤ length allowed → (all : List PrefixValue) → IsAllowed value all → ⊥
too_many value left allowed are full all is =
    let long = AllZip-long IsPrefixText (texts_of value) all (allowed_texts value all is) in
    let read = AllZip-long IsPrefixText are.done allowed are.each in
    omega (arith, long, ap length are.split, length-append are.done (texts_of left), length-slice_split is_comma left, read, full, is.few)

-- ---- a value is one list at most
same_zip : (ts : List (List ℕ)) (ps qs : List PrefixValue) → AllZip IsPrefixText ts ps → AllZip IsPrefixText ts qs → ps ≡ qs
same_zip [] [] [] a b = refl
same_zip [] [] (q ∷ qs) a b = absurd b
same_zip [] (p ∷ ps) qs a b = absurd a
same_zip (t ∷ ts) [] qs a b = absurd a
same_zip (t ∷ ts) (p ∷ ps) [] a b = absurd b
same_zip (t ∷ ts) (p ∷ ps) (q ∷ qs) a b =
    let first : p ≡ q = prefix_one t p q a.0 b.0 in
    let rest : ps ≡ qs = same_zip ts ps qs a.1 b.1 in
    cc (first, rest)

pub one_allowed : (value : List ℕ) (r : Option (List PrefixValue)) → IfSome r (λ l. IsAllowed value l) → IfSome r (λ l. (k : List PrefixValue) → IsAllowed value k → k ≡ l)
one_allowed value None is = tt
one_allowed value (Some l) is = λ k also. same_zip (texts_of value) k l (allowed_texts value k also) (allowed_texts value l is)
