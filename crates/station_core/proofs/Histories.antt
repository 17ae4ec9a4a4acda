-- Histories and the values of their entries.
use Rattle.std.proofs.Common.{◌≡◌, ℕ, zero, suc, ◌+◌, ◌<◌, cond, eqb, Bool, true, false, List, [], ◌∷◌, ◌++◌, length, get_or, take, drop, min, max, not, refl, sym, ap, ◌∙◌, arith}
use Rattle.std.specs.List.{position_or_len}
use Rattle.std.proofs.lemmas.List.{take_min, take-map}
use Rattle.bmp_specs.specs.Values.{EntryValue}
use Rattle.cut_publisher.specs.declared.history.Event.{Event as Joined}
use Rattle.cut_publisher.specs.declared.history.Event.TheVariants.{Of, Finish as Mark}
use Rattle.cut_publisher.specs.History.{part, revision, batch, IsWithin, IsUnmarked}
use Rattle.query_eval.specs.Replies.{lanes_from}
use Rattle.rib_model.specs.declared.entry.Entry.{Entry}
use Rattle.rib_model.specs.Entries.{entry_value, entry_values}
use Rattle.station_core.specs.Machine.{History, is_closing, next_of, parts_from}
use Rattle.station_core.specs.Standing.{valued}

pub valued-append : (xs ys : List (Joined Entry)) → valued (xs ++ ys) ≡ valued xs ++ valued ys
valued-append [] ys = refl
valued-append (Of lane e ∷ xs) ys = ap (λ (l : History). Of lane (entry_value e) ∷ l) (valued-append xs ys)
valued-append (Mark ∷ xs) ys = ap (λ (l : History). Mark ∷ l) (valued-append xs ys)

pub valued-batch : (lane : ℕ) (es : List Entry) → valued (batch lane es) ≡ batch lane (entry_values es)
valued-batch lane [] = refl
valued-batch lane (e ∷ es) = ap (λ (l : History). Of lane (entry_value e) ∷ l) (valued-batch lane es)

pub valued-revision : (h : List (Joined Entry)) → revision (valued h) ≡ revision h
valued-revision [] = refl
valued-revision (Of lane e ∷ h) = ap (λ (n : ℕ). 1 + n) (valued-revision h)
valued-revision (Mark ∷ h) = valued-revision h

pub valued-part : (k : ℕ) (h : List (Joined Entry)) → part k (valued h) ≡ entry_values (part k h)
valued-part k [] = refl
valued-part k (Of lane e ∷ h) = here (eqb lane k) (valued-part k h)
  where
    here : (b : Bool) → part k (valued h) ≡ entry_values (part k h) → cond b (entry_value e ∷ part k (valued h)) (part k (valued h)) ≡ entry_values (cond b (e ∷ part k h) (part k h))
    here true same = ap (λ (l : List EntryValue). entry_value e ∷ l) same
    here false same = same
valued-part k (Mark ∷ h) = valued-part k h

pub valued-parts : (first n : ℕ) (h : List (Joined Entry)) → parts_from first n (valued h) ≡ lanes_from first n h
valued-parts first zero h = refl
valued-parts first (suc n) h = ap (λ (es : List EntryValue). es ∷ parts_from (suc first) n (valued h)) (valued-part first h) ∙ ap (λ (l : List (List EntryValue)). entry_values (part first h) ∷ l) (valued-parts (suc first) n h)

module _ {E : Type 0} where
  pub within-append : (n : ℕ) (xs ys : List (Joined E)) → IsWithin n xs → IsWithin n ys → IsWithin n (xs ++ ys)
  within-append n [] ys p q = q
  within-append n (Of k e ∷ xs) ys p q = (p.0, within-append n xs ys p.1 q)
  within-append n (Mark ∷ xs) ys p q = within-append n xs ys p q

  pub within-batch : (n lane : ℕ) (es : List E) → lane < n → IsWithin n (batch lane es)
  within-batch n lane [] lt = tt
  within-batch n lane (e ∷ es) lt = (lt, within-batch n lane es lt)

  pub unmarked-append : (xs ys : List (Joined E)) → IsUnmarked xs → IsUnmarked ys → IsUnmarked (xs ++ ys)
  unmarked-append [] ys p q = q
  unmarked-append (Of k e ∷ xs) ys p q = unmarked-append xs ys p q
  unmarked-append (Mark ∷ xs) ys p q = absurd p

  pub unmarked-batch : (lane : ℕ) (es : List E) → IsUnmarked (batch lane es)
  unmarked-batch lane [] = tt
  unmarked-batch lane (e ∷ es) = unmarked-batch lane es

  pub marked : (xs : List (Joined E)) → IsUnmarked (xs ++ Mark ∷ []) → ⊥
  marked [] u = u
  marked (Of k e ∷ xs) u = marked xs u
  marked (Mark ∷ xs) u = u

pub values-drop : (n : ℕ) (es : List Entry) → entry_values (drop n es) ≡ drop n (entry_values es)
values-drop zero es = refl
values-drop (suc n) [] = refl
values-drop (suc n) (e ∷ es) = values-drop n es

-- the place of the next closing among entries and among their values
pub closing_place : (es : List Entry) → position_or_len is_closing (entry_values es) ≡ position_or_len (λ e. is_closing (entry_value e)) es
closing_place [] = refl
closing_place (e ∷ es) = here (is_closing (entry_value e)) (closing_place es)
  where
    here : (b : Bool) → position_or_len is_closing (entry_values es) ≡ position_or_len (λ e. is_closing (entry_value e)) es → cond (not b) (1 + position_or_len is_closing (entry_values es)) 0 ≡ cond (not b) (1 + position_or_len (λ e. is_closing (entry_value e)) es) 0
    here true same = refl
    here false same = ap (λ (n : ℕ). 1 + n) same

-- no entry is a closing
pub no_closing : (es : List Entry) → ((k : ℕ) (d : Entry) → k < length es → is_closing (entry_value (get_or es k d)) ≡ false) → position_or_len (λ e. is_closing (entry_value e)) es ≡ length es
no_closing [] none = refl
no_closing (e ∷ es) none =
    let head : is_closing (entry_value e) ≡ false = none 0 e (omega arith) in
    let rest = no_closing es (λ k d lt. none (suc k) d (omega (arith, lt))) in
    ap (λ (b : Bool). cond (not b) (1 + position_or_len (λ e. is_closing (entry_value e)) es) 0) head ∙ omega (arith, rest)

-- what is published next, by how many entries stand before the next closing
pub next_taken : (es : List Entry) (before count : ℕ) → position_or_len (λ e. is_closing (entry_value e)) es ≡ before → count ≡ min (max before 1) (length es) → entry_values (take count es) ≡ next_of (entry_values es)
next_taken es before count place is =
    let same : take count es ≡ take (max before 1) es = ap (λ (n : ℕ). take n es) is ∙ take_min (max before 1) es in
    let most : max before 1 ≡ max 1 (position_or_len is_closing (entry_values es)) = omega (arith, closing_place es, place) in
    ap entry_values same ∙ sym (take-map entry_value (max before 1) es) ∙ ap (λ (n : ℕ). take n (entry_values es)) most
