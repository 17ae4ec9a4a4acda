-- `full` and `steps` in front of other words, and selectors told from what follows them.
use Rattle.std.proofs.Common.{◌≡◌, ℕ, Bool, true, false, List, [], ◌∷◌, ◌++◌, Option, Some, None, codes, get_or, refl, sym, ap, subst, ◌∙◌, arith}
use Rattle.std.proofs.lemmas.Bool.{true≢false}
use Rattle.bmp_specs.specs.Query.{IsSelector}
use Rattle.ask_specs.specs.Asking.{IsFlag}
use Rattle.ask_specs.proofs.PlainWords.{IsHeaded, by_one, by_two, headed_front, heads, is_front}

-- the words don't begin with this one
abbrev pub Begins : List ℕ → List (List ℕ) → Type 0
Begins word words = (rest : List (List ℕ)) × (words ≡ word ∷ rest)

pub flag_one : (word : List ℕ) (s t : Bool) (u v x y : List (List ℕ)) → IsFlag word s u → IsFlag word t v → ¬ (Begins word x) → ¬ (Begins word y) → u ++ x ≡ v ++ y → (s ≡ t) × (x ≡ y)
flag_one word true true u v x y p q no_x no_y e =
    let whole : word ∷ x ≡ word ∷ y = ap (λ (l : List (List ℕ)). l ++ x) (sym p) ∙ e ∙ ap (λ (l : List (List ℕ)). l ++ y) q in
    (refl, cc)
flag_one word false false u v x y p q no_x no_y e = (refl, ap (λ (l : List (List ℕ)). l ++ x) (sym p) ∙ e ∙ ap (λ (l : List (List ℕ)). l ++ y) q)
flag_one word true false u v x y p q no_x no_y e = absurd (no_y (x, sym (ap (λ (l : List (List ℕ)). l ++ x) (sym p) ∙ e ∙ ap (λ (l : List (List ℕ)). l ++ y) q)))
flag_one word false true u v x y p q no_x no_y e = absurd (no_x (y, ap (λ (l : List (List ℕ)). l ++ x) (sym p) ∙ e ∙ ap (λ (l : List (List ℕ)). l ++ y) q))

pub full_isnt_steps : ¬ (codes "full" ≡ codes "steps")
full_isnt_steps e = omega (arith, ap (λ (l : List ℕ). get_or l 0 0) e)

-- what stands behind `full` doesn't begin with `steps`, with or without `full`
pub behind_flag : (f : Bool) (words x : List (List ℕ)) → IsFlag (codes "full") f words → ¬ (Begins (codes "steps") x) → ¬ (Begins (codes "steps") (words ++ x))
behind_flag true words x is other (rest, e) =
    let whole : codes "full" ∷ x ≡ codes "steps" ∷ rest = ap (λ (l : List (List ℕ)). l ++ x) (sym is) ∙ e in
    let same : codes "full" ≡ codes "steps" = cc in
    full_isnt_steps same
behind_flag false words x is other (rest, e) = other (rest, ap (λ (l : List (List ℕ)). l ++ x) (sym is) ∙ e)

pub headed_no_front : (a x : List (List ℕ)) (word : List ℕ) → IsHeaded a → is_front word ≡ true → ¬ (Begins word (a ++ x))
headed_no_front a x word h new (rest, e) = headed_front a x rest word h new e

pub changes_no_front : (word : List ℕ) (x : List (List ℕ)) → is_front word ≡ true → ¬ (Begins word (codes "changes" ∷ x))
changes_no_front word x new (rest, e) =
    let first : codes "changes" ≡ word = cc in
    let old : is_front (codes "changes") ≡ false = refl in
    true≢false (sym new ∙ ap is_front (sym first) ∙ old)

-- `routers` is neither of the words in front, and no query for rows or marks
pub routers_no_front : (word : List ℕ) → is_front word ≡ true → ¬ (Begins word (codes "routers" ∷ []))
routers_no_front word new (rest, e) =
    let first : codes "routers" ≡ word = cc in
    let old : is_front (codes "routers") ≡ false = refl in
    true≢false (sym new ∙ ap is_front (sym first) ∙ old)

pub not_routers : (a x : List (List ℕ)) → IsHeaded a → ¬ (a ++ x ≡ codes "routers" ∷ [])
not_routers a x (by_one v more is front n p) e =
    let whole : v ∷ (more ++ x) ≡ codes "routers" ∷ [] = ap (λ (l : List (List ℕ)). l ++ x) (sym is) ∙ e in
    let first : v ≡ codes "routers" = cc in
    let other : heads v ≡ 2 = ap heads first in
    omega (arith, n, other)
not_routers a x (by_two v t more is front n p) e =
    let whole : v ∷ t ∷ (more ++ x) ≡ codes "routers" ∷ [] = ap (λ (l : List (List ℕ)). l ++ x) (sym is) ∙ e in
    absurd cc

-- a selector that is named, or none, is told from what follows
pub selector_one : {A : Type 0} (word : List ℕ) (IsText : List ℕ → A → Type 0) → ((text : List ℕ) (a b : A) → IsText text a → IsText text b → a ≡ b) → (v w : Option A) (a b x y : List (List ℕ))
    → IsSelector word IsText v a → IsSelector word IsText w b → ¬ (Begins word x) → ¬ (Begins word y) → a ++ x ≡ b ++ y → (v ≡ w) × (x ≡ y)
selector_one word IsText only None None a b x y p q no_x no_y e = (refl, ap (λ (l : List (List ℕ)). l ++ x) (sym p) ∙ e ∙ ap (λ (l : List (List ℕ)). l ++ y) q)
selector_one word IsText only None (Some w) a b x y p (text, is, q) no_x no_y e = absurd (no_x (text ∷ y, ap (λ (l : List (List ℕ)). l ++ x) (sym p) ∙ e ∙ ap (λ (l : List (List ℕ)). l ++ y) q))
selector_one word IsText only (Some v) None a b x y (text, is, p) q no_x no_y e = absurd (no_y (text ∷ x, sym (ap (λ (l : List (List ℕ)). l ++ x) (sym p) ∙ e ∙ ap (λ (l : List (List ℕ)). l ++ y) q)))
selector_one {A = A} word IsText only (Some v) (Some w) a b x y (text, is, p) (said, said_is, q) no_x no_y e =
    let whole : word ∷ text ∷ x ≡ word ∷ said ∷ y = ap (λ (l : List (List ℕ)). l ++ x) (sym p) ∙ e ∙ ap (λ (l : List (List ℕ)). l ++ y) q in
    let same : text ≡ said = cc in
    (ap (λ (z : A). Some z) (only said v w (subst (λ (l : List ℕ). IsText l v) same is) said_is), cc)

-- another selector in front doesn't begin with the word
pub other_selector : {A : Type 0} (word other : List ℕ) (IsText : List ℕ → A → Type 0) (v : Option A) (a x : List (List ℕ)) → ¬ (other ≡ word) → IsSelector other IsText v a → ¬ (Begins word x) → ¬ (Begins word (a ++ x))
other_selector word other IsText None a x differs p no_x (rest, e) = no_x (rest, ap (λ (l : List (List ℕ)). l ++ x) (sym p) ∙ e)
other_selector word other IsText (Some v) a x differs (text, is, p) no_x (rest, e) =
    let whole : other ∷ text ∷ x ≡ word ∷ rest = ap (λ (l : List (List ℕ)). l ++ x) (sym p) ∙ e in
    differs cc

pub none_begins : (word : List ℕ) → ¬ (Begins word [])
none_begins word (rest, e) = absurd cc

pub differ_first : (a b : List ℕ) → ¬ (get_or a 0 0 ≡ get_or b 0 0) → ¬ (a ≡ b)
differ_first a b other same = other (ap (λ (l : List ℕ). get_or l 0 0) same)
