-- How a line is read word by word.
use Rattle.std.specs.Prelude.{◌≡◌, ℕ, ◌≤◌, Bool, true, false, List, [], ◌∷◌, ◌++◌, length, codes, Option, ◌==◌, Contains, IfNone}
use Rattle.std.specs.List.{slice_split}
use Rattle.bmp_specs.specs.Query.{QueryValue, marks, space, AreQueryWords, IsSelector}
use Rattle.bmp_specs.specs.NumberText.{IsNumberText, IsStepText}
use Rattle.bmp_specs.specs.Values.{PrefixValue}
use Rattle.ask_specs.specs.Asking.{AskValue, plain, rows, steps, full_marks, full_routers, AreTraits, AsksForRows, IsFlag, IsPrefixWord, TellsRows}
use Rattle.ask_specs.specs.Traits.{TraitsValue}

-- the words of a line, which stand between its spaces
unfoldable pub words_of : List ℕ → List (List ℕ)
words_of line = slice_split (λ b. b == space) line

-- the words of what follows a word: nothing, or a space and words
abbrev pub further_words : List ℕ → List (List ℕ)
further_words [] = []
further_words (mark ∷ text) = words_of text

-- the words don't begin with this one and another
abbrev pub Unnamed : List ℕ → List (List ℕ) → Type 0
Unnamed word words = (text : List ℕ) (others : List (List ℕ)) → words ≡ word ∷ text ∷ others → ⊥

-- the words begin with the selector of this value, or it isn't named; the others follow
pub record Takes {A : Type 0} (word : List ℕ) (IsText : List ℕ → A → Type 0) (words : List (List ℕ)) (value : Option A) (others : List (List ℕ)) : Type 0 where
  pub front : List (List ℕ)
  pub is_selector : IsSelector word IsText value front
  pub spelled : words ≡ front ++ others
  pub unnamed : IfNone value (Unnamed word others)

-- the words begin with a selector whose text has no value
pub record Breaks {A : Type 0} (word : List ℕ) (IsText : List ℕ → A → Type 0) (words : List (List ℕ)) : Type 0 where
  pub text : List ℕ
  pub others : List (List ℕ)
  pub spelled : words ≡ word ∷ text ∷ others
  pub no_value : (value : A) → IsText text value → ⊥

-- the words begin with this one and another, or they don't; the others follow
pub record TakesFirst (word : List ℕ) (words : List (List ℕ)) (flag : Bool) (others : List (List ℕ)) : Type 0 where
  pub front : List (List ℕ)
  pub is_flag : IsFlag word flag front
  pub spelled : words ≡ front ++ others
  pub unnamed : flag ≡ false → Unnamed word others

-- the text is cut at the first such byte
pub record CutsFirst (byte : ℕ) (text front back : List ℕ) : Type 0 where
  pub spelled : text ≡ front ++ byte ∷ back
  pub first : Contains front byte → ⊥

-- ---- from the end
-- the text is cut at the last such byte
pub record CutsLast (byte : ℕ) (text front back : List ℕ) : Type 0 where
  pub spelled : text ≡ front ++ byte ∷ back
  pub last : Contains back byte → ⊥

-- the words don't end with this one and another, behind one word at least
abbrev pub Unended : List ℕ → List (List ℕ) → Type 0
Unended word words = (front : List (List ℕ)) (text : List ℕ) → 1 ≤ length front → words ≡ front ++ word ∷ text ∷ [] → ⊥

-- the words end with the selector of this value, or it isn't named; others stand before it
pub record TakesLast {A : Type 0} (word : List ℕ) (IsText : List ℕ → A → Type 0) (words : List (List ℕ)) (value : Option A) (others : List (List ℕ)) : Type 0 where
  pub back : List (List ℕ)
  pub is_selector : IsSelector word IsText value back
  pub spelled : words ≡ others ++ back
  pub unended : IfNone value (Unended word others)

-- the words end with a selector whose text has no value
pub record BreaksLast {A : Type 0} (word : List ℕ) (IsText : List ℕ → A → Type 0) (words : List (List ℕ)) : Type 0 where
  pub text : List ℕ
  pub others : List (List ℕ)
  pub some : 1 ≤ length others
  pub spelled : words ≡ others ++ word ∷ text ∷ []
  pub no_value : (value : A) → IsText text value → ⊥

-- the words end with selectors of path attributes; others stand before them
pub record EndsWith (traits : TraitsValue) (words others : List (List ℕ)) : Type 0 where
  pub back : List (List ℕ)
  pub are_traits : AreTraits traits back
  pub spelled : words ≡ others ++ back

-- the words are a query for rows, and selectors of path attributes behind it, or none
pub record AsksWith (query : QueryValue) (traits : TraitsValue) (words : List (List ℕ)) : Type 0 where
  pub front : List (List ℕ)
  pub back : List (List ℕ)
  pub asks : AsksForRows query
  pub is_query : AreQueryWords query front
  pub are_traits : AreTraits traits back
  pub spelled : words ≡ front ++ back

-- ---- behind `steps` and `full`
-- `changes`, a lane, the number of a step, and a prefix or none
pub record AreChangesWords (lane from : ℕ) (prefix : Option PrefixValue) (words : List (List ℕ)) : Type 0 where
  pub lane_text : List ℕ
  pub from_text : List ℕ
  pub prefix_words : List (List ℕ)
  pub is_lane : IsNumberText lane_text lane
  pub is_from : IsStepText from_text from
  pub is_prefix : IsPrefixWord prefix prefix_words
  pub spelled : words ≡ codes "changes" ∷ lane_text ∷ from_text ∷ prefix_words

-- the words ask this, where `steps` and `full` stand in front of them or don't
abbrev pub AsksBehind : Bool → Bool → List (List ℕ) → AskValue → Type 0
AsksBehind with_steps full words (plain query) = ⊥
AsksBehind with_steps full words (rows s f query traits) = (s ≡ with_steps) × (f ≡ full) × AsksWith query traits words × (with_steps ≡ true → TellsRows query) × (full ≡ true → TellsRows query)
AsksBehind with_steps full words (steps f lane from prefix) = (with_steps ≡ false) × (f ≡ full) × AreChangesWords lane from prefix words
AsksBehind with_steps full words (full_marks select) = (with_steps ≡ false) × (full ≡ true) × AreQueryWords (marks select) words
AsksBehind with_steps full words full_routers = (with_steps ≡ false) × (full ≡ true) × (words ≡ codes "routers" ∷ [])
