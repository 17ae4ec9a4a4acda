-- Our query language with further words. A plain line is a query of `bmp_specs` (`Query`). A line of the wider language is a
-- plain line, or one with words in front of it and selectors behind it, or asks for all changes of a lane, for marks with
-- the number of their rows, or for routers with all that their connections told. So no plain line means anything else.
use Rattle.std.specs.Prelude.{◌≡◌, ◌↔◌, ℕ, Bool, true, false, List, [], ◌∷◌, ◌++◌, Option, Some, None, All, codes}
use Rattle.std.specs.List.{join_with_byte}
use Rattle.bmp_specs.specs.NumberText.{IsNumberText, IsStepText}
use Rattle.bmp_specs.specs.PrefixText.{IsPrefixText}
use Rattle.bmp_specs.specs.Query.{QueryValue, marks, table, count, exact, longest, within, origin, AreQueryWords, IsQuery, IsSelector, IsWord, space}
use Rattle.bmp_specs.specs.Selection.{SelectValue}
use Rattle.bmp_specs.specs.Values.{PrefixValue}
use Rattle.ask_specs.specs.Traits.{TraitsValue, no_traits}
use Rattle.ask_specs.specs.TraitText.{IsThroughText, IsCommunityText, IsTypeText}

-- what is asked
pub data AskValue : Type 0 where
  -- a query of `bmp_specs`
  plain : QueryValue → AskValue
  -- A query for rows: whether the number of steps stands before the rows of each lane, whether each row is told with all its
  -- path attributes, the plain query, and the selectors of path attributes
  rows : Bool → Bool → QueryValue → TraitsValue → AskValue
  -- The changes on a lane, from the step of this number on: whether each announcement is told with all its path attributes,
  -- and the prefix, where not all changes are asked for
  steps : Bool → ℕ → ℕ → Option PrefixValue → AskValue
  -- the marks, each with the number of its rows, by these selectors
  full_marks : SelectValue → AskValue
  -- the routers, each with from where and when its last connection came, and with what was passed over
  full_routers : AskValue

-- the query asks for rows
abbrev pub AsksForRows : QueryValue → Type 0
AsksForRows (table select) = Unit {0}
AsksForRows (count select) = Unit {0}
AsksForRows (exact prefix select) = Unit {0}
AsksForRows (longest address select) = Unit {0}
AsksForRows (within prefix select) = Unit {0}
AsksForRows (origin asn select) = Unit {0}
AsksForRows _ = ⊥

-- the query tells rows by lines of their own: `count` doesn't
abbrev pub TellsRows : QueryValue → Type 0
TellsRows (count select) = ⊥
TellsRows query = AsksForRows query

-- the word stands there where it is so
abbrev pub IsFlag : List ℕ → Bool → List (List ℕ) → Type 0
IsFlag word true words = words ≡ word ∷ []
IsFlag word false words = words ≡ []

-- the words are the selectors of path attributes, in their order
pub record AreTraits (traits : TraitsValue) (words : List (List ℕ)) : Type 0 where
  pub through_words : List (List ℕ)
  pub community_words : List (List ℕ)
  pub other_words : List (List ℕ)
  pub is_through : IsSelector (codes "through") IsThroughText traits.through through_words
  pub is_community : IsSelector (codes "community") IsCommunityText traits.community community_words
  pub is_other : IsSelector (codes "other") IsTypeText traits.other other_words
  pub spelled : words ≡ through_words ++ (community_words ++ other_words)

-- there is a further word
abbrev pub IsMore : Bool → Bool → TraitsValue → Type 0
IsMore false false traits = ¬ (traits ≡ no_traits)
IsMore _ _ traits = Unit {0}

-- `steps`, `full`, the words of a plain query, and selectors of path attributes
pub record AreRowsWords (with_steps full : Bool) (query : QueryValue) (traits : TraitsValue) (words : List (List ℕ)) : Type 0 where
  pub steps_words : List (List ℕ)
  pub full_words : List (List ℕ)
  pub query_words : List (List ℕ)
  pub traits_words : List (List ℕ)
  pub is_steps : IsFlag (codes "steps") with_steps steps_words
  pub is_full : IsFlag (codes "full") full full_words
  pub is_query : AreQueryWords query query_words
  pub are_traits : AreTraits traits traits_words
  pub asks : AsksForRows query
  pub told : (with_steps ≡ true → TellsRows query) × (full ≡ true → TellsRows query)
  pub more : IsMore with_steps full traits
  pub spelled : words ≡ steps_words ++ (full_words ++ (query_words ++ traits_words))

-- no text of a prefix, or one
abbrev pub IsPrefixWord : Option PrefixValue → List (List ℕ) → Type 0
IsPrefixWord None words = words ≡ []
IsPrefixWord (Some prefix) words = (text : List ℕ) × IsPrefixText text prefix × (words ≡ text ∷ [])

-- it is no plain query: `full` is there, or no prefix
abbrev pub IsFurtherChanges : Bool → Option PrefixValue → Type 0
IsFurtherChanges false (Some prefix) = ⊥
IsFurtherChanges _ _ = Unit {0}

-- `full`, `changes`, a lane, the number of a step and a prefix, of which the first and the last may be missing
pub record AreStepsWords (full : Bool) (lane from : ℕ) (prefix : Option PrefixValue) (words : List (List ℕ)) : Type 0 where
  pub full_words : List (List ℕ)
  pub lane_text : List ℕ
  pub from_text : List ℕ
  pub prefix_words : List (List ℕ)
  pub is_full : IsFlag (codes "full") full full_words
  pub is_lane : IsNumberText lane_text lane
  pub is_from : IsStepText from_text from
  pub is_prefix : IsPrefixWord prefix prefix_words
  pub is_further : IsFurtherChanges full prefix
  pub spelled : words ≡ full_words ++ (codes "changes" ∷ lane_text ∷ from_text ∷ prefix_words)

-- `full`, and the words of `marks` with its selectors
pub record AreFullMarksWords (select : SelectValue) (words : List (List ℕ)) : Type 0 where
  pub marks_words : List (List ℕ)
  pub are_marks : AreQueryWords (marks select) marks_words
  pub spelled : words ≡ codes "full" ∷ marks_words

abbrev pub AreAskWords : AskValue → List (List ℕ) → Type 0
AreAskWords (plain query) words = AreQueryWords query words
AreAskWords (rows with_steps full query traits) words = AreRowsWords with_steps full query traits words
AreAskWords (steps full lane from prefix) words = AreStepsWords full lane from prefix words
AreAskWords (full_marks select) words = AreFullMarksWords select words
AreAskWords full_routers words = words ≡ codes "full" ∷ codes "routers" ∷ []

-- the line asks this
pub record IsAsk (line : List ℕ) (ask : AskValue) : Type 0 where
  pub words : List (List ℕ)
  pub are_words : All IsWord words
  pub joined : line ≡ join_with_byte space words
  pub asks : AreAskWords ask words

-- a plain line asks one thing at most
abbrev pub AsksOneQuery : Type 0
AsksOneQuery = (line : List ℕ) (a b : QueryValue) → IsQuery line a → IsQuery line b → a ≡ b

-- A plain line asks that query in the wider language too, and nothing else: each line that asks more is no plain query.
abbrev pub IsConservative : Type 0
IsConservative = (line : List ℕ) (query : QueryValue) (ask : AskValue) → IsQuery line query → IsAsk line ask ↔ (ask ≡ plain query)

-- a line asks one thing at most
abbrev pub AsksOne : Type 0
AsksOne = (line : List ℕ) (a b : AskValue) → IsAsk line a → IsAsk line b → a ≡ b
