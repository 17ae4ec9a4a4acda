-- Our query language: which lines are queries, and which query each is. A line is words with exactly one space between
-- two of them, and none before or after.
use Rattle.std.specs.Prelude.{◌≡◌, ℕ, List, [], ◌∷◌, ◌++◌, Option, Some, None, All, Contains, codes}
use Rattle.std.specs.List.{join_with_byte}
use Rattle.bmp_specs.specs.declared.wire.Family.{Family}
use Rattle.bmp_specs.specs.declared.wire.Family.TheVariants.{V4, V6}
use Rattle.bmp_specs.specs.AddressText.{IsAddressText}
use Rattle.bmp_specs.specs.NumberText.{IsNumberText, IsStepText}
use Rattle.bmp_specs.specs.PeerText.{IsKeyText, IsViewText}
use Rattle.bmp_specs.specs.PrefixText.{IsPrefixText}
use Rattle.bmp_specs.specs.Selection.{SelectValue}
use Rattle.bmp_specs.specs.Values.{AddressValue, KeyValue, PrefixValue}

-- what is asked
pub data QueryValue : Type 0 where
  -- the state of each lane, and how many entries each has
  routers : QueryValue
  cut : QueryValue
  -- the peers of a lane, or of all, and one of them, or all
  peers : Option ℕ → Option KeyValue → QueryValue
  -- the tables that are complete or not, the rows, and the number of rows
  marks : SelectValue → QueryValue
  table : SelectValue → QueryValue
  count : SelectValue → QueryValue
  -- the rows of this prefix, of the longest prefixes that hold the address, of the prefixes within this one, of this
  -- origin AS
  exact : PrefixValue → SelectValue → QueryValue
  longest : AddressValue → SelectValue → QueryValue
  within : PrefixValue → SelectValue → QueryValue
  origin : ℕ → SelectValue → QueryValue
  -- the statistics of a peer
  stats : KeyValue → QueryValue
  -- the changes of a prefix on a lane, from the step of this number on
  changes : ℕ → ℕ → PrefixValue → QueryValue
  -- the end of the session
  quit : QueryValue

-- the space between two words
abbrev pub space : ℕ
space = 32

abbrev pub IsWord : List ℕ → Type 0
IsWord word = Contains word space → ⊥

-- the text names this family
abbrev pub IsFamilyText : List ℕ → Family → Type 0
IsFamilyText text V4 = text ≡ codes "4"
IsFamilyText text V6 = text ≡ codes "6"

-- the words name this value after this word, or there are none and it isn't named
abbrev pub IsSelector : {A : Type 0} → List ℕ → (List ℕ → A → Type 0) → Option A → List (List ℕ) → Type 0
IsSelector word IsText None words = words ≡ []
IsSelector word IsText (Some value) words = (text : List ℕ) × IsText text value × (words ≡ word ∷ text ∷ [])

-- the words are the first two selectors, in their order
pub record ArePeerSelectors (router : Option ℕ) (peer : Option KeyValue) (words : List (List ℕ)) : Type 0 where
  pub router_words : List (List ℕ)
  pub peer_words : List (List ℕ)
  pub is_router : IsSelector (codes "router") IsNumberText router router_words
  pub is_peer : IsSelector (codes "peer") IsKeyText peer peer_words
  pub spelled : words ≡ router_words ++ peer_words

-- the words are the four selectors, in their order
pub record AreSelectors (select : SelectValue) (words : List (List ℕ)) : Type 0 where
  pub peer_words : List (List ℕ)
  pub view_words : List (List ℕ)
  pub family_words : List (List ℕ)
  pub are_peer : ArePeerSelectors select.router select.peer peer_words
  pub is_view : IsSelector (codes "view") IsViewText select.view view_words
  pub is_family : IsSelector (codes "family") IsFamilyText select.family family_words
  pub spelled : words ≡ peer_words ++ (view_words ++ family_words)

-- a word, what is asked for in its text, and selectors
pub record IsSought {A : Type 0} (word : List ℕ) (IsText : List ℕ → A → Type 0) (value : A) (select : SelectValue) (words : List (List ℕ)) : Type 0 where
  pub text : List ℕ
  pub selectors : List (List ℕ)
  pub is_text : IsText text value
  pub are_selectors : AreSelectors select selectors
  pub spelled : words ≡ word ∷ text ∷ selectors

-- a word and selectors
pub record IsSelection (word : List ℕ) (select : SelectValue) (words : List (List ℕ)) : Type 0 where
  pub selectors : List (List ℕ)
  pub are_selectors : AreSelectors select selectors
  pub spelled : words ≡ word ∷ selectors

-- `peers` and its selectors
pub record IsPeersQuery (router : Option ℕ) (peer : Option KeyValue) (words : List (List ℕ)) : Type 0 where
  pub selectors : List (List ℕ)
  pub are_selectors : ArePeerSelectors router peer selectors
  pub spelled : words ≡ codes "peers" ∷ selectors

-- `stats` and a peer
pub record IsStatsQuery (key : KeyValue) (words : List (List ℕ)) : Type 0 where
  pub text : List ℕ
  pub is_text : IsKeyText text key
  pub spelled : words ≡ codes "stats" ∷ text ∷ []

-- `changes`, a lane, a step's number and a prefix
pub record IsChangesQuery (lane from : ℕ) (prefix : PrefixValue) (words : List (List ℕ)) : Type 0 where
  pub lane_text : List ℕ
  pub from_text : List ℕ
  pub prefix_text : List ℕ
  pub is_lane : IsNumberText lane_text lane
  pub is_from : IsStepText from_text from
  pub is_prefix : IsPrefixText prefix_text prefix
  pub spelled : words ≡ codes "changes" ∷ lane_text ∷ from_text ∷ prefix_text ∷ []

-- the words are this query
abbrev pub AreQueryWords : QueryValue → List (List ℕ) → Type 0
AreQueryWords routers words = words ≡ codes "routers" ∷ []
AreQueryWords cut words = words ≡ codes "cut" ∷ []
AreQueryWords (peers router peer) words = IsPeersQuery router peer words
AreQueryWords (marks select) words = IsSelection (codes "marks") select words
AreQueryWords (table select) words = IsSelection (codes "table") select words
AreQueryWords (count select) words = IsSelection (codes "count") select words
AreQueryWords (exact prefix select) words = IsSought (codes "prefix") IsPrefixText prefix select words
AreQueryWords (longest address select) words = IsSought (codes "match") IsAddressText address select words
AreQueryWords (within prefix select) words = IsSought (codes "within") IsPrefixText prefix select words
AreQueryWords (origin number select) words = IsSought (codes "origin") IsNumberText number select words
AreQueryWords (stats key) words = IsStatsQuery key words
AreQueryWords (changes lane from prefix) words = IsChangesQuery lane from prefix words
AreQueryWords quit words = words ≡ codes "quit" ∷ []

-- the line is this query
pub record IsQuery (line : List ℕ) (query : QueryValue) : Type 0 where
  pub words : List (List ℕ)
  pub are_words : All IsWord words
  pub joined : line ≡ join_with_byte space words
  pub asks : AreQueryWords query words
