-- The one line that we write for a query: each text as it is printed, and each selector that is named, in their order.
use Rattle.std.specs.Prelude.{ℕ, List, [], ◌∷◌, ◌++◌, Option, Some, None, codes}
use Rattle.std.specs.List.{flat_map, join_with_byte}
use Rattle.bmp_specs.specs.declared.wire.Family.{Family}
use Rattle.bmp_specs.specs.declared.wire.Family.TheVariants.{V4, V6}
use Rattle.bmp_specs.specs.AddressText.{address_text}
use Rattle.bmp_specs.specs.NumberText.{number_text}
use Rattle.bmp_specs.specs.PeerText.{key_text, view_text}
use Rattle.bmp_specs.specs.PrefixText.{prefix_text}
use Rattle.bmp_specs.specs.Query.{QueryValue, routers, cut, peers, marks, table, count, exact, longest, within, origin, stats, changes, quit, space}
use Rattle.bmp_specs.specs.Selection.{SelectValue}
use Rattle.bmp_specs.specs.Values.{KeyValue}

abbrev pub family_text : Family → List ℕ
family_text V4 = codes "4"
family_text V6 = codes "6"

-- the word and the text of the value, or nothing where none is named
abbrev pub selector_words : {A : Type 0} → List ℕ → (A → List ℕ) → Option A → List (List ℕ)
selector_words word text None = []
selector_words word text (Some value) = word ∷ text value ∷ []

abbrev pub peer_selector_words : Option ℕ → Option KeyValue → List (List ℕ)
peer_selector_words router peer = selector_words (codes "router") number_text router ++ selector_words (codes "peer") key_text peer

abbrev pub select_words : SelectValue → List (List ℕ)
select_words s = peer_selector_words s.router s.peer ++ (selector_words (codes "view") view_text s.view ++ selector_words (codes "family") family_text s.family)

abbrev pub query_words : QueryValue → List (List ℕ)
query_words routers = codes "routers" ∷ []
query_words cut = codes "cut" ∷ []
query_words (peers router peer) = codes "peers" ∷ peer_selector_words router peer
query_words (marks select) = codes "marks" ∷ select_words select
query_words (table select) = codes "table" ∷ select_words select
query_words (count select) = codes "count" ∷ select_words select
query_words (exact prefix select) = codes "prefix" ∷ prefix_text prefix ∷ select_words select
query_words (longest address select) = codes "match" ∷ address_text address ∷ select_words select
query_words (within prefix select) = codes "within" ∷ prefix_text prefix ∷ select_words select
query_words (origin number select) = codes "origin" ∷ number_text number ∷ select_words select
query_words (stats key) = codes "stats" ∷ key_text key ∷ []
query_words (changes lane from prefix) = codes "changes" ∷ number_text lane ∷ number_text from ∷ prefix_text prefix ∷ []
query_words quit = codes "quit" ∷ []

-- words, each after a space
abbrev pub spaced : List (List ℕ) → List ℕ
spaced words = flat_map (λ word. space ∷ word) words

-- the words with one space between two of them
unfoldable pub query_text : QueryValue → List ℕ
query_text query = join_with_byte space (query_words query)
