-- The first word of a query, which says what is asked.
use Rattle.std.specs.Prelude.{◌≡◌, ℕ, List, codes}
use Rattle.bmp_specs.specs.Query.{QueryValue, routers, cut, peers, marks, table, count, exact, longest, within, origin, stats, changes, quit}
use Rattle.query_lang.specs.declared.verb.Verb.{Verb}
use Rattle.query_lang.specs.declared.verb.Verb.TheVariants.{Routers, Cut, Peers, Marks, Table, Count, Prefix, Match, Within, Origin, Stats, Changes, Quit}

abbrev pub verb_text : Verb → List ℕ
verb_text Routers = codes "routers"
verb_text Cut = codes "cut"
verb_text Peers = codes "peers"
verb_text Marks = codes "marks"
verb_text Table = codes "table"
verb_text Count = codes "count"
verb_text Prefix = codes "prefix"
verb_text Match = codes "match"
verb_text Within = codes "within"
verb_text Origin = codes "origin"
verb_text Stats = codes "stats"
verb_text Changes = codes "changes"
verb_text Quit = codes "quit"

-- ---- inside
-- it isn't one of these words
pub record IsNoPeerWord (word : List ℕ) : Type 0 where
  pub no_routers : word ≡ verb_text Routers → ⊥
  pub no_cut : word ≡ verb_text Cut → ⊥
  pub no_peers : word ≡ verb_text Peers → ⊥
  pub no_marks : word ≡ verb_text Marks → ⊥
  pub no_table : word ≡ verb_text Table → ⊥

pub record IsNoLook (word : List ℕ) : Type 0 where
  pub no_count : word ≡ verb_text Count → ⊥
  pub no_exact : word ≡ verb_text Prefix → ⊥
  pub no_longest : word ≡ verb_text Match → ⊥
  pub no_within : word ≡ verb_text Within → ⊥

pub record IsNoneOfTheRest (word : List ℕ) : Type 0 where
  pub no_origin : word ≡ verb_text Origin → ⊥
  pub no_stats : word ≡ verb_text Stats → ⊥
  pub no_changes : word ≡ verb_text Changes → ⊥
  pub no_quit : word ≡ verb_text Quit → ⊥

-- the first word of this query
abbrev pub verb_of : QueryValue → Verb
verb_of routers = Routers
verb_of cut = Cut
verb_of (peers router peer) = Peers
verb_of (marks select) = Marks
verb_of (table select) = Table
verb_of (count select) = Count
verb_of (exact prefix select) = Prefix
verb_of (longest address select) = Match
verb_of (within prefix select) = Within
verb_of (origin number select) = Origin
verb_of (stats key) = Stats
verb_of (changes lane from prefix) = Changes
verb_of quit = Quit
