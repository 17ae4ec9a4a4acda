-- A word that is none of the words with which a query begins.
use Rattle.std.proofs.Common.{◌≡◌, ℕ, List}
use Rattle.query_lang.specs.declared.verb.Verb.{Verb}
use Rattle.query_lang.specs.declared.verb.Verb.TheVariants.{Routers, Cut, Peers, Marks, Table, Count, Prefix, Match, Within, Origin, Stats, Changes, Quit}
use Rattle.query_lang.specs.Verbs.{IsNoLook, IsNoPeerWord, IsNoneOfTheRest, verb_text}

pub is_no_verb : (word : List ℕ) → IsNoPeerWord word → IsNoLook word → IsNoneOfTheRest word → (v : Verb) → word ≡ verb_text v → ⊥
is_no_verb word p l r Routers = p.no_routers
is_no_verb word p l r Cut = p.no_cut
is_no_verb word p l r Peers = p.no_peers
is_no_verb word p l r Marks = p.no_marks
is_no_verb word p l r Table = p.no_table
is_no_verb word p l r Count = l.no_count
is_no_verb word p l r Prefix = l.no_exact
is_no_verb word p l r Match = l.no_longest
is_no_verb word p l r Within = l.no_within
is_no_verb word p l r Origin = r.no_origin
is_no_verb word p l r Stats = r.no_stats
is_no_verb word p l r Changes = r.no_changes
is_no_verb word p l r Quit = r.no_quit
