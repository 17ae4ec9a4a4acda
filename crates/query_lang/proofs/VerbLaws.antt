-- A query's first word is its verb's, and a word is one verb's.
use Rattle.std.proofs.Common.{◌≡◌, ℕ, List, [], ◌∷◌, Option, Some, None, cond, refl, sym, ap, ◌∙◌, codes}
use Rattle.std.specs.Str.{bytes_eq}
use Rattle.bmp_specs.specs.Query.{QueryValue, routers, cut, peers, marks, table, count, exact, longest, within, origin, stats, changes, quit, AreQueryWords}
use Rattle.query_lang.specs.Verbs.{verb_text, verb_of}
use Rattle.query_lang.specs.declared.verb.Verb.{Verb}
use Rattle.query_lang.specs.declared.verb.Verb.TheVariants.{Routers, Cut, Peers, Marks, Table, Count, Prefix, Match, Within, Origin, Stats, Changes, Quit}

-- the words of a query begin with its verb
pub begins : (q : QueryValue) (words : List (List ℕ)) → AreQueryWords q words → (others : List (List ℕ)) × (words ≡ verb_text (verb_of q) ∷ others)
begins routers words is = ([], is)
begins cut words is = ([], is)
begins (peers router peer) words is = (is.selectors, is.spelled)
begins (marks select) words is = (is.selectors, is.spelled)
begins (table select) words is = (is.selectors, is.spelled)
begins (count select) words is = (is.selectors, is.spelled)
begins (exact prefix select) words is = (is.text ∷ is.selectors, is.spelled)
begins (longest address select) words is = (is.text ∷ is.selectors, is.spelled)
begins (within prefix select) words is = (is.text ∷ is.selectors, is.spelled)
begins (origin number select) words is = (is.text ∷ is.selectors, is.spelled)
begins (stats key) words is = (is.text ∷ [], is.spelled)
begins (changes lane from prefix) words is = (is.lane_text ∷ is.from_text ∷ is.prefix_text ∷ [], is.spelled)
begins quit words is = ([], is)

-- the verb that a text is
abbrev verb_at : List ℕ → Option Verb
verb_at text =
    cond (bytes_eq text (codes "routers")) (Some Routers)
    (cond (bytes_eq text (codes "cut")) (Some Cut)
    (cond (bytes_eq text (codes "peers")) (Some Peers)
    (cond (bytes_eq text (codes "marks")) (Some Marks)
    (cond (bytes_eq text (codes "table")) (Some Table)
    (cond (bytes_eq text (codes "count")) (Some Count)
    (cond (bytes_eq text (codes "prefix")) (Some Prefix)
    (cond (bytes_eq text (codes "match")) (Some Match)
    (cond (bytes_eq text (codes "within")) (Some Within)
    (cond (bytes_eq text (codes "origin")) (Some Origin)
    (cond (bytes_eq text (codes "stats")) (Some Stats)
    (cond (bytes_eq text (codes "changes")) (Some Changes)
    (cond (bytes_eq text (codes "quit")) (Some Quit) None))))))))))))

found : (v : Verb) → verb_at (verb_text v) ≡ Some v
found Routers = refl
found Cut = refl
found Peers = refl
found Marks = refl
found Table = refl
found Count = refl
found Prefix = refl
found Match = refl
found Within = refl
found Origin = refl
found Stats = refl
found Changes = refl
found Quit = refl

pub verb_one : (v w : Verb) → verb_text v ≡ verb_text w → v ≡ w
verb_one v w e =
    let same : Some v ≡ Some w = sym (found v) ∙ ap (λ (l : List ℕ). verb_at l) e ∙ found w in
    cc

-- words that begin with a verb are a query of this verb
pub same_verb : (v : Verb) (q : QueryValue) (others : List (List ℕ)) → AreQueryWords q (verb_text v ∷ others) → v ≡ verb_of q
same_verb v q others is =
    let b = begins q (verb_text v ∷ others) is in
    let e : verb_text v ∷ others ≡ verb_text (verb_of q) ∷ b.0 = b.1 in
    let head : verb_text v ≡ verb_text (verb_of q) = cc in
    verb_one v (verb_of q) head
