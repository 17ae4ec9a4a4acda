-- `full routers` alone: it takes nothing behind it, and no `steps` before it.
use Rattle.std.proofs.Common.{◌≡◌, ℕ, true, false, List, [], ◌∷◌, ◌++◌, codes, get_or, refl, sym, ap, ◌∙◌, arith}
use Rattle.bmp_specs.specs.Query.{QueryValue, table, count, exact, longest, within, origin, AreQueryWords}
use Rattle.ask_specs.specs.Asking.{AskValue, plain, rows, steps, full_marks, full_routers, AreAskWords, AsksForRows}
use Rattle.ask_specs.specs.Wrong.{AsksNothing}
use Rattle.ask_specs.proofs.PlainWords.{plain_front, query_plain}
use Rattle.ask_specs.proofs.FrontWords.{behind_flag, changes_no_front, differ_first, flag_one, full_isnt_steps}
use Rattle.ask_specs.proofs.WrongLaws.{lacks_space, line_words, marks_begin, other_verb, rows_behind}

-- `routers` is the verb of no query for rows
rows_no_routers : (query : QueryValue) (words x rest : List (List ℕ)) → AsksForRows query → AreQueryWords query words → ¬ (words ++ x ≡ codes "routers" ∷ rest)
rows_no_routers (table select) words x rest asks is e = other_verb (codes "table") (codes "routers") is.selectors words x rest (λ f. omega (arith, f)) is.spelled e
rows_no_routers (count select) words x rest asks is e = other_verb (codes "count") (codes "routers") is.selectors words x rest (λ f. omega (arith, f)) is.spelled e
rows_no_routers (exact prefix select) words x rest asks is e = other_verb (codes "prefix") (codes "routers") (is.text ∷ is.selectors) words x rest (λ f. omega (arith, f)) is.spelled e
rows_no_routers (longest address select) words x rest asks is e = other_verb (codes "match") (codes "routers") (is.text ∷ is.selectors) words x rest (λ f. omega (arith, f)) is.spelled e
rows_no_routers (within prefix select) words x rest asks is e = other_verb (codes "within") (codes "routers") (is.text ∷ is.selectors) words x rest (λ f. omega (arith, f)) is.spelled e
rows_no_routers (origin number select) words x rest asks is e = other_verb (codes "origin") (codes "routers") (is.text ∷ is.selectors) words x rest (λ f. omega (arith, f)) is.spelled e
rows_no_routers _ words x rest asks is e = absurd asks

routers_isnt_full : ¬ (codes "routers" ≡ codes "full")
routers_isnt_full e = omega (arith, ap (λ (l : List ℕ). get_or l 0 0) e)

-- nothing stands behind `full routers`
full_routers_behind : (words : List (List ℕ)) (next : List ℕ) (rest : List (List ℕ)) (ask : AskValue) → words ≡ codes "full" ∷ codes "routers" ∷ next ∷ rest → ¬ (AreAskWords ask words)
full_routers_behind words next rest (plain query) is are = plain_front words (codes "routers" ∷ next ∷ rest) (codes "full") (query_plain query words are) refl is
full_routers_behind words next rest (rows s f query traits) is are =
    rows_no_routers query are.query_words are.traits_words (next ∷ rest) are.asks are.is_query (rows_behind false [] (codes "routers") (next ∷ rest) s f query traits words refl routers_isnt_full is are)
full_routers_behind words next rest (steps f lane from prefix) is are =
    let tail = are.lane_text ∷ are.from_text ∷ are.prefix_words in
    let second = flag_one (codes "full") f true are.full_words (codes "full" ∷ []) (codes "changes" ∷ tail) (codes "routers" ∷ next ∷ rest) are.is_full refl
    (changes_no_front (codes "full") tail refl) (λ b. routers_isnt_full (let whole = b.1 in cc)) (sym are.spelled ∙ is) in
    differ_first (codes "changes") (codes "routers") (λ e. omega (arith, e)) (let whole = second.1 in cc)
full_routers_behind words next rest (full_marks select) is are =
    differ_first (codes "routers") (codes "marks") (λ e. omega (arith, e)) ((marks_begin select words are).1 (codes "routers") (next ∷ rest) is)
full_routers_behind words next rest full_routers is are =
    let whole : codes "full" ∷ codes "routers" ∷ [] ≡ codes "full" ∷ codes "routers" ∷ next ∷ rest = sym are ∙ is in
    absurd cc

-- and no `steps` before it
steps_full_routers : (words : List (List ℕ)) (ask : AskValue) → words ≡ codes "steps" ∷ codes "full" ∷ codes "routers" ∷ [] → ¬ (AreAskWords ask words)
steps_full_routers words (plain query) is are = plain_front words (codes "full" ∷ codes "routers" ∷ []) (codes "steps") (query_plain query words are) refl is
steps_full_routers words (rows s f query traits) is are =
    rows_no_routers query are.query_words are.traits_words [] are.asks are.is_query (rows_behind true (codes "steps" ∷ []) (codes "routers") [] s f query traits words refl routers_isnt_full is are)
steps_full_routers words (steps f lane from prefix) is are =
    let tail = are.lane_text ∷ are.from_text ∷ are.prefix_words in
    behind_flag f are.full_words (codes "changes" ∷ tail) are.is_full (changes_no_front (codes "steps") tail refl) (codes "full" ∷ codes "routers" ∷ [], sym are.spelled ∙ is)
steps_full_routers words (full_marks select) is are =
    let whole : codes "full" ∷ are.marks_words ≡ codes "steps" ∷ codes "full" ∷ codes "routers" ∷ [] = sym are.spelled ∙ is in
    let same : codes "full" ≡ codes "steps" = cc in
    full_isnt_steps same
steps_full_routers words full_routers is are =
    let whole : codes "full" ∷ codes "routers" ∷ [] ≡ codes "steps" ∷ codes "full" ∷ codes "routers" ∷ [] = sym are ∙ is in
    let same : codes "full" ≡ codes "steps" = cc in
    full_isnt_steps same

pub full_routers_through : AsksNothing (codes "full routers through 1")
full_routers_through ask is =
    full_routers_behind (codes "full" ∷ codes "routers" ∷ codes "through" ∷ codes "1" ∷ []) (codes "through") (codes "1" ∷ []) ask refl
    (line_words (codes "full routers through 1") (codes "full") (codes "routers" ∷ codes "through" ∷ codes "1" ∷ []) ask (lacks_space (codes "full") refl, (lacks_space (codes "routers") refl, (lacks_space (codes "through") refl, (lacks_space (codes "1") refl, tt)))) refl is)

pub full_routers_router : AsksNothing (codes "full routers router 1")
full_routers_router ask is =
    full_routers_behind (codes "full" ∷ codes "routers" ∷ codes "router" ∷ codes "1" ∷ []) (codes "router") (codes "1" ∷ []) ask refl
    (line_words (codes "full routers router 1") (codes "full") (codes "routers" ∷ codes "router" ∷ codes "1" ∷ []) ask (lacks_space (codes "full") refl, (lacks_space (codes "routers") refl, (lacks_space (codes "router") refl, (lacks_space (codes "1") refl, tt)))) refl is)

pub steps_before_full_routers : AsksNothing (codes "steps full routers")
steps_before_full_routers ask is =
    steps_full_routers (codes "steps" ∷ codes "full" ∷ codes "routers" ∷ []) ask refl
    (line_words (codes "steps full routers") (codes "steps") (codes "full" ∷ codes "routers" ∷ []) ask (lacks_space (codes "steps") refl, (lacks_space (codes "full") refl, (lacks_space (codes "routers") refl, tt))) refl is)
