-- Wrong cases, at values.
use Rattle.std.proofs.Common.{◌≡◌, ℕ, ◌==◌, cond, Bool, true, false, List, [], ◌∷◌, ◌++◌, All, Option, Some, None, codes, get_or, length, refl, sym, ap, subst, ◌∙◌, arith, append-nil}
use Rattle.std.specs.List.{AllByRecursion, join_with_byte}
use Rattle.std.specs.Fmt.{digits}
use Rattle.std.proofs.lemmas.Bool.{eq-eqb, true≢false}
use Rattle.bmp_specs.specs.AddressText.{dotted}
use Rattle.bmp_specs.specs.PeerText.{distinguisher_text, hex_text}
use Rattle.bmp_specs.specs.Query.{QueryValue, table, count, exact, longest, within, origin, AreQueryWords, IsSelector, IsWord, space}
use Rattle.bmp_specs.specs.Rows.{RowValue}
use Rattle.bmp_specs.specs.Selection.{SelectValue}
use Rattle.bmp_specs.specs.Values.{OtherValue}
use Rattle.ask_specs.specs.Asking.{AskValue, plain, rows, steps, full_marks, full_routers, AreAskWords, AreFullMarksWords, AreRowsWords, AreTraits, AsksForRows, IsAsk, IsFlag, TellsRows}
use Rattle.ask_specs.specs.Traits.{TraitsValue}
use Rattle.ask_specs.specs.TraitText.{IsThroughText, IsCommunityText, IsTypeText}
use Rattle.ask_specs.specs.Wrong.{AsksNothing, FlagsTell, DivisionTells}
use Rattle.ask_specs.proofs.PlainWords.{ArePaired, IsHeaded, by_one, by_two, headed_one, heads, is_front, is_trait, marks_headed, not_changes, plain_bare, plain_front, query_plain, rows_headed, traits_paired}
use Rattle.ask_specs.proofs.FrontWords.{Begins, behind_flag, changes_no_front, differ_first, flag_one, full_isnt_steps, headed_no_front, none_begins, other_selector, selector_one}
use Rattle.ask_specs.proofs.AskLaws.{ask_some}
use Rattle.ask_specs.proofs.CommunityOne.{community_one}
use Rattle.ask_specs.proofs.TraitOne.{through_one}
use Rattle.ask_specs.proofs.WordLaws.{Lacks, join_one, words_lack}

pub flags_tell : FlagsTell
unfolding digits hex_text dotted distinguisher_text
flags_tell = record {
  differ = λ e. omega (arith, ap (λ (row : RowValue). get_or (flags_in row.route.others) 0 0) e);
  line_is = λ lane. refl;
  others_are = refl;
  full_differ = λ e. omega (arith, ap (λ (l : List ℕ). get_or l 139 0) e);
}
  where
    flags_in : List OtherValue → List ℕ
    flags_in [] = []
    flags_in (o ∷ os) = o.flags ∷ []

pub division_tells : DivisionTells
unfolding digits hex_text dotted distinguisher_text
division_tells = record {
  line_is = λ lane. refl;
  full_differ = λ e. omega (arith, ap (λ (l : List ℕ). length l) e);
}

-- ---- lines that ask nothing
-- the words of a line, where there is a word
pub line_words : (line w : List ℕ) (ws : List (List ℕ)) (ask : AskValue) → AllByRecursion (Lacks space) (w ∷ ws) → line ≡ join_with_byte space (w ∷ ws) → IsAsk line ask → AreAskWords ask (w ∷ ws)
line_words line w ws ask lack e is =
    let (v, vs, some) = ask_some ask is.words is.asks in
    let lacks = words_lack (v ∷ vs) (subst (All IsWord) some is.are_words) in
    let same = join_one space w v ws vs lack.0 lack.1 lacks.0 lacks.1 (sym e ∙ is.joined ∙ ap (join_with_byte space) some) in
    subst (AreAskWords ask) (some ∙ sym same) is.asks

-- whether no byte is the space
abbrev pub spaceless : List ℕ → Bool
spaceless [] = true
spaceless (b ∷ bs) = cond (b == space) false (spaceless bs)

pub lacks_space : (text : List ℕ) → spaceless text ≡ true → Lacks space text
lacks_space [] e = tt
lacks_space (b ∷ bs) e = go (b == space) refl e (λ rest. lacks_space bs rest)
  where
    go : (t : Bool) → (b == space) ≡ t → cond t false (spaceless bs) ≡ true → (spaceless bs ≡ true → Lacks space bs) → Lacks space (b ∷ bs)
    go true told e later = absurd (true≢false (sym e))
    go false told e later = (λ same. true≢false (sym (eq-eqb b space same) ∙ told), later e)

-- the words of `full marks` begin with these two
pub marks_begin : (select : SelectValue) (words : List (List ℕ)) → AreFullMarksWords select words → Begins (codes "full") words × ((next : List ℕ) (rest : List (List ℕ)) → words ≡ codes "full" ∷ next ∷ rest → next ≡ codes "marks")
marks_begin select words are = (
  (are.marks_words, are.spelled),
  λ next rest e. (let whole : codes "full" ∷ codes "marks" ∷ are.are_marks.selectors ≡ codes "full" ∷ next ∷ rest = sym (are.spelled ∙ ap (λ (l : List (List ℕ)). codes "full" ∷ l) are.are_marks.spelled) ∙ e in
      let same : codes "marks" ≡ next = cc in sym same),
)

-- and those of `full routers` are these two
pub routers_only : (words rest : List (List ℕ)) (next : List ℕ) → words ≡ codes "full" ∷ codes "routers" ∷ [] → words ≡ codes "full" ∷ next ∷ rest → next ≡ codes "routers"
routers_only words rest next are is =
    let whole : codes "full" ∷ codes "routers" ∷ [] ≡ codes "full" ∷ next ∷ rest = sym are ∙ is in
    let same : codes "routers" ≡ next = cc in
    sym same

-- `full` stands before `steps` in no line
steps_behind_full : (rest : List (List ℕ)) (ask : AskValue) → ¬ (AreAskWords ask (codes "full" ∷ codes "steps" ∷ rest))
steps_behind_full rest (plain query) are = plain_front (codes "full" ∷ codes "steps" ∷ rest) (codes "steps" ∷ rest) (codes "full") (query_plain query (codes "full" ∷ codes "steps" ∷ rest) are) refl refl
steps_behind_full rest (rows s f query traits) are =
    let h = rows_headed query are.query_words are.asks are.is_query in
    let first = flag_one (codes "steps") s false are.steps_words [] (are.full_words ++ (are.query_words ++ are.traits_words)) (codes "full" ∷ codes "steps" ∷ rest) are.is_steps refl
    (behind_flag f are.full_words (are.query_words ++ are.traits_words) are.is_full (headed_no_front are.query_words are.traits_words (codes "steps") h refl))
    (λ b. full_isnt_steps (let whole = b.1 in let same : codes "full" ≡ codes "steps" = cc in same)) (sym are.spelled) in
    let second = flag_one (codes "full") f true are.full_words (codes "full" ∷ []) (are.query_words ++ are.traits_words) (codes "steps" ∷ rest) are.is_full refl
    (headed_no_front are.query_words are.traits_words (codes "full") h refl) (λ b. full_isnt_steps (let whole = b.1 in let same : codes "steps" ≡ codes "full" = cc in sym same)) first.1 in
    headed_no_front are.query_words are.traits_words (codes "steps") h refl (rest, second.1)
steps_behind_full rest (steps f lane from prefix) are =
    let tail = codes "changes" ∷ are.lane_text ∷ are.from_text ∷ are.prefix_words in
    let second = flag_one (codes "full") f true are.full_words (codes "full" ∷ []) tail (codes "steps" ∷ rest) are.is_full refl
    (changes_no_front (codes "full") (are.lane_text ∷ are.from_text ∷ are.prefix_words) refl) (λ b. full_isnt_steps (let whole = b.1 in let same : codes "steps" ≡ codes "full" = cc in sym same)) (sym are.spelled) in
    changes_no_front (codes "steps") (are.lane_text ∷ are.from_text ∷ are.prefix_words) refl (rest, second.1)
steps_behind_full rest (full_marks select) are =
    differ_first (codes "steps") (codes "marks") (λ e. omega (arith, e)) ((marks_begin select (codes "full" ∷ codes "steps" ∷ rest) are).1 (codes "steps") rest refl)
steps_behind_full rest full_routers are = differ_first (codes "steps") (codes "routers") (λ e. omega (arith, e)) (routers_only (codes "full" ∷ codes "steps" ∷ rest) rest (codes "steps") are refl)

pub full_steps : AsksNothing (codes "full steps table")
full_steps ask is =
    steps_behind_full (codes "table" ∷ []) ask
    (line_words (codes "full steps table") (codes "full") (codes "steps" ∷ codes "table" ∷ []) ask (lacks_space (codes "full") refl, (lacks_space (codes "steps") refl, (lacks_space (codes "table") refl, tt))) refl is)

-- words whose verb has another first letter don't begin with the word
pub other_verb : (verb word : List ℕ) (behind words x rest : List (List ℕ)) → ¬ (get_or verb 0 0 ≡ get_or word 0 0) → words ≡ verb ∷ behind → ¬ (words ++ x ≡ word ∷ rest)
other_verb verb word behind words x rest differ is e =
    let whole : verb ∷ (behind ++ x) ≡ word ∷ rest = ap (λ (l : List (List ℕ)). l ++ x) (sym is) ∙ e in
    let same : verb ≡ word = cc in
    differ_first verb word differ same

-- `count` is the verb of no query that tells rows
no_count : (query : QueryValue) (words x rest : List (List ℕ)) → TellsRows query → AreQueryWords query words → ¬ (words ++ x ≡ codes "count" ∷ rest)
no_count (table select) words x rest tells is e = other_verb (codes "table") (codes "count") is.selectors words x rest (λ f. omega (arith, f)) is.spelled e
no_count (exact prefix select) words x rest tells is e = other_verb (codes "prefix") (codes "count") (is.text ∷ is.selectors) words x rest (λ f. omega (arith, f)) is.spelled e
no_count (longest address select) words x rest tells is e = other_verb (codes "match") (codes "count") (is.text ∷ is.selectors) words x rest (λ f. omega (arith, f)) is.spelled e
no_count (within prefix select) words x rest tells is e = other_verb (codes "within") (codes "count") (is.text ∷ is.selectors) words x rest (λ f. omega (arith, f)) is.spelled e
no_count (origin number select) words x rest tells is e = other_verb (codes "origin") (codes "count") (is.text ∷ is.selectors) words x rest (λ f. omega (arith, f)) is.spelled e
no_count _ words x rest tells is e = absurd tells

-- `full` stands before a number of rows in no line
full_before_count : (words : List (List ℕ)) (ask : AskValue) → words ≡ codes "full" ∷ codes "count" ∷ [] → ¬ (AreAskWords ask words)
full_before_count words (plain query) is are = plain_front words (codes "count" ∷ []) (codes "full") (query_plain query words are) refl is
full_before_count words (rows s f query traits) is are =
    let h = rows_headed query are.query_words are.asks are.is_query in
    let first = flag_one (codes "steps") s false are.steps_words [] (are.full_words ++ (are.query_words ++ are.traits_words)) (codes "full" ∷ codes "count" ∷ []) are.is_steps refl
    (behind_flag f are.full_words (are.query_words ++ are.traits_words) are.is_full (headed_no_front are.query_words are.traits_words (codes "steps") h refl))
    (λ b. full_isnt_steps (let whole = b.1 in let same : codes "full" ≡ codes "steps" = cc in same)) (sym are.spelled ∙ is) in
    let second = flag_one (codes "full") f true are.full_words (codes "full" ∷ []) (are.query_words ++ are.traits_words) (codes "count" ∷ []) are.is_full refl
    (headed_no_front are.query_words are.traits_words (codes "full") h refl) (λ b. differ_first (codes "count") (codes "full") (λ e. omega (arith, e)) (let whole = b.1 in cc)) first.1 in
    no_count query are.query_words are.traits_words [] (are.told.1 second.0) are.is_query second.1
full_before_count words (steps f lane from prefix) is are =
    let tail = are.lane_text ∷ are.from_text ∷ are.prefix_words in
    let second = flag_one (codes "full") f true are.full_words (codes "full" ∷ []) (codes "changes" ∷ tail) (codes "count" ∷ []) are.is_full refl
    (changes_no_front (codes "full") tail refl) (λ b. differ_first (codes "count") (codes "full") (λ e. omega (arith, e)) (let whole = b.1 in cc)) (sym are.spelled ∙ is) in
    omega (arith, ap length second.1)
full_before_count words (full_marks select) is are =
    differ_first (codes "count") (codes "marks") (λ e. omega (arith, e)) ((marks_begin select words are).1 (codes "count") [] is)
full_before_count words full_routers is are = differ_first (codes "count") (codes "routers") (λ e. omega (arith, e)) (routers_only words [] (codes "count") are is)

pub full_count : AsksNothing (codes "full count")
full_count ask is =
    full_before_count (codes "full" ∷ codes "count" ∷ []) ask refl
    (line_words (codes "full count") (codes "full") (codes "count" ∷ []) ask (lacks_space (codes "full") refl, (lacks_space (codes "count") refl, tt)) refl is)

-- ---- `full marks` alone
-- words whose verb has another third letter don't begin with the word
other_third : (verb word : List ℕ) (behind words rest : List (List ℕ)) → ¬ (get_or verb 2 0 ≡ get_or word 2 0) → words ≡ verb ∷ behind → ¬ (words ≡ word ∷ rest)
other_third verb word behind words rest differ is e =
    let whole : verb ∷ behind ≡ word ∷ rest = sym is ∙ e in
    let same : verb ≡ word = cc in
    differ (ap (λ (l : List ℕ). get_or l 2 0) same)

-- `marks` is the verb of no query for rows
rows_no_marks : (query : QueryValue) (words rest : List (List ℕ)) → AsksForRows query → AreQueryWords query words → ¬ (words ≡ codes "marks" ∷ rest)
rows_no_marks (table select) words rest asks is e = other_third (codes "table") (codes "marks") is.selectors words rest (λ f. omega (arith, f)) is.spelled e
rows_no_marks (count select) words rest asks is e = other_third (codes "count") (codes "marks") is.selectors words rest (λ f. omega (arith, f)) is.spelled e
rows_no_marks (exact prefix select) words rest asks is e = other_third (codes "prefix") (codes "marks") (is.text ∷ is.selectors) words rest (λ f. omega (arith, f)) is.spelled e
rows_no_marks (longest address select) words rest asks is e = other_third (codes "match") (codes "marks") (is.text ∷ is.selectors) words rest (λ f. omega (arith, f)) is.spelled e
rows_no_marks (within prefix select) words rest asks is e = other_third (codes "within") (codes "marks") (is.text ∷ is.selectors) words rest (λ f. omega (arith, f)) is.spelled e
rows_no_marks (origin number select) words rest asks is e = other_third (codes "origin") (codes "marks") (is.text ∷ is.selectors) words rest (λ f. omega (arith, f)) is.spelled e
rows_no_marks _ words rest asks is e = absurd asks

-- a query for rows behind `full`, and `steps` or none, is told from what stands in front
pub rows_behind : (s : Bool) (front : List (List ℕ)) (next : List ℕ) (rest : List (List ℕ)) (t f : Bool) (query : QueryValue) (traits : TraitsValue) (words : List (List ℕ)) → IsFlag (codes "steps") s front → ¬ (next ≡ codes "full")
    → words ≡ front ++ (codes "full" ∷ next ∷ rest) → (are : AreRowsWords t f query traits words) → are.query_words ++ are.traits_words ≡ next ∷ rest
rows_behind s front next rest t f query traits words is_front_flag isnt is are =
    let h = rows_headed query are.query_words are.asks are.is_query in
    let first = flag_one (codes "steps") t s are.steps_words front (are.full_words ++ (are.query_words ++ are.traits_words)) (codes "full" ∷ next ∷ rest) are.is_steps is_front_flag
    (behind_flag f are.full_words (are.query_words ++ are.traits_words) are.is_full (headed_no_front are.query_words are.traits_words (codes "steps") h refl))
    (λ b. full_isnt_steps (let whole = b.1 in let same : codes "full" ≡ codes "steps" = cc in same)) (sym are.spelled ∙ is) in
    let second = flag_one (codes "full") f true are.full_words (codes "full" ∷ []) (are.query_words ++ are.traits_words) (next ∷ rest) are.is_full refl
    (headed_no_front are.query_words are.traits_words (codes "full") h refl) (λ b. isnt (let whole = b.1 in cc)) first.1 in
    second.1

marks_isnt_full : ¬ (codes "marks" ≡ codes "full")
marks_isnt_full e = omega (arith, ap (λ (l : List ℕ). get_or l 0 0) e)

-- no query for rows stands there
no_rows_behind : (s : Bool) (front x : List (List ℕ)) (t f : Bool) (query : QueryValue) (traits : TraitsValue) (words : List (List ℕ)) → IsFlag (codes "steps") s front → ArePaired true x
    → words ≡ front ++ (codes "full" ∷ codes "marks" ∷ x) → ¬ (AreRowsWords t f query traits words)
no_rows_behind s front x t f query traits words flag paired is are =
    let e = rows_behind s front (codes "marks") x t f query traits words flag marks_isnt_full is are in
    let h : IsHeaded (codes "marks" ∷ []) = by_one (codes "marks") [] refl refl refl tt in
    let parts = headed_one are.query_words (codes "marks" ∷ []) are.traits_words x (rows_headed query are.query_words are.asks are.is_query) h (traits_paired traits are.traits_words are.are_traits) paired e in
    rows_no_marks query are.query_words [] are.asks are.is_query parts.0

full_marks_behind : (words : List (List ℕ)) (ask : AskValue) → words ≡ codes "full" ∷ codes "marks" ∷ codes "through" ∷ codes "1" ∷ [] → ¬ (AreAskWords ask words)
full_marks_behind words (plain query) is are = plain_front words (codes "marks" ∷ codes "through" ∷ codes "1" ∷ []) (codes "full") (query_plain query words are) refl is
full_marks_behind words (rows s f query traits) is are = no_rows_behind false [] (codes "through" ∷ codes "1" ∷ []) s f query traits words refl (refl, tt) is are
full_marks_behind words (steps f lane from prefix) is are =
    let tail = are.lane_text ∷ are.from_text ∷ are.prefix_words in
    let second = flag_one (codes "full") f true are.full_words (codes "full" ∷ []) (codes "changes" ∷ tail) (codes "marks" ∷ codes "through" ∷ codes "1" ∷ []) are.is_full refl
    (changes_no_front (codes "full") tail refl) (λ b. marks_isnt_full (let whole = b.1 in cc)) (sym are.spelled ∙ is) in
    differ_first (codes "changes") (codes "marks") (λ e. omega (arith, e)) (let whole = second.1 in cc)
full_marks_behind words (full_marks select) is are =
    let whole : codes "full" ∷ are.marks_words ≡ codes "full" ∷ codes "marks" ∷ codes "through" ∷ codes "1" ∷ [] = sym are.spelled ∙ is in
    let rest : are.marks_words ≡ codes "marks" ∷ codes "through" ∷ codes "1" ∷ [] = cc in
    let h : IsHeaded (codes "marks" ∷ []) = by_one (codes "marks") [] refl refl refl tt in
    let parts = headed_one are.marks_words (codes "marks" ∷ []) [] (codes "through" ∷ codes "1" ∷ []) (marks_headed select are.marks_words are.are_marks) h tt (refl, tt) (append-nil are.marks_words ∙ rest) in
    let none = parts.1 in
    omega (arith, ap length none)
full_marks_behind words full_routers is are = differ_first (codes "marks") (codes "routers") (λ e. omega (arith, e)) (routers_only words (codes "through" ∷ codes "1" ∷ []) (codes "marks") are is)

steps_full_marks : (words : List (List ℕ)) (ask : AskValue) → words ≡ codes "steps" ∷ codes "full" ∷ codes "marks" ∷ [] → ¬ (AreAskWords ask words)
steps_full_marks words (plain query) is are = plain_front words (codes "full" ∷ codes "marks" ∷ []) (codes "steps") (query_plain query words are) refl is
steps_full_marks words (rows s f query traits) is are = no_rows_behind true (codes "steps" ∷ []) [] s f query traits words refl tt is are
steps_full_marks words (steps f lane from prefix) is are =
    let tail = are.lane_text ∷ are.from_text ∷ are.prefix_words in
    behind_flag f are.full_words (codes "changes" ∷ tail) are.is_full (changes_no_front (codes "steps") tail refl) (codes "full" ∷ codes "marks" ∷ [], sym are.spelled ∙ is)
steps_full_marks words (full_marks select) is are =
    let whole : codes "full" ∷ are.marks_words ≡ codes "steps" ∷ codes "full" ∷ codes "marks" ∷ [] = sym are.spelled ∙ is in
    let same : codes "full" ≡ codes "steps" = cc in
    full_isnt_steps same
steps_full_marks words full_routers is are =
    let whole : codes "full" ∷ codes "routers" ∷ [] ≡ codes "steps" ∷ codes "full" ∷ codes "marks" ∷ [] = sym are ∙ is in
    let same : codes "full" ≡ codes "steps" = cc in
    full_isnt_steps same

cut_isnt_full : ¬ (codes "cut" ≡ codes "full")
cut_isnt_full e = omega (arith, ap (λ (l : List ℕ). get_or l 0 0) e)

-- `cut` takes nothing behind it
not_cut : (a x rest : List (List ℕ)) → IsHeaded a → ¬ (a ++ x ≡ codes "cut" ∷ rest)
not_cut a x rest (by_one v more is front n p) e =
    let whole : v ∷ (more ++ x) ≡ codes "cut" ∷ rest = ap (λ (l : List (List ℕ)). l ++ x) (sym is) ∙ e in
    let first : v ≡ codes "cut" = cc in
    let none : heads v ≡ 0 = ap heads first in
    omega (arith, n, none)
not_cut a x rest (by_two v t more is front n p) e =
    let whole : v ∷ t ∷ (more ++ x) ≡ codes "cut" ∷ rest = ap (λ (l : List (List ℕ)). l ++ x) (sym is) ∙ e in
    let first : v ≡ codes "cut" = cc in
    let none : heads v ≡ 0 = ap heads first in
    omega (arith, n, none)

full_before_cut : (words : List (List ℕ)) (ask : AskValue) → words ≡ codes "full" ∷ codes "cut" ∷ [] → ¬ (AreAskWords ask words)
full_before_cut words (plain query) is are = plain_front words (codes "cut" ∷ []) (codes "full") (query_plain query words are) refl is
full_before_cut words (rows s f query traits) is are =
    not_cut are.query_words are.traits_words [] (rows_headed query are.query_words are.asks are.is_query) (rows_behind false [] (codes "cut") [] s f query traits words refl cut_isnt_full is are)
full_before_cut words (steps f lane from prefix) is are =
    let tail = are.lane_text ∷ are.from_text ∷ are.prefix_words in
    let second = flag_one (codes "full") f true are.full_words (codes "full" ∷ []) (codes "changes" ∷ tail) (codes "cut" ∷ []) are.is_full refl
    (changes_no_front (codes "full") tail refl) (λ b. cut_isnt_full (let whole = b.1 in cc)) (sym are.spelled ∙ is) in
    omega (arith, ap length second.1)
full_before_cut words (full_marks select) is are =
    differ_first (codes "cut") (codes "marks") (λ e. omega (arith, e)) ((marks_begin select words are).1 (codes "cut") [] is)
full_before_cut words full_routers is are = differ_first (codes "cut") (codes "routers") (λ e. omega (arith, e)) (routers_only words [] (codes "cut") are is)

pub full_marks_through : AsksNothing (codes "full marks through 1")
full_marks_through ask is =
    full_marks_behind (codes "full" ∷ codes "marks" ∷ codes "through" ∷ codes "1" ∷ []) ask refl
    (line_words (codes "full marks through 1") (codes "full") (codes "marks" ∷ codes "through" ∷ codes "1" ∷ []) ask (lacks_space (codes "full") refl, (lacks_space (codes "marks") refl, (lacks_space (codes "through") refl, (lacks_space (codes "1") refl, tt)))) refl is)

pub steps_before_full_marks : AsksNothing (codes "steps full marks")
steps_before_full_marks ask is =
    steps_full_marks (codes "steps" ∷ codes "full" ∷ codes "marks" ∷ []) ask refl
    (line_words (codes "steps full marks") (codes "steps") (codes "full" ∷ codes "marks" ∷ []) ask (lacks_space (codes "steps") refl, (lacks_space (codes "full") refl, (lacks_space (codes "marks") refl, tt))) refl is)

pub full_cut : AsksNothing (codes "full cut")
full_cut ask is =
    full_before_cut (codes "full" ∷ codes "cut" ∷ []) ask refl
    (line_words (codes "full cut") (codes "full") (codes "cut" ∷ []) ask (lacks_space (codes "full") refl, (lacks_space (codes "cut") refl, tt)) refl is)

-- nothing stands behind `other` and its text
nothing_behind : (traits : TraitsValue) (text next : List ℕ) (rest : List (List ℕ)) → ¬ (AreTraits traits (codes "other" ∷ text ∷ next ∷ rest))
nothing_behind traits text next rest are =
    let words = codes "other" ∷ text ∷ next ∷ rest in
    let first = selector_one (codes "through") IsThroughText through_one traits.through None are.through_words [] (are.community_words ++ are.other_words) words are.is_through refl
    (other_selector (codes "through") (codes "community") IsCommunityText traits.community are.community_words are.other_words (differ_first (codes "community") (codes "through") (λ e. omega (arith, e))) are.is_community
    (λ b. other_selector (codes "through") (codes "other") IsTypeText traits.other are.other_words [] (differ_first (codes "other") (codes "through") (λ e. omega (arith, e))) are.is_other (none_begins (codes "through")) (b.0, append-nil are.other_words ∙ b.1)))
    (λ b. differ_first (codes "other") (codes "through") (λ e. omega (arith, e)) (let whole = b.1 in cc)) (sym are.spelled) in
    let second = selector_one (codes "community") IsCommunityText community_one traits.community None are.community_words [] are.other_words words are.is_community refl
    (λ b. other_selector (codes "community") (codes "other") IsTypeText traits.other are.other_words [] (differ_first (codes "other") (codes "community") (λ e. omega (arith, e))) are.is_other (none_begins (codes "community")) (b.0, append-nil are.other_words ∙ b.1))
    (λ b. differ_first (codes "other") (codes "community") (λ e. omega (arith, e)) (let whole = b.1 in cc)) first.1 in
    last traits.other are.other_words are.is_other second.1
  where
    last : (v : Option ℕ) (words : List (List ℕ)) → IsSelector (codes "other") IsTypeText v words → ¬ (words ≡ codes "other" ∷ text ∷ next ∷ rest)
    last None words is e = let none : [] ≡ codes "other" ∷ text ∷ next ∷ rest = sym is ∙ e in absurd cc
    last (Some v) words (said, said_is, is) e = let short : codes "other" ∷ said ∷ [] ≡ codes "other" ∷ text ∷ next ∷ rest = sym is ∙ e in absurd cc

-- a verb of rows alone, and selectors of path attributes of which `other` isn't the last
trait_behind_other : (verb text next said : List ℕ) (ask : AskValue) → is_front verb ≡ false → heads verb ≡ 1 → is_trait next ≡ true → ¬ (AreAskWords ask (verb ∷ codes "other" ∷ text ∷ next ∷ said ∷ []))
trait_behind_other verb text next said ask front one new are =
    let words = verb ∷ codes "other" ∷ text ∷ next ∷ said ∷ [] in
    let x = codes "other" ∷ text ∷ next ∷ said ∷ [] in
    let paired : ArePaired true x = (refl, (new, tt)) in
    let h : IsHeaded (verb ∷ []) = by_one verb [] refl front one tt in
    by_ask words x h paired refl ask are refl
  where
    by_ask : (words x : List (List ℕ)) → IsHeaded (verb ∷ []) → ArePaired true x → words ≡ verb ∷ x → (a : AskValue) → AreAskWords a words → x ≡ codes "other" ∷ text ∷ next ∷ said ∷ [] → ⊥
    by_ask words x h paired is (plain query) are same =
        let none : x ≡ [] = plain_bare words (verb ∷ []) x (query_plain query words are) h paired is in
        let both : [] ≡ codes "other" ∷ text ∷ next ∷ said ∷ [] = sym none ∙ same in
        absurd cc
    by_ask words x h paired is (rows s f query traits) are same =
        let hq = rows_headed query are.query_words are.asks are.is_query in
        let no_front : (w : List ℕ) → is_front w ≡ true → ¬ (Begins w words) = λ w new b. headed_no_front (verb ∷ []) x w h new (b.0, sym is ∙ b.1) in
        let first = flag_one (codes "steps") s false are.steps_words [] (are.full_words ++ (are.query_words ++ are.traits_words)) words are.is_steps refl
        (behind_flag f are.full_words (are.query_words ++ are.traits_words) are.is_full (headed_no_front are.query_words are.traits_words (codes "steps") hq refl))
        (no_front (codes "steps") refl) (sym are.spelled) in
        let second = flag_one (codes "full") f false are.full_words [] (are.query_words ++ are.traits_words) words are.is_full refl
        (headed_no_front are.query_words are.traits_words (codes "full") hq refl) (no_front (codes "full") refl) first.1 in
        let parts = headed_one are.query_words (verb ∷ []) are.traits_words x hq h (traits_paired traits are.traits_words are.are_traits) paired (second.1 ∙ is) in
        nothing_behind traits text next (said ∷ []) (subst (AreTraits traits) (parts.1 ∙ same) are.are_traits)
    by_ask words x h paired is (steps f lane from prefix) are same =
        let tail = are.lane_text ∷ are.from_text ∷ are.prefix_words in
        let second = flag_one (codes "full") f false are.full_words [] (codes "changes" ∷ tail) words are.is_full refl
        (changes_no_front (codes "full") tail refl) (λ b. headed_no_front (verb ∷ []) x (codes "full") h refl (b.0, sym is ∙ b.1)) (sym are.spelled) in
        not_changes (verb ∷ []) x tail h (sym is ∙ sym second.1)
    by_ask words x h paired is (full_marks select) are same =
        let b = (marks_begin select words are).0 in
        headed_no_front (verb ∷ []) x (codes "full") h refl (b.0, sym is ∙ b.1)
    by_ask words x h paired is full_routers are same = headed_no_front (verb ∷ []) x (codes "full") h refl (codes "routers" ∷ [], sym is ∙ are)

pub other_through : AsksNothing (codes "table other 35 through 64500")
other_through ask is =
    trait_behind_other (codes "table") (codes "35") (codes "through") (codes "64500") ask refl refl refl
    (line_words (codes "table other 35 through 64500") (codes "table") (codes "other" ∷ codes "35" ∷ codes "through" ∷ codes "64500" ∷ []) ask
    (lacks_space (codes "table") refl, (lacks_space (codes "other") refl, (lacks_space (codes "35") refl, (lacks_space (codes "through") refl, (lacks_space (codes "64500") refl, tt))))) refl is)
