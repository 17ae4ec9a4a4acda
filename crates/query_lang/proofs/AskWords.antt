-- A line asks what its words ask: `steps` and `full`, or none of them, and what stands behind these.
use Rattle.std.proofs.Common.{◌≡◌, ℕ, ◌≤◌, Bool, true, false, List, [], ◌∷◌, ◌++◌, Option, None, Some, ◌-◌, get_or, length, take, drop, codes, refl, sym, ap, subst, ◌∙◌, arith, append-nil}
use Rattle.std.proofs.lemmas.Bool.{true≢false}
use Rattle.std.proofs.lemmas.List.{take_rest}
use Rattle.std.specs.Prelude.{IfNone}
use Rattle.bmp_specs.specs.PrefixText.{IsPrefixText}
use Rattle.bmp_specs.specs.Query.{QueryValue, changes, marks, table, count, exact, longest, within, origin, AreQueryWords, IsQuery}
use Rattle.bmp_specs.specs.Selection.{SelectValue}
use Rattle.bmp_specs.specs.Values.{PrefixValue}
use Rattle.ask_specs.specs.Asking.{AskValue, plain, rows, steps, full_marks, full_routers, AreAskWords, AreTraits, AsksForRows, IsAsk, IsFlag, IsFurtherChanges, IsMore, IsPrefixWord, TellsRows}
use Rattle.ask_specs.specs.Offer.{IsOfferedAsk}
use Rattle.ask_specs.specs.Traits.{TraitsValue, no_traits}
use Rattle.ask_specs.proofs.AskLaws.{SomeWord, ask_some}
use Rattle.ask_specs.proofs.FrontWords.{Begins, behind_flag, changes_no_front, differ_first, headed_no_front, routers_no_front}
use Rattle.ask_specs.proofs.PlainWords.{IsHeaded, by_one, by_two, is_front, marks_headed, not_changes, rows_headed}
use Rattle.query_lang.specs.Reading.{words_of, further_words, AreChangesWords, AsksBehind, AsksWith, EndsWith, TakesFirst, Unnamed}
use Rattle.query_lang.specs.declared.ask.Ask.{Ask}
use Rattle.query_lang.proofs.LineWords.{is_query, joined_words, line_joined, query_asks}

asks_offered : (line : List ℕ) (v : AskValue) → AreAskWords v (words_of line) → IsOfferedAsk line v
asks_offered line v asks = let (are, joined) = line_joined line in record { is_ask = record { words = words_of line; are_words = are; joined = joined; asks = asks }; is_offered = tt }

pub asked_words : (line : List ℕ) (v : AskValue) → IsAsk line v → AreAskWords v (words_of line)
asked_words line v is =
    let (w, ws, e) = ask_some v is.words is.asks in
    subst (AreAskWords v) (sym (joined_words line is.words (omega (arith, ap length e)) is.are_words is.joined)) is.asks

-- ---- a query for rows
no_trait_words : (words : List (List ℕ)) → AreTraits no_traits words → words ≡ []
no_trait_words words are = are.spelled ∙ (λ i. are.is_through i ++ (are.is_community i ++ are.is_other i))

-- what stands before selectors of path attributes is the query
pub asked_before : (front : List ℕ) (q : QueryValue) (t : TraitsValue) (words : List (List ℕ)) → EndsWith t words (words_of front) → IsQuery front q → AsksForRows q → AsksWith q t words
asked_before front q t words ends is asks = record { front = words_of front; back = ends.back; asks = asks; is_query = query_asks front q is; are_traits = ends.are_traits; spelled = ends.spelled }

pub only_before : (front : List ℕ) (q v : QueryValue) (t u : TraitsValue) (words : List (List ℕ)) (asks : AsksWith v t words) → (t ≡ u) × (asks.front ≡ words_of front) → ((w : QueryValue) → IsQuery front w → w ≡ q) → (v ≡ q) × (t ≡ u)
only_before front q v t u words asks same one = (one v (is_query front v (subst (AreQueryWords v) same.1 asks.is_query)), same.0)

pub none_before : (front : List ℕ) (v : QueryValue) (t : TraitsValue) (words : List (List ℕ)) (asks : AsksWith v t words) → asks.front ≡ words_of front → ((w : QueryValue) → IsQuery front w → ⊥) → ⊥
none_before front v t words asks same none = none v (is_query front v (subst (AreQueryWords v) same asks.is_query))

-- ---- a word in front
pub takes_first : (word : List ℕ) (words others : List (List ℕ)) → words ≡ word ∷ others → TakesFirst word words true others
takes_first word words others is = record { front = word ∷ []; is_flag = refl; spelled = is; unnamed = λ e. absurd (true≢false e) }

pub takes_no_first : (word : List ℕ) (words : List (List ℕ)) → Unnamed word words → TakesFirst word words false words
takes_no_first word words unnamed = record { front = []; is_flag = refl; spelled = refl; unnamed = λ e. unnamed }

-- another word stands in front
pub other_unnamed : (word first : List ℕ) (words others : List (List ℕ)) → words ≡ first ∷ others → (first ≡ word → ⊥) → Unnamed word words
other_unnamed word first words others is differ text more e =
    let whole : first ∷ others ≡ word ∷ text ∷ more = sym is ∙ e in
    let same : first ≡ word = cc in
    differ same

-- what stands behind a space
abbrev behind : List ℕ → List ℕ
behind rest = take (length rest - 1) (drop 1 rest)

behind_mark : (rest : List ℕ) → 1 ≤ length rest → further_words rest ≡ words_of (behind rest)
behind_mark [] some = absurd (omega (arith, some))
behind_mark (mark ∷ text) some = ap (λ (l : List ℕ). words_of l) (sym (take_rest (mark ∷ text) 1))

pub takes_word : (word : List ℕ) (words : List (List ℕ)) (rest : List ℕ) → words ≡ word ∷ further_words rest → 1 ≤ length rest → TakesFirst word words true (words_of (behind rest))
takes_word word words rest is some = takes_first word words (words_of (behind rest)) (is ∙ ap (λ (l : List (List ℕ)). word ∷ l) (behind_mark rest some))

-- what was taken is the only way to take the word
first_one : (word : List ℕ) (s t : Bool) (u x words others : List (List ℕ)) → IsFlag word s u → ¬ (Begins word x) → SomeWord x → words ≡ u ++ x → TakesFirst word words t others → (s ≡ t) × (x ≡ others)
first_one word true true u x words others is no_word some spelled taken =
    let whole : word ∷ x ≡ word ∷ others = ap (λ (l : List (List ℕ)). l ++ x) (sym is) ∙ sym spelled ∙ taken.spelled ∙ ap (λ (l : List (List ℕ)). l ++ others) taken.is_flag in
    (refl, cc)
first_one word false false u x words others is no_word some spelled taken =
    (refl, ap (λ (l : List (List ℕ)). l ++ x) (sym is) ∙ sym spelled ∙ taken.spelled ∙ ap (λ (l : List (List ℕ)). l ++ others) taken.is_flag)
first_one word true false u x words others is no_word (w, ws, some) spelled taken =
    let whole : others ≡ word ∷ w ∷ ws = ap (λ (l : List (List ℕ)). l ++ others) (sym taken.is_flag) ∙ sym taken.spelled ∙ spelled ∙ ap (λ (l : List (List ℕ)). l ++ x) is ∙ ap (λ (l : List (List ℕ)). word ∷ l) some in
    absurd (taken.unnamed refl w ws whole)
first_one word false true u x words others is no_word some spelled taken =
    absurd (no_word (others, ap (λ (l : List (List ℕ)). l ++ x) (sym is) ∙ sym spelled ∙ taken.spelled ∙ ap (λ (l : List (List ℕ)). l ++ others) taken.is_flag))

some_behind : (f : Bool) (words x : List (List ℕ)) → IsFlag (codes "full") f words → SomeWord x → SomeWord (words ++ x)
some_behind true words x is some = (codes "full", x, ap (λ (l : List (List ℕ)). l ++ x) is)
some_behind false words x is (w, ws, some) = (w, ws, ap (λ (l : List (List ℕ)). l ++ x) is ∙ some)

some_headed : (a x : List (List ℕ)) → IsHeaded a → SomeWord (a ++ x)
some_headed a x (by_one verb rest is front n p) = (verb, rest ++ x, ap (λ (l : List (List ℕ)). l ++ x) is)
some_headed a x (by_two verb text rest is front n p) = (verb, text ∷ (rest ++ x), ap (λ (l : List (List ℕ)). l ++ x) is)

-- ---- behind `changes`
pub changes_none : (s f : Bool) (rest : List (List ℕ)) → (s ≡ false → (lane from : ℕ) (p : Option PrefixValue) → AreChangesWords lane from p (codes "changes" ∷ rest) → ⊥) → (v : AskValue) → AsksBehind s f (codes "changes" ∷ rest) v → ⊥
changes_none s f rest none (plain q) asks = asks
changes_none s f rest none (rows u g q t) asks = let with_traits = asks.2 in not_changes with_traits.front with_traits.back rest (rows_headed q with_traits.front with_traits.asks with_traits.is_query) (sym with_traits.spelled)
changes_none s f rest none (steps g lane from p) asks = none asks.0 lane from p asks.2
changes_none s f rest none (full_marks select) asks = not_changes (codes "changes" ∷ rest) [] rest (marks_headed select (codes "changes" ∷ rest) asks.2) (append-nil (codes "changes" ∷ rest))
changes_none s f rest none full_routers asks =
    let whole : codes "changes" ∷ rest ≡ codes "routers" ∷ [] = asks.2 in
    let same : codes "changes" ≡ codes "routers" = cc in
    differ_first (codes "changes") (codes "routers") (λ e. omega (arith, e)) same

-- ---- behind `marks`
-- a verb with another third letter
other_verb : (verb : List ℕ) (behind words x others : List (List ℕ)) → ¬ (get_or verb 2 0 ≡ get_or (codes "marks") 2 0) → words ≡ verb ∷ behind → ¬ (words ++ x ≡ codes "marks" ∷ others)
other_verb verb behind words x others differ is e =
    let whole : verb ∷ (behind ++ x) ≡ codes "marks" ∷ others = ap (λ (l : List (List ℕ)). l ++ x) (sym is) ∙ e in
    let same : verb ≡ codes "marks" = cc in
    differ (ap (λ (l : List ℕ). get_or l 2 0) same)

-- a query for rows doesn't begin so
not_marks : (q : QueryValue) (words x others : List (List ℕ)) → AsksForRows q → AreQueryWords q words → ¬ (words ++ x ≡ codes "marks" ∷ others)
not_marks (table select) words x others asks is e = other_verb (codes "table") is.selectors words x others (λ f. omega (arith, f)) is.spelled e
not_marks (count select) words x others asks is e = other_verb (codes "count") is.selectors words x others (λ f. omega (arith, f)) is.spelled e
not_marks (exact prefix select) words x others asks is e = other_verb (codes "prefix") (is.text ∷ is.selectors) words x others (λ f. omega (arith, f)) is.spelled e
not_marks (longest address select) words x others asks is e = other_verb (codes "match") (is.text ∷ is.selectors) words x others (λ f. omega (arith, f)) is.spelled e
not_marks (within prefix select) words x others asks is e = other_verb (codes "within") (is.text ∷ is.selectors) words x others (λ f. omega (arith, f)) is.spelled e
not_marks (origin number select) words x others asks is e = other_verb (codes "origin") (is.text ∷ is.selectors) words x others (λ f. omega (arith, f)) is.spelled e
not_marks _ words x others asks is e = absurd asks

-- behind `marks` only selectors of marks are asked
marks_none : (s f : Bool) (words : List (List ℕ)) (word : List ℕ) (others : List (List ℕ)) → words ≡ word ∷ others → word ≡ codes "marks" → ((select : SelectValue) → AsksBehind s f words (full_marks select) → ⊥) → (v : AskValue) → AsksBehind s f words v → ⊥
marks_none s f words word others split named none (plain q) asks = asks
marks_none s f words word others split named none (rows u g q t) asks =
    let with_traits = asks.2 in
    not_marks q with_traits.front with_traits.back others with_traits.asks with_traits.is_query (sym with_traits.spelled ∙ split ∙ ap (λ (w : List ℕ). w ∷ others) named)
marks_none s f words word others split named none (steps g lane from p) asks =
    let are = asks.2 in
    let whole : codes "changes" ∷ are.lane_text ∷ are.from_text ∷ are.prefix_words ≡ word ∷ others = sym are.spelled ∙ split in
    let same : codes "changes" ≡ word = cc in
    omega (arith, ap (λ (l : List ℕ). get_or l 0 0) (same ∙ named))
marks_none s f words word others split named none (full_marks select) asks = none select asks
marks_none s f words word others split named none full_routers asks =
    let whole : codes "routers" ∷ [] ≡ word ∷ others = sym asks.2 ∙ split in
    let same : codes "routers" ≡ word = cc in
    differ_first (codes "routers") (codes "marks") (λ e. omega (arith, e)) (same ∙ named)

pub no_marks_behind : (s f : Bool) (words : List (List ℕ)) (word : List ℕ) (others : List (List ℕ)) (r : Option Ask) → words ≡ word ∷ others → word ≡ codes "marks" → IfNone r ((select : SelectValue) → AsksBehind s f words (full_marks select) → ⊥) → IfNone r ((v : AskValue) → AsksBehind s f words v → ⊥)
no_marks_behind s f words word others (Some a) split named none = tt
no_marks_behind s f words word others None split named none = marks_none s f words word others split named none

-- ---- behind `routers`
-- a verb with another first letter
other_first : (verb : List ℕ) (behind words x others : List (List ℕ)) → ¬ (get_or verb 0 0 ≡ get_or (codes "routers") 0 0) → words ≡ verb ∷ behind → ¬ (words ++ x ≡ codes "routers" ∷ others)
other_first verb behind words x others differ is e =
    let whole : verb ∷ (behind ++ x) ≡ codes "routers" ∷ others = ap (λ (l : List (List ℕ)). l ++ x) (sym is) ∙ e in
    let same : verb ≡ codes "routers" = cc in
    differ_first verb (codes "routers") differ same

-- a query for rows doesn't begin so
not_routers : (q : QueryValue) (words x others : List (List ℕ)) → AsksForRows q → AreQueryWords q words → ¬ (words ++ x ≡ codes "routers" ∷ others)
not_routers (table select) words x others asks is e = other_first (codes "table") is.selectors words x others (λ f. omega (arith, f)) is.spelled e
not_routers (count select) words x others asks is e = other_first (codes "count") is.selectors words x others (λ f. omega (arith, f)) is.spelled e
not_routers (exact prefix select) words x others asks is e = other_first (codes "prefix") (is.text ∷ is.selectors) words x others (λ f. omega (arith, f)) is.spelled e
not_routers (longest address select) words x others asks is e = other_first (codes "match") (is.text ∷ is.selectors) words x others (λ f. omega (arith, f)) is.spelled e
not_routers (within prefix select) words x others asks is e = other_first (codes "within") (is.text ∷ is.selectors) words x others (λ f. omega (arith, f)) is.spelled e
not_routers (origin number select) words x others asks is e = other_first (codes "origin") (is.text ∷ is.selectors) words x others (λ f. omega (arith, f)) is.spelled e
not_routers _ words x others asks is e = absurd asks

-- behind `routers` nothing is asked but it alone
pub routers_none : (s f : Bool) (rest : List (List ℕ)) → (s ≡ false → f ≡ true → rest ≡ [] → ⊥) → (v : AskValue) → AsksBehind s f (codes "routers" ∷ rest) v → ⊥
routers_none s f rest none (plain q) asks = asks
routers_none s f rest none (rows u g q t) asks = let with_traits = asks.2 in not_routers q with_traits.front with_traits.back rest with_traits.asks with_traits.is_query (sym with_traits.spelled)
routers_none s f rest none (steps g lane from p) asks =
    let are = asks.2 in
    let whole : codes "changes" ∷ are.lane_text ∷ are.from_text ∷ are.prefix_words ≡ codes "routers" ∷ rest = sym are.spelled in
    let same : codes "changes" ≡ codes "routers" = cc in
    differ_first (codes "changes") (codes "routers") (λ e. omega (arith, e)) same
routers_none s f rest none (full_marks select) asks =
    let are = asks.2 in
    let whole : codes "marks" ∷ are.selectors ≡ codes "routers" ∷ rest = sym are.spelled in
    let same : codes "marks" ≡ codes "routers" = cc in
    differ_first (codes "marks") (codes "routers") (λ e. omega (arith, e)) same
routers_none s f rest none full_routers asks =
    let whole : codes "routers" ∷ rest ≡ codes "routers" ∷ [] = asks.2 in
    none asks.0 asks.1 cc

-- words other than `changes`, `marks` and `routers` ask for rows
pub rows_none : (s f : Bool) (words : List (List ℕ)) (word : List ℕ) (others : List (List ℕ)) → words ≡ word ∷ others → (word ≡ codes "changes" → ⊥) → (word ≡ codes "marks" → ⊥) → (word ≡ codes "routers" → ⊥) → ((q : QueryValue) (t : TraitsValue) → AsksWith q t words → (s ≡ true → TellsRows q) → (f ≡ true → TellsRows q) → ⊥)
    → (v : AskValue) → AsksBehind s f words v → ⊥
rows_none s f words word others split other unmarked unrouted none (plain q) asks = asks
rows_none s f words word others split other unmarked unrouted none (rows u g q t) asks = none q t asks.2 asks.3 asks.4
rows_none s f words word others split other unmarked unrouted none (steps g lane from p) asks =
    let are = asks.2 in
    let whole : word ∷ others ≡ codes "changes" ∷ are.lane_text ∷ are.from_text ∷ are.prefix_words = sym split ∙ are.spelled in
    let same : word ≡ codes "changes" = cc in
    other same
rows_none s f words word others split other unmarked unrouted none (full_marks select) asks =
    let are = asks.2 in
    let whole : word ∷ others ≡ codes "marks" ∷ are.selectors = sym split ∙ are.spelled in
    let same : word ≡ codes "marks" = cc in
    unmarked same
rows_none s f words word others split other unmarked unrouted none full_routers asks =
    let whole : word ∷ others ≡ codes "routers" ∷ [] = sym split ∙ asks.2 in
    let same : word ≡ codes "routers" = cc in
    unrouted same

pub no_rows_behind : (s f : Bool) (words : List (List ℕ)) (word : List ℕ) (others : List (List ℕ)) (q : QueryValue) (t : TraitsValue) (r : Option Ask) → words ≡ word ∷ others → (word ≡ codes "changes" → ⊥) → (word ≡ codes "marks" → ⊥) → (word ≡ codes "routers" → ⊥) → ((v : QueryValue) (u : TraitsValue) → AsksWith v u words → (v ≡ q) × (u ≡ t))
    → IfNone r (AsksForRows q → (s ≡ true → TellsRows q) → (f ≡ true → TellsRows q) → ⊥) → IfNone r ((v : AskValue) → AsksBehind s f words v → ⊥)
no_rows_behind s f words word others q t (Some a) split other unmarked unrouted one none = tt
no_rows_behind s f words word others q t None split other unmarked unrouted one none = rows_none s f words word others split other unmarked unrouted (λ v u asks with_s with_f.
    let same = (one v u asks).0 in
    none (subst (λ (w : QueryValue). AsksForRows w) same asks.asks) (λ e. subst (λ (w : QueryValue). TellsRows w) same (with_s e)) (λ e. subst (λ (w : QueryValue). TellsRows w) same (with_f e)))

-- ---- a line
no_flag : (word : List ℕ) (b : Bool) (front : List (List ℕ)) → IsFlag word b front → b ≡ false → front ≡ []
no_flag word true front is e = absurd (true≢false e)
no_flag word false front is e = is

is_more : (s f : Bool) (t : TraitsValue) → (s ≡ false → f ≡ false → t ≡ no_traits → ⊥) → IsMore s f t
is_more true f t some = tt
is_more false true t some = tt
is_more false false t some = some refl refl

is_further : (f : Bool) (p : Option PrefixValue) → (f ≡ false → (q : PrefixValue) → p ≡ Some q → ⊥) → IsFurtherChanges f p
is_further true p some = tt
is_further false None some = tt
is_further false (Some q) some = some refl q refl

module _ (line : List ℕ) (first second : List (List ℕ)) (s f : Bool) (with_steps : TakesFirst (codes "steps") (words_of line) s first) (with_full : TakesFirst (codes "full") first f second) where
  -- `steps` and `full` are taken from all that is asked
  pub asks_behind : ((q : QueryValue) → IsQuery line q → ⊥) → (v : AskValue) → IsOfferedAsk line v → AsksBehind s f second v
  asks_behind no_query (plain q) is = absurd (no_query q (is_query line q (asked_words line (plain q) is.is_ask)))
  asks_behind no_query (rows u g q t) is =
      let are = asked_words line (rows u g q t) is.is_ask in
      let h = rows_headed q are.query_words are.asks are.is_query in
      let told = some_headed are.query_words are.traits_words h in
      let one = first_one (codes "steps") u s are.steps_words (are.full_words ++ (are.query_words ++ are.traits_words)) (words_of line) first are.is_steps
      (behind_flag g are.full_words (are.query_words ++ are.traits_words) are.is_full (headed_no_front are.query_words are.traits_words (codes "steps") h refl))
      (some_behind g are.full_words (are.query_words ++ are.traits_words) are.is_full told) are.spelled with_steps in
      let two = first_one (codes "full") g f are.full_words (are.query_words ++ are.traits_words) first second are.is_full
      (headed_no_front are.query_words are.traits_words (codes "full") h refl) told (sym one.1) with_full in (
        one.0,
        two.0,
        record { front = are.query_words; back = are.traits_words; asks = are.asks; is_query = are.is_query; are_traits = are.are_traits; spelled = sym two.1 },
        λ e. are.told.0 (one.0 ∙ e),
        λ e. are.told.1 (two.0 ∙ e),
      )
  asks_behind no_query (steps g lane from p) is =
      let are = asked_words line (steps g lane from p) is.is_ask in
      let tail = are.lane_text ∷ are.from_text ∷ are.prefix_words in
      let told : SomeWord (codes "changes" ∷ tail) = (codes "changes", tail, refl) in
      let one = first_one (codes "steps") false s [] (are.full_words ++ (codes "changes" ∷ tail)) (words_of line) first refl
      (behind_flag g are.full_words (codes "changes" ∷ tail) are.is_full (changes_no_front (codes "steps") tail refl))
      (some_behind g are.full_words (codes "changes" ∷ tail) are.is_full told) are.spelled with_steps in
      let two = first_one (codes "full") g f are.full_words (codes "changes" ∷ tail) first second are.is_full
      (changes_no_front (codes "full") tail refl) told (sym one.1) with_full in
      (sym one.0, two.0, record { lane_text = are.lane_text; from_text = are.from_text; prefix_words = are.prefix_words; is_lane = are.is_lane; is_from = are.is_from; is_prefix = are.is_prefix; spelled = sym two.1 })
  asks_behind no_query (full_marks select) is =
      let are = asked_words line (full_marks select) is.is_ask in
      let h = marks_headed select are.marks_words are.are_marks in
      let no_front : (word : List ℕ) → is_front word ≡ true → ¬ (Begins word are.marks_words) = λ word new b. headed_no_front are.marks_words [] word h new (b.0, append-nil are.marks_words ∙ b.1) in
      let one = first_one (codes "steps") false s [] (codes "full" ∷ are.marks_words) (words_of line) first refl
      (behind_flag true (codes "full" ∷ []) are.marks_words refl (no_front (codes "steps") refl)) (codes "full", are.marks_words, refl) are.spelled with_steps in
      let two = first_one (codes "full") true f (codes "full" ∷ []) are.marks_words first second refl
      (no_front (codes "full") refl) (codes "marks", are.are_marks.selectors, are.are_marks.spelled) (sym one.1) with_full in
      (sym one.0, sym two.0, subst (AreQueryWords (marks select)) two.1 are.are_marks)
  asks_behind no_query full_routers is =
      let are : words_of line ≡ codes "full" ∷ codes "routers" ∷ [] = asked_words line full_routers is.is_ask in
      let one = first_one (codes "steps") false s [] (codes "full" ∷ codes "routers" ∷ []) (words_of line) first refl
      (behind_flag true (codes "full" ∷ []) (codes "routers" ∷ []) refl (routers_no_front (codes "steps") refl)) (codes "full", codes "routers" ∷ [], refl) are with_steps in
      let two = first_one (codes "full") true f (codes "full" ∷ []) (codes "routers" ∷ []) first second refl
      (routers_no_front (codes "full") refl) (codes "routers", [], refl) (sym one.1) with_full in
      (sym one.0, sym two.0, sym two.1)

  -- what stands behind them, where none of them does
  bare : s ≡ false → f ≡ false → words_of line ≡ second
  bare no_steps no_full =
      with_steps.spelled ∙ ap (λ (l : List (List ℕ)). l ++ first) (no_flag (codes "steps") s with_steps.front with_steps.is_flag no_steps)
      ∙ with_full.spelled ∙ ap (λ (l : List (List ℕ)). l ++ second) (no_flag (codes "full") f with_full.front with_full.is_flag no_full)

  rows_offered : ((q : QueryValue) → IsQuery line q → ⊥) → (q : QueryValue) (t : TraitsValue) → AsksWith q t second → (s ≡ true → TellsRows q) → (f ≡ true → TellsRows q) → IsOfferedAsk line (rows s f q t)
  rows_offered no_query q t asks tells_s tells_f = asks_offered line (rows s f q t) (record {
    steps_words = with_steps.front;
    full_words = with_full.front;
    query_words = asks.front;
    traits_words = asks.back;
    is_steps = with_steps.is_flag;
    is_full = with_full.is_flag;
    is_query = asks.is_query;
    are_traits = asks.are_traits;
    asks = asks.asks;
    told = (tells_s, tells_f);
    more = is_more s f t (λ no_steps no_full same.
        let none = no_trait_words asks.back (subst (λ (u : TraitsValue). AreTraits u asks.back) same asks.are_traits) in
        let whole : words_of line ≡ asks.front = bare no_steps no_full ∙ asks.spelled ∙ ap (λ (l : List (List ℕ)). asks.front ++ l) none ∙ append-nil asks.front in
        no_query q (is_query line q (subst (AreQueryWords q) (sym whole) asks.is_query)));
    spelled = with_steps.spelled ∙ ap (λ (l : List (List ℕ)). with_steps.front ++ l) (with_full.spelled ∙ ap (λ (l : List (List ℕ)). with_full.front ++ l) asks.spelled);
  })

  prefix_query : (lane from : ℕ) (p : Option PrefixValue) (q : PrefixValue) (are : AreChangesWords lane from p second) → s ≡ false → f ≡ false → p ≡ Some q → IsQuery line (changes lane from q)
  prefix_query lane from p q are no_steps no_full same =
      let (text, is_text, one) = subst (λ (o : Option PrefixValue). IsPrefixWord o are.prefix_words) same are.is_prefix in
      is_query line (changes lane from q) (record {
        lane_text = are.lane_text;
        from_text = are.from_text;
        prefix_text = text;
        is_lane = are.is_lane;
        is_from = are.is_from;
        is_prefix = is_text;
        spelled = bare no_steps no_full ∙ are.spelled ∙ ap (λ (l : List (List ℕ)). codes "changes" ∷ are.lane_text ∷ are.from_text ∷ l) one;
      })

  changes_offered : ((q : QueryValue) → IsQuery line q → ⊥) → (lane from : ℕ) (p : Option PrefixValue) → s ≡ false → AreChangesWords lane from p second → IsOfferedAsk line (steps f lane from p)
  changes_offered no_query lane from p no_steps are = asks_offered line (steps f lane from p) (record {
    full_words = with_full.front;
    lane_text = are.lane_text;
    from_text = are.from_text;
    prefix_words = are.prefix_words;
    is_full = with_full.is_flag;
    is_lane = are.is_lane;
    is_from = are.is_from;
    is_prefix = are.is_prefix;
    is_further = is_further f p (λ no_full q same. no_query (changes lane from q) (prefix_query lane from p q are no_steps no_full same));
    spelled =
        with_steps.spelled ∙ ap (λ (l : List (List ℕ)). l ++ first) (no_flag (codes "steps") s with_steps.front with_steps.is_flag no_steps)
        ∙ with_full.spelled ∙ ap (λ (l : List (List ℕ)). with_full.front ++ l) are.spelled;
  })

  pub behind_offered : ((q : QueryValue) → IsQuery line q → ⊥) → (v : AskValue) → AsksBehind s f second v → IsOfferedAsk line v
  behind_offered no_query (plain q) asks = absurd asks
  behind_offered no_query (rows u g q t) (same_s, same_f, asks, tells_s, tells_f) =
      subst (λ (b : Bool). IsOfferedAsk line (rows b g q t)) (sym same_s) (subst (λ (b : Bool). IsOfferedAsk line (rows s b q t)) (sym same_f) (rows_offered no_query q t asks tells_s tells_f))
  behind_offered no_query (steps g lane from p) (no_steps, same_f, are) = subst (λ (b : Bool). IsOfferedAsk line (steps b lane from p)) (sym same_f) (changes_offered no_query lane from p no_steps are)
  behind_offered no_query (full_marks select) (no_steps, is_full, are) =
      let flag : with_full.front ≡ codes "full" ∷ [] = subst (λ (b : Bool). IsFlag (codes "full") b with_full.front) is_full with_full.is_flag in
      asks_offered line (full_marks select) (record {
        marks_words = second;
        are_marks = are;
        spelled =
            with_steps.spelled ∙ ap (λ (l : List (List ℕ)). l ++ first) (no_flag (codes "steps") s with_steps.front with_steps.is_flag no_steps)
            ∙ with_full.spelled ∙ ap (λ (l : List (List ℕ)). l ++ second) flag;
      })
  behind_offered no_query full_routers (no_steps, is_full, are) =
      let flag : with_full.front ≡ codes "full" ∷ [] = subst (λ (b : Bool). IsFlag (codes "full") b with_full.front) is_full with_full.is_flag in
      asks_offered line full_routers (
      with_steps.spelled ∙ ap (λ (l : List (List ℕ)). l ++ first) (no_flag (codes "steps") s with_steps.front with_steps.is_flag no_steps)
      ∙ with_full.spelled ∙ ap (λ (l : List (List ℕ)). l ++ second) flag ∙ ap (λ (l : List (List ℕ)). codes "full" ∷ l) are
      )

-- ---- a prefix, or nothing
pub prefix_ends : (p : Option PrefixValue) (words others : List (List ℕ)) (text : List ℕ) → words ≡ text ∷ others → (others ≡ [] → ⊥) → IsPrefixWord p words → ⊥
prefix_ends None words others text split some is = omega (arith, ap length is, ap length split)
prefix_ends (Some q) words others text split some (said, is_text, is) =
    let whole : text ∷ others ≡ said ∷ [] = sym split ∙ is in
    let end : others ≡ [] = cc in
    some end

pub no_prefix_word : (p : Option PrefixValue) (words others : List (List ℕ)) (text : List ℕ) → words ≡ text ∷ others → ((q : PrefixValue) → IsPrefixText text q → ⊥) → IsPrefixWord p words → ⊥
no_prefix_word None words others text split none is = omega (arith, ap length is, ap length split)
no_prefix_word (Some q) words others text split none (said, is_text, is) =
    let whole : text ∷ others ≡ said ∷ [] = sym split ∙ is in
    let same : said ≡ text = cc in
    none q (subst (λ (l : List ℕ). IsPrefixText l q) same is_text)
