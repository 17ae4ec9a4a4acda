-- Plain lines have their one meaning, and each line has one meaning at most.
use Rattle.std.proofs.Common.{◌≡◌, ℕ, Bool, true, false, List, [], ◌∷◌, ◌++◌, All, Option, Some, None, codes, get_or, refl, sym, ap, subst, ◌∙◌, arith, append-nil}
use Rattle.std.specs.List.{join_with_byte}
use Rattle.std.proofs.lemmas.List.Elements.{All-nil, All-cons, All-head, All-tail}
use Rattle.bmp_specs.specs.PrefixText.{IsPrefixText}
use Rattle.bmp_specs.specs.Query.{QueryValue, exact, marks, AreQueryWords, IsQuery, IsSelector, IsWord, space}
use Rattle.bmp_specs.specs.Selection.{SelectValue, select_all}
use Rattle.bmp_specs.specs.Values.{PrefixValue}
use Rattle.ask_specs.specs.Asking.{AskValue, plain, rows, steps, full_marks, full_routers, AreAskWords, AreFullMarksWords, AreRowsWords, AreStepsWords, AreTraits, AsksOne, AsksOneQuery, AsksForRows, IsAsk, IsConservative, IsPrefixWord}
use Rattle.ask_specs.specs.Traits.{CommunityValue, TraitsValue, no_traits}
use Rattle.ask_specs.specs.TraitText.{IsThroughText, IsCommunityText, IsTypeText}
use Rattle.ask_specs.proofs.PlainWords.{ArePaired, IsHeaded, IsPlain, is_front, headed, alone, told_changes, by_one, by_two, headed_one, marks_headed, not_changes, plain_bare, plain_changes, plain_front, query_plain, rows_headed, traits_paired}
use Rattle.ask_specs.proofs.FrontWords.{Begins, behind_flag, changes_no_front, differ_first, flag_one, headed_no_front, none_begins, not_routers, other_selector, routers_no_front, selector_one}
use Rattle.ask_specs.proofs.CommunityOne.{community_one}
use Rattle.ask_specs.proofs.TraitOne.{number_one, through_one, type_one}
use Rattle.ask_specs.proofs.WordLaws.{Lacks, join_one, word_is_free, words_lack}

-- ---- the words of a line
-- there is a word
abbrev pub SomeWord : List (List ℕ) → Type 0
SomeWord words = (w : List ℕ) × (ws : List (List ℕ)) × (words ≡ w ∷ ws)

-- a line is of one list of words
pub words_one : (line : List ℕ) (a b : List (List ℕ)) → SomeWord a → SomeWord b → All IsWord a → All IsWord b → line ≡ join_with_byte space a → line ≡ join_with_byte space b → a ≡ b
words_one line a b (w, ws, p) (v, vs, q) as_are bs_are e f =
    let x = words_lack (w ∷ ws) (subst (All IsWord) p as_are) in
    let y = words_lack (v ∷ vs) (subst (All IsWord) q bs_are) in
    p ∙ join_one space w v ws vs x.0 x.1 y.0 y.1 (ap (join_with_byte space) (sym p) ∙ sym e ∙ f ∙ ap (join_with_byte space) q) ∙ sym q

all_front : (a b : List (List ℕ)) → All IsWord (a ++ b) → All IsWord a
all_front [] b all = All-nil IsWord
all_front (w ∷ a) b all = All-cons IsWord w a (All-head IsWord w (a ++ b) all) (all_front a b (All-tail IsWord w (a ++ b) all))

all_back : (a b : List (List ℕ)) → All IsWord (a ++ b) → All IsWord b
all_back [] b all = all
all_back (w ∷ a) b all = all_back a b (All-tail IsWord w (a ++ b) all)

-- ---- words of a wider line
data IsFurther (words : List (List ℕ)) : Type 0 where
  fronted : (word : List ℕ) (rest : List (List ℕ)) → words ≡ word ∷ rest → is_front word ≡ true → IsFurther words
  behind : (a x : List (List ℕ)) → IsHeaded a → ArePaired true x → ¬ (x ≡ []) → words ≡ a ++ x → IsFurther words
  all_changes : (lane from : List ℕ) → words ≡ codes "changes" ∷ lane ∷ from ∷ [] → IsFurther words

further_not_plain : (words : List (List ℕ)) → IsFurther words → ¬ (IsPlain words)
further_not_plain words (fronted word rest is new) old = plain_front words rest word old new is
further_not_plain words (behind a x h p some is) old = some (plain_bare words a x old h p is)
further_not_plain words (all_changes lane from is) old = plain_changes words lane from old is

unnamed_none : {A : Type 0} (word : List ℕ) (IsText : List ℕ → A → Type 0) (value : Option A) (words : List (List ℕ)) → IsSelector word IsText value words → words ≡ [] → value ≡ None
unnamed_none word IsText None words is none = refl
unnamed_none word IsText (Some value) words (text, is_text, is) none = let whole : word ∷ text ∷ [] ≡ [] = sym is ∙ none in absurd cc

both_none : {X : Type 0} (a b : List X) → a ++ b ≡ [] → (a ≡ []) × (b ≡ [])
both_none [] b e = (refl, e)
both_none (x ∷ a) b e = absurd cc

traits_by : (s t : TraitsValue) → s.through ≡ t.through → s.community ≡ t.community → s.other ≡ t.other → s ≡ t
traits_by s t p q r = λ i. record { through = p i; community = q i; other = r i }

no_words : (traits : TraitsValue) (words : List (List ℕ)) → AreTraits traits words → words ≡ [] → traits ≡ no_traits
no_words traits words are none =
    let first = both_none are.through_words (are.community_words ++ are.other_words) (sym are.spelled ∙ none) in
    let second = both_none are.community_words are.other_words first.1 in
    traits_by traits no_traits
    (unnamed_none (codes "through") IsThroughText traits.through are.through_words are.is_through first.0)
    (unnamed_none (codes "community") IsCommunityText traits.community are.community_words are.is_community second.0)
    (unnamed_none (codes "other") IsTypeText traits.other are.other_words are.is_other second.1)

rows_further : (s f : Bool) (query : QueryValue) (traits : TraitsValue) (words : List (List ℕ)) → AreRowsWords s f query traits words → IsFurther words
rows_further true f query traits words are = fronted (codes "steps") (are.full_words ++ (are.query_words ++ are.traits_words)) (are.spelled ∙ ap (λ (l : List (List ℕ)). l ++ (are.full_words ++ (are.query_words ++ are.traits_words))) are.is_steps) refl
rows_further false true query traits words are =
    fronted (codes "full") (are.query_words ++ are.traits_words)
    (are.spelled ∙ ap (λ (l : List (List ℕ)). l ++ (are.full_words ++ (are.query_words ++ are.traits_words))) are.is_steps ∙ ap (λ (l : List (List ℕ)). l ++ (are.query_words ++ are.traits_words)) are.is_full) refl
rows_further false false query traits words are =
    behind are.query_words are.traits_words (rows_headed query are.query_words are.asks are.is_query) (traits_paired traits are.traits_words are.are_traits)
    (λ none. are.more (no_words traits are.traits_words are.are_traits none))
    (are.spelled ∙ ap (λ (l : List (List ℕ)). l ++ (are.full_words ++ (are.query_words ++ are.traits_words))) are.is_steps ∙ ap (λ (l : List (List ℕ)). l ++ (are.query_words ++ are.traits_words)) are.is_full)

steps_further : (f : Bool) (lane from : ℕ) (prefix : Option PrefixValue) (words : List (List ℕ)) → AreStepsWords f lane from prefix words → IsFurther words
steps_further true lane from prefix words are = fronted (codes "full") (codes "changes" ∷ are.lane_text ∷ are.from_text ∷ are.prefix_words) (are.spelled ∙ ap (λ (l : List (List ℕ)). l ++ (codes "changes" ∷ are.lane_text ∷ are.from_text ∷ are.prefix_words)) are.is_full) refl
steps_further false lane from None words are =
    all_changes are.lane_text are.from_text
    (are.spelled ∙ ap (λ (l : List (List ℕ)). l ++ (codes "changes" ∷ are.lane_text ∷ are.from_text ∷ are.prefix_words)) are.is_full ∙ ap (λ (l : List (List ℕ)). codes "changes" ∷ are.lane_text ∷ are.from_text ∷ l) are.is_prefix)
steps_further false lane from (Some prefix) words are = absurd are.is_further

marks_further : (select : SelectValue) (words : List (List ℕ)) → AreFullMarksWords select words → IsFurther words
marks_further select words are = fronted (codes "full") are.marks_words are.spelled refl

routers_further : (words : List (List ℕ)) → words ≡ codes "full" ∷ codes "routers" ∷ [] → IsFurther words
routers_further words is = fronted (codes "full") (codes "routers" ∷ []) is refl

headed_some : (words : List (List ℕ)) → IsHeaded words → SomeWord words
headed_some words (by_one v rest is front n p) = (v, rest, is)
headed_some words (by_two v t rest is front n p) = (v, t ∷ rest, is)

pub plain_some : (words : List (List ℕ)) → IsPlain words → SomeWord words
plain_some words (headed h) = headed_some words h
plain_some words (alone v is front) = (v, [], is)
plain_some words (told_changes l f p is) = (codes "changes", l ∷ f ∷ p ∷ [], is)

further_some : (words : List (List ℕ)) → IsFurther words → SomeWord words
further_some words (fronted word rest is new) = (word, rest, is)
further_some words (behind a x h p some is) = let (w, ws, e) = headed_some a h in (w, ws ++ x, is ∙ ap (λ (l : List (List ℕ)). l ++ x) e)
further_some words (all_changes l f is) = (codes "changes", l ∷ f ∷ [], is)

pub ask_some : (ask : AskValue) (words : List (List ℕ)) → AreAskWords ask words → SomeWord words
ask_some (plain query) words are = plain_some words (query_plain query words are)
ask_some (rows s f query traits) words are = further_some words (rows_further s f query traits words are)
ask_some (steps f lane from prefix) words are = further_some words (steps_further f lane from prefix words are)
ask_some (full_marks select) words are = further_some words (marks_further select words are)
ask_some full_routers words are = further_some words (routers_further words are)

-- ---- plain lines
module _ (one : AsksOneQuery) where
  only_plain : (line : List ℕ) (query : QueryValue) (ask : AskValue) → IsQuery line query → IsAsk line ask → ask ≡ plain query
  only_plain line query (plain other) is asked = ap plain (one line other query (record { words = asked.words; are_words = asked.are_words; joined = asked.joined; asks = asked.asks }) is)
  only_plain line query (rows s f q traits) is asked =
      let fresh = rows_further s f q traits asked.words asked.asks in
      let old = query_plain query is.words is.asks in
      let same = words_one line asked.words is.words (further_some asked.words fresh) (plain_some is.words old) asked.are_words is.are_words asked.joined is.joined in
      absurd (further_not_plain is.words (subst IsFurther same fresh) old)
  only_plain line query (steps f lane from prefix) is asked =
      let fresh = steps_further f lane from prefix asked.words asked.asks in
      let old = query_plain query is.words is.asks in
      let same = words_one line asked.words is.words (further_some asked.words fresh) (plain_some is.words old) asked.are_words is.are_words asked.joined is.joined in
      absurd (further_not_plain is.words (subst IsFurther same fresh) old)
  only_plain line query (full_marks select) is asked =
      let fresh = marks_further select asked.words asked.asks in
      let old = query_plain query is.words is.asks in
      let same = words_one line asked.words is.words (further_some asked.words fresh) (plain_some is.words old) asked.are_words is.are_words asked.joined is.joined in
      absurd (further_not_plain is.words (subst IsFurther same fresh) old)
  only_plain line query full_routers is asked =
      let fresh = routers_further asked.words asked.asks in
      let old = query_plain query is.words is.asks in
      let same = words_one line asked.words is.words (further_some asked.words fresh) (plain_some is.words old) asked.are_words is.are_words asked.joined is.joined in
      absurd (further_not_plain is.words (subst IsFurther same fresh) old)

  plain_still : (line : List ℕ) (query : QueryValue) → IsQuery line query → IsAsk line (plain query)
  plain_still line query is = record { words = is.words; are_words = is.are_words; joined = is.joined; asks = is.asks }

  pub conservative : IsConservative
  conservative line query ask is = (only_plain line query ask is, λ same. subst (IsAsk line) (sym same) (plain_still line query is))

-- ---- lines of more
traits_one : (s t : TraitsValue) (words : List (List ℕ)) → AreTraits s words → AreTraits t words → s ≡ t
traits_one s t words p q =
    let community_no_through : (v : Option CommunityValue) (a x : List (List ℕ)) → IsSelector (codes "community") IsCommunityText v a → ¬ (Begins (codes "through") x) → ¬ (Begins (codes "through") (a ++ x)) =
    λ v a x is other. other_selector (codes "through") (codes "community") IsCommunityText v a x (differ_first (codes "community") (codes "through") (λ e. omega (arith, e))) is other in
    let other_none : (word : List ℕ) → ¬ (get_or (codes "other") 0 0 ≡ get_or word 0 0) → (v : Option ℕ) (a : List (List ℕ)) → IsSelector (codes "other") IsTypeText v a → ¬ (Begins word a) =
    λ word differs v a is b. other_selector word (codes "other") IsTypeText v a [] (differ_first (codes "other") word differs) is (none_begins word) (b.0, append-nil a ∙ b.1) in
    let first = selector_one (codes "through") IsThroughText through_one s.through t.through p.through_words q.through_words (p.community_words ++ p.other_words) (q.community_words ++ q.other_words) p.is_through q.is_through
    (community_no_through s.community p.community_words p.other_words p.is_community (other_none (codes "through") (λ e. omega (arith, e)) s.other p.other_words p.is_other))
    (community_no_through t.community q.community_words q.other_words q.is_community (other_none (codes "through") (λ e. omega (arith, e)) t.other q.other_words q.is_other))
    (sym p.spelled ∙ q.spelled) in
    let second = selector_one (codes "community") IsCommunityText community_one s.community t.community p.community_words q.community_words p.other_words q.other_words p.is_community q.is_community
    (other_none (codes "community") (λ e. omega (arith, e)) s.other p.other_words p.is_other) (other_none (codes "community") (λ e. omega (arith, e)) t.other q.other_words q.is_other) first.1 in
    let third = selector_one (codes "other") IsTypeText type_one s.other t.other p.other_words q.other_words [] [] p.is_other q.is_other (none_begins (codes "other")) (none_begins (codes "other"))
    (append-nil p.other_words ∙ second.1 ∙ sym (append-nil q.other_words)) in
    traits_by s t first.0 second.0 third.0

module _ (one : AsksOneQuery) where
  query_one : (words : List (List ℕ)) (a b : QueryValue) → All IsWord words → AreQueryWords a words → AreQueryWords b words → a ≡ b
  query_one words a b are p q =
      one (join_with_byte space words) a b (record { words = words; are_words = are; joined = refl; asks = p }) (record { words = words; are_words = are; joined = refl; asks = q })

  -- a text of a prefix has one value, since `prefix` asks for it
  prefix_one : (text : List ℕ) (p q : PrefixValue) → IsWord text → IsPrefixText text p → IsPrefixText text q → p ≡ q
  prefix_one text p q is_word is_p is_q =
      let same : exact p select_all ≡ exact q select_all = query_one (codes "prefix" ∷ text ∷ []) (exact p select_all) (exact q select_all)
      (All-cons IsWord (codes "prefix") (text ∷ []) (word_is_free (codes "prefix") tt_lacks) (All-cons IsWord text [] is_word (All-nil IsWord)))
      (asks_for p is_p) (asks_for q is_q) in
      cc
    where
      tt_lacks : Lacks space (codes "prefix")
      tt_lacks = (λ e. omega (arith, e), (λ e. omega (arith, e), (λ e. omega (arith, e), (λ e. omega (arith, e), (λ e. omega (arith, e), (λ e. omega (arith, e), tt))))))

      asks_for : (r : PrefixValue) → IsPrefixText text r → AreQueryWords (exact r select_all) (codes "prefix" ∷ text ∷ [])
      asks_for r is_r = record {
        text = text;
        selectors = [];
        is_text = is_r;
        are_selectors = record {
          peer_words = [];
          view_words = [];
          family_words = [];
          are_peer = record { router_words = []; peer_words = []; is_router = refl; is_peer = refl; spelled = refl };
          is_view = refl;
          is_family = refl;
          spelled = refl;
        };
        spelled = refl;
      }

  rows_one : (words : List (List ℕ)) (s f : Bool) (query : QueryValue) (traits : TraitsValue) (t g : Bool) (other : QueryValue) (others : TraitsValue) → All IsWord words
      → AreRowsWords s f query traits words → AreRowsWords t g other others words → rows s f query traits ≡ rows t g other others
  rows_one words s f query traits t g other others all p q =
      let hp = rows_headed query p.query_words p.asks p.is_query in
      let hq = rows_headed other q.query_words q.asks q.is_query in
      let first = flag_one (codes "steps") s t p.steps_words q.steps_words (p.full_words ++ (p.query_words ++ p.traits_words)) (q.full_words ++ (q.query_words ++ q.traits_words)) p.is_steps q.is_steps
      (behind_flag f p.full_words (p.query_words ++ p.traits_words) p.is_full (headed_no_front p.query_words p.traits_words (codes "steps") hp refl))
      (behind_flag g q.full_words (q.query_words ++ q.traits_words) q.is_full (headed_no_front q.query_words q.traits_words (codes "steps") hq refl)) (sym p.spelled ∙ q.spelled) in
      let second = flag_one (codes "full") f g p.full_words q.full_words (p.query_words ++ p.traits_words) (q.query_words ++ q.traits_words) p.is_full q.is_full
      (headed_no_front p.query_words p.traits_words (codes "full") hp refl) (headed_no_front q.query_words q.traits_words (codes "full") hq refl) first.1 in
      let parts = headed_one p.query_words q.query_words p.traits_words q.traits_words hp hq (traits_paired traits p.traits_words p.are_traits) (traits_paired others q.traits_words q.are_traits) second.1 in
      let are : All IsWord p.query_words = all_front p.query_words p.traits_words (all_back p.full_words (p.query_words ++ p.traits_words) (all_back p.steps_words (p.full_words ++ (p.query_words ++ p.traits_words)) (subst (All IsWord) p.spelled all))) in
      let queries = query_one p.query_words query other are p.is_query (subst (AreQueryWords other) (sym parts.0) q.is_query) in
      let selectors = traits_one traits others p.traits_words p.are_traits (subst (AreTraits others) (sym parts.1) q.are_traits) in
      λ i. rows (first.0 i) (second.0 i) (queries i) (selectors i)

  prefix_words_one : (a b : Option PrefixValue) (words : List (List ℕ)) → All IsWord words → IsPrefixWord a words → IsPrefixWord b words → a ≡ b
  prefix_words_one None None words all p q = refl
  prefix_words_one None (Some b) words all p (text, is, q) = let none : [] ≡ text ∷ [] = sym p ∙ q in absurd cc
  prefix_words_one (Some a) None words all (text, is, p) q = let none : [] ≡ text ∷ [] = sym q ∙ p in absurd cc
  prefix_words_one (Some a) (Some b) words all (text, is, p) (said, said_is, q) =
      let whole : text ∷ [] ≡ said ∷ [] = sym p ∙ q in
      let same : text ≡ said = cc in
      ap (λ (z : PrefixValue). Some z) (prefix_one said a b (All-head IsWord said [] (subst (All IsWord) q all)) (subst (λ (l : List ℕ). IsPrefixText l a) same is) said_is)

  steps_one : (words : List (List ℕ)) (f : Bool) (lane from : ℕ) (prefix : Option PrefixValue) (g : Bool) (other since : ℕ) (of : Option PrefixValue) → All IsWord words
      → AreStepsWords f lane from prefix words → AreStepsWords g other since of words → steps f lane from prefix ≡ steps g other since of
  steps_one words f lane from prefix g other since of all p q =
      let first = flag_one (codes "full") f g p.full_words q.full_words (codes "changes" ∷ p.lane_text ∷ p.from_text ∷ p.prefix_words) (codes "changes" ∷ q.lane_text ∷ q.from_text ∷ q.prefix_words) p.is_full q.is_full
      (changes_no_front (codes "full") (p.lane_text ∷ p.from_text ∷ p.prefix_words) refl) (changes_no_front (codes "full") (q.lane_text ∷ q.from_text ∷ q.prefix_words) refl) (sym p.spelled ∙ q.spelled) in
      let whole = first.1 in
      let lane_text : p.lane_text ≡ q.lane_text = cc in
      let from_text : p.from_text ≡ q.from_text = cc in
      let prefix_words : p.prefix_words ≡ q.prefix_words = cc in
      let are : All IsWord p.prefix_words = all_back (codes "changes" ∷ p.lane_text ∷ p.from_text ∷ []) p.prefix_words (all_back p.full_words (codes "changes" ∷ p.lane_text ∷ p.from_text ∷ p.prefix_words) (subst (All IsWord) p.spelled all)) in
      let lanes = number_one lane other (let h = p.is_lane.within in omega (arith, h)) (let h = q.is_lane.within in omega (arith, h)) (sym p.is_lane.spelled ∙ lane_text ∙ q.is_lane.spelled) in
      let froms = number_one from since (let h = p.is_from.within in omega (arith, h)) (let h = q.is_from.within in omega (arith, h)) (sym p.is_from.spelled ∙ from_text ∙ q.is_from.spelled) in
      let prefixes = prefix_words_one prefix of p.prefix_words are p.is_prefix (subst (IsPrefixWord of) (sym prefix_words) q.is_prefix) in
      λ i. steps (first.0 i) (lanes i) (froms i) (prefixes i)

  rows_or_steps : (words : List (List ℕ)) (s f : Bool) (query : QueryValue) (traits : TraitsValue) (g : Bool) (lane from : ℕ) (prefix : Option PrefixValue)
      → AreRowsWords s f query traits words → AreStepsWords g lane from prefix words → ⊥
  rows_or_steps words s f query traits g lane from prefix p q =
      let hp = rows_headed query p.query_words p.asks p.is_query in
      let tail = codes "changes" ∷ q.lane_text ∷ q.from_text ∷ q.prefix_words in
      let first = flag_one (codes "steps") s false p.steps_words [] (p.full_words ++ (p.query_words ++ p.traits_words)) (q.full_words ++ tail) p.is_steps refl
      (behind_flag f p.full_words (p.query_words ++ p.traits_words) p.is_full (headed_no_front p.query_words p.traits_words (codes "steps") hp refl))
      (behind_flag g q.full_words tail q.is_full (changes_no_front (codes "steps") (q.lane_text ∷ q.from_text ∷ q.prefix_words) refl)) (sym p.spelled ∙ q.spelled) in
      let second = flag_one (codes "full") f g p.full_words q.full_words (p.query_words ++ p.traits_words) tail p.is_full q.is_full
      (headed_no_front p.query_words p.traits_words (codes "full") hp refl) (changes_no_front (codes "full") (q.lane_text ∷ q.from_text ∷ q.prefix_words) refl) first.1 in
      not_changes p.query_words p.traits_words (q.lane_text ∷ q.from_text ∷ q.prefix_words) hp second.1

  -- `marks` asks for no rows
  no_rows : (query : QueryValue) (select : SelectValue) → AsksForRows query → ¬ (query ≡ marks select)
  no_rows query select asks same = subst AsksForRows same asks

  rows_or_marks : (words : List (List ℕ)) (s f : Bool) (query : QueryValue) (traits : TraitsValue) (select : SelectValue) → All IsWord words
      → AreRowsWords s f query traits words → AreFullMarksWords select words → ⊥
  rows_or_marks words s f query traits select all p q =
      let hp = rows_headed query p.query_words p.asks p.is_query in
      let hq = marks_headed select q.marks_words q.are_marks in
      let bare = append-nil q.marks_words in
      let no_front : (word : List ℕ) → is_front word ≡ true → ¬ (Begins word q.marks_words) = λ word new b. headed_no_front q.marks_words [] word hq new (b.0, bare ∙ b.1) in
      let first = flag_one (codes "steps") s false p.steps_words [] (p.full_words ++ (p.query_words ++ p.traits_words)) (codes "full" ∷ q.marks_words) p.is_steps refl
      (behind_flag f p.full_words (p.query_words ++ p.traits_words) p.is_full (headed_no_front p.query_words p.traits_words (codes "steps") hp refl))
      (behind_flag true (codes "full" ∷ []) q.marks_words refl (no_front (codes "steps") refl)) (sym p.spelled ∙ q.spelled) in
      let second = flag_one (codes "full") f true p.full_words (codes "full" ∷ []) (p.query_words ++ p.traits_words) q.marks_words p.is_full refl
      (headed_no_front p.query_words p.traits_words (codes "full") hp refl) (no_front (codes "full") refl) first.1 in
      let parts = headed_one p.query_words q.marks_words p.traits_words [] hp hq (traits_paired traits p.traits_words p.are_traits) tt (second.1 ∙ sym bare) in
      let are : All IsWord q.marks_words = all_back (codes "full" ∷ []) q.marks_words (subst (All IsWord) q.spelled all) in
      no_rows query select p.asks (query_one q.marks_words query (marks select) are (subst (AreQueryWords query) parts.0 p.is_query) q.are_marks)

  steps_or_marks : (words : List (List ℕ)) (f : Bool) (lane from : ℕ) (prefix : Option PrefixValue) (select : SelectValue)
      → AreStepsWords f lane from prefix words → AreFullMarksWords select words → ⊥
  steps_or_marks words f lane from prefix select p q =
      let hq = marks_headed select q.marks_words q.are_marks in
      let bare = append-nil q.marks_words in
      let tail = p.lane_text ∷ p.from_text ∷ p.prefix_words in
      let first = flag_one (codes "full") f true p.full_words (codes "full" ∷ []) (codes "changes" ∷ tail) q.marks_words p.is_full refl
      (changes_no_front (codes "full") tail refl) (λ b. headed_no_front q.marks_words [] (codes "full") hq refl (b.0, bare ∙ b.1)) (sym p.spelled ∙ q.spelled) in
      not_changes q.marks_words [] tail hq (bare ∙ sym first.1)

  marks_one : (words : List (List ℕ)) (a b : SelectValue) → All IsWord words → AreFullMarksWords a words → AreFullMarksWords b words → full_marks a ≡ full_marks b
  marks_one words a b all p q =
      let whole : codes "full" ∷ p.marks_words ≡ codes "full" ∷ q.marks_words = sym p.spelled ∙ q.spelled in
      let same : p.marks_words ≡ q.marks_words = cc in
      let are : All IsWord q.marks_words = all_back (codes "full" ∷ []) q.marks_words (subst (All IsWord) q.spelled all) in
      let queries : marks a ≡ marks b = query_one q.marks_words (marks a) (marks b) are (subst (AreQueryWords (marks a)) same p.are_marks) q.are_marks in
      let selects : a ≡ b = cc in
      ap full_marks selects

  rows_or_routers : (words : List (List ℕ)) (s f : Bool) (query : QueryValue) (traits : TraitsValue) → AreRowsWords s f query traits words → ¬ (words ≡ codes "full" ∷ codes "routers" ∷ [])
  rows_or_routers words s f query traits p is =
      let hp = rows_headed query p.query_words p.asks p.is_query in
      let first = flag_one (codes "steps") s false p.steps_words [] (p.full_words ++ (p.query_words ++ p.traits_words)) (codes "full" ∷ codes "routers" ∷ []) p.is_steps refl
      (behind_flag f p.full_words (p.query_words ++ p.traits_words) p.is_full (headed_no_front p.query_words p.traits_words (codes "steps") hp refl))
      (behind_flag true (codes "full" ∷ []) (codes "routers" ∷ []) refl (routers_no_front (codes "steps") refl)) (sym p.spelled ∙ is) in
      let second = flag_one (codes "full") f true p.full_words (codes "full" ∷ []) (p.query_words ++ p.traits_words) (codes "routers" ∷ []) p.is_full refl
      (headed_no_front p.query_words p.traits_words (codes "full") hp refl) (routers_no_front (codes "full") refl) first.1 in
      not_routers p.query_words p.traits_words hp second.1

  steps_or_routers : (words : List (List ℕ)) (f : Bool) (lane from : ℕ) (prefix : Option PrefixValue) → AreStepsWords f lane from prefix words → ¬ (words ≡ codes "full" ∷ codes "routers" ∷ [])
  steps_or_routers words f lane from prefix p is =
      let tail = p.lane_text ∷ p.from_text ∷ p.prefix_words in
      let second = flag_one (codes "full") f true p.full_words (codes "full" ∷ []) (codes "changes" ∷ tail) (codes "routers" ∷ []) p.is_full refl
      (changes_no_front (codes "full") tail refl) (routers_no_front (codes "full") refl) (sym p.spelled ∙ is) in
      differ_first (codes "changes") (codes "routers") (λ e. omega (arith, e)) (let whole = second.1 in cc)

  marks_or_routers : (words : List (List ℕ)) (select : SelectValue) → AreFullMarksWords select words → ¬ (words ≡ codes "full" ∷ codes "routers" ∷ [])
  marks_or_routers words select p is =
      let whole : codes "full" ∷ p.marks_words ≡ codes "full" ∷ codes "routers" ∷ [] = sym p.spelled ∙ is in
      let rest : p.marks_words ≡ codes "routers" ∷ [] = cc in
      not_routers p.marks_words [] (marks_headed select p.marks_words p.are_marks) (append-nil p.marks_words ∙ rest)

  words_ask_one : (words : List (List ℕ)) (a b : AskValue) → All IsWord words → AreAskWords a words → AreAskWords b words → a ≡ b
  words_ask_one words (plain p) (plain q) all x y = ap plain (query_one words p q all x y)
  words_ask_one words (plain p) (rows s f q t) all x y = absurd (further_not_plain words (rows_further s f q t words y) (query_plain p words x))
  words_ask_one words (plain p) (steps f l n q) all x y = absurd (further_not_plain words (steps_further f l n q words y) (query_plain p words x))
  words_ask_one words (rows s f p t) (plain q) all x y = absurd (further_not_plain words (rows_further s f p t words x) (query_plain q words y))
  words_ask_one words (rows s f p t) (rows u g q v) all x y = rows_one words s f p t u g q v all x y
  words_ask_one words (rows s f p t) (steps g l n q) all x y = absurd (rows_or_steps words s f p t g l n q x y)
  words_ask_one words (steps f l n p) (plain q) all x y = absurd (further_not_plain words (steps_further f l n p words x) (query_plain q words y))
  words_ask_one words (steps f l n p) (rows u g q v) all x y = absurd (rows_or_steps words u g q v f l n p y x)
  words_ask_one words (steps f l n p) (steps g m o q) all x y = steps_one words f l n p g m o q all x y
  words_ask_one words (plain p) (full_marks b) all x y = absurd (further_not_plain words (marks_further b words y) (query_plain p words x))
  words_ask_one words (full_marks a) (plain q) all x y = absurd (further_not_plain words (marks_further a words x) (query_plain q words y))
  words_ask_one words (rows s f p t) (full_marks b) all x y = absurd (rows_or_marks words s f p t b all x y)
  words_ask_one words (full_marks a) (rows s f q t) all x y = absurd (rows_or_marks words s f q t a all y x)
  words_ask_one words (steps f l n p) (full_marks b) all x y = absurd (steps_or_marks words f l n p b x y)
  words_ask_one words (full_marks a) (steps f l n q) all x y = absurd (steps_or_marks words f l n q a y x)
  words_ask_one words (full_marks a) (full_marks b) all x y = marks_one words a b all x y
  words_ask_one words (plain p) full_routers all x y = absurd (further_not_plain words (routers_further words y) (query_plain p words x))
  words_ask_one words full_routers (plain q) all x y = absurd (further_not_plain words (routers_further words x) (query_plain q words y))
  words_ask_one words (rows s f p t) full_routers all x y = absurd (rows_or_routers words s f p t x y)
  words_ask_one words full_routers (rows s f q t) all x y = absurd (rows_or_routers words s f q t y x)
  words_ask_one words (steps f l n p) full_routers all x y = absurd (steps_or_routers words f l n p x y)
  words_ask_one words full_routers (steps f l n q) all x y = absurd (steps_or_routers words f l n q y x)
  words_ask_one words (full_marks a) full_routers all x y = absurd (marks_or_routers words a x y)
  words_ask_one words full_routers (full_marks b) all x y = absurd (marks_or_routers words b y x)
  words_ask_one words full_routers full_routers all x y = refl

  pub asks_one : AsksOne
  asks_one line a b p q =
      let same = words_one line q.words p.words (ask_some b q.words q.asks) (ask_some a p.words p.asks) q.are_words p.are_words q.joined p.joined in
      words_ask_one p.words a b p.are_words p.asks (subst (AreAskWords b) same q.asks)
