-- What a wrong reader would take a line for, and that it isn't what the contract asks for.
use Rattle.std.proofs.Common.{◌≡◌, ℕ, Bool, true, false, List, [], ◌∷◌, ◌++◌, All, Option, Some, None, get_or, length, drop, refl, sym, ap, subst, ◌∙◌, arith, codes}
use Rattle.std.specs.Fmt.{digits}
use Rattle.std.proofs.lemmas.Bool.{eqb-false}
use Rattle.std.proofs.lemmas.List.Elements.{All-from_recursion}
use Rattle.bmp_specs.specs.declared.peers.View.TheVariants.{Loc}
use Rattle.bmp_specs.specs.NumberText.{IsNumberText}
use Rattle.bmp_specs.specs.PeerText.{IsKeyText, IsViewText}
use Rattle.bmp_specs.specs.PrefixText.{IsPrefixText}
use Rattle.bmp_specs.specs.Query.{IsFamilyText, AreQueryWords, IsQuery, AreSelectors, QueryValue, table, exact, longest, within, origin, changes}
use Rattle.bmp_specs.specs.Selection.{SelectValue, select_all}
use Rattle.bmp_specs.specs.Values.{PrefixValue}
use Rattle.ask_specs.specs.Asking.{AskValue, plain, steps, IsPrefixWord, TellsRows}
use Rattle.ask_specs.specs.Offer.{IsOfferedAsk}
use Rattle.ask_specs.specs.Traits.{CommunityValue, TraitsValue}
use Rattle.ask_specs.specs.TraitText.{IsCommunityText, IsThroughText}
use Rattle.ask_specs.proofs.NoCommunity.{names_none}
use Rattle.ask_specs.proofs.PlainWords.{by_one, is_front, plain_bare, plain_front, query_plain}
use Rattle.ask_specs.proofs.TraitOne.{Small}
use Rattle.ask_specs.proofs.WrongLaws.{full_count, full_steps, other_through}
use Rattle.ask_specs.proofs.WrongRouters.{full_routers_router, steps_before_full_routers}
use Rattle.query_lang.specs.Reading.{words_of, AsksBehind, AsksWith, Takes}
use Rattle.query_lang.specs.Verbs.{verb_of, verb_text}
use Rattle.query_lang.specs.declared.verb.Verb.{Verb}
use Rattle.query_lang.specs.declared.verb.Verb.TheVariants.{Count, Peers, Changes}
use Rattle.query_lang.proofs.AskWords.{asked_words, asks_behind, changes_none, other_unnamed, rows_none, takes_first, takes_no_first}
use Rattle.query_lang.proofs.AsnsReading.{left_of}
use Rattle.query_lang.proofs.LineWords.{query_asks}
use Rattle.query_lang.proofs.SelectorLaws.{four_taken, takes_named}
use Rattle.query_lang.proofs.VerbLaws.{begins, same_verb, verb_one}

-- a selector that isn't named
not_taken : {A : Type 0} (word : List ℕ) (IsText : List ℕ → A → Type 0) (first : List ℕ) (others : List (List ℕ)) → (get_or first 0 0 ≡ get_or word 0 0 → ⊥) → Takes word IsText (first ∷ others) None (first ∷ others)
not_taken word IsText first others other = record { front = []; is_selector = refl; spelled = refl; unnamed = λ text more same. other (ap (λ (l : List (List ℕ)). get_or (get_or l 0 []) 0 0) same) }

-- Two spaces between two words: who passes over the second asks for the Loc-RIB.
two_spaces_are_not_one : (select : SelectValue) → IsQuery (codes "table  view loc") (table select) → ⊥
unfolding words_of
two_spaces_are_not_one select is =
    let words : List (List ℕ) = [] ∷ codes "view" ∷ codes "loc" ∷ [] in
    let asks = query_asks (codes "table  view loc") (table select) is in
    let rest : words ≡ asks.selectors = ap (λ (l : List (List ℕ)). drop 1 l) asks.spelled in
    let none = four_taken words words words words words select_all
    (not_taken (codes "router") IsNumberText [] (codes "view" ∷ codes "loc" ∷ []) (λ e. omega (arith, e)))
    (not_taken (codes "peer") IsKeyText [] (codes "view" ∷ codes "loc" ∷ []) (λ e. omega (arith, e)))
    (not_taken (codes "view") IsViewText [] (codes "view" ∷ codes "loc" ∷ []) (λ e. omega (arith, e)))
    (not_taken (codes "family") IsFamilyText [] (codes "view" ∷ codes "loc" ∷ []) (λ e. omega (arith, e)))
    select (subst (AreSelectors select) (sym rest) asks.are_selectors) in
    let empty : [] ≡ words = none.1 in
    absurd cc

-- `prefix P` doesn't ask for the prefixes within P.
prefix_is_not_within : (prefix : PrefixValue) (select : SelectValue) → IsQuery (codes "prefix 10.0.0.0/8") (within prefix select) → ⊥
unfolding words_of
prefix_is_not_within prefix select is =
    let asks = query_asks (codes "prefix 10.0.0.0/8") (within prefix select) is in
    eqb-false 112 119 refl (ap (λ (l : List (List ℕ)). get_or (get_or l 0 []) 0 0) asks.spelled)

-- A peer that is named behind the view is none.
the_peer_stands_before_the_view : (select : SelectValue) → IsQuery (codes "table view loc peer 0-0000000000000000-10.0.0.1") (table select) → ⊥
unfolding words_of
the_peer_stands_before_the_view select is =
    let others : List (List ℕ) = codes "peer" ∷ codes "0-0000000000000000-10.0.0.1" ∷ [] in
    let words : List (List ℕ) = codes "view" ∷ codes "loc" ∷ others in
    let asks = query_asks (codes "table view loc peer 0-0000000000000000-10.0.0.1") (table select) is in
    let rest : words ≡ asks.selectors = ap (λ (l : List (List ℕ)). drop 1 l) asks.spelled in
    let none = four_taken words words words others others (record select_all { view = Some Loc })
    (not_taken (codes "router") IsNumberText (codes "view") (codes "loc" ∷ others) (λ e. omega (arith, e)))
    (not_taken (codes "peer") IsKeyText (codes "view") (codes "loc" ∷ others) (λ e. omega (arith, e)))
    (takes_named (codes "view") IsViewText words others (codes "loc") Loc refl refl)
    (not_taken (codes "family") IsFamilyText (codes "peer") (codes "0-0000000000000000-10.0.0.1" ∷ []) (λ e. omega (arith, e)))
    select (subst (AreSelectors select) (sym rest) asks.are_selectors) in
    let empty : [] ≡ others = none.1 in
    absurd cc

-- ---- what is asked with further words
-- a line that begins with `steps` or `full` is no query
front_no_query : (line word : List ℕ) (others : List (List ℕ)) → is_front word ≡ true → words_of line ≡ word ∷ others → (q : QueryValue) → IsQuery line q → ⊥
front_no_query line word others new split q is = plain_front (words_of line) others word (query_plain q (words_of line) (query_asks line q is)) new split

-- a query that is asked with further words begins with its verb
asks_verb : (verb : Verb) (q : QueryValue) (t : TraitsValue) (others : List (List ℕ)) → AsksWith q t (verb_text verb ∷ others) → verb ≡ verb_of q
asks_verb verb q t others asks =
    let b = begins q asks.front asks.is_query in
    let whole : verb_text verb ∷ others ≡ verb_text (verb_of q) ∷ (b.0 ++ asks.back) = asks.spelled ∙ ap (λ (l : List (List ℕ)). l ++ asks.back) b.1 in
    let head : verb_text verb ≡ verb_text (verb_of q) = cc in
    verb_one verb (verb_of q) head

-- a verb whose queries tell no rows, behind `steps`, `full` or both
tells_none : (s f : Bool) (verb : Verb) (others : List (List ℕ)) → ((q : QueryValue) → TellsRows q → verb ≡ verb_of q → ⊥) → (verb_text verb ≡ codes "changes" → ⊥) → (verb_text verb ≡ codes "marks" → ⊥) → (verb_text verb ≡ codes "routers" → ⊥) → ((q : QueryValue) → (s ≡ true → TellsRows q) → (f ≡ true → TellsRows q) → TellsRows q)
    → (ask : AskValue) → AsksBehind s f (verb_text verb ∷ others) ask → ⊥
tells_none s f verb others none other unmarked unrouted told =
    rows_none s f (verb_text verb ∷ others) (verb_text verb) others refl other unmarked unrouted (λ q t asks with_s with_f. none q (told q with_s with_f) (asks_verb verb q t others asks))

-- none of the two words stands in front
bare_line : (line first : List ℕ) (others : List (List ℕ)) → words_of line ≡ first ∷ others → (first ≡ codes "steps" → ⊥) → (first ≡ codes "full" → ⊥) → ((q : QueryValue) → IsQuery line q → ⊥) → (v : AskValue) → IsOfferedAsk line v → AsksBehind false false (words_of line) v
bare_line line first others split no_steps no_full =
    asks_behind line (words_of line) (words_of line) false false
    (takes_no_first (codes "steps") (words_of line) (other_unnamed (codes "steps") first (words_of line) others split no_steps)) (takes_no_first (codes "full") (words_of line) (other_unnamed (codes "full") first (words_of line) others split no_full))

count_tells_no_rows : (q : QueryValue) → TellsRows q → Count ≡ verb_of q → ⊥
count_tells_no_rows (table select) tells e = absurd cc
count_tells_no_rows (exact prefix select) tells e = absurd cc
count_tells_no_rows (longest address select) tells e = absurd cc
count_tells_no_rows (within prefix select) tells e = absurd cc
count_tells_no_rows (origin number select) tells e = absurd cc
count_tells_no_rows _ tells e = absurd tells

peers_tells_no_rows : (q : QueryValue) → TellsRows q → Peers ≡ verb_of q → ⊥
peers_tells_no_rows (table select) tells e = absurd cc
peers_tells_no_rows (exact prefix select) tells e = absurd cc
peers_tells_no_rows (longest address select) tells e = absurd cc
peers_tells_no_rows (within prefix select) tells e = absurd cc
peers_tells_no_rows (origin number select) tells e = absurd cc
peers_tells_no_rows _ tells e = absurd tells

-- `steps` before a verb whose queries tell no rows
no_steps_of : (verb : Verb) (line : List ℕ) → ((q : QueryValue) → TellsRows q → verb ≡ verb_of q → ⊥) → (verb_text verb ≡ codes "changes" → ⊥) → (verb_text verb ≡ codes "marks" → ⊥) → (verb_text verb ≡ codes "routers" → ⊥) → (verb_text verb ≡ codes "full" → ⊥) → words_of line ≡ codes "steps" ∷ verb_text verb ∷ [] → (ask : AskValue) → IsOfferedAsk line ask → ⊥
no_steps_of verb line none other unmarked unrouted no_full split ask is =
    let behind : List (List ℕ) = verb_text verb ∷ [] in
    tells_none true false verb [] none other unmarked unrouted (λ q with_s _. with_s refl) ask
    (asks_behind line behind behind true false (takes_first (codes "steps") (words_of line) behind split) (takes_no_first (codes "full") behind (other_unnamed (codes "full") (verb_text verb) behind [] refl no_full))
    (front_no_query line (codes "steps") behind refl split) ask is)

-- A number of rows has no lanes' steps before it.
steps_stand_before_no_count : (ask : AskValue) → IsOfferedAsk (codes "steps count") ask → ⊥
unfolding words_of
steps_stand_before_no_count = no_steps_of Count (codes "steps count") count_tells_no_rows (λ e. cc e) (λ e. omega (arith, ap (λ (l : List ℕ). get_or l 0 0) e)) (λ e. omega (arith, ap (λ (l : List ℕ). get_or l 0 0) e)) (λ e. cc e) refl

-- Nor have the peers.
steps_stand_before_no_peers : (ask : AskValue) → IsOfferedAsk (codes "steps peers") ask → ⊥
unfolding words_of
steps_stand_before_no_peers = no_steps_of Peers (codes "steps peers") peers_tells_no_rows (λ e. cc e) (λ e. omega (arith, ap (λ (l : List ℕ). get_or l 0 0) e)) (λ e. omega (arith, ap (λ (l : List ℕ). get_or l 0 0) e)) (λ e. cc e) refl

-- A number of rows has no path attributes to tell.
full_stands_before_no_count : (ask : AskValue) → IsOfferedAsk (codes "full count") ask → ⊥
unfolding words_of
full_stands_before_no_count ask is = full_count ask is.is_ask

-- `steps` stands before `full`.
full_stands_behind_steps : (ask : AskValue) → IsOfferedAsk (codes "full steps table") ask → ⊥
full_stands_behind_steps ask is = full_steps ask is.is_ask

-- `full routers` takes no selector, and no `steps`.
full_routers_take_no_selector : (ask : AskValue) → IsOfferedAsk (codes "full routers router 1") ask → ⊥
full_routers_take_no_selector ask is = full_routers_router ask is.is_ask

full_routers_take_no_steps : (ask : AskValue) → IsOfferedAsk (codes "steps full routers") ask → ⊥
full_routers_take_no_steps ask is = steps_before_full_routers ask is.is_ask

-- Who passes over `full` asks for the rows as a query tells them.
full_is_not_passed_over : (q : QueryValue) → IsOfferedAsk (codes "full table") (plain q) → ⊥
unfolding words_of
full_is_not_passed_over q is = plain_front (words_of (codes "full table")) (codes "table" ∷ []) (codes "full") (query_plain q (words_of (codes "full table")) (asked_words (codes "full table") (plain q) is.is_ask)) refl refl

-- And for the routers.
nor_before_routers : (q : QueryValue) → IsOfferedAsk (codes "full routers") (plain q) → ⊥
unfolding words_of
nor_before_routers q is = plain_front (words_of (codes "full routers")) (codes "routers" ∷ []) (codes "full") (query_plain q (words_of (codes "full routers")) (asked_words (codes "full routers") (plain q) is.is_ask)) refl refl

-- Who passes over `steps` asks for the rows alone.
steps_is_not_passed_over : (q : QueryValue) → IsOfferedAsk (codes "steps table") (plain q) → ⊥
unfolding words_of
steps_is_not_passed_over q is = plain_front (words_of (codes "steps table")) (codes "table" ∷ []) (codes "steps") (query_plain q (words_of (codes "steps table")) (asked_words (codes "steps table") (plain q) is.is_ask)) refl refl

-- Who passes over the prefix asks for all changes, with `full` too.
the_prefix_is_not_passed_over : (lane from : ℕ) → IsOfferedAsk (codes "changes 0 1 10.0.0.0/8") (steps false lane from None) → ⊥
unfolding words_of
the_prefix_is_not_passed_over lane from is =
    let are = asked_words (codes "changes 0 1 10.0.0.0/8") (steps false lane from None) is.is_ask in
    omega (arith, ap length (are.spelled ∙ (λ i. are.is_full i ++ (codes "changes" ∷ are.lane_text ∷ are.from_text ∷ are.is_prefix i))))

nor_behind_full : (lane from : ℕ) → IsOfferedAsk (codes "full changes 0 1 10.0.0.0/8") (steps true lane from None) → ⊥
unfolding words_of
nor_behind_full lane from is =
    let are = asked_words (codes "full changes 0 1 10.0.0.0/8") (steps true lane from None) is.is_ask in
    omega (arith, ap length (are.spelled ∙ (λ i. are.is_full i ++ (codes "changes" ∷ are.lane_text ∷ are.from_text ∷ are.is_prefix i))))

no_prefix : (p : PrefixValue) → IsPrefixText [] p → ⊥
no_prefix p is = empty is.front is.back is.spelled
  where
    empty : (front back : List ℕ) → [] ≡ front ++ (47 ∷ back) → ⊥
    empty [] back e = absurd cc
    empty (b ∷ front) back e = absurd cc

as_changes : (q : QueryValue) → Changes ≡ verb_of q → (a : ℕ × ℕ × PrefixValue) × (q ≡ changes a.0 a.1 a.2)
as_changes (changes lane from prefix) e = ((lane, from, prefix), refl)
as_changes q e = absurd cc

-- A space behind the number is the front of a prefix that is none.
nothing_follows_the_number : (ask : AskValue) → IsOfferedAsk (codes "changes 0 1 ") ask → ⊥
unfolding words_of
nothing_follows_the_number ask is =
    let line = codes "changes 0 1 " in
    let others : List (List ℕ) = codes "0" ∷ codes "1" ∷ [] ∷ [] in
    changes_none false false others
    (λ _ lane from p are. no_word p (changes_prefix are.lane_text are.from_text are.prefix_words are.spelled p are.is_prefix)) ask
    (bare_line line (codes "changes") others refl (λ e. cc e) (λ e. cc e)
    (λ q asked.
    let asks = query_asks line q asked in
    let (a, same) = as_changes q (same_verb Changes q others asks) in
    let three = subst (λ (v : QueryValue). AreQueryWords v (codes "changes" ∷ others)) same asks in
    let last : three.prefix_text ≡ [] = sym (ap (λ (l : List (List ℕ)). get_or l 3 []) three.spelled) in
    no_prefix a.2 (subst (λ (t : List ℕ). IsPrefixText t a.2) last three.is_prefix))
    ask is)
  where
    changes_prefix : (l f : List ℕ) (ws : List (List ℕ)) → codes "changes" ∷ codes "0" ∷ codes "1" ∷ [] ∷ [] ≡ codes "changes" ∷ l ∷ f ∷ ws → (p : Option PrefixValue) → IsPrefixWord p ws → IsPrefixWord p ([] ∷ [])
    changes_prefix l f ws e p is = subst (IsPrefixWord p) (sym (ap (λ (k : List (List ℕ)). drop 3 k) e)) is

    no_word : (p : Option PrefixValue) → IsPrefixWord p ([] ∷ []) → ⊥
    no_word None e = omega (arith, ap length e)
    no_word (Some p) (text, is_text, e) =
        let none : text ≡ [] = cc in
        no_prefix p (subst (λ (t : List ℕ). IsPrefixText t p) none is_text)

-- ---- selectors of path attributes
-- They stand in their order.
the_type_stands_last : (ask : AskValue) → IsOfferedAsk (codes "table other 35 through 64500") ask → ⊥
the_type_stands_last ask is = other_through ask is.is_ask

-- Who passes over them asks for all rows.
selectors_are_not_passed_over : (q : QueryValue) → IsOfferedAsk (codes "table other 35") (plain q) → ⊥
unfolding words_of
selectors_are_not_passed_over q is =
    let line = codes "table other 35" in
    let behind : List (List ℕ) = codes "other" ∷ codes "35" ∷ [] in
    let none = plain_bare (words_of line) (codes "table" ∷ []) behind (query_plain q (words_of line) (asked_words line (plain q) is.is_ask)) (by_one (codes "table") [] refl refl refl tt) (refl, tt) refl in
    omega (arith, ap length none)

-- A path is asked for four numbers at most.
five_numbers_are_too_many : (numbers : List ℕ) → IsThroughText (codes "1,2,3,4,5") numbers → ⊥
unfolding digits
five_numbers_are_too_many numbers is =
    let four : List ℕ = 1 ∷ 2 ∷ 3 ∷ 4 ∷ [] in
    let small : All Small four = All-from_recursion Small four (omega arith, (omega arith, (omega arith, (omega arith, tt)))) in
    let left = left_of four (codes "1,2,3,4,5") (codes "5") numbers (record { small = small; spelled = refl }) is in
    omega (arith, left.size_is)

-- A number that two octets don't hold is none of a route target with an AS of four.
a_number_too_large_names_none : (c : CommunityValue) → IsCommunityText (codes "rt:65536:65536") c → ⊥
a_number_too_large_names_none = names_none
