-- The words of a plain query, and those of a query for rows with selectors of path attributes behind them.
use Rattle.std.proofs.Common.{◌≡◌, ℕ, Bool, true, false, ◌&&◌, ◌||◌, ◌==◌, if◌then◌else◌, List, [], ◌∷◌, ◌++◌, Option, None, Some, get_or, codes, refl, sym, ap, subst, ◌∙◌, arith, append-nil}
use Rattle.std.proofs.lemmas.Bool.{true≢false}
use Rattle.bmp_specs.specs.NumberText.{IsNumberText}
use Rattle.bmp_specs.specs.PeerText.{IsKeyText, IsViewText}
use Rattle.bmp_specs.specs.Query.{QueryValue, routers, cut, peers, marks, table, count, exact, longest, within, origin, stats, changes, quit, AreQueryWords, ArePeerSelectors, AreSelectors, IsFamilyText, IsSelection, IsSelector, IsSought}
use Rattle.bmp_specs.specs.Selection.{SelectValue}
use Rattle.bmp_specs.specs.Values.{KeyValue}
use Rattle.ask_specs.specs.Asking.{AsksForRows, AreTraits}
use Rattle.ask_specs.specs.Traits.{TraitsValue}
use Rattle.ask_specs.specs.TraitText.{IsThroughText, IsCommunityText, IsTypeText}

-- ---- words by some of their letters
-- `full` and `steps`, and no verb of a plain query
abbrev pub is_front : List ℕ → Bool
is_front w = get_or w 0 0 == 102 || (get_or w 0 0 == 115 && get_or w 2 0 == 101)

-- `through`, `community` and `other`, and no selector of a plain query
abbrev pub is_trait : List ℕ → Bool
is_trait w = get_or w 0 0 == 116 || (get_or w 0 0 == 99 || get_or w 0 0 == 111)

-- how many words stand before the selectors: none have `cut` and `changes`, one has `table`, `count`, `marks` and `peers`, and
-- two have `prefix`, `match`, `within`, `origin` and `stats`
abbrev pub heads : List ℕ → ℕ
heads w =
    if get_or w 0 0 == 116 then 1 else
    (if get_or w 0 0 == 99 then (if get_or w 1 0 == 111 then 1 else 0) else
    (if get_or w 0 0 == 109 && get_or w 2 0 == 114 then 1 else
    (if get_or w 0 0 == 112 && get_or w 1 0 == 101 then 1 else 2)))

-- ---- selectors
-- each word and the text behind it, and whether the words are of path attributes
abbrev pub ArePaired : Bool → List (List ℕ) → Type 0
ArePaired new [] = Unit {0}
ArePaired new (word ∷ []) = ⊥
ArePaired new (word ∷ text ∷ rest) = (is_trait word ≡ new) × ArePaired new rest

paired_join : (new : Bool) (a b : List (List ℕ)) → ArePaired new a → ArePaired new b → ArePaired new (a ++ b)
paired_join new [] b p q = q
paired_join new (word ∷ []) b p q = absurd p
paired_join new (word ∷ text ∷ rest) b p q = (p.0, paired_join new rest b p.1 q)

paired_one : {A : Type 0} (new : Bool) (word : List ℕ) (IsText : List ℕ → A → Type 0) (value : Option A) (words : List (List ℕ)) → is_trait word ≡ new → IsSelector word IsText value words → ArePaired new words
paired_one new word IsText None words kind is = subst (ArePaired new) (sym is) tt
paired_one new word IsText (Some value) words kind (text, is_text, is) = subst (ArePaired new) (sym is) (kind, tt)

peers_paired : (router : Option ℕ) (peer : Option KeyValue) (words : List (List ℕ)) → ArePeerSelectors router peer words → ArePaired false words
peers_paired router peer words are = subst (ArePaired false) (sym are.spelled)
    (paired_join false are.router_words are.peer_words (paired_one false (codes "router") IsNumberText router are.router_words refl are.is_router) (paired_one false (codes "peer") IsKeyText peer are.peer_words refl are.is_peer))

select_paired : (select : SelectValue) (words : List (List ℕ)) → AreSelectors select words → ArePaired false words
select_paired select words are = subst (ArePaired false) (sym are.spelled)
    (paired_join false are.peer_words (are.view_words ++ are.family_words) (peers_paired select.router select.peer are.peer_words are.are_peer)
    (paired_join false are.view_words are.family_words (paired_one false (codes "view") IsViewText select.view are.view_words refl are.is_view) (paired_one false (codes "family") IsFamilyText select.family are.family_words refl are.is_family)))

pub traits_paired : (traits : TraitsValue) (words : List (List ℕ)) → AreTraits traits words → ArePaired true words
traits_paired traits words are = subst (ArePaired true) (sym are.spelled)
    (paired_join true are.through_words (are.community_words ++ are.other_words) (paired_one true (codes "through") IsThroughText traits.through are.through_words refl are.is_through)
    (paired_join true are.community_words are.other_words (paired_one true (codes "community") IsCommunityText traits.community are.community_words refl are.is_community) (paired_one true (codes "other") IsTypeText traits.other are.other_words refl are.is_other)))

-- the selectors of a plain query and those of path attributes behind them are told apart
pub parted_one : (a b x y : List (List ℕ)) → ArePaired false a → ArePaired false b → ArePaired true x → ArePaired true y → a ++ x ≡ b ++ y → (a ≡ b) × (x ≡ y)
parted_one [] [] x y p q r s e = (refl, e)
parted_one [] (w ∷ []) x y p q r s e = absurd q
parted_one (w ∷ []) b x y p q r s e = absurd p
parted_one [] (w ∷ t ∷ b) x y p q r s e = let front = subst (ArePaired true) e r in absurd (true≢false (sym front.0 ∙ q.0))
parted_one (w ∷ t ∷ a) [] x y p q r s e = let front = subst (ArePaired true) (sym e) s in absurd (true≢false (sym front.0 ∙ p.0))
parted_one (w ∷ t ∷ a) (v ∷ []) x y p q r s e = absurd q
parted_one (w ∷ t ∷ a) (v ∷ u ∷ b) x y p q r s e =
    let first : w ≡ v = cc in
    let second : t ≡ u = cc in
    let rest : a ++ x ≡ b ++ y = cc in
    let h = parted_one a b x y p.1 q.1 r s rest in
    (λ i. first i ∷ second i ∷ h.0 i, h.1)

-- ---- queries
-- a verb, or a verb and a text, and the selectors of a plain query
pub data IsHeaded (words : List (List ℕ)) : Type 0 where
  by_one : (verb : List ℕ) (rest : List (List ℕ)) → words ≡ verb ∷ rest → is_front verb ≡ false → heads verb ≡ 1 → ArePaired false rest → IsHeaded words
  by_two : (verb text : List ℕ) (rest : List (List ℕ)) → words ≡ verb ∷ text ∷ rest → is_front verb ≡ false → heads verb ≡ 2 → ArePaired false rest → IsHeaded words

-- so are all plain queries, but for those of one word and `changes`
pub data IsPlain (words : List (List ℕ)) : Type 0 where
  headed : IsHeaded words → IsPlain words
  alone : (verb : List ℕ) → words ≡ verb ∷ [] → is_front verb ≡ false → IsPlain words
  told_changes : (lane from prefix : List ℕ) → words ≡ codes "changes" ∷ lane ∷ from ∷ prefix ∷ [] → IsPlain words

selection_headed : (verb : List ℕ) (select : SelectValue) (words : List (List ℕ)) → is_front verb ≡ false → heads verb ≡ 1 → IsSelection verb select words → IsHeaded words
selection_headed verb select words front one is = by_one verb is.selectors is.spelled front one (select_paired select is.selectors is.are_selectors)

sought_headed : {A : Type 0} (verb : List ℕ) (IsText : List ℕ → A → Type 0) (value : A) (select : SelectValue) (words : List (List ℕ)) → is_front verb ≡ false → heads verb ≡ 2 → IsSought verb IsText value select words → IsHeaded words
sought_headed verb IsText value select words front two is = by_two verb is.text is.selectors is.spelled front two (select_paired select is.selectors is.are_selectors)

pub rows_headed : (query : QueryValue) (words : List (List ℕ)) → AsksForRows query → AreQueryWords query words → IsHeaded words
rows_headed (table select) words asks is = selection_headed (codes "table") select words refl refl is
rows_headed (count select) words asks is = selection_headed (codes "count") select words refl refl is
rows_headed (exact prefix select) words asks is = sought_headed (codes "prefix") _ prefix select words refl refl is
rows_headed (longest address select) words asks is = sought_headed (codes "match") _ address select words refl refl is
rows_headed (within prefix select) words asks is = sought_headed (codes "within") _ prefix select words refl refl is
rows_headed (origin asn select) words asks is = sought_headed (codes "origin") _ asn select words refl refl is
rows_headed _ words asks is = absurd asks

pub marks_headed : (select : SelectValue) (words : List (List ℕ)) → AreQueryWords (marks select) words → IsHeaded words
marks_headed select words is = selection_headed (codes "marks") select words refl refl is

pub query_plain : (query : QueryValue) (words : List (List ℕ)) → AreQueryWords query words → IsPlain words
query_plain routers words is = alone (codes "routers") is refl
query_plain cut words is = alone (codes "cut") is refl
query_plain (peers router peer) words is = headed (by_one (codes "peers") is.selectors is.spelled refl refl (peers_paired router peer is.selectors is.are_selectors))
query_plain (marks select) words is = headed (selection_headed (codes "marks") select words refl refl is)
query_plain (table select) words is = headed (rows_headed (table select) words tt is)
query_plain (count select) words is = headed (rows_headed (count select) words tt is)
query_plain (exact prefix select) words is = headed (rows_headed (exact prefix select) words tt is)
query_plain (longest address select) words is = headed (rows_headed (longest address select) words tt is)
query_plain (within prefix select) words is = headed (rows_headed (within prefix select) words tt is)
query_plain (origin asn select) words is = headed (rows_headed (origin asn select) words tt is)
query_plain (stats key) words is = headed (by_two (codes "stats") is.text [] is.spelled refl refl tt)
query_plain (changes lane from prefix) words is = told_changes is.lane_text is.from_text is.prefix_text is.spelled
query_plain quit words is = alone (codes "quit") is refl

-- words with selectors behind them are parted in one way
pub headed_one : (a b x y : List (List ℕ)) → IsHeaded a → IsHeaded b → ArePaired true x → ArePaired true y → a ++ x ≡ b ++ y → (a ≡ b) × (x ≡ y)
headed_one a b x y (by_one v rest is front n p) (by_one w others same other m q) r s e =
    let whole : v ∷ (rest ++ x) ≡ w ∷ (others ++ y) = ap (λ (l : List (List ℕ)). l ++ x) (sym is) ∙ e ∙ ap (λ (l : List (List ℕ)). l ++ y) same in
    let first : v ≡ w = cc in
    let back : rest ++ x ≡ others ++ y = cc in
    let h = parted_one rest others x y p q r s back in
    (is ∙ (λ i. first i ∷ h.0 i) ∙ sym same, h.1)
headed_one a b x y (by_two v t rest is front n p) (by_two w u others same other m q) r s e =
    let whole : v ∷ t ∷ (rest ++ x) ≡ w ∷ u ∷ (others ++ y) = ap (λ (l : List (List ℕ)). l ++ x) (sym is) ∙ e ∙ ap (λ (l : List (List ℕ)). l ++ y) same in
    let first : v ≡ w = cc in
    let second : t ≡ u = cc in
    let back : rest ++ x ≡ others ++ y = cc in
    let h = parted_one rest others x y p q r s back in
    (is ∙ (λ i. first i ∷ second i ∷ h.0 i) ∙ sym same, h.1)
headed_one a b x y (by_one v rest is front n p) (by_two w u others same other m q) r s e =
    let whole : v ∷ (rest ++ x) ≡ w ∷ u ∷ (others ++ y) = ap (λ (l : List (List ℕ)). l ++ x) (sym is) ∙ e ∙ ap (λ (l : List (List ℕ)). l ++ y) same in
    let first : v ≡ w = cc in
    absurd (omega (arith, n, m, ap heads first))
headed_one a b x y (by_two v t rest is front n p) (by_one w others same other m q) r s e =
    let whole : v ∷ t ∷ (rest ++ x) ≡ w ∷ (others ++ y) = ap (λ (l : List (List ℕ)). l ++ x) (sym is) ∙ e ∙ ap (λ (l : List (List ℕ)). l ++ y) same in
    let first : v ≡ w = cc in
    absurd (omega (arith, n, m, ap heads first))

-- words whose verb is `changes` aren't headed
pub not_changes : (a x rest : List (List ℕ)) → IsHeaded a → ¬ (a ++ x ≡ codes "changes" ∷ rest)
not_changes a x rest (by_one v more is front n p) e =
    let whole : v ∷ (more ++ x) ≡ codes "changes" ∷ rest = ap (λ (l : List (List ℕ)). l ++ x) (sym is) ∙ e in
    let first : v ≡ codes "changes" = cc in
    let none : heads v ≡ 0 = ap heads first in
    omega (arith, n, none)
not_changes a x rest (by_two v t more is front n p) e =
    let whole : v ∷ t ∷ (more ++ x) ≡ codes "changes" ∷ rest = ap (λ (l : List (List ℕ)). l ++ x) (sym is) ∙ e in
    let first : v ≡ codes "changes" = cc in
    let none : heads v ≡ 0 = ap heads first in
    omega (arith, n, none)

-- nor do they begin with `full` or `steps`
pub headed_front : (a x rest : List (List ℕ)) (word : List ℕ) → IsHeaded a → is_front word ≡ true → ¬ (a ++ x ≡ word ∷ rest)
headed_front a x rest word (by_one v more is front n p) new e =
    let whole : v ∷ (more ++ x) ≡ word ∷ rest = ap (λ (l : List (List ℕ)). l ++ x) (sym is) ∙ e in
    let first : v ≡ word = cc in
    true≢false (sym new ∙ ap is_front (sym first) ∙ front)
headed_front a x rest word (by_two v t more is front n p) new e =
    let whole : v ∷ t ∷ (more ++ x) ≡ word ∷ rest = ap (λ (l : List (List ℕ)). l ++ x) (sym is) ∙ e in
    let first : v ≡ word = cc in
    true≢false (sym new ∙ ap is_front (sym first) ∙ front)

pub plain_front : (words rest : List (List ℕ)) (word : List ℕ) → IsPlain words → is_front word ≡ true → ¬ (words ≡ word ∷ rest)
plain_front words rest word (headed h) new e = headed_front words [] rest word h new (append-nil words ∙ e)
plain_front words rest word (alone v is front) new e =
    let whole : v ∷ [] ≡ word ∷ rest = sym is ∙ e in
    let first : v ≡ word = cc in
    true≢false (sym new ∙ ap is_front (sym first) ∙ front)
plain_front words rest word (told_changes l f p is) new e =
    let whole : codes "changes" ∷ l ∷ f ∷ p ∷ [] ≡ word ∷ rest = sym is ∙ e in
    let first : codes "changes" ≡ word = cc in
    let old : is_front (codes "changes") ≡ false = refl in
    true≢false (sym new ∙ ap is_front (sym first) ∙ old)

-- the words of a plain query have no selectors of path attributes behind them
pub plain_bare : (words a x : List (List ℕ)) → IsPlain words → IsHeaded a → ArePaired true x → words ≡ a ++ x → x ≡ []
plain_bare words a x (headed h) is p e = (headed_one a words x [] is h p tt (sym e ∙ sym (append-nil words))).1
plain_bare words a x (alone v is front) (by_one w rest same other n q) p e =
    let whole : v ∷ [] ≡ w ∷ (rest ++ x) = sym is ∙ e ∙ ap (λ (l : List (List ℕ)). l ++ x) same in
    let none : [] ≡ rest ++ x = cc in
    both_none rest x none
  where
    both_none : (rest y : List (List ℕ)) → [] ≡ rest ++ y → y ≡ []
    both_none [] y none = sym none
    both_none (r ∷ rest) y none = absurd cc
plain_bare words a x (alone v is front) (by_two w t rest same other n q) p e =
    let whole : v ∷ [] ≡ w ∷ t ∷ (rest ++ x) = sym is ∙ e ∙ ap (λ (l : List (List ℕ)). l ++ x) same in
    absurd cc
plain_bare words a x (told_changes l f k is) h p e = absurd (not_changes a x (l ∷ f ∷ k ∷ []) h (sym e ∙ is))

-- and are no `changes` without a prefix
pub plain_changes : (words : List (List ℕ)) (lane from : List ℕ) → IsPlain words → ¬ (words ≡ codes "changes" ∷ lane ∷ from ∷ [])
plain_changes words lane from (headed h) e = not_changes words [] (lane ∷ from ∷ []) h (append-nil words ∙ e)
plain_changes words lane from (alone v is front) e = let whole : v ∷ [] ≡ codes "changes" ∷ lane ∷ from ∷ [] = sym is ∙ e in absurd cc
plain_changes words lane from (told_changes l f p is) e = let whole : codes "changes" ∷ l ∷ f ∷ p ∷ [] ≡ codes "changes" ∷ lane ∷ from ∷ [] = sym is ∙ e in absurd cc
