-- The words of a line are one list, and a query is one of these words.
use Rattle.std.proofs.Common.{◌≡◌, ℕ, ◌+◌, ◌<◌, ◌==◌, Bool, true, false, cond, List, [], ◌∷◌, ◌++◌, Option, None, Some, All, Contains, length, get_or, take, drop, refl, sym, ap, subst, ◌∙◌, arith, nat_lt, ne_eqb, length-take, take-append-drop}
use Rattle.std.specs.Cmp.Lexicographic.{pointwise, same_text, other_text}
use Rattle.std.specs.Prelude.{nat_eq, IfSome, IfNone}
use Rattle.std.specs.List.{slice_split, onto_first, join_with_byte, position, position_or_len}
use Rattle.std.proofs.lemmas.Bool.{eqb-true, eqb-false, ltb-false, true≢false}
use Rattle.std.proofs.lemmas.List.{drop_more, get_or-take}
use Rattle.std.proofs.lemmas.List.Elements.{All-nil, All-cons, All-head, All-tail, All-contains, All-from_get_or, Contains-get_or}
use Rattle.std.proofs.lemmas.List.Quantifiers.{position-Some}
use Rattle.std.proofs.lemmas.List.Splits.{slice_split_none, slice_split_at, length-slice_split, join_with_byte-slice_split}
use Rattle.std.proofs.lemmas.List.Sums.{fails_before_first}
use Rattle.bmp_specs.specs.Query.{QueryValue, space, IsWord, AreQueryWords, IsQuery}
use Rattle.query_lang.specs.Queries.{query_value}
use Rattle.query_lang.specs.Reading.{words_of, further_words}
use Rattle.query_lang.specs.Verbs.{verb_text, verb_of}
use Rattle.query_lang.specs.declared.query.Query.{Query}
use Rattle.query_lang.specs.declared.verb.Verb.{Verb}
use Rattle.query_lang.proofs.VerbLaws.{begins}

abbrev pub is_space : ℕ → Bool
is_space b = b == space

abbrev pub Free : List ℕ → Type 0
Free word = All (λ b. is_space b ≡ false) word

pub free_word : (word : List ℕ) → IsWord word → Free word
free_word word is = λ k d h. ne_eqb (get_or word k d) space (λ e. is (subst (Contains word) e (Contains-get_or word k d h)))

pub word_free : (word : List ℕ) → All (λ b. (b == space) ≡ false) word → IsWord word
word_free word free = λ has. true≢false (All-contains (λ b. is_space b ≡ false) word space free has)

-- words that are joined are cut into the same words
split_joined : (words : List (List ℕ)) → 0 < length words → All IsWord words → slice_split is_space (join_with_byte space words) ≡ words
split_joined [] some are = absurd (omega (arith, some))
split_joined (w ∷ []) some are = slice_split_none is_space w (free_word w (All-head IsWord w [] are))
split_joined (w ∷ v ∷ ws) some are =
    slice_split_at is_space w space (join_with_byte space (v ∷ ws)) (free_word w (All-head IsWord w (v ∷ ws) are)) refl ∙ ap (λ (l : List (List ℕ)). w ∷ l) (split_joined (v ∷ ws) (omega arith) (All-tail IsWord w (v ∷ ws) are))

onto_words : (b : ℕ) (parts : List (List ℕ)) → is_space b ≡ false → All IsWord parts → All IsWord (onto_first b parts)
onto_words b [] other are = All-cons IsWord (b ∷ []) [] (word_free (b ∷ []) (All-cons (λ c. is_space c ≡ false) b [] other (All-nil (λ c. is_space c ≡ false)))) (All-nil IsWord)
onto_words b (part ∷ parts) other are =
    All-cons IsWord (b ∷ part) parts (word_free (b ∷ part) (All-cons (λ c. is_space c ≡ false) b part other (free_word part (All-head IsWord part parts are)))) (All-tail IsWord part parts are)

no_byte : IsWord []
no_byte = word_free [] (All-nil (λ b. is_space b ≡ false))

split_words : (line : List ℕ) → All IsWord (slice_split is_space line)
split_words [] = All-cons IsWord [] [] no_byte (All-nil IsWord)
split_words (b ∷ line) = go (is_space b) refl (split_words line)
  where
    go : (t : Bool) → is_space b ≡ t → All IsWord (slice_split is_space line) → All IsWord (cond t ([] ∷ slice_split is_space line) (onto_first b (slice_split is_space line)))
    go true e are = All-cons IsWord [] (slice_split is_space line) no_byte are
    go false e are = onto_words b (slice_split is_space line) e are

-- a line is joined of its words, and of no others
pub line_joined : (line : List ℕ) → All IsWord (words_of line) × (line ≡ join_with_byte space (words_of line))
unfolding words_of
line_joined line = (split_words line, sym (join_with_byte-slice_split space line))

pub joined_words : (line : List ℕ) (words : List (List ℕ)) → 0 < length words → All IsWord words → line ≡ join_with_byte space words → words_of line ≡ words
unfolding words_of
joined_words line words some are joined = ap (λ (l : List ℕ). slice_split is_space l) joined ∙ split_joined words some are

-- a line of these words is this query, and of no others
pub is_query : (line : List ℕ) (q : QueryValue) → AreQueryWords q (words_of line) → IsQuery line q
is_query line q asks = let (are, joined) = line_joined line in record { words = words_of line; are_words = are; joined = joined; asks = asks }

pub query_asks : (line : List ℕ) (q : QueryValue) → IsQuery line q → AreQueryWords q (words_of line)
query_asks line q is =
    let b = begins q is.words is.asks in
    subst (AreQueryWords q) (sym (joined_words line is.words (omega (arith, ap length b.1)) is.are_words is.joined)) is.asks

-- a text is cut before its first space
pub cut_word : (text : List ℕ) (at : ℕ) → position (λ b. b == space) text ≡ Some at → words_of text ≡ take at text ∷ further_words (drop at text)
unfolding words_of
cut_word text at found =
    let place = position-Some is_space text at 0 found in
    let mark : get_or text at 0 ≡ space = eqb-true (get_or text at 0) space place.1 in
    let tail : drop at text ≡ get_or text at 0 ∷ drop (at + 1) text = drop_more text at 0 place.0 in
    let free : Free (take at text) = All-from_get_or (λ b. is_space b ≡ false) (take at text) 0 (λ k h. fits k (omega (arith, h, length-take at text)) place.2) in
    let whole : text ≡ take at text ++ (space ∷ drop (at + 1) text) = sym (take-append-drop at text) ∙ ap (λ (l : List ℕ). take at text ++ l) (tail ∙ ap (λ (b : ℕ). b ∷ drop (at + 1) text) mark) in
    ap (λ (l : List ℕ). slice_split is_space l) whole ∙ slice_split_at is_space (take at text) space (drop (at + 1) text) free refl ∙ ap (λ (l : List (List ℕ)). take at text ∷ l) (sym (ap (λ (l : List ℕ). further_words l) tail))
  where
    fits : (k : ℕ) → k < at → ((j : ℕ) → j < at → is_space (get_or text j 0) ≡ false) → is_space (get_or (take at text) k 0) ≡ false
    fits k h before = ap (λ (b : ℕ). is_space b) (get_or-take at text k 0 h) ∙ before k h

pub whole_word : (text : List ℕ) → position (λ b. b == space) text ≡ None → words_of text ≡ text ∷ []
unfolding words_of
whole_word text none = slice_split_none is_space text (λ k d h. go k d h (nat_lt (position_or_len is_space text) (length text)) refl none)
  where
    go : (k d : ℕ) → k < length text → (t : Bool) → nat_lt (position_or_len is_space text) (length text) ≡ t → cond t (Some (position_or_len is_space text)) None ≡ None → is_space (get_or text k d) ≡ false
    go k d h true e none = absurd cc
    go k d h false e none = fails_before_first is_space text k d (omega (arith, h, ltb-false (position_or_len is_space text) (length text) e))

-- words follow unless nothing does
pub none_follow : (rest : List ℕ) → length rest ≡ 0 → further_words rest ≡ []
none_follow [] none = refl
none_follow (b ∷ rest) none = absurd (omega (arith, none))

pub some_follow : (rest : List ℕ) → (length rest ≡ 0 → ⊥) → further_words rest ≡ [] → ⊥
unfolding words_of
some_follow [] some none = some refl
some_follow (b ∷ rest) some none = omega (arith, ap length none, length-slice_split is_space rest)

-- what a test of emptiness tells
pub nothing_follows : (rest : List ℕ) (t : Bool) → t ≡ (length rest == 0) → t ≡ true → further_words rest ≡ []
nothing_follows rest t told e = none_follow rest (eqb-true (length rest) 0 (sym told ∙ e))

pub something_follows : (rest : List ℕ) (t : Bool) → t ≡ (length rest == 0) → t ≡ false → further_words rest ≡ [] → ⊥
something_follows rest t told e none = some_follow rest (eqb-false (length rest) 0 (sym told ∙ e)) none

-- what was read of the words was read of the line
pub line_some : (line : List ℕ) (words : List (List ℕ)) (r : Option Query) → words_of line ≡ words → IfSome r (λ q. AreQueryWords (query_value q) words) → IfSome r (λ q. IsQuery line (query_value q))
line_some line words None e is = tt
line_some line words (Some q) e is = is_query line (query_value q) (subst (AreQueryWords (query_value q)) (sym e) is)

pub line_only : (line : List ℕ) (words : List (List ℕ)) (r : Option Query) → words_of line ≡ words → IfSome r (λ q. (v : QueryValue) → AreQueryWords v words → v ≡ query_value q) → IfSome r (λ q. (v : QueryValue) → IsQuery line v → v ≡ query_value q)
line_only line words None e one = tt
line_only line words (Some q) e one = λ v is. one v (subst (AreQueryWords v) e (query_asks line v is))

pub line_none : (line : List ℕ) (words : List (List ℕ)) (r : Option Query) → words_of line ≡ words → IfNone r ((v : QueryValue) → AreQueryWords v words → ⊥) → IfNone r ((v : QueryValue) → IsQuery line v → ⊥)
line_none line words (Some q) e none = tt
line_none line words None e none = λ v is. none v (subst (AreQueryWords v) e (query_asks line v is))

-- a line that begins with no verb is no query
pub no_verb : (line word : List ℕ) (others : List (List ℕ)) → words_of line ≡ word ∷ others → ((v : Verb) → word ≡ verb_text v → ⊥) → (q : QueryValue) → IsQuery line q → ⊥
no_verb line word others split none q is =
    let b = begins q (words_of line) (query_asks line q is) in
    let whole : word ∷ others ≡ verb_text (verb_of q) ∷ b.0 = sym split ∙ b.1 in
    let head : word ≡ verb_text (verb_of q) = cc in
    none (verb_of q) head

-- what a test of a word has told
pub is_this : (word said text : List ℕ) (t : Bool) → said ≡ text → t ≡ pointwise nat_eq word said → t ≡ true → word ≡ text
is_this word said text t same told e = same_text word said (sym e ∙ told) ∙ same

pub is_other : (word said text : List ℕ) (t : Bool) → said ≡ text → t ≡ pointwise nat_eq word said → t ≡ false → word ≡ text → ⊥
is_other word said text t same told e is = other_text word said (sym e ∙ told) (is ∙ sym same)
