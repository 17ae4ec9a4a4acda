-- The words of a line from its end.
use Rattle.std.proofs.Common.{◌≡◌, ◌≢◌, ℕ, ◌<◌, ◌≤◌, Bool, true, false, cond, List, [], ◌∷◌, ◌++◌, Contains, length, refl, sym, ap, ◌∙◌, arith, append_assoc, length-append}
use Rattle.std.specs.List.{slice_split, onto_first}
use Rattle.std.proofs.lemmas.List.Splits.{slice_split_none, length-slice_split}
use Rattle.bmp_specs.specs.Query.{space}
use Rattle.query_lang.specs.Reading.{words_of, CutsLast, Unended}
use Rattle.query_lang.proofs.LineWords.{is_space, free_word}

onto_append : (b : ℕ) (xs ys : List (List ℕ)) → 0 < length xs → onto_first b (xs ++ ys) ≡ onto_first b xs ++ ys
onto_append b [] ys some = absurd (omega (arith, some))
onto_append b (x ∷ xs) ys some = refl

-- texts with a space between them have the words of both
split_two : (xs ys : List ℕ) → slice_split is_space (xs ++ space ∷ ys) ≡ slice_split is_space xs ++ slice_split is_space ys
split_two [] ys = refl
split_two (b ∷ xs) ys = go (is_space b) refl (split_two xs ys)
  where
    go : (t : Bool) → is_space b ≡ t → slice_split is_space (xs ++ space ∷ ys) ≡ slice_split is_space xs ++ slice_split is_space ys
        → cond t ([] ∷ slice_split is_space (xs ++ space ∷ ys)) (onto_first b (slice_split is_space (xs ++ space ∷ ys))) ≡ cond t ([] ∷ slice_split is_space xs) (onto_first b (slice_split is_space xs)) ++ slice_split is_space ys
    go true e h = ap (λ (l : List (List ℕ)). [] ∷ l) h
    go false e h = ap (λ (l : List (List ℕ)). onto_first b l) h ∙ onto_append b (slice_split is_space xs) (slice_split is_space ys) (omega (arith, length-slice_split is_space xs))

pub one_word : (text : List ℕ) → (Contains text space → ⊥) → words_of text ≡ text ∷ []
unfolding words_of
one_word text free = slice_split_none is_space text (free_word text free)

pub last_word : (text front back : List ℕ) → CutsLast space text front back → words_of text ≡ words_of front ++ back ∷ []
unfolding words_of
last_word text front back cut =
    ap (λ (l : List ℕ). slice_split is_space l) cut.spelled ∙ split_two front back ∙ ap (λ (l : List (List ℕ)). slice_split is_space front ++ l) (slice_split_none is_space back (free_word back cut.last))

pub some_words : (text : List ℕ) → 1 ≤ length (words_of text)
unfolding words_of
some_words text = omega (arith, length-slice_split is_space text)

-- two lists that end with two words are one list
pub end_two : (a b : List (List ℕ)) (x y u v : List ℕ) → a ++ x ∷ y ∷ [] ≡ b ++ u ∷ v ∷ [] → (a ≡ b) × (x ≡ u) × (y ≡ v)
end_two [] [] x y u v e = (refl, cc, cc)
end_two [] (d ∷ b) x y u v e = absurd (omega (arith, ap length e, length-append b (u ∷ v ∷ [])))
end_two (c ∷ a) [] x y u v e = absurd (omega (arith, ap length e, length-append a (x ∷ y ∷ [])))
end_two (c ∷ a) (d ∷ b) x y u v e =
    let first : c ≡ d = cc in
    let rest : a ++ x ∷ y ∷ [] ≡ b ++ u ∷ v ∷ [] = cc in
    let h = end_two a b x y u v rest in
    ((λ i. first i ∷ h.0 i), h.1, h.2)

-- too few words
pub few_unended : (word : List ℕ) (words : List (List ℕ)) → length words ≤ 2 → Unended word words
few_unended word words few front text some e = omega (arith, few, some, ap length e, length-append front (word ∷ text ∷ []))

pub two_words_at : (text rest value others last : List ℕ) → CutsLast space text rest value → CutsLast space rest others last → words_of text ≡ words_of others ++ last ∷ value ∷ []
two_words_at text rest value others last one two =
    last_word text rest value one ∙ ap (λ (l : List (List ℕ)). l ++ value ∷ []) (last_word rest others last two) ∙ append_assoc (words_of others) (last ∷ []) (value ∷ [])

pub other_unended : (word : List ℕ) (words others : List (List ℕ)) (last value : List ℕ) → words ≡ others ++ last ∷ value ∷ [] → last ≢ word → Unended word words
other_unended word words others last value is other front text some e = let h = end_two others front last value word text (sym is ∙ e) in other h.1
