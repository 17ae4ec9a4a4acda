-- What the matches tell of the options in the words.
use Rattle.std.proofs.Common.{◌≡◌, ℕ, Bool, true, false, List, [], ◌∷◌, ◌++◌, Option, None, Some, map, refl, sym, ap, subst, ◌∙◌, inl, inr, find}
use Rattle.std.specs.Prelude.{fold}
use Rattle.std.specs.List.{list_any}
use Rattle.std.specs.Str.{bytes_eq}
use Rattle.std.proofs.lemmas.Slice.Eq.{bytes_eq-Decides}
use Rattle.clap.specs.Walk.{Row, Text, first_of, has_row, idle, settled, with_default}
use Rattle.clap.specs.Simple.{matches_of}
use Rattle.clap.specs.Faults.{fault_of, is_simple_and_free}
use Rattle.station_words.specs.ServeOptions.{IsTold, dashed, option_names, serve_app}
use Rattle.station_words.specs.ServeWords.{Setting, AreSettings, IsOption, flag, flag_alone, one_word, two_words, values_of}
use Rattle.station_words.proofs.OptionWalk.{IsAmongNames, flag_name, ready_flag, Pairs, Passes, Uses, at, hold, ready, rules, row, first_empty, read, is_dashes, walk_end}

abbrev pub settings_of : Pairs → List Setting
settings_of = map (λ s. (dashed s.0, s.1))

-- each name that the command has is an option
pub is_option : (name : Text) → IsAmongNames name option_names → IsOption (dashed name)
is_option name (inl (e)) = inl (ap dashed (sym e))
is_option name (inr (inl (e))) = inr (inl (ap dashed (sym e)))
is_option name (inr (inr (inl (e)))) = inr (inr (inl (ap dashed (sym e))))
is_option name (inr (inr (inr (inl (e))))) = inr (inr (inr (inl (ap dashed (sym e)))))
is_option name (inr (inr (inr (inr (inl (e)))))) = inr (inr (inr (inr (inl (ap dashed (sym e))))))
is_option name (inr (inr (inr (inr (inr (inl (e))))))) = inr (inr (inr (inr (inr (inl (ap dashed (sym e)))))))
is_option name (inr (inr (inr (inr (inr (inr (inl (e)))))))) = inr (inr (inr (inr (inr (inr (inl (ap dashed (sym e))))))))
is_option name (inr (inr (inr (inr (inr (inr (inr (inl (e))))))))) = inr (inr (inr (inr (inr (inr (inr (inl (ap dashed (sym e)))))))))
is_option name (inr (inr (inr (inr (inr (inr (inr (inr (inl (e)))))))))) = inr (inr (inr (inr (inr (inr (inr (inr (inl (ap dashed (sym e))))))))))
is_option name (inr (inr (inr (inr (inr (inr (inr (inr (inr (inl (e))))))))))) = inr (inr (inr (inr (inr (inr (inr (inr (inr (inl (ap dashed (sym e)))))))))))
is_option name (inr (inr (inr (inr (inr (inr (inr (inr (inr (inr (inl (e)))))))))))) = inr (inr (inr (inr (inr (inr (inr (inr (inr (inr (inl (ap dashed (sym e))))))))))))
is_option name (inr (inr (inr (inr (inr (inr (inr (inr (inr (inr (inr (inl (e))))))))))))) = inr (inr (inr (inr (inr (inr (inr (inr (inr (inr (inr (inl (ap dashed (sym e)))))))))))))
is_option name (inr (inr (inr (inr (inr (inr (inr (inr (inr (inr (inr (inr (inl (e)))))))))))))) = inr (inr (inr (inr (inr (inr (inr (inr (inr (inr (inr (inr (ap dashed (sym e)))))))))))))
is_option name (inr (inr (inr (inr (inr (inr (inr (inr (inr (inr (inr (inr (inr (none)))))))))))))) = elim none [ ]

pub are_settings : (ss : Pairs) (words : List Text) (rows end : List Row) → Uses option_names ss words rows end → AreSettings (settings_of ss) words
are_settings [] words rows end (none, same) = none
are_settings (s ∷ ss) words rows end (others, free, inl (among, inl is), uses) = (others, two_words (is_option s.0 among) is, are_settings ss others (rows ++ row s.0 s.1 ∷ []) end uses)
are_settings (s ∷ ss) words rows end (others, free, inl (among, inr is), uses) = (others, one_word (is_option s.0 among) is, are_settings ss others (rows ++ row s.0 s.1 ∷ []) end uses)
are_settings (s ∷ ss) words rows end (others, free, inr (named, valued, is), uses) = (
  others,
  flag_alone (ap (λ (t : Text). (dashed t, s.1)) named ∙ ap (λ (v : Text). (flag, v)) valued) (is ∙ ap (λ (t : Text). dashed t ∷ others) named),
  are_settings ss others (rows ++ row s.0 s.1 ∷ []) end uses,
)

-- ---- the rows

abbrev pub row_at : Text → List Row → Option Row
row_at name rows = find (λ r. bytes_eq r.id name) rows

no_row : (name : Text) (rows : List Row) → has_row name rows ≡ false → row_at name rows ≡ None
no_row name [] none = refl
no_row name (r ∷ rs) none = go (bytes_eq r.id name) refl (λ h. no_row name rs h)
  where
    go : (b : Bool) → bytes_eq r.id name ≡ b → (has_row name rs ≡ false → row_at name rs ≡ None) → row_at name (r ∷ rs) ≡ None
    go true is rest = let h = rw is at none in cc h
    go false is rest = let h = rw is at none in rw is (rest h)

still_there : (name : Text) (rows : List Row) (r new : Row) → row_at name rows ≡ Some r → row_at name (rows ++ new ∷ []) ≡ Some r
still_there name [] r new some = cc some
still_there name (x ∷ xs) r new some = go (bytes_eq x.id name) refl (λ h. still_there name xs r new h)
  where
    go : (b : Bool) → bytes_eq x.id name ≡ b → (row_at name xs ≡ Some r → row_at name (xs ++ new ∷ []) ≡ Some r) → row_at name (x ∷ xs ++ new ∷ []) ≡ Some r
    go true is rest = let h = rw is at some in rw is h
    go false is rest = let h = rw is at some in rw is (rest h)

pub only_new : (name : Text) (rows : List Row) (new : Row) → row_at name rows ≡ None → row_at name (rows ++ new ∷ []) ≡ row_at name (new ∷ [])
only_new name [] new none = refl
only_new name (x ∷ xs) new none = go (bytes_eq x.id name) refl (λ h. only_new name xs new h)
  where
    go : (b : Bool) → bytes_eq x.id name ≡ b → (row_at name xs ≡ None → row_at name (xs ++ new ∷ []) ≡ row_at name (new ∷ [])) → row_at name (x ∷ xs ++ new ∷ []) ≡ row_at name (new ∷ [])
    go true is rest = let h = rw is at none in cc h
    go false is rest = let h = rw is at none in rw is (rest h)

-- an option that has a row is given no more
pub row_stays : (name : Text) (r : Row) (ss : Pairs) (words : List Text) (rows end : List Row) → Uses option_names ss words rows end → row_at name rows ≡ Some r → (row_at name end ≡ Some r) × (values_of (dashed name) (settings_of ss) ≡ [])
row_stays name r [] words rows end (none, same) some = (ap (row_at name) same ∙ some, refl)
row_stays name r (s ∷ ss) words rows end (others, free, stands, uses) some = go (bytes_eq s.0 name) refl (row_stays name r ss others (rows ++ row s.0 s.1 ∷ []) end uses (still_there name rows r (row s.0 s.1) some))
  where
    go : (b : Bool) → bytes_eq s.0 name ≡ b → (row_at name end ≡ Some r) × (values_of (dashed name) (settings_of ss) ≡ []) → (row_at name end ≡ Some r) × (values_of (dashed name) (settings_of (s ∷ ss)) ≡ [])
    go true is rest =
        let gone = subst (λ (t : Text). row_at t rows ≡ None) ((bytes_eq-Decides s.0 name).0 is) (no_row s.0 rows free) in
        absurd (cc (sym gone ∙ some))
    go false is rest = (rest.0, rw is rest.1)

pub told_of : (name : Text) (ss : Pairs) (words : List Text) (rows end : List Row) → Uses option_names ss words rows end → row_at name rows ≡ None → IsTold (values_of (dashed name) (settings_of ss)) (first_of name end)
told_of name [] words rows end (none, same) gone = rw (same, gone) refl
told_of name (s ∷ ss) words rows end (others, free, stands, uses) gone = go (bytes_eq s.0 name) refl (λ h. told_of name ss others (rows ++ row s.0 s.1 ∷ []) end uses h)
  where
    go : (b : Bool) → bytes_eq s.0 name ≡ b → (row_at name (rows ++ row s.0 s.1 ∷ []) ≡ None → IsTold (values_of (dashed name) (settings_of ss)) (first_of name end)) → IsTold (values_of (dashed name) (settings_of (s ∷ ss))) (first_of name end)
    go true is rest =
        let here : row_at name (row s.0 s.1 ∷ []) ≡ Some (row s.0 s.1) = rw is refl in
        let stays = row_stays name (row s.0 s.1) ss others (rows ++ row s.0 s.1 ∷ []) end uses (only_new name rows (row s.0 s.1) gone ∙ here) in
        rw (stays.0, is, stays.1) refl
    go false is rest =
        let here : row_at name (row s.0 s.1 ∷ []) ≡ None = rw is refl in
        rw is (rest (only_new name rows (row s.0 s.1) gone ∙ here))

-- ---- a parse that succeeds

default_keeps : (n : List ℕ) (rows : List Row) → with_default rows (ready n) ≡ rows
default_keeps n rows = go (has_row n rows) refl
  where
    go : (b : Bool) → has_row n rows ≡ b → with_default rows (ready n) ≡ rows
    go true is = rw is refl
    go false is = rw is refl

no_defaults : (ns : List (List ℕ)) (rows : List Row) → fold with_default rows (rules ns) ≡ rows
no_defaults [] rows = go (has_row flag_name rows) refl
  where
    go : (b : Bool) → has_row flag_name rows ≡ b → with_default rows ready_flag ≡ rows
    go true is = rw is refl
    go false is = rw is refl
no_defaults (n ∷ ns) rows = ap (λ (l : List Row). fold with_default l (rules ns)) (default_keeps n rows) ∙ no_defaults ns rows

pub is_simple_app : is_simple_and_free serve_app ≡ true
is_simple_app = refl

pub no_fault : (words : List Text) → fault_of serve_app words ≡ [] → Passes option_names (at (hold [] None) idle) words
no_fault words none =
    let one = first_empty _ _ none in
    let two = first_empty _ _ one.1 in
    (one.0, (first_empty _ _ two.1).0)

pub rows_are : (words : List Text) → matches_of serve_app words ≡ (settled (rules option_names) (walk_end option_names (at (hold [] None) idle) words)).rows
rows_are words = no_defaults option_names (settled (rules option_names) (walk_end option_names (at (hold [] None) idle) words)).rows

pub record AreTold (words : List Text) (rows : List Row) : Type 0 where
  pub settings : List Setting
  pub are_settings : AreSettings settings words
  pub told : (name : List ℕ) → IsTold (values_of (dashed name) settings) (first_of name rows)

-- the words of a parse that succeeds are options, and these are their values
pub are_told : (words : List Text) → list_any is_dashes words ≡ false → fault_of serve_app words ≡ [] → AreTold words (matches_of serve_app words)
are_told words plain none =
    let r = read option_names words plain [] None (no_fault words none) in
    let ss = r.1.0 in
    record {
      settings = settings_of ss;
      are_settings = are_settings ss words [] _ r.1.1;
      told = λ name. rw (rows_are words) (told_of name ss words [] _ r.1.1 refl);
    }
