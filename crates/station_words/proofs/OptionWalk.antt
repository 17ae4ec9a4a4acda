-- What the walk makes of the words of `serve`.
use Rattle.std.proofs.Common.{◌≡◌, ◌≢◌, ℕ, suc, Bool, true, false, List, [], ◌∷◌, ◌++◌, Option, None, Some, map, codes, refl, sym, ap, subst, ◌∙◌, inl, inr, arith, append-nil, eqb-true, ◌+◌, take, drop}
use Rattle.std.specs.Prelude.{◌⊎◌, ⊤, fold, slice_get, ◌==◌}
use Rattle.std.specs.List.{after_first, before_first, list_any}
use Rattle.std.specs.List.{after_first, before_first, list_any, position_or_len}
use Rattle.std.specs.Str.{bytes_eq, chars}
use Rattle.std.proofs.lemmas.Slice.Eq.{bytes_eq-Decides}
use Rattle.clap.specs.Walk.{Held, Row, Rule, Text, Waiting, Walk, arg_by_id, arg_by_index, arg_by_long, arg_by_short, has_row, idle, option, settled, walked, with_values, without, at_row, bundle_met, used, more_values}
use Rattle.clap.specs.Simple.{Shape, new_shape, filled}
use Rattle.clap.specs.Faults.{flags_fault, walk_fault, settle_fault, turn_fault, use_fault}
use Rattle.clap.specs.Kinds.{Kinds, or_else}
use Rattle.clap.specs.declared.error.kind.ErrorKind.TheVariants as kind
use Rattle.clap.specs.declared.builder.value_parser.Reading.TheVariants as reading
use Rattle.clap.specs.declared.parser.matches.ValueSource.TheVariants.{CommandLine}
use Rattle.clap.specs.Lexer.{has_byte, long_of, long_of_rest, short_of}
use Rattle.station_words.specs.ServeOptions.{option_rule, flag_rule}

-- an option as building leaves it
abbrev pub ready : List ℕ → Rule
ready name = filled (option_rule name)

-- the flag
abbrev pub flag_name : Text
flag_name = codes "lenient"

abbrev pub ready_flag : Rule
ready_flag = filled flag_rule

abbrev pub rules : List (List ℕ) → List Rule
rules names = map ready names ++ ready_flag ∷ []

pub by_index : (names : List (List ℕ)) (i : ℕ) → arg_by_index (rules names) i ≡ None
by_index [] i = refl
by_index (n ∷ ns) i = by_index ns i

pub by_short : (names : List (List ℕ)) (x : ℕ) → arg_by_short (rules names) x ≡ None
by_short [] x = refl
by_short (n ∷ ns) x = by_short ns x

-- the option with this name
abbrev pub IsAmongNames : Text → List (List ℕ) → Type 0
IsAmongNames name [] = ⊥
IsAmongNames name (n ∷ ns) = (n ≡ name) ⊎ IsAmongNames name ns

abbrev pub Looked : List (List ℕ) → Text → Option Rule → Type 0
Looked names name None = (IsAmongNames name names → ⊥) × (name ≢ flag_name)
Looked names name (Some rule) = (IsAmongNames name names × ((n : List ℕ) × (n ≡ name) × (rule ≡ ready n))) ⊎ ((IsAmongNames name names → ⊥) × (name ≡ flag_name) × (rule ≡ ready_flag))

not_among : (n : List ℕ) (ns : List (List ℕ)) (name : Text) → n ≢ name → (IsAmongNames name ns → ⊥) → IsAmongNames name (n ∷ ns) → ⊥
not_among n ns name other none (inl e) = other e
not_among n ns name other none (inr rest) = none rest

looked_more : (n : List ℕ) (ns : List (List ℕ)) (name : Text) (r : Option Rule) → n ≢ name → Looked ns name r → Looked (n ∷ ns) name r
looked_more n ns name None other (none, apart) = (not_among n ns name other none, apart)
looked_more n ns name (Some rule) other (inl (among, is)) = inl (inr among, is)
looked_more n ns name (Some rule) other (inr (none, same, is)) = inr (not_among n ns name other none, same, is)

pub by_id : (names : List (List ℕ)) (name : Text) → Looked names name (arg_by_id (rules names) name)
by_id [] name = go (bytes_eq flag_name name) refl
  where
    go : (b : Bool) → bytes_eq flag_name name ≡ b → Looked [] name (arg_by_id (rules []) name)
    go true e = rw e (inr ((λ among. among), sym ((bytes_eq-Decides flag_name name).0 e), refl))
    go false e = rw e ((λ among. among), (λ same. cc (sym e ∙ (bytes_eq-Decides flag_name name).1 (sym same))))
by_id (n ∷ ns) name = go (bytes_eq n name) refl (by_id ns name)
  where
    go : (b : Bool) → bytes_eq n name ≡ b → Looked ns name (arg_by_id (rules ns) name) → Looked (n ∷ ns) name (arg_by_id (rules (n ∷ ns)) name)
    go true e rest = rw e (inl (inl ((bytes_eq-Decides n name).0 e), (n, (bytes_eq-Decides n name).0 e, refl)))
    go false e rest = rw e (looked_more n ns name _ (λ same. cc (sym e ∙ (bytes_eq-Decides n name).1 same)) rest)

pub by_long : (names : List (List ℕ)) (name : Text) → Looked names name (arg_by_long (rules names) name)
by_long [] name = go (bytes_eq flag_name name) refl
  where
    go : (b : Bool) → bytes_eq flag_name name ≡ b → Looked [] name (arg_by_long (rules []) name)
    go true e = rw e (inr ((λ among. among), sym ((bytes_eq-Decides flag_name name).0 e), refl))
    go false e = rw e ((λ among. among), (λ same. cc (sym e ∙ (bytes_eq-Decides flag_name name).1 (sym same))))
by_long (n ∷ ns) name = go (bytes_eq n name) refl (by_long ns name)
  where
    go : (b : Bool) → bytes_eq n name ≡ b → Looked ns name (arg_by_long (rules ns) name) → Looked (n ∷ ns) name (arg_by_long (rules (n ∷ ns)) name)
    go true e rest = rw e (inl (inl ((bytes_eq-Decides n name).0 e), (n, (bytes_eq-Decides n name).0 e, refl)))
    go false e rest = rw e (looked_more n ns name _ (λ same. cc (sym e ∙ (bytes_eq-Decides n name).1 same)) rest)

-- the row of a value
abbrev pub row : Text → Text → Row
row name value = record { id = name; values = value ∷ []; count = None; source = Some CommandLine; reading = reading.AsWritten }

pub none_changed : (id : Text) (change : Row → List Row) (missing rows : List Row) → has_row id rows ≡ false → at_row id change missing rows ≡ rows ++ missing
none_changed id change missing [] none = refl
none_changed id change missing (r ∷ rs) none = go (bytes_eq r.id id) refl (λ n. none_changed id change missing rs n)
  where
    go : (b : Bool) → bytes_eq r.id id ≡ b → (has_row id rs ≡ false → at_row id change missing rs ≡ rs ++ missing) → at_row id change missing (r ∷ rs) ≡ r ∷ rs ++ missing
    go true e rest = let n = rw e at none in cc n
    go false e rest = let n = rw e at none in rw e (ap (λ (l : List Row). r ∷ l) (rest n))

pub used_once : (n : List ℕ) (value : Text) (rows : List Row) → has_row n rows ≡ false → used (ready n) (value ∷ []) rows ≡ rows ++ row n value ∷ []
used_once n value rows none =
    let gone : without n rows ≡ rows = none_changed n (λ _. []) [] rows none ∙ append-nil rows in
    ap (λ (l : List Row). with_values n reading.AsWritten CommandLine (value ∷ []) l) gone ∙ none_changed n (more_values CommandLine (value ∷ [])) _ rows none

-- a use with one value passes where the option has no row
pub use_passes : (n : List ℕ) (value : Text) (rows : List Row) → has_row n rows ≡ false → use_fault false (ready n) (value ∷ []) rows ≡ []
use_passes n value rows none = rw none refl

pub use_once : (n : List ℕ) (value : Text) (rows : List Row) → use_fault false (ready n) (value ∷ []) rows ≡ [] → has_row n rows ≡ false
use_once n value rows passes = go (has_row n rows) refl
  where
    go : (b : Bool) → has_row n rows ≡ b → has_row n rows ≡ false
    go true e = let p = rw e at passes in cc p
    go false e = e

-- the same of the flag
pub flag_used : (rows : List Row) → has_row flag_name rows ≡ false → used ready_flag [] rows ≡ rows ++ row flag_name [] ∷ []
flag_used rows none =
    let gone : without flag_name rows ≡ rows = none_changed flag_name (λ _. []) [] rows none ∙ append-nil rows in
    ap (λ (l : List Row). with_values flag_name reading.AsWritten CommandLine ([] ∷ []) l) gone ∙ none_changed flag_name (more_values CommandLine ([] ∷ [])) _ rows none

pub flag_passes : (rows : List Row) → has_row flag_name rows ≡ false → use_fault false ready_flag [] rows ≡ []
flag_passes rows none = rw none refl

pub flag_once : (rows : List Row) → use_fault false ready_flag [] rows ≡ [] → has_row flag_name rows ≡ false
flag_once rows passes = go (has_row flag_name rows) refl
  where
    go : (b : Bool) → has_row flag_name rows ≡ b → has_row flag_name rows ≡ false
    go true e = let p = rw e at passes in cc p
    go false e = e

-- ---- one word

-- the command as building leaves it
abbrev pub shape : List (List ℕ) → Shape
shape names = record (new_shape (codes "serve")) {
  rules = rules names;
  no_binary_name = true;
  disable_help_flag = true;
  disable_help_subcommand = true;
  is_built = true;
}

abbrev pub at : Held → Waiting → Walk
at h waiting = record { held = h; waiting = waiting; position = 1; is_trailing = false; stopped = None }

abbrev pub is_dashes : Text → Bool
is_dashes word = bytes_eq word (45 ∷ 45 ∷ [])

-- what is held is settled, and these are the rows then
abbrev pub Settles : List (List ℕ) → Held → List Row → Type 0
Settles ns h rows = (settle_fault (rules ns) false h ≡ []) × ((settled (rules ns) h).rows ≡ rows) × (h.skip ≡ 0)

pub first_empty : (a b : Kinds) → or_else a b ≡ [] → (a ≡ []) × (b ≡ [])
first_empty [] b e = (refl, e)
first_empty (k ∷ ks) b e = cc e

abbrev pub hold : List Row → Option (Text × List Text) → Held
hold rows pending = record { rows = rows; pending = pending; skip = 0 }

abbrev pub dashed : Text → Text
dashed name = 45 ∷ 45 ∷ name

-- an option that waits for its value can't be settled
pub unsettled : (ns : List (List ℕ)) (n : List ℕ) (rows : List Row) → IsAmongNames n ns → settle_fault (rules ns) false (hold rows (Some (n, []))) ≡ [] → ⊥
unsettled ns n rows among = go (arg_by_id (rules ns) n) refl (by_id ns n)
  where
    go : (r : Option Rule) → arg_by_id (rules ns) n ≡ r → Looked ns n r → settle_fault (rules ns) false (hold rows (Some (n, []))) ≡ [] → ⊥
    go None e l = absurd (l.0 among)
    go (Some rule) e (inr (out, same, is)) = absurd (out among)
    go (Some rule) e (inl (a, (m, same, is))) = λ passes. let p = rw (e, is) at passes in cc p

-- a word that an option waits for is its value
pub waiting_plain : (ns : List (List ℕ)) (n : List ℕ) (word : Text) (rows : List Row) → is_dashes word ≡ false → long_of word ≡ None → short_of word ≡ None → IsAmongNames n ns →
    walked (rules ns) [] (at (hold rows (Some (n, []))) (option n)) word ≡ at (hold rows (Some (n, word ∷ []))) idle
unfolding walked
waiting_plain ns n word rows dashes long short among = go (arg_by_id (rules ns) n) refl (by_id ns n)
  where
    go : (r : Option Rule) → arg_by_id (rules ns) n ≡ r → Looked ns n r → walked (rules ns) [] (at (hold rows (Some (n, []))) (option n)) word ≡ at (hold rows (Some (n, word ∷ []))) idle
    go None e l = absurd (l.0 among)
    go (Some rule) e (inr (out, same, is)) = absurd (out among)
    go (Some rule) e (inl (a, (m, same, is))) = rw (dashes, long, short, e, is, (bytes_eq-Decides n m).1 (sym same)) refl

pub no_flags : (word : Text) → short_of word ≡ Some [] → ⊥
no_flags [] e = cc e
no_flags (x ∷ []) e = go (x == 45) refl
  where
    go : (b : Bool) → (x == 45) ≡ b → ⊥
    go true is = let h = rw is at e in cc h
    go false is = let h = rw is at e in cc h
no_flags (x ∷ y ∷ ys) e = go (x == 45) (y == 45) refl refl
  where
    go : (b d : Bool) → (x == 45) ≡ b → (y == 45) ≡ d → ⊥
    go true true is also = let h = rw (is, also) at e in cc h
    go true false is also = let h = rw (is, also) at e in cc h
    go false d is also = let h = rw is at e in cc h

-- a short option is unknown, unless its bytes are no character, where it is a plain word
pub waiting_short : (ns : List (List ℕ)) (n : List ℕ) (word flags : Text) (rows : List Row) → is_dashes word ≡ false → long_of word ≡ None → short_of word ≡ Some flags → IsAmongNames n ns →
    turn_fault (shape ns) [] (at (hold rows (Some (n, []))) (option n)) word ≡ [] →
    walked (rules ns) [] (at (hold rows (Some (n, []))) (option n)) word ≡ at (hold rows (Some (n, word ∷ []))) idle
unfolding walked flags_fault bundle_met
waiting_short ns n word [] rows dashes long short among passes = absurd (no_flags word short)
waiting_short ns n word (f ∷ fs) rows dashes long short among passes = go (slice_get (chars (f ∷ fs)) 0) refl (arg_by_id (rules ns) n) refl (by_id ns n)
  where
    go : (x : Option ℕ) → slice_get (chars (f ∷ fs)) 0 ≡ x → (r : Option Rule) → arg_by_id (rules ns) n ≡ r → Looked ns n r → walked (rules ns) [] (at (hold rows (Some (n, []))) (option n)) word ≡ at (hold rows (Some (n, word ∷ []))) idle
    go (Some x) is r e l = let h = rw (dashes, long, short, is, by_short ns x) at passes in cc h
    go None is None e l = absurd (l.0 among)
    go None is (Some rule) e (inr (out, same, made)) = absurd (out among)
    go None is (Some rule) e (inl (a, (m, same, made))) = rw (dashes, long, short, is, e, made, (bytes_eq-Decides n m).1 (sym same)) refl

-- a plain word and a short option are unknown where nothing waits
pub idle_plain : (ns : List (List ℕ)) (word : Text) (rows : List Row) (pending : Option (Text × List Text)) → is_dashes word ≡ false → long_of word ≡ None → short_of word ≡ None →
    turn_fault (shape ns) [] (at (hold rows pending) idle) word ≡ kind.UnknownArgument ∷ []
idle_plain ns word rows pending dashes long short = rw (dashes, long, short, by_index ns 1) refl

pub idle_short : (ns : List (List ℕ)) (word flags : Text) (rows : List Row) (pending : Option (Text × List Text)) → is_dashes word ≡ false → long_of word ≡ None → short_of word ≡ Some flags →
    turn_fault (shape ns) [] (at (hold rows pending) idle) word ≡ kind.UnknownArgument ∷ []
unfolding flags_fault bundle_met
idle_short ns word [] rows pending dashes long short = absurd (no_flags word short)
idle_short ns word (f ∷ fs) rows pending dashes long short = go (slice_get (chars (f ∷ fs)) 0) refl
  where
    go : (x : Option ℕ) → slice_get (chars (f ∷ fs)) 0 ≡ x → turn_fault (shape ns) [] (at (hold rows pending) idle) word ≡ kind.UnknownArgument ∷ []
    go (Some x) is = rw (dashes, long, short, is, by_short ns x) refl
    go None is = rw (dashes, long, short, is, by_index ns 1) refl

-- ---- a long option

abbrev pub settled_by : List (List ℕ) → List Row → Option (Text × List Text) → List Row
settled_by ns rows pending = (settled (rules ns) (hold rows pending)).rows

pub long_unknown : (ns : List (List ℕ)) (word name : Text) (value : Option Text) (rows : List Row) (pending : Option (Text × List Text)) (w : Waiting) → is_dashes word ≡ false → long_of word ≡ Some (name, value) → arg_by_long (rules ns) name ≡ None →
    (turn_fault (shape ns) [] (at (hold rows pending) idle) word ≡ kind.UnknownArgument ∷ [])
long_unknown ns word name value rows pending w dashes long none = rw (dashes, long, none) refl

pub long_value : (ns : List (List ℕ)) (n : List ℕ) (word name value : Text) (rows : List Row) (pending : Option (Text × List Text)) → is_dashes word ≡ false → long_of word ≡ Some (name, Some value) → arg_by_long (rules ns) name ≡ Some (ready n) →
    (turn_fault (shape ns) [] (at (hold rows pending) idle) word ≡ or_else (or_else (settle_fault (rules ns) false (hold rows pending)) (use_fault false (ready n) (value ∷ []) (settled_by ns rows pending))) [])
    × (walked (rules ns) [] (at (hold rows pending) idle) word ≡ at (hold (used (ready n) (value ∷ []) (settled_by ns rows pending)) None) idle)
unfolding walked
long_value ns n word name value rows pending dashes long some = (rw (dashes, long, some) refl, rw (dashes, long, some) refl)

pub long_alone : (ns : List (List ℕ)) (n : List ℕ) (word name : Text) (rows : List Row) (pending : Option (Text × List Text)) → is_dashes word ≡ false → long_of word ≡ Some (name, None) → arg_by_long (rules ns) name ≡ Some (ready n) →
    (turn_fault (shape ns) [] (at (hold rows pending) idle) word ≡ or_else (settle_fault (rules ns) false (hold rows pending)) [])
    × (walked (rules ns) [] (at (hold rows pending) idle) word ≡ at (hold (settled_by ns rows pending) (Some (n, []))) (option n))
unfolding walked
long_alone ns n word name rows pending dashes long some = (rw (dashes, long, some) refl, rw (dashes, long, some) refl)

pub long_flag : (ns : List (List ℕ)) (word : Text) (rows : List Row) (pending : Option (Text × List Text)) → is_dashes word ≡ false → long_of word ≡ Some (flag_name, None) → arg_by_long (rules ns) flag_name ≡ Some ready_flag →
    (turn_fault (shape ns) [] (at (hold rows pending) idle) word ≡ or_else (or_else (settle_fault (rules ns) false (hold rows pending)) (use_fault false ready_flag [] (settled_by ns rows pending))) [])
    × (walked (rules ns) [] (at (hold rows pending) idle) word ≡ at (hold (used ready_flag [] (settled_by ns rows pending)) None) idle)
unfolding walked
long_flag ns word rows pending dashes long some = (rw (dashes, long, some) refl, rw (dashes, long, some) refl)

-- the flag has no value
pub flag_valued : (ns : List (List ℕ)) (word name value : Text) (rows : List Row) (pending : Option (Text × List Text)) → is_dashes word ≡ false → long_of word ≡ Some (name, Some value) → arg_by_long (rules ns) name ≡ Some ready_flag →
    turn_fault (shape ns) [] (at (hold rows pending) idle) word ≡ kind.TooManyValues ∷ []
flag_valued ns word name value rows pending dashes long some = rw (dashes, long, some) refl

-- a long option can't follow one that waits
pub waiting_long : (ns : List (List ℕ)) (n : List ℕ) (word name : Text) (value : Option Text) (rows : List Row) → is_dashes word ≡ false → long_of word ≡ Some (name, value) → IsAmongNames n ns →
    turn_fault (shape ns) [] (at (hold rows (Some (n, []))) (option n)) word ≡ [] → ⊥
waiting_long ns n word name value rows dashes long among passes = go value refl (arg_by_long (rules ns) name) refl (by_long ns name)
  where
    go : (v : Option Text) → value ≡ v → (r : Option Rule) → arg_by_long (rules ns) name ≡ r → Looked ns name r → ⊥
    go v is None e l = let h = rw (dashes, long, e) at passes in cc h
    go None is (Some rule) e (inl (a, (m, same, made))) =
        let h = rw (dashes, long, is, e, made) at passes in
        unsettled ns n rows among (first_empty _ _ h).0
    go None is (Some rule) e (inr (out, same, made)) =
        let h = rw (dashes, long, is, e, made) at passes in
        unsettled ns n rows among (first_empty _ _ (first_empty _ _ h).0).0
    go (Some v) is (Some rule) e (inr (out, same, made)) =
        let h = rw (dashes, long, is, e, made) at passes in
        cc h
    go (Some v) is (Some rule) e (inl (a, (m, same, made))) =
        let h = rw (dashes, long, is, e, made) at passes in
        unsettled ns n rows among (first_empty _ _ (first_empty _ _ h).0).0

-- ---- the spelling of a long option

take_one : (n x : ℕ) (xs : Text) → take (1 + n) (x ∷ xs) ≡ x ∷ take n xs
take_one n x xs = let e : 1 + n ≡ suc n = omega arith in rw e refl

drop_one : (n x : ℕ) (xs : Text) → drop ((1 + n) + 1) (x ∷ xs) ≡ drop (n + 1) xs
drop_one n x xs = let e : (1 + n) + 1 ≡ suc (n + 1) = omega arith in rw e refl

equals_found : (text : Text) → has_byte 61 text ≡ true → text ≡ before_first (λ x. x == 61) text ++ 61 ∷ after_first (λ x. x == 61) text
equals_found [] e = cc e
equals_found (x ∷ xs) e = go (x == 61) refl (λ h. equals_found xs h)
  where
    go : (b : Bool) → (x == 61) ≡ b → (has_byte 61 xs ≡ true → xs ≡ before_first (λ x. x == 61) xs ++ 61 ∷ after_first (λ x. x == 61) xs) → x ∷ xs ≡ before_first (λ x. x == 61) (x ∷ xs) ++ 61 ∷ after_first (λ x. x == 61) (x ∷ xs)
    go true is rest = rw (is, eqb-true x 61 is) refl
    go false is rest = let h = rw is at e in rw is (rw (take_one (position_or_len (λ x. x == 61) xs) x xs, drop_one (position_or_len (λ x. x == 61) xs) x xs) (ap (λ (l : Text). x ∷ l) (rest h)))

no_equals : (text : Text) → has_byte 61 text ≡ false → before_first (λ x. x == 61) text ≡ text
no_equals [] e = refl
no_equals (x ∷ xs) e = go (x == 61) refl (λ h. no_equals xs h)
  where
    go : (b : Bool) → (x == 61) ≡ b → (has_byte 61 xs ≡ false → before_first (λ x. x == 61) xs ≡ xs) → before_first (λ x. x == 61) (x ∷ xs) ≡ x ∷ xs
    go true is rest = let h = rw is at e in cc h
    go false is rest = let h = rw is at e in rw is (rw (take_one (position_or_len (λ x. x == 61) xs) x xs) (ap (λ (l : Text). x ∷ l) (rest h)))

abbrev name_in : Text → Option (Text × Option Text) → Text
name_in d None = d
name_in d (Some p) = p.0

abbrev value_in : Option Text → Option (Text × Option Text) → Option Text
value_in d None = d
value_in d (Some p) = p.1

abbrev pub spelled_as : Text → Option Text → Text
spelled_as name None = dashed name
spelled_as name (Some value) = dashed name ++ 61 ∷ value

pub rest_spelled : (rest name : Text) (value : Option Text) → long_of_rest rest ≡ Some (name, value) → dashed rest ≡ spelled_as name value
rest_spelled [] name value e = cc e
rest_spelled (x ∷ xs) name value e = go (has_byte 61 (x ∷ xs)) refl
  where
    go : (b : Bool) → has_byte 61 (x ∷ xs) ≡ b → dashed (x ∷ xs) ≡ spelled_as name value
    go true is =
        let h = rw is at e in
        let n : before_first (λ x. x == 61) (x ∷ xs) ≡ name = ap (name_in name) h in
        let v : Some (after_first (λ x. x == 61) (x ∷ xs)) ≡ value = ap (value_in value) h in
        ap dashed (equals_found (x ∷ xs) is) ∙ ap (λ (l : Text). spelled_as l (Some (after_first (λ x. x == 61) (x ∷ xs)))) n ∙ ap (spelled_as name) v
    go false is =
        let h = rw is at e in
        let n : before_first (λ x. x == 61) (x ∷ xs) ≡ name = ap (name_in name) h in
        let v : None ≡ value = ap (value_in value) h in
        ap dashed (sym (no_equals (x ∷ xs) is)) ∙ ap dashed n ∙ ap (spelled_as name) v

pub long_spelled : (word name : Text) (value : Option Text) → long_of word ≡ Some (name, value) → word ≡ spelled_as name value
long_spelled [] name value e = cc e
long_spelled (x ∷ []) name value e = go (x == 45) refl
  where
    go : (b : Bool) → (x == 45) ≡ b → x ∷ [] ≡ spelled_as name value
    go true is = let h = rw is at e in cc h
    go false is = let h = rw is at e in cc h
long_spelled (x ∷ y ∷ ys) name value e = go (x == 45) (y == 45) refl refl
  where
    go : (b d : Bool) → (x == 45) ≡ b → (y == 45) ≡ d → x ∷ y ∷ ys ≡ spelled_as name value
    go true true is also =
        let h = rw (is, also) at e in
        rw (eqb-true x 45 is, eqb-true y 45 also) (rest_spelled ys name value h)
    go true false is also = let h = rw (is, also) at e in cc h
    go false d is also = let h = rw is at e in cc h

-- ---- all the words

abbrev pub Pairs : Type 0
Pairs = List (Text × Text)

-- the setting in front of the words: an option with its value, or the flag
abbrev pub Stands : List (List ℕ) → Text × Text → List Text → List Text → Type 0
Stands ns s words others = (IsAmongNames s.0 ns × ((words ≡ dashed s.0 ∷ s.1 ∷ others) ⊎ (words ≡ (dashed s.0 ++ 61 ∷ s.1) ∷ others))) ⊎ ((s.0 ≡ flag_name) × (s.1 ≡ []) × (words ≡ dashed s.0 ∷ others))

-- the words are these settings, none of which had a row, and these are the rows then
abbrev pub Uses : List (List ℕ) → Pairs → List Text → List Row → List Row → Type 0
Uses ns [] words rows end = (words ≡ []) × (end ≡ rows)
Uses ns (s ∷ ss) words rows end = (others : List Text) × (has_row s.0 rows ≡ false) × Stands ns s words others × Uses ns ss others (rows ++ row s.0 s.1 ∷ []) end

abbrev pub walk_end : List (List ℕ) → Walk → List Text → Held
walk_end ns w words = (fold (walked (rules ns) []) w words).held

abbrev pub Passes : List (List ℕ) → Walk → List Text → Type 0
Passes ns w words = (walk_fault (shape ns) [] w words ≡ []) × (settle_fault (rules ns) false (walk_end ns w words) ≡ [])

abbrev pub Reads : List (List ℕ) → List Row → Option (Text × List Text) → List Text → Type 0
Reads ns rows pending words = (settle_fault (rules ns) false (hold rows pending) ≡ [])
    × ((ss : Pairs) × Uses ns ss words (settled_by ns rows pending) (settled (rules ns) (walk_end ns (at (hold rows pending) idle) words)).rows)

-- ---- a walk that passes

no_dashes : (word : Text) (rest : List Text) → list_any is_dashes (word ∷ rest) ≡ false → (is_dashes word ≡ false) × (list_any is_dashes rest ≡ false)
no_dashes word rest e = go (is_dashes word) refl
  where
    go : (b : Bool) → is_dashes word ≡ b → (is_dashes word ≡ false) × (list_any is_dashes rest ≡ false)
    go true is = let h = rw is at e in cc h
    go false is = let h = rw is at e in (is, h)

pub pass_next : (ns : List (List ℕ)) (w : Walk) (word : Text) (rest : List Text) → Passes ns w (word ∷ rest) → (turn_fault (shape ns) [] w word ≡ []) × Passes ns (walked (rules ns) [] w word) rest
unfolding walk_fault
pass_next ns w word rest (faults, ends) =
    let both = first_empty (turn_fault (shape ns) [] w word) (walk_fault (shape ns) [] (walked (rules ns) [] w word) rest) faults in
    (both.0, (both.1, ends))

abbrev IsReadAfter : List (List ℕ) → List Text → Type 0
IsReadAfter ns rest = (rows : List Row) (pending : Option (Text × List Text)) → Passes ns (at (hold rows pending) idle) rest → Reads ns rows pending rest

step_value : (ns : List (List ℕ)) (n : List ℕ) (word value : Text) (rest : List Text) (rows : List Row) (pending : Option (Text × List Text)) → is_dashes word ≡ false → long_of word ≡ Some (n, Some value) → arg_by_long (rules ns) n ≡ Some (ready n) → IsAmongNames n ns
    → Passes ns (at (hold rows pending) idle) (word ∷ rest) → IsReadAfter ns rest → Reads ns rows pending (word ∷ rest)
step_value ns n word value rest rows pending dashes long found among passes reads =
    let current = settled_by ns rows pending in
    let p = pass_next ns (at (hold rows pending) idle) word rest passes in
    let e = long_value ns n word n value rows pending dashes long found in
    let both = first_empty _ _ (first_empty _ _ (sym e.0 ∙ p.0)).0 in
    let none = use_once n value current both.1 in
    let next = e.1 ∙ ap (λ (l : List Row). at (hold l None) idle) (used_once n value current none) in
    let r = reads (current ++ row n value ∷ []) None (subst (λ (w : Walk). Passes ns w rest) next p.1) in
    let ss = r.1.0 in
    (both.0, ((n, value) ∷ ss, (rest, none, inl (among, inr (ap (λ (l : Text). l ∷ rest) (long_spelled word n (Some value) long))), subst (λ (w : Walk). Uses ns ss rest (current ++ row n value ∷ []) (settled (rules ns) (walk_end ns w rest)).rows) (sym next) r.1.1)))

-- the word after an option that waits is its value
waits_for : (ns : List (List ℕ)) (n : List ℕ) (word : Text) (rows : List Row) → is_dashes word ≡ false → IsAmongNames n ns → turn_fault (shape ns) [] (at (hold rows (Some (n, []))) (option n)) word ≡ [] →
    walked (rules ns) [] (at (hold rows (Some (n, []))) (option n)) word ≡ at (hold rows (Some (n, word ∷ []))) idle
waits_for ns n word rows dashes among passes = go (long_of word) refl (short_of word) refl
  where
    go : (l : Option (Text × Option Text)) → long_of word ≡ l → (s : Option Text) → short_of word ≡ s → walked (rules ns) [] (at (hold rows (Some (n, []))) (option n)) word ≡ at (hold rows (Some (n, word ∷ []))) idle
    go (Some (name, value)) long s short = absurd (waiting_long ns n word name value rows dashes long among passes)
    go None long None short = waiting_plain ns n word rows dashes long short among
    go None long (Some flags) short = waiting_short ns n word flags rows dashes long short among passes

-- what is pending with its value, settled
pending_value : (ns : List (List ℕ)) (n : List ℕ) (value : Text) (rows : List Row) → IsAmongNames n ns → settle_fault (rules ns) false (hold rows (Some (n, value ∷ []))) ≡ [] →
    (has_row n rows ≡ false) × (settled_by ns rows (Some (n, value ∷ [])) ≡ rows ++ row n value ∷ [])
pending_value ns n value rows among = go (arg_by_id (rules ns) n) refl (by_id ns n)
  where
    go : (r : Option Rule) → arg_by_id (rules ns) n ≡ r → Looked ns n r → settle_fault (rules ns) false (hold rows (Some (n, value ∷ []))) ≡ [] → (has_row n rows ≡ false) × (settled_by ns rows (Some (n, value ∷ [])) ≡ rows ++ row n value ∷ [])
    go None e l = absurd (l.0 among)
    go (Some rule) e (inr (out, same, made)) = absurd (out among)
    go (Some rule) e (inl (a, (m, same, made))) = λ passes.
        let p : use_fault false (ready m) (value ∷ []) rows ≡ [] = rw (e, made) at passes in
        let none = use_once m value rows p in
        (subst (λ (t : Text). has_row t rows ≡ false) same none, rw (e, made) (used_once m value rows none ∙ ap (λ (t : Text). rows ++ row t value ∷ []) same))

step_alone : (ns : List (List ℕ)) (n : List ℕ) (word value : Text) (rest : List Text) (rows : List Row) (pending : Option (Text × List Text)) → is_dashes word ≡ false → is_dashes value ≡ false → long_of word ≡ Some (n, None) → arg_by_long (rules ns) n ≡ Some (ready n) → IsAmongNames n ns
    → Passes ns (at (hold rows pending) idle) (word ∷ value ∷ rest) → IsReadAfter ns rest → Reads ns rows pending (word ∷ value ∷ rest)
step_alone ns n word value rest rows pending dashes plain long found among passes reads =
    let current = settled_by ns rows pending in
    let p = pass_next ns (at (hold rows pending) idle) word (value ∷ rest) passes in
    let e = long_alone ns n word n rows pending dashes long found in
    let settles = (first_empty _ _ (sym e.0 ∙ p.0)).0 in
    let waits = at (hold current (Some (n, []))) (option n) in
    let q = pass_next ns waits value rest (subst (λ (w : Walk). Passes ns w (value ∷ rest)) e.1 p.1) in
    let next = waits_for ns n value current plain among q.0 in
    let r = reads current (Some (n, value ∷ [])) (subst (λ (w : Walk). Passes ns w rest) next q.1) in
    let used = pending_value ns n value current among r.0 in
    let ss = r.1.0 in
    let whole = ap (λ (w : Walk). walked (rules ns) [] w value) e.1 ∙ next in
    let words : word ∷ value ∷ rest ≡ dashed n ∷ value ∷ rest = ap (λ (l : Text). l ∷ value ∷ rest) (long_spelled word n None long) in
    let uses = subst (λ (l : List Row). Uses ns ss rest l (settled (rules ns) (walk_end ns (at (hold current (Some (n, value ∷ []))) idle) rest)).rows) used.1 r.1.1 in
    (settles, ((n, value) ∷ ss, (rest, used.0, inl (among, inl words), subst (λ (w : Walk). Uses ns ss rest (current ++ row n value ∷ []) (settled (rules ns) (walk_end ns w rest)).rows) (sym whole) uses)))

step_flag : (ns : List (List ℕ)) (word : Text) (rest : List Text) (rows : List Row) (pending : Option (Text × List Text)) → is_dashes word ≡ false → long_of word ≡ Some (flag_name, None) → arg_by_long (rules ns) flag_name ≡ Some ready_flag
    → Passes ns (at (hold rows pending) idle) (word ∷ rest) → IsReadAfter ns rest → Reads ns rows pending (word ∷ rest)
step_flag ns word rest rows pending dashes long found passes reads =
    let current = settled_by ns rows pending in
    let p = pass_next ns (at (hold rows pending) idle) word rest passes in
    let e = long_flag ns word rows pending dashes long found in
    let both = first_empty _ _ (first_empty _ _ (sym e.0 ∙ p.0)).0 in
    let none = flag_once current both.1 in
    let next = e.1 ∙ ap (λ (l : List Row). at (hold l None) idle) (flag_used current none) in
    let r = reads (current ++ row flag_name [] ∷ []) None (subst (λ (w : Walk). Passes ns w rest) next p.1) in
    let ss = r.1.0 in
    (both.0, ((flag_name, []) ∷ ss, (rest, none, inr (refl, refl, ap (λ (l : Text). l ∷ rest) (long_spelled word flag_name None long)), subst (λ (w : Walk). Uses ns ss rest (current ++ row flag_name [] ∷ []) (settled (rules ns) (walk_end ns w rest)).rows) (sym next) r.1.1)))

-- the word is an option of the command, or its flag
abbrev Opened : List (List ℕ) → Text → Type 0
Opened ns word = ((n : List ℕ) × (value : Option Text) × (long_of word ≡ Some (n, value)) × (arg_by_long (rules ns) n ≡ Some (ready n)) × IsAmongNames n ns)
    ⊎ ((long_of word ≡ Some (flag_name, None)) × (arg_by_long (rules ns) flag_name ≡ Some ready_flag))

opens : (ns : List (List ℕ)) (word : Text) (rest : List Text) (rows : List Row) (pending : Option (Text × List Text)) → is_dashes word ≡ false → Passes ns (at (hold rows pending) idle) (word ∷ rest) → Opened ns word
opens ns word rest rows pending dashes passes = go (long_of word) refl (short_of word) refl
  where
    turn : turn_fault (shape ns) [] (at (hold rows pending) idle) word ≡ []
    turn = (pass_next ns (at (hold rows pending) idle) word rest passes).0

    known : (name : Text) (value : Option Text) → long_of word ≡ Some (name, value) → (r : Option Rule) → arg_by_long (rules ns) name ≡ r → Looked ns name r → Opened ns word
    known name value long None e l = absurd (cc (sym (long_unknown ns word name value rows pending idle dashes long e) ∙ turn))
    known name value long (Some rule) e (inl (among, (m, same, made))) = inl (m, value, long ∙ ap (λ (t : Text). Some (t, value)) (sym same), ap (arg_by_long (rules ns)) same ∙ e ∙ ap (λ (r : Rule). Some r) made, subst (λ (t : Text). IsAmongNames t ns) (sym same) among)
    known name None long (Some rule) e (inr (out, same, made)) = inr (long ∙ ap (λ (t : Text). Some (t, None)) same, ap (arg_by_long (rules ns)) (sym same) ∙ e ∙ ap (λ (r : Rule). Some r) made)
    known name (Some value) long (Some rule) e (inr (out, same, made)) = absurd (cc (sym (flag_valued ns word name value rows pending dashes long (e ∙ ap (λ (r : Rule). Some r) made)) ∙ turn))

    go : (l : Option (Text × Option Text)) → long_of word ≡ l → (s : Option Text) → short_of word ≡ s → Opened ns word
    go (Some (name, value)) long s short = known name value long (arg_by_long (rules ns) name) refl (by_long ns name)
    go None long None short = absurd (cc (sym (idle_plain ns word rows pending dashes long short) ∙ turn))
    go None long (Some flags) short = absurd (cc (sym (idle_short ns word flags rows pending dashes long short) ∙ turn))

-- an option with no word after it has no value
last_waits : (ns : List (List ℕ)) (n : List ℕ) (word : Text) (rows : List Row) (pending : Option (Text × List Text)) → is_dashes word ≡ false → long_of word ≡ Some (n, None) → arg_by_long (rules ns) n ≡ Some (ready n) → IsAmongNames n ns
    → Passes ns (at (hold rows pending) idle) (word ∷ []) → ⊥
last_waits ns n word rows pending dashes long found among passes =
    let p = pass_next ns (at (hold rows pending) idle) word [] passes in
    let e = long_alone ns n word n rows pending dashes long found in
    unsettled ns n (settled_by ns rows pending) among (subst (λ (w : Walk). settle_fault (rules ns) false w.held ≡ []) e.1 p.1.1)

pub read : (ns : List (List ℕ)) (words : List Text) → list_any is_dashes words ≡ false → IsReadAfter ns words
read ns [] plain = λ rows pending passes. (passes.1, ([], (refl, refl)))
read ns (word ∷ []) plain = λ rows pending passes. go rows pending passes (opens ns word [] rows pending (no_dashes word [] plain).0 passes)
  where
    empty : IsReadAfter ns []
    empty = λ rows pending passes. (passes.1, ([], (refl, refl)))

    go : (rows : List Row) (pending : Option (Text × List Text)) → Passes ns (at (hold rows pending) idle) (word ∷ []) → Opened ns word → Reads ns rows pending (word ∷ [])
    go rows pending passes (inr (long, found)) = step_flag ns word [] rows pending (no_dashes word [] plain).0 long found passes empty
    go rows pending passes (inl (n, Some value, long, found, among)) = step_value ns n word value [] rows pending (no_dashes word [] plain).0 long found among passes empty
    go rows pending passes (inl (n, None, long, found, among)) = absurd (last_waits ns n word rows pending (no_dashes word [] plain).0 long found among passes)
read ns (word ∷ value ∷ rest) plain = λ rows pending passes. go (read ns (value ∷ rest) (no_dashes word (value ∷ rest) plain).1) (read ns rest (no_dashes value rest (no_dashes word (value ∷ rest) plain).1).1) rows pending passes (opens ns word (value ∷ rest) rows pending (no_dashes word (value ∷ rest) plain).0 passes)
  where
    go : IsReadAfter ns (value ∷ rest) → IsReadAfter ns rest → (rows : List Row) (pending : Option (Text × List Text)) → Passes ns (at (hold rows pending) idle) (word ∷ value ∷ rest) → Opened ns word → Reads ns rows pending (word ∷ value ∷ rest)
    go one two rows pending passes (inr (long, found)) = step_flag ns word (value ∷ rest) rows pending (no_dashes word (value ∷ rest) plain).0 long found passes one
    go one two rows pending passes (inl (n, Some v, long, found, among)) = step_value ns n word v (value ∷ rest) rows pending (no_dashes word (value ∷ rest) plain).0 long found among passes one
    go one two rows pending passes (inl (n, None, long, found, among)) = step_alone ns n word value rest rows pending (no_dashes word (value ∷ rest) plain).0 (no_dashes value rest (no_dashes word (value ∷ rest) plain).1).0 long found among passes two

-- ---- words that are taken

-- how the name of an option is read
pub record IsSpelled (name : Text) : Type 0 where
  pub alone : long_of (dashed name) ≡ Some (name, None)
  pub valued : (value : Text) → long_of (dashed name ++ 61 ∷ value) ≡ Some (name, Some value)
  pub no_end : is_dashes (dashed name) ≡ false
  pub no_end_valued : (value : Text) → is_dashes (dashed name ++ 61 ∷ value) ≡ false

-- the value is no option
pub record IsPlainValue (value : Text) : Type 0 where
  pub dashes : is_dashes value ≡ false
  pub long : long_of value ≡ None
  pub short : short_of value ≡ None

abbrev pub ArePlain : Pairs → Type 0
ArePlain [] = ⊤
ArePlain (s ∷ ss) = IsPlainValue s.1 × ArePlain ss

abbrev pub AreSpelled : List (List ℕ) → Type 0
AreSpelled ns = (name : Text) → IsAmongNames name ns → IsSpelled name

found_long : (ns : List (List ℕ)) (name : Text) → IsAmongNames name ns → (n : List ℕ) × (n ≡ name) × (arg_by_long (rules ns) name ≡ Some (ready n))
found_long ns name among = go (arg_by_long (rules ns) name) refl (by_long ns name)
  where
    go : (r : Option Rule) → arg_by_long (rules ns) name ≡ r → Looked ns name r → (n : List ℕ) × (n ≡ name) × (arg_by_long (rules ns) name ≡ Some (ready n))
    go None e l = absurd (l.0 among)
    go (Some rule) e (inr (out, same, made)) = absurd (out among)
    go (Some rule) e (inl (a, (m, same, made))) = (m, same, e ∙ ap (λ (r : Rule). Some r) made)

pending_passes : (ns : List (List ℕ)) (name value : Text) (rows : List Row) → IsAmongNames name ns → has_row name rows ≡ false →
    (settle_fault (rules ns) false (hold rows (Some (name, value ∷ []))) ≡ []) × (settled_by ns rows (Some (name, value ∷ [])) ≡ rows ++ row name value ∷ [])
pending_passes ns name value rows among none = go (arg_by_id (rules ns) name) refl (by_id ns name)
  where
    go : (r : Option Rule) → arg_by_id (rules ns) name ≡ r → Looked ns name r → (settle_fault (rules ns) false (hold rows (Some (name, value ∷ []))) ≡ []) × (settled_by ns rows (Some (name, value ∷ [])) ≡ rows ++ row name value ∷ [])
    go None e l = absurd (l.0 among)
    go (Some rule) e (inr (out, same, made)) = absurd (out among)
    go (Some rule) e (inl (a, (m, same, made))) =
        let free : has_row m rows ≡ false = subst (λ (t : Text). has_row t rows ≡ false) (sym same) none in
        (rw (e, made) (use_passes m value rows free), rw (e, made) (used_once m value rows free ∙ ap (λ (t : Text). rows ++ row t value ∷ []) same))

waits_plain : (ns : List (List ℕ)) (n : List ℕ) (word : Text) (rows : List Row) → IsPlainValue word → turn_fault (shape ns) [] (at (hold rows (Some (n, []))) (option n)) word ≡ []
waits_plain ns n word rows plain = let p = plain.dashes in let q = plain.long in let r = plain.short in rw (p, q, r) refl

pass_back : (ns : List (List ℕ)) (w : Walk) (word : Text) (rest : List Text) → turn_fault (shape ns) [] w word ≡ [] → Passes ns (walked (rules ns) [] w word) rest → Passes ns w (word ∷ rest)
unfolding walk_fault
pass_back ns w word rest turn (faults, ends) = (rw turn faults, ends)

abbrev Taken : List (List ℕ) → List Row → Walk → List Text → Type 0
Taken ns end w words = Passes ns w words × ((settled (rules ns) (walk_end ns w words)).rows ≡ end)

taken_back : (ns : List (List ℕ)) (end : List Row) (w next : Walk) (word : Text) (rest : List Text) → turn_fault (shape ns) [] w word ≡ [] → walked (rules ns) [] w word ≡ next → Taken ns end next rest → Taken ns end w (word ∷ rest)
taken_back ns end w next word rest turn goes t =
    let u : Taken ns end (walked (rules ns) [] w word) rest = subst (λ (x : Walk). Taken ns end x rest) (sym goes) t in
    (pass_back ns w word rest turn u.0, u.1)

abbrev IsTakenAfter : List (List ℕ) → Pairs → Type 0
IsTakenAfter ns ss = (words : List Text) (rows end : List Row) (pending : Option (Text × List Text)) → settle_fault (rules ns) false (hold rows pending) ≡ [] → Uses ns ss words (settled_by ns rows pending) end → Taken ns end (at (hold rows pending) idle) words

take_value : (ns : List (List ℕ)) (name value : Text) (ss : Pairs) (others : List Text) (rows end : List Row) (pending : Option (Text × List Text)) → IsSpelled name → IsAmongNames name ns → settle_fault (rules ns) false (hold rows pending) ≡ [] → has_row name (settled_by ns rows pending) ≡ false → Uses ns ss others (settled_by ns rows pending ++ row name value ∷ []) end → IsTakenAfter ns ss → Taken ns end (at (hold rows pending) idle) ((dashed name ++ 61 ∷ value) ∷ others)
take_value ns name value ss others rows end pending spelled among settles none uses taken =
    let current = settled_by ns rows pending in
    let f = found_long ns name among in
    let free : has_row f.0 current ≡ false = subst (λ (t : Text). has_row t current ≡ false) (sym f.1) none in
    let e = long_value ns f.0 (dashed name ++ 61 ∷ value) name value rows pending (spelled.no_end_valued value) (spelled.valued value) f.2 in
    let turn = e.0 ∙ ap (λ (k : Kinds). or_else (or_else k (use_fault false (ready f.0) (value ∷ []) current)) []) settles ∙ ap (λ (k : Kinds). or_else k []) (use_passes f.0 value current free) in
    let next = e.1 ∙ ap (λ (l : List Row). at (hold l None) idle) (used_once f.0 value current free ∙ ap (λ (t : Text). current ++ row t value ∷ []) f.1) in
    taken_back ns end (at (hold rows pending) idle) _ (dashed name ++ 61 ∷ value) others turn next (taken others (current ++ row name value ∷ []) end None refl uses)

take_alone : (ns : List (List ℕ)) (name value : Text) (ss : Pairs) (others : List Text) (rows end : List Row) (pending : Option (Text × List Text)) → IsSpelled name → IsPlainValue value → IsAmongNames name ns → settle_fault (rules ns) false (hold rows pending) ≡ [] → has_row name (settled_by ns rows pending) ≡ false → Uses ns ss others (settled_by ns rows pending ++ row name value ∷ []) end → IsTakenAfter ns ss → Taken ns end (at (hold rows pending) idle) (dashed name ∷ value ∷ others)
take_alone ns name value ss others rows end pending spelled plain among settles none uses taken =
    let current = settled_by ns rows pending in
    let f = found_long ns name among in
    let free : has_row f.0 current ≡ false = subst (λ (t : Text). has_row t current ≡ false) (sym f.1) none in
    let here : IsAmongNames f.0 ns = subst (λ (t : Text). IsAmongNames t ns) (sym f.1) among in
    let e = long_alone ns f.0 (dashed name) name rows pending spelled.no_end spelled.alone f.2 in
    let turn = e.0 ∙ ap (λ (k : Kinds). or_else k []) settles in
    let p = pending_passes ns f.0 value current here free in
    let then = subst (λ (t : Text). Uses ns ss others (current ++ row t value ∷ []) end) (sym f.1) uses in
    let last = taken others current end (Some (f.0, value ∷ [])) p.0 (subst (λ (l : List Row). Uses ns ss others l end) (sym p.1) then) in
    let waits = at (hold current (Some (f.0, []))) (option f.0) in
    let two = taken_back ns end waits _ value others (waits_plain ns f.0 value current plain) (waiting_plain ns f.0 value current plain.dashes plain.long plain.short here) last in
    taken_back ns end (at (hold rows pending) idle) waits (dashed name) (value ∷ others) turn e.1 two

-- the flag is found, since no option has its name
found_flag : (ns : List (List ℕ)) → (IsAmongNames flag_name ns → ⊥) → arg_by_long (rules ns) flag_name ≡ Some ready_flag
found_flag ns other = go (arg_by_long (rules ns) flag_name) refl (by_long ns flag_name)
  where
    go : (r : Option Rule) → arg_by_long (rules ns) flag_name ≡ r → Looked ns flag_name r → arg_by_long (rules ns) flag_name ≡ Some ready_flag
    go None e l = absurd (l.1 refl)
    go (Some rule) e (inl (among, found)) = absurd (other among)
    go (Some rule) e (inr (out, same, made)) = e ∙ ap (λ (r : Rule). Some r) made

take_flag : (ns : List (List ℕ)) (ss : Pairs) (others : List Text) (rows end : List Row) (pending : Option (Text × List Text)) → (IsAmongNames flag_name ns → ⊥) → settle_fault (rules ns) false (hold rows pending) ≡ [] → has_row flag_name (settled_by ns rows pending) ≡ false → Uses ns ss others (settled_by ns rows pending ++ row flag_name [] ∷ []) end → IsTakenAfter ns ss → Taken ns end (at (hold rows pending) idle) (dashed flag_name ∷ others)
take_flag ns ss others rows end pending other settles none uses taken =
    let current = settled_by ns rows pending in
    let e = long_flag ns (dashed flag_name) rows pending refl refl (found_flag ns other) in
    let turn = e.0 ∙ ap (λ (k : Kinds). or_else (or_else k (use_fault false ready_flag [] current)) []) settles ∙ ap (λ (k : Kinds). or_else k []) (flag_passes current none) in
    let next = e.1 ∙ ap (λ (l : List Row). at (hold l None) idle) (flag_used current none) in
    taken_back ns end (at (hold rows pending) idle) _ (dashed flag_name) others turn next (taken others (current ++ row flag_name [] ∷ []) end None refl uses)

pub taken : (ns : List (List ℕ)) → (IsAmongNames flag_name ns → ⊥) → AreSpelled ns → (ss : Pairs) → ArePlain ss → IsTakenAfter ns ss
unfolding walk_fault
taken ns other spelled [] plain = λ words rows end pending settles (none, same). rw none ((refl, settles), sym same)
taken ns other spelled ((name, value) ∷ ss) plain = λ words rows end pending settles uses. go (taken ns other spelled ss plain.1) words rows end pending settles uses
  where
    go : IsTakenAfter ns ss → IsTakenAfter ns ((name, value) ∷ ss)
    go rest words rows end pending settles (others, none, inl (among, inl is), uses) = rw is (take_alone ns name value ss others rows end pending (spelled name among) plain.0 among settles none uses rest)
    go rest words rows end pending settles (others, none, inl (among, inr is), uses) = rw is (take_value ns name value ss others rows end pending (spelled name among) among settles none uses rest)
    go rest words rows end pending settles (others, none, inr (named, valued, is), uses) =
        let free : has_row flag_name (settled_by ns rows pending) ≡ false = subst (λ (t : Text). has_row t (settled_by ns rows pending) ≡ false) named none in
        let then : Uses ns ss others (settled_by ns rows pending ++ row flag_name [] ∷ []) end = subst (λ (v : Text). Uses ns ss others (settled_by ns rows pending ++ row flag_name v ∷ []) end) valued (subst (λ (t : Text). Uses ns ss others (settled_by ns rows pending ++ row t value ∷ []) end) named uses) in
        let words_are : words ≡ dashed flag_name ∷ others = is ∙ ap (λ (t : Text). dashed t ∷ others) named in
        rw words_are (take_flag ns ss others rows end pending other settles free then rest)
