-- Settings one after another, and what they give for a name.
use Rattle.std.proofs.Common.{◌≡◌, ◌≢◌, ℕ, ◌+◌, ◌≤◌, Bool, true, false, cond, List, [], ◌∷◌, ◌++◌, Option, None, Some, length, take, codes, refl, sym, ap, subst, ◌∙◌, inl, inr, arith, length-append, lt-ltb, get_or, lit<}
use Rattle.std.specs.Prelude.{◌==◌, ◌&&◌, not, nat_lt, IfNone, IfSome}
use Rattle.std.specs.List.{position, position_or_len}
use Rattle.std.specs.Str.{bytes_eq}
use Rattle.std.proofs.lemmas.List.{append_cancel_left, take_at}
use Rattle.std.proofs.lemmas.Slice.Eq.{bytes_eq-Decides}
use Rattle.ip_prefix.proofs.PrefixReading.{same_number}
use Rattle.bmp_specs.specs.declared.wire.Family.{Family}
use Rattle.bmp_specs.specs.declared.wire.Family.TheVariants.{V4}
use Rattle.bmp_specs.specs.Prefix.{padded}
use Rattle.bmp_specs.specs.NumberText.{IsNumberText, most_number}
use Rattle.bmp_specs.specs.Values.{AddressValue}
use Rattle.ip_prefix.proofs.Decimals.{all_digits}
use Rattle.station_doors.specs.Doors.{most_places}
use Rattle.station_doors.specs.declared.listening.Log.{Log}
use Rattle.station_doors.specs.declared.listening.Log.TheVariants.{None as NoConnections, Routers, Clients}
use Rattle.station_words.specs.ServeWords.{Setting, IsOption, IsInFront, AreSettings, values_of, Gives, MayGive, Has, ArePorts, IsLog, IsPorts, IsRounds, IsSeconds, MayServe, flag, flag_alone, is_given, usually_shared, loopback, one_word, ports_for, two_words}
use Rattle.station_words.specs.declared.serve_words.ServeWords.{ServeWords}

-- no option has an `=` in its name
pub none_in : (name : List ℕ) → IsOption name → position (λ b. b == 61) name ≡ None
none_in name (inl (e)) = rw e refl
none_in name (inr (inl (e))) = rw e refl
none_in name (inr (inr (inl (e)))) = rw e refl
none_in name (inr (inr (inr (inl (e))))) = rw e refl
none_in name (inr (inr (inr (inr (inl (e)))))) = rw e refl
none_in name (inr (inr (inr (inr (inr (inl (e))))))) = rw e refl
none_in name (inr (inr (inr (inr (inr (inr (inl (e)))))))) = rw e refl
none_in name (inr (inr (inr (inr (inr (inr (inr (inl (e))))))))) = rw e refl
none_in name (inr (inr (inr (inr (inr (inr (inr (inr (inl (e)))))))))) = rw e refl
none_in name (inr (inr (inr (inr (inr (inr (inr (inr (inr (inl (e))))))))))) = rw e refl
none_in name (inr (inr (inr (inr (inr (inr (inr (inr (inr (inr (inl (e)))))))))))) = rw e refl
none_in name (inr (inr (inr (inr (inr (inr (inr (inr (inr (inr (inr (inl (e))))))))))))) = rw e refl
none_in name (inr (inr (inr (inr (inr (inr (inr (inr (inr (inr (inr (inr (e))))))))))))) = rw e refl

place_behind : (name value : List ℕ) → IsOption name → position_or_len (λ b. b == 61) (name ++ 61 ∷ value) ≡ length name
place_behind name value (inl (e)) = rw e refl
place_behind name value (inr (inl (e))) = rw e refl
place_behind name value (inr (inr (inl (e)))) = rw e refl
place_behind name value (inr (inr (inr (inl (e))))) = rw e refl
place_behind name value (inr (inr (inr (inr (inl (e)))))) = rw e refl
place_behind name value (inr (inr (inr (inr (inr (inl (e))))))) = rw e refl
place_behind name value (inr (inr (inr (inr (inr (inr (inl (e)))))))) = rw e refl
place_behind name value (inr (inr (inr (inr (inr (inr (inr (inl (e))))))))) = rw e refl
place_behind name value (inr (inr (inr (inr (inr (inr (inr (inr (inl (e)))))))))) = rw e refl
place_behind name value (inr (inr (inr (inr (inr (inr (inr (inr (inr (inl (e))))))))))) = rw e refl
place_behind name value (inr (inr (inr (inr (inr (inr (inr (inr (inr (inr (inl (e)))))))))))) = rw e refl
place_behind name value (inr (inr (inr (inr (inr (inr (inr (inr (inr (inr (inr (inl (e))))))))))))) = rw e refl
place_behind name value (inr (inr (inr (inr (inr (inr (inr (inr (inr (inr (inr (inr (e))))))))))))) = rw e refl

-- the flag is no option
pub letters : (name : List ℕ) → IsOption name → get_or name 2 0 + get_or name 3 0 ≢ 209
letters name (inl (e)) = λ is. let h : 203 ≡ 209 = sym (ap (λ (l : List ℕ). get_or l 2 0 + get_or l 3 0) e) ∙ is in absurd (omega (arith, h))
letters name (inr (inl (e))) = λ is. let h : 212 ≡ 209 = sym (ap (λ (l : List ℕ). get_or l 2 0 + get_or l 3 0) e) ∙ is in absurd (omega (arith, h))
letters name (inr (inr (inl (e)))) = λ is. let h : 203 ≡ 209 = sym (ap (λ (l : List ℕ). get_or l 2 0 + get_or l 3 0) e) ∙ is in absurd (omega (arith, h))
letters name (inr (inr (inr (inl (e))))) = λ is. let h : 212 ≡ 209 = sym (ap (λ (l : List ℕ). get_or l 2 0 + get_or l 3 0) e) ∙ is in absurd (omega (arith, h))
letters name (inr (inr (inr (inr (inl (e)))))) = λ is. let h : 225 ≡ 209 = sym (ap (λ (l : List ℕ). get_or l 2 0 + get_or l 3 0) e) ∙ is in absurd (omega (arith, h))
letters name (inr (inr (inr (inr (inr (inl (e))))))) = λ is. let h : 197 ≡ 209 = sym (ap (λ (l : List ℕ). get_or l 2 0 + get_or l 3 0) e) ∙ is in absurd (omega (arith, h))
letters name (inr (inr (inr (inr (inr (inr (inl (e)))))))) = λ is. let h : 223 ≡ 209 = sym (ap (λ (l : List ℕ). get_or l 2 0 + get_or l 3 0) e) ∙ is in absurd (omega (arith, h))
letters name (inr (inr (inr (inr (inr (inr (inr (inl (e))))))))) = λ is. let h : 205 ≡ 209 = sym (ap (λ (l : List ℕ). get_or l 2 0 + get_or l 3 0) e) ∙ is in absurd (omega (arith, h))
letters name (inr (inr (inr (inr (inr (inr (inr (inr (inl (e)))))))))) = λ is. let h : 212 ≡ 209 = sym (ap (λ (l : List ℕ). get_or l 2 0 + get_or l 3 0) e) ∙ is in absurd (omega (arith, h))
letters name (inr (inr (inr (inr (inr (inr (inr (inr (inr (inl (e))))))))))) = λ is. let h : 212 ≡ 209 = sym (ap (λ (l : List ℕ). get_or l 2 0 + get_or l 3 0) e) ∙ is in absurd (omega (arith, h))
letters name (inr (inr (inr (inr (inr (inr (inr (inr (inr (inr (inl (e)))))))))))) = λ is. let h : 219 ≡ 209 = sym (ap (λ (l : List ℕ). get_or l 2 0 + get_or l 3 0) e) ∙ is in absurd (omega (arith, h))
letters name (inr (inr (inr (inr (inr (inr (inr (inr (inr (inr (inr (inl (e))))))))))))) = λ is. let h : 203 ≡ 209 = sym (ap (λ (l : List ℕ). get_or l 2 0 + get_or l 3 0) e) ∙ is in absurd (omega (arith, h))
letters name (inr (inr (inr (inr (inr (inr (inr (inr (inr (inr (inr (inr (e))))))))))))) = λ is. let h : 212 ≡ 209 = sym (ap (λ (l : List ℕ). get_or l 2 0 + get_or l 3 0) e) ∙ is in absurd (omega (arith, h))

pub no_flag : (name : List ℕ) → IsOption name → name ≢ flag
no_flag name o is = letters name o (ap (λ (l : List ℕ). get_or l 2 0 + get_or l 3 0) is)

-- in `name=value` the first one is after the name
pub found_behind : (name value : List ℕ) → IsOption name → position (λ b. b == 61) (name ++ 61 ∷ value) ≡ Some (length name)
found_behind name value is =
    let whole = name ++ 61 ∷ value in
    let within : nat_lt (length name) (length whole) ≡ true = lt-ltb (length name) (length whole) (omega (arith, length-append name (61 ∷ value))) in
    ap (λ (n : ℕ). cond (nat_lt n (length whole)) (Some n) None) (place_behind name value is) ∙ ap (λ (t : Bool). cond t (Some (length name)) None) within

-- one setting at most stands in front of the words
pub record AreSame (s t : Setting) (others more : List (List ℕ)) : Type 0 where
  pub setting : s ≡ t
  pub behind : others ≡ more

same_word : (a b va vb : List ℕ) → IsOption a → IsOption b → a ++ 61 ∷ va ≡ b ++ 61 ∷ vb → (a ≡ b) × (va ≡ vb)
same_word a b va vb ia ib e =
    let place : Some (length a) ≡ Some (length b) = sym (found_behind a va ia) ∙ ap (λ (l : List ℕ). position (λ x. x == 61) l) e ∙ found_behind b vb ib in
    let long : length a ≡ length b = cc place in
    let name : a ≡ b = sym (take_at a (61 ∷ va) (length a) refl) ∙ ap (λ (l : List ℕ). take (length a) l) e ∙ take_at b (61 ∷ vb) (length a) (sym long) in
    let rest : 61 ∷ va ≡ 61 ∷ vb = append_cancel_left b (61 ∷ va) (61 ∷ vb) (ap (λ (l : List ℕ). l ++ 61 ∷ va) (sym name) ∙ e) in
    (name, cc rest)

pub same_front : (s t : Setting) (words others more : List (List ℕ)) → IsInFront s words others → IsInFront t words more → AreSame s t others more
same_front s t words others more (flag_alone is e) (flag_alone also h) =
    let both : flag ∷ others ≡ flag ∷ more = sym e ∙ h in
    record { setting = is ∙ sym also; behind = cc both }
same_front s t words others more (flag_alone is e) (two_words o h) =
    let first : t.0 ≡ flag = cc (e, h) in
    absurd (no_flag t.0 o first)
same_front s t words others more (flag_alone is e) (one_word o h) =
    let word : flag ≡ t.0 ++ 61 ∷ t.1 = cc (e, h) in
    let clash : None ≡ Some (length t.0) = ap (λ (l : List ℕ). position (λ x. x == 61) l) word ∙ found_behind t.0 t.1 o in
    absurd (cc clash)
same_front s t words others more (two_words o e) (flag_alone is h) =
    let first : s.0 ≡ flag = cc (e, h) in
    absurd (no_flag s.0 o first)
same_front (a, va) (b, vb) words others more (two_words o e) (two_words p h) =
    let both : a ∷ va ∷ others ≡ b ∷ vb ∷ more = sym e ∙ h in
    record { setting = cc both; behind = cc both }
same_front (a, va) (b, vb) words others more (two_words o e) (one_word p h) =
    let word : a ≡ b ++ 61 ∷ vb = cc (e, h) in
    let clash : None ≡ Some (length b) = sym (none_in a o) ∙ ap (λ (l : List ℕ). position (λ x. x == 61) l) word ∙ found_behind b vb p in
    absurd (cc clash)
same_front s t words others more (one_word o e) (flag_alone is h) =
    let word : flag ≡ s.0 ++ 61 ∷ s.1 = cc (h, e) in
    let clash : None ≡ Some (length s.0) = ap (λ (l : List ℕ). position (λ x. x == 61) l) word ∙ found_behind s.0 s.1 o in
    absurd (cc clash)
same_front (a, va) (b, vb) words others more (one_word o e) (two_words p h) =
    let word : b ≡ a ++ 61 ∷ va = cc (e, h) in
    let clash : None ≡ Some (length a) = sym (none_in b p) ∙ ap (λ (l : List ℕ). position (λ x. x == 61) l) word ∙ found_behind a va o in
    absurd (cc clash)
same_front (a, va) (b, vb) words others more (one_word o e) (one_word p h) =
    let word : a ++ 61 ∷ va ≡ b ++ 61 ∷ vb = cc (e, h) in
    let parts = same_word a b va vb o p word in
    record { setting = cc (parts.0, parts.1); behind = cc (e, h) }

-- no setting stands in front of no words
pub not_none : (s : Setting) (words others : List (List ℕ)) → words ≡ [] → IsInFront s words others → ⊥
not_none s words others none (flag_alone is e) = absurd (cc (none, e))
not_none s words others none (two_words o e) = absurd (cc (none, e))
not_none s words others none (one_word o e) = absurd (cc (none, e))

-- the flag has no value
pub flag_empty : (ss : List Setting) (words : List (List ℕ)) (value : List ℕ) (rest : List (List ℕ)) → AreSettings ss words → values_of flag ss ≡ value ∷ rest → value ≡ []
flag_empty [] words value rest are is = absurd (cc is)
flag_empty (s ∷ ss) words value rest (others, front, are) is = go (bytes_eq s.0 flag) refl (λ h. flag_empty ss others value rest are h)
  where
    empty : s.0 ≡ flag → IsInFront s words others → s.1 ≡ []
    empty same (flag_alone e w) = ap (λ (t : Setting). t.1) e
    empty same (two_words o w) = absurd (no_flag s.0 o same)
    empty same (one_word o w) = absurd (no_flag s.0 o same)

    go : (b : Bool) → bytes_eq s.0 flag ≡ b → (values_of flag ss ≡ value ∷ rest → value ≡ []) → value ≡ []
    go true same more =
        let here : s.1 ∷ values_of flag ss ≡ value ∷ rest = rw same at is in
        let first : s.1 ≡ value = cc here in
        sym first ∙ empty ((bytes_eq-Decides s.0 flag).0 same) front
    go false same more = let here = rw same at is in more here

-- words are one list of settings at most
pub same_settings : (ss ts : List Setting) (words : List (List ℕ)) → AreSettings ss words → AreSettings ts words → ss ≡ ts
same_settings [] [] words a b = refl
same_settings [] (t ∷ ts) words a (others, front, b) = absurd (not_none t words others a front)
same_settings (s ∷ ss) [] words (others, front, a) b = absurd (not_none s words others b front)
same_settings (s ∷ ss) (t ∷ ts) words (others, f, a) (more, g, b) =
    let same = same_front s t words others more f g in
    let tail : ss ≡ ts = same_settings ss ts more (subst (λ (l : List (List ℕ)). AreSettings ss l) same.behind a) b in
    cc (same.setting, tail)

-- what the words have, their settings give
pub holds_in : (Holds : List Setting → Type 0) (words : List (List ℕ)) (ss : List Setting) → AreSettings ss words → Has Holds words → Holds ss
holds_in Holds words ss are (ts, again, holds) = subst Holds (same_settings ts ss words again are) holds

-- the words give a name once, with this value, or never
abbrev pub Once : List ℕ → List ℕ → List (List ℕ) → Type 0
Once name value = Has (λ settings. values_of name settings ≡ value ∷ [])

abbrev pub Never : List ℕ → List (List ℕ) → Type 0
Never name = Has (λ settings. values_of name settings ≡ [])

module _ (name : List ℕ) (words : List (List ℕ)) where
  given_value : (value : List ℕ) (Is : List ℕ → Type 0) → Once name value words → Has (Gives name Is) words → Is value
  given_value value Is (ss, are, once) has = go (holds_in (Gives name Is) words ss are has)
    where
      go : Gives name Is ss → Is value
      go (other, single, is) =
          let values : value ∷ [] ≡ other ∷ [] = sym once ∙ single in
          let one : value ≡ other = cc values in
          subst Is (sym one) is

  may_value : (value : List ℕ) (Is : List ℕ → Type 0) (Else : Type 0) → Once name value words → Has (MayGive name Is Else) words → Is value
  may_value value Is Else (ss, are, once) has = go (holds_in (MayGive name Is Else) words ss are has)
    where
      go : MayGive name Is Else ss → Is value
      go (inl gives) = given_value value Is (ss, are, once) (ss, are, gives)
      go (inr (none, holds)) = absurd (cc (sym once ∙ none))

  pub not_given : (Is : List ℕ → Type 0) → Never name words → Has (Gives name Is) words → ⊥
  not_given Is (ss, are, never) has = go (holds_in (Gives name Is) words ss are has)
    where
      go : Gives name Is ss → ⊥
      go (other, single, is) = absurd (cc (sym never ∙ single))

  pub left_out : (Is : List ℕ → Type 0) (Else : Type 0) → Never name words → Has (MayGive name Is Else) words → Else
  left_out Is Else (ss, are, never) has = go (holds_in (MayGive name Is Else) words ss are has)
    where
      go : MayGive name Is Else ss → Else
      go (inl gives) = absurd (not_given Is (ss, are, never) (ss, are, gives))
      go (inr (none, holds)) = holds

  -- what a value is found to be, the words have, and nothing else
  module _ {A : Type 0} (Is : A → List ℕ → Type 0) (value : List ℕ) (once : Once name value words) where
    module _ (Else : A → Type 0) where
      pub some_may : (r : Option A) → IfSome r (λ x. Is x value) → IfSome r (λ x. Has (MayGive name (Is x) (Else x)) words)
      some_may None is = tt
      some_may (Some x) is = (once.0, once.1, inl (value, once.2, is))

      pub only_may : (r : Option A) → IfSome r (λ x. (y : A) → Is y value → y ≡ x) → IfSome r (λ x. (y : A) → Has (MayGive name (Is y) (Else y)) words → y ≡ x)
      only_may None only = tt
      only_may (Some x) only = λ y has. only y (may_value value (Is y) (Else y) once has)

      pub none_may : (r : Option A) → IfNone r ((y : A) → Is y value → ⊥) → IfNone r ((y : A) → Has (MayGive name (Is y) (Else y)) words → ⊥)
      none_may None none = λ y has. none y (may_value value (Is y) (Else y) once has)
      none_may (Some x) none = tt

  -- the same where it isn't given
  pub else_may : {A : Type 0} (Is : A → List ℕ → Type 0) (Else : A → Type 0) (x : A) → Never name words → Else x → Has (MayGive name (Is x) (Else x)) words
  else_may Is Else x never holds = (never.0, never.1, inr (never.2, holds))

-- one value is one number at most
pub one_number : (value : List ℕ) (r : Option ℕ) → IfSome r (λ n. IsNumberText value n) → IfSome r (λ n. (m : ℕ) → IsNumberText value m → m ≡ n)
one_number value None is = tt
one_number value (Some n) is = λ m also. same_number value m n also is

not_forever : (n : ℕ) → IsNumberText (codes "forever") n → ⊥
not_forever n is = let at = all_digits most_number (codes "forever") n (lit< tt) is 0 (omega arith) in absurd (omega (arith, at.0, at.1))

pub one_rounds : (value : List ℕ) (r : Option ℕ) → IfSome r (λ n. IsRounds value n) → IfSome r (λ n. (m : ℕ) → IsRounds value m → m ≡ n)
one_rounds value None is = tt
one_rounds value (Some n) is = λ m also. go n m is also
  where
    go : (n m : ℕ) → IsRounds value n → IsRounds value m → m ≡ n
    go n m (inl is) (inl also) = same_number value m n also.0 is.0
    go n m (inl is) (inr also) = absurd (not_forever n (subst (λ (l : List ℕ). IsNumberText l n) also.0 is.0))
    go n m (inr is) (inl also) = absurd (not_forever m (subst (λ (l : List ℕ). IsNumberText l m) is.0 also.0))
    go n m (inr is) (inr also) = also.1 ∙ sym is.1

pub one_ports : (value : List ℕ) (r : Option Bool) → IfSome r (λ b. IsPorts value b) → IfSome r (λ b. (d : Bool) → IsPorts value d → d ≡ b)
one_ports value None is = tt
one_ports value (Some b) is = λ d also. go b d is also
  where
    go : (b d : Bool) → IsPorts value b → IsPorts value d → d ≡ b
    go true true is also = refl
    go false false is also = refl
    go true false is also = let h : codes "shared" ≡ codes "each" = sym is ∙ also in absurd (omega (arith, ap length h))
    go false true is also = let h : codes "shared" ≡ codes "each" = sym also ∙ is in absurd (omega (arith, ap length h))

pub same_value : (value : List ℕ) (a b : Bool) → IsPorts value a → IsPorts value b → a ≡ b
same_value value a b is also = one_ports value (Some b) also a is

pub one_time : (value : List ℕ) (r : Option (Option ℕ)) → IfSome r (λ t. IsSeconds value t) → IfSome r (λ t. (u : Option ℕ) → IsSeconds value u → u ≡ t)
one_time value None is = tt
one_time value (Some None) is = absurd is
one_time value (Some (Some n)) is = λ u also. go u also
  where
    go : (u : Option ℕ) → IsSeconds value u → u ≡ Some n
    go None also = absurd also
    go (Some m) also = ap (λ (k : ℕ). Some k) (same_number value m n also.0 is.0)

pub one_log : (value : List ℕ) (r : Option Log) → IfSome r (λ l. IsLog value l) → IfSome r (λ l. (k : Log) → IsLog value k → k ≡ l)
one_log value None is = tt
one_log value (Some l) is = λ k also. go l k is also
  where
    apart : (a b : List ℕ) → length a ≢ length b → value ≡ a → value ≡ b → ⊥
    apart a b differ first second = differ (ap length (sym first ∙ second))

    go : (l k : Log) → IsLog value l → IsLog value k → k ≡ l
    go NoConnections NoConnections is also = refl
    go Routers Routers is also = refl
    go Clients Clients is also = refl
    go NoConnections Routers is also = absurd (apart (codes "none") (codes "routers") (λ e. omega (arith, e)) is also)
    go NoConnections Clients is also = absurd (apart (codes "none") (codes "clients") (λ e. omega (arith, e)) is also)
    go Routers NoConnections is also = absurd (apart (codes "none") (codes "routers") (λ e. omega (arith, e)) also is)
    go Routers Clients is also = let h : codes "routers" ≡ codes "clients" = sym is ∙ also in absurd (omega (arith, ap (λ (l : List ℕ). get_or l 0 0) h))
    go Clients NoConnections is also = absurd (apart (codes "none") (codes "clients") (λ e. omega (arith, e)) also is)
    go Clients Routers is also = let h : codes "routers" ≡ codes "clients" = sym also ∙ is in absurd (omega (arith, ap (λ (l : List ℕ). get_or l 0 0) h))

-- the ports' words, whose usual value is of all the settings
module _ (words : List (List ℕ)) (value : List ℕ) (once : Once (codes "--ports") value words) where
  ports_value : (shared : Bool) → Has (ArePorts shared) words → IsPorts value shared
  ports_value shared has = go (holds_in (ArePorts shared) words once.0 once.1 has)
    where
      go : ArePorts shared once.0 → IsPorts value shared
      go (inl (other, single, is)) =
          let values : value ∷ [] ≡ other ∷ [] = sym once.2 ∙ single in
          let one : value ≡ other = cc values in
          subst (λ (v : List ℕ). IsPorts v shared) (sym one) is
      go (inr (none, usual)) = absurd (cc (sym once.2 ∙ none))

  pub ports_some : (r : Option Bool) → IfSome r (λ b. IsPorts value b) → IfSome r (λ b. Has (ArePorts b) words)
  ports_some None is = tt
  ports_some (Some b) is = (once.0, once.1, inl (value, once.2, is))

  pub ports_only : (r : Option Bool) → IfSome r (λ b. IsPorts value b) → IfSome r (λ b. (d : Bool) → Has (ArePorts d) words → d ≡ b)
  ports_only None is = tt
  ports_only (Some b) is = λ d has. one_ports value (Some b) is d (ports_value d has)

  pub ports_none : (r : Option Bool) → IfNone r ((b : Bool) → IsPorts value b → ⊥) → IfNone r ((b : Bool) → Has (ArePorts b) words → ⊥)
  ports_none None none = λ b has. none b (ports_value b has)
  ports_none (Some b) none = tt

module _ (words : List (List ℕ)) (never : Never (codes "--ports") words) (usual : Bool) (is_usual : Has (λ settings. usual ≡ usually_shared settings) words) where
  pub ports_usual : Has (ArePorts usual) words
  ports_usual = (never.0, never.1, inr (never.2, holds_in _ words never.0 never.1 is_usual))

  pub ports_usual_only : (d : Bool) → Has (ArePorts d) words → d ≡ usual
  ports_usual_only d has = go (holds_in (ArePorts d) words never.0 never.1 has)
    where
      go : ArePorts d never.0 → d ≡ usual
      go (inl (other, single, is)) = absurd (cc (sym never.2 ∙ single))
      go (inr (none, shared)) = shared ∙ sym (holds_in (λ settings. usual ≡ usually_shared settings) words never.0 never.1 is_usual)

-- an option is given where it has a value
pub given_some : (name value : List ℕ) (more : List (List ℕ)) (ss : List Setting) → values_of name ss ≡ value ∷ more → is_given name ss ≡ true
given_some name value more [] is = cc is
given_some name value more (s ∷ ss) is = go (bytes_eq s.0 name) refl (given_some name value more ss)
  where
    go : (b : Bool) → bytes_eq s.0 name ≡ b → (values_of name ss ≡ value ∷ more → is_given name ss ≡ true) → is_given name (s ∷ ss) ≡ true
    go true e rest = rw e refl
    go false e rest = let h = rw e at is in rw e (rest h)

pub given_none : (name : List ℕ) (ss : List Setting) → values_of name ss ≡ [] → is_given name ss ≡ false
given_none name [] is = refl
given_none name (s ∷ ss) is = go (bytes_eq s.0 name) refl (given_none name ss)
  where
    go : (b : Bool) → bytes_eq s.0 name ≡ b → (values_of name ss ≡ [] → is_given name ss ≡ false) → is_given name (s ∷ ss) ≡ false
    go true e rest = let h = rw e at is in cc h
    go false e rest = let h = rw e at is in rw e (rest h)

-- what is usual, by what is given
pub usual_by : (words : List (List ℕ)) (r a b c d e : Bool) → Has (λ settings. a ≡ is_given (codes "--feeds") settings) words → Has (λ settings. b ≡ is_given (codes "--askers") settings) words
    → Has (λ settings. c ≡ is_given (codes "--feed-port") settings) words → Has (λ settings. d ≡ is_given (codes "--ask-port") settings) words → Has (λ settings. e ≡ is_given (codes "--rounds") settings) words
    → r ≡ not (a && b && c && d && e) → Has (λ settings. r ≡ usually_shared settings) words
usual_by words r a b c d e feeds askers feed_port ask_port rounds is =
    let ss = feeds.0 in
    let one = sym feeds.2 in
    let two = sym (holds_in _ words ss feeds.1 askers) in
    let three = sym (holds_in _ words ss feeds.1 feed_port) in
    let four = sym (holds_in _ words ss feeds.1 ask_port) in
    let five = sym (holds_in _ words ss feeds.1 rounds) in
    (ss, feeds.1, rw (one, two, three, four, five) is)

-- the same numbers are within the bounds
pub same_bounds : (s t : ServeWords) → s.at.feeds ≡ t.at.feeds → s.at.askers ≡ t.at.askers → s.at.feed_port ≡ t.at.feed_port → s.at.ask_port ≡ t.at.ask_port → s.at.shared ≡ t.at.shared → MayServe s → MayServe t
same_bounds s t feeds askers feed_port ask_port shared may =
    let lanes : ports_for s.at.shared s.at.feeds ≡ ports_for t.at.shared t.at.feeds = ap (λ (b : Bool). ports_for b s.at.feeds) shared ∙ ap (ports_for t.at.shared) feeds in
    let clients : ports_for s.at.shared s.at.askers ≡ ports_for t.at.shared t.at.askers = ap (λ (b : Bool). ports_for b s.at.askers) shared ∙ ap (ports_for t.at.shared) askers in
    record {
      feeds = subst (λ (n : ℕ). (1 ≤ n) × (n ≤ most_places)) feeds may.feeds;
      askers = subst (λ (n : ℕ). (1 ≤ n) × (n ≤ most_places)) askers may.askers;
      feed_ports = (omega (arith, may.feed_ports.0, feed_port), omega (arith, may.feed_ports.1, feed_port, lanes));
      ask_ports = (omega (arith, may.ask_ports.0, ask_port), omega (arith, may.ask_ports.1, ask_port, clients));
      apart = elim may.apart [
        | inl below ↦ inl (omega (arith, below, feed_port, lanes, ask_port))
        | inr above ↦ inr (omega (arith, above, feed_port, clients, ask_port))
      ];
    }

-- so many have one port at least
pub some_ports : (shared : Bool) (n : ℕ) → 1 ≤ n → 1 ≤ ports_for shared n
some_ports true n some = omega arith
some_ports false n some = some

pub is_loopback : (a : AddressValue) → a.family ≡ V4 → a.octets ≡ padded (127 ∷ 0 ∷ 0 ∷ 1 ∷ []) → a ≡ loopback
is_loopback a family octets =
    let made : Family → List ℕ → AddressValue = λ f os. record { family = f; octets = os } in
    ap (λ (f : Family). made f a.octets) family ∙ ap (λ (os : List ℕ). made V4 os) octets

-- a value that is no number of rounds
pub no_rounds : (value : List ℕ) → value ≢ codes "forever" → ((n : ℕ) → IsNumberText value n → ⊥) → (m : ℕ) → IsRounds value m → ⊥
no_rounds value apart none m (inl is) = none m is.0
no_rounds value apart none m (inr is) = apart is.0

pub far_rounds : (value : List ℕ) (n : ℕ) → value ≢ codes "forever" → IsNumberText value n → ((1 ≤ n) × (n ≤ 4096) → ⊥) → (m : ℕ) → IsRounds value m → ⊥
far_rounds value n apart number far m (inl is) =
    let same = same_number value m n is.0 number in
    far (omega (arith, same, is.1), omega (arith, same, is.2))
far_rounds value n apart number far m (inr is) = apart is.0

-- a value that is no time
pub no_time : (value : List ℕ) → ((n : ℕ) → IsNumberText value n → ⊥) → (t : Option ℕ) → IsSeconds value t → ⊥
no_time value none None is = is
no_time value none (Some m) is = none m is.0

pub far_time : (value : List ℕ) (n : ℕ) → IsNumberText value n → ((1 ≤ n) × (n ≤ 86400) → ⊥) → (t : Option ℕ) → IsSeconds value t → ⊥
far_time value n number far None is = is
far_time value n number far (Some m) is =
    let same = same_number value m n is.0 number in
    far (omega (arith, same, is.1), omega (arith, same, is.2))
