-- Words that are options, each given once, are taken.
use Rattle.std.proofs.Common.{◌≡◌, ◌≢◌, ℕ, ◌+◌, Bool, true, false, List, [], ◌∷◌, ◌++◌, Option, None, Some, is_some, codes, refl, sym, ap, subst, ◌∙◌, inl, inr, All, eqb-true, get_or, arith}
use Rattle.std.specs.Prelude.{◌⊎◌, ◌==◌}
use Rattle.std.specs.List.{list_any}
use Rattle.std.specs.Str.{bytes_eq}
use Rattle.std.proofs.lemmas.Slice.Eq.{bytes_eq-Decides}
use Rattle.std.proofs.lemmas.List.Elements.{All-head}
use Rattle.clap.specs.Walk.{Row, Text, has_row, idle, with_default, nothing_held, walk}
use Rattle.clap.specs.Faults.{fault_of, defaults_fault, default_fault, check_fault, entered_fault}
use Rattle.clap.specs.Kinds.{Kinds, or_else}
use Rattle.station_words.specs.ServeOptions.{dashed, option_names, serve_app}
use Rattle.station_words.specs.ServeWords.{Setting, AreSettings, IsInFront, IsOption, flag_alone, one_word, two_words, values_of}
use Rattle.station_words.proofs.OptionWalk.{Stands, flag_name, AreSpelled, ArePlain, IsAmongNames, IsPlainValue, IsSpelled, Pairs, Passes, Uses, at, hold, ready, rules, row, shape, taken, is_dashes}
use Rattle.station_words.proofs.OptionMatches.{settings_of}
use Rattle.clap.specs.Simple.{argument_words, built, entered, matches_of, names_of}

-- a text without a hyphen is no option
pub no_hyphen : (text : Text) → All (λ b. b ≢ 45) text → IsPlainValue text
no_hyphen [] lacks = record { dashes = refl; long = refl; short = refl }
no_hyphen (x ∷ xs) lacks = go (x == 45) refl
  where
    go : (b : Bool) → (x == 45) ≡ b → IsPlainValue (x ∷ xs)
    go true is = absurd (All-head (λ b. b ≢ 45) x xs lacks (eqb-true x 45 is))
    go false is = record { dashes = rw is refl; long = rw is refl; short = rw is refl }

spelled_feeds : IsSpelled (codes "feeds")
spelled_feeds = record { alone = refl; valued = λ value. refl; no_end = refl; no_end_valued = λ value. refl }

spelled_askers : IsSpelled (codes "askers")
spelled_askers = record { alone = refl; valued = λ value. refl; no_end = refl; no_end_valued = λ value. refl }

spelled_feed_port : IsSpelled (codes "feed-port")
spelled_feed_port = record { alone = refl; valued = λ value. refl; no_end = refl; no_end_valued = λ value. refl }

spelled_ask_port : IsSpelled (codes "ask-port")
spelled_ask_port = record { alone = refl; valued = λ value. refl; no_end = refl; no_end_valued = λ value. refl }

spelled_rounds : IsSpelled (codes "rounds")
spelled_rounds = record { alone = refl; valued = λ value. refl; no_end = refl; no_end_valued = λ value. refl }

spelled_address : IsSpelled (codes "address")
spelled_address = record { alone = refl; valued = λ value. refl; no_end = refl; no_end_valued = λ value. refl }

spelled_ports : IsSpelled (codes "ports")
spelled_ports = record { alone = refl; valued = λ value. refl; no_end = refl; no_end_valued = λ value. refl }

spelled_idle : IsSpelled (codes "idle")
spelled_idle = record { alone = refl; valued = λ value. refl; no_end = refl; no_end_valued = λ value. refl }

spelled_ask_idle : IsSpelled (codes "ask-idle")
spelled_ask_idle = record { alone = refl; valued = λ value. refl; no_end = refl; no_end_valued = λ value. refl }

spelled_ask_address : IsSpelled (codes "ask-address")
spelled_ask_address = record { alone = refl; valued = λ value. refl; no_end = refl; no_end_valued = λ value. refl }

spelled_log : IsSpelled (codes "log")
spelled_log = record { alone = refl; valued = λ value. refl; no_end = refl; no_end_valued = λ value. refl }

spelled_feed_from : IsSpelled (codes "feed-from")
spelled_feed_from = record { alone = refl; valued = λ value. refl; no_end = refl; no_end_valued = λ value. refl }

spelled_ask_from : IsSpelled (codes "ask-from")
spelled_ask_from = record { alone = refl; valued = λ value. refl; no_end = refl; no_end_valued = λ value. refl }

pub are_spelled : AreSpelled option_names
are_spelled name (inl (e)) = subst IsSpelled e spelled_feeds
are_spelled name (inr (inl (e))) = subst IsSpelled e spelled_askers
are_spelled name (inr (inr (inl (e)))) = subst IsSpelled e spelled_feed_port
are_spelled name (inr (inr (inr (inl (e))))) = subst IsSpelled e spelled_ask_port
are_spelled name (inr (inr (inr (inr (inl (e)))))) = subst IsSpelled e spelled_rounds
are_spelled name (inr (inr (inr (inr (inr (inl (e))))))) = subst IsSpelled e spelled_address
are_spelled name (inr (inr (inr (inr (inr (inr (inl (e)))))))) = subst IsSpelled e spelled_ports
are_spelled name (inr (inr (inr (inr (inr (inr (inr (inl (e))))))))) = subst IsSpelled e spelled_idle
are_spelled name (inr (inr (inr (inr (inr (inr (inr (inr (inl (e)))))))))) = subst IsSpelled e spelled_ask_idle
are_spelled name (inr (inr (inr (inr (inr (inr (inr (inr (inr (inl (e))))))))))) = subst IsSpelled e spelled_ask_address
are_spelled name (inr (inr (inr (inr (inr (inr (inr (inr (inr (inr (inl (e)))))))))))) = subst IsSpelled e spelled_log
are_spelled name (inr (inr (inr (inr (inr (inr (inr (inr (inr (inr (inr (inl (e))))))))))))) = subst IsSpelled e spelled_feed_from
are_spelled name (inr (inr (inr (inr (inr (inr (inr (inr (inr (inr (inr (inr (inl (e)))))))))))))) = subst IsSpelled e spelled_ask_from
are_spelled name (inr (inr (inr (inr (inr (inr (inr (inr (inr (inr (inr (inr (inr (none)))))))))))))) = elim none [ ]

-- no option has the flag's name
letters : (name : Text) → IsAmongNames name option_names → get_or name 0 0 + get_or name 1 0 ≢ 209
letters name (inl (e)) = λ is. let h : 203 ≡ 209 = ap (λ (l : Text). get_or l 0 0 + get_or l 1 0) e ∙ is in absurd (omega (arith, h))
letters name (inr (inl (e))) = λ is. let h : 212 ≡ 209 = ap (λ (l : Text). get_or l 0 0 + get_or l 1 0) e ∙ is in absurd (omega (arith, h))
letters name (inr (inr (inl (e)))) = λ is. let h : 203 ≡ 209 = ap (λ (l : Text). get_or l 0 0 + get_or l 1 0) e ∙ is in absurd (omega (arith, h))
letters name (inr (inr (inr (inl (e))))) = λ is. let h : 212 ≡ 209 = ap (λ (l : Text). get_or l 0 0 + get_or l 1 0) e ∙ is in absurd (omega (arith, h))
letters name (inr (inr (inr (inr (inl (e)))))) = λ is. let h : 225 ≡ 209 = ap (λ (l : Text). get_or l 0 0 + get_or l 1 0) e ∙ is in absurd (omega (arith, h))
letters name (inr (inr (inr (inr (inr (inl (e))))))) = λ is. let h : 197 ≡ 209 = ap (λ (l : Text). get_or l 0 0 + get_or l 1 0) e ∙ is in absurd (omega (arith, h))
letters name (inr (inr (inr (inr (inr (inr (inl (e)))))))) = λ is. let h : 223 ≡ 209 = ap (λ (l : Text). get_or l 0 0 + get_or l 1 0) e ∙ is in absurd (omega (arith, h))
letters name (inr (inr (inr (inr (inr (inr (inr (inl (e))))))))) = λ is. let h : 205 ≡ 209 = ap (λ (l : Text). get_or l 0 0 + get_or l 1 0) e ∙ is in absurd (omega (arith, h))
letters name (inr (inr (inr (inr (inr (inr (inr (inr (inl (e)))))))))) = λ is. let h : 212 ≡ 209 = ap (λ (l : Text). get_or l 0 0 + get_or l 1 0) e ∙ is in absurd (omega (arith, h))
letters name (inr (inr (inr (inr (inr (inr (inr (inr (inr (inl (e))))))))))) = λ is. let h : 212 ≡ 209 = ap (λ (l : Text). get_or l 0 0 + get_or l 1 0) e ∙ is in absurd (omega (arith, h))
letters name (inr (inr (inr (inr (inr (inr (inr (inr (inr (inr (inl (e)))))))))))) = λ is. let h : 219 ≡ 209 = ap (λ (l : Text). get_or l 0 0 + get_or l 1 0) e ∙ is in absurd (omega (arith, h))
letters name (inr (inr (inr (inr (inr (inr (inr (inr (inr (inr (inr (inl (e))))))))))))) = λ is. let h : 203 ≡ 209 = ap (λ (l : Text). get_or l 0 0 + get_or l 1 0) e ∙ is in absurd (omega (arith, h))
letters name (inr (inr (inr (inr (inr (inr (inr (inr (inr (inr (inr (inr (inl (e)))))))))))))) = λ is. let h : 212 ≡ 209 = ap (λ (l : Text). get_or l 0 0 + get_or l 1 0) e ∙ is in absurd (omega (arith, h))
letters name (inr (inr (inr (inr (inr (inr (inr (inr (inr (inr (inr (inr (inr (none)))))))))))))) = elim none [ ]

pub not_flag : IsAmongNames flag_name option_names → ⊥
not_flag among = letters flag_name among refl

-- an option is one of the command's names after `--`
abbrev Named : Text → Type 0
Named option = (name : Text) × (option ≡ dashed name) × IsAmongNames name option_names

pub named : (option : Text) → IsOption option → Named option
named option (inl (e)) = (codes "feeds", e, inl (refl))
named option (inr (inl (e))) = (codes "askers", e, inr (inl (refl)))
named option (inr (inr (inl (e)))) = (codes "feed-port", e, inr (inr (inl (refl))))
named option (inr (inr (inr (inl (e))))) = (codes "ask-port", e, inr (inr (inr (inl (refl)))))
named option (inr (inr (inr (inr (inl (e)))))) = (codes "rounds", e, inr (inr (inr (inr (inl (refl))))))
named option (inr (inr (inr (inr (inr (inl (e))))))) = (codes "address", e, inr (inr (inr (inr (inr (inl (refl)))))))
named option (inr (inr (inr (inr (inr (inr (inl (e)))))))) = (codes "ports", e, inr (inr (inr (inr (inr (inr (inl (refl))))))))
named option (inr (inr (inr (inr (inr (inr (inr (inl (e))))))))) = (codes "idle", e, inr (inr (inr (inr (inr (inr (inr (inl (refl)))))))))
named option (inr (inr (inr (inr (inr (inr (inr (inr (inl (e)))))))))) = (codes "ask-idle", e, inr (inr (inr (inr (inr (inr (inr (inr (inl (refl))))))))))
named option (inr (inr (inr (inr (inr (inr (inr (inr (inr (inl (e))))))))))) = (codes "ask-address", e, inr (inr (inr (inr (inr (inr (inr (inr (inr (inl (refl)))))))))))
named option (inr (inr (inr (inr (inr (inr (inr (inr (inr (inr (inl (e)))))))))))) = (codes "log", e, inr (inr (inr (inr (inr (inr (inr (inr (inr (inr (inl (refl))))))))))))
named option (inr (inr (inr (inr (inr (inr (inr (inr (inr (inr (inr (inl (e))))))))))))) = (codes "feed-from", e, inr (inr (inr (inr (inr (inr (inr (inr (inr (inr (inr (inl (refl)))))))))))))
named option (inr (inr (inr (inr (inr (inr (inr (inr (inr (inr (inr (inr (e))))))))))))) = (codes "ask-from", e, inr (inr (inr (inr (inr (inr (inr (inr (inr (inr (inr (inr (inl (refl))))))))))))))

-- the name of a setting
abbrev pub IsName : Text → Type 0
IsName name = IsAmongNames name option_names ⊎ (name ≡ flag_name)

-- the setting in front of the words by its name without `--`
abbrev Standing : Setting → List Text → List Text → Type 0
Standing s words others = (name : Text) × (s.0 ≡ dashed name) × IsName name × Stands option_names (name, s.1) words others

standing : (s : Setting) (words others : List Text) → IsInFront s words others → Standing s words others
standing s words others (flag_alone same is) = (flag_name, ap (λ (t : Setting). t.0) same, inr refl, inr (refl, ap (λ (t : Setting). t.1) same, is))
standing s words others (two_words o is) = let n = named s.0 o in (n.0, n.1, inl n.2, inl (n.2, inl (subst (λ (t : Text). words ≡ t ∷ s.1 ∷ others) n.1 is)))
standing s words others (one_word o is) = let n = named s.0 o in (n.0, n.1, inl n.2, inl (n.2, inr (subst (λ (t : Text). words ≡ (t ++ 61 ∷ s.1) ∷ others) n.1 is)))

-- the option is not given, or once with a value that is no option
abbrev pub IsOnce : List Text → Type 0
IsOnce values = (values ≡ []) ⊎ ((value : Text) × (values ≡ value ∷ []) × IsPlainValue value)

abbrev pub AreOnce : List Setting → List Row → Type 0
AreOnce settings rows = (name : Text) → IsName name → IsOnce (values_of (dashed name) settings) × (has_row name rows ≡ true → values_of (dashed name) settings ≡ [])

given_first : (name : Text) (s : Setting) (ss : List Setting) → s.0 ≡ dashed name → values_of (dashed name) (s ∷ ss) ≡ s.1 ∷ values_of (dashed name) ss
given_first name s ss is = let same = (bytes_eq-Decides s.0 (dashed name)).1 is in rw same refl

given_other : (name : Text) (s : Setting) (ss : List Setting) → bytes_eq s.0 (dashed name) ≡ false → values_of (dashed name) (s ∷ ss) ≡ values_of (dashed name) ss
given_other name s ss is = rw is refl

row_added : (name : Text) (rows : List Row) (new : Row) → has_row name (rows ++ new ∷ []) ≡ true → bytes_eq new.id name ≡ false → has_row name rows ≡ true
row_added name [] new has other = let h = rw other at has in cc h
row_added name (r ∷ rs) new has other = go (bytes_eq r.id name) refl (λ h. row_added name rs new h other)
  where
    go : (b : Bool) → bytes_eq r.id name ≡ b → (has_row name (rs ++ new ∷ []) ≡ true → has_row name rs ≡ true) → has_row name (r ∷ rs) ≡ true
    go true is rest = rw is refl
    go false is rest = let h = rw is at has in rw is (rest h)

abbrev AreUses : List Setting → List Text → List Row → Type 0
AreUses settings words rows = (ss : Pairs) × (end : List Row) × (settings ≡ settings_of ss) × Uses option_names ss words rows end × ArePlain ss

-- the first option is given no more
first_once : (name value : Text) (ss : List Setting) → IsOnce (value ∷ values_of (dashed name) ss) → (values_of (dashed name) ss ≡ []) × IsPlainValue value
first_once name value ss (inl none) = absurd (cc none)
first_once name value ss (inr (v, one, plain)) =
    let same : value ≡ v = cc one in
    let rest : values_of (dashed name) ss ≡ [] = cc one in
    (rest, subst IsPlainValue (sym same) plain)

AreOnce-tail : (name value : Text) (s : Setting) (ss : List Setting) (rows : List Row) → s.0 ≡ dashed name → values_of (dashed name) ss ≡ [] → AreOnce (s ∷ ss) rows → AreOnce ss (rows ++ row name value ∷ [])
AreOnce-tail name value s ss rows is none once = λ other among. go other among (bytes_eq name other) refl
  where
    go : (other : Text) → IsName other → (b : Bool) → bytes_eq name other ≡ b → IsOnce (values_of (dashed other) ss) × (has_row other (rows ++ row name value ∷ []) ≡ true → values_of (dashed other) ss ≡ [])
    go other among true same =
        let here : values_of (dashed other) ss ≡ [] = subst (λ (t : Text). values_of (dashed t) ss ≡ []) ((bytes_eq-Decides name other).0 same) none in
        (inl here, λ has. here)
    go other among false apart =
        let differs : bytes_eq s.0 (dashed other) ≡ false = ap (λ (t : Text). bytes_eq t (dashed other)) is ∙ apart in
        let same = given_other other s ss differs in
        let o = once other among in
        (subst IsOnce same o.0, λ has. sym same ∙ o.1 (row_added other rows (row name value) has apart))

pub are_uses : (settings : List Setting) (words : List Text) (rows : List Row) → AreSettings settings words → AreOnce settings rows → AreUses settings words rows
are_uses [] words rows none once = ([], rows, refl, (none, refl), tt)
are_uses (s ∷ ss) words rows (others, front, are) once = go (standing s words others front) (λ more h. are_uses ss others more are h)
  where
    go : Standing s words others → ((more : List Row) → AreOnce ss more → AreUses ss others more) → AreUses (s ∷ ss) words rows
    go (name, is, is_name, stands) rest =
        let o = once name is_name in
        let given = given_first name s ss is in
        let first = first_once name s.1 ss (subst IsOnce given o.0) in
        let free : has_row name rows ≡ false = free_by (has_row name rows) refl (λ h. sym given ∙ o.1 h) in
        let r = rest (rows ++ row name s.1 ∷ []) (AreOnce-tail name s.1 s ss rows is first.0 once) in (
          (name, s.1) ∷ r.0,
          r.1,
          ap (λ (t : Text). (t, s.1) ∷ ss) is ∙ ap (λ (l : List Setting). (dashed name, s.1) ∷ l) r.2,
          (others, free, stands, r.3),
          (first.1, r.4),
        )
      where
        free_by : (b : Bool) → has_row name rows ≡ b → (has_row name rows ≡ true → s.1 ∷ values_of (dashed name) ss ≡ []) → has_row name rows ≡ false
        free_by true has none = absurd (cc (none has))
        free_by false has none = has

-- ---- no fault

both_empty : (a b : Kinds) → a ≡ [] → b ≡ [] → or_else a b ≡ []
both_empty a b first second = rw first second

no_default_fault : (n : List ℕ) (rows : List Row) → default_fault rows (ready n) ≡ []
no_default_fault n rows = go (has_row n rows) refl
  where
    go : (b : Bool) → has_row n rows ≡ b → default_fault rows (ready n) ≡ []
    go true is = rw is refl
    go false is = rw is refl

no_defaults_fault : (ns : List (List ℕ)) (rows : List Row) → defaults_fault rows (rules ns) ≡ []
unfolding defaults_fault
no_defaults_fault [] rows = go (has_row flag_name rows) refl
  where
    go : (b : Bool) → has_row flag_name rows ≡ b → defaults_fault rows (rules []) ≡ []
    go true is = rw is refl
    go false is = rw is refl
no_defaults_fault (n ∷ ns) rows = both_empty (default_fault rows (ready n)) (defaults_fault (with_default rows (ready n)) (rules ns)) (no_default_fault n rows) (no_defaults_fault ns (with_default rows (ready n)))

nothing_below : (stop : Option (Text × List Text)) → entered_fault (built serve_app) stop ≡ []
nothing_below None = refl
nothing_below (Some p) = refl

no_check_fault : (rows : List Row) (b : Bool) → check_fault (shape option_names) rows b ≡ []
no_check_fault rows true = refl
no_check_fault rows false = refl

pub no_fault_of : (words : List Text) → Passes option_names (at (hold [] None) idle) words → fault_of serve_app words ≡ []
no_fault_of words (faults, ends) =
    both_empty _ _ faults (both_empty _ _ (nothing_below _) (both_empty _ _ ends (both_empty _ _ (no_defaults_fault option_names _) (no_check_fault (matches_of serve_app words) (is_some (entered (built serve_app) (walk (built serve_app).top.rules (names_of (built serve_app)) nothing_held (argument_words serve_app words)).stopped))))))

-- options that are given once at most have no fault
pub taken_words : (settings : List Setting) (words : List Text) → AreSettings settings words → AreOnce settings [] → fault_of serve_app words ≡ []
taken_words settings words are once =
    let u = are_uses settings words [] are once in
    let t = taken option_names not_flag are_spelled u.0 u.4 words [] u.1 None refl u.3 in
    no_fault_of words t.0

-- no `--` stands among options
pub no_dashes_in : (ss : Pairs) (words : List Text) (rows end : List Row) → Uses option_names ss words rows end → ArePlain ss → list_any is_dashes words ≡ false
no_dashes_in [] words rows end (none, same) plain = rw none refl
no_dashes_in (s ∷ ss) words rows end (others, free, stands, uses) plain = go stands (no_dashes_in ss others (rows ++ row s.0 s.1 ∷ []) end uses plain.1)
  where
    go : Stands option_names s words others → list_any is_dashes others ≡ false → list_any is_dashes words ≡ false
    go (inl (among, inl is)) rest = let one = (are_spelled s.0 among).no_end in let two = plain.0.dashes in rw is (rw (one, two) rest)
    go (inl (among, inr is)) rest = let one = (are_spelled s.0 among).no_end_valued s.1 in rw is (rw one rest)
    go (inr (same, none, is)) rest = let words_are : words ≡ dashed flag_name ∷ others = is ∙ ap (λ (t : Text). dashed t ∷ others) same in rw words_are rest
