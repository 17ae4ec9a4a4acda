-- What is found wrong with words, step by step.
use Rattle.std.proofs.Common.{◌≡◌, ℕ, ◌+◌, ◌<◌, ◌≤◌, Bool, true, false, if◌then◌else◌, List, [], ◌∷◌, ◌++◌, Option, None, Some, is_some, length, map, codes, refl, sym, ap, subst, ◌∙◌, inl, inr, arith, append-nil, below_more, take}
use Rattle.std.specs.Prelude.{◌⊎◌, ⊤, ◌==◌, IfNone, IfSome}
use Rattle.std.specs.List.{join_with_byte}
use Rattle.std.specs.Str.{bytes_eq}
use Rattle.std.proofs.lemmas.Slice.Eq.{bytes_eq-Decides}
use Rattle.bmp_specs.specs.PrefixText.{IsPrefixText}
use Rattle.bmp_specs.specs.Values.{PrefixValue}
use Rattle.station_words.specs.declared.drill_words.DrillWords.{DrillWords}
use Rattle.station_words.specs.declared.words.Command.TheVariants.{Check, Drill, Relay, Serve, Rov, Archive, Help, Version}
use Rattle.station_words.specs.Complaints.{AreCall, AreFrontWords, AreLanes, AreServe, AreMessages, AreSound, IsBeginning, IsBestBeginning, IsSeed, IsTextName, JoinWords, JoinsWords, IsValueOf, Complains, FrontComplains, Follow, IsGiven, Knows, ServeComplains, StandInFront, StandSound, Tells, is_seen, name_of}
use Rattle.station_words.specs.ServeWords.{Setting, AreSettings, Gives, IsInFront, MayGive, flag_alone, one_word, two_words, values_of}
use Rattle.bmp_specs.specs.Query.{space}
use Rattle.ask_specs.specs.Asking.{AskValue}
use Rattle.station_words.specs.Words.{IsAsking, IsPlain}
use Rattle.station_words.specs.declared.complaint.Complaint.{Complaint}
use Rattle.station_words.specs.declared.complaint.Complaint.TheVariants.{NoWords, NoCommand, NoQuery, Quit, Needs, Extra, NotA, NoOption, NoValue, Twice, HasValue, BadValue, PastEnd, Meet}
use Rattle.station_words.specs.declared.serve_options.ServeOption.{ServeOption}
use Rattle.station_words.specs.declared.serve_options.ServeOption.TheVariants.{Feeds, Askers, FeedPort, AskPort, Rounds, Address, AskAddress, Ports, Idle, AskIdle, Log as LogOption, FeedFrom, AskFrom, Lenient}
use Rattle.station_words.proofs.Readings.{some_words}
use Rattle.station_words.proofs.ComplaintLaws.{values_behind, values_first}

pub some_of : {A : Type 0} (r : Option A) (P : A → Type 0) → is_some r ≡ true → IfSome r (λ x. P x) → (x : A) × P x
some_of None P some is = absurd (cc some)
some_of (Some x) P some is = (x, is)

pub none_of : {A : Type 0} (r : Option A) (P : A → Type 0) → is_some r ≡ false → IfNone r ((x : A) → P x → ⊥) → (x : A) × P x → ⊥
none_of None P empty none (x, is) = none x is
none_of (Some y) P empty none has = absurd (cc empty)

-- the words follow the command, where they are what is left of those given
pub follows : (name : List ℕ) (lenient : Bool) (given plain words : List (List ℕ)) → IsPlain lenient given plain → plain ≡ words → Follow name words (name ∷ given)
follows name lenient given plain words is same = (lenient, given, refl, subst (λ (l : List (List ℕ)). IsPlain lenient given l) same is)

-- no words have no texts
pub no_texts : {X : Type 0} (text : X → List ℕ) (words : List X) → true ≡ (length words == 0) → map text words ≡ []
no_texts text [] none = refl
no_texts text (word ∷ words) none = absurd (some_words word words none)

-- as many words as before are still the most, where one more of them are no beginning
pub still_best : (asked : List (List ℕ)) (good count : ℕ) → IsBestBeginning good count asked → (IsBeginning count asked → ⊥) → IsBestBeginning good (count + 1) asked
still_best asked good count (is, none) here = (is, below_more (λ (k : ℕ). good < k → IsBeginning k asked → ⊥) count none (λ above. here))

-- words that neither stand in front of a query alone nor ask something are no beginning
pub none_begins : (count : ℕ) (asked : List (List ℕ)) → (AreFrontWords (take count asked) → ⊥) → ((ask : AskValue) → IsAsking (join_with_byte space (take count asked)) ask → ⊥) → IsBeginning count asked → ⊥
none_begins count asked no_front no_ask (inl front) = no_front front
none_begins count asked no_front no_ask (inr (ask, is)) = no_ask ask is

-- one setting more in front
pub stand_more : (ss : List Setting) (s : Setting) (given words left : List (List ℕ)) → StandInFront ss given words → IsInFront s words left → StandInFront (ss ++ s ∷ []) given left
stand_more [] s given words left same front = (left, subst (λ (l : List (List ℕ)). IsInFront s l left) (sym same) front, refl)
stand_more (t ∷ ts) s given words left (others, first, stand) front = (others, first, stand_more ts s others words left stand front)

-- where no words are left, they are all of the words
pub stand_all : (ss : List Setting) (words left : List (List ℕ)) → StandInFront ss words left → left ≡ [] → AreSettings ss words
stand_all [] words left same none = same ∙ none
stand_all (s ∷ ss) words left (others, front, rest) none = (others, front, stand_all ss others left rest none)

-- each takes a word at least
takes_word : (s : Setting) (words others : List (List ℕ)) → IsInFront s words others → length others < length words
takes_word s words others (flag_alone is e) = omega (arith, ap length e)
takes_word s words others (two_words o e) = omega (arith, ap length e)
takes_word s words others (one_word o e) = omega (arith, ap length e)

pub takes_words : (ss : List Setting) (words left : List (List ℕ)) → StandInFront ss words left → length left + length ss ≤ length words
takes_words [] words left same = omega (arith, ap length same)
takes_words (s ∷ ss) words left (others, front, rest) = omega (arith, takes_word s words others front, takes_words ss others left rest)

pub none_left : (left : List (List ℕ)) → length left ≤ 0 → left ≡ []
none_left [] none = refl
none_left (word ∷ left) none = absurd (omega (arith, none))

-- ---- which options are given

-- the option of a name
abbrev by_name : List ℕ → ServeOption
by_name name = if bytes_eq name (codes "--feeds") then Feeds else (if bytes_eq name (codes "--askers") then Askers else (if bytes_eq name (codes "--feed-port") then FeedPort else (if bytes_eq name (codes "--ask-port") then AskPort else (if bytes_eq name (codes "--rounds") then Rounds else (if bytes_eq name (codes "--address") then Address else (if bytes_eq name (codes "--ask-address") then AskAddress else (if bytes_eq name (codes "--ports") then Ports else (if bytes_eq name (codes "--idle") then Idle else (if bytes_eq name (codes "--ask-idle") then AskIdle else (if bytes_eq name (codes "--log") then LogOption else (if bytes_eq name (codes "--feed-from") then FeedFrom else (if bytes_eq name (codes "--ask-from") then AskFrom else Lenient))))))))))))

by_its_name : (option : ServeOption) → by_name (name_of option) ≡ option
by_its_name Feeds = refl
by_its_name Askers = refl
by_its_name FeedPort = refl
by_its_name AskPort = refl
by_its_name Rounds = refl
by_its_name Address = refl
by_its_name AskAddress = refl
by_its_name Ports = refl
by_its_name Idle = refl
by_its_name AskIdle = refl
by_its_name LogOption = refl
by_its_name FeedFrom = refl
by_its_name AskFrom = refl
by_its_name Lenient = refl

-- no two options have one name
pub same_option : (a b : ServeOption) → name_of a ≡ name_of b → a ≡ b
same_option a b same = sym (by_its_name a) ∙ ap by_name same ∙ by_its_name b

pub other_values : (option other : ServeOption) (value : List ℕ) → (option ≡ other → ⊥) → values_of (name_of other) ((name_of option, value) ∷ []) ≡ []
other_values option other value apart = go (bytes_eq (name_of option) (name_of other)) refl
  where
    go : (b : Bool) → bytes_eq (name_of option) (name_of other) ≡ b → values_of (name_of other) ((name_of option, value) ∷ []) ≡ []
    go true e = absurd (apart (same_option option other ((bytes_eq-Decides (name_of option) (name_of other)).0 e)))
    go false e = rw e refl

told_sound : (b : Bool) (option : ServeOption) (ss : List Setting) → Tells b option ss → MayGive (name_of option) (λ value. IsValueOf option value) ⊤ ss
told_sound true option ss gives = inl gives
told_sound false option ss none = inr (none, tt)

told_given : (b : Bool) (option : ServeOption) (ss : List Setting) → Tells b option ss → b ≡ true → IsGiven (name_of option) ss
told_given true option ss (value, once, is) is_true = (value, [], once)
told_given false option ss none is_true = absurd (cc is_true)

told_once : (b : Bool) (option : ServeOption) (ss : List Setting) → Tells b option ss → b ≡ true → Gives (name_of option) (λ value. IsValueOf option value) ss
told_once true option ss gives is_true = gives
told_once false option ss none is_true = absurd (cc is_true)

told_none : (b : Bool) (option : ServeOption) (ss : List Setting) → Tells b option ss → b ≡ false → values_of (name_of option) ss ≡ []
told_none true option ss gives is_false = absurd (cc is_false)
told_none false option ss none is_false = none

-- what is known of the settings in front
module _ (seen : List Bool) (ss : List Setting) (knows : Knows seen ss) where
  pub known_sound : AreSound ss
  known_sound = λ option. told_sound (is_seen seen option) option ss (knows option)

  pub known_given : (option : ServeOption) → is_seen seen option ≡ true → IsGiven (name_of option) ss
  known_given option is_true = told_given (is_seen seen option) option ss (knows option) is_true

  pub known_none : (option : ServeOption) → is_seen seen option ≡ false → values_of (name_of option) ss ≡ []
  known_none option is_false = told_none (is_seen seen option) option ss (knows option) is_false

pub knows_nothing : (seen : List Bool) → ((option : ServeOption) → is_seen seen option ≡ false) → Knows seen []
knows_nothing seen none = λ option. subst (λ (b : Bool). Tells b option []) (sym (none option)) refl

-- the setting behind these is one that wasn't seen, and has a value of its form
module _ (old new : List Bool) (ss : List Setting) (option : ServeOption) (value : List ℕ) (knows : Knows old ss) (fresh : is_seen old option ≡ false) (is : IsValueOf option value) (there : is_seen new option ≡ true) (kept : (other : ServeOption) → is_seen old other ≡ true → is_seen new other ≡ true) (only : (other : ServeOption) → is_seen new other ≡ true → (is_seen old other ≡ true) ⊎ (other ≡ option)) where
  -- what the settings in front give for an option, and what the one behind them gives
  both_values : (other : ServeOption) → values_of (name_of other) (ss ++ (name_of option, value) ∷ []) ≡ values_of (name_of other) ss ++ values_of (name_of other) ((name_of option, value) ∷ [])
  both_values other = values_behind (name_of other) ss ((name_of option, value) ∷ [])

  same_values : (other : ServeOption) → (option ≡ other → ⊥) → values_of (name_of other) (ss ++ (name_of option, value) ∷ []) ≡ values_of (name_of other) ss
  same_values other apart = both_values other ∙ ap (λ (l : List (List ℕ)). values_of (name_of other) ss ++ l) (other_values option other value apart) ∙ append-nil (values_of (name_of other) ss)

  new_value : values_of (name_of option) (ss ++ (name_of option, value) ∷ []) ≡ value ∷ []
  new_value = both_values option ∙ ap (λ (l : List (List ℕ)). l ++ values_of (name_of option) ((name_of option, value) ∷ [])) (told_none (is_seen old option) option ss (knows option) fresh) ∙ values_first (name_of option) value []

  seen_before : (other : ServeOption) → is_seen old other ≡ true → option ≡ other → ⊥
  seen_before other before same = let h : false ≡ true = sym fresh ∙ ap (λ (o : ServeOption). is_seen old o) same ∙ before in cc h

  told_seen : (other : ServeOption) → (is_seen old other ≡ true) ⊎ (other ≡ option) → Gives (name_of other) (λ v. IsValueOf other v) (ss ++ (name_of option, value) ∷ [])
  told_seen other (inl before) =
      let gives = told_once (is_seen old other) other ss (knows other) before in
      (gives.0, same_values other (seen_before other before) ∙ gives.1, gives.2)
  told_seen other (inr same) = subst (λ (o : ServeOption). Gives (name_of o) (λ v. IsValueOf o v) (ss ++ (name_of option, value) ∷ [])) (sym same) (value, new_value, is)

  told_unseen : (other : ServeOption) → is_seen new other ≡ false → values_of (name_of other) (ss ++ (name_of option, value) ∷ []) ≡ []
  told_unseen other is_false = same_values other apart ∙ go (is_seen old other) refl
    where
      apart : option ≡ other → ⊥
      apart same = let h : true ≡ false = sym there ∙ ap (λ (o : ServeOption). is_seen new o) same ∙ is_false in cc h

      go : (b : Bool) → is_seen old other ≡ b → values_of (name_of other) ss ≡ []
      go true e = let h : true ≡ false = sym (kept other e) ∙ is_false in absurd (cc h)
      go false e = told_none (is_seen old other) other ss (knows other) e

  pub knows_more : Knows new (ss ++ (name_of option, value) ∷ [])
  knows_more = λ other. go other (is_seen new other) refl
    where
      go : (other : ServeOption) (b : Bool) → is_seen new other ≡ b → Tells (is_seen new other) other (ss ++ (name_of option, value) ∷ [])
      go other true e = subst (λ (b : Bool). Tells b other (ss ++ (name_of option, value) ∷ [])) (sym e) (told_seen other (only other e))
      go other false e = subst (λ (b : Bool). Tells b other (ss ++ (name_of option, value) ∷ [])) (sym e) (told_unseen other e)

-- what is wrong with the front is wrong with all
pub front_complains : (complaint : Complaint) (ss : List Setting) (given : List (List ℕ)) (word : List ℕ) (more : List (List ℕ)) → FrontComplains complaint word more → StandSound ss given (word ∷ more) → ServeComplains complaint given
front_complains (NoOption named) ss given word more (same, none) stand = (ss, more, subst (λ (w : List ℕ). StandSound ss given (w ∷ more)) (sym same) stand, λ begun. none (subst Rattle.station_words.specs.Complaints.BeginsSetting same begun))
front_complains (HasValue named) ss given word more (same, (value, is)) stand = (ss, more, subst (λ (w : List ℕ). StandSound ss given (w ∷ more)) (sym same) stand, (value, same ∙ is))
front_complains (NoValue option) ss given word more (same, is, lacks) stand = (ss, more, subst (λ (w : List ℕ). StandSound ss given (w ∷ more)) same stand, is, lacks)
front_complains NoWords ss given word more none stand = absurd none
front_complains (NoCommand w) ss given word more none stand = absurd none
front_complains (NoQuery asked good) ss given word more none stand = absurd none
front_complains Quit ss given word more none stand = absurd none
front_complains (Needs command needs) ss given word more none stand = absurd none
front_complains (Extra command w) ss given word more none stand = absurd none
front_complains (NotA w wanted) ss given word more none stand = absurd none
front_complains (Twice option) ss given word more none stand = absurd none
front_complains (BadValue option value) ss given word more none stand = absurd none
front_complains (PastEnd option first count) ss given word more none stand = absurd none
front_complains (Meet feed feeds ask askers) ss given word more none stand = absurd none

-- what is wrong after `serve` is wrong with the words
serve_complains : (complaint : Complaint) (given : List (List ℕ)) → ServeComplains complaint given → Complains complaint (codes "serve" ∷ given)
serve_complains (NoOption word) given is = (given, refl, is)
serve_complains (HasValue word) given is = (given, refl, is)
serve_complains (NoValue option) given is = (given, refl, is)
serve_complains (Twice option) given is = (given, refl, is)
serve_complains (BadValue option value) given is = (given, refl, is)
serve_complains (PastEnd option first count) given is = (given, refl, is)
serve_complains (Meet feed feeds ask askers) given is = (given, refl, is)
serve_complains NoWords given none = absurd none
serve_complains (NoCommand word) given none = absurd none
serve_complains (NoQuery asked good) given none = absurd none
serve_complains Quit given none = absurd none
serve_complains (Needs command needs) given none = absurd none
serve_complains (Extra command word) given none = absurd none
serve_complains (NotA word wanted) given none = absurd none

pub serve_found : (found : Option Complaint) (given : List (List ℕ)) → IfSome found (λ complaint. ServeComplains complaint given) → IfSome found (λ complaint. Complains complaint (codes "serve" ∷ given))
serve_found None given is = tt
serve_found (Some complaint) given is = serve_complains complaint given is

-- the words begin so, whoever says it
pub at_first : (found : Option Complaint) (first name : List ℕ) (given : List (List ℕ)) → first ≡ name → IfSome found (λ complaint. Complains complaint (name ∷ given)) → IfSome found (λ complaint. Complains complaint (first ∷ given))
at_first found first name given is complains = subst (λ (l : List ℕ). IfSome found (λ complaint. Complains complaint (l ∷ given))) (sym is) complains

pub at_words : (found : Option Complaint) (words more : List (List ℕ)) → words ≡ more → IfSome found (λ complaint. Complains complaint more) → IfSome found (λ complaint. Complains complaint words)
at_words found words more is complains = subst (λ (l : List (List ℕ)). IfSome found (λ complaint. Complains complaint l)) (sym is) complains

-- ---- words in which nothing is wrong

pub called_check : (lenient : Bool) (given plain : List (List ℕ)) → IsPlain lenient given plain → plain ≡ [] → AreCall (codes "check" ∷ given)
called_check lenient given plain is none = (record { command = Check; lenient = lenient }, record { first = codes "check"; given = given; spelled = refl; is_command = (refl, subst (λ (l : List (List ℕ)). IsPlain lenient given l) none is) })

pub called_relay : (lenient : Bool) (given plain : List (List ℕ)) → IsPlain lenient given plain → plain ≡ [] → AreCall (codes "relay" ∷ given)
called_relay lenient given plain is none = (record { command = Relay; lenient = lenient }, record { first = codes "relay"; given = given; spelled = refl; is_command = (refl, subst (λ (l : List (List ℕ)). IsPlain lenient given l) none is) })

pub called_archive : (lenient : Bool) (given plain : List (List ℕ)) (file : List ℕ) → IsPlain lenient given plain → plain ≡ file ∷ [] → AreCall (codes "archive" ∷ given)
called_archive lenient given plain file is one = (record { command = Archive; lenient = lenient }, record { first = codes "archive"; given = given; spelled = refl; is_command = (refl, (file, subst (λ (l : List (List ℕ)). IsPlain lenient given l) one is)) })

pub called_rov : (lenient : Bool) (given plain : List (List ℕ)) (file text : List ℕ) (prefix : PrefixValue) → IsPlain lenient given plain → plain ≡ file ∷ text ∷ [] → IsPrefixText text prefix → AreCall (codes "rov" ∷ given)
called_rov lenient given plain file text prefix is two is_prefix = (record { command = Rov prefix; lenient = lenient }, record { first = codes "rov"; given = given; spelled = refl; is_command = (refl, (file, (plain, is, record { text = text; spelled = two; is_prefix = is_prefix }))) })

pub called_drill : (given : List (List ℕ)) (seed lanes messages : List ℕ) → given ≡ seed ∷ lanes ∷ messages ∷ [] → IsSeed seed → AreLanes lanes → AreMessages messages → AreCall (codes "drill" ∷ given)
called_drill given seed lanes messages three (s, is_s, _, _) (l, is_l, least_l, most_l) (m, is_m, least_m, most_m) =
    let drill : DrillWords = record { seed = s; lanes = l; messages = m } in (
      record { command = Drill drill; lenient = false },
      record {
        first = codes "drill";
        given = given;
        spelled = refl;
        is_command = (refl, record { seed = seed; lanes = lanes; messages = messages; spelled = three; is_seed = is_s; is_lanes = is_l; is_messages = is_m; may_drill = record { lanes = (least_l, most_l); messages = (least_m, most_m) } }, refl);
      },
    )

pub called_text : (command : List ℕ) (given : List (List ℕ)) → IsTextName command → given ≡ [] → AreCall (command ∷ given)
called_text command given (inl help) none = (record { command = Help; lenient = false }, record { first = command; given = given; spelled = refl; is_command = (help, none, refl) })
called_text command given (inr version) none = (record { command = Version; lenient = false }, record { first = command; given = given; spelled = refl; is_command = (version, none, refl) })

-- the words begin so, whoever says it
pub no_reason_at : (first name : List ℕ) (given : List (List ℕ)) {E : Type 0} (found : Option E) → first ≡ name → IfNone found (AreCall (name ∷ given)) → IfNone found (AreCall (first ∷ given) ⊎ JoinsWords first)
no_reason_at first name given None is call = inl (subst (λ (l : List ℕ). AreCall (l ∷ given)) (sym is) call)
no_reason_at first name given (Some x) is call = tt

pub joins_at : (first : List ℕ) (given : List (List ℕ)) {E : Type 0} (found : Option E) → JoinsWords first → IfNone found (AreCall (first ∷ given) ⊎ JoinsWords first)
joins_at first given None joins = inr joins
joins_at first given (Some x) joins = tt

pub no_reason : (words : List (List ℕ)) (first : List ℕ) (given : List (List ℕ)) {E : Type 0} (found : Option E) → words ≡ first ∷ given → IfNone found (AreCall (first ∷ given) ⊎ JoinsWords first) → IfNone found (AreCall words ⊎ JoinWords words)
no_reason words first given None split (inl call) = inl (subst AreCall (sym split) call)
no_reason words first given None split (inr joins) = inr (first, given, split, joins)
no_reason words first given (Some x) split none = tt

-- what follows where nothing is found
pub none_then : {E : Type 0} (found : Option E) (A B : Type 0) → (A → B) → IfNone found A → IfNone found B
none_then None A B leads is = leads is
none_then (Some x) A B leads is = tt

-- words of `serve` are a call
pub served_call : (given : List (List ℕ)) → AreServe given → AreCall (codes "serve" ∷ given)
served_call given (serve, lenient, is) = (record { command = Serve serve; lenient = lenient }, record { first = codes "serve"; given = given; spelled = refl; is_command = (refl, is) })
