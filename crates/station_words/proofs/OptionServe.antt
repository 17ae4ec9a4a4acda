-- What a parse of the words tells of a call of `serve`.
use Rattle.std.proofs.Common.{◌≡◌, ◌≢◌, ℕ, Bool, true, false, List, [], ◌∷◌, Option, None, Some, map, codes, refl, sym, ap, subst, ◌∙◌, inl, inr, arith, lit<}
use Rattle.std.specs.Prelude.{◌||◌}
use Rattle.std.specs.List.{list_any}
use Rattle.std.proofs.lemmas.List.Elements.{All-from_get_or}
use Rattle.bmp_specs.specs.declared.wire.Family.{Family}
use Rattle.bmp_specs.specs.declared.wire.Family.TheVariants.{V4, V6}
use Rattle.bmp_specs.specs.AddressText.{IsTextIn}
use Rattle.bmp_specs.specs.NumberText.{IsNumberText, most_number}
use Rattle.bmp_specs.specs.Values.{PrefixValue}
use Rattle.ip_prefix.proofs.Decimals.{all_digits}
use Rattle.ip_prefix.proofs.V4Text.{v4_to, v4_lacks}
use Rattle.ip_prefix.proofs.V6Text.{v6_lacks}
use Rattle.clap.proofs.WalkLemmas.{first_value-rows}
use Rattle.clap.specs.Walk.{Text, first_of, rows_of}
use Rattle.clap.specs.Matches.{first_value, found_of}
use Rattle.clap.specs.Kinds.{HasKind, Kinds}
use Rattle.clap.specs.Values.{kind_of}
use Rattle.clap.specs.declared.error.Error.{Error}
use Rattle.clap.specs.declared.error.kind.ErrorKind.TheVariants.{OutOfMemory}
use Rattle.clap.specs.Simple.{App, matches_of}
use Rattle.clap.specs.Faults.{fault_of}
use Rattle.clap.specs.declared.parser.matches.ArgMatches.{ArgMatches}
use Rattle.station_doors.specs.declared.listening.Log.{Log}
use Rattle.station_doors.specs.declared.listening.Log.TheVariants.{None as NoConnections, Routers, Clients}
use Rattle.station_words.specs.ServeOptions.{AreMatches, IsTold, dashed, is_dashes, option_names, serve_app}
use Rattle.station_words.specs.ServeWords.{Gives, IsAllowed, IsLog, IsPorts, IsRounds, IsSeconds, IsServe, MayGive, Setting, flag, values_of}
use Rattle.station_words.specs.declared.serve_words.ServeWords.{ServeWords}
use Rattle.station_words.proofs.OptionWalk.{IsAmongNames, IsPlainValue}
use Rattle.station_words.proofs.OptionMatches.{are_told}
use Rattle.station_words.proofs.OptionTaken.{AreOnce, IsName, IsOnce, are_uses, no_dashes_in, no_hyphen, taken_words}
use Rattle.station_words.proofs.AllowedText.{allowed_lacks}
use Rattle.station_words.proofs.Settings.{Never, Once, flag_empty}

pub plain_number : (text : List ℕ) (n : ℕ) → IsNumberText text n → IsPlainValue text
plain_number text n is = no_hyphen text (All-from_get_or (λ b. b ≢ 45) text 0 (λ k h same. let at = all_digits most_number text n (lit< tt) is k h in omega (arith, at.0, same)))

pub plain_text_in : (family : Family) (text octets : List ℕ) → IsTextIn family text octets → IsPlainValue text
plain_text_in V4 text octets (numbers, is, _) = no_hyphen text (v4_lacks 45 (omega arith) (λ e. omega (arith, e)) text numbers (v4_to text numbers is))
plain_text_in V6 text octets (groups, is, _) = no_hyphen text (v6_lacks 45 (omega arith) (λ e. omega (arith, e)) text groups is)

pub plain_rounds : (value : List ℕ) (n : ℕ) → IsRounds value n → IsPlainValue value
plain_rounds value n (inl is) = plain_number value n is.0
plain_rounds value n (inr is) = subst IsPlainValue (sym is.0) (record { dashes = refl; long = refl; short = refl })

pub plain_ports : (value : List ℕ) (b : Bool) → IsPorts value b → IsPlainValue value
plain_ports value true is = subst IsPlainValue (sym is) (record { dashes = refl; long = refl; short = refl })
plain_ports value false is = subst IsPlainValue (sym is) (record { dashes = refl; long = refl; short = refl })

pub plain_seconds : (value : List ℕ) (t : Option ℕ) → IsSeconds value t → IsPlainValue value
plain_seconds value None is = absurd is
plain_seconds value (Some n) is = plain_number value n is.0

pub plain_log : (value : List ℕ) (log : Log) → IsLog value log → IsPlainValue value
plain_log value NoConnections is = subst IsPlainValue (sym is) (record { dashes = refl; long = refl; short = refl })
plain_log value Routers is = subst IsPlainValue (sym is) (record { dashes = refl; long = refl; short = refl })
plain_log value Clients is = subst IsPlainValue (sym is) (record { dashes = refl; long = refl; short = refl })

pub plain_allowed : (value : List ℕ) (allowed : List PrefixValue) → IsAllowed value allowed → IsPlainValue value
plain_allowed value allowed is = no_hyphen value (allowed_lacks 45 (omega arith) (λ e. omega (arith, e)) (λ e. omega (arith, e)) (λ e. omega (arith, e)) (omega arith) (λ e. omega (arith, e)) value allowed is)

once_given : (name : List ℕ) (settings : List Setting) (Is : List ℕ → Type 0) → ((value : List ℕ) → Is value → IsPlainValue value) → Gives name Is settings → IsOnce (values_of name settings)
once_given name settings Is plain (value, once, is) = inr (value, once, plain value is)

once_may : (name : List ℕ) (settings : List Setting) (Is : List ℕ → Type 0) (Else : Type 0) → ((value : List ℕ) → Is value → IsPlainValue value) → MayGive name Is Else settings → IsOnce (values_of name settings)
once_may name settings Is Else plain (inl gives) = once_given name settings Is plain gives
once_may name settings Is Else plain (inr (none, holds)) = inl none

module _ (serve : ServeWords) (lenient : Bool) (words : List (List ℕ)) (is : IsServe serve lenient words) where
  serve_once : (name : Text) → IsAmongNames name option_names → IsOnce (values_of (dashed name) is.settings)
  serve_once name (inl (e)) = subst (λ (t : Text). IsOnce (values_of (dashed t) is.settings)) e (once_may (codes "--feeds") is.settings _ _ (λ v h. plain_number v _ h) is.feeds)
  serve_once name (inr (inl (e))) = subst (λ (t : Text). IsOnce (values_of (dashed t) is.settings)) e (once_may (codes "--askers") is.settings _ _ (λ v h. plain_number v _ h) is.askers)
  serve_once name (inr (inr (inl (e)))) = subst (λ (t : Text). IsOnce (values_of (dashed t) is.settings)) e (once_may (codes "--feed-port") is.settings _ _ (λ v h. plain_number v _ h) is.feed_port)
  serve_once name (inr (inr (inr (inl (e))))) = subst (λ (t : Text). IsOnce (values_of (dashed t) is.settings)) e (once_may (codes "--ask-port") is.settings _ _ (λ v h. plain_number v _ h) is.ask_port)
  serve_once name (inr (inr (inr (inr (inl (e)))))) = subst (λ (t : Text). IsOnce (values_of (dashed t) is.settings)) e (once_may (codes "--rounds") is.settings _ _ (λ v h. plain_rounds v _ h) is.rounds)
  serve_once name (inr (inr (inr (inr (inr (inl (e))))))) = subst (λ (t : Text). IsOnce (values_of (dashed t) is.settings)) e (once_may (codes "--address") is.settings _ _ (λ v h. plain_text_in serve.at.address.family v serve.at.address.octets h) is.address)
  serve_once name (inr (inr (inr (inr (inr (inr (inl (e)))))))) = subst (λ (t : Text). IsOnce (values_of (dashed t) is.settings)) e (once_may (codes "--ports") is.settings _ _ (λ v h. plain_ports v _ h) is.ports)
  serve_once name (inr (inr (inr (inr (inr (inr (inr (inl (e))))))))) = subst (λ (t : Text). IsOnce (values_of (dashed t) is.settings)) e (once_may (codes "--idle") is.settings _ _ (λ v h. plain_seconds v _ h) is.idle)
  serve_once name (inr (inr (inr (inr (inr (inr (inr (inr (inl (e)))))))))) = subst (λ (t : Text). IsOnce (values_of (dashed t) is.settings)) e (once_may (codes "--ask-idle") is.settings _ _ (λ v h. plain_seconds v _ h) is.ask_idle)
  serve_once name (inr (inr (inr (inr (inr (inr (inr (inr (inr (inl (e))))))))))) = subst (λ (t : Text). IsOnce (values_of (dashed t) is.settings)) e (once_may (codes "--ask-address") is.settings _ _ (λ v h. plain_text_in serve.at.ask_address.family v serve.at.ask_address.octets h) is.ask_address)
  serve_once name (inr (inr (inr (inr (inr (inr (inr (inr (inr (inr (inl (e)))))))))))) = subst (λ (t : Text). IsOnce (values_of (dashed t) is.settings)) e (once_may (codes "--log") is.settings _ _ (λ v h. plain_log v _ h) is.log)
  serve_once name (inr (inr (inr (inr (inr (inr (inr (inr (inr (inr (inr (inl (e))))))))))))) = subst (λ (t : Text). IsOnce (values_of (dashed t) is.settings)) e (once_may (codes "--feed-from") is.settings _ _ (λ v h. plain_allowed v _ h) is.feed_from)
  serve_once name (inr (inr (inr (inr (inr (inr (inr (inr (inr (inr (inr (inr (inl (e)))))))))))))) = subst (λ (t : Text). IsOnce (values_of (dashed t) is.settings)) e (once_may (codes "--ask-from") is.settings _ _ (λ v h. plain_allowed v _ h) is.ask_from)
  serve_once name (inr (inr (inr (inr (inr (inr (inr (inr (inr (inr (inr (inr (inr (none)))))))))))))) = elim none [ ]

  flag_is_once : MayGive flag (λ value. lenient ≡ true) (lenient ≡ false) is.settings → IsOnce (values_of flag is.settings)
  flag_is_once (inl (value, once, so)) = inr (value, once, subst IsPlainValue (sym (flag_empty is.settings words value [] is.are_settings once)) (record { dashes = refl; long = refl; short = refl }))
  flag_is_once (inr (none, so)) = inl none

  pub name_once : (name : Text) → IsName name → IsOnce (values_of (dashed name) is.settings)
  name_once name (inl among) = serve_once name among
  name_once name (inr same) = subst (λ (t : Text). IsOnce (values_of (dashed t) is.settings)) (sym same) (flag_is_once is.flagged)

  are_once : AreOnce is.settings []
  are_once = λ name is_name. (name_once name is_name, λ has. absurd (cc has))

  -- words of `serve` have no fault
  pub serve_passes : fault_of serve_app words ≡ []
  serve_passes = taken_words is.settings words is.are_settings are_once

  pub serve_plain : list_any is_dashes words ≡ false
  serve_plain =
      let u = are_uses is.settings words [] is.are_settings are_once in
      no_dashes_in u.0 words [] u.1 u.3 u.4

-- what a parse that succeeds gives
pub are_matches : (app : App) (words : List (List ℕ)) (m : ArgMatches) → app ≡ serve_app → list_any is_dashes words ≡ false → fault_of app words ≡ [] → rows_of (found_of m) ≡ matches_of app words → AreMatches words m
are_matches app words m same plain none rows =
    let t = are_told words plain (ap (λ (a : App). fault_of a words) (sym same) ∙ none) in
    let found = rows ∙ ap (λ (a : App). matches_of a words) same in
    record {
      settings = t.settings;
      are_settings = t.are_settings;
      told = λ name. subst (IsTold (values_of (dashed name) t.settings)) (sym (first_value-rows (found_of m) name ∙ ap (first_of name) found)) (t.told name);
    }

pub told_once : (words : List (List ℕ)) (m : ArgMatches) (name value : List ℕ) → AreMatches words m → first_value (found_of m) name ≡ Some value → Once (dashed name) value words
told_once words m name value are is = (are.settings, are.are_settings, subst (IsTold (values_of (dashed name) are.settings)) is (are.told name))

pub told_never : (words : List (List ℕ)) (m : ArgMatches) (name : List ℕ) → AreMatches words m → first_value (found_of m) name ≡ None → Never (dashed name) words
told_never words m name are is = (are.settings, are.are_settings, subst (IsTold (values_of (dashed name) are.settings)) is (are.told name))

-- where there is no fault, an error is that memory ran out
pub by_memory : (kinds : Kinds) (e : Error) → kinds ≡ [] → HasKind kinds e → kind_of e ≡ OutOfMemory
by_memory kinds e none (inl memory) = memory
by_memory [] e none (inr among) = elim among [ ]
by_memory (k ∷ ks) e none (inr among) = absurd (cc none)

pub any_text : {X : Type 0} (text : X → List ℕ) (words : List X) → list_any is_dashes (map text words) ≡ list_any (λ word. is_dashes (text word)) words
any_text text [] = refl
any_text text (x ∷ xs) = ap (λ (b : Bool). is_dashes (text x) || b) (any_text text xs)
