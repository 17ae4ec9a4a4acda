-- A complaint is never about a command.
use Rattle.std.proofs.Common.{◌≡◌, ◌≢◌, ℕ, ◌+◌, Bool, true, false, List, [], ◌∷◌, ◌++◌, Option, None, Some, length, get_or, codes, refl, sym, ap, subst, ◌∙◌, inl, inr, arith}
use Rattle.std.specs.Prelude.{◌⊎◌, ◌==◌, IfSome}
use Rattle.std.specs.List.{join_with_byte, position}
use Rattle.std.specs.Str.{bytes_eq}
use Rattle.bmp_specs.specs.NumberText.{IsNumberText}
use Rattle.bmp_specs.specs.PrefixText.{IsPrefixText}
use Rattle.bmp_specs.specs.Query.{space}
use Rattle.ask_specs.specs.Asking.{AskValue}
use Rattle.bmp_specs.specs.Values.{PrefixValue}
use Rattle.ip_prefix.proofs.PrefixReading.{same_number}
use Rattle.station_words.specs.Complaints.{AreSound, BeginsSetting, Complains, ComplainsOfNoCall, Follow, HasExtra, IsCommandName, IsDashed, IsGiven, IsMisfit, IsValueOf, LacksValue, LacksWords, OpenAsks, OpenFeeds, ServeComplains, StandInFront, name_of, no_query, no_recalled as lacks_recalled, no_question, no_archive as lacks_archive, no_vrps, no_prefix as lacks_prefix, no_seed, no_lanes, no_messages, after_check, after_relay, after_file, after_prefix, after_numbers, after_text, for_prefix, for_seed, for_lanes, for_messages}
use Rattle.station_words.specs.DrillWords.{IsDrill}
use Rattle.station_words.specs.ServeWords.{Setting, ArePorts, AreSettings, IsInFront, IsOption, IsPorts, IsServe, MayGive, flag, flag_alone, one_word, ports_for, two_words, values_of}
use Rattle.station_words.specs.Words.{AsksOf, ChecksAreNoCall, IsAsking, IsCall, IsCommand, IsPlain, NamesFile}
use Rattle.station_words.specs.declared.complaint.Complaint.{Complaint}
use Rattle.station_words.specs.declared.complaint.Complaint.TheVariants.{NoWords, NoCommand, NoQuery, Quit, Needs, Extra, NotA, NoOption, NoValue, Twice, HasValue, BadValue, PastEnd, Meet}
use Rattle.station_words.specs.declared.drill_words.DrillWords.{DrillWords}
use Rattle.station_words.specs.declared.serve_options.ServeOption.{ServeOption}
use Rattle.station_words.specs.declared.serve_options.ServeOption.TheVariants.{Feeds, Askers, FeedPort, AskPort, Rounds, Address, AskAddress, Ports, Idle, AskIdle, Log as LogOption, FeedFrom, AskFrom, Lenient}
use Rattle.station_words.specs.declared.serve_words.ServeWords.{ServeWords}
use Rattle.station_words.specs.declared.words.Call.{Call}
use Rattle.station_words.specs.declared.words.Command.{Command}
use Rattle.station_words.specs.declared.words.Command.TheVariants.{Replay, Check, Serve, Drill, Relay, Rov, Archive, Recall, Help, Version}
use Rattle.station_words.proofs.EmptyLine.{no_line}
use Rattle.station_words.proofs.Commands.{asks_none, no_archive, no_asking, no_check, no_drill, no_help, no_judged, no_recall, no_recalled, no_relay, no_replay, no_rov, no_serve, no_version, same_plain}
use Rattle.station_words.proofs.OptionServe.{name_once}
use Rattle.station_words.proofs.OptionTaken.{IsOnce}
use Rattle.station_words.proofs.OptionWalk.{IsPlainValue}
use Rattle.station_words.proofs.Settings.{flag_empty, found_behind, holds_in, letters, no_flag, none_in, not_none, same_front, same_value, some_ports}
use Rattle.std.proofs.lemmas.Slice.Eq.{bytes_eq-Decides}

-- words that begin so are a call of that command alone
not_call : (words : List (List ℕ)) (first : List ℕ) (given : List (List ℕ)) → words ≡ first ∷ given → ((command : Command) (lenient : Bool) → IsCommand command lenient first given → ⊥) → (call : Call) → IsCall call words → ⊥
not_call words first given split none call is =
    let both : is.first ∷ is.given ≡ first ∷ given = sym is.spelled ∙ split in
    let same_first : is.first ≡ first = cc both in
    let same_given : is.given ≡ given = cc both in
    none call.command call.lenient (subst (λ (l : List (List ℕ)). IsCommand call.command call.lenient first l) same_given (subst (λ (l : List ℕ). IsCommand call.command call.lenient l is.given) same_first is.is_command))

-- a command begins with its name
command_named : (command : Command) (lenient : Bool) (first : List ℕ) (given : List (List ℕ)) → IsCommand command lenient first given → IsCommandName first
command_named (Replay ask) lenient first given is = inl (is.0)
command_named Check lenient first given is = inr (inl (is.0))
command_named (Serve words) lenient first given is = inr (inr (inl (is.0)))
command_named (Drill words) lenient first given is = inr (inr (inr (inl (is.0))))
command_named Relay lenient first given is = inr (inr (inr (inr (inl (is.0)))))
command_named (Rov prefix) lenient first given is = inr (inr (inr (inr (inr (inl (is.0))))))
command_named Archive lenient first given is = inr (inr (inr (inr (inr (inr (inl (is.0)))))))
command_named (Recall ask) lenient first given is = inr (inr (inr (inr (inr (inr (inr (inl (is.0))))))))
command_named Help lenient first given is = elim is.0 [
  | inl long ↦ inr (inr (inr (inr (inr (inr (inr (inr (inl (long)))))))))
  | inr short ↦ inr (inr (inr (inr (inr (inr (inr (inr (inr (inl (short))))))))))
]
command_named Version lenient first given is = elim is.0 [
  | inl long ↦ inr (inr (inr (inr (inr (inr (inr (inr (inr (inr (inl (long)))))))))))
  | inr short ↦ inr (inr (inr (inr (inr (inr (inr (inr (inr (inr (inr (short)))))))))))
]

-- no command is named so
no_check_name : IsCommandName (codes "--check-options") → ⊥
no_check_name (inl e) = absurd (cc e)
no_check_name (inr (inl e)) = absurd (cc e)
no_check_name (inr (inr (inl e))) = absurd (cc e)
no_check_name (inr (inr (inr (inl e)))) = absurd (cc e)
no_check_name (inr (inr (inr (inr (inl e))))) = absurd (cc e)
no_check_name (inr (inr (inr (inr (inr (inl e)))))) = absurd (cc e)
no_check_name (inr (inr (inr (inr (inr (inr (inl e))))))) = absurd (cc e)
no_check_name (inr (inr (inr (inr (inr (inr (inr (inl e)))))))) = absurd (cc e)
no_check_name (inr (inr (inr (inr (inr (inr (inr (inr (inl e))))))))) = absurd (cc e)
no_check_name (inr (inr (inr (inr (inr (inr (inr (inr (inr (inl e)))))))))) = absurd (cc e)
no_check_name (inr (inr (inr (inr (inr (inr (inr (inr (inr (inr (inl e))))))))))) = absurd (cc e)
no_check_name (inr (inr (inr (inr (inr (inr (inr (inr (inr (inr (inr e))))))))))) = absurd (cc e)

pub no_check_call : ChecksAreNoCall
no_check_call call others is = not_call (codes "--check-options" ∷ others) (codes "--check-options") others refl (λ command lenient named. no_check_name (command_named command lenient (codes "--check-options") others named)) call is

module _ (words : List (List ℕ)) where
  not_replay : (asked : List (List ℕ)) → Follow (codes "replay") asked words → ((ask : AskValue) → IsAsking (join_with_byte space asked) ask → ⊥) → (call : Call) → IsCall call words → ⊥
  not_replay asked (lenient, given, split, plain) none = not_call words (codes "replay") given split (no_replay (codes "replay") given refl (no_asking lenient given asked plain none))

  not_recall : (plain : List (List ℕ)) → Follow (codes "recall") plain words → ((file : List ℕ) (ask : AskValue) → AsksOf file ask plain → ⊥) → (call : Call) → IsCall call words → ⊥
  not_recall plain (lenient, given, split, is) none = not_call words (codes "recall") given split (no_recall (codes "recall") given refl (no_recalled lenient given plain is none))

  not_asked : (asked : List (List ℕ)) → (Follow (codes "replay") asked words) ⊎ ((file : List ℕ) × Follow (codes "recall") (file ∷ asked) words) → ((ask : AskValue) → IsAsking (join_with_byte space asked) ask → ⊥) → (call : Call) → IsCall call words → ⊥
  not_asked asked (inl follow) none = not_replay asked follow none
  not_asked asked (inr (file, follow)) none = not_recall (file ∷ asked) follow (asks_none (file ∷ asked) asked file refl none)

  not_plain : (name : List ℕ) → ((given : List (List ℕ)) → ((lenient : Bool) → IsPlain lenient given [] → ⊥) → (command : Command) (lenient : Bool) → IsCommand command lenient name given → ⊥) → (word : List ℕ) (more : List (List ℕ)) → Follow name (word ∷ more) words → (call : Call) → IsCall call words → ⊥
  not_plain name none word more (lenient, given, split, plain) = not_call words name given split (none given (λ other is. let same = (same_plain lenient other given (word ∷ more) [] plain is).0 in cc same))

  not_archive : (plain : List (List ℕ)) → Follow (codes "archive") plain words → ((file : List ℕ) → plain ≡ file ∷ [] → ⊥) → (call : Call) → IsCall call words → ⊥
  not_archive plain (lenient, given, split, is) none = not_call words (codes "archive") given split (no_archive (codes "archive") given refl (λ other archive. none archive.0 (same_plain lenient other given plain (archive.0 ∷ []) is archive.1).0))

  not_rov : (plain : List (List ℕ)) → Follow (codes "rov") plain words → ((file : List ℕ) (prefix : PrefixValue) → NamesFile file prefix plain → ⊥) → (call : Call) → IsCall call words → ⊥
  not_rov plain (lenient, given, split, is) none = not_call words (codes "rov") given split (no_rov (codes "rov") given refl (no_judged lenient given plain is none))

  not_drill : (given : List (List ℕ)) → words ≡ codes "drill" ∷ given → ((drill : DrillWords) → IsDrill drill given → ⊥) → (call : Call) → IsCall call words → ⊥
  not_drill given split none = not_call words (codes "drill") given split (no_drill (codes "drill") given refl none)

  lacking : (command : List ℕ) → LacksWords command words → (call : Call) → IsCall call words → ⊥
  lacking command (no_query named follow) = not_replay [] follow (λ ask is. no_line ask is.is_offered)
  lacking command (lacks_recalled named follow) = not_recall [] follow (λ file ask asks. let split = asks.spelled in cc split)
  lacking command (no_question named file follow) = not_recall (file ∷ []) follow (asks_none (file ∷ []) [] file refl (λ ask is. no_line ask is.is_offered))
  lacking command (lacks_archive named follow) = not_archive [] follow (λ file same. cc same)
  lacking command (no_vrps named follow) = not_rov [] follow (λ file prefix names. let split = names.spelled in cc split)
  lacking command (lacks_prefix named file follow) = not_rov (file ∷ []) follow (λ other prefix names. let split = names.spelled in cc split)
  lacking command (no_seed named split) = not_drill [] split (λ drill is. let spelled = is.spelled in cc spelled)
  lacking command (no_lanes named seed split is_seed) = not_drill (seed ∷ []) split (λ drill is. let spelled = is.spelled in cc spelled)
  lacking command (no_messages named seed lanes split is_seed are_lanes) = not_drill (seed ∷ lanes ∷ []) split (λ drill is. let spelled = is.spelled in cc spelled)

  extra : (command word : List ℕ) → HasExtra command word words → (call : Call) → IsCall call words → ⊥
  extra command word (after_check named more follow) = not_plain (codes "check") (λ given. no_check (codes "check") given refl) word more follow
  extra command word (after_relay named more follow) = not_plain (codes "relay") (λ given. no_relay (codes "relay") given refl) word more follow
  extra command word (after_file named file more follow) = not_archive (file ∷ word ∷ more) follow (λ other same. cc same)
  extra command word (after_prefix named file text more follow prefix is_prefix) = not_rov (file ∷ text ∷ word ∷ more) follow (λ other value names. let split = names.spelled in cc split)
  extra command word (after_numbers named seed lanes messages more split is_seed are_lanes are_messages) = not_drill (seed ∷ lanes ∷ messages ∷ word ∷ more) split (λ drill is. let four : length (seed ∷ lanes ∷ messages ∷ word ∷ more) ≡ 3 = ap length is.spelled in omega (arith, four))
  extra command word (after_text (inl help) more split) = not_call words command (word ∷ more) split (no_help command (word ∷ more) help (λ none. cc none))
  extra command word (after_text (inr version) more split) = not_call words command (word ∷ more) split (no_version command (word ∷ more) version (λ none. cc none))

  misfit : (word : List ℕ) → IsMisfit word words → (call : Call) → IsCall call words → ⊥
  misfit word (for_prefix file more follow none) = not_rov (file ∷ word ∷ more) follow (λ other prefix names.
      let spelled = names.spelled in
      let same : names.text ≡ word = cc spelled in
      none prefix (subst (λ (l : List ℕ). IsPrefixText l prefix) same names.is_prefix))
  misfit word (for_seed more split none) = not_drill (word ∷ more) split (λ drill is.
      let spelled = is.spelled in
      let same : is.seed ≡ word = cc spelled in
      none drill.seed (subst (λ (l : List ℕ). IsNumberText l drill.seed) same is.is_seed) (omega arith) is.is_seed.within)
  misfit word (for_lanes seed more split is_seed none) = not_drill (seed ∷ word ∷ more) split (λ drill is.
      let spelled = is.spelled in
      let same : is.lanes ≡ word = cc spelled in
      none drill.lanes (subst (λ (l : List ℕ). IsNumberText l drill.lanes) same is.is_lanes) is.may_drill.lanes.0 is.may_drill.lanes.1)
  misfit word (for_messages seed lanes more split is_seed are_lanes none) = not_drill (seed ∷ lanes ∷ word ∷ more) split (λ drill is.
      let spelled = is.spelled in
      let same : is.messages ≡ word = cc spelled in
      none drill.messages (subst (λ (l : List ℕ). IsNumberText l drill.messages) same is.is_messages) is.may_drill.messages.0 is.may_drill.messages.1)

-- ---- after `serve`

-- the settings in front are the first ones, and the words left are the others
pub behind : (ss ts : List Setting) (words left : List (List ℕ)) → StandInFront ss words left → AreSettings ts words → (us : List Setting) × (ts ≡ ss ++ us) × AreSettings us left
behind [] ts words left same are = (ts, refl, subst (λ (l : List (List ℕ)). AreSettings ts l) same are)
behind (s ∷ ss) [] words left (others, front, rest) are = absurd (not_none s words others are front)
behind (s ∷ ss) (t ∷ ts) words left (others, front, rest) (more, also, are) =
    let same = same_front s t words others more front also in
    let r = behind ss ts others left rest (subst (λ (l : List (List ℕ)). AreSettings ts l) (sym same.behind) are) in
    let first : s ≡ t = same.setting in
    let tail : ts ≡ ss ++ r.0 = r.1 in
    (r.0, cc (first, tail), r.2)

option_of : (name : List ℕ) → IsOption name → (option : ServeOption) × (name ≡ name_of option)
option_of name (inl (e)) = (Feeds, e)
option_of name (inr (inl (e))) = (Askers, e)
option_of name (inr (inr (inl (e)))) = (FeedPort, e)
option_of name (inr (inr (inr (inl (e))))) = (AskPort, e)
option_of name (inr (inr (inr (inr (inl (e)))))) = (Rounds, e)
option_of name (inr (inr (inr (inr (inr (inl (e))))))) = (Address, e)
option_of name (inr (inr (inr (inr (inr (inr (inl (e)))))))) = (Ports, e)
option_of name (inr (inr (inr (inr (inr (inr (inr (inl (e))))))))) = (Idle, e)
option_of name (inr (inr (inr (inr (inr (inr (inr (inr (inl (e)))))))))) = (AskIdle, e)
option_of name (inr (inr (inr (inr (inr (inr (inr (inr (inr (inl (e))))))))))) = (AskAddress, e)
option_of name (inr (inr (inr (inr (inr (inr (inr (inr (inr (inr (inl (e)))))))))))) = (LogOption, e)
option_of name (inr (inr (inr (inr (inr (inr (inr (inr (inr (inr (inr (inl (e))))))))))))) = (FeedFrom, e)
option_of name (inr (inr (inr (inr (inr (inr (inr (inr (inr (inr (inr (inr (e))))))))))))) = (AskFrom, e)

pub begins : (s : Setting) (word : List ℕ) (left others : List (List ℕ)) → IsInFront s (word ∷ left) others → BeginsSetting word
begins s word left others (flag_alone is e) = (Lenient, inl (cc e))
begins s word left others (two_words o e) =
    let named = option_of s.0 o in
    let same : word ≡ s.0 = cc e in
    (named.0, inl (same ∙ named.1))
begins s word left others (one_word o e) =
    let named = option_of s.0 o in
    let same : word ≡ s.0 ++ 61 ∷ s.1 = cc e in
    (named.0, inr (s.1, same ∙ ap (λ (l : List ℕ). l ++ 61 ∷ s.1) named.1))

letters_behind : (name more : List ℕ) → IsOption name → get_or (name ++ more) 2 0 + get_or (name ++ more) 3 0 ≢ 209
letters_behind name more (inl (e)) = λ is. let h : 203 ≡ 209 = sym (ap (λ (l : List ℕ). get_or (l ++ more) 2 0 + get_or (l ++ more) 3 0) e) ∙ is in absurd (omega (arith, h))
letters_behind name more (inr (inl (e))) = λ is. let h : 212 ≡ 209 = sym (ap (λ (l : List ℕ). get_or (l ++ more) 2 0 + get_or (l ++ more) 3 0) e) ∙ is in absurd (omega (arith, h))
letters_behind name more (inr (inr (inl (e)))) = λ is. let h : 203 ≡ 209 = sym (ap (λ (l : List ℕ). get_or (l ++ more) 2 0 + get_or (l ++ more) 3 0) e) ∙ is in absurd (omega (arith, h))
letters_behind name more (inr (inr (inr (inl (e))))) = λ is. let h : 212 ≡ 209 = sym (ap (λ (l : List ℕ). get_or (l ++ more) 2 0 + get_or (l ++ more) 3 0) e) ∙ is in absurd (omega (arith, h))
letters_behind name more (inr (inr (inr (inr (inl (e)))))) = λ is. let h : 225 ≡ 209 = sym (ap (λ (l : List ℕ). get_or (l ++ more) 2 0 + get_or (l ++ more) 3 0) e) ∙ is in absurd (omega (arith, h))
letters_behind name more (inr (inr (inr (inr (inr (inl (e))))))) = λ is. let h : 197 ≡ 209 = sym (ap (λ (l : List ℕ). get_or (l ++ more) 2 0 + get_or (l ++ more) 3 0) e) ∙ is in absurd (omega (arith, h))
letters_behind name more (inr (inr (inr (inr (inr (inr (inl (e)))))))) = λ is. let h : 223 ≡ 209 = sym (ap (λ (l : List ℕ). get_or (l ++ more) 2 0 + get_or (l ++ more) 3 0) e) ∙ is in absurd (omega (arith, h))
letters_behind name more (inr (inr (inr (inr (inr (inr (inr (inl (e))))))))) = λ is. let h : 205 ≡ 209 = sym (ap (λ (l : List ℕ). get_or (l ++ more) 2 0 + get_or (l ++ more) 3 0) e) ∙ is in absurd (omega (arith, h))
letters_behind name more (inr (inr (inr (inr (inr (inr (inr (inr (inl (e)))))))))) = λ is. let h : 212 ≡ 209 = sym (ap (λ (l : List ℕ). get_or (l ++ more) 2 0 + get_or (l ++ more) 3 0) e) ∙ is in absurd (omega (arith, h))
letters_behind name more (inr (inr (inr (inr (inr (inr (inr (inr (inr (inl (e))))))))))) = λ is. let h : 212 ≡ 209 = sym (ap (λ (l : List ℕ). get_or (l ++ more) 2 0 + get_or (l ++ more) 3 0) e) ∙ is in absurd (omega (arith, h))
letters_behind name more (inr (inr (inr (inr (inr (inr (inr (inr (inr (inr (inl (e)))))))))))) = λ is. let h : 219 ≡ 209 = sym (ap (λ (l : List ℕ). get_or (l ++ more) 2 0 + get_or (l ++ more) 3 0) e) ∙ is in absurd (omega (arith, h))
letters_behind name more (inr (inr (inr (inr (inr (inr (inr (inr (inr (inr (inr (inl (e))))))))))))) = λ is. let h : 203 ≡ 209 = sym (ap (λ (l : List ℕ). get_or (l ++ more) 2 0 + get_or (l ++ more) 3 0) e) ∙ is in absurd (omega (arith, h))
letters_behind name more (inr (inr (inr (inr (inr (inr (inr (inr (inr (inr (inr (inr (e))))))))))))) = λ is. let h : 212 ≡ 209 = sym (ap (λ (l : List ℕ). get_or (l ++ more) 2 0 + get_or (l ++ more) 3 0) e) ∙ is in absurd (omega (arith, h))

-- the flag with a value begins no setting
pub no_valued_flag : (s : Setting) (word value : List ℕ) (left others : List (List ℕ)) → word ≡ flag ++ 61 ∷ value → IsInFront s (word ∷ left) others → ⊥
no_valued_flag s word value left others is (flag_alone alone e) =
    let same : word ≡ flag = cc e in
    let h : 0 ≡ 61 = ap (λ (l : List ℕ). get_or l 9 0) (sym same ∙ is) in
    absurd (omega (arith, h))
no_valued_flag s word value left others is (two_words o e) =
    let same : word ≡ s.0 = cc e in
    letters s.0 o (ap (λ (l : List ℕ). get_or l 2 0 + get_or l 3 0) (sym same ∙ is))
no_valued_flag s word value left others is (one_word o e) =
    let same : word ≡ s.0 ++ 61 ∷ s.1 = cc e in
    letters_behind s.0 (61 ∷ s.1) o (ap (λ (l : List ℕ). get_or l 2 0 + get_or l 3 0) (sym same ∙ is))

-- the option stands in front with its value, if it does
pub with_value : (s : Setting) (name : List ℕ) (left others : List (List ℕ)) → IsOption name → IsInFront s (name ∷ left) others → (s.0 ≡ name) × (left ≡ s.1 ∷ others)
with_value s name left others is (flag_alone alone e) =
    let same : name ≡ flag = cc e in
    absurd (no_flag name is same)
with_value s name left others is (two_words o e) =
    let same : s.0 ≡ name = cc e in
    let rest : left ≡ s.1 ∷ others = cc e in
    (same, rest)
with_value s name left others is (one_word o e) =
    let same : name ≡ s.0 ++ 61 ∷ s.1 = cc e in
    let clash : None ≡ Some (length s.0) = sym (none_in name is) ∙ ap (λ (l : List ℕ). position (λ x. x == 61) l) same ∙ found_behind s.0 s.1 o in
    absurd (cc clash)

pub not_plain_value : (value : List ℕ) → IsDashed value → IsPlainValue value → ⊥
not_plain_value value ([], is) plain = let end = subst IsPlainValue is plain in let h = end.dashes in cc h
not_plain_value value (x ∷ xs, is) plain = let long = subst IsPlainValue is plain in let h = long.long in cc h

-- the values of one setting after others
pub values_behind : (name : List ℕ) (ss us : List Setting) → values_of name (ss ++ us) ≡ values_of name ss ++ values_of name us
values_behind name [] us = refl
values_behind name (s ∷ ss) us = go (bytes_eq s.0 name) refl (values_behind name ss us)
  where
    go : (b : Bool) → bytes_eq s.0 name ≡ b → values_of name (ss ++ us) ≡ values_of name ss ++ values_of name us → values_of name (s ∷ ss ++ us) ≡ values_of name (s ∷ ss) ++ values_of name us
    go true e rest = rw e (ap (λ (l : List (List ℕ)). s.1 ∷ l) rest)
    go false e rest = rw e rest

pub values_first : (name value : List ℕ) (us : List Setting) → values_of name ((name, value) ∷ us) ≡ value ∷ values_of name us
values_first name value us = let same = (bytes_eq-Decides name name).1 refl in rw same refl

-- one value among many is the one that there is
pub no_more : {A : Type 0} (xs zs : List A) (y : A) → xs ++ y ∷ zs ≡ [] → ⊥
no_more [] zs y e = cc e
no_more (x ∷ xs) zs y e = cc e

pub only_one : {A : Type 0} (xs zs : List A) (y v : A) → xs ++ y ∷ zs ≡ v ∷ [] → (xs ≡ []) × (y ≡ v)
only_one [] zs y v e = (refl, cc e)
only_one (x ∷ xs) zs y v e = let rest : xs ++ y ∷ zs ≡ [] = cc e in absurd (no_more xs zs y rest)

-- a setting behind others, which has that value
pub stands_there : (settings : List Setting) (words : List (List ℕ)) → AreSettings settings words → (ss : List Setting) (left others : List (List ℕ)) (option : ServeOption) (value : List ℕ) → StandInFront ss words left → IsInFront (name_of option, value) left others
    → (rest : List (List ℕ)) × (values_of (name_of option) settings ≡ values_of (name_of option) ss ++ value ∷ rest)
stands_there settings words are ss left others option value stand front = go (behind ss settings words left stand are)
  where
    go : (us : List Setting) × (settings ≡ ss ++ us) × AreSettings us left → (rest : List (List ℕ)) × (values_of (name_of option) settings ≡ values_of (name_of option) ss ++ value ∷ rest)
    go ([], same, are) = absurd (not_none (name_of option, value) left others are front)
    go (u ∷ us, same, (more, first, are)) =
        let one = same_front (name_of option, value) u left others more front first in
        let us_are : u ∷ us ≡ (name_of option, value) ∷ us = ap (λ (t : Setting). t ∷ us) (sym one.setting) in
        (values_of (name_of option) us, ap (values_of (name_of option)) same ∙ values_behind (name_of option) ss (u ∷ us) ∙ ap (λ (l : List (List ℕ)). values_of (name_of option) ss ++ l) (ap (values_of (name_of option)) us_are ∙ values_first (name_of option) value us))

module _ (serve : ServeWords) (lenient : Bool) (words : List (List ℕ)) (is : IsServe serve lenient words) where
  once_named : (option : ServeOption) → IsOnce (values_of (name_of option) is.settings)
  once_named Feeds = name_once serve lenient words is (codes "feeds") (inl (inl (refl)))
  once_named Askers = name_once serve lenient words is (codes "askers") (inl (inr (inl (refl))))
  once_named FeedPort = name_once serve lenient words is (codes "feed-port") (inl (inr (inr (inl (refl)))))
  once_named AskPort = name_once serve lenient words is (codes "ask-port") (inl (inr (inr (inr (inl (refl))))))
  once_named Rounds = name_once serve lenient words is (codes "rounds") (inl (inr (inr (inr (inr (inl (refl)))))))
  once_named Address = name_once serve lenient words is (codes "address") (inl (inr (inr (inr (inr (inr (inl (refl))))))))
  once_named Ports = name_once serve lenient words is (codes "ports") (inl (inr (inr (inr (inr (inr (inr (inl (refl)))))))))
  once_named Idle = name_once serve lenient words is (codes "idle") (inl (inr (inr (inr (inr (inr (inr (inr (inl (refl))))))))))
  once_named AskIdle = name_once serve lenient words is (codes "ask-idle") (inl (inr (inr (inr (inr (inr (inr (inr (inr (inl (refl)))))))))))
  once_named AskAddress = name_once serve lenient words is (codes "ask-address") (inl (inr (inr (inr (inr (inr (inr (inr (inr (inr (inl (refl))))))))))))
  once_named LogOption = name_once serve lenient words is (codes "log") (inl (inr (inr (inr (inr (inr (inr (inr (inr (inr (inr (inl (refl)))))))))))))
  once_named FeedFrom = name_once serve lenient words is (codes "feed-from") (inl (inr (inr (inr (inr (inr (inr (inr (inr (inr (inr (inr (inl (refl))))))))))))))
  once_named AskFrom = name_once serve lenient words is (codes "ask-from") (inl (inr (inr (inr (inr (inr (inr (inr (inr (inr (inr (inr (inr (inl (refl)))))))))))))))
  once_named Lenient = name_once serve lenient words is (codes "lenient") (inr refl)

  -- a setting behind others, which has that value
  module _ (ss : List Setting) (left others : List (List ℕ)) (option : ServeOption) (value : List ℕ) (stand : StandInFront ss words left) (front : IsInFront (name_of option, value) left others) where
    is_there : (rest : List (List ℕ)) × (values_of (name_of option) is.settings ≡ values_of (name_of option) ss ++ value ∷ rest)
    is_there = stands_there is.settings words is.are_settings ss left others option value stand front

    -- so it is its only one, which is no option
    is_only : (values_of (name_of option) ss ≡ []) × (values_of (name_of option) is.settings ≡ value ∷ []) × IsPlainValue value
    is_only = go is_there (once_named option)
      where
        go : (rest : List (List ℕ)) × (values_of (name_of option) is.settings ≡ values_of (name_of option) ss ++ value ∷ rest) → IsOnce (values_of (name_of option) is.settings) → (values_of (name_of option) ss ≡ []) × (values_of (name_of option) is.settings ≡ value ∷ []) × IsPlainValue value
        go (rest, there) (inl none) = absurd (no_more (values_of (name_of option) ss) rest value (sym there ∙ none))
        go (rest, there) (inr (v, one, plain)) =
            let o = only_one (values_of (name_of option) ss) rest value v (sym there ∙ one) in
            (o.0, one ∙ ap (λ (x : List ℕ). x ∷ []) (sym o.1), subst IsPlainValue (sym o.1) plain)

  -- the one value is of its option's form
  may_is : (name value : List ℕ) (Is : List ℕ → Type 0) (Else : Type 0) → values_of name is.settings ≡ value ∷ [] → MayGive name Is Else is.settings → Is value
  may_is name value Is Else one (inl (other, single, holds)) =
      let both : value ∷ [] ≡ other ∷ [] = sym one ∙ single in
      let same : value ≡ other = cc both in
      subst Is (sym same) holds
  may_is name value Is Else one (inr (none, holds)) = absurd (cc (sym one ∙ none))

  has_form : (option : ServeOption) (value : List ℕ) → values_of (name_of option) is.settings ≡ value ∷ [] → IsValueOf option value
  has_form Feeds value one = (serve.at.feeds, may_is (codes "--feeds") value _ _ one is.feeds, is.may_serve.feeds.0, is.may_serve.feeds.1)
  has_form Askers value one = (serve.at.askers, may_is (codes "--askers") value _ _ one is.askers, is.may_serve.askers.0, is.may_serve.askers.1)
  has_form FeedPort value one = (serve.at.feed_port, may_is (codes "--feed-port") value _ _ one is.feed_port, is.may_serve.feed_ports.0, omega (arith, is.may_serve.feed_ports.1, some_ports serve.at.shared serve.at.feeds is.may_serve.feeds.0))
  has_form AskPort value one = (serve.at.ask_port, may_is (codes "--ask-port") value _ _ one is.ask_port, is.may_serve.ask_ports.0, omega (arith, is.may_serve.ask_ports.1, some_ports serve.at.shared serve.at.askers is.may_serve.askers.0))
  has_form Rounds value one = (serve.rounds, may_is (codes "--rounds") value _ _ one is.rounds)
  has_form Address value one = (serve.at.address, may_is (codes "--address") value _ _ one is.address)
  has_form AskAddress value one = (serve.at.ask_address, may_is (codes "--ask-address") value _ _ one is.ask_address)
  has_form Ports value one = (serve.at.shared, may_is (codes "--ports") value _ _ one is.ports)
  has_form Idle value one = (serve.at.idle, may_is (codes "--idle") value _ _ one is.idle)
  has_form AskIdle value one = (serve.at.ask_idle, may_is (codes "--ask-idle") value _ _ one is.ask_idle)
  has_form LogOption value one = (serve.at.log, may_is (codes "--log") value _ _ one is.log)
  has_form FeedFrom value one = (serve.at.feed_from, may_is (codes "--feed-from") value _ _ one is.feed_from)
  has_form AskFrom value one = (serve.at.ask_from, may_is (codes "--ask-from") value _ _ one is.ask_from)
  has_form Lenient value one = flag_empty is.settings words value [] is.are_settings one

  -- a number that is given is one number
  same_may : (name : List ℕ) (usual n m : ℕ) → MayGive name (λ value. IsNumberText value n) (n ≡ usual) is.settings → MayGive name (λ value. IsNumberText value m) (m ≡ usual) is.settings → n ≡ m
  same_may name usual n m (inl (v, one, is_n)) may = same_number v n m is_n (may_is name v (λ value. IsNumberText value m) _ one may)
  same_may name usual n m (inr (none, left)) (inl (v, one, is_m)) = absurd (cc (sym none ∙ one))
  same_may name usual n m (inr (none, left)) (inr (also, right)) = left ∙ sym right

  same_shared : (a b : Bool) → ArePorts a is.settings → ArePorts b is.settings → a ≡ b
  same_shared a b (inl (v, one, is_a)) may = same_value v a b is_a (may_is (codes "--ports") v (λ value. IsPorts value b) _ one may)
  same_shared a b (inr (none, left)) (inl (v, one, is_b)) = absurd (cc (sym none ∙ one))
  same_shared a b (inr (none, left)) (inr (also, right)) = left ∙ sym right

  -- the ports that are opened are those of the call
  feeds_are : (first count : ℕ) → OpenFeeds first count is.settings → (first ≡ serve.at.feed_port) × (count ≡ ports_for serve.at.shared serve.at.feeds)
  feeds_are first count open_ports =
      let number = same_may (codes "--feeds") 64 open_ports.number serve.at.feeds open_ports.is_number is.feeds in
      let shared = same_shared open_ports.shared serve.at.shared open_ports.is_shared is.ports in
      (same_may (codes "--feed-port") 11019 first serve.at.feed_port open_ports.is_first is.feed_port, open_ports.counted ∙ ap (λ (b : Bool). ports_for b open_ports.number) shared ∙ ap (ports_for serve.at.shared) number)

  asks_are : (first count : ℕ) → OpenAsks first count is.settings → (first ≡ serve.at.ask_port) × (count ≡ ports_for serve.at.shared serve.at.askers)
  asks_are first count open_ports =
      let number = same_may (codes "--askers") 16 open_ports.number serve.at.askers open_ports.is_number is.askers in
      let shared = same_shared open_ports.shared serve.at.shared open_ports.is_shared is.ports in
      (same_may (codes "--ask-port") 11120 first serve.at.ask_port open_ports.is_first is.ask_port, open_ports.counted ∙ ap (λ (b : Bool). ports_for b open_ports.number) shared ∙ ap (ports_for serve.at.shared) number)

  -- what stands behind the settings begins one more
  next_begins : (ss : List Setting) (word : List ℕ) (left : List (List ℕ)) → StandInFront ss words (word ∷ left) → (s : Setting) × (others : List (List ℕ)) × IsInFront s (word ∷ left) others
  next_begins ss word left stand = go (behind ss is.settings words (word ∷ left) stand is.are_settings)
    where
      go : (us : List Setting) × (is.settings ≡ ss ++ us) × AreSettings us (word ∷ left) → (s : Setting) × (others : List (List ℕ)) × IsInFront s (word ∷ left) others
      go ([], same, are) = absurd (cc are)
      go (u ∷ us, same, (more, first, are)) = (u, more, first)

  lacks_value : (ss : List Setting) (option : ServeOption) (left : List (List ℕ)) → StandInFront ss words (name_of option ∷ left) → IsOption (name_of option) → LacksValue left → ⊥
  lacks_value ss option left stand named lacks = go (next_begins ss (name_of option) left stand) lacks
    where
      go : (s : Setting) × (others : List (List ℕ)) × IsInFront s (name_of option ∷ left) others → LacksValue left → ⊥
      go ((name, value), others, front) (inl none) =
          let w = with_value (name, value) (name_of option) left others named front in
          let h : value ∷ others ≡ [] = sym w.1 ∙ none in
          cc h
      go ((name, value), others, front) (inr (word, more, same, dashed)) =
          let w = with_value (name, value) (name_of option) left others named front in
          let h : value ∷ others ≡ word ∷ more = sym w.1 ∙ same in
          let one : value ≡ word = cc h in
          let here : IsInFront (name_of option, value) (name_of option ∷ left) others = subst (λ (n : List ℕ). IsInFront (n, value) (name_of option ∷ left) others) w.0 front in
          let only = is_only ss (name_of option ∷ left) others option value stand here in
          not_plain_value value (subst IsDashed (sym one) dashed) only.2

  twice : (ss : List Setting) (option : ServeOption) (value : List ℕ) (left others : List (List ℕ)) → StandInFront ss words left → IsGiven (name_of option) ss → IsInFront (name_of option, value) left others → ⊥
  twice ss option value left others stand (first, more, given) front = let only = is_only ss left others option value stand front in cc (sym only.0 ∙ given)

pub serve_law : (complaint : Complaint) (given : List (List ℕ)) → ServeComplains complaint given → (serve : ServeWords) (lenient : Bool) → IsServe serve lenient given → ⊥
serve_law (NoOption word) given (ss, left, stand, none) serve lenient is = let next = next_begins serve lenient given is ss word.now left stand.0 in none (begins next.0 word.now left next.1 next.2)
serve_law (HasValue word) given (ss, left, stand, (value, valued)) serve lenient is = let next = next_begins serve lenient given is ss word.now left stand.0 in no_valued_flag next.0 word.now value left next.1 valued next.2
serve_law (NoValue option) given (ss, left, stand, named, lacks) serve lenient is = lacks_value serve lenient given is ss option left stand.0 named lacks
serve_law (Twice option) given (ss, left, stand, again, (value, others, front)) serve lenient is = twice serve lenient given is ss option value left others stand.0 again front
serve_law (BadValue option value) given (ss, left, others, stand, fresh, front, bad) serve lenient is = bad (has_form serve lenient given is option value.now (is_only serve lenient given is ss left others option value.now stand.0 front).1)
serve_law (PastEnd option first count) given complains serve lenient is = past option complains
  where
    past : (option : ServeOption) → ServeComplains (PastEnd option first count) given → ⊥
    past FeedPort (has, far) = let are = feeds_are serve lenient given is first count (holds_in (λ (settings : List Setting). AreSound settings × OpenFeeds first count settings) given is.settings is.are_settings has).1 in omega (arith, are.0, are.1, far, is.may_serve.feed_ports.1)
    past AskPort (has, far) = let are = asks_are serve lenient given is first count (holds_in (λ (settings : List Setting). AreSound settings × OpenAsks first count settings) given is.settings is.are_settings has).1 in omega (arith, are.0, are.1, far, is.may_serve.ask_ports.1)
    past Feeds none = none
    past Askers none = none
    past Rounds none = none
    past Address none = none
    past AskAddress none = none
    past Ports none = none
    past Idle none = none
    past AskIdle none = none
    past LogOption none = none
    past FeedFrom none = none
    past AskFrom none = none
    past Lenient none = none
serve_law (Meet feed feeds ask askers) given (has, below, above) serve lenient is =
    let all = holds_in (λ (settings : List Setting). AreSound settings × OpenFeeds feed feeds settings × OpenAsks ask askers settings) given is.settings is.are_settings has in
    let f = feeds_are serve lenient given is feed feeds all.1 in
    let a = asks_are serve lenient given is ask askers all.2 in
    elim is.may_serve.apart [
      | inl apart ↦ omega (arith, f.0, f.1, a.0, below, apart)
      | inr apart ↦ omega (arith, f.0, a.0, a.1, above, apart)
    ]
serve_law NoWords given none serve lenient is = none
serve_law (NoCommand word) given none serve lenient is = none
serve_law (NoQuery asked good) given none serve lenient is = none
serve_law Quit given none serve lenient is = none
serve_law (Needs command needs) given none serve lenient is = none
serve_law (Extra command word) given none serve lenient is = none
serve_law (NotA word wanted) given none serve lenient is = none

served : (complaint : Complaint) (words : List (List ℕ)) → (given : List (List ℕ)) × (words ≡ codes "serve" ∷ given) × ServeComplains complaint given → (call : Call) → IsCall call words → ⊥
served complaint words (given, split, complains) = not_call words (codes "serve") given split (no_serve (codes "serve") given refl (serve_law complaint given complains))

pub of_no_call : ComplainsOfNoCall
of_no_call NoWords words none = λ call is. let h = sym none ∙ is.spelled in cc h
of_no_call (NoCommand word) words (given, split, none) = not_call words word.now given split (λ command lenient is. none (command_named command lenient word.now given is))
of_no_call (NoQuery asked good) words (are, none, beginning) = not_asked words _ are (λ ask is. none ask is.is_offered)
of_no_call Quit words (asked, are, is_quit, only) = not_asked words asked are (λ ask is. is.goes_on (only ask is.is_offered))
of_no_call (Needs command needs) words lacks = lacking words command.now lacks
of_no_call (Extra command word) words has = extra words command.now word.now has
of_no_call (NotA word wanted) words is = misfit words word.now is
of_no_call (NoOption word) words complains = served (NoOption word) words complains
of_no_call (NoValue option) words complains = served (NoValue option) words complains
of_no_call (Twice option) words complains = served (Twice option) words complains
of_no_call (HasValue word) words complains = served (HasValue word) words complains
of_no_call (BadValue option value) words complains = served (BadValue option value) words complains
of_no_call (PastEnd option first count) words complains = served (PastEnd option first count) words complains
of_no_call (Meet feed feeds ask askers) words complains = served (Meet feed feeds ask askers) words complains

-- what is found wrong with words says that they are no call
pub found_no_call : (found : Option Complaint) (words : List (List ℕ)) → IfSome found (λ complaint. Complains complaint words) → IfSome found (λ complaint. (call : Call) → IsCall call words → ⊥)
found_no_call None words is = tt
found_no_call (Some complaint) words is = of_no_call complaint words is
