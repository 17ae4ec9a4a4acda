-- The settings of `serve` as `clap` has them.
use Rattle.std.specs.Prelude.{◌≡◌, ℕ, Bool, true, List, [], ◌∷◌, ◌++◌, Option, Some, None, codes, map}
use Rattle.std.specs.Borrow.{Bor}
use Rattle.std.specs.Str.{bytes_eq}
use Rattle.clap.specs.Words.{App, Rule, first_value, found_of, new_app, new_rule, with_rule}
use Rattle.clap.specs.declared.parser.matches.ArgMatches.{ArgMatches}
use Rattle.clap.specs.declared.builder.action.ArgAction.TheVariants.{Set}
use Rattle.station_words.specs.ServeWords.{Setting, AreSettings, values_of}

-- `--` in front of a name
abbrev pub dashed : List ℕ → List ℕ
dashed name = 45 ∷ 45 ∷ name

-- the word is `--` alone
abbrev pub is_dashes : List ℕ → Bool
is_dashes word = bytes_eq word (codes "--")

-- the option with this name
abbrev pub option_rule : List ℕ → Rule
option_rule name = record (new_rule name) { long = Some name }

abbrev pub option_names : List (List ℕ)
option_names = codes "feeds" ∷ codes "askers" ∷ codes "feed-port" ∷ codes "ask-port" ∷ codes "rounds" ∷ codes "address" ∷ codes "ports" ∷ codes "idle" ∷ codes "ask-idle" ∷ codes "ask-address" ∷ codes "log" ∷ codes "feed-from" ∷ codes "ask-from" ∷ []

-- the flag, which has no value; where it stands the empty one is found
abbrev pub flag_rule : Rule
flag_rule = record (new_rule (codes "lenient")) { long = Some (codes "lenient"); action = Some Set; range = Some (record { start_inclusive = 0; end_inclusive = 0 }); missing = [] ∷ [] }

-- a command with these rules more
abbrev pub with_rules : App → List Rule → App
with_rules app [] = app
with_rules app (rule ∷ rules) = with_rules (with_rule app rule) rules

-- the options with these names
abbrev pub options_of : List (Bor (List ℕ)) → List Rule
options_of names = map (λ name. option_rule name.now) names

-- the command `serve`
abbrev pub serve_app : App
serve_app = record (new_app (codes "serve")) {
  top = record (new_app (codes "serve")).top {
    rules = map option_rule option_names ++ flag_rule ∷ [];
    no_binary_name = true;
    disable_help_flag = true;
  };
}

-- the value is the one that is given for an option; none where it isn't given
abbrev pub IsTold : List (List ℕ) → Option (List ℕ) → Type 0
IsTold values None = values ≡ []
IsTold values (Some value) = values ≡ value ∷ []

-- The words are settings, one after another, each given at most once, and these are the values.
pub record AreMatches (words : List (List ℕ)) (matches : ArgMatches) : Type 0 where
  pub settings : List Setting
  pub are_settings : AreSettings settings words
  pub told : (name : List ℕ) → IsTold (values_of (dashed name) settings) (first_value (found_of matches) name)
