-- What the reading of a call's words answers, word by word.
use Rattle.std.specs.Prelude.{◌≡◌, ◌≢◌, ℕ, Bool, false, List, [], Result, Err, IfErr, IfOk}
use Rattle.station_words.specs.Words.{IsCommand, IsPlain, TakesMemory}
use Rattle.station_words.specs.declared.words.Call.{Call}
use Rattle.station_words.specs.declared.words.Command.{Command}
use Rattle.station_words.specs.declared.words.WordsFault.{WordsFault}
use Rattle.station_words.specs.declared.words.WordsFault.TheVariants.{Usage, NoMemory}

-- The call that the first of the words and those after it are, or that they are none, or that there was no memory to read them.
pub record IsReading (first : List ℕ) (given : List (List ℕ)) (read : Result Call WordsFault) : Type 0 where
  pub ok : IfOk read (λ call. IsCommand call.command call.lenient first given)
  pub usage : read ≡ Err Usage → (command : Command) (lenient : Bool) → IsCommand command lenient first given → ⊥
  pub memory : read ≡ Err NoMemory → TakesMemory first

-- a command whose words are none, or `--lenient` alone, or that they are others
pub record IsPlainReading (command : Command) (given : List (List ℕ)) (read : Result Call WordsFault) : Type 0 where
  pub ok : IfOk read (λ call. (call.command ≡ command) × IsPlain call.lenient given [])
  pub usage : IfErr read (λ fault. (fault ≡ Usage) × ((lenient : Bool) → IsPlain lenient given [] → ⊥))

-- a command whose words are none, or that there are some
pub record IsLoneReading (command : Command) (given : List (List ℕ)) (read : Result Call WordsFault) : Type 0 where
  pub ok : IfOk read (λ call. (call.command ≡ command) × (call.lenient ≡ false) × (given ≡ []))
  pub usage : IfErr read (λ fault. (fault ≡ Usage) × (given ≢ []))
