-- The words of a call.
use Rattle.std.specs.Prelude.{◌≡◌, ◌≢◌, ◌⊎◌, ℕ, Bool, true, false, List, [], ◌∷◌, get_or, codes}
use Rattle.std.specs.List.{join_with_byte}
use Rattle.bmp_specs.specs.PrefixText.{IsPrefixText}
use Rattle.bmp_specs.specs.Query.{quit, space}
use Rattle.bmp_specs.specs.Values.{PrefixValue}
use Rattle.ask_specs.specs.Asking.{AskValue, plain as plain_query}
use Rattle.ask_specs.specs.Offer.{IsOfferedAsk}
use Rattle.query_lang.specs.Asks.{ask_value}
use Rattle.station_words.specs.DrillWords.{IsDrill}
use Rattle.station_words.specs.ServeWords.{IsServe}
use Rattle.station_words.specs.declared.words.Call.{Call}
use Rattle.station_words.specs.declared.words.Command.{Command}
use Rattle.station_words.specs.declared.words.Command.TheVariants.{Replay, Check, Serve, Drill, Relay, Rov, Archive, Recall, Help, Version}

-- the end of a session
abbrev pub session_end : AskValue
session_end = plain_query quit

-- the line asks this, which is offered and isn't the end of a session
pub record IsAsking (line : List ℕ) (ask : AskValue) : Type 0 where
  pub is_offered : IsOfferedAsk line ask
  pub goes_on : ask ≢ session_end

-- Where `--lenient` stands in front of the words, they are that word and these; else they are these.
abbrev pub IsPlain : Bool → List (List ℕ) → List (List ℕ) → Type 0
IsPlain true given plain = given ≡ codes "--lenient" ∷ plain
IsPlain false given plain = (plain ≡ given) × ((more : List (List ℕ)) → given ≢ codes "--lenient" ∷ more)

-- The words after `replay`, joined by single spaces, ask this. Only the bytes that are joined count: a word may
-- itself hold spaces, or be empty.
abbrev pub IsReplay : AskValue → Bool → List (List ℕ) → Type 0
IsReplay ask lenient given = (asked : List (List ℕ)) × IsPlain lenient given asked × IsAsking (join_with_byte space asked) ask

-- the words are a file and a prefix
pub record NamesFile (file : List ℕ) (prefix : PrefixValue) (words : List (List ℕ)) : Type 0 where
  pub text : List ℕ
  pub spelled : words ≡ file ∷ text ∷ []
  pub is_prefix : IsPrefixText text prefix

-- the words are a file and those that ask this, which are joined by single spaces
pub record AsksOf (file : List ℕ) (ask : AskValue) (words : List (List ℕ)) : Type 0 where
  pub asked : List (List ℕ)
  pub spelled : words ≡ file ∷ asked
  pub is_asking : IsAsking (join_with_byte space asked) ask

-- The words after `rov` are this file and the prefix. Any word is a file by its place: an empty one too, or `--lenient`
-- after `--lenient`.
abbrev pub IsRovOf : List ℕ → PrefixValue → Bool → List (List ℕ) → Type 0
IsRovOf file prefix lenient given = (asked : List (List ℕ)) × IsPlain lenient given asked × NamesFile file prefix asked

-- the same of some file
abbrev pub IsRov : PrefixValue → Bool → List (List ℕ) → Type 0
IsRov prefix lenient given = (file : List ℕ) × IsRovOf file prefix lenient given

-- The one word after `archive` is this file. Any word is a file by its place.
abbrev pub IsArchiveOf : List ℕ → Bool → List (List ℕ) → Type 0
IsArchiveOf file lenient given = IsPlain lenient given (file ∷ [])

-- the same of some file
abbrev pub IsArchive : Bool → List (List ℕ) → Type 0
IsArchive lenient given = (file : List ℕ) × IsArchiveOf file lenient given

-- The words after `recall` are this file, and then what is asked, as after `replay`. Any word is a file by its place.
abbrev pub IsRecallOf : List ℕ → AskValue → Bool → List (List ℕ) → Type 0
IsRecallOf file ask lenient given = (asked : List (List ℕ)) × IsPlain lenient given asked × AsksOf file ask asked

-- the same of some file
abbrev pub IsRecall : AskValue → Bool → List (List ℕ) → Type 0
IsRecall ask lenient given = (file : List ℕ) × IsRecallOf file ask lenient given

-- The first of the words and those after it are this command, which is lenient or isn't: `--lenient` stands right after
-- `replay`, `check`, `relay`, `rov`, `archive` or `recall`, or anywhere among the settings of `serve`.
abbrev pub IsCommand : Command → Bool → List ℕ → List (List ℕ) → Type 0
IsCommand (Replay ask) lenient first given = (first ≡ codes "replay") × IsReplay (ask_value ask) lenient given
IsCommand Check lenient first given = (first ≡ codes "check") × IsPlain lenient given []
IsCommand (Serve serve) lenient first given = (first ≡ codes "serve") × IsServe serve lenient given
IsCommand (Drill drill) lenient first given = (first ≡ codes "drill") × IsDrill drill given × (lenient ≡ false)
IsCommand Relay lenient first given = (first ≡ codes "relay") × IsPlain lenient given []
IsCommand (Rov prefix) lenient first given = (first ≡ codes "rov") × IsRov prefix lenient given
IsCommand Archive lenient first given = (first ≡ codes "archive") × IsArchive lenient given
IsCommand (Recall ask) lenient first given = (first ≡ codes "recall") × IsRecall (ask_value ask) lenient given
IsCommand Help lenient first given = ((first ≡ codes "--help") ⊎ (first ≡ codes "-h")) × (given ≡ []) × (lenient ≡ false)
IsCommand Version lenient first given = ((first ≡ codes "--version") ⊎ (first ≡ codes "-V")) × (given ≡ []) × (lenient ≡ false)

-- the words are those of the call
pub record IsCall (call : Call) (words : List (List ℕ)) : Type 0 where
  pub first : List ℕ
  pub given : List (List ℕ)
  pub spelled : words ≡ first ∷ given
  pub is_command : IsCommand call.command call.lenient first given

-- no call begins with `--check-options`
abbrev pub ChecksAreNoCall : Type 0
ChecksAreNoCall = (call : Call) (others : List (List ℕ)) → IsCall call (codes "--check-options" ∷ others) → ⊥

-- the words are a call of `rov` with this file and this prefix
pub record IsRovCall (file : List ℕ) (prefix : PrefixValue) (lenient : Bool) (words : List (List ℕ)) : Type 0 where
  pub given : List (List ℕ)
  pub spelled : words ≡ codes "rov" ∷ given
  pub is_rov : IsRovOf file prefix lenient given

-- the words are a call of `archive` with this file
pub record IsArchiveCall (file : List ℕ) (lenient : Bool) (words : List (List ℕ)) : Type 0 where
  pub given : List (List ℕ)
  pub spelled : words ≡ codes "archive" ∷ given
  pub is_archive : IsArchiveOf file lenient given

-- the words are a call of `recall` with this file, and ask this
pub record IsRecallCall (file : List ℕ) (ask : AskValue) (lenient : Bool) (words : List (List ℕ)) : Type 0 where
  pub given : List (List ℕ)
  pub spelled : words ≡ codes "recall" ∷ given
  pub is_recall : IsRecallOf file ask lenient given

-- the word after the first, or after `--lenient`, where the file of a call stands
abbrev pub file_in : Bool → List (List ℕ) → List ℕ
file_in true words = get_or words 2 []
file_in false words = get_or words 1 []

-- to read the words after this one takes memory
abbrev pub TakesMemory : List ℕ → Type 0
TakesMemory first = (first ≡ codes "replay") ⊎ (first ≡ codes "serve") ⊎ (first ≡ codes "recall")

-- to read the words takes memory: their first is `replay`, `serve` or `recall`
abbrev pub TakeMemory : List (List ℕ) → Type 0
TakeMemory words = (first : List ℕ) × (asked : List (List ℕ)) × (words ≡ first ∷ asked) × TakesMemory first
