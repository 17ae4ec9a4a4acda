-- Why words are no command: what each reason says of them.
use Rattle.std.specs.Prelude.{◌≡◌, ◌⊎◌, ⊤, ℕ, ◌+◌, ◌≤◌, ◌<◌, ◌++◌, Bool, true, false, List, [], ◌∷◌, Option, slice_index_or, codes, length, map, take}
use Rattle.std.specs.List.{join_with_byte}
use Rattle.std.specs.String.{string_bytes}
use Rattle.bmp_specs.specs.AddressText.{IsAddressText}
use Rattle.bmp_specs.specs.NumberText.{IsNumberText}
use Rattle.bmp_specs.specs.PrefixText.{IsPrefixText}
use Rattle.bmp_specs.specs.Query.{space}
use Rattle.bmp_specs.specs.Values.{AddressValue, PrefixValue}
use Rattle.ask_specs.specs.Asking.{AskValue}
use Rattle.ask_specs.specs.Offer.{IsOfferedAsk}
use Rattle.station_doors.specs.Doors.{most_places}
use Rattle.station_doors.specs.declared.listening.Log.{Log}
use Rattle.station_words.specs.ServeWords.{Setting, ArePorts, Gives, Has, IsAllowed, IsInFront, IsLog, IsOption, IsPorts, IsRounds, IsSeconds, IsServe, MayGive, equals_sign, flag, ports_for, values_of}
use Rattle.station_words.specs.Words.{IsAsking, IsCall, IsPlain, session_end}
use Rattle.station_words.specs.declared.complaint.Complaint.{Complaint}
use Rattle.station_words.specs.declared.complaint.Complaint.TheVariants.{NoWords, NoCommand, NoQuery, Quit, Needs, Extra, NotA, NoOption, NoValue, Twice, HasValue, BadValue, PastEnd, Meet}
use Rattle.station_words.specs.declared.serve_options.ServeOption.{ServeOption}
use Rattle.station_words.specs.declared.serve_options.ServeOption.TheVariants.{Feeds, Askers, FeedPort, AskPort, Rounds, Address, AskAddress, Ports, Idle, AskIdle, Log as LogOption, FeedFrom, AskFrom, Lenient}
use Rattle.station_words.specs.declared.serve_words.ServeWords.{ServeWords}
use Rattle.station_words.specs.declared.words.Call.{Call}

-- the names of the commands
abbrev pub IsCommandName : List ℕ → Type 0
IsCommandName word = (word ≡ codes "replay") ⊎ ((word ≡ codes "check") ⊎ ((word ≡ codes "serve") ⊎ ((word ≡ codes "drill") ⊎ ((word ≡ codes "relay") ⊎ ((word ≡ codes "rov") ⊎ ((word ≡ codes "archive") ⊎ ((word ≡ codes "recall") ⊎ ((word ≡ codes "--help") ⊎ ((word ≡ codes "-h") ⊎ ((word ≡ codes "--version") ⊎ (word ≡ codes "-V")))))))))))

-- these words follow the command's name, or `--lenient` after it
abbrev pub Follow : List ℕ → List (List ℕ) → List (List ℕ) → Type 0
Follow name plain words = (lenient : Bool) × (given : List (List ℕ)) × (words ≡ name ∷ given) × IsPlain lenient given plain

-- these words are asked: they follow `replay`, or `recall` and a file
abbrev pub AreAsked : List (List ℕ) → List (List ℕ) → Type 0
AreAsked asked words = Follow (codes "replay") asked words ⊎ ((file : List ℕ) × Follow (codes "recall") (file ∷ asked) words)

-- the text is a number between these
abbrev pub IsNumberWithin : ℕ → ℕ → List ℕ → Type 0
IsNumberWithin least most text = (n : ℕ) × IsNumberText text n × (least ≤ n) × (n ≤ most)

-- the text is no number between these
abbrev pub IsNoNumber : ℕ → ℕ → List ℕ → Type 0
IsNoNumber least most text = (n : ℕ) → IsNumberText text n → least ≤ n → n ≤ most → ⊥

-- the numbers of `drill`: the seed, the lanes, the messages
abbrev pub IsSeed : List ℕ → Type 0
IsSeed text = IsNumberWithin 0 4294967295 text

abbrev pub AreLanes : List ℕ → Type 0
AreLanes text = IsNumberWithin 1 16 text

abbrev pub AreMessages : List ℕ → Type 0
AreMessages text = IsNumberWithin 1 100000 text

-- after the command too few words stand, and those that stand there are right
pub data LacksWords (command : List ℕ) (words : List (List ℕ)) : Type 0 where
  no_query : command ≡ codes "replay" → Follow (codes "replay") [] words → LacksWords command words
  no_recalled : command ≡ codes "recall" → Follow (codes "recall") [] words → LacksWords command words
  no_question : command ≡ codes "recall" → (file : List ℕ) → Follow (codes "recall") (file ∷ []) words → LacksWords command words
  no_archive : command ≡ codes "archive" → Follow (codes "archive") [] words → LacksWords command words
  no_vrps : command ≡ codes "rov" → Follow (codes "rov") [] words → LacksWords command words
  no_prefix : command ≡ codes "rov" → (file : List ℕ) → Follow (codes "rov") (file ∷ []) words → LacksWords command words
  no_seed : command ≡ codes "drill" → words ≡ codes "drill" ∷ [] → LacksWords command words
  no_lanes : command ≡ codes "drill" → (seed : List ℕ) → words ≡ codes "drill" ∷ seed ∷ [] → IsSeed seed → LacksWords command words
  no_messages : command ≡ codes "drill" → (seed lanes : List ℕ) → words ≡ codes "drill" ∷ seed ∷ lanes ∷ [] → IsSeed seed → AreLanes lanes → LacksWords command words

-- the names of the commands that ask for a text
abbrev pub IsTextName : List ℕ → Type 0
IsTextName command = ((command ≡ codes "--help") ⊎ (command ≡ codes "-h")) ⊎ ((command ≡ codes "--version") ⊎ (command ≡ codes "-V"))

-- after the command the word stands where none may, and those in front of it are right
pub data HasExtra (command word : List ℕ) (words : List (List ℕ)) : Type 0 where
  after_check : command ≡ codes "check" → (more : List (List ℕ)) → Follow (codes "check") (word ∷ more) words → HasExtra command word words
  after_relay : command ≡ codes "relay" → (more : List (List ℕ)) → Follow (codes "relay") (word ∷ more) words → HasExtra command word words
  after_file : command ≡ codes "archive" → (file : List ℕ) (more : List (List ℕ)) → Follow (codes "archive") (file ∷ word ∷ more) words → HasExtra command word words
  after_prefix : command ≡ codes "rov" → (file text : List ℕ) (more : List (List ℕ)) → Follow (codes "rov") (file ∷ text ∷ word ∷ more) words → (prefix : PrefixValue) → IsPrefixText text prefix → HasExtra command word words
  after_numbers : command ≡ codes "drill" → (seed lanes messages : List ℕ) (more : List (List ℕ)) → words ≡ codes "drill" ∷ seed ∷ lanes ∷ messages ∷ word ∷ more → IsSeed seed → AreLanes lanes → AreMessages messages → HasExtra command word words
  after_text : IsTextName command → (more : List (List ℕ)) → words ≡ command ∷ word ∷ more → HasExtra command word words

-- the word stands where a prefix or a number must, and is none, and those in front of it are right
pub data IsMisfit (word : List ℕ) (words : List (List ℕ)) : Type 0 where
  for_prefix : (file : List ℕ) (more : List (List ℕ)) → Follow (codes "rov") (file ∷ word ∷ more) words → ((prefix : PrefixValue) → IsPrefixText word prefix → ⊥) → IsMisfit word words
  for_seed : (more : List (List ℕ)) → words ≡ codes "drill" ∷ word ∷ more → IsNoNumber 0 4294967295 word → IsMisfit word words
  for_lanes : (seed : List ℕ) (more : List (List ℕ)) → words ≡ codes "drill" ∷ seed ∷ word ∷ more → IsSeed seed → IsNoNumber 1 16 word → IsMisfit word words
  for_messages : (seed lanes : List ℕ) (more : List (List ℕ)) → words ≡ codes "drill" ∷ seed ∷ lanes ∷ word ∷ more → IsSeed seed → AreLanes lanes → IsNoNumber 1 100000 word → IsMisfit word words

-- ---- after `serve`

-- the option as it is written
abbrev pub name_of : ServeOption → List ℕ
name_of Feeds = codes "--feeds"
name_of Askers = codes "--askers"
name_of FeedPort = codes "--feed-port"
name_of AskPort = codes "--ask-port"
name_of Rounds = codes "--rounds"
name_of Address = codes "--address"
name_of AskAddress = codes "--ask-address"
name_of Ports = codes "--ports"
name_of Idle = codes "--idle"
name_of AskIdle = codes "--ask-idle"
name_of LogOption = codes "--log"
name_of FeedFrom = codes "--feed-from"
name_of AskFrom = codes "--ask-from"
name_of Lenient = flag

-- the value is of the option's form
abbrev pub IsValueOf : ServeOption → List ℕ → Type 0
IsValueOf Feeds value = (n : ℕ) × IsNumberText value n × (1 ≤ n) × (n ≤ most_places)
IsValueOf Askers value = (n : ℕ) × IsNumberText value n × (1 ≤ n) × (n ≤ most_places)
IsValueOf FeedPort value = (n : ℕ) × IsNumberText value n × (1 ≤ n) × (n ≤ 65535)
IsValueOf AskPort value = (n : ℕ) × IsNumberText value n × (1 ≤ n) × (n ≤ 65535)
IsValueOf Rounds value = (n : ℕ) × IsRounds value n
IsValueOf Address value = (a : AddressValue) × IsAddressText value a
IsValueOf AskAddress value = (a : AddressValue) × IsAddressText value a
IsValueOf Ports value = (shared : Bool) × IsPorts value shared
IsValueOf Idle value = (time : Option ℕ) × IsSeconds value time
IsValueOf AskIdle value = (time : Option ℕ) × IsSeconds value time
IsValueOf LogOption value = (log : Log) × IsLog value log
IsValueOf FeedFrom value = (allowed : List PrefixValue) × IsAllowed value allowed
IsValueOf AskFrom value = (allowed : List PrefixValue) × IsAllowed value allowed
IsValueOf Lenient value = value ≡ []

-- the word is an option, or an option with its value
abbrev pub BeginsSetting : List ℕ → Type 0
BeginsSetting word = (option : ServeOption) × ((word ≡ name_of option) ⊎ ((value : List ℕ) × (word ≡ name_of option ++ equals_sign ∷ value)))

-- these settings stand in front of the words, one after another, and these are left
abbrev pub StandInFront : List Setting → List (List ℕ) → List (List ℕ) → Type 0
StandInFront [] words left = words ≡ left
StandInFront (setting ∷ settings) words left = (others : List (List ℕ)) × IsInFront setting words others × StandInFront settings others left

-- the word begins with `--`
abbrev pub IsDashed : List ℕ → Type 0
IsDashed word = (more : List ℕ) × (word ≡ 45 ∷ 45 ∷ more)

-- there is nothing, or what begins with `--`
abbrev pub LacksValue : List (List ℕ) → Type 0
LacksValue words = (words ≡ []) ⊎ ((word : List ℕ) × (others : List (List ℕ)) × (words ≡ word ∷ others) × IsDashed word)

-- the settings give the name
abbrev pub IsGiven : List ℕ → List Setting → Type 0
IsGiven name settings = (value : List ℕ) × (more : List (List ℕ)) × (values_of name settings ≡ value ∷ more)

-- Nothing is wrong with the settings: each option is given once at most, with a value of its form.
abbrev pub AreSound : List Setting → Type 0
AreSound settings = (option : ServeOption) → MayGive (name_of option) (λ value. IsValueOf option value) ⊤ settings

-- the same of the settings in front of the words, and these are left
abbrev pub StandSound : List Setting → List (List ℕ) → List (List ℕ) → Type 0
StandSound settings words left = StandInFront settings words left × AreSound settings

-- the place of an option among those that were seen
abbrev pub index_of : ServeOption → ℕ
index_of Feeds = 0
index_of Askers = 1
index_of FeedPort = 2
index_of AskPort = 3
index_of Rounds = 4
index_of Address = 5
index_of AskAddress = 6
index_of Ports = 7
index_of Idle = 8
index_of AskIdle = 9
index_of LogOption = 11
index_of FeedFrom = 12
index_of AskFrom = 13
index_of Lenient = 10

abbrev pub is_seen : List Bool → ServeOption → Bool
is_seen seen option = slice_index_or seen (index_of option) false

-- the option was seen, and is given once with a value of its form; or it wasn't, and isn't given
abbrev pub Tells : Bool → ServeOption → List Setting → Type 0
Tells true option settings = Gives (name_of option) (λ value. IsValueOf option value) settings
Tells false option settings = values_of (name_of option) settings ≡ []

-- the options that were seen are those that are given
abbrev pub Knows : List Bool → List Setting → Type 0
Knows seen settings = (option : ServeOption) → Tells (is_seen seen option) option settings

-- what is wrong with the setting that these words begin with
abbrev pub FrontComplains : Complaint → List ℕ → List (List ℕ) → Type 0
FrontComplains (NoOption named) word more = (named.now ≡ word) × (BeginsSetting word → ⊥)
FrontComplains (HasValue named) word more = (named.now ≡ word) × ((value : List ℕ) × (word ≡ flag ++ equals_sign ∷ value))
FrontComplains (NoValue option) word more = (word ≡ name_of option) × IsOption (name_of option) × LacksValue more
FrontComplains complaint word more = ⊥

-- the settings open so many ports from the first one on
pub record OpenPorts (port places : List ℕ) (usual_port usual_places first count : ℕ) (settings : List Setting) : Type 0 where
  pub number : ℕ
  pub shared : Bool
  pub is_first : MayGive port (λ value. IsNumberText value first) (first ≡ usual_port) settings
  pub is_number : MayGive places (λ value. IsNumberText value number) (number ≡ usual_places) settings
  pub is_shared : ArePorts shared settings
  pub counted : count ≡ ports_for shared number

abbrev pub OpenFeeds : ℕ → ℕ → List Setting → Type 0
OpenFeeds first count settings = OpenPorts (codes "--feed-port") (codes "--feeds") 11019 64 first count settings

abbrev pub OpenAsks : ℕ → ℕ → List Setting → Type 0
OpenAsks first count settings = OpenPorts (codes "--ask-port") (codes "--askers") 11120 16 first count settings

-- What is wrong with the words after `serve`. It is the first fault from the left: nothing is wrong with the settings in front of
-- it. Where ports are wrong, all the words are settings with which nothing is wrong by themselves.
abbrev pub ServeComplains : Complaint → List (List ℕ) → Type 0
ServeComplains (NoOption word) given = (settings : List Setting) × (left : List (List ℕ)) × StandSound settings given (word.now ∷ left) × (BeginsSetting word.now → ⊥)
ServeComplains (HasValue word) given = (settings : List Setting) × (left : List (List ℕ)) × StandSound settings given (word.now ∷ left) × ((value : List ℕ) × (word.now ≡ flag ++ equals_sign ∷ value))
ServeComplains (NoValue option) given = (settings : List Setting) × (left : List (List ℕ)) × StandSound settings given (name_of option ∷ left) × IsOption (name_of option) × LacksValue left
ServeComplains (Twice option) given = (settings : List Setting) × (left : List (List ℕ)) × StandSound settings given left × IsGiven (name_of option) settings × ((value : List ℕ) × (others : List (List ℕ)) × IsInFront (name_of option, value) left others)
ServeComplains (BadValue option value) given =
    (settings : List Setting) × (left others : List (List ℕ)) × StandSound settings given left × (values_of (name_of option) settings ≡ []) × IsInFront (name_of option, value.now) left others × (IsValueOf option value.now → ⊥)
ServeComplains (PastEnd FeedPort first count) given = Has (λ settings. AreSound settings × OpenFeeds first count settings) given × (65536 < first + count)
ServeComplains (PastEnd AskPort first count) given = Has (λ settings. AreSound settings × OpenAsks first count settings) given × (65536 < first + count)
ServeComplains (PastEnd option first count) given = ⊥
ServeComplains (Meet feed feeds ask askers) given = Has (λ settings. AreSound settings × OpenFeeds feed feeds settings × OpenAsks ask askers settings) given × (ask < feed + feeds) × (feed < ask + askers)
ServeComplains complaint given = ⊥

-- the words are those of a call of `serve`
abbrev pub AreServe : List (List ℕ) → Type 0
AreServe words = (serve : ServeWords) × (lenient : Bool) × IsServe serve lenient words

-- the words are a call
abbrev pub AreCall : List (List ℕ) → Type 0
AreCall words = (call : Call) × IsCall call words

-- the words after this one are joined, which takes memory
abbrev pub JoinsWords : List ℕ → Type 0
JoinsWords first = (first ≡ codes "replay") ⊎ (first ≡ codes "recall")

-- the same of the first of these
abbrev pub JoinWords : List (List ℕ) → Type 0
JoinWords words = (first : List ℕ) × (given : List (List ℕ)) × (words ≡ first ∷ given) × JoinsWords first

-- the words stand in front of a query, and ask nothing by themselves: `steps`, `full` or both
abbrev pub AreFrontWords : List (List ℕ) → Type 0
AreFrontWords words = (words ≡ codes "steps" ∷ []) ⊎ ((words ≡ codes "full" ∷ []) ⊎ (words ≡ codes "steps" ∷ codes "full" ∷ []))

-- that many of the first words ask something, or are those alone that stand in front of a query
abbrev pub IsBeginning : ℕ → List (List ℕ) → Type 0
IsBeginning count asked = AreFrontWords (take count asked) ⊎ ((ask : AskValue) × IsAsking (join_with_byte space (take count asked)) ask)

-- the same, or 0
abbrev pub IsGoodBeginning : ℕ → List (List ℕ) → Type 0
IsGoodBeginning good asked = (good ≡ 0) ⊎ IsBeginning good asked

-- the same, and none that is longer, of those below this number
abbrev pub IsBestBeginning : ℕ → ℕ → List (List ℕ) → Type 0
IsBestBeginning good end asked = IsGoodBeginning good asked × ((more : ℕ) → more < end → good < more → IsBeginning more asked → ⊥)

-- what is wrong with the words
abbrev pub Complains : Complaint → List (List ℕ) → Type 0
Complains NoWords words = words ≡ []
Complains (NoCommand word) words = (given : List (List ℕ)) × (words ≡ word.now ∷ given) × (IsCommandName word.now → ⊥)
Complains (NoQuery asked good) words =
    AreAsked (map string_bytes asked.now) words × ((ask : AskValue) → IsOfferedAsk (join_with_byte space (map string_bytes asked.now)) ask → ⊥)
    × IsBestBeginning good (length asked.now) (map string_bytes asked.now)
Complains Quit words = (asked : List (List ℕ)) × AreAsked asked words × IsOfferedAsk (join_with_byte space asked) session_end × ((ask : AskValue) → IsOfferedAsk (join_with_byte space asked) ask → ask ≡ session_end)
Complains (Needs command needs) words = LacksWords command.now words
Complains (Extra command word) words = HasExtra command.now word.now words
Complains (NotA word wanted) words = IsMisfit word.now words
Complains complaint words = (given : List (List ℕ)) × (words ≡ codes "serve" ∷ given) × ServeComplains complaint given

-- a complaint is never about a command
abbrev pub ComplainsOfNoCall : Type 0
ComplainsOfNoCall = (complaint : Complaint) (words : List (List ℕ)) → Complains complaint words → (call : Call) → IsCall call words → ⊥
