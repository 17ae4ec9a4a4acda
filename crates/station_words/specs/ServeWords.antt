-- The words of `serve`: settings in any order.
use Rattle.std.specs.Prelude.{◌≡◌, ℕ, ◌+◌, ◌≤◌, ◌⊎◌, ◌++◌, length, Bool, true, false, not, ◌&&◌, if◌then◌else◌, List, [], ◌∷◌, map, codes, Option, None, Some}
use Rattle.std.specs.List.{AllZip, filter, join_with_byte, list_any}
use Rattle.std.specs.Str.{bytes_eq}
use Rattle.bmp_specs.specs.declared.wire.Family.TheVariants.{V4}
use Rattle.bmp_specs.specs.AddressText.{IsAddressText}
use Rattle.bmp_specs.specs.NumberText.{IsNumberText}
use Rattle.bmp_specs.specs.Prefix.{padded}
use Rattle.bmp_specs.specs.PrefixText.{IsPrefixText}
use Rattle.bmp_specs.specs.Values.{AddressValue, PrefixValue}
use Rattle.station_doors.specs.Doors.{most_places}
use Rattle.station_doors.specs.declared.listening.Log.{Log}
use Rattle.station_doors.specs.declared.listening.Log.TheVariants.{None as NoConnections, Routers, Clients}
use Rattle.station_words.specs.declared.serve_words.ServeWords.{ServeWords}

-- a setting: its name, and its value, which is empty where it has none
abbrev pub Setting : Type 0
Setting = List ℕ × List ℕ

-- the name of a setting that has a value
abbrev pub IsOption : List ℕ → Type 0
IsOption name = (name ≡ codes "--feeds") ⊎ ((name ≡ codes "--askers") ⊎ ((name ≡ codes "--feed-port") ⊎ ((name ≡ codes "--ask-port") ⊎ ((name ≡ codes "--rounds") ⊎ ((name ≡ codes "--address") ⊎ ((name ≡ codes "--ports") ⊎ ((name ≡ codes "--idle") ⊎ ((name ≡ codes "--ask-idle") ⊎ ((name ≡ codes "--ask-address") ⊎ ((name ≡ codes "--log") ⊎ ((name ≡ codes "--feed-from") ⊎ (name ≡ codes "--ask-from"))))))))))))

-- the name of the one that has none
abbrev pub flag : List ℕ
flag = codes "--lenient"

-- `=`
abbrev pub equals_sign : ℕ
equals_sign = 61

-- The setting stands in front of the words, and the others after it.
pub data IsInFront (setting : Setting) (words others : List (List ℕ)) : Type 0 where
  -- `--lenient`
  flag_alone : setting ≡ (flag, []) → words ≡ flag ∷ others → IsInFront setting words others
  -- `--name value`
  two_words : IsOption setting.0 → words ≡ setting.0 ∷ setting.1 ∷ others → IsInFront setting words others
  -- `--name=value`
  one_word : IsOption setting.0 → words ≡ (setting.0 ++ equals_sign ∷ setting.1) ∷ others → IsInFront setting words others

-- the words are these settings, one after another
abbrev pub AreSettings : List Setting → List (List ℕ) → Type 0
AreSettings [] words = words ≡ []
AreSettings (setting ∷ settings) words = (others : List (List ℕ)) × IsInFront setting words others × AreSettings settings others

-- the values that are given for a name
abbrev pub values_of : List ℕ → List Setting → List (List ℕ)
values_of name settings = map (λ setting. setting.1) (filter (λ setting. bytes_eq setting.0 name) settings)

-- the setting is given once, with a value that is this
abbrev pub Gives : List ℕ → (List ℕ → Type 0) → List Setting → Type 0
Gives name Is settings = (value : List ℕ) × (values_of name settings ≡ value ∷ []) × Is value

-- the same, or it isn't given, and then that holds
abbrev pub MayGive : List ℕ → (List ℕ → Type 0) → Type 0 → List Setting → Type 0
MayGive name Is Else settings = Gives name Is settings ⊎ ((values_of name settings ≡ []) × Else)

-- 127.0.0.1
abbrev pub loopback : AddressValue
loopback = record { family = V4; octets = padded (127 ∷ 0 ∷ 0 ∷ 1 ∷ []) }

-- rounds without an end: more connections than a station lives to see
abbrev pub forever : ℕ
forever = 4294967295

-- the number of rounds: a number from 1 to 4,096, or `forever`
abbrev pub IsRounds : List ℕ → ℕ → Type 0
IsRounds value rounds = (IsNumberText value rounds × (1 ≤ rounds) × (rounds ≤ 4096)) ⊎ ((value ≡ codes "forever") × (rounds ≡ forever))

-- whether the ports are shared
abbrev pub IsPorts : List ℕ → Bool → Type 0
IsPorts value true = value ≡ codes "shared"
IsPorts value false = value ≡ codes "each"

-- a number of seconds, at most a day
abbrev pub IsSeconds : List ℕ → Option ℕ → Type 0
IsSeconds value None = ⊥
IsSeconds value (Some n) = IsNumberText value n × (1 ≤ n) × (n ≤ 86400)

-- what is said of connections
abbrev pub IsLog : List ℕ → Log → Type 0
IsLog value NoConnections = value ≡ codes "none"
IsLog value Routers = value ≡ codes "routers"
IsLog value Clients = value ≡ codes "clients"

-- `,`
abbrev pub comma : ℕ
comma = 44

-- the value is prefixes joined by commas, from 1 to 32
pub record IsAllowed (value : List ℕ) (allowed : List PrefixValue) : Type 0 where
  pub texts : List (List ℕ)
  pub joined : value ≡ join_with_byte comma texts
  pub each : AllZip IsPrefixText texts allowed
  pub some : 1 ≤ length allowed
  pub few : length allowed ≤ 32

-- how many ports so many lanes or askers have: one each, or one
abbrev pub ports_for : Bool → ℕ → ℕ
ports_for shared n = if shared then 1 else n

-- The numbers are within what a station takes, and the ports of the lanes and those of the askers are ports and don't
-- meet.
pub record MayServe (serve : ServeWords) : Type 0 where
  pub feeds : (1 ≤ serve.at.feeds) × (serve.at.feeds ≤ most_places)
  pub askers : (1 ≤ serve.at.askers) × (serve.at.askers ≤ most_places)
  pub feed_ports : (1 ≤ serve.at.feed_port) × (serve.at.feed_port + ports_for serve.at.shared serve.at.feeds ≤ 65536)
  pub ask_ports : (1 ≤ serve.at.ask_port) × (serve.at.ask_port + ports_for serve.at.shared serve.at.askers ≤ 65536)
  pub apart : (serve.at.feed_port + ports_for serve.at.shared serve.at.feeds ≤ serve.at.ask_port) ⊎ (serve.at.ask_port + ports_for serve.at.shared serve.at.askers ≤ serve.at.feed_port)

-- the setting is given
abbrev pub is_given : List ℕ → List Setting → Bool
is_given name settings = list_any (λ setting. bytes_eq setting.0 name) settings

-- Where the words don't say it, ports are shared, unless all of these are given: a station whose words say so much and
-- nothing of its ports has one for each lane and each asker.
abbrev pub usually_shared : List Setting → Bool
usually_shared settings = not (is_given (codes "--feeds") settings && is_given (codes "--askers") settings && is_given (codes "--feed-port") settings && is_given (codes "--ask-port") settings && is_given (codes "--rounds") settings)

-- whether the ports are shared
abbrev pub ArePorts : Bool → List Setting → Type 0
ArePorts shared settings = MayGive (codes "--ports") (λ value. IsPorts value shared) (shared ≡ usually_shared settings) settings

-- The words are the settings of this call, each at most once, in any order. What isn't given is what stands here.
pub record IsServe (serve : ServeWords) (lenient : Bool) (words : List (List ℕ)) : Type 0 where
  pub settings : List Setting
  pub are_settings : AreSettings settings words
  pub feeds : MayGive (codes "--feeds") (λ value. IsNumberText value serve.at.feeds) (serve.at.feeds ≡ 64) settings
  pub askers : MayGive (codes "--askers") (λ value. IsNumberText value serve.at.askers) (serve.at.askers ≡ 16) settings
  pub feed_port : MayGive (codes "--feed-port") (λ value. IsNumberText value serve.at.feed_port) (serve.at.feed_port ≡ 11019) settings
  pub ask_port : MayGive (codes "--ask-port") (λ value. IsNumberText value serve.at.ask_port) (serve.at.ask_port ≡ 11120) settings
  pub rounds : MayGive (codes "--rounds") (λ value. IsRounds value serve.rounds) (serve.rounds ≡ forever) settings
  pub address : MayGive (codes "--address") (λ value. IsAddressText value serve.at.address) (serve.at.address ≡ loopback) settings
  pub ask_address : MayGive (codes "--ask-address") (λ value. IsAddressText value serve.at.ask_address) (serve.at.ask_address ≡ serve.at.address) settings
  pub ports : ArePorts serve.at.shared settings
  pub idle : MayGive (codes "--idle") (λ value. IsSeconds value serve.at.idle) (serve.at.idle ≡ None) settings
  pub ask_idle : MayGive (codes "--ask-idle") (λ value. IsSeconds value serve.at.ask_idle) (serve.at.ask_idle ≡ None) settings
  pub log : MayGive (codes "--log") (λ value. IsLog value serve.at.log) (serve.at.log ≡ Routers) settings
  pub feed_from : MayGive (codes "--feed-from") (λ value. IsAllowed value serve.at.feed_from) (serve.at.feed_from ≡ []) settings
  pub ask_from : MayGive (codes "--ask-from") (λ value. IsAllowed value serve.at.ask_from) (serve.at.ask_from ≡ []) settings
  pub flagged : MayGive flag (λ value. lenient ≡ true) (lenient ≡ false) settings
  pub may_serve : MayServe serve

-- the words are settings of which this holds
abbrev pub Has : (List Setting → Type 0) → List (List ℕ) → Type 0
Has Holds words = (settings : List Setting) × AreSettings settings words × Holds settings
