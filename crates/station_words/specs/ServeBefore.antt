-- What the words of `serve` were while five of its options had to be given, and `--ask-address`, `--log`, `--feed-from` and
-- `--ask-from` weren't known.
use Rattle.std.specs.Prelude.{◌≡◌, ◌↔◌, ℕ, Bool, true, false, List, [], codes, None}
use Rattle.bmp_specs.specs.AddressText.{IsAddressText}
use Rattle.bmp_specs.specs.NumberText.{IsNumberText}
use Rattle.station_doors.specs.declared.listening.Listening.{Listening}
use Rattle.station_doors.specs.declared.listening.Log.TheVariants.{Routers}
use Rattle.station_words.specs.ServeWords.{Setting, AreSettings, Gives, IsPorts, IsRounds, IsSeconds, IsServe, MayGive, MayServe, flag, is_given, loopback, values_of}
use Rattle.station_words.specs.declared.serve_words.ServeWords.{ServeWords}

-- The words are the settings of this call, each once, in any order; those from the address on may be left out.
pub record WasServe (serve : ServeWords) (lenient : Bool) (words : List (List ℕ)) : Type 0 where
  pub settings : List Setting
  pub are_settings : AreSettings settings words
  pub feeds : Gives (codes "--feeds") (λ value. IsNumberText value serve.at.feeds) settings
  pub askers : Gives (codes "--askers") (λ value. IsNumberText value serve.at.askers) settings
  pub feed_port : Gives (codes "--feed-port") (λ value. IsNumberText value serve.at.feed_port) settings
  pub ask_port : Gives (codes "--ask-port") (λ value. IsNumberText value serve.at.ask_port) settings
  pub rounds : Gives (codes "--rounds") (λ value. IsRounds value serve.rounds) settings
  pub address : MayGive (codes "--address") (λ value. IsAddressText value serve.at.address) (serve.at.address ≡ loopback) settings
  pub ports : MayGive (codes "--ports") (λ value. IsPorts value serve.at.shared) (serve.at.shared ≡ false) settings
  pub idle : MayGive (codes "--idle") (λ value. IsSeconds value serve.at.idle) (serve.at.idle ≡ None) settings
  pub ask_idle : MayGive (codes "--ask-idle") (λ value. IsSeconds value serve.at.ask_idle) (serve.at.ask_idle ≡ None) settings
  pub flagged : MayGive flag (λ value. lenient ≡ true) (lenient ≡ false) settings
  pub may_serve : MayServe serve
  -- there was no other
  pub no_ask_address : values_of (codes "--ask-address") settings ≡ []
  pub no_log : values_of (codes "--log") settings ≡ []
  pub no_feed_from : values_of (codes "--feed-from") settings ≡ []
  pub no_ask_from : values_of (codes "--ask-from") settings ≡ []

-- all five are given, and the new ones aren't
pub record SaysAsBefore (settings : List Setting) : Type 0 where
  pub feeds : is_given (codes "--feeds") settings ≡ true
  pub askers : is_given (codes "--askers") settings ≡ true
  pub feed_port : is_given (codes "--feed-port") settings ≡ true
  pub ask_port : is_given (codes "--ask-port") settings ≡ true
  pub rounds : is_given (codes "--rounds") settings ≡ true
  pub no_ask_address : values_of (codes "--ask-address") settings ≡ []
  pub no_log : values_of (codes "--log") settings ≡ []
  pub no_feed_from : values_of (codes "--feed-from") settings ≡ []
  pub no_ask_from : values_of (codes "--ask-from") settings ≡ []

-- what was asked for, before there were words for it
pub record IsAsBefore (at : Listening) : Type 0 where
  -- clients are listened for where routers are
  pub ask_address : at.ask_address ≡ at.address
  -- routers that come and go are told
  pub log : at.log ≡ Routers
  -- they may come from anywhere
  pub feed_from : at.feed_from ≡ []
  pub ask_from : at.ask_from ≡ []

-- Words that were a call of `serve` are that call: they ask for the same, and what they couldn't say is as it was. Words that
-- give the five and none of the new ones are no other call than they were.
abbrev pub KeepsServe : Type 0
KeepsServe = (serve : ServeWords) (lenient : Bool) (words : List (List ℕ))
    → (WasServe serve lenient words × IsAsBefore serve.at) ↔ ((is : IsServe serve lenient words) × SaysAsBefore is.settings)
