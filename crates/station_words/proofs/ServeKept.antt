-- Words that were a call of `serve` are that call.
use Rattle.std.proofs.Common.{◌≡◌, ℕ, Bool, true, false, List, [], codes, refl, sym, ◌∙◌, inl, inr}
use Rattle.bmp_specs.specs.AddressText.{IsAddressText}
use Rattle.station_words.specs.ServeBefore.{IsAsBefore, KeepsServe, SaysAsBefore, WasServe}
use Rattle.station_words.specs.ServeWords.{Setting, ArePorts, Gives, IsAllowed, IsLog, IsPorts, IsServe, MayGive, is_given, usually_shared, values_of}
use Rattle.station_words.proofs.Settings.{given_none, given_some}

is_given_by : (name : List ℕ) (settings : List Setting) (Is : List ℕ → Type 0) → Gives name Is settings → is_given name settings ≡ true
is_given_by name settings Is gives = given_some name gives.0 [] settings gives.1

-- what is given isn't left out
surely : (name : List ℕ) (settings : List Setting) (Is : List ℕ → Type 0) (Else : Type 0) → is_given name settings ≡ true → MayGive name Is Else settings → Gives name Is settings
surely name settings Is Else given (inl gives) = gives
surely name settings Is Else given (inr (none, holds)) = absurd (cc (sym given ∙ given_none name settings none))

never : (name : List ℕ) (settings : List Setting) (Is : List ℕ → Type 0) (Else : Type 0) → values_of name settings ≡ [] → MayGive name Is Else settings → Else
never name settings Is Else none (inl gives) = absurd (cc (sym none ∙ gives.1))
never name settings Is Else none (inr (also, holds)) = holds

-- a port for each, where all five are given
not_shared : (settings : List Setting) → SaysAsBefore settings → usually_shared settings ≡ false
not_shared settings says =
    let feeds = says.feeds in
    let askers = says.askers in
    let feed_port = says.feed_port in
    let ask_port = says.ask_port in
    let rounds = says.rounds in
    rw (feeds, askers, feed_port, ask_port, rounds) refl

ports_now : (shared : Bool) (settings : List Setting) → SaysAsBefore settings → MayGive (codes "--ports") (λ value. IsPorts value shared) (shared ≡ false) settings → ArePorts shared settings
ports_now shared settings says (inl gives) = inl gives
ports_now shared settings says (inr (none, each)) = inr (none, each ∙ sym (not_shared settings says))

ports_then : (shared : Bool) (settings : List Setting) → SaysAsBefore settings → ArePorts shared settings → MayGive (codes "--ports") (λ value. IsPorts value shared) (shared ≡ false) settings
ports_then shared settings says (inl gives) = inl gives
ports_then shared settings says (inr (none, usual)) = inr (none, usual ∙ not_shared settings says)

pub keeps_serve : KeepsServe
keeps_serve serve lenient words = (now, before)
  where
    now : WasServe serve lenient words × IsAsBefore serve.at → (is : IsServe serve lenient words) × SaysAsBefore is.settings
    now (was, same) =
        let says : SaysAsBefore was.settings = record {
          feeds = is_given_by (codes "--feeds") was.settings _ was.feeds;
          askers = is_given_by (codes "--askers") was.settings _ was.askers;
          feed_port = is_given_by (codes "--feed-port") was.settings _ was.feed_port;
          ask_port = is_given_by (codes "--ask-port") was.settings _ was.ask_port;
          rounds = is_given_by (codes "--rounds") was.settings _ was.rounds;
          no_ask_address = was.no_ask_address;
          no_log = was.no_log;
          no_feed_from = was.no_feed_from;
          no_ask_from = was.no_ask_from;
        } in (
          record {
            settings = was.settings;
            are_settings = was.are_settings;
            feeds = inl was.feeds;
            askers = inl was.askers;
            feed_port = inl was.feed_port;
            ask_port = inl was.ask_port;
            rounds = inl was.rounds;
            address = was.address;
            ask_address = inr (was.no_ask_address, same.ask_address);
            ports = ports_now serve.at.shared was.settings says was.ports;
            idle = was.idle;
            ask_idle = was.ask_idle;
            log = inr (was.no_log, same.log);
            feed_from = inr (was.no_feed_from, same.feed_from);
            ask_from = inr (was.no_ask_from, same.ask_from);
            flagged = was.flagged;
            may_serve = was.may_serve;
          },
          says,
        )

    before : (is : IsServe serve lenient words) × SaysAsBefore is.settings → WasServe serve lenient words × IsAsBefore serve.at
    before (is, says) = (
      record {
        settings = is.settings;
        are_settings = is.are_settings;
        feeds = surely (codes "--feeds") is.settings _ _ says.feeds is.feeds;
        askers = surely (codes "--askers") is.settings _ _ says.askers is.askers;
        feed_port = surely (codes "--feed-port") is.settings _ _ says.feed_port is.feed_port;
        ask_port = surely (codes "--ask-port") is.settings _ _ says.ask_port is.ask_port;
        rounds = surely (codes "--rounds") is.settings _ _ says.rounds is.rounds;
        address = is.address;
        ports = ports_then serve.at.shared is.settings says is.ports;
        idle = is.idle;
        ask_idle = is.ask_idle;
        flagged = is.flagged;
        may_serve = is.may_serve;
        no_ask_address = says.no_ask_address;
        no_log = says.no_log;
        no_feed_from = says.no_feed_from;
        no_ask_from = says.no_ask_from;
      },
      record {
        ask_address = never (codes "--ask-address") is.settings (λ value. IsAddressText value serve.at.ask_address) _ says.no_ask_address is.ask_address;
        log = never (codes "--log") is.settings (λ value. IsLog value serve.at.log) _ says.no_log is.log;
        feed_from = never (codes "--feed-from") is.settings (λ value. IsAllowed value serve.at.feed_from) _ says.no_feed_from is.feed_from;
        ask_from = never (codes "--ask-from") is.settings (λ value. IsAllowed value serve.at.ask_from) _ says.no_ask_from is.ask_from;
      },
    )
