use Rattle.std.proofs.Common.{◌≡◌, codes, sym, subst, ◌∙◌, arith}
use Rattle.bmp_specs.specs.AddressText.{IsAddressText}
use Rattle.bmp_specs.specs.Values.{AddressValue}
use Rattle.station_words.specs.ServeWords.{MayGive}
use Rattle.station_words.proofs.Settings.{holds_in, same_bounds, some_ports}
use Rattle.station_words.proofs.serve_words.serve_of.Goals as goal

pub returns-in_default-clause-none : goal.returns-in_default-clause-none
returns-in_default-clause-none c = λ words are serve lenient is. c.in_default.ensures.none words are serve.at.feeds (is.settings, is.are_settings, is.feeds)

pub returns-in_default-find_number-clause-none : goal.returns-in_default-find_number-clause-none
returns-in_default-find_number-clause-none c = λ words are serve lenient is. c.in_default-find_number.ensures.none words are serve.at.askers (is.settings, is.are_settings, is.askers)

pub returns-in_default-find_number-2-clause-none : goal.returns-in_default-find_number-2-clause-none
returns-in_default-find_number-2-clause-none c = λ words are serve lenient is. c.in_default-find_number-2.ensures.none words are serve.at.feed_port (is.settings, is.are_settings, is.feed_port)

pub returns-in_default-find_number-3-clause-none : goal.returns-in_default-find_number-3-clause-none
returns-in_default-find_number-3-clause-none c = λ words are serve lenient is. c.in_default-find_number-3.ensures.none words are serve.at.ask_port (is.settings, is.are_settings, is.ask_port)

pub returns-in_default-find_rounds-clause-none : goal.returns-in_default-find_rounds-clause-none
returns-in_default-find_rounds-clause-none c = λ words are serve lenient is. c.in_default-find_rounds.ensures.none words are serve.rounds (is.settings, is.are_settings, is.rounds)

pub returns-in_default-find_address-clause-none : goal.returns-in_default-find_address-clause-none
returns-in_default-find_address-clause-none c = λ words are serve lenient is.
    c.in_default-find_address.ensures.none words are serve.at.address (is.settings, is.are_settings, subst (λ (a : AddressValue). MayGive (codes "--address") (λ value. IsAddressText value serve.at.address) (serve.at.address ≡ a) is.settings) (sym c.home.ensures) is.address)

pub returns-in_default-find_address-2-clause-none : goal.returns-in_default-find_address-2-clause-none
returns-in_default-find_address-2-clause-none c = λ words are serve lenient is.
    let same = c.in-Some-find_address.ensures.only words are serve.at.address (is.settings, is.are_settings, subst (λ (a : AddressValue). MayGive (codes "--address") (λ value. IsAddressText value serve.at.address) (serve.at.address ≡ a) is.settings) (sym c.home.ensures) is.address) in
    c.in_default-find_address-2.ensures.none words are serve.at.ask_address (is.settings, is.are_settings, subst (λ (a : AddressValue). MayGive (codes "--ask-address") (λ value. IsAddressText value serve.at.ask_address) (serve.at.ask_address ≡ a) is.settings) same is.ask_address)

pub returns-in_default-find_ports-clause-none : goal.returns-in_default-find_ports-clause-none
returns-in_default-find_ports-clause-none c = λ words are serve lenient is. c.in_default-find_ports.ensures.none words are serve.at.shared (is.settings, is.are_settings, is.ports)

pub returns-in_default-find_seconds-clause-none : goal.returns-in_default-find_seconds-clause-none
returns-in_default-find_seconds-clause-none c = λ words are serve lenient is. c.in_default-find_seconds.ensures.none words are serve.at.idle (is.settings, is.are_settings, is.idle)

pub returns-in_default-find_seconds-2-clause-none : goal.returns-in_default-find_seconds-2-clause-none
returns-in_default-find_seconds-2-clause-none c = λ words are serve lenient is. c.in_default-find_seconds-2.ensures.none words are serve.at.ask_idle (is.settings, is.are_settings, is.ask_idle)

pub returns-in_default-find_log-clause-none : goal.returns-in_default-find_log-clause-none
returns-in_default-find_log-clause-none c = λ words are serve lenient is. c.in_default-find_log.ensures.none words are serve.at.log (is.settings, is.are_settings, is.log)

pub returns-in_default-find_allowed-clause-none : goal.returns-in_default-find_allowed-clause-none
returns-in_default-find_allowed-clause-none c = λ words are serve lenient is. c.in_default-find_allowed.ensures.none words are serve.at.feed_from (is.settings, is.are_settings, is.feed_from)

pub returns-in_default-find_allowed-2-clause-none : goal.returns-in_default-find_allowed-2-clause-none
returns-in_default-find_allowed-2-clause-none c = λ words are serve lenient is. c.in_default-find_allowed-2.ensures.none words are serve.at.ask_from (is.settings, is.are_settings, is.ask_from)

pub returns-in_default-port_of-clause-none : goal.returns-in_default-port_of-clause-none
returns-in_default-port_of-clause-none c = λ words are serve lenient is.
    let same = c.in-Some-find_number-2.ensures.only words are serve.at.feed_port (is.settings, is.are_settings, is.feed_port) in
    omega (arith, same, c.in_default-port_of.ensures.none, some_ports serve.at.shared serve.at.feeds is.may_serve.feeds.0, is.may_serve.feed_ports.1)

pub returns-in_default-port_of-2-clause-none : goal.returns-in_default-port_of-2-clause-none
returns-in_default-port_of-2-clause-none c = λ words are serve lenient is.
    let same = c.in-Some-find_number-3.ensures.only words are serve.at.ask_port (is.settings, is.are_settings, is.ask_port) in
    omega (arith, same, c.in_default-port_of-2.ensures.none, some_ports serve.at.shared serve.at.askers is.may_serve.askers.0, is.may_serve.ask_ports.1)

pub returns-then-may_serve-clause-some : goal.returns-then-may_serve-clause-some
returns-then-may_serve-clause-some c = λ words are lenient has.
    let first = c.in-Some.ensures.some words are in
    record {
      settings = first.0;
      are_settings = first.1;
      feeds = first.2;
      askers = holds_in _ words first.0 first.1 (c.in-Some-find_number.ensures.some words are);
      feed_port = rw c.in-Some-port_of.ensures.some (holds_in _ words first.0 first.1 (c.in-Some-find_number-2.ensures.some words are));
      ask_port = rw c.in-Some-port_of-2.ensures.some (holds_in _ words first.0 first.1 (c.in-Some-find_number-3.ensures.some words are));
      rounds = holds_in _ words first.0 first.1 (c.in-Some-find_rounds.ensures.some words are);
      address = subst (λ (a : AddressValue). MayGive (codes "--address") (λ value. IsAddressText value c.in-Some-find_address.address) (c.in-Some-find_address.address ≡ a) first.0) c.home.ensures (holds_in _ words first.0 first.1 (c.in-Some-find_address.ensures.some words are));
      ask_address = holds_in _ words first.0 first.1 (c.in-Some-find_address-2.ensures.some words are);
      ports = holds_in _ words first.0 first.1 (c.in-Some-find_ports.ensures.some words are);
      idle = holds_in _ words first.0 first.1 (c.in-Some-find_seconds.ensures.some words are);
      ask_idle = holds_in _ words first.0 first.1 (c.in-Some-find_seconds-2.ensures.some words are);
      log = holds_in _ words first.0 first.1 (c.in-Some-find_log.ensures.some words are);
      feed_from = holds_in _ words first.0 first.1 (c.in-Some-find_allowed.ensures.some words are);
      ask_from = holds_in _ words first.0 first.1 (c.in-Some-find_allowed-2.ensures.some words are);
      flagged = holds_in _ words first.0 first.1 has;
      may_serve = c.may_serve.ensures.0 c.if-may_serve.true;
    }

pub returns-else-may_serve-clause-none : goal.returns-else-may_serve-clause-none
returns-else-may_serve-clause-none c = λ words are serve lenient is.
    let feeds = c.in-Some.ensures.only words are serve.at.feeds (is.settings, is.are_settings, is.feeds) in
    let askers = c.in-Some-find_number.ensures.only words are serve.at.askers (is.settings, is.are_settings, is.askers) in
    let feed_port = c.in-Some-find_number-2.ensures.only words are serve.at.feed_port (is.settings, is.are_settings, is.feed_port) in
    let ask_port = c.in-Some-find_number-3.ensures.only words are serve.at.ask_port (is.settings, is.are_settings, is.ask_port) in
    let shared = c.in-Some-find_ports.ensures.only words are serve.at.shared (is.settings, is.are_settings, is.ports) in
    let may = c.may_serve.ensures.1 (same_bounds serve _ feeds askers (feed_port ∙ sym c.in-Some-port_of.ensures.some) (ask_port ∙ sym c.in-Some-port_of-2.ensures.some) shared is.may_serve) in
    cc (may, c.if-may_serve.false)
