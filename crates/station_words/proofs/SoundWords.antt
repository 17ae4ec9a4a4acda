-- What words of `serve` ask for, with which nothing is wrong.
use Rattle.std.proofs.Common.{◌≡◌, ℕ, ◌+◌, ◌≤◌, Bool, true, false, List, [], ◌∷◌, ◌++◌, Option, None, Some, codes, refl, sym, ap, subst, ◌∙◌, inl, inr, arith}
use Rattle.std.specs.Prelude.{◌⊎◌, ⊤}
use Rattle.bmp_specs.specs.AddressText.{IsAddressText}
use Rattle.bmp_specs.specs.NumberText.{IsNumberText}
use Rattle.bmp_specs.specs.Values.{AddressValue, PrefixValue}
use Rattle.ip_prefix.proofs.PrefixReading.{same_number}
use Rattle.station_doors.specs.Doors.{most_places}
use Rattle.station_doors.specs.declared.listening.Listening.{Listening}
use Rattle.station_doors.specs.declared.listening.Log.{Log}
use Rattle.station_doors.specs.declared.listening.Log.TheVariants.{Routers}
use Rattle.station_words.specs.Complaints.{AreServe, AreSound, FrontComplains, IsDashed, IsNumberWithin, IsValueOf, LacksValue, StandInFront, name_of}
use Rattle.station_words.specs.ServeWords.{ArePorts, AreSettings, Gives, IsAllowed, IsInFront, IsLog, IsOption, IsRounds, IsSeconds, MayGive, Setting, flag, forever, loopback, ports_for, values_of}
use Rattle.station_words.specs.declared.complaint.Complaint.{Complaint}
use Rattle.station_words.specs.declared.complaint.Complaint.TheVariants.{NoWords, NoCommand, NoQuery, Quit, Needs, Extra, NotA, NoOption, NoValue, Twice, HasValue, BadValue, PastEnd, Meet}
use Rattle.station_words.specs.declared.serve_options.ServeOption.{ServeOption}
use Rattle.station_words.specs.declared.serve_options.ServeOption.TheVariants.{Feeds, Askers, FeedPort, AskPort, Rounds, Address, AskAddress, Ports, Idle, AskIdle, Log as LogOption, FeedFrom, AskFrom, Lenient}
use Rattle.station_words.specs.declared.serve_words.ServeWords.{ServeWords}
use Rattle.station_words.proofs.ComplaintLaws.{begins, behind, no_more, no_valued_flag, not_plain_value, only_one, stands_there, with_value}
use Rattle.station_words.proofs.OptionServe.{plain_allowed, plain_log, plain_number, plain_ports, plain_rounds, plain_seconds, plain_text_in}
use Rattle.station_words.proofs.OptionWalk.{IsPlainValue}
use Rattle.station_words.proofs.Settings.{same_settings}

-- a value of its option's form is no option
plain_value : (option : ServeOption) (value : List ℕ) → IsValueOf option value → IsPlainValue value
plain_value Feeds value (n, is, least, most) = plain_number value n is
plain_value Askers value (n, is, least, most) = plain_number value n is
plain_value FeedPort value (n, is, least, most) = plain_number value n is
plain_value AskPort value (n, is, least, most) = plain_number value n is
plain_value Rounds value (n, is) = plain_rounds value n is
plain_value Address value (a, is) = plain_text_in a.family value a.octets is
plain_value AskAddress value (a, is) = plain_text_in a.family value a.octets is
plain_value Ports value (shared, is) = plain_ports value shared is
plain_value Idle value (time, is) = plain_seconds value time is
plain_value AskIdle value (time, is) = plain_seconds value time is
plain_value LogOption value (log, is) = plain_log value log is
plain_value FeedFrom value (allowed, is) = plain_allowed value allowed is
plain_value AskFrom value (allowed, is) = plain_allowed value allowed is
plain_value Lenient value is = subst IsPlainValue (sym is) (record { dashes = refl; long = refl; short = refl })

-- a value that is given is of its option's form
pub given_value : (settings : List Setting) → AreSound settings → (option : ServeOption) (value : List ℕ) → values_of (name_of option) settings ≡ value ∷ [] → IsValueOf option value
given_value settings sound option value once = go (sound option)
  where
    go : MayGive (name_of option) (λ v. IsValueOf option v) ⊤ settings → IsValueOf option value
    go (inl (v, again, is)) =
        let both : v ∷ [] ≡ value ∷ [] = sym again ∙ once in
        let same : v ≡ value = cc both in
        subst (λ (x : List ℕ). IsValueOf option x) same is
    go (inr (none, so)) = absurd (cc (sym none ∙ once))

module _ (settings : List Setting) (given : List (List ℕ)) (are : AreSettings settings given) (sound : AreSound settings) (front : List Setting) (left : List (List ℕ)) (stand : StandInFront front given left) where
  -- the setting that stands next is the only one of its option, and its value is of its form
  pub value_is : (others : List (List ℕ)) (option : ServeOption) (value : List ℕ) → IsInFront (name_of option, value) left others → (values_of (name_of option) front ≡ []) × (values_of (name_of option) settings ≡ value ∷ []) × IsValueOf option value
  value_is others option value first = go (stands_there settings given are front left others option value stand first) (sound option)
    where
      go : (rest : List (List ℕ)) × (values_of (name_of option) settings ≡ values_of (name_of option) front ++ value ∷ rest) → MayGive (name_of option) (λ v. IsValueOf option v) ⊤ settings → (values_of (name_of option) front ≡ []) × (values_of (name_of option) settings ≡ value ∷ []) × IsValueOf option value
      go (rest, there) (inl (v, once, is)) =
          let o = only_one (values_of (name_of option) front) rest value v (sym there ∙ once) in
          (o.0, once ∙ ap (λ (x : List ℕ). x ∷ []) (sym o.1), subst (λ (x : List ℕ). IsValueOf option x) (sym o.1) is)
      go (rest, there) (inr (none, so)) = absurd (no_more (values_of (name_of option) front) rest value (sym there ∙ none))

  -- where no words are left, there are no further settings
  pub all_values : (name : List ℕ) → AreSettings front given → values_of name settings ≡ values_of name front
  all_values name also = ap (values_of name) (same_settings settings front given are also)

-- nothing is wrong with what stands next
module _ (settings : List Setting) (given : List (List ℕ)) (are : AreSettings settings given) (sound : AreSound settings) (front : List Setting) (word : List ℕ) (more : List (List ℕ)) (stand : StandInFront front given (word ∷ more)) where
  has_value : (u : Setting) (others : List (List ℕ)) (option : ServeOption) → IsInFront u (word ∷ more) others → word ≡ name_of option → IsOption (name_of option) → LacksValue more → ⊥
  has_value (name, value) others option first same named lacks = go lacks
    where
      w : (name ≡ name_of option) × (more ≡ value ∷ others)
      w = with_value (name, value) (name_of option) more others named (subst (λ (x : List ℕ). IsInFront (name, value) (x ∷ more) others) same first)

      go : LacksValue more → ⊥
      go (inl none) = let h : value ∷ others ≡ [] = sym w.1 ∙ none in cc h
      go (inr (next, rest, is, dashed)) =
          let h : value ∷ others ≡ next ∷ rest = sym w.1 ∙ is in
          let one : value ≡ next = cc h in
          let here : IsInFront (name_of option, value) (word ∷ more) others = subst (λ (n : List ℕ). IsInFront (n, value) (word ∷ more) others) w.0 first in
          let found = value_is settings given are sound front (word ∷ more) stand others option value here in
          not_plain_value value (subst IsDashed (sym one) dashed) (plain_value option value found.2)

  is_right : (complaint : Complaint) (u : Setting) (others : List (List ℕ)) → IsInFront u (word ∷ more) others → FrontComplains complaint word more → ⊥
  is_right (NoOption named) u others first (same, none) = none (begins u word more others first)
  is_right (HasValue named) u others first (same, (value, is)) = no_valued_flag u word value more others is first
  is_right (NoValue option) u others first (same, named, lacks) = has_value u others option first same named lacks
  is_right NoWords u others first none = none
  is_right (NoCommand w) u others first none = none
  is_right (NoQuery asked good) u others first none = none
  is_right Quit u others first none = none
  is_right (Needs command needs) u others first none = none
  is_right (Extra command w) u others first none = none
  is_right (NotA w wanted) u others first none = none
  is_right (Twice option) u others first none = none
  is_right (BadValue option value) u others first none = none
  is_right (PastEnd option port count) u others first none = none
  is_right (Meet feed feeds ask askers) u others first none = none

  pub no_fault : (complaint : Complaint) → FrontComplains complaint word more → ⊥
  no_fault complaint fault = go (behind front settings given (word ∷ more) stand are)
    where
      go : (us : List Setting) × (settings ≡ front ++ us) × AreSettings us (word ∷ more) → ⊥
      go ([], same, none) = absurd (cc none)
      go (u ∷ us, same, (others, first, rest)) = is_right complaint u others first fault

-- ---- the call that they are

-- what is given, or what is usual
chosen : {A : Type 0} (name : List ℕ) (Is : A → List ℕ → Type 0) (usual : A) (ss : List Setting) → MayGive name (λ value. (x : A) × Is x value) ⊤ ss → (x : A) × MayGive name (λ value. Is x value) (x ≡ usual) ss
chosen name Is usual ss (inl (value, once, (x, is))) = (x, inl (value, once, is))
chosen name Is usual ss (inr (none, so)) = (usual, inr (none, refl))

-- a number that is given is within its bounds, and so is the usual one
number_within : (name : List ℕ) (usual least most n : ℕ) (ss : List Setting) → least ≤ usual → usual ≤ most → MayGive name (λ value. IsNumberWithin least most value) ⊤ ss → MayGive name (λ value. IsNumberText value n) (n ≡ usual) ss → (least ≤ n) × (n ≤ most)
number_within name usual least most n ss low high (inl (v, once, (m, is, above, below))) (inl (w, again, also)) =
    let both : v ∷ [] ≡ w ∷ [] = sym once ∙ again in
    let same : v ≡ w = cc both in
    let number = same_number v n m (subst (λ (t : List ℕ). IsNumberText t n) (sym same) also) is in
    (omega (arith, number, above), omega (arith, number, below))
number_within name usual least most n ss low high (inl (v, once, is)) (inr (none, left)) = absurd (cc (sym once ∙ none))
number_within name usual least most n ss low high (inr (none, so)) (inl (w, again, also)) = absurd (cc (sym none ∙ again))
number_within name usual least most n ss low high (inr (none, so)) (inr (also, left)) = (omega (arith, left, low), omega (arith, left, high))

-- whether the flag is given
flagged : (ss : List Setting) → MayGive flag (λ value. value ≡ []) ⊤ ss → (lenient : Bool) × MayGive flag (λ value. lenient ≡ true) (lenient ≡ false) ss
flagged ss (inl (value, once, is)) = (true, inl (value, once, refl))
flagged ss (inr (none, so)) = (false, inr (none, refl))

pub are_serve : (given : List (List ℕ)) (settings : List Setting) → AreSettings settings given → AreSound settings → (feeds askers feed ask lanes places : ℕ) (shared : Bool)
    → MayGive (codes "--feeds") (λ value. IsNumberText value feeds) (feeds ≡ 64) settings → MayGive (codes "--askers") (λ value. IsNumberText value askers) (askers ≡ 16) settings
    → MayGive (codes "--feed-port") (λ value. IsNumberText value feed) (feed ≡ 11019) settings → MayGive (codes "--ask-port") (λ value. IsNumberText value ask) (ask ≡ 11120) settings
    → ArePorts shared settings → lanes ≡ ports_for shared feeds → places ≡ ports_for shared askers → (feed + lanes ≤ 65536) × (ask + places ≤ 65536) × ((feed + lanes ≤ ask) ⊎ (ask + places ≤ feed)) → AreServe given
are_serve given settings are sound feeds askers feed ask lanes places shared is_feeds is_askers is_feed is_ask are_ports is_lanes is_places fits =
    let all_feeds = number_within (codes "--feeds") 64 1 most_places feeds settings (omega arith) (omega arith) (sound Feeds) is_feeds in
    let all_askers = number_within (codes "--askers") 16 1 most_places askers settings (omega arith) (omega arith) (sound Askers) is_askers in
    let first_feed = number_within (codes "--feed-port") 11019 1 65535 feed settings (omega arith) (omega arith) (sound FeedPort) is_feed in
    let first_ask = number_within (codes "--ask-port") 11120 1 65535 ask settings (omega arith) (omega arith) (sound AskPort) is_ask in
    let rounds = chosen (codes "--rounds") (λ (n : ℕ) (value : List ℕ). IsRounds value n) forever settings (sound Rounds) in
    let address = chosen (codes "--address") (λ (a : AddressValue) (value : List ℕ). IsAddressText value a) loopback settings (sound Address) in
    let ask_address = chosen (codes "--ask-address") (λ (a : AddressValue) (value : List ℕ). IsAddressText value a) address.0 settings (sound AskAddress) in
    let idle = chosen (codes "--idle") (λ (time : Option ℕ) (value : List ℕ). IsSeconds value time) None settings (sound Idle) in
    let ask_idle = chosen (codes "--ask-idle") (λ (time : Option ℕ) (value : List ℕ). IsSeconds value time) None settings (sound AskIdle) in
    let log = chosen (codes "--log") (λ (l : Log) (value : List ℕ). IsLog value l) Routers settings (sound LogOption) in
    let feed_from = chosen (codes "--feed-from") (λ (allowed : List PrefixValue) (value : List ℕ). IsAllowed value allowed) [] settings (sound FeedFrom) in
    let ask_from = chosen (codes "--ask-from") (λ (allowed : List PrefixValue) (value : List ℕ). IsAllowed value allowed) [] settings (sound AskFrom) in
    let flags = flagged settings (sound Lenient) in
    let at : Listening = record {
      address = address.0;
      ask_address = ask_address.0;
      feeds = feeds;
      askers = askers;
      feed_port = feed;
      ask_port = ask;
      shared = shared;
      idle = idle.0;
      ask_idle = ask_idle.0;
      log = log.0;
      feed_from = feed_from.0;
      ask_from = ask_from.0;
    } in
    let serve : ServeWords = record { at = at; rounds = rounds.0 } in (
      serve,
      flags.0,
      record {
        settings = settings;
        are_settings = are;
        feeds = is_feeds;
        askers = is_askers;
        feed_port = is_feed;
        ask_port = is_ask;
        rounds = rounds.1;
        address = address.1;
        ask_address = ask_address.1;
        ports = are_ports;
        idle = idle.1;
        ask_idle = ask_idle.1;
        log = log.1;
        feed_from = feed_from.1;
        ask_from = ask_from.1;
        flagged = flags.1;
        may_serve = record {
          feeds = all_feeds;
          askers = all_askers;
          feed_ports = (first_feed.0, omega (arith, is_lanes, fits.0));
          ask_ports = (first_ask.0, omega (arith, is_places, fits.1));
          apart = elim fits.2 [
            | inl below ↦ inl (omega (arith, is_lanes, below))
            | inr above ↦ inr (omega (arith, is_places, above))
          ];
        };
      },
    )
