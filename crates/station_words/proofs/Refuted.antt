-- Mistakes that the clauses refuse: each wrong result, at the words that would show it, doesn't meet its clause.
use Rattle.std.proofs.Common.{◌≡◌, ℕ, ◌+◌, Bool, true, false, List, [], ◌∷◌, length, codes, ap, sym, subst, ◌∙◌, refl, inl, inr, arith, lit<}
use Rattle.std.specs.Prelude.{◌⊎◌, ⊤}
use Rattle.std.specs.Borrow.{Bor}
use Rattle.bmp_specs.specs.AddressText.{IsAddressText}
use Rattle.bmp_specs.specs.NumberText.{IsNumberText, most_number}
use Rattle.bmp_specs.specs.Query.{cut}
use Rattle.bmp_specs.specs.Values.{PrefixValue}
use Rattle.ip_prefix.proofs.Decimals.{all_digits}
use Rattle.query_lang.specs.Reading.{words_of}
use Rattle.ask_specs.specs.Asking.{full_routers, plain as plain_query}
use Rattle.ask_specs.specs.Offer.{IsOfferedAsk}
use Rattle.ask_specs.proofs.OfferLaws.{offers_plain}
use Rattle.query_lang.proofs.LineWords.{is_query, line_joined}
use Rattle.station_doors.specs.Doors.{most_places}
use Rattle.station_doors.specs.declared.listening.Log.TheVariants.{Routers, Clients}
use Rattle.station_words.specs.Complaints.{AreCall, AreSound, IsBestBeginning, IsGoodBeginning, IsGiven, IsValueOf, JoinWords, LacksWords, ServeComplains, StandInFront, name_of, no_archive, no_lanes, no_messages, no_prefix, no_query, no_question, no_recalled, no_seed, no_vrps}
use Rattle.station_words.specs.ServeWords.{ArePorts, IsAllowed, IsInFront, IsLog, IsPorts, IsServe, MayGive, MayServe, Setting, flag, flag_alone, one_word, values_of}
use Rattle.station_words.specs.Words.{file_in}
use Rattle.station_words.specs.declared.complaint.Complaint.TheVariants.{BadValue, Meet, NoOption, Twice}
use Rattle.station_words.specs.declared.serve_options.ServeOption.TheVariants.{Lenient, Ports}
use Rattle.station_words.specs.declared.serve_words.ServeWords.{ServeWords}
use Rattle.station_words.proofs.Commands.{no_serve}
use Rattle.station_words.proofs.EmptyLine.{no_line}
use Rattle.station_words.proofs.Settings.{holds_in, not_none, same_front, some_ports}

-- `rov --lenient FILE P` asks for FILE, and for no file called `--lenient`
lenient_is_no_file : file_in true (codes "rov" ∷ codes "--lenient" ∷ codes "F" ∷ codes "10.0.0.0/8" ∷ []) ≡ codes "--lenient" → ⊥
lenient_is_no_file is = absurd (omega (arith, ap length is))

-- the one port of all routers isn't that of all clients
one_port_is_not_for_both : (serve : ServeWords) → serve.at.shared ≡ true → serve.at.ask_port ≡ serve.at.feed_port → MayServe serve → ⊥
one_port_is_not_for_both serve shared same may =
    let feeds = some_ports serve.at.shared serve.at.feeds may.feeds.0 in
    let askers = some_ports serve.at.shared serve.at.askers may.askers.0 in
    elim may.apart [
      | inl apart ↦ absurd (omega (arith, same, feeds, apart))
      | inr apart ↦ absurd (omega (arith, same, askers, apart))
    ]

-- routers are no more than may be
one_more_router_is_too_many : (serve : ServeWords) → serve.at.feeds ≡ most_places + 1 → MayServe serve → ⊥
one_more_router_is_too_many serve is may = absurd (omega (arith, is, may.feeds.1))

-- four of the five options, and `--idle`
abbrev four_and_idle : List Setting
four_and_idle = (codes "--feeds", codes "2") ∷ (codes "--askers", codes "1") ∷ (codes "--feed-port", codes "5000") ∷ (codes "--ask-port", codes "6000") ∷ (codes "--idle", codes "9") ∷ []

-- `--idle` isn't one of the five options that give each router and client a port of its own
idle_is_not_among_the_five : ArePorts false four_and_idle → ⊥
idle_is_not_among_the_five (inl (value, once, is)) = absurd (cc once)
idle_is_not_among_the_five (inr (none, usual)) = absurd (cc usual)

-- what the words give for where clients are listened for
abbrev GivesAskAddress : ServeWords → List Setting → Type 0
GivesAskAddress serve settings = MayGive (codes "--ask-address") (λ value. IsAddressText value serve.at.ask_address) (serve.at.ask_address ≡ serve.at.address) settings

-- the one setting `--address=::1`
abbrev home_elsewhere : List Setting
home_elsewhere = (codes "--address", codes "::1") ∷ []

-- where `--ask-address` isn't given, clients are listened for where routers are, whatever address that is
clients_do_not_stay_at_home : (serve : ServeWords) (lenient : Bool) → IsServe serve lenient (codes "--address=::1" ∷ []) → (serve.at.ask_address ≡ serve.at.address → ⊥) → ⊥
clients_do_not_stay_at_home serve lenient is differs = go (holds_in (GivesAskAddress serve) (codes "--address=::1" ∷ []) home_elsewhere ([], one_word (inr (inr (inr (inr (inr (inl (refl))))))) refl, refl) (is.settings, is.are_settings, is.ask_address))
  where
    go : GivesAskAddress serve home_elsewhere → ⊥
    go (inl (value, once, given)) = absurd (cc once)
    go (inr (none, same)) = differs same

-- what is given once isn't given twice
once_is_not_twice : ServeComplains (Twice Lenient) (flag ∷ []) → ⊥
once_is_not_twice (settings, left, (stand, sound), given, (value, others, front)) = go settings stand given
  where
    nothing : (s : Setting) (behind : List (List ℕ)) → IsInFront s (flag ∷ []) behind → [] ≡ behind
    nothing s behind is = (same_front (flag, []) s (flag ∷ []) [] behind (flag_alone refl refl) is).behind

    go : (settings : List Setting) → StandInFront settings (flag ∷ []) left → IsGiven (name_of Lenient) settings → ⊥
    go [] is (first, more, one) = absurd (cc one)
    go (s ∷ []) (behind, is, end) one = not_none _ left others (sym end ∙ sym (nothing s behind is)) front
    go (s ∷ t ∷ ss) (behind, is, (next, also, end)) one = not_none t behind next (sym (nothing s behind is)) also

-- a value of the right form isn't complained of
each_is_no_bad_value : (value : Bor (List ℕ)) (given : List (List ℕ)) → value.now ≡ codes "each" → ServeComplains (BadValue Ports value) given → ⊥
each_is_no_bad_value value given is (settings, left, others, stand, fresh, front, bad) = bad (false, is)

-- the setting `--ports=each`, and one with a value that no option has
abbrev each_port : Setting
each_port = (codes "--ports", codes "each")

abbrev one_port : Setting
one_port = (codes "--ports", codes "one")

front_each : (more : List (List ℕ)) → IsInFront each_port (codes "--ports=each" ∷ more) more
front_each more = one_word (inr (inr (inr (inr (inr (inr (inl (refl)))))))) refl

front_one : (more : List (List ℕ)) → IsInFront one_port (codes "--ports=one" ∷ more) more
front_one more = one_word (inr (inr (inr (inr (inr (inr (inl (refl)))))))) refl

-- a word that is no option isn't told where the value in front of it is wrong
the_first_fault_is_told : (word : Bor (List ℕ)) → word.now ≡ codes "--feds" → ServeComplains (NoOption word) (codes "--ports=one" ∷ codes "--feds" ∷ []) → ⊥
the_first_fault_is_told word is (settings, left, (stand, sound), none) = go settings stand sound
  where
    wrong : (ss : List Setting) → MayGive (codes "--ports") (λ value. IsValueOf Ports value) ⊤ (one_port ∷ ss) → ⊥
    wrong ss (inl (value, once, (true, shared))) =
        let same : codes "one" ≡ value = cc once in
        let both : codes "one" ≡ codes "shared" = same ∙ shared in
        absurd (cc both)
    wrong ss (inl (value, once, (false, each))) =
        let same : codes "one" ≡ value = cc once in
        let both : codes "one" ≡ codes "each" = same ∙ each in
        absurd (cc both)
    wrong ss (inr (gone, so)) = absurd (cc gone)

    go : (settings : List Setting) → StandInFront settings (codes "--ports=one" ∷ codes "--feds" ∷ []) (word.now ∷ left) → AreSound settings → ⊥
    go [] same sound =
        let first : codes "--ports=one" ≡ word.now = cc same in
        let both : codes "--ports=one" ≡ codes "--feds" = first ∙ is in
        absurd (cc both)
    go (s ∷ ss) (others, front, rest) sound =
        let same = same_front one_port s (codes "--ports=one" ∷ codes "--feds" ∷ []) (codes "--feds" ∷ []) others (front_one (codes "--feds" ∷ [])) front in
        wrong ss (subst (λ (t : Setting). AreSound (t ∷ ss)) (sym same.setting) sound Ports)

-- an option that stands twice isn't told for its second value
twice_comes_before_the_value : (value : Bor (List ℕ)) → value.now ≡ codes "one" → ServeComplains (BadValue Ports value) (codes "--ports=each" ∷ codes "--ports=one" ∷ []) → ⊥
twice_comes_before_the_value value is (settings, left, others, (stand, sound), fresh, front, bad) = go settings stand fresh
  where
    go : (settings : List Setting) → StandInFront settings (codes "--ports=each" ∷ codes "--ports=one" ∷ []) left → values_of (codes "--ports") settings ≡ [] → ⊥
    go [] same fresh =
        let here = subst (λ (l : List (List ℕ)). IsInFront (codes "--ports", value.now) l others) (sym same) front in
        let one = same_front each_port (codes "--ports", value.now) (codes "--ports=each" ∷ codes "--ports=one" ∷ []) (codes "--ports=one" ∷ []) others (front_each (codes "--ports=one" ∷ [])) here in
        let second : codes "each" ≡ value.now = ap (λ (t : Setting). t.1) one.setting in
        let both : codes "each" ≡ codes "one" = second ∙ is in
        absurd (cc both)
    go (s ∷ ss) (more, first, rest) fresh =
        let same = same_front each_port s (codes "--ports=each" ∷ codes "--ports=one" ∷ []) (codes "--ports=one" ∷ []) more (front_each (codes "--ports=one" ∷ [])) first in
        let gone = subst (λ (t : Setting). values_of (codes "--ports") (t ∷ ss) ≡ []) (sym same.setting) fresh in
        absurd (cc gone)

-- words of `serve` that are wrong aren't passed over in silence
silence_after_serve_is_refused : AreCall (codes "serve" ∷ codes "--ports=one" ∷ []) ⊎ JoinWords (codes "serve" ∷ codes "--ports=one" ∷ []) → ⊥
silence_after_serve_is_refused (inl (call, is)) =
    let spelled : is.first ∷ is.given ≡ codes "serve" ∷ codes "--ports=one" ∷ [] = sym is.spelled in
    let first : is.first ≡ codes "serve" = cc spelled in
    let given : is.given ≡ codes "--ports=one" ∷ [] = cc spelled in
    no_serve is.first is.given first (λ serve lenient served. no_call serve lenient (subst (λ (l : List (List ℕ)). IsServe serve lenient l) given served)) call.command call.lenient is.is_command
  where
    no_ports : (value : List ℕ) (shared : Bool) → codes "one" ≡ value → IsPorts value shared → ⊥
    no_ports value true one is = let both : codes "one" ≡ codes "shared" = one ∙ is in absurd (cc both)
    no_ports value false one is = let both : codes "one" ≡ codes "each" = one ∙ is in absurd (cc both)

    go : (shared : Bool) → ArePorts shared (one_port ∷ []) → ⊥
    go shared (inl (value, once, is)) = no_ports value shared (cc once) is
    go shared (inr (none, usual)) = absurd (cc none)

    no_call : (serve : ServeWords) (lenient : Bool) → IsServe serve lenient (codes "--ports=one" ∷ []) → ⊥
    no_call serve lenient is = go serve.at.shared (holds_in (ArePorts serve.at.shared) (codes "--ports=one" ∷ []) (one_port ∷ []) ([], front_one [], refl) (is.settings, is.are_settings, is.ports))
silence_after_serve_is_refused (inr (first, given, split, inl replay)) =
    let name : codes "serve" ≡ first = cc split in
    let both : codes "serve" ≡ codes "replay" = name ∙ replay in
    absurd (cc both)
silence_after_serve_is_refused (inr (first, given, split, inr recall)) =
    let name : codes "serve" ≡ first = cc split in
    let both : codes "serve" ≡ codes "recall" = name ∙ recall in
    absurd (cc both)

-- `a` is no number
no_number : (n : ℕ) → IsNumberText (codes "a") n → ⊥
no_number n is = let at = all_digits most_number (codes "a") n (lit< tt) is 0 (omega arith) in absurd (omega (arith, at.1))

-- that words are missing after `drill` isn't told where the first of them is wrong
a_wrong_seed_comes_before_what_is_missing : LacksWords (codes "drill") (codes "drill" ∷ codes "a" ∷ []) → ⊥
a_wrong_seed_comes_before_what_is_missing (no_query named follow) = absurd (cc named)
a_wrong_seed_comes_before_what_is_missing (no_recalled named follow) = absurd (cc named)
a_wrong_seed_comes_before_what_is_missing (no_question named file follow) = absurd (cc named)
a_wrong_seed_comes_before_what_is_missing (no_archive named follow) = absurd (cc named)
a_wrong_seed_comes_before_what_is_missing (no_vrps named follow) = absurd (cc named)
a_wrong_seed_comes_before_what_is_missing (no_prefix named file follow) = absurd (cc named)
a_wrong_seed_comes_before_what_is_missing (no_seed named split) = absurd (cc split)
a_wrong_seed_comes_before_what_is_missing (no_lanes named seed split (n, is, least, most)) =
    let same : codes "a" ≡ seed = cc split in
    no_number n (subst (λ (l : List ℕ). IsNumberText l n) (sym same) is)
a_wrong_seed_comes_before_what_is_missing (no_messages named seed lanes split is_seed are_lanes) = absurd (cc split)

-- an empty word is no beginning of a query
an_empty_word_is_no_good_beginning : IsGoodBeginning 1 ([] ∷ []) → ⊥
an_empty_word_is_no_good_beginning (inl is) = absurd (cc is)
an_empty_word_is_no_good_beginning (inr (inl (inl same))) = absurd (cc same)
an_empty_word_is_no_good_beginning (inr (inl (inr (inl same)))) = absurd (cc same)
an_empty_word_is_no_good_beginning (inr (inl (inr (inr same)))) = absurd (cc same)
an_empty_word_is_no_good_beginning (inr (inr (ask, asking))) = no_line ask asking.is_offered

-- of words that begin with a query the query is told
a_query_in_front_is_told : IsBestBeginning 0 2 (codes "cut" ∷ codes "x" ∷ []) → ⊥
unfolding words_of
a_query_in_front_is_told (is, none) = none 1 (omega arith) (omega arith) (inr (plain_query cut, record { is_offered = (offers_plain (codes "cut") cut (plain_query cut) (is_query (codes "cut") cut refl)).1 refl; goes_on = λ same. cc same }))

-- so is `full routers`
is_full_routers : IsOfferedAsk (codes "full routers") full_routers
unfolding words_of
is_full_routers =
    let (are, joined) = line_joined (codes "full routers") in
    record { is_ask = record { words = words_of (codes "full routers"); are_words = are; joined = joined; asks = refl }; is_offered = tt }

full_routers_in_front_is_told : IsBestBeginning 1 3 (codes "full" ∷ codes "routers" ∷ codes "x" ∷ []) → ⊥
full_routers_in_front_is_told (is, none) = none 2 (omega arith) (omega arith) (inr (full_routers, record { is_offered = is_full_routers; goes_on = λ same. cc same }))

-- and `steps`, `full` and both in front of words that are none
steps_in_front_is_told : IsBestBeginning 0 2 (codes "steps" ∷ codes "peers" ∷ []) → ⊥
steps_in_front_is_told (is, none) = none 1 (omega arith) (omega arith) (inl (inl refl))

full_in_front_is_told : IsBestBeginning 0 2 (codes "full" ∷ codes "cut" ∷ []) → ⊥
full_in_front_is_told (is, none) = none 1 (omega arith) (omega arith) (inl (inr (inl refl)))

full_behind_steps_is_told : IsBestBeginning 1 3 (codes "steps" ∷ codes "full" ∷ codes "cut" ∷ []) → ⊥
full_behind_steps_is_told (is, none) = none 2 (omega arith) (omega arith) (inl (inr (inr refl)))

-- ports that begin where the others end don't meet
ports_side_by_side_do_not_meet : (feed feeds askers : ℕ) (given : List (List ℕ)) → ServeComplains (Meet feed feeds (feed + feeds) askers) given → ⊥
ports_side_by_side_do_not_meet feed feeds askers given (has, below, above) = absurd (omega (arith, below))

-- where nothing is said of it, clients that come and go aren't told
abbrev GivesLog : ServeWords → List Setting → Type 0
GivesLog serve settings = MayGive (codes "--log") (λ value. IsLog value serve.at.log) (serve.at.log ≡ Routers) settings

clients_are_not_told : (serve : ServeWords) → GivesLog serve [] → serve.at.log ≡ Clients → ⊥
clients_are_not_told serve (inl (value, once, is)) clients = absurd (cc once)
clients_are_not_told serve (inr (none, same)) clients = let both : Routers ≡ Clients = sym same ∙ clients in absurd (cc both)

-- a value lists a prefix at least, and 32 at most
no_value_lists_nothing : (value : List ℕ) → IsAllowed value [] → ⊥
no_value_lists_nothing value is = absurd (omega (arith, is.some))

no_value_lists_33 : (value : List ℕ) (allowed : List PrefixValue) → length allowed ≡ 33 → IsAllowed value allowed → ⊥
no_value_lists_33 value allowed many is = absurd (omega (arith, many, is.few))
