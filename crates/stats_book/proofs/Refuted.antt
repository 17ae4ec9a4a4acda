-- What a wrong book would hold, and that it isn't what the contract asks for.
use Rattle.std.proofs.Common.{◌≡◌, ℕ, List, [], ◌∷◌, length, map, Some, None, refl, replicate, arith}
use Rattle.ask_specs.specs.Connection.{first_others, passed_of}
use Rattle.bmp_specs.specs.declared.wire.Family.TheVariants.{V4}
use Rattle.bmp_specs.specs.Rows.{HasStatistic}
use Rattle.bmp_specs.specs.Values.{EntryValue, KeyValue, PeerInfoValue, StatValue, message, statistic, unread, up}
use Rattle.stats_book.specs.Standing.{StandsForStats}

abbrev peer : KeyValue
peer = record { kind = 0; distinguisher = 0; address = record { family = V4; octets = replicate 16 0 } }

-- statistic 9, the routes of one family, with this AFI and value
abbrev routes_of : ℕ → ℕ → StatValue
routes_of afi value = record { code = 9; afi = afi; safi = 1; value = value }

none_is_some : (n : ℕ) → None ≡ Some n → ⊥
none_is_some n is = absurd cc

-- Statistics of two AFIs stand beside each other: a book that keeps them without the AFI has lost that of IPv4.
ipv6_does_not_replace_ipv4 : (info : PeerInfoValue) → StandsForStats ((peer, (record { code = 9; afi = 0; safi = 1 }, 60) ∷ []) ∷ []) (up peer info ∷ statistic peer (routes_of 1 40) ∷ statistic peer (routes_of 2 60) ∷ []) → ⊥
ipv6_does_not_replace_ipv4 info stands = none_is_some 40 ((stands.values peer (routes_of 1 40)).1 has)
  where
    has : HasStatistic (up peer info ∷ statistic peer (routes_of 1 40) ∷ statistic peer (routes_of 2 60) ∷ []) peer (routes_of 1 40)
    has = record {
      reported = record { before = up peer info ∷ []; after = statistic peer (routes_of 2 60) ∷ []; split = refl; last = (λ same. omega (arith, same.2), tt) };
      while_up = (info, record { before = []; after = []; split = refl; last = tt });
    }

-- a Statistics Report with one statistic that nobody knows
abbrev report : List EntryValue
report = message (record { kind = 1; size = 60; peer = None; others = [] }) (unread 1 ∷ []) ∷ []

-- It is counted as a statistic, and not among the TLVs.
a_statistic_is_no_tlv : (passed_of report).tlvs ≡ 1 → ⊥
a_statistic_is_no_tlv is = absurd (omega (arith, is))

a_statistic_counts : (passed_of report).stats ≡ 0 → ⊥
a_statistic_counts is = absurd (omega (arith, is))

-- a Route Monitoring message with a multiprotocol attribute of this family
abbrev route_of : ℕ → EntryValue
route_of afi = message (record { kind = 0; size = 79; peer = None; others = record { afi = afi; safi = 128 } ∷ [] }) (unread 1 ∷ [])

-- seventeen of them, each of another family
abbrev seventeen : List EntryValue
seventeen = map route_of (1 ∷ 2 ∷ 3 ∷ 4 ∷ 5 ∷ 6 ∷ 7 ∷ 8 ∷ 9 ∷ 10 ∷ 11 ∷ 12 ∷ 13 ∷ 14 ∷ 15 ∷ 16 ∷ 17 ∷ [])

-- The last one isn't told by name, and isn't lost.
the_last_has_no_name : length (passed_of seventeen).others ≡ 17 → ⊥
unfolding first_others
the_last_has_no_name is = absurd (omega (arith, is))

the_last_is_more : (passed_of seventeen).more ≡ 0 → ⊥
unfolding first_others
the_last_is_more is = absurd (omega (arith, is))
