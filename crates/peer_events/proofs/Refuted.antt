-- Wrong results that the clauses of this crate don't let through, each at values.
use Rattle.std.proofs.Common.{◌≡◌, ℕ, true, List, [], ◌∷◌, length, ap, replicate, length-append, arith}
use Rattle.bmp_specs.specs.declared.peers.Detail.TheVariants.{Notified}
use Rattle.bmp_specs.specs.PeerDownNotification.{IsPeerDown}
use Rattle.bmp_specs.specs.PeerHeader.{HeaderValue}
use Rattle.bmp_specs.specs.PeerUpNotification.{IsPeerUp}
use Rattle.bmp_specs.specs.Statistics.{IsStatistics}
use Rattle.bmp_specs.specs.Tlv.{AreTlvs}
use Rattle.bmp_specs.specs.Values.{PeerUpValue, StatisticsValue, TlvValue}

-- A Statistics Report with fewer TLVs than it counts is accepted.
a_report_without_its_tlv_is_none : (s : StatisticsValue) → IsStatistics (0 ∷ 0 ∷ 0 ∷ 1 ∷ []) s → ⊥
a_report_without_its_tlv_is_none s is = none is.tlvs is.are is.count_is
  where
    none : (tlvs : List TlvValue) → AreTlvs [] tlvs → 1 ≡ length tlvs → ⊥
    none [] are count = omega (arith, count)
    none (t ∷ tlvs) (front, rest, split, tlv, others) count = omega (arith, tlv.header, ap length split.joined, length-append front rest)

-- The data of a Peer Down for reason 6 is read as a NOTIFICATION.
reason_6_has_no_notification : (rest : List ℕ) (code sub : ℕ) → IsPeerDown (6 ∷ rest) (record { reason = 6; detail = Notified code sub }) → ⊥
reason_6_has_no_notification rest code sub down = omega (arith, down.1.asks)

-- The flag at the place of the F flag counts for a peer that is no Loc-RIB.
abbrev global_header : HeaderValue
global_header = record { kind = 0; flags = 0x80; distinguisher = 0; address = replicate 16 0; asn = 64500; identifier = 10 ∷ 0 ∷ 0 ∷ 1 ∷ []; seconds = 0; micros = 0 }

a_global_peer_is_not_filtered : (rest : List ℕ) (u : PeerUpValue) → IsPeerUp global_header rest u → u.info.filtered ≡ true → ⊥
a_global_peer_is_not_filtered rest u up filtered = grind (arith, up.filtered_is, filtered)
