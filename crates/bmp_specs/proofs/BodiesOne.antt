-- The body of a message has one value at most.
use Rattle.std.proofs.Common.{◌≡◌, ℕ, List, [], ◌∷◌, drop, get_or, not, inl, inr, refl, sym, ap, ◌∙◌}
use Rattle.std.specs.Prelude.{nat_lt, count_by, is_none}
use Rattle.std.specs.List.{filter_map}
use Rattle.bmp_specs.specs.declared.peers.Detail.{Detail}
use Rattle.bmp_specs.specs.declared.peers.Detail.TheVariants.{Notified, Event, Unread}
use Rattle.bmp_specs.specs.Initiation.{IsInitiation, sys_name, sys_descr}
use Rattle.bmp_specs.specs.Mirroring.{IsMirroring, is_mirrored}
use Rattle.bmp_specs.specs.Open.{IsOpenMessage}
use Rattle.bmp_specs.specs.PeerDownNotification.{HasNotification, IsDetail, IsEvent, IsNotification, IsNotified, IsPeerDown}
use Rattle.bmp_specs.specs.PeerHeader.{HeaderValue}
use Rattle.bmp_specs.specs.PeerUpNotification.{IsPeerUp, is_known, table_in}
use Rattle.bmp_specs.specs.Sequence.{Then}
use Rattle.bmp_specs.specs.Statistics.{IsStatistics, statistic_of}
use Rattle.bmp_specs.specs.Tlv.{AreTlvs, last_value}
use Rattle.bmp_specs.specs.Values.{BgpMessageValue, OpenValue, TlvValue}
use Rattle.bmp_specs.proofs.BgpMessageCode.{IsBgpMessage-one}
use Rattle.bmp_specs.proofs.OpenOne.{open_message_code}
use Rattle.bmp_specs.proofs.ThenOne.{IsOne, Then-one}
use Rattle.bmp_specs.proofs.TlvCode.{AreTlvs-one}

pub IsInitiation-one : IsOne IsInitiation
IsInitiation-one body i j p q =
    let same : p.tlvs ≡ q.tlvs = AreTlvs-one body p.tlvs q.tlvs p.are q.are in
    let name : i.name ≡ j.name = p.name_is ∙ ap (λ (ts : List TlvValue). last_value sys_name ts) same ∙ sym q.name_is in
    let descr : i.descr ≡ j.descr = p.descr_is ∙ ap (λ (ts : List TlvValue). last_value sys_descr ts) same ∙ sym q.descr_is in
    let unread : i.unread ≡ j.unread = p.unread_is ∙ ap (λ (ts : List TlvValue). count_by (λ t. nat_lt sys_name t.kind) ts) same ∙ sym q.unread_is in
    λ k. record { name = name k; descr = descr k; unread = unread k }

pub IsMirroring-one : IsOne IsMirroring
IsMirroring-one rest m n p q =
    p.unread_is ∙ ap (λ (ts : List TlvValue). count_by (λ t. not (is_mirrored t)) ts) (AreTlvs-one rest p.tlvs q.tlvs p.are q.are) ∙ sym q.unread_is

pub IsStatistics-one : IsOne IsStatistics
IsStatistics-one rest s t p q =
    let same : p.tlvs ≡ q.tlvs = AreTlvs-one (drop 4 rest) p.tlvs q.tlvs p.are q.are in
    let stats : s.stats ≡ t.stats = p.stats_are ∙ ap (λ (ts : List TlvValue). filter_map statistic_of ts) same ∙ sym q.stats_are in
    let unread : s.unread ≡ t.unread = p.unread_is ∙ ap (λ (ts : List TlvValue). count_by (λ v. is_none (statistic_of v)) ts) same ∙ sym q.unread_is in
    λ k. record { stats = stats k; unread = unread k }

-- the two OPEN messages and the TLVs are one
abbrev pub AreUpParts : List ℕ → OpenValue × (OpenValue × List TlvValue) → Type 0
AreUpParts bytes v = Then IsOpenMessage (Then IsOpenMessage AreTlvs) bytes v

up_parts_one : IsOne AreUpParts
up_parts_one = Then-one IsOpenMessage (Then IsOpenMessage AreTlvs) open_message_code (Then-one IsOpenMessage AreTlvs open_message_code AreTlvs-one)

pub IsPeerUp-one : (h : HeaderValue) → IsOne (IsPeerUp h)
IsPeerUp-one h rest u v p q =
    let parts = up_parts_one (drop 20 rest) (u.info.sent, (u.info.received, p.tlvs)) (v.info.sent, (v.info.received, q.tlvs)) p.parts q.parts in
    let sent : u.info.sent ≡ v.info.sent = ap (λ (t : OpenValue × (OpenValue × List TlvValue)). t.0) parts in
    let received : u.info.received ≡ v.info.received = ap (λ (t : OpenValue × (OpenValue × List TlvValue)). t.1.0) parts in
    let same : p.tlvs ≡ q.tlvs = ap (λ (t : OpenValue × (OpenValue × List TlvValue)). t.1.1) parts in
    let asn : u.info.asn ≡ v.info.asn = p.asn_is ∙ sym q.asn_is in
    let identifier : u.info.identifier ≡ v.info.identifier = p.identifier_is ∙ sym q.identifier_is in
    let local : u.info.local ≡ v.info.local = p.local_is ∙ sym q.local_is in
    let local_port : u.info.local_port ≡ v.info.local_port = p.local_port_is ∙ sym q.local_port_is in
    let remote_port : u.info.remote_port ≡ v.info.remote_port = p.remote_port_is ∙ sym q.remote_port_is in
    let filtered : u.info.filtered ≡ v.info.filtered = p.filtered_is ∙ sym q.filtered_is in
    let table : u.info.table ≡ v.info.table = p.table_is ∙ ap (λ (ts : List TlvValue). table_in h ts) same ∙ sym q.table_is in
    let unread : u.unread ≡ v.unread = p.unread_is ∙ ap (λ (ts : List TlvValue). count_by (λ t. not (is_known h t)) ts) same ∙ sym q.unread_is in
    let info : u.info ≡ v.info = λ k. record {
      asn = asn k;
      identifier = identifier k;
      local = local k;
      local_port = local_port k;
      remote_port = remote_port k;
      sent = sent k;
      received = received k;
      filtered = filtered k;
      table = table k;
    } in
    λ k. record { info = info k; unread = unread k }

notification_one : (bytes : List ℕ) (c s d t : ℕ) → IsNotification bytes c s → IsNotification bytes d t → (c ≡ d) × (s ≡ t)
notification_one bytes c s d t p q =
    let same : p.message.body ≡ q.message.body = ap (λ (m : BgpMessageValue). m.body) (IsBgpMessage-one bytes p.message q.message p.is q.is) in
    (sym p.code_is ∙ ap (λ (l : List ℕ). get_or l 0 0) same ∙ q.code_is, sym p.sub_is ∙ ap (λ (l : List ℕ). get_or l 1 0) same ∙ q.sub_is)

-- a reason asks for a notification or for an event, not for both
not_both : (reason : ℕ) (bytes : List ℕ) (code sub event : ℕ) → IsNotified reason bytes code sub → IsEvent reason bytes event → ⊥
not_both reason bytes code sub event p q = at p.asks q.asks
  where
    at : HasNotification reason → reason ≡ 2 → ⊥
    at (inl e) f = absurd cc
    at (inr e) f = absurd cc

detail_one : (reason : ℕ) (bytes : List ℕ) (d e : Detail) → IsDetail reason bytes d → IsDetail reason bytes e → d ≡ e
detail_one reason bytes (Notified c s) (Notified d t) p q = let same = notification_one bytes c s d t p.is q.is in λ i. Notified (same.0 i) (same.1 i)
detail_one reason bytes (Notified c s) (Event e) p q = absurd (not_both reason bytes c s e p q)
detail_one reason bytes (Notified c s) Unread p q = absurd (q.no_notification c s p)
detail_one reason bytes (Event e) (Notified c s) p q = absurd (not_both reason bytes c s e q p)
detail_one reason bytes (Event e) (Event f) p q = let same : e ≡ f = sym p.event_is ∙ q.event_is in λ i. Event (same i)
detail_one reason bytes (Event e) Unread p q = absurd (q.no_event e p)
detail_one reason bytes Unread (Notified c s) p q = absurd (p.no_notification c s q)
detail_one reason bytes Unread (Event e) p q = absurd (p.no_event e q)
detail_one reason bytes Unread Unread p q = refl

pub IsPeerDown-one : IsOne IsPeerDown
IsPeerDown-one [] d e p q = absurd p
IsPeerDown-one (reason ∷ bytes) d e p q =
    let same : d.reason ≡ e.reason = p.0 ∙ sym q.0 in
    let details : d.detail ≡ e.detail = detail_one reason bytes d.detail e.detail p.1 q.1 in
    λ i. record { reason = same i; detail = details i }
