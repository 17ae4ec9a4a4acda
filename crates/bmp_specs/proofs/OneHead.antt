-- A message has one head at most.
use Rattle.std.proofs.Common.{◌≡◌, ℕ, Bool, true, false, List, [], ◌++◌, take, drop, Option, Some, refl, sym, ap, ◌∙◌, subst}
use Rattle.bmp_specs.specs.FramedUpdate.{FramedValue, IsFramed}
use Rattle.bmp_specs.specs.MessageBody.{MessageType, message_type, initiation_message, peer_down_notification, peer_up_notification, route_mirroring, route_monitoring, statistics_report, termination_message, unassigned}
use Rattle.bmp_specs.specs.MessageHead.{AreOthers, HasOthers, HasPeerHead, IsHead, IsPeerHead, other_in, passes_parts, peer_head}
use Rattle.bmp_specs.specs.PeerHeader.{HeaderValue, IsHeader, header_size}
use Rattle.bmp_specs.specs.Values.{BgpMessageValue, EffectValue, EntryValue, FamilyCodeValue, HeadValue, PeerHeadValue, message}
use Rattle.bmp_specs.proofs.BgpMessageCode.{IsBgpMessage-one}
use Rattle.bmp_specs.proofs.FramedOne.{IsFramed-one}
use Rattle.bmp_specs.proofs.PeerHeaderCode.{header_code}

-- the header is one
pub header_one : (bytes : List ℕ) (h k : HeaderValue) → IsHeader bytes h → IsHeader bytes k → h ≡ k
header_one bytes h k p q = (header_code.one bytes bytes [] [] h k p q refl).1

has_peer_head_one : (body : List ℕ) (a b : Option PeerHeadValue) → HasPeerHead body a → HasPeerHead body b → a ≡ b
has_peer_head_one body a b p q = p.told_is ∙ ap (λ (h : HeaderValue). Some (peer_head h)) (header_one (take header_size body) p.header q.header p.is q.is) ∙ sym q.told_is

peer_head_one : (type : MessageType) (body : List ℕ) (a b : Option PeerHeadValue) → IsPeerHead type body a → IsPeerHead type body b → a ≡ b
peer_head_one route_monitoring body a b p q = has_peer_head_one body a b p q
peer_head_one statistics_report body a b p q = has_peer_head_one body a b p q
peer_head_one peer_down_notification body a b p q = has_peer_head_one body a b p q
peer_head_one peer_up_notification body a b p q = has_peer_head_one body a b p q
peer_head_one route_mirroring body a b p q = has_peer_head_one body a b p q
peer_head_one initiation_message body a b p q = p ∙ sym q
peer_head_one termination_message body a b p q = p ∙ sym q
peer_head_one unassigned body a b p q = p ∙ sym q

has_others_one : (rest : List ℕ) (a b : List FamilyCodeValue) → HasOthers rest a → HasOthers rest b → a ≡ b
has_others_one rest a b p q =
    let bodies : p.update.body ≡ q.update.body = ap (λ (m : BgpMessageValue). m.body) (IsBgpMessage-one rest p.update q.update p.is q.is) in
    let frames : p.framed ≡ q.framed = IsFramed-one q.update.body p.framed q.framed (subst (λ (l : List ℕ). IsFramed l p.framed) bodies p.frames) q.frames in
    p.others_are ∙ ap (λ (f : FramedValue). other_in f.reach ++ other_in f.unreach) frames ∙ sym q.others_are

others_one : (passes : Bool) (rest : List ℕ) (a b : List FamilyCodeValue) → AreOthers passes rest a → AreOthers passes rest b → a ≡ b
others_one true rest a b p q = has_others_one rest a b p q
others_one false rest a b p q = p ∙ sym q

pub IsHead-one : (kind : ℕ) (body : List ℕ) (effects : List EffectValue) (a b : HeadValue) → IsHead kind body effects a → IsHead kind body effects b → a ≡ b
IsHead-one kind body effects a b p q =
    let kinds : a.kind ≡ b.kind = p.kind_is ∙ sym q.kind_is in
    let sizes : a.size ≡ b.size = p.size_is ∙ sym q.size_is in
    let peers = peer_head_one (message_type kind) body a.peer b.peer p.peer_is q.peer_is in
    let others = others_one (passes_parts (message_type kind) effects) (drop header_size body) a.others b.others p.others_are q.others_are in
    λ i. record { kind = kinds i; size = sizes i; peer = peers i; others = others i }

-- heads of one body tell the same of its peer, whatever its effects are
pub same_peer : (kind : ℕ) (body : List ℕ) (effects others : List EffectValue) (a b : HeadValue) → IsHead kind body effects a → IsHead kind body others b → b.peer ≡ a.peer
same_peer kind body effects others a b p q = peer_head_one (message_type kind) body b.peer a.peer q.peer_is p.peer_is

-- messages of one body with the same effects are one entry
pub same_entry : (kind : ℕ) (body : List ℕ) (effects others : List EffectValue) (a b : HeadValue) → effects ≡ others → IsHead kind body effects a → IsHead kind body others b
    → message a effects ≡ message b others
same_entry kind body effects others a b same p q =
    let heads = IsHead-one kind body others a b (subst (λ (l : List EffectValue). IsHead kind body l a) same p) q in
    λ i. message (heads i) (same i)
