-- A message that has a meaning has a head.
use Rattle.std.proofs.Common.{◌≡◌, ℕ, ◌+◌, ◌⊎◌, inl, inr, Bool, true, false, List, [], ◌∷◌, ◌++◌, length, take, drop, Option, Some, None, refl, sym, ap, ◌∙◌, subst}
use Rattle.std.specs.Prelude.{MatchOption}
use Rattle.bmp_specs.specs.BgpMessage.{IsBgpMessage}
use Rattle.bmp_specs.specs.LenientBody.{HasPeerLeniently, IsOrphan, IsUnreadable, OfPeerLeniently, OfTypeLeniently, TellsRoutes}
use Rattle.bmp_specs.specs.LenientState.{LenientState, opens_for}
use Rattle.bmp_specs.specs.MessageBody.{HasPeer, IsMessage, IsRouteMonitoring, MessageType, OfPeer, OfType, ReadingState, id_use, message_type, width_of, initiation_message, peer_down_notification, peer_up_notification, route_mirroring, route_monitoring, statistics_report, termination_message, unassigned}
use Rattle.bmp_specs.specs.MessageEffects.{effects_of}
use Rattle.bmp_specs.specs.MessageHead.{AreOthers, HasOthers, HasPeerHead, IsHead, IsPeerHead, other_in, passes_parts, peer_head}
use Rattle.bmp_specs.specs.PeerHeader.{HeaderValue, IsHeader, header_size, key_of, view_of}
use Rattle.bmp_specs.specs.Values.{EffectValue, FamilyCodeValue, HeadValue, KeyValue, MessageValue, OpensValue, PeerHeadValue, UpdateValue, of_unknown_peer, of_unknown_type, orphan, passed, routes}
use Rattle.bmp_specs.proofs.FramedOne.{frame_of, is_framed}

-- some families were passed over, or none
abbrev HasSome : Bool → List ℕ → Type 0
HasSome passes rest = (others : List FamilyCodeValue) × AreOthers passes rest others

some_at : (passes : Bool) (rest : List ℕ) (others : List FamilyCodeValue) → HasOthers rest others → HasSome passes rest
some_at true rest others has = (others, has)
some_at false rest others has = ([], refl)

none_at : (rest : List ℕ) (effects one : List EffectValue) → effects ≡ one → passes_parts route_monitoring one ≡ false → HasSome (passes_parts route_monitoring effects) rest
none_at rest effects one same none = ([], subst (λ (b : Bool). AreOthers b rest []) (sym (ap (passes_parts route_monitoring) same ∙ none)) refl)

-- what its header tells is known, and so are its families
record HasParts (type : MessageType) (body : List ℕ) (effects : List EffectValue) : Type 0 where
  told : Option PeerHeadValue
  peer : IsPeerHead type body told
  some : HasSome (passes_parts type effects) (drop header_size body)

head_with : (kind : ℕ) (body : List ℕ) (effects : List EffectValue) → HasParts (message_type kind) body effects → (head : HeadValue) × IsHead kind body effects head
head_with kind body effects p = (record { kind = kind; size = 6 + length body; peer = p.told; others = p.some.0 }, record { kind_is = refl; size_is = refl; peer_is = p.peer; others_are = p.some.1 })

-- ---- by the RFCs
module _ (state : ReadingState) (body : List ℕ) (m : MessageValue) (next : ReadingState) where
  module _ (h : HeaderValue) where
    by_peer : (key : KeyValue) (found : Option OpensValue) → MatchOption found (m ≡ of_unknown_peer) (λ opens. (u : UpdateValue) × IsRouteMonitoring opens h (drop header_size body) u × (m ≡ routes key (view_of h) u))
        → HasSome (passes_parts route_monitoring (effects_of m)) (drop header_size body)
    by_peer key None e = none_at (drop header_size body) (effects_of m) (orphan ∷ []) (ap effects_of e) refl
    by_peer key (Some opens) (u, q, e) = some_at (passes_parts route_monitoring (effects_of m)) (drop header_size body) _ (record {
      update = q.message;
      is = q.is;
      is_update = q.is_update;
      framed = frame_of (width_of h) (id_use opens h) q.message.body u q.body_is;
      frames = is_framed (width_of h) (id_use opens h) q.message.body u q.body_is;
      others_are = refl;
    })

    by_key : (found : Option KeyValue) → MatchOption found ((m ≡ of_unknown_type) × (next ≡ state)) (λ key. OfPeer route_monitoring state h key (drop header_size body) m next)
        → HasSome (passes_parts route_monitoring (effects_of m)) (drop header_size body)
    by_key None (e, same) = none_at (drop header_size body) (effects_of m) (passed ∷ []) (ap effects_of e) refl
    by_key (Some key) (same, q) = by_peer key (state key) q

  strict_parts : (type : MessageType) → OfType type state body m next → HasParts type body (effects_of m)
  strict_parts route_monitoring p = record { told = Some (peer_head p.header); peer = record { header = p.header; is = p.is; told_is = refl }; some = by_key p.header (key_of p.header) p.means }
  strict_parts statistics_report p = record { told = Some (peer_head p.header); peer = record { header = p.header; is = p.is; told_is = refl }; some = ([], refl) }
  strict_parts peer_down_notification p = record { told = Some (peer_head p.header); peer = record { header = p.header; is = p.is; told_is = refl }; some = ([], refl) }
  strict_parts peer_up_notification p = record { told = Some (peer_head p.header); peer = record { header = p.header; is = p.is; told_is = refl }; some = ([], refl) }
  strict_parts route_mirroring p = record { told = Some (peer_head p.header); peer = record { header = p.header; is = p.is; told_is = refl }; some = ([], refl) }
  strict_parts initiation_message p = record { told = None; peer = refl; some = ([], refl) }
  strict_parts termination_message p = record { told = None; peer = refl; some = ([], refl) }
  strict_parts unassigned p = record { told = None; peer = refl; some = ([], refl) }

pub strict_head : (state : ReadingState) (kind : ℕ) (body : List ℕ) (m : MessageValue) (next : ReadingState) → IsMessage state kind body m next → (head : HeadValue) × IsHead kind body (effects_of m) head
strict_head state kind body m next p = head_with kind body (effects_of m) (strict_parts state body m next (message_type kind) p)

-- ---- leniently
module _ (state : LenientState) (body : List ℕ) (effects : List EffectValue) (next : LenientState) where
  untold : IsOrphan state effects next → HasSome (passes_parts route_monitoring effects) (drop header_size body)
  untold p = none_at (drop header_size body) effects (orphan ∷ []) p.effects_are refl

  module _ (h : HeaderValue) where
    by_opens : (key : KeyValue) (found : Option OpensValue)
        → MatchOption found (IsOrphan state effects next) (λ opens. TellsRoutes state opens h key (drop header_size body) effects next ⊎ IsUnreadable state opens h key (drop header_size body) effects next)
        → HasSome (passes_parts route_monitoring effects) (drop header_size body)
    by_opens key None p = untold p
    by_opens key (Some opens) (inl p) = some_at (passes_parts route_monitoring effects) (drop header_size body) _ (record {
      update = p.is.message;
      is = p.is.is;
      is_update = p.is.is_update;
      framed = p.is.framed;
      frames = p.is.frames;
      others_are = refl;
    })
    by_opens key (Some opens) (inr p) = untold p.orphaned

    by_lenient_key : (found : Option KeyValue) → MatchOption found ((effects ≡ passed ∷ []) × (next ≡ state)) (λ key. OfPeerLeniently route_monitoring state h key (drop header_size body) effects next)
        → HasSome (passes_parts route_monitoring effects) (drop header_size body)
    by_lenient_key None (e, same) = none_at (drop header_size body) effects (passed ∷ []) e refl
    by_lenient_key (Some key) p = by_opens key (opens_for state h key) p

  lenient_parts : (type : MessageType) → OfTypeLeniently type state body effects next → HasParts type body effects
  lenient_parts route_monitoring p = record { told = Some (peer_head p.header); peer = record { header = p.header; is = p.is; told_is = refl }; some = by_lenient_key p.header (key_of p.header) p.means }
  lenient_parts statistics_report p = record { told = Some (peer_head p.header); peer = record { header = p.header; is = p.is; told_is = refl }; some = ([], refl) }
  lenient_parts peer_down_notification p = record { told = Some (peer_head p.header); peer = record { header = p.header; is = p.is; told_is = refl }; some = ([], refl) }
  lenient_parts peer_up_notification p = record { told = Some (peer_head p.header); peer = record { header = p.header; is = p.is; told_is = refl }; some = ([], refl) }
  lenient_parts route_mirroring p = record { told = Some (peer_head p.header); peer = record { header = p.header; is = p.is; told_is = refl }; some = ([], refl) }
  lenient_parts initiation_message p = record { told = None; peer = refl; some = ([], refl) }
  lenient_parts termination_message p = record { told = None; peer = refl; some = ([], refl) }
  lenient_parts unassigned p = record { told = None; peer = refl; some = ([], refl) }

pub lenient_head : (state : LenientState) (kind : ℕ) (body : List ℕ) (effects : List EffectValue) (next : LenientState) → OfTypeLeniently (message_type kind) state body effects next
    → (head : HeadValue) × IsHead kind body effects head
lenient_head state kind body effects next p = head_with kind body effects (lenient_parts state body effects next (message_type kind) p)
