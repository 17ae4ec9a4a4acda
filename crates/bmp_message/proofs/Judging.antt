-- From what a message does by the RFCs to its entry, and back.
use Rattle.std.proofs.Common.{◌≡◌, ℕ, List, [], ◌∷◌, drop, Option, Some, None, refl, sym, ap, subst}
use Rattle.std.specs.Prelude.{MatchOption}
use Rattle.bmp_specs.specs.MessageBody.{HasPeer, IsMessage, MessageType, OfPeer, OfType, ReadingState, message_type}
use Rattle.bmp_specs.specs.MessageEffects.{IsMessageEntry, effects_of}
use Rattle.bmp_specs.specs.MessageHead.{IsHead}
use Rattle.bmp_specs.specs.PeerHeader.{HeaderValue, header_size, key_of}
use Rattle.bmp_specs.specs.Values.{EffectValue, EntryValue, HeadValue, KeyValue, MessageValue, initiation, termination, of_unknown_type, passed, message}
use Rattle.bmp_specs.proofs.HasHead.{strict_head}
use Rattle.bmp_message.specs.Effects.{HasEffects, MeansNoEntry, ReadsNothing}
use Rattle.bmp_message.specs.PeerMeaning.{HasPeerBy, OfTypeBy, strict_peers}
use Rattle.bmp_message.specs.Types.{message_type_of, type_in}
use Rattle.bmp_message.specs.declared.types.MessageType.{MessageType as MessageTypeCode}
use Rattle.bmp_message.specs.declared.types.MessageType.TheVariants as code
use Rattle.bmp_message.proofs.Meanings.{of_peer_type}

module _ (s : ReadingState) (body : List ℕ) where
  -- a message with a Per-Peer Header

  meant_at : (found : Option KeyValue) (kind : MessageType) (h : HeaderValue) (rest : List ℕ) (effects : List EffectValue) (next : ReadingState)
      → MatchOption found ((effects ≡ passed ∷ []) × (next ≡ s)) (λ key. HasEffects (OfPeer kind s h key rest) effects next)
      → HasEffects (λ m t. MatchOption found ((m ≡ of_unknown_type) × (t ≡ s)) (λ key. OfPeer kind s h key rest m t)) effects next
  meant_at None kind h rest effects next (e, same) = record { value = of_unknown_type; means = (refl, same); effects_are = e }
  meant_at (Some key) kind h rest effects next p = record { value = p.value; means = p.means; effects_are = p.effects_are }

  meant_by : (kind : MessageType) (effects : List EffectValue) (next : ReadingState) → HasPeerBy strict_peers kind s body effects next → HasEffects (HasPeer kind s body) effects next
  meant_by kind effects next p =
      let q = meant_at (key_of p.header) kind p.header (drop header_size body) effects next p.means in
      record { value = q.value; means = record { header = p.header; is = p.is; means = q.means }; effects_are = q.effects_are }

  done_at : (found : Option KeyValue) (kind : MessageType) (h : HeaderValue) (rest : List ℕ) (m : MessageValue) (next : ReadingState)
      → MatchOption found ((m ≡ of_unknown_type) × (next ≡ s)) (λ key. OfPeer kind s h key rest m next)
      → MatchOption found ((effects_of m ≡ passed ∷ []) × (next ≡ s)) (λ key. HasEffects (OfPeer kind s h key rest) (effects_of m) next)
  done_at None kind h rest m next (e, same) = (ap effects_of e, same)
  done_at (Some key) kind h rest m next p = record { value = m; means = p; effects_are = refl }

  done_by : (kind : MessageType) (m : MessageValue) (next : ReadingState) → HasPeer kind s body m next → HasPeerBy strict_peers kind s body (effects_of m) next
  done_by kind m next p = record { header = p.header; is = p.is; means = done_at (key_of p.header) kind p.header (drop header_size body) m next p.means }

  -- any message

  meant : (t : MessageTypeCode) (effects : List EffectValue) (next : ReadingState) → OfTypeBy strict_peers t s body effects next → HasEffects (OfType (type_in t) s body) effects next
  meant (code.OfPeer kind) effects next p = subst (λ (Means : MessageValue → ReadingState → Type 0). HasEffects Means effects next) (of_peer_type kind s body) (meant_by (message_type_of kind) effects next p)
  meant code.Initiation effects next (p, same) = record { value = initiation p.0; means = (p.0, p.1, refl, same); effects_are = p.2 }
  meant code.Termination effects next (p, same) = record { value = termination; means = (p.0, refl, same); effects_are = p.1 }
  meant code.Unknown effects next (e, same) = record { value = of_unknown_type; means = (refl, same); effects_are = e }

  done : (t : MessageTypeCode) (m : MessageValue) (next : ReadingState) → OfType (type_in t) s body m next → OfTypeBy strict_peers t s body (effects_of m) next
  done (code.OfPeer kind) m next p = done_by (message_type_of kind) m next (subst (λ (Means : MessageValue → ReadingState → Type 0). Means m next) (sym (of_peer_type kind s body)) p)
  done code.Initiation m next p = ((p.0, p.1, ap effects_of p.2), p.3)
  done code.Termination m next p = ((p.0, ap effects_of p.1), p.2)
  done code.Unknown m next p = (ap effects_of p.0, p.1)

  module _ (kind : ℕ) (t : MessageTypeCode) (is : type_in t ≡ message_type kind) where
    meant_of : (effects : List EffectValue) (next : ReadingState) → OfTypeBy strict_peers t s body effects next → HasEffects (IsMessage s kind body) effects next
    meant_of effects next p = subst (λ (u : MessageType). HasEffects (OfType u s body) effects next) is (meant t effects next p)

    with_head : (effects : List EffectValue) (next : ReadingState) → HasEffects (IsMessage s kind body) effects next → (head : HeadValue) → IsHead kind body effects head → IsMessageEntry s kind body (message head effects) next
    with_head effects next q head is_head = record {
      value = q.value;
      means = q.means;
      head = head;
      is_head = subst (λ (es : List EffectValue). IsHead kind body es head) q.effects_are is_head;
      entry_is = ap (λ (es : List EffectValue). message head es) q.effects_are;
    }

    has_head : (effects : List EffectValue) (next : ReadingState) → OfTypeBy strict_peers t s body effects next → (head : HeadValue) × IsHead kind body effects head
    has_head effects next p =
        let q = meant_of effects next p in
        let found = strict_head s kind body q.value next q.means in
        (found.0, subst (λ (es : List EffectValue). IsHead kind body es found.0) (sym q.effects_are) found.1)

    pub has_entry : (effects : List EffectValue) (next : ReadingState) → OfTypeBy strict_peers t s body effects next → (entry : EntryValue) × IsMessageEntry s kind body entry next
    has_entry effects next p =
        let found = has_head effects next p in
        (message found.0 effects, with_head effects next (meant_of effects next p) found.0 found.1)

    -- the entry of the effects that were made and of a head that is any that they have
    pub is_entry : (effects made : List EffectValue) (given : HeadValue) (next : ReadingState) → effects ≡ made → ((head : HeadValue) → IsHead kind body made head → given ≡ head) → OfTypeBy strict_peers t s body effects next
        → IsMessageEntry s kind body (message given made) next
    is_entry effects made given next same one p =
        let found = has_head effects next p in
        let is : given ≡ found.0 = one found.0 (subst (λ (es : List EffectValue). IsHead kind body es found.0) same found.1) in
        subst (λ (es : List EffectValue). IsMessageEntry s kind body (message given es) next) same
        (with_head effects next (meant_of effects next p) given (subst (λ (head : HeadValue). IsHead kind body effects head) (sym is) found.1))

    pub no_entry : ReadsNothing (OfTypeBy strict_peers t s body) → MeansNoEntry (IsMessageEntry s kind body)
    no_entry none e next p = none (effects_of p.value) next (done t p.value next (subst (λ (u : MessageType). OfType u s body p.value next) (sym is) p.means))
