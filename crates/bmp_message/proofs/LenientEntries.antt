-- From what a message does leniently to its entry, and back.
use Rattle.std.proofs.Common.{◌≡◌, ℕ, List, refl, sym, ap, subst, ◌∙◌}
use Rattle.bmp_specs.specs.LenientBody.{IsLenientEntry, OfTypeLeniently}
use Rattle.bmp_specs.specs.LenientState.{LenientState}
use Rattle.bmp_specs.specs.MessageBody.{MessageType, message_type}
use Rattle.bmp_specs.specs.MessageEffects.{effects_of}
use Rattle.bmp_specs.specs.MessageHead.{IsHead}
use Rattle.bmp_specs.specs.Values.{EffectValue, EntryValue, HeadValue, initiation, termination, of_unknown_type, message}
use Rattle.bmp_specs.proofs.HasHead.{lenient_head}
use Rattle.bmp_message.specs.Effects.{MeansNoEntry, ReadsNothing}
use Rattle.bmp_message.specs.PeerMeaning.{OfTypeBy, lenient_peers}
use Rattle.bmp_message.specs.Types.{type_in}
use Rattle.bmp_message.specs.declared.types.MessageType.{MessageType as MessageTypeCode}
use Rattle.bmp_message.specs.declared.types.MessageType.TheVariants.{OfPeer, Initiation, Termination, Unknown}
use Rattle.bmp_message.proofs.LenientTells.{of_peer_type_so}

module _ (s : LenientState) (body : List ℕ) where
  meant_so : (t : MessageTypeCode) (effects : List EffectValue) (next : LenientState) → OfTypeBy lenient_peers t s body effects next → OfTypeLeniently (type_in t) s body effects next
  meant_so (OfPeer kind) effects next p = subst (λ (Reads : List EffectValue → LenientState → Type 0). Reads effects next) (of_peer_type_so kind s body) (record { header = p.header; is = p.is; means = p.means })
  meant_so Initiation effects next (p, same) = record { value = initiation p.0; means = (p.0, p.1, refl, refl); effects_are = p.2; next_is = same }
  meant_so Termination effects next (p, same) = record { value = termination; means = (p.0, refl, refl); effects_are = p.1; next_is = same }
  meant_so Unknown effects next (e, same) = record { value = of_unknown_type; means = (refl, refl); effects_are = e; next_is = same }

  done_so : (t : MessageTypeCode) (effects : List EffectValue) (next : LenientState) → OfTypeLeniently (type_in t) s body effects next → OfTypeBy lenient_peers t s body effects next
  done_so (OfPeer kind) effects next p =
      let q = subst (λ (Reads : List EffectValue → LenientState → Type 0). Reads effects next) (sym (of_peer_type_so kind s body)) p in
      record { header = q.header; is = q.is; means = q.means }
  done_so Initiation effects next p = ((p.means.0, p.means.1, p.effects_are ∙ ap effects_of p.means.2), p.next_is)
  done_so Termination effects next p = ((p.means.0, p.effects_are ∙ ap effects_of p.means.1), p.next_is)
  done_so Unknown effects next p = (p.effects_are ∙ ap effects_of p.means.0, p.next_is)

  module _ (kind : ℕ) (t : MessageTypeCode) (is : type_in t ≡ message_type kind) where
    meant_of_so : (effects : List EffectValue) (next : LenientState) → OfTypeBy lenient_peers t s body effects next → OfTypeLeniently (message_type kind) s body effects next
    meant_of_so effects next p = subst (λ (u : MessageType). OfTypeLeniently u s body effects next) is (meant_so t effects next p)

    pub has_entry_so : (effects : List EffectValue) (next : LenientState) → OfTypeBy lenient_peers t s body effects next → (entry : EntryValue) × IsLenientEntry s kind body entry next
    has_entry_so effects next p =
        let means = meant_of_so effects next p in
        let found = lenient_head s kind body effects next means in
        (message found.0 effects, record { effects = effects; means = means; head = found.0; is_head = found.1; entry_is = refl })

    -- the entry of the effects that were made and of a head that is any that they have
    pub is_entry_so : (effects made : List EffectValue) (given : HeadValue) (next : LenientState) → effects ≡ made → ((head : HeadValue) → IsHead kind body made head → given ≡ head) → OfTypeBy lenient_peers t s body effects next
        → IsLenientEntry s kind body (message given made) next
    is_entry_so effects made given next same one p =
        let means = subst (λ (es : List EffectValue). OfTypeLeniently (message_type kind) s body es next) same (meant_of_so effects next p) in
        let found = lenient_head s kind body made next means in
        let is : given ≡ found.0 = one found.0 found.1 in
        record { effects = made; means = means; head = given; is_head = subst (λ (head : HeadValue). IsHead kind body made head) (sym is) found.1; entry_is = refl }

    pub no_entry_so : ReadsNothing (OfTypeBy lenient_peers t s body) → MeansNoEntry (IsLenientEntry s kind body)
    no_entry_so none e next p = none p.effects next (done_so t p.effects next (subst (λ (u : MessageType). OfTypeLeniently u s body p.effects next) (sym is) p.means))
