-- The body of an UPDATE message, from what judging it found.
use Rattle.std.proofs.Common.{◌≡◌, ◌+◌, ℕ, List, ◌++◌, Option, refl, sym, ap, subst, ◌∙◌}
use Rattle.std.specs.Option.{option_map}
use Rattle.bmp_specs.specs.declared.wire.Family.TheVariants.{V4}
use Rattle.bmp_specs.specs.declared.wire.IdUse.{IdUse}
use Rattle.bmp_specs.specs.declared.wire.Width.{Width}
use Rattle.bmp_specs.specs.AddressFamily.{uses_ids}
use Rattle.bmp_specs.specs.Nlri.{AreNlri}
use Rattle.bmp_specs.specs.Update.{AreMpNlri, IsUpdate, end_of_rib, passed_over, with_hop_of}
use Rattle.bmp_specs.specs.Values.{MpValue, NlriValue, UpdateValue}
use Rattle.path_attrs.specs.declared.judge.Judged.{Judged}
use Rattle.path_attrs.specs.Judged.{IsJudged, mp_value}
use Rattle.bgp_update.specs.declared.judge.Found.{Found}
use Rattle.bgp_update.specs.Found.{HasFound}
use Rattle.bgp_update.proofs.OneBody.{HasFields, multi_none, unreachable_none}

module _ (width : Width) (ids : IdUse) (body withdrawn attributes nlri : List ℕ) (fields : HasFields body withdrawn attributes nlri) (judged : Judged) (j : IsJudged width attributes judged) where
  -- the multiprotocol attributes are those that are lent
  pub unreachable_broken : ((ns : List NlriValue) → AreMpNlri ids (option_map mp_value judged.unreach) ns → ⊥) → (u : UpdateValue) → IsUpdate width ids body u → ⊥
  unreachable_broken none = unreachable_none width ids body withdrawn attributes nlri fields j.read j.are (λ ns are. none ns (subst (λ (m : Option MpValue). AreMpNlri ids m ns) j.unreach_is are))

  pub multi_broken : ((ns : List NlriValue) → AreMpNlri ids (option_map mp_value judged.reach) ns → ⊥) → (u : UpdateValue) → IsUpdate width ids body u → ⊥
  multi_broken none = multi_none width ids body withdrawn attributes nlri fields j.read j.are (λ ns are. none ns (subst (λ (m : Option MpValue). AreMpNlri ids m ns) j.reach_is are))

-- The body is this UPDATE message, of which each part is what was found says.
pub update_is : (width : Width) (ids : IdUse) (body : List ℕ) (found : Found) (h : HasFound width ids body found) (u : UpdateValue)
    → ((gone lost : List NlriValue) → AreNlri V4 (uses_ids ids V4) found.fields.withdrawn.now gone → AreMpNlri ids (option_map mp_value found.judged.unreach) lost → u.withdrawn ≡ gone ++ lost)
    → ((ns : List NlriValue) → AreNlri V4 (uses_ids ids V4) found.fields.nlri.now ns → u.plain ≡ ns) → u.plain_attrs ≡ h.judged.read.attrs
    → ((ns : List NlriValue) → AreMpNlri ids (option_map mp_value found.judged.reach) ns → u.multi ≡ ns) → u.multi_attrs ≡ with_hop_of (option_map mp_value found.judged.reach) h.judged.read.attrs
    → u.mark ≡ end_of_rib found.fields.withdrawn.now h.judged.read found.fields.nlri.now
    → u.unread ≡ passed_over (option_map mp_value found.judged.reach) + passed_over (option_map mp_value found.judged.unreach) → IsUpdate width ids body u
update_is width ids body found h u withdrawn plain plain_attrs multi multi_attrs mark unread =
    let j = h.judged in
    record {
      withdrawn_routes = found.fields.withdrawn.now;
      path_attributes = found.fields.attributes.now;
      nlri = found.fields.nlri.now;
      fields = h.fields;
      read = j.read;
      attributes = j.are;
      withdrawn = h.gone;
      withdrawn_are = h.gone_are;
      unreachable = h.lost;
      unreachable_are = subst (λ (m : Option MpValue). AreMpNlri ids m h.lost) (sym j.unreach_is) h.lost_are;
      all_withdrawn = withdrawn h.gone h.lost h.gone_are h.lost_are;
      plain_are = subst (λ (l : List NlriValue). AreNlri V4 (uses_ids ids V4) found.fields.nlri.now l) (sym (plain h.plain h.plain_are)) h.plain_are;
      plain_attrs_are = plain_attrs;
      multi_are =
          subst (λ (m : Option MpValue). AreMpNlri ids m u.multi) (sym j.reach_is)
          (subst (λ (l : List NlriValue). AreMpNlri ids (option_map mp_value found.judged.reach) l) (sym (multi h.multi h.multi_are)) h.multi_are);
      multi_attrs_are = multi_attrs ∙ sym (ap (λ (m : Option MpValue). with_hop_of m j.read.attrs) j.reach_is);
      mark_is = mark;
      unread_is =
          unread ∙ sym (ap (λ (m : Option MpValue). passed_over m + passed_over j.read.unreach) j.reach_is ∙ ap (λ (m : Option MpValue). passed_over (option_map mp_value found.judged.reach) + passed_over m) j.unreach_is);
    }

-- what was found is the body of an UPDATE message
pub found_is : (width : Width) (ids : IdUse) (body : List ℕ) (found : Found) → HasFound width ids body found → (u : UpdateValue) × IsUpdate width ids body u
found_is width ids body found h =
    let read = h.judged.read in (
      record {
        withdrawn = h.gone ++ h.lost;
        plain = h.plain;
        plain_attrs = read.attrs;
        multi = h.multi;
        multi_attrs = with_hop_of read.reach read.attrs;
        mark = end_of_rib found.fields.withdrawn.now read found.fields.nlri.now;
        unread = passed_over read.reach + passed_over read.unreach;
      },
      record {
        withdrawn_routes = found.fields.withdrawn.now;
        path_attributes = found.fields.attributes.now;
        nlri = found.fields.nlri.now;
        fields = h.fields;
        read = read;
        attributes = h.judged.are;
        withdrawn = h.gone;
        withdrawn_are = h.gone_are;
        unreachable = h.lost;
        unreachable_are = subst (λ (m : Option MpValue). AreMpNlri ids m h.lost) (sym h.judged.unreach_is) h.lost_are;
        all_withdrawn = refl;
        plain_are = h.plain_are;
        plain_attrs_are = refl;
        multi_are = subst (λ (m : Option MpValue). AreMpNlri ids m h.multi) (sym h.judged.reach_is) h.multi_are;
        multi_attrs_are = refl;
        mark_is = refl;
        unread_is = refl;
      },
    )
