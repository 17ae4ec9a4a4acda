-- An UPDATE message whose attributes are those of one before it.
use Rattle.std.proofs.Common.{◌≡◌, ◌+◌, ◌==◌, ◌&&◌, ℕ, Bool, true, false, not, List, [], ◌++◌, length, Option, None, Some, if◌then◌else◌, refl, sym, ap, subst, ◌∙◌}
use Rattle.std.specs.Prelude.{is_some}
use Rattle.std.specs.Option.{option_map}
use Rattle.bmp_specs.specs.declared.wire.Family.TheVariants.{V4}
use Rattle.bmp_specs.specs.declared.wire.IdUse.{IdUse}
use Rattle.bmp_specs.specs.declared.wire.Width.{Width}
use Rattle.bmp_specs.specs.AddressFamily.{uses_ids}
use Rattle.bmp_specs.specs.Attributes.{AreAttributes}
use Rattle.bmp_specs.specs.Nlri.{AreNlri}
use Rattle.bmp_specs.specs.Update.{AreMpNlri, IsUpdate, empty_family, end_of_rib, passed_over, with_hop_of}
use Rattle.bmp_specs.specs.Values.{AttrsReadValue, AttrsValue, MpValue, NlriValue, UpdateValue}
use Rattle.bmp_specs.proofs.AttributesOne.{AreAttributes-one}
use Rattle.bmp_specs.proofs.UpdateOne.{UpdateFields, fields_one}
use Rattle.path_attrs.specs.Judged.{mp_value}
use Rattle.bgp_update.specs.declared.judge.Found.{Found}
use Rattle.bgp_update.specs.Found.{HasFound}
use Rattle.bgp_update.specs.Own.{AreOwn}
use Rattle.bgp_update.proofs.OneBody.{HasFields}

none_of : {A B : Type 0} (f : A → B) (x : Option A) (none : Bool) → is_some x ≡ not none → none ≡ true → option_map f x ≡ None
none_of f None none is e = refl
none_of f (Some x) none is e = absurd (cc (is, e))

-- the attributes of an UPDATE message that was read, where judging it found no multiprotocol ones
pub own_of : (width : Width) (ids : IdUse) (body : List ℕ) (found : Found) → HasFound width ids body found → (reach unreach : Bool) → is_some found.judged.reach ≡ not reach → reach ≡ true
    → is_some found.judged.unreach ≡ not unreach → unreach ≡ true → (u : UpdateValue) → IsUpdate width ids body u → (attrs : AttrsValue) → u.plain_attrs ≡ attrs → AreOwn width found.fields.attributes.now attrs
own_of width ids body found h reach unreach reach_is reach_yes unreach_is unreach_yes u p attrs same =
    let fields = fields_one body (p.withdrawn_routes, (p.path_attributes, p.nlri)) (found.fields.withdrawn.now, (found.fields.attributes.now, found.fields.nlri.now)) p.fields h.fields in
    let are = subst (λ (l : List ℕ). AreAttributes width l p.read) (ap (λ (f : UpdateFields). f.1.0) fields) p.attributes in
    let one : h.judged.read ≡ p.read = AreAttributes-one width found.fields.attributes.now h.judged.read p.read h.judged.are are in
    record {
      read = p.read;
      are = are;
      no_reach = sym (ap (λ (r : AttrsReadValue). r.reach) one) ∙ h.judged.reach_is ∙ none_of mp_value found.judged.reach reach reach_is reach_yes;
      no_unreach = sym (ap (λ (r : AttrsReadValue). r.unreach) one) ∙ h.judged.unreach_is ∙ none_of mp_value found.judged.unreach unreach unreach_is unreach_yes;
      attrs_are = sym same ∙ p.plain_attrs_are;
    }

no_mark : (withdrawn : List ℕ) (read : AttrsReadValue) (nlri : List ℕ) (empty : Bool) → empty ≡ (length nlri == 0) → empty ≡ false → end_of_rib withdrawn read nlri ≡ None
no_mark withdrawn read nlri empty is e = at (length withdrawn == 0) (length nlri == 0) (sym is ∙ e)
  where
    at : (a b : Bool) → b ≡ false → (if a && b then (if read.count == 0 then Some V4 else (if read.count == 1 then empty_family read.unreach else None)) else None) ≡ None
    at true false e = refl
    at false false e = refl
    at a true e = absurd (cc e)

-- the body is this UPDATE message, where its attributes are those that were kept
pub again_is : (width : Width) (ids : IdUse) (body withdrawn attributes nlri : List ℕ) → HasFields body withdrawn attributes nlri → (attrs : AttrsValue) → AreOwn width attributes attrs
    → (empty : Bool) → empty ≡ (length nlri == 0) → empty ≡ false → (gone plain : List NlriValue) → AreNlri V4 (uses_ids ids V4) withdrawn gone → AreNlri V4 (uses_ids ids V4) nlri plain
    → (u : UpdateValue) → ((ns lost : List NlriValue) → AreNlri V4 (uses_ids ids V4) withdrawn ns → AreMpNlri ids None lost → u.withdrawn ≡ ns ++ lost) → ((ns : List NlriValue) → AreNlri V4 (uses_ids ids V4) nlri ns → u.plain ≡ ns)
    → u.plain_attrs ≡ attrs → u.multi ≡ [] → u.multi_attrs ≡ attrs → u.mark ≡ None → u.unread ≡ 0 → IsUpdate width ids body u
again_is width ids body withdrawn attributes nlri fields attrs own empty empty_is some gone plain gone_are plain_are u withdrawn_is plain_is plain_attrs multi multi_attrs mark unread = record {
  withdrawn_routes = withdrawn;
  path_attributes = attributes;
  nlri = nlri;
  fields = fields;
  read = own.read;
  attributes = own.are;
  withdrawn = gone;
  withdrawn_are = gone_are;
  unreachable = [];
  unreachable_are = subst (λ (m : Option MpValue). AreMpNlri ids m []) (sym own.no_unreach) refl;
  all_withdrawn = withdrawn_is gone [] gone_are refl;
  plain_are = subst (λ (l : List NlriValue). AreNlri V4 (uses_ids ids V4) nlri l) (sym (plain_is plain plain_are)) plain_are;
  plain_attrs_are = plain_attrs ∙ own.attrs_are;
  multi_are = subst (λ (m : Option MpValue). AreMpNlri ids m u.multi) (sym own.no_reach) multi;
  multi_attrs_are = multi_attrs ∙ own.attrs_are ∙ sym (ap (λ (m : Option MpValue). with_hop_of m own.read.attrs) own.no_reach);
  mark_is = mark ∙ sym (no_mark withdrawn own.read nlri empty empty_is some);
  unread_is = unread ∙ sym (ap (λ (m : Option MpValue). passed_over m + passed_over own.read.unreach) own.no_reach ∙ ap (λ (m : Option MpValue). 0 + passed_over m) own.no_unreach);
}
