-- The body of an UPDATE message, from what its fields are.
use Rattle.std.proofs.Common.{◌≡◌, ℕ, List, ap, subst}
use Rattle.bmp_specs.specs.declared.wire.Family.TheVariants.{V4}
use Rattle.bmp_specs.specs.declared.wire.IdUse.{IdUse}
use Rattle.bmp_specs.specs.declared.wire.Width.{Width}
use Rattle.bmp_specs.specs.AddressFamily.{uses_ids}
use Rattle.bmp_specs.specs.Attributes.{AreAttributes}
use Rattle.bmp_specs.specs.Counted.{IsCounted, IsRest}
use Rattle.bmp_specs.specs.Nlri.{AreNlri}
use Rattle.bmp_specs.specs.Sequence.{Then}
use Rattle.bmp_specs.specs.Update.{AreMpNlri, IsUpdate}
use Rattle.bmp_specs.specs.Values.{AttrsReadValue, NlriValue, UpdateValue}
use Rattle.bmp_specs.proofs.AttributesOne.{AreAttributes-one}
use Rattle.bmp_specs.proofs.UpdateOne.{UpdateFields, fields_one}

-- the body has these three fields
abbrev pub HasFields : List ℕ → List ℕ → List ℕ → List ℕ → Type 0
HasFields body withdrawn attributes nlri = Then IsCounted (Then IsCounted IsRest) body (withdrawn, (attributes, nlri))

pub fields_none : (width : Width) (ids : IdUse) (body : List ℕ) → ((v : UpdateFields) → Then IsCounted (Then IsCounted IsRest) body v → ⊥) → (u : UpdateValue) → IsUpdate width ids body u → ⊥
fields_none width ids body none u p = none (p.withdrawn_routes, (p.path_attributes, p.nlri)) p.fields

abbrev IsSame : UpdateFields → UpdateFields → Type 0
IsSame f g = f ≡ g

-- an UPDATE message with this body has its fields
fields_of : (width : Width) (ids : IdUse) (body withdrawn attributes nlri : List ℕ) → HasFields body withdrawn attributes nlri → (u : UpdateValue) (p : IsUpdate width ids body u)
    → IsSame (p.withdrawn_routes, (p.path_attributes, p.nlri)) (withdrawn, (attributes, nlri))
fields_of width ids body withdrawn attributes nlri here u p = fields_one body (p.withdrawn_routes, (p.path_attributes, p.nlri)) (withdrawn, (attributes, nlri)) p.fields here

attributes_of : (width : Width) (ids : IdUse) (body withdrawn attributes nlri : List ℕ) → HasFields body withdrawn attributes nlri → (u : UpdateValue) (p : IsUpdate width ids body u)
    → AreAttributes width attributes p.read
attributes_of width ids body withdrawn attributes nlri here u p =
    subst (λ (l : List ℕ). AreAttributes width l p.read) (ap (λ (f : UpdateFields). f.1.0) (fields_of width ids body withdrawn attributes nlri here u p)) p.attributes

read_of : (width : Width) (ids : IdUse) (body withdrawn attributes nlri : List ℕ) → HasFields body withdrawn attributes nlri → (read : AttrsReadValue) → AreAttributes width attributes read
    → (u : UpdateValue) (p : IsUpdate width ids body u) → p.read ≡ read
read_of width ids body withdrawn attributes nlri here read are u p =
    AreAttributes-one width attributes p.read read (attributes_of width ids body withdrawn attributes nlri here u p) are

pub attributes_none : (width : Width) (ids : IdUse) (body withdrawn attributes nlri : List ℕ) → HasFields body withdrawn attributes nlri → ((read : AttrsReadValue) → AreAttributes width attributes read → ⊥)
    → (u : UpdateValue) → IsUpdate width ids body u → ⊥
attributes_none width ids body withdrawn attributes nlri here none u p = none p.read (attributes_of width ids body withdrawn attributes nlri here u p)

pub withdrawn_none : (width : Width) (ids : IdUse) (body withdrawn attributes nlri : List ℕ) → HasFields body withdrawn attributes nlri → ((ns : List NlriValue) → AreNlri V4 (uses_ids ids V4) withdrawn ns → ⊥)
    → (u : UpdateValue) → IsUpdate width ids body u → ⊥
withdrawn_none width ids body withdrawn attributes nlri here none u p =
    none p.withdrawn (subst (λ (l : List ℕ). AreNlri V4 (uses_ids ids V4) l p.withdrawn) (ap (λ (f : UpdateFields). f.0) (fields_of width ids body withdrawn attributes nlri here u p)) p.withdrawn_are)

pub unreachable_none : (width : Width) (ids : IdUse) (body withdrawn attributes nlri : List ℕ) → HasFields body withdrawn attributes nlri → (read : AttrsReadValue) → AreAttributes width attributes read
    → ((ns : List NlriValue) → AreMpNlri ids read.unreach ns → ⊥) → (u : UpdateValue) → IsUpdate width ids body u → ⊥
unreachable_none width ids body withdrawn attributes nlri here read are none u p =
    none p.unreachable (subst (λ (r : AttrsReadValue). AreMpNlri ids r.unreach p.unreachable) (read_of width ids body withdrawn attributes nlri here read are u p) p.unreachable_are)

pub plain_none : (width : Width) (ids : IdUse) (body withdrawn attributes nlri : List ℕ) → HasFields body withdrawn attributes nlri → ((ns : List NlriValue) → AreNlri V4 (uses_ids ids V4) nlri ns → ⊥)
    → (u : UpdateValue) → IsUpdate width ids body u → ⊥
plain_none width ids body withdrawn attributes nlri here none u p =
    none u.plain (subst (λ (l : List ℕ). AreNlri V4 (uses_ids ids V4) l u.plain) (ap (λ (f : UpdateFields). f.1.1) (fields_of width ids body withdrawn attributes nlri here u p)) p.plain_are)

pub multi_none : (width : Width) (ids : IdUse) (body withdrawn attributes nlri : List ℕ) → HasFields body withdrawn attributes nlri → (read : AttrsReadValue) → AreAttributes width attributes read
    → ((ns : List NlriValue) → AreMpNlri ids read.reach ns → ⊥) → (u : UpdateValue) → IsUpdate width ids body u → ⊥
multi_none width ids body withdrawn attributes nlri here read are none u p =
    none u.multi (subst (λ (r : AttrsReadValue). AreMpNlri ids r.reach u.multi) (read_of width ids body withdrawn attributes nlri here read are u p) p.multi_are)
