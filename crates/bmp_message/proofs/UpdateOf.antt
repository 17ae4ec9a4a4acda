-- The UPDATE of a Route Monitoring message.
use Rattle.std.proofs.Common.{◌≡◌, ℕ, List, refl, sym, ap, subst}
use Rattle.bmp_specs.specs.declared.wire.IdUse.{IdUse}
use Rattle.bmp_specs.specs.declared.wire.Width.{Width}
use Rattle.bmp_specs.specs.BgpMessage.{IsBgpMessage, update_type}
use Rattle.bmp_specs.specs.MessageBody.{IsRouteMonitoring, id_use, width_of}
use Rattle.bmp_specs.specs.PeerHeader.{HeaderValue}
use Rattle.bmp_specs.specs.Update.{IsUpdate}
use Rattle.bmp_specs.specs.Values.{BgpMessageValue, OpensValue, UpdateValue}
use Rattle.bmp_specs.proofs.BgpMessageCode.{IsBgpMessage-one}

-- an UPDATE message with this body
abbrev pub update_with : List ℕ → BgpMessageValue
update_with body = record { kind = update_type; body = body }

pub as_update : (rest : List ℕ) (m : BgpMessageValue) → m.kind ≡ update_type → IsBgpMessage rest m → IsBgpMessage rest (update_with m.body)
as_update rest m e is = subst (λ (k : ℕ). IsBgpMessage rest (record { kind = k; body = m.body })) e is

-- where the bytes are no UPDATE message
pub no_update : (opens : OpensValue) (h : HeaderValue) (rest : List ℕ) → ((body : List ℕ) → IsBgpMessage rest (update_with body) → ⊥) → (u : UpdateValue) → IsRouteMonitoring opens h rest u → ⊥
no_update opens h rest none u p = none p.message.body (as_update rest p.message p.is_update p.is)

-- where its body is no body of an UPDATE
pub no_body : (opens : OpensValue) (h : HeaderValue) (rest body : List ℕ) (width : Width) (ids : IdUse) → IsBgpMessage rest (update_with body) → width ≡ width_of h → ids ≡ id_use opens h
    → ((u : UpdateValue) → IsUpdate width ids body u → ⊥) → (u : UpdateValue) → IsRouteMonitoring opens h rest u → ⊥
no_body opens h rest body width ids is w i none u p =
    let same : p.message.body ≡ body = ap (λ (m : BgpMessageValue). m.body) (IsBgpMessage-one rest p.message (update_with body) p.is is) in
    none u (subst (λ (x : Width). IsUpdate x ids body u) (sym w)
    (subst (λ (x : IdUse). IsUpdate (width_of h) x body u) (sym i) (subst (λ (l : List ℕ). IsUpdate (width_of h) (id_use opens h) l u) same p.body_is)))

-- where its body is that of an UPDATE
pub routes_are : (opens : OpensValue) (h : HeaderValue) (rest body : List ℕ) (width : Width) (ids : IdUse) → IsBgpMessage rest (update_with body) → width ≡ width_of h → ids ≡ id_use opens h
    → (u : UpdateValue) × IsUpdate width ids body u → (u : UpdateValue) × IsRouteMonitoring opens h rest u
routes_are opens h rest body width ids is w i (u, body_is) = (
  u,
  record {
    message = update_with body;
    is = is;
    is_update = refl;
    body_is = subst (λ (x : IdUse). IsUpdate (width_of h) x body u) i (subst (λ (x : Width). IsUpdate x ids body u) w body_is);
  },
)
