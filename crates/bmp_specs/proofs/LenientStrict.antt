-- An UPDATE message that has a value by the RFCs has it in the forms that were agreed, so the lenient reading gives the
-- same.
use Rattle.std.proofs.Common.{◌≡◌, ℕ, Bool, inl, List, [], ◌∷◌, ◌++◌, option_map, option_to_list, Option, Some, None, refl, subst}
use Rattle.std.specs.Prelude.{MatchOption}
use Rattle.std.specs.List.{AllByRecursion}
use Rattle.bmp_specs.specs.declared.wire.Family.{Family}
use Rattle.bmp_specs.specs.declared.wire.Family.TheVariants.{V4, V6}
use Rattle.bmp_specs.specs.declared.wire.IdUse.{IdUse}
use Rattle.bmp_specs.specs.declared.wire.Width.{Width}
use Rattle.bmp_specs.specs.AddressFamily.{unicast_family, uses_ids}
use Rattle.bmp_specs.specs.FramedUpdate.{FitsFamily, FitsPlace, PlaceValue, place_in}
use Rattle.bmp_specs.specs.LenientBody.{IsLenientUpdate}
use Rattle.bmp_specs.specs.MessageBody.{IsRouteMonitoring, id_use, width_of}
use Rattle.bmp_specs.specs.Nlri.{AreNlri}
use Rattle.bmp_specs.specs.PeerHeader.{HeaderValue}
use Rattle.bmp_specs.specs.Update.{AreMpNlri, IsUpdate}
use Rattle.bmp_specs.specs.UpdateForms.{as_agreed}
use Rattle.bmp_specs.specs.Values.{MpValue, NlriValue, OpensValue, UpdateValue}
use Rattle.bmp_specs.proofs.FramedOne.{frame_of, is_framed}

all_join : {X : Type 0} (P : X → Type 0) (xs ys : List X) → AllByRecursion P xs → AllByRecursion P ys → AllByRecursion P (xs ++ ys)
all_join P [] ys a b = b
all_join P (x ∷ xs) ys a b = (a.0, all_join P xs ys a.1 b)

module _ (ids : IdUse) (family : Family) where
  fits_place : (place : PlaceValue) (ns : List NlriValue) → AreNlri place.family (uses_ids ids place.family) place.prefixes ns → FitsPlace family (uses_ids ids family) place
  fits_place place ns are e = (ns, subst (λ (f : Family). AreNlri f (uses_ids ids f) place.prefixes ns) e are)

  fits_found : (found : Option Family) (bytes : List ℕ) (ns : List NlriValue) → MatchOption found (ns ≡ []) (λ f. AreNlri f (uses_ids ids f) bytes ns)
      → AllByRecursion (FitsPlace family (uses_ids ids family)) (option_to_list (option_map (λ f. record { family = f; prefixes = bytes }) found))
  fits_found None bytes ns p = tt
  fits_found (Some f) bytes ns p = (fits_place (record { family = f; prefixes = bytes }) ns p, tt)

  fits_mp : (found : Option MpValue) (ns : List NlriValue) → AreMpNlri ids found ns → AllByRecursion (FitsPlace family (uses_ids ids family)) (place_in found)
  fits_mp None ns p = tt
  fits_mp (Some m) ns p = fits_found (unicast_family m.afi m.safi) m.prefixes ns p

  fits_family : (width : Width) (body : List ℕ) (u : UpdateValue) (p : IsUpdate width ids body u) → FitsFamily (frame_of width ids body u p) family (uses_ids ids family)
  fits_family width body u p = all_join (FitsPlace family (uses_ids ids family))
      (record { family = V4; prefixes = p.withdrawn_routes } ∷ place_in p.read.unreach) (record { family = V4; prefixes = p.nlri } ∷ place_in p.read.reach)
      (fits_place (record { family = V4; prefixes = p.withdrawn_routes }) p.withdrawn p.withdrawn_are, fits_mp p.read.unreach p.unreachable p.unreachable_are)
      (fits_place (record { family = V4; prefixes = p.nlri }) u.plain p.plain_are, fits_mp p.read.reach u.multi p.multi_are)

pub lenient_update : (opens : OpensValue) (h : HeaderValue) (rest : List ℕ) (u : UpdateValue) → IsRouteMonitoring opens h rest u → IsLenientUpdate opens h rest as_agreed as_agreed u
lenient_update opens h rest u p = record {
  message = p.message;
  is = p.is;
  is_update = p.is_update;
  framed = frame_of (width_of h) (id_use opens h) p.message.body u p.body_is;
  frames = is_framed (width_of h) (id_use opens h) p.message.body u p.body_is;
  v4 = record { fits = fits_family (id_use opens h) V4 (width_of h) p.message.body u p.body_is; first = inl refl };
  v6 = record { fits = fits_family (id_use opens h) V6 (width_of h) p.message.body u p.body_is; first = inl refl };
  routes = inl (record {
    width = record { fits = record { read = p.body_is.read; are = p.body_is.attributes; no_zero = tt }; first = inl refl };
    is = p.body_is;
  });
}
