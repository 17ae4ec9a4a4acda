-- The prefixes at places that fit.
use Rattle.std.proofs.Common.{◌≡◌, ℕ, ◌+◌, List, [], ◌∷◌, ◌++◌, None, refl}
use Rattle.std.specs.List.{AllByRecursion}
use Rattle.bmp_specs.specs.declared.wire.Family.{Family}
use Rattle.bmp_specs.specs.declared.wire.Family.TheVariants.{V4, V6}
use Rattle.bmp_specs.specs.declared.wire.IdUse.{IdUse}
use Rattle.bmp_specs.specs.AddressFamily.{uses_ids}
use Rattle.bmp_specs.specs.FramedUpdate.{FitsFamily, FitsPlace, FramedValue, PlaceValue, places}
use Rattle.bmp_specs.specs.Nlri.{AreNlri}
use Rattle.bmp_specs.specs.TreatAsWithdraw.{ArePlaced, IsTreatedAsWithdraw, no_attributes}
use Rattle.bmp_specs.specs.Update.{passed_over}
use Rattle.bmp_specs.specs.Values.{AttrsValue, NlriValue}

placed_at : (ids : IdUse) (family : Family) (bytes : List ℕ) → FitsPlace V4 ids.v4 (record { family = family; prefixes = bytes }) → FitsPlace V6 ids.v6 (record { family = family; prefixes = bytes })
    → (ns : List NlriValue) × AreNlri family (uses_ids ids family) bytes ns
placed_at ids V4 bytes four six = four refl
placed_at ids V6 bytes four six = six refl

all_placed : (ids : IdUse) (ps : List PlaceValue) → AllByRecursion (FitsPlace V4 ids.v4) ps → AllByRecursion (FitsPlace V6 ids.v6) ps → (ns : List NlriValue) × ArePlaced ids ps ns
all_placed ids [] four six = ([], refl)
all_placed ids (place ∷ others) four six =
    let here = placed_at ids place.family place.prefixes four.0 six.0 in
    let there = all_placed ids others four.1 six.1 in
    (here.0 ++ there.0, (here.0, there.0, here.1, there.1, refl))

-- where all places of both families fit, they have prefixes
pub places_have : (ids : IdUse) (f : FramedValue) → FitsFamily f V4 ids.v4 → FitsFamily f V6 ids.v6 → (ns : List NlriValue) × ArePlaced ids (places f) ns
places_have ids f four six = all_placed ids (places f) four six

-- an UPDATE message of these parts withdraws them
pub withdraws : (ids : IdUse) (f : FramedValue) → FitsFamily f V4 ids.v4 → FitsFamily f V6 ids.v6 → (withdrawn plain multi : List NlriValue) (plain_attrs multi_attrs : AttrsValue) (reach unreach : ℕ)
    → ((ns : List NlriValue) → ArePlaced ids (places f) ns → withdrawn ≡ ns) → plain ≡ [] → plain_attrs ≡ no_attributes → multi ≡ [] → multi_attrs ≡ no_attributes
    → reach ≡ passed_over f.reach → unreach ≡ passed_over f.unreach
    → IsTreatedAsWithdraw ids f (record { withdrawn = withdrawn; plain = plain; plain_attrs = plain_attrs; multi = multi; multi_attrs = multi_attrs; mark = None; unread = 1 + (reach + unreach) })
withdraws ids f four six withdrawn plain multi plain_attrs multi_attrs reach unreach all a b c d e g =
    let p = places_have ids f four six in
    let gone : withdrawn ≡ p.0 = all p.0 p.1 in
    record {
      contained = p.0;
      are = p.1;
      is = λ i. record { withdrawn = gone i; plain = a i; plain_attrs = b i; multi = c i; multi_attrs = d i; mark = None; unread = 1 + (e i + g i) };
    }
