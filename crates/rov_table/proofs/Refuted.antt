-- What a wrong judge or reader would answer, and that it isn't what the contract asks for.
use Rattle.std.proofs.Common.{◌≡◌, ◌≤◌, ℕ, zero, suc, List, [], ◌∷◌, Some, None, refl, sym, ap, subst, arith}
use Rattle.std.specs.List.{Contains}
use Rattle.bmp_specs.specs.Containment.{ContainsPrefix}
use Rattle.bmp_specs.specs.Prefix.{prefix_of}
use Rattle.bmp_specs.specs.TreatAsWithdraw.{no_attributes}
use Rattle.bmp_specs.specs.Values.{PeerInfoValue, PrefixValue}
use Rattle.bmp_specs.specs.declared.wire.Family.TheVariants.{V4}
use Rattle.bmp_specs.specs.declared.wire.SegmentKind.TheVariants.{ConfedSequence, ConfedSet}
use Rattle.rov_table.specs.declared.vrp.Vrp.{Vrp}
use Rattle.rov_table.specs.declared.vrp.Verdict.TheVariants.{Valid, Invalid}
use Rattle.rov_table.specs.declared.vrp.VrpFault.TheVariants.{Bad}
use Rattle.rov_table.specs.Origins.{route_origin}
use Rattle.rov_table.specs.Verdicts.{IsVerdict}
use Rattle.rov_table.specs.VrpFile.{IsFaultOf, IsVrp}

-- 10.0.0.0/8 of this AS, up to this length; and a route to 10.1.0.0/16
abbrev vrp : ℕ → ℕ → Vrp
vrp asn max = record { prefix = prefix_of V4 8 (10 ∷ []); max = max; asn = asn }

abbrev route : PrefixValue
route = prefix_of V4 16 (10 ∷ 1 ∷ [])

covered : (asn max : ℕ) → ContainsPrefix (vrp asn max).prefix route
covered asn max = record { shorter = omega arith; holds = record { family = refl; agree = refl } }

the_one : (v w : Vrp) → Contains (w ∷ []) v → v ≡ w
the_one v w (zero, within, is) = sym is
the_one v w (suc k, within, is) = absurd (omega (arith, within))

-- Of two VRPs that cover a route one matches: who ends at the other says that it is invalid.
another_vrp_may_match : IsVerdict (vrp 2 16 ∷ vrp 1 16 ∷ []) route (Some 2) Invalid → ⊥
another_vrp_may_match is = is.1 (vrp 2 16) (0, omega arith, refl) (covered 2 16, record { short = omega arith; some = λ e. omega (arith, e); same = refl })

-- The same AS is no match where the route's prefix is longer than the maximum length.
a_longer_route_is_not_valid : IsVerdict (vrp 1 8 ∷ []) route (Some 1) Valid → ⊥
a_longer_route_is_not_valid (v, has, matches) =
    let short : 16 ≤ 8 = subst (λ (u : Vrp). route.bits ≤ u.max) (the_one v (vrp 1 8) has) matches.1.short in
    omega arith

-- AS 0 is no match of AS 0.
as_0_is_not_valid : IsVerdict (vrp 0 16 ∷ []) route (Some 0) Valid → ⊥
as_0_is_not_valid (v, has, matches) = matches.1.some (ap (λ (u : Vrp). u.asn) (the_one v (vrp 0 16) has))

-- A path that ends in a confederation has an origin, in either of its segments.
a_confederation_has_an_origin : (numbers : List ℕ) (info : PeerInfoValue) → route_origin (record no_attributes { path = Some (record { kind = ConfedSequence; numbers = numbers } ∷ []) }) info ≡ None → ⊥
a_confederation_has_an_origin numbers info none = absurd cc

a_confederation_set_has_an_origin : (numbers : List ℕ) (info : PeerInfoValue) → route_origin (record no_attributes { path = Some (record { kind = ConfedSet; numbers = numbers } ∷ []) }) info ≡ None → ⊥
a_confederation_set_has_an_origin numbers info none = absurd cc

-- Where record 2 is the first bad one, record 1 isn't; and the heading never is.
a_good_record_is_not_the_bad_one : (heading row bad : List (List ℕ)) (v : Vrp) → IsVrp row v → IsFaultOf (heading ∷ row ∷ bad ∷ []) (Bad 1) → ⊥
a_good_record_is_not_the_bad_one heading row bad v is fault = fault.bad v is

the_heading_is_not_the_bad_one : (rows : List (List (List ℕ))) → IsFaultOf rows (Bad 0) → ⊥
the_heading_is_not_the_bad_one rows fault = omega (arith, fault.later)
