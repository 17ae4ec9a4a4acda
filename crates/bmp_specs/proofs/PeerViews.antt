-- A header's view is one of its peer's.
use Rattle.std.proofs.Common.{◌≡◌, ℕ, Bool, true, false, [], ◌∷◌, Some, None, refl, ap, subst, ◌==◌, if◌then◌else◌, Contains, leb, lit<}
use Rattle.bmp_specs.specs.declared.peers.View.TheVariants.{InPre, InPost, OutPre, OutPost, Loc}
use Rattle.bmp_specs.specs.Values.{KeyValue}
use Rattle.bmp_specs.specs.PeerHeader.{HeaderValue, key_of, view_of, place_of, IsViewOf, loc_rib, is_set, o_flag, l_flag}

-- the views and the view, by the three tests that decide them
among : (loc outward after : Bool)
    → Contains (if loc then Loc ∷ [] else InPre ∷ InPost ∷ OutPre ∷ OutPost ∷ []) (if loc then Loc else (if outward then (if after then OutPost else OutPre) else (if after then InPost else InPre)))
among true outward after = (0, lit< tt, refl)
among false false false = (0, lit< tt, refl)
among false false true = (1, lit< tt, refl)
among false true false = (2, lit< tt, refl)
among false true true = (3, lit< tt, refl)

-- the key's type is the header's
same_kind : (known : Bool) (made key : KeyValue) → (if known then Some made else None) ≡ Some key → made.kind ≡ key.kind
same_kind true made key e = let same : made ≡ key = cc in ap (λ (k : KeyValue). k.kind) same
same_kind false made key e = absurd cc

pub view_among : (h : HeaderValue) (key : KeyValue) → key_of h ≡ Some key → IsViewOf key (view_of h)
view_among h key e =
    let kind : h.kind ≡ key.kind = same_kind (leb h.kind loc_rib) (record { kind = h.kind; distinguisher = h.distinguisher; address = place_of h h.address }) key e in
    let P : ℕ → Type 0 = λ k. Contains (if k == loc_rib then Loc ∷ [] else InPre ∷ InPost ∷ OutPre ∷ OutPost ∷ []) (view_of h) in
    subst P kind (among (h.kind == loc_rib) (is_set o_flag h.flags) (is_set l_flag h.flags))
