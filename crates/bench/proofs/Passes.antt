-- The passes of a station, of which the last is taken.
use Rattle.std.proofs.Common.{◌≡◌, ◌+◌, List, [], ◌∷◌, ◌++◌, length, get_or, refl, sym, ap, ◌∙◌, arith}
use Rattle.std.proofs.lemmas.List.{get_or_append_left, get_or_push, length_push}
use Rattle.cut_publisher.specs.History.{Fed, Site}
use Rattle.cut_publisher.specs.Opening.{AreFeedsOf}

pub one_fewer : {E : Type 0} (all rest : List (Fed E)) (last : Fed E) → all ≡ rest ++ last ∷ [] → length all ≡ length rest + 1
one_fewer {E} all rest last e = ap (λ (l : List (Fed E)). length l) e ∙ length_push rest last

pub last_is_of : {E : Type 0} (b : Site) (all rest : List (Fed E)) (last : Fed E) → all ≡ rest ++ last ∷ [] → AreFeedsOf b all → last.station ≡ b
last_is_of {E} b all rest last e of =
    let long = one_fewer all rest last e in
    let here : last ≡ get_or all (length rest) last = sym (get_or_push rest last last (length rest) refl) ∙ ap (λ (l : List (Fed E)). get_or l (length rest) last) (sym e) in
    ap (λ (f : Fed E). f.station) here ∙ of (length rest) last (omega (arith, long))

pub rest_are_of : {E : Type 0} (b : Site) (all rest : List (Fed E)) (last : Fed E) → all ≡ rest ++ last ∷ [] → AreFeedsOf b all → AreFeedsOf b rest
rest_are_of {E} b all rest last e of k d h =
    let long = one_fewer all rest last e in
    let here : get_or rest k d ≡ get_or all k d = sym (get_or_append_left rest (last ∷ []) d k h) ∙ ap (λ (l : List (Fed E)). get_or l k d) (sym e) in
    ap (λ (f : Fed E). f.station) here ∙ of k d (omega (arith, h, long))
