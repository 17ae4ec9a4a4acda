use Rattle.std.proofs.Common.{◌≡◌, ◌+◌, List, [], ◌∷◌, ◌++◌, length, get_or, Option, None, Some, IfSome, refl, sym, ap, ◌∙◌, arith}
use Rattle.std.specs.Prelude.{MatchOption}
use Rattle.std.proofs.lemmas.List.{get_or_push, length_push}
use Rattle.cut_publisher.specs.History.{Fed, Site}
use Rattle.cut_publisher.specs.Opening.{AreFeedsOf}
use Rattle.station_tests.proofs.lanes.watched.watched.Goals as goal

-- the pass that is taken out of a list of passes of a station is one of them
popped : {E : Type 0} (b : Site) (all rest : List (Fed E)) (r : Option (Fed E)) → AreFeedsOf b all → MatchOption r ((all ≡ []) × (rest ≡ [])) (λ x. all ≡ rest ++ x ∷ []) → IfSome r (λ f. f.station ≡ b)
popped b all rest None of taken = tt
popped {E} b all rest (Some x) of taken =
    let long : length all ≡ length rest + 1 = ap (λ (l : List (Fed E)). length l) taken ∙ length_push rest x in
    let here : x ≡ get_or all (length rest) x = sym (get_or_push rest x x (length rest) refl) ∙ ap (λ (l : List (Fed E)). get_or l (length rest) x) (sym taken) in
    ap (λ (f : Fed E). f.station) here ∙ of (length rest) x (omega (arith, long))

pub served-seen-requires : goal.served-seen-requires
served-seen-requires g c = popped g.J.Naming.site _ _ c.pop.result c.named-publisher.ensures.feeds c.pop.ensures
