-- What a port tells of the connections that were served.
use Rattle.std.proofs.Common.{◌≡◌, List, [], ◌∷◌, ◌++◌, map, Option, Some, ap, sym, ◌∙◌, subst, append_assoc, append-nil}
use Rattle.bmp_specs.specs.Life.{Given}
use Rattle.bmp_specs.specs.Meaning.{Meaning}
use Rattle.station_doors.specs.Doors.{GivesNext, GivesMore, opened_one}
use Rattle.station_doors.proofs.Sessions.{given_more_last}
use Rattle.wire_io.specs.Aside.{Aside, fresh}
use Rattle.feed_worker.specs.Feed.{Connection, Serves, input_of}

pub serves_given : (meaning : Meaning) (cs : List Connection) (old new : Aside) (given : List Given) → Serves meaning old new cs → old.given ≡ Some given → new.given ≡ Some (given ++ map input_of cs)
serves_given meaning [] old new given same is = ap (λ (x : Aside). x.given) same ∙ is ∙ ap (λ (l : List Given). Some l) (sym (append-nil given))
serves_given meaning (c ∷ cs) old new given (visit, life, rest) is =
    let opened : c.opened.given ≡ Some (given ++ fresh ∷ []) = subst (λ (o : Option (List Given)). GivesNext o c.opened.given opened_one) is visit.opens.given in
    let more = subst (λ (o : Option (List Given)). GivesMore o c.taken.given c.input.bytes c.input.last) opened visit.takes.given in
    let taken : c.taken.given ≡ Some (given ++ c.input ∷ []) = more ∙ ap (λ (l : List Given). Some l) (given_more_last given fresh c.input.bytes c.input.last) in
    let closed : c.closed.given ≡ Some (given ++ c.input ∷ []) = ap (λ (x : Aside). x.given) visit.closes.same ∙ taken in
    serves_given meaning cs c.closed new (given ++ c.input ∷ []) rest closed ∙ ap (λ (l : List Given). Some l) (append_assoc given (c.input ∷ []) (map input_of cs))
