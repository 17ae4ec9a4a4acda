-- What a link shows of the connections that were served.
use Rattle.std.proofs.Common.{◌≡◌, ℕ, List, [], ◌∷◌, ◌++◌, map, Option, Some, refl, ap, sym, ◌∙◌, subst, append_assoc, append-nil}
use Rattle.bmp_specs.specs.Life.{Given}
use Rattle.station_doors.specs.Doors.{GivesNext, opened_one}
use Rattle.wire_io.specs.Aside.{Aside, fresh}
use Rattle.ask_session.specs.Replies.{History}
use Rattle.ask_session.specs.Connection.{GivesInput}
use Rattle.ask_session.specs.Sessions.{Session, Serves, input_of}

pub serves_given : (lanes : ℕ) (ss : List Session) (seen seen' : History) (aside aside' : Aside) (told told' : Option (List ℕ)) (writes writes' : ℕ) (given : List Given)
    → Serves lanes seen seen' aside aside' told told' writes writes' ss → aside.given ≡ Some given → aside'.given ≡ Some (given ++ map input_of ss)
serves_given lanes [] seen seen' aside aside' told told' writes writes' given p is = ap (λ (x : Aside). x.given) p.1 ∙ is ∙ ap (λ (l : List Given). Some l) (sym (append-nil given))
serves_given lanes (s ∷ ss) seen seen' aside aside' told told' writes writes' given p is =
    let opened : s.opened.given ≡ Some (given ++ fresh ∷ []) = subst (λ (o : Option (List Given)). GivesNext o s.opened.given opened_one) is p.1.opens.given in
    let ended : s.ended.given ≡ Some (given ++ s.input ∷ []) = subst (λ (o : Option (List Given)). GivesInput o s.ended.given s.input) opened p.3.reads.given given refl in
    let closed : s.closed.given ≡ Some (given ++ s.input ∷ []) = ap (λ (x : Aside). x.given) p.4.same ∙ ended in
    serves_given lanes ss s.seen seen' s.closed aside' s.told1 told' s.writes writes' (given ++ s.input ∷ []) p.5 closed ∙ ap (λ (l : List Given). Some l) (append_assoc given (s.input ∷ []) (map input_of ss))
