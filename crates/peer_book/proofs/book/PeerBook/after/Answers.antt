use Rattle.std.proofs.Common.{◌∙◌, ap, Some}
use Rattle.std.specs.List.{slice_get}
use Rattle.std.specs.Map.Iter.{deref_pair}
use Rattle.std.specs.Option.{option_map}
use Rattle.bmp_specs.specs.Orders.{key_cmp}
use Rattle.bmp_specs.proofs.FirstInRange.{first_shown, between-after}
use Rattle.peer_book.specs.Peers.{keyed_state, after_place}
use Rattle.peer_book.proofs.book.PeerBook.after.Goals as goal

pub returns-in-Some-clause-first : goal.returns-in-Some-clause-first
returns-in-Some-clause-first c =
    rw c.in-Some.is (c.line_of-in-Some.ensures ∙ ap (option_map keyed_state) (first_shown deref_pair _ _ _ c.next-in-Some.ensures.steps
    ∙ ap (λ es. slice_get es 0) (c.range.ensures.between tt ∙ between-after key_cmp c.in-Some.place.now _)
    ∙ ap (λ v. slice_get (after_place (Some c.in-Some.place) v) 0) c.self.view_is))
