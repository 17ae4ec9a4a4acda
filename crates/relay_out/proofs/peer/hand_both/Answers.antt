use Rattle.std.proofs.Common.{subst}
use Rattle.std.specs.List.{AllByRecursion}
use Rattle.relay_out.proofs.Handing.{hands_join, hands_more}
use Rattle.relay_out.proofs.Members.{all_parts}
use Rattle.relay_out.proofs.Steps.{families_split}
use Rattle.relay_out.proofs.peer.hand_both.Goals as goal

pub returns-in_err-hand_place : goal.returns-in_err-hand_place
returns-in_err-hand_place g c = hands_more _ _ _ _ _ _ _ c.in_err-hand_place.ensures c.from_residual.ensures.1 (families_split c.args.book.now c.args.key.now c.args.view)

pub returns : goal.returns
returns g c = hands_join _ _ _ _ _ _ _ _ c.in_ok-hand_place.ensures c.hand_place-2.ensures (families_split c.args.book.now c.args.key.now c.args.view)

pub hand_place-requires : goal.hand_place-requires
hand_place-requires g c = (all_parts g.T.Takes.may _ _ (subst (AllByRecursion g.T.Takes.may) (families_split c.args.book.now c.args.key.now c.args.view) c.requires)).0

pub hand_place-requires-2 : goal.hand_place-requires-2
hand_place-requires-2 g c = (all_parts g.T.Takes.may _ _ (subst (AllByRecursion g.T.Takes.may) (families_split c.args.book.now c.args.key.now c.args.view) c.requires)).1
