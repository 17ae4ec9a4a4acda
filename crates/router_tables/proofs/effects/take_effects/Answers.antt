use Rattle.std.proofs.Common.{List, ◌++◌, take, arith, sym, subst}
use Rattle.std.proofs.lemmas.List.{take_all}
use Rattle.bmp_specs.specs.Values.{EffectValue}
use Rattle.peer_book.specs.Peers.{Peers}
use Rattle.peer_book.specs.Standing.{StandsForPeers}
use Rattle.rib_model.specs.Effects.{effect_values}
use Rattle.rib_model.specs.declared.effect.Effect.{Effect}
use Rattle.router_tables.specs.Books.{StandsForBooks}
use Rattle.router_tables.specs.Pending.{StandsForRows}
use Rattle.router_tables.proofs.CountSteps.{more_items}
use Rattle.router_tables.proofs.effects.take_effects.Goals as goal

pub loop-effect-preserved : goal.loop-effect-preserved
loop-effect-preserved c =
    let items = c.args.effects.now in
    let i = c.loop-effect.effect-index in
    record {
      books = λ earlier h. subst (λ (es : List EffectValue). StandsForBooks c.take-in-loop-effect.new.self es) (more_items earlier items i c.effect-item.result (omega arith) c.effect-item.is)
          (c.in_ok-take-2.ensures (earlier ++ effect_values (take i items)) (c.loop-effect.invariant.books earlier h));
      rows = λ earlier h r.
          let books = c.loop-effect.invariant.books earlier h in
          let peers = subst (λ (p : Peers). StandsForPeers p (earlier ++ effect_values (take i items))) (sym c.peers.ensures) books.peers in
          subst (λ (es : List EffectValue). StandsForRows c.take.new.self es) (more_items earlier items i c.effect-item.result (omega arith) c.effect-item.is)
          (c.in_ok-take.ensures (earlier ++ effect_values (take i items)) peers (c.loop-effect.invariant.rows earlier h r));
    }

pub returns-clause-rows : goal.returns-clause-rows
returns-clause-rows c earlier h r = subst (λ (l : List Effect). StandsForRows c.loop-effect.rows (earlier ++ effect_values l)) (take_all c.loop-effect.effect-index c.args.effects.now (omega arith)) (c.loop-effect.invariant.rows earlier h r)
