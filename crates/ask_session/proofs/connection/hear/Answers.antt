use Rattle.std.proofs.Common.{arith, ◌∙◌, ap, sym, refl, subst, ℕ, List, append-nil, take_all}
use mathlib.Core.Bool.{false≢true}
use Rattle.cut_publisher.specs.History.{Site}
use Rattle.ask_session.specs.Lines.{IsTooMany, chomped}
use Rattle.ask_session.proofs.NextLine.{few_fit}
use Rattle.ask_session.proofs.Pieces.{goes_none, long_ends, hears_line, hears_long, goes_on, goes_byte_on}
use Rattle.ask_session.proofs.Serving.{sees_self, sees_then}
use Rattle.ask_session.proofs.connection.hear.Goals as goal
use Rattle.ask_session.proofs.connection.hear.Goals.{then-byte-eq10+in_default, else-byte-eq10+else-is_too_long}

pub returns-in-Some-clause-hears : goal.returns-in-Some-clause-hears
returns-in-Some-clause-hears g c = hears_line c.args.pass.now.station.lanes c.loop-byte.pass.station.lanes (ap (λ (x : Site). x.lanes) c.loop-byte.invariant.sees.station) c.args.pass.now.seen c.loop-byte.pass.seen c.reply_to.new.pass.seen c.in-Some.ensures.sees.seen
    c.args.line.now c.args.piece.now c.loop-byte.line _ _ _ _ _ _ c.loop-byte.byte-index (omega arith) c.loop-byte.invariant.goes c.chomp.result.now c.in-Some.close c.if-byte-eq10.true (c.chomp.ensures ∙ ap chomped c.as_slice.ensures) c.in-Some.ensures.replied

pub returns-in-Some-clause-sees : goal.returns-in-Some-clause-sees
returns-in-Some-clause-sees g c = sees_then c.args.pass.now c.loop-byte.pass c.reply_to.new.pass c.loop-byte.invariant.sees c.in-Some.ensures.sees

pub returns-in-Some-reply_to-clause-hears : goal.returns-in-Some-reply_to-clause-hears
returns-in-Some-reply_to-clause-hears g c = hears_long c.args.pass.now.station.lanes c.loop-byte.pass.station.lanes (ap (λ (x : Site). x.lanes) c.loop-byte.invariant.sees.station) c.args.pass.now.seen c.loop-byte.pass.seen c.reply_to-then-is_too_long.new.pass.seen c.in-Some-reply_to.ensures.sees.seen
    c.args.line.now c.args.piece.now c.loop-byte.line _ _ _ _ _ _ c.loop-byte.byte-index (omega arith) c.loop-byte.invariant.goes _ c.as_slice-then-is_too_long.result.now c.in-Some-reply_to.close refl c.if-byte-eq10.false (c.as_slice-then-is_too_long.ensures ∙ c.push.ensures) (subst (λ (l : List ℕ). IsTooMany l) (sym c.as_slice-then-is_too_long.ensures) (c.if-is_too_long.ensures.0 refl)) c.in-Some-reply_to.ensures.replied

pub returns-in-Some-reply_to-clause-sees : goal.returns-in-Some-reply_to-clause-sees
returns-in-Some-reply_to-clause-sees g c = sees_then c.args.pass.now c.loop-byte.pass c.reply_to-then-is_too_long.new.pass c.loop-byte.invariant.sees c.in-Some-reply_to.ensures.sees

pub returns-clause-hears : goal.returns-clause-hears
returns-clause-hears g c = rw (take_all c.loop-byte.byte-index c.args.piece.now c.loop-byte-test.false) at c.loop-byte.invariant.goes

pub unreachable-requires : goal.unreachable-requires
unreachable-requires g c = long_ends c.loop-byte.pass.station.lanes c.reply_to-then-is_too_long.new.pass.seen c.as_slice-then-is_too_long.result.now _ _ _ _ (subst (λ (l : List ℕ). IsTooMany l) (sym c.as_slice-then-is_too_long.ensures) (c.if-is_too_long.ensures.0 refl)) c.in-None.ensures.replied

pub push-requires : goal.push-requires
push-requires g c = few_fit c.loop-byte.line c.loop-byte.invariant.goes.few

pub loop-byte-init : goal.loop-byte-init
loop-byte-init g c = record {
  sees = sees_self c.args.pass.now;
  goes = rw (append-nil c.args.line.now) (goes_none c.args.pass.now.station.lanes c.args.pass.now.seen c.args.line.now (g.K.Sink.told c.args.link.now) (g.K.Sink.faults c.args.link.now) c.requires.plain c.requires.few);
  kept = refl;
}

pub loop-byte-preserved : goal.loop-byte-preserved
loop-byte-preserved g c = elim c.if-byte-eq10.branch [
  | then-byte-eq10+in_default w ↦ record {
    sees = rw w.pass-is (sees_then c.args.pass.now c.loop-byte.pass _ c.loop-byte.invariant.sees w.in_default.ensures.sees);
    goes = rw (w.pass-is, w.link-is, w.line-is, w.clear.ensures) (goes_on c.args.pass.now.station.lanes c.loop-byte.pass.station.lanes (ap (λ (x : Site). x.lanes) c.loop-byte.invariant.sees.station) c.args.pass.now.seen c.loop-byte.pass.seen _ w.in_default.ensures.sees.seen c.args.line.now c.args.piece.now c.loop-byte.line _ _ _ _ _ _ c.loop-byte.byte-index (omega arith) c.loop-byte.invariant.goes w.chomp.result.now w.if-byte-eq10.true (w.chomp.ensures ∙ ap chomped w.as_slice.ensures) w.in_default.ensures.replied);
    kept = rw w.link-is (w.in_default.ensures.kept ∙ c.loop-byte.invariant.kept);
  }
  | else-byte-eq10+else-is_too_long w ↦ record {
    sees = rw w.pass-is c.loop-byte.invariant.sees;
    goes = rw (w.pass-is, w.link-is, w.line-is) (goes_byte_on c.args.pass.now.station.lanes c.args.pass.now.seen c.loop-byte.pass.seen c.args.line.now c.args.piece.now c.loop-byte.line _ _ _ _ c.loop-byte.byte-index (omega arith) c.loop-byte.invariant.goes _ _ refl w.if-byte-eq10.false w.push.ensures (λ many. false≢true (w.if-is_too_long.ensures.1 many)));
    kept = rw w.link-is c.loop-byte.invariant.kept;
  }
]
