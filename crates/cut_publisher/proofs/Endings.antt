-- The end of a history.
use Rattle.std.proofs.Common.{◌≡◌, ℕ, List, [], ◌∷◌, ◌++◌, ap, sym, ◌∙◌, subst, arith, length, length-append, get_or, ◌+◌}
use Rattle.std.proofs.lemmas.List.{append-nil}
use mathlib.Core.List.{IsPrefix}
use Rattle.cut_publisher.specs.declared.history.Step.{Step}
use Rattle.cut_publisher.specs.declared.history.Step.TheVariants.{Batch, End}
use Rattle.std.specs.Arc.{arc_value}
use Rattle.cut_publisher.specs.declared.history.Event.{Event}
use Rattle.cut_publisher.specs.declared.history.Event.TheVariants.{Finish}
use Rattle.cut_publisher.specs.declared.cell.Shown.{Shown}
use Rattle.cut_publisher.proofs.Adding.{open_then}
use Rattle.cut_publisher.proofs.Lanes.{part-append, revision-append}
use Rattle.cut_publisher.proofs.Prefixes.{begins_told, told-append}
use Rattle.cut_publisher.specs.History.{Begins, part, told}
use Rattle.cut_publisher.specs.Cuts.{IsLane, Stands}
use Rattle.cut_publisher.specs.Logs.{IsEnded, IsLog, IsOpen}
use Rattle.cut_publisher.specs.Rule.{Good}

module _ {E : Type 0} where
  nothing_follows : (before rest : List (Step E)) → IsLog ((before ++ End ∷ []) ++ rest) → rest ≡ []
  nothing_follows [] rest m = m
  nothing_follows (Batch k es ∷ before) rest m = nothing_follows before rest m
  nothing_follows (End ∷ []) rest m = absurd (cc (m))
  nothing_follows (End ∷ x ∷ before) rest m = absurd (cc (m))

  -- a log with the mark is the whole
  pub ended_whole : (log both : List (Step E)) → IsEnded log → IsPrefix log both → IsLog both → both ≡ log
  ended_whole log both e p m =
      let at : IsLog ((e.before ++ End ∷ []) ++ p.0) = subst (λ (l : List (Step E)). IsLog l) (sym p.1 ∙ ap (λ (l : List (Step E)). l ++ p.0) e.is) m in
      let none = nothing_follows e.before p.0 at in
      sym p.1 ∙ ap (λ (r : List (Step E)). log ++ r) none ∙ append-nil log

  -- what anyone has seen begins the history with the mark
  pub begins_ended : (log mine both : List (Step E)) → IsEnded log → IsPrefix log both → IsPrefix mine both → IsLog both → Begins (told mine) (told log)
  begins_ended log mine both e p q m = subst (λ (l : List (Step E)). Begins (told mine) (told l)) (ended_whole log both e p m) (begins_told mine both q)

  pub told_end : (log : List (Step E)) → told (log ++ End ∷ []) ≡ told log ++ Finish ∷ []
  told_end log = told-append log (End ∷ [])

  pub part-end : (lane : ℕ) (h : List (Event E)) → part lane (h ++ Finish ∷ []) ≡ part lane h
  part-end lane h = part-append lane h (Finish ∷ []) ∙ append-nil (part lane h)

module _ {S E : Type 0} (stands : S → List E → Type 0) where
  pub stands_end : (c : List (S × ℕ)) (h : List (Event E)) → Stands stands c h → Stands stands c (h ++ Finish ∷ [])
  stands_end c h s = record {
    lanes = λ k d lt. subst (λ (es : List E). IsLane stands es (get_or c k d)) (sym (part-end k h)) (s.lanes k d lt);
    rev = omega (arith, s.rev, revision-append h (Finish ∷ []));
    few = s.few;
    room = s.room;
  }

  pub good_end : (x y : Shown S E) → Good stands x → IsOpen x.seen.log → arc_value y.cut ≡ arc_value x.cut → y.seen.log ≡ x.seen.log ++ End ∷ [] → y.steps ≡ x.steps + 1 → Good stands y
  good_end x y good o cut log steps =
      let all : told y.seen.log ≡ told x.seen.log ++ Finish ∷ [] = ap told log ∙ told_end x.seen.log in
      record {
        cut = subst (λ (z : List (S × ℕ) × List (Event E)). Stands stands z.0 z.1) (λ i. (sym cut i, sym all i)) (stands_end (arc_value x.cut) (told x.seen.log) good.cut);
        long = omega (arith, steps, good.long, ap length log, length-append x.seen.log (End ∷ []));
        marked = subst IsLog (sym log) (open_then x.seen.log End o);
      }
