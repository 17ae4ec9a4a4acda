-- What a publication does to what lies under the lock.
use Rattle.std.proofs.Common.{◌≡◌, ℕ, ◌+◌, ◌^◌, ◌<◌, ◌≤◌, List, [], ◌∷◌, ◌++◌, length, get_or, set, ap, sym, ◌∙◌, subst, arith, length-append}
use Rattle.std.specs.Arc.{arc_value}
use Rattle.std.proofs.lemmas.List.{append-nil}
use mathlib.Core.List.{IsPrefix}
use Rattle.cut_publisher.specs.declared.history.Step.{Step}
use Rattle.cut_publisher.specs.declared.history.Step.TheVariants.{Batch, End}
use Rattle.cut_publisher.specs.declared.cell.Shown.{Shown}
use Rattle.cut_publisher.proofs.Prefixes.{told-append, told_shorter}
use Rattle.cut_publisher.proofs.Adding.{open_then}
use Rattle.cut_publisher.proofs.Lanes.{part-append, part-batch_same, begins_part, begins_whole, stands_more}
use Rattle.cut_publisher.specs.History.{Site, batch, fed, part, told}
use Rattle.cut_publisher.specs.Cuts.{Stands}
use Rattle.cut_publisher.specs.Logs.{IsLog, IsOpen}
use Rattle.cut_publisher.specs.Rule.{Good}
use Rattle.cut_publisher.specs.Publication.{IsFollowed}

module _ {E : Type 0} where
  pub told_more : (log : List (Step E)) (lane : ℕ) (es : List E) → told (log ++ Batch lane es ∷ []) ≡ told log ++ batch lane es
  told_more log lane es = told-append log (Batch lane es ∷ []) ∙ ap (λ r. told log ++ r) (append-nil (batch lane es))

  pub open_more : (log : List (Step E)) (lane : ℕ) (es : List E) → IsOpen log → IsOpen (log ++ Batch lane es ∷ [])
  open_more [] lane es o = tt
  open_more (Batch k xs ∷ log) lane es o = open_more log lane es o
  open_more (End ∷ log) lane es o = absurd o

module _ {S E : Type 0} (stands : S → List E → Type 0) where
  -- the pass's numbers are those of the lane, so its entries are the lane's part
  pub followed : (c : List (S × ℕ)) (h p both : List (Step E)) (b : Site) (lane : ℕ) (d : S × ℕ) → Stands stands c (told h) → lane < length c
      → (get_or c lane d).1 ≡ length (part lane (told p)) → IsPrefix p both → IsPrefix h both → length p ≤ length h
      → IsFollowed (fed b lane p) c (told h)
  followed c h p both b lane d s lt count pre whole le =
      let earlier = told_shorter p h both pre whole le in
      let len : length (part lane (told h)) ≡ length (part lane (told p)) = sym (s.lanes lane d lt).count ∙ count in
      record {
        within = lt;
        earlier = earlier;
        same = begins_whole (part lane (told p)) (part lane (told h)) (begins_part lane (told p) (told h) earlier) len;
      }

  pub good_more : (x y : Shown S E) (lane : ℕ) (v : S) (es : List E) → Good stands x → IsOpen x.seen.log → lane < length (arc_value x.cut)
      → stands v (part lane (told x.seen.log) ++ es) → length (part lane (told x.seen.log) ++ es) ≤ 2 ^ 57
      → arc_value y.cut ≡ set (arc_value x.cut) lane (v, (get_or (arc_value x.cut) lane (v, 0)).1 + length es)
      → y.seen.log ≡ x.seen.log ++ Batch lane es ∷ [] → y.steps ≡ x.steps + 1
      → Good stands y
  good_more x y lane v es good o lt st room items log steps =
      let n : ℕ = (get_or (arc_value x.cut) lane (v, 0)).1 + length es in
      let count : n ≡ length (part lane (told x.seen.log) ++ es) = omega (arith, (good.cut.lanes lane (v, 0) lt).count, length-append (part lane (told x.seen.log)) es) in
      let cut = stands_more stands (arc_value x.cut) (arc_value y.cut) (told x.seen.log) lane v n es good.cut lt items st count (omega (arith, count, room)) in
      let all : told y.seen.log ≡ told x.seen.log ++ batch lane es = ap told log ∙ told_more x.seen.log lane es in
      record {
        cut = subst (Stands stands (arc_value y.cut)) (sym all) cut;
        long = omega (arith, steps, good.long, ap length log, length-append x.seen.log (Batch lane es ∷ []));
        marked = subst IsLog (sym log) (open_then x.seen.log (Batch lane es) o);
      }

module _ {E : Type 0} where
  pub part_more : (log : List (Step E)) (lane : ℕ) (entries es : List E) → part lane (told log) ≡ entries → part lane (told (log ++ Batch lane es ∷ [])) ≡ entries ++ es
  part_more log lane entries es same =
      ap (part lane) (told_more log lane es) ∙ part-append lane (told log) (batch lane es) ∙ (λ i. same i ++ part-batch_same lane es i)
