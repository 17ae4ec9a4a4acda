-- In a history without the mark the revision is the length: a revision names one front of it.
use Rattle.std.proofs.Common.{◌≡◌, ℕ, List, [], ◌∷◌, ◌++◌, length, take, ap, sym, ◌∙◌, arith}
use Rattle.std.proofs.Math.Seq.{take-append_seam}
use Rattle.cut_publisher.specs.declared.history.Event.{Event}
use Rattle.cut_publisher.specs.declared.history.Event.TheVariants.{Of, Finish}
use Rattle.cut_publisher.specs.History.{Begins, IsUnmarked, revision}

module _ {E : Type 0} where
  -- the revision of a history without the mark is its length
  pub revision_unmarked : (h : List (Event E)) → IsUnmarked h → revision h ≡ length h
  revision_unmarked [] u = omega arith
  revision_unmarked (Of k e ∷ h) u = omega (arith, revision_unmarked h u)
  revision_unmarked (Finish ∷ h) u = absurd u

  -- a front without the mark is the first events, as many as its revision
  pub front_is : (x h : List (Event E)) → Begins x h → IsUnmarked x → x ≡ take (revision x) h
  front_is x h b u =
      sym (take-append_seam x b.rest) ∙ (ap (λ (n : ℕ). take n (x ++ b.rest)) (sym (revision_unmarked x u)) ∙ ap (λ (z : List (Event E)). take (revision x) z) b.is)
