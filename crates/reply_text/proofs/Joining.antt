-- Three calls that write, one after another.
use Rattle.std.proofs.Common.{◌≡◌, ℕ, List, ◌++◌, Option, Result, Ok, refl, sym, ◌∙◌, append_assoc}
use Rattle.wire_io.specs.declared.sink.Failed.{Failed}
use Rattle.wire_io.specs.Aside.{Aside}
use Rattle.wire_io.specs.Writes.{Writes}
use Rattle.wire_io.proofs.Joins.{join}

module _ {O : Type 0} {faults : O → ℕ} {told : O → Option (List ℕ)} {aside : O → Aside} where
  -- two calls that wrote all, and another
  pub join_three : (a b c d : O) (s t u text : List ℕ) (m n : Unit {0}) (r : Result (Unit {0}) Failed) → Writes faults told aside a s (Ok m) b → Writes faults told aside b t (Ok n) c → Writes faults told aside c u r d → text ≡ s ++ (t ++ u) → Writes faults told aside a text r d
  join_three a b c d s t u text m n r f g h e = join a c d (s ++ t) u text n r (join a b c s t (s ++ t) m (Ok n) f g refl) h (e ∙ sym (append_assoc s t u))

  -- the same text in another form
  pub writes_same : (a b : O) (s text : List ℕ) (r : Result (Unit {0}) Failed) → Writes faults told aside a s r b → text ≡ s → Writes faults told aside a text r b
  writes_same a b s text r f e = rw e f
