-- What a closure answered at a `&`.
use Rattle.std.proofs.Common.{◌≡◌, refl, subst}
use Rattle.std.specs.Borrow.{Bor}
use Rattle.std.specs.Fn.{Called, CalledAt, Mut}

pub called_at : {F A R : Type 0} (g : Mut F (Bor A × Unit {0}) R) (f f' : F) (shown : Bor A) (r s : R) → Called g f (shown, tt) r f' → r ≡ s → CalledAt g f shown.now s f'
called_at {F} {A} {R} g f f' shown r s called is = record { shown = shown; shows = refl; called = subst (λ (t : R). Called g f (shown, tt) t f') is called }
