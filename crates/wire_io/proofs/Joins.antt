-- One call that writes after another.
use Rattle.std.proofs.Common.{◌≡◌, ℕ, zero, suc, ◌<◌, ◌≤◌, length, get_or, take, drop, List, [], ◌∷◌, ◌++◌, Option, None, Some, Result, Ok, Err, refl, ap, sym, ◌∙◌, subst, append_assoc, append-nil, arith}
use mathlib.Core.Bool.{true, false≢true}
use Rattle.std.specs.Borrow.{Bor}
use Rattle.std.specs.Result.{is_err}
use Rattle.std.specs.Prelude.{OnOk}
use Rattle.std.specs.Io.KnownBytes.{Appends, Keeps}
use Rattle.wire_io.specs.declared.sink.Failed.{Failed}
use Rattle.wire_io.specs.Aside.{Aside}
use Rattle.wire_io.specs.Faults.{HasCause, Rose}
use Rattle.wire_io.specs.Writes.{Writes, joined}

pub appends_then : (a b c : Option (List ℕ)) (s t : List ℕ) → Appends a b s → Appends b c t → Appends a c (s ++ t)
appends_then None b c s t p q = tt
appends_then (Some xs) None c s t p q = absurd p
appends_then (Some xs) (Some ys) None s t p q = absurd q
appends_then (Some xs) (Some ys) (Some zs) s t p q = q ∙ ap (λ (l : List ℕ). l ++ t) p ∙ append_assoc xs s t

pub appends_none : (a : Option (List ℕ)) → Appends a a []
appends_none None = tt
appends_none (Some xs) = sym (append-nil xs)

pub keeps_appends : (a b : Option (List ℕ)) → Keeps a b → Appends a b []
keeps_appends None b k = tt
keeps_appends (Some xs) None k = absurd k
keeps_appends (Some xs) (Some ys) k = k ∙ sym (append-nil xs)

module _ {O : Type 0} {faults : O → ℕ} {told : O → Option (List ℕ)} {aside : O → Aside} where
  -- a call that wrote all, and another
  pub join : (a b c : O) (s t text : List ℕ) (u : Unit {0}) (r : Result (Unit {0}) Failed) → Writes faults told aside a s (Ok u) b → Writes faults told aside b t r c → text ≡ s ++ t → Writes faults told aside a text r c
  join a b c s t text u r f g e = rw e (record {
    whole = both r g.whole;
    front = record { front = s ++ g.front.front; back = g.front.back; parts = ap (λ (l : List ℕ). s ++ l) g.front.parts ∙ sym (append_assoc s g.front.front g.front.back); grown = appends_then (told a) (told b) (told c) s g.front.front f.whole g.front.grown };
    kept = g.kept ∙ f.kept;
    cause = cause r g.cause;
  })
    where
      both : (r : Result (Unit {0}) Failed) → OnOk r (Appends (told b) (told c) t) → OnOk r (Appends (told a) (told c) (s ++ t))
      both (Ok v) p = appends_then (told a) (told b) (told c) s t f.whole p
      both (Err d) p = tt

      cause : (r : Result (Unit {0}) Failed) → HasCause (faults b) (faults c) r → HasCause (faults a) (faults c) r
      cause (Ok v) h = record { later = omega (arith, h.later, f.cause.later); failed = tt; fine = h.fine ∙ f.cause.fine }
      cause (Err d) h = record { later = omega (arith, h.later, f.cause.later); failed = subst (λ (n : ℕ). Rose n (faults c)) f.cause.fine h.failed; fine = tt }

  -- a call that failed, where more was to be written
  pub more : (a b : O) (s t text : List ℕ) (d : Failed) (r : Result (Unit {0}) Failed) → Writes faults told aside a s (Err d) b → is_err r ≡ true → text ≡ s ++ t → Writes faults told aside a text r b
  more a b s t text d (Ok u) f h e = absurd (false≢true h)
  more a b s t text d (Err d') f h e = rw e (record {
    whole = tt;
    front = record { front = f.front.front; back = f.front.back ++ t; parts = ap (λ (l : List ℕ). l ++ t) f.front.parts ∙ append_assoc f.front.front f.front.back t; grown = f.front.grown };
    kept = f.kept;
    cause = record { later = f.cause.later; failed = f.cause.failed; fine = tt };
  })

  -- nothing written yet
  pub writes_none : (a : O) → Writes faults told aside a [] (Ok tt) a
  writes_none a = record { whole = appends_none (told a); front = record { front = []; back = []; parts = refl; grown = appends_none (told a) }; kept = refl; cause = record { later = omega arith; failed = tt; fine = refl } }

  -- a write failed after a front was written
  pub failed_after : (a b c : O) (front back text : List ℕ) (r : Result (Unit {0}) Failed) → is_err r ≡ true → Appends (told a) (told b) front → faults b ≡ faults a → aside b ≡ aside a → aside c ≡ aside b → Keeps (told b) (told c) → faults b ≤ faults c → Rose (faults b) (faults c) → text ≡ front ++ back → Writes faults told aside a text r c
  failed_after a b c front back text (Ok u) h g k i j kept later rose e = absurd (false≢true h)
  failed_after a b c front back text (Err d) h g k i j kept later rose e = record {
    whole = tt;
    front = record { front = front; back = back; parts = e; grown = subst (λ (l : List ℕ). Appends (told a) (told c) l) (append-nil front) (appends_then (told a) (told b) (told c) front [] g (keeps_appends (told b) (told c) kept)) };
    kept = j ∙ i;
    cause = record { later = omega (arith, later, k); failed = subst (λ (n : ℕ). Rose n (faults c)) k rose; fine = tt };
  }

module _ {O : Type 0} {faults : O → ℕ} {told : O → Option (List ℕ)} {aside : O → Aside} where
  -- a call that failed after others that wrote all, where more was to be written
  pub join_failed : (a b c : O) (s t rest text : List ℕ) (d : Failed) (r : Result (Unit {0}) Failed) → Writes faults told aside a s (Ok tt) b → Writes faults told aside b t (Err d) c → is_err r ≡ true → text ≡ s ++ (t ++ rest) → Writes faults told aside a text r c
  join_failed a b c s t rest text d r f g h e = more a c (s ++ t) rest text d r (join a b c s t (s ++ t) tt (Err d) f g refl) h (e ∙ sym (append_assoc s t rest))

pub joined_more : (ps : List (Bor (List ℕ))) (i : ℕ) (d : Bor (List ℕ)) → i < length ps → joined (take (suc i) ps) ≡ joined (take i ps) ++ (get_or ps i d).now
joined_more [] i d h = absurd (omega arith)
joined_more (p ∷ ps) zero d h = append-nil p.now
joined_more (p ∷ ps) (suc i) d h = ap (λ (l : List ℕ). p.now ++ l) (joined_more ps i d (omega arith)) ∙ sym (append_assoc p.now (joined (take i ps)) (get_or ps i d).now)

pub joined_split : (ps : List (Bor (List ℕ))) (i : ℕ) (d : Bor (List ℕ)) → i < length ps → joined ps ≡ joined (take i ps) ++ ((get_or ps i d).now ++ joined (drop (suc i) ps))
joined_split [] i d h = absurd (omega arith)
joined_split (p ∷ ps) zero d h = refl
joined_split (p ∷ ps) (suc i) d h = ap (λ (l : List ℕ). p.now ++ l) (joined_split ps i d (omega arith)) ∙ sym (append_assoc p.now (joined (take i ps)) _)
