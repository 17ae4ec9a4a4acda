-- What a buffer and the sink below it have together.
use Rattle.std.proofs.Common.{◌≡◌, ℕ, ◌+◌, take, drop, List, [], ◌∷◌, ◌++◌, Option, None, Some, Result, Ok, Err, refl, ap, sym, ◌∙◌, subst, append_assoc, append-nil}
use Rattle.std.specs.Prelude.{IsOk, OnOk}
use Rattle.std.proofs.lemmas.List.{take-append-drop, drop-drop, append_cancel_left}
use Rattle.std.specs.Io.KnownBytes.{Appends, Keeps, append_known}
use Rattle.wire_io.specs.declared.sink.Failed.{Failed}
use Rattle.wire_io.specs.Aside.{Aside, laid_over}
use Rattle.wire_io.specs.Faults.{HasCause}
use Rattle.wire_io.specs.Writes.{AppendsFront, Writes}
use Rattle.wire_io.specs.Buffer.{BufferValue, Extends, GoesThrough, Pours}
use Rattle.wire_io.proofs.Joins.{appends_then, appends_none, join, keeps_appends}

pub pours_none : (a : Option (List ℕ)) (bytes : List ℕ) (start : ℕ) → Pours a a bytes start start
pours_none a bytes start = record { written = []; split = refl; grown = appends_none a }

after : (n at : ℕ) (bytes : List ℕ) → drop n (drop at bytes) ≡ drop (at + n) bytes
after n at bytes = drop-drop n at bytes

pub pours_more : (a b c : Option (List ℕ)) (bytes : List ℕ) (start at n : ℕ) → Pours a b bytes start at → Appends b c (take n (drop at bytes)) → Pours a c bytes start (at + n)
pours_more a b c bytes start at n p q = record {
  written = p.written ++ take n (drop at bytes);
  split = p.split ∙ ap (λ (l : List ℕ). p.written ++ l) (sym (take-append-drop n (drop at bytes)) ∙ ap (λ (l : List ℕ). take n (drop at bytes) ++ l) (after n at bytes)) ∙ sym (append_assoc p.written (take n (drop at bytes)) (drop (at + n) bytes));
  grown = appends_then a b c p.written (take n (drop at bytes)) p.grown q;
}

-- a failed write wrote nothing more
pub pours_still : (a b c : Option (List ℕ)) (bytes : List ℕ) (start at : ℕ) → Pours a b bytes start at → Keeps b c → Pours a c bytes start at
pours_still a b c bytes start at p k = record { written = p.written; split = p.split; grown = subst (λ (l : List ℕ). Appends a c l) (append-nil p.written) (appends_then a b c p.written [] p.grown (keeps_appends b c k)) }

pub extends_then : (base a b : Option (List ℕ)) (bytes : List ℕ) (start at : ℕ) → Extends base a → Pours a b bytes start at → Extends base b
extends_then base a b bytes start at e p = record { written = e.written ++ p.written; grown = appends_then base a b e.written p.written e.grown p.grown }

-- what is written below is a front of what the two have together
front_below : (a b : Option (List ℕ)) (held text : List ℕ) → Extends a b → AppendsFront (append_known a []) text (append_known b held) → AppendsFront a text b
front_below None b held text e f = record { front = []; back = text; parts = refl; grown = tt }
front_below (Some xs) None held text e f = absurd e.grown
front_below (Some xs) (Some ys) held text e f = record {
  front = e.written;
  back = held ++ f.back;
  parts = f.parts ∙ ap (λ (l : List ℕ). l ++ f.back) whole ∙ append_assoc e.written held f.back;
  grown = e.grown;
}
  where
    whole : f.front ≡ e.written ++ held
    whole = append_cancel_left xs f.front (e.written ++ held) (ap (λ (l : List ℕ). l ++ f.front) (sym (append-nil xs)) ∙ sym f.grown ∙ ap (λ (l : List ℕ). l ++ held) e.grown ∙ append_assoc xs e.written held)

all_below : (a b : Option (List ℕ)) (held text : List ℕ) → Appends (append_known a []) (append_known b held) text → held ≡ [] → Appends a b text
all_below None b held text p e = tt
all_below (Some xs) None held text p e = absurd p
all_below (Some xs) (Some ys) held text p e = sym (append-nil ys) ∙ ap (λ (l : List ℕ). ys ++ l) (sym e) ∙ p ∙ ap (λ (l : List ℕ). l ++ text) (append-nil xs)

module _ {O : Type 0} (faults : O → ℕ) (told : O → Option (List ℕ)) (aside : O → Aside) where
  pub written_below : (old new : O) (held text : List ℕ) (r : Result (Unit {0}) Failed) → Extends (told old) (told new) → OnOk r (held ≡ [])
      → OnOk r (Appends (append_known (told old) []) (append_known (told new) held) text) → AppendsFront (append_known (told old) []) text (append_known (told new) held) → aside new ≡ aside old → HasCause (faults old) (faults new) r
      → Writes faults told aside old text r new
  written_below old new held text r e empty whole front kept cause = record { whole = both r empty whole; front = front_below (told old) (told new) held text e front; kept = kept; cause = cause }
    where
      both : (r : Result (Unit {0}) Failed) → OnOk r (held ≡ []) → OnOk r (Appends (append_known (told old) []) (append_known (told new) held) text) → OnOk r (Appends (told old) (told new) text)
      both (Ok u) p q = all_below (told old) (told new) held text q p
      both (Err d) p q = tt

-- what was written whole stays written, where nothing but what is held was handed on
module _ {O : Type 0} {faults : O → ℕ} {told : O → Option (List ℕ)} {aside : O → Aside} where
  pub flushed : (a b c : O) (text : List ℕ) (u : Unit {0}) (r : Result (Unit {0}) Failed) → Writes faults told aside a text (Ok u) b → Keeps (told b) (told c) → aside c ≡ aside b → HasCause (faults b) (faults c) r → Writes faults told aside a text r c
  flushed a b c text u r w same kept cause = join a b c text [] text u r w (record { whole = whole r; front = record { front = []; back = []; parts = refl; grown = grown }; kept = kept; cause = cause }) (sym (append-nil text))
    where
      grown : Appends (told b) (told c) []
      grown = keeps_appends (told b) (told c) same

      whole : (r : Result (Unit {0}) Failed) → OnOk r (Appends (told b) (told c) [])
      whole (Ok v) = grown
      whole (Err d) = tt

-- the first of two things that an answer tells
pub emptied : (P Q : Type 0) (r : Result (Unit {0}) Failed) → OnOk r (P × Q) → OnOk r P
emptied P Q (Ok u) both = both.0
emptied P Q (Err d) both = tt

-- what the sink told as the buffer was laid over it, and what it holds beside
abbrev over_of : List (Option (List ℕ)) → Option (List ℕ)
over_of [] = None
over_of (x ∷ xs) = x

abbrev under_of : List (Option (List ℕ)) → List (Option (List ℕ))
under_of [] = []
under_of (x ∷ xs) = xs

same_first : (x y : Option (List ℕ)) (a b : Aside) → laid_over x a ≡ laid_over y b → x ≡ y
same_first x y a b e = ap (λ (c : Aside). over_of c.laid) e

same_aside : (x y : Option (List ℕ)) (a b : Aside) → laid_over x a ≡ laid_over y b → a ≡ b
same_aside x y a b e = ap (λ (c : Aside). record c { laid = under_of c.laid }) e

module _ {O : Type 0} (faults : O → ℕ) (told : O → Option (List ℕ)) (aside : O → Aside) where
  -- a call that wrote through a buffer that was empty before and after it
  pub through : (out new : O) (p0 p1 : BufferValue O) (text : List ℕ) (r : Result (Unit {0}) Failed) → p0 ≡ record { first = out; below = out; held = []; used = 0 } → new ≡ p1.below → Extends (told p1.first) (told new) → OnOk r (p1.held ≡ [])
      → Writes (λ (p : BufferValue O). faults p.below) (λ (p : BufferValue O). append_known (told p.below) p.held) (λ (p : BufferValue O). laid_over (told p.first) (aside p.below)) p0 text r p1 → Writes faults told aside out text r new
  through out new p0 p1 text r e n x empty w =
      let w1 = subst (λ (p : BufferValue O). Writes (λ (p : BufferValue O). faults p.below) (λ (p : BufferValue O). append_known (told p.below) p.held) (λ (p : BufferValue O). laid_over (told p.first) (aside p.below)) p text r p1) e w in
      let x1 = subst (λ (q : Option (List ℕ)). Extends q (told new)) (same_first _ _ _ _ w1.kept) x in
      rw n (written_below faults told aside out p1.below p1.held text r (rw n at x1) empty w1.whole w1.front (same_aside _ _ _ _ w1.kept) w1.cause)

  -- a call through a buffer that failed
  pub through_failed : (Leaves : BufferValue O → Result (Unit {0}) Failed → BufferValue O → Type 0) (out new : O) (p0 p1 p : BufferValue O) (d : Failed) (r : Result (Unit {0}) Failed) → p0 ≡ record { first = out; below = out; held = []; used = 0 } → new ≡ p.below → Extends (told p.first) (told new) → p ≡ p1 → r ≡ Err d
      → Leaves p0 (Err d) p1 → GoesThrough faults told aside Leaves out r new
  through_failed Leaves out new p0 p1 p d r e n x is answers left = rw answers (record {
    last = p1;
    answer = Err d;
    left = subst (λ (q : BufferValue O). Leaves q (Err d) p1) e left;
    written = λ text w. through out new _ p1 text (Err d) refl n1 x1 tt w;
    sound = tt;
    kept = ap aside n1;
    cause = λ h. subst (λ (o : O). HasCause {T = Unit {0}} {E = Failed} (faults out) (faults o) (Err d)) (sym n1) h;
  })
    where
      n1 : new ≡ p1.below
      n1 = n ∙ ap (λ (q : BufferValue O). q.below) is

      x1 : Extends (told p1.first) (told new)
      x1 = subst (λ (q : BufferValue O). Extends (told q.first) (told new)) is x

  -- a call through a buffer that was flushed
  pub through_flushed : (Leaves : BufferValue O → Result (Unit {0}) Failed → BufferValue O → Type 0) (out new : O) (p0 p1 p2 p : BufferValue O) (u : Unit {0}) (s r : Result (Unit {0}) Failed) → p0 ≡ record { first = out; below = out; held = []; used = 0 } → new ≡ p.below → Extends (told p.first) (told new) → p ≡ p2 → r ≡ s
      → OnOk s (p2.held ≡ []) → p2.first ≡ p1.first → Keeps (append_known (told p1.below) p1.held) (append_known (told p2.below) p2.held) → aside p2.below ≡ aside p1.below → HasCause (faults p1.below) (faults p2.below) s
      → Leaves p0 (Ok u) p1 → GoesThrough faults told aside Leaves out r new
  through_flushed Leaves out new p0 p1 p2 p u s r e n x is answers empty first same kept cause left = rw answers (record {
    last = p1;
    answer = Ok u;
    left = subst (λ (q : BufferValue O). Leaves q (Ok u) p1) e left;
    written = λ text w. through out new _ p2 text s refl n2 x2 empty (flushed _ p1 p2 text u s w same (λ i. laid_over (told (first i)) (kept i)) cause);
    sound = at_ok s;
    kept = ap aside n2 ∙ kept;
    cause = λ h. subst (λ (o : O). HasCause (faults out) (faults o) s) (sym n2) (subst (λ (before : ℕ). HasCause before (faults p2.below) s) h.fine cause);
  })
    where
      n2 : new ≡ p2.below
      n2 = n ∙ ap (λ (q : BufferValue O). q.below) is

      at_ok : (s : Result (Unit {0}) Failed) → OnOk s (IsOk {E = Failed} (Ok u))
      at_ok (Ok _) = refl
      at_ok (Err _) = tt

      x2 : Extends (told p2.first) (told new)
      x2 = subst (λ (q : BufferValue O). Extends (told q.first) (told new)) is x
