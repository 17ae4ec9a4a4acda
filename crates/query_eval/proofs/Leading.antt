-- Lines that are written and counted one after another: what is left of them leads to all of them.
use Rattle.std.proofs.Common.{◌≡◌, ℕ, ◌+◌, List, [], ◌∷◌, ◌++◌, length, Option, Result, Ok, Err, refl, sym, ap, ◌∙◌, subst, append_assoc, append-nil, arith}
use mathlib.Core.Bool.{true, false≢true}
use Rattle.std.specs.List.{concat}
use Rattle.std.specs.Result.{is_err}
use Rattle.std.proofs.lemmas.List.{length-append}
use Rattle.bmp_specs.specs.Reply.{told_count}
use Rattle.wire_io.specs.declared.sink.Failed.{Failed}
use Rattle.wire_io.specs.Aside.{Aside}
use Rattle.wire_io.specs.Faults.{HasCause}
use Rattle.wire_io.specs.Writes.{Writes}
use Rattle.wire_io.proofs.Joins.{join, more, writes_none}
use Rattle.query_eval.specs.Puts.{done, WritesLines, PutsLines}

-- To write the lines that are left is to write all, since the others are written; these are counted, up to the greatest
-- number of 64 bits.
pub record LeadsTo {O : Type 0} (faults : O → ℕ) (told : O → Option (List ℕ)) (aside : O → Aside) (start now : O) (count : ℕ) (left all : List (List ℕ)) : Type 0 where
  pub go : (r : Result (Unit {0}) Failed) (new : O) → Writes faults told aside now (concat left) r new → Writes faults told aside start (concat all) r new
  pub counted : told_count (count + length left) ≡ told_count (length all)
  pub within : told_count count ≡ count

pub concat_append : (xs ys : List (List ℕ)) → concat (xs ++ ys) ≡ concat xs ++ concat ys
concat_append [] ys = refl
concat_append (x ∷ xs) ys = ap (λ (l : List ℕ). x ++ l) (concat_append xs ys) ∙ sym (append_assoc x (concat xs) (concat ys))

split_text : (left some rest : List (List ℕ)) → left ≡ some ++ rest → concat left ≡ concat some ++ concat rest
split_text left some rest e = ap concat e ∙ concat_append some rest

cause_of : (before now : ℕ) (r : Result ℕ Failed) → HasCause before now (done r) → HasCause before now r
cause_of before now (Ok k) h = record { later = h.later; failed = tt; fine = h.fine }
cause_of before now (Err d) h = record { later = h.later; failed = h.failed; fine = tt }

module _ {O : Type 0} {faults : O → ℕ} {told : O → Option (List ℕ)} {aside : O → Aside} where
  pub leads_begin : (a : O) (all : List (List ℕ)) → LeadsTo faults told aside a a 0 all all
  leads_begin a all = record { go = λ r new w. w; counted = omega arith; within = omega arith }

  -- further lines were written, and counted by the call that wrote them
  pub leads_on : (a b c : O) (n k m : ℕ) (some rest left all : List (List ℕ)) → LeadsTo faults told aside a b n left all → WritesLines faults told aside b some (Ok k) c → left ≡ some ++ rest → m ≡ told_count (n + k)
      → LeadsTo faults told aside a c m rest all
  leads_on a b c n k m some rest left all l w e more_is = record {
    go = λ r new v. l.go r new (join b c new (concat some) (concat rest) (concat left) tt r w.written v (split_text left some rest e));
    counted = let both : length left ≡ length some + length rest = ap length e ∙ length-append some rest in omega (arith, both, w.counted, more_is, l.counted);
    within = omega (arith, more_is);
  }

  -- one further line was written
  pub leads_on_line : (a b c : O) (n m : ℕ) (line : List ℕ) (rest left all : List (List ℕ)) → LeadsTo faults told aside a b n left all → Writes faults told aside b line (Ok tt) c → left ≡ line ∷ rest → m ≡ told_count (n + 1)
      → LeadsTo faults told aside a c m rest all
  leads_on_line a b c n m line rest left all l w e more_is = record {
    go = λ r new v. l.go r new (join b c new line (concat rest) (concat left) tt r w v (ap concat e));
    counted = let both : length left ≡ length (line ∷ rest) = ap length e in omega (arith, both, more_is, l.counted);
    within = omega (arith, more_is);
  }

  -- the first lines were written
  pub leads_first : (a b : O) (k : ℕ) (some rest all : List (List ℕ)) → WritesLines faults told aside a some (Ok k) b → all ≡ some ++ rest → LeadsTo faults told aside a b k rest all
  leads_first a b k some rest all w e = leads_on a a b 0 k k some rest all all (leads_begin a all) w e (omega (arith, w.counted))

  -- what is left is the same in another form
  pub leads_as : (a b : O) (n : ℕ) (rest left all : List (List ℕ)) → LeadsTo faults told aside a b n left all → left ≡ rest → LeadsTo faults told aside a b n rest all
  leads_as a b n rest left all l e = subst (λ (x : List (List ℕ)). LeadsTo faults told aside a b n x all) e l

  -- a write of further lines failed
  pub leads_failed : (a b c : O) (n : ℕ) (some rest left all : List (List ℕ)) (d : Failed) (r : Result ℕ Failed) → LeadsTo faults told aside a b n left all → WritesLines faults told aside b some (Err d) c → is_err r ≡ true → left ≡ some ++ rest
      → WritesLines faults told aside a all r c
  leads_failed a b c n some rest left all d (Ok k) l w h e = absurd (false≢true h)
  leads_failed a b c n some rest left all d (Err d') l w h e = record {
    written = l.go (Err d') c (more b c (concat some) (concat rest) (concat left) d (Err d') w.written refl (split_text left some rest e));
    counted = tt;
  }

  -- the write of a further line failed
  pub leads_failed_line : (a b c : O) (n : ℕ) (line : List ℕ) (rest left all : List (List ℕ)) (d : Failed) (r : Result ℕ Failed) → LeadsTo faults told aside a b n left all → Writes faults told aside b line (Err d) c → is_err r ≡ true → left ≡ line ∷ rest
      → WritesLines faults told aside a all r c
  leads_failed_line a b c n line rest left all d (Ok k) l w h e = absurd (false≢true h)
  leads_failed_line a b c n line rest left all d (Err d') l w h e = record {
    written = l.go (Err d') c (more b c line (concat rest) (concat left) d (Err d') w refl (ap concat e));
    counted = tt;
  }

  -- nothing is left
  pub leads_end : (a b : O) (n : ℕ) (left all : List (List ℕ)) → LeadsTo faults told aside a b n left all → left ≡ [] → WritesLines faults told aside a all (Ok n) b
  leads_end a b n left all l e = record {
    written = l.go (Ok tt) b (subst (λ (t : List (List ℕ)). Writes faults told aside b (concat t) (Ok tt) b) (sym e) (writes_none b));
    counted = let none : length left ≡ 0 = ap length e in omega (arith, none, l.counted, l.within);
  }

  -- the last lines were written, or their write failed
  pub leads_last : (a b c : O) (n k m : ℕ) (left all : List (List ℕ)) → LeadsTo faults told aside a b n left all → WritesLines faults told aside b left (Ok k) c → m ≡ told_count (n + k) → WritesLines faults told aside a all (Ok m) c
  leads_last a b c n k m left all l w more_is = leads_end a c m [] all (leads_on a b c n k m left [] left all l w (sym (append-nil left)) more_is) refl

  pub leads_last_failed : (a b c : O) (n : ℕ) (left all : List (List ℕ)) (d : Failed) (r : Result ℕ Failed) → LeadsTo faults told aside a b n left all → WritesLines faults told aside b left (Err d) c → is_err r ≡ true → WritesLines faults told aside a all r c
  leads_last_failed a b c n left all d r l w h = leads_failed a b c n left [] left all d r l w h (sym (append-nil left))

  -- one line was written, and it is all
  pub one_line : (a b : O) (line : List ℕ) (all : List (List ℕ)) → Writes faults told aside a line (Ok tt) b → all ≡ line ∷ [] → WritesLines faults told aside a all (Ok 1) b
  one_line a b line all w e = leads_end a b 1 [] all (leads_on_line a a b 0 1 line [] all all (leads_begin a all) w e (omega arith)) refl

  pub one_line_failed : (a b : O) (line : List ℕ) (all : List (List ℕ)) (d : Failed) (r : Result ℕ Failed) → Writes faults told aside a line (Err d) b → is_err r ≡ true → all ≡ line ∷ [] → WritesLines faults told aside a all r b
  one_line_failed a b line all d r w h e = leads_failed_line a a b 0 line [] all all d r (leads_begin a all) w h e

  -- no lines
  pub no_lines : (a : O) (lines : List (List ℕ)) → lines ≡ [] → WritesLines faults told aside a lines (Ok 0) a
  no_lines a lines e = leads_end a a 0 lines lines (leads_begin a lines) e

  -- the same lines in another form
  pub lines_as : (a b : O) (lines others : List (List ℕ)) (r : Result ℕ Failed) → lines ≡ others → WritesLines faults told aside a lines r b → WritesLines faults told aside a others r b
  lines_as a b lines others r e w = subst (λ (l : List (List ℕ)). WritesLines faults told aside a l r b) e w

  -- the lines that were written are those of the lane, whichever its entries are
  pub puts_own : {E : Type 0} (Of : E → Type 0) (AreThese : E → List (List ℕ) → Type 0) (own : List (List ℕ)) (a b : O) (r : Result ℕ Failed)
      → ((entries : E) → Of entries → AreThese entries own) → ((entries : E) (xs ys : List (List ℕ)) → AreThese entries xs → AreThese entries ys → xs ≡ ys)
      → WritesLines faults told aside a own r b → PutsLines faults told aside Of AreThese a r b
  puts_own Of AreThese own a b r are one w = record {
    puts = λ entries lines of these. lines_as a b own lines r (one entries own lines (are entries of) these) w;
    kept = w.written.kept;
    cause = cause_of (faults a) (faults b) r w.written.cause;
  }
