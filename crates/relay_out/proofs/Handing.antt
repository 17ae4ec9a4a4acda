-- Messages that are handed on one after another: what is left of them leads to all of them.
use Rattle.std.proofs.Common.{◌≡◌, List, [], ◌++◌, Result, Ok, Err, IsErrAnd, refl, sym, ap, ◌∙◌, subst, append_assoc, append-nil}
use Rattle.std.specs.List.{AllByRecursion}
use Rattle.relay_out.specs.declared.fault.EmitFault.{EmitFault}
use Rattle.relay_out.specs.Handed.{Hands, Looks}
use Rattle.relay_out.specs.Messages.{ItemValue}
use Rattle.relay_out.proofs.Members.{all_parts}

-- to hand on what is left is to hand on all, since the others were taken; and what is left may be handed on
pub record Leads {T B : Type 0} (of : T → B) (may : ItemValue → Type 0) (took : T → List ItemValue → Type 0) (stopped : T → List ItemValue → EmitFault → Type 0) (start now : T) (left all : List ItemValue) : Type 0 where
  pub go : (r : Result (Unit {0}) EmitFault) (new : T) → Hands of took stopped left now r new → Hands of took stopped all start r new
  pub fit : AllByRecursion may left

module _ {T B : Type 0} {of : T → B} {took : T → List ItemValue → Type 0} {stopped : T → List ItemValue → EmitFault → Type 0} where
  pub hands_none : (a : T) (items : List ItemValue) → items ≡ [] → Hands of took stopped items a (Ok tt) a
  hands_none a items none = record {
    ok = λ done h. subst (took a) (sym (ap (λ (l : List ItemValue). done ++ l) none ∙ append-nil done)) h;
    err = tt;
    kept = refl;
  }

  pub hands_join : (a b c : T) (xs ys all : List ItemValue) (u : Unit {0}) (r : Result (Unit {0}) EmitFault) → Hands of took stopped xs a (Ok u) b → Hands of took stopped ys b r c → all ≡ xs ++ ys → Hands of took stopped all a r c
  hands_join a b c xs ys all u (Ok v) f g e = record {
    ok = λ done h. subst (took c) (append_assoc done xs ys ∙ ap (λ (l : List ItemValue). done ++ l) (sym e)) (g.ok (done ++ xs) (f.ok done h));
    err = tt;
    kept = g.kept ∙ f.kept;
  }
  hands_join a b c xs ys all u (Err d) f g e = record {
    ok = tt;
    err = λ done h.
        let s = g.err (done ++ xs) (f.ok done h) in
        record { first = xs ++ s.first; rest = s.rest; split = e ∙ ap (λ (l : List ItemValue). xs ++ l) s.split ∙ sym (append_assoc xs s.first s.rest); is = subst (λ (l : List ItemValue). stopped c l d) (append_assoc done xs s.first) s.is };
    kept = g.kept ∙ f.kept;
  }

  pub hands_more : (a b : T) (xs ys all : List ItemValue) (d : EmitFault) (r : Result (Unit {0}) EmitFault) → Hands of took stopped xs a (Err d) b → IsErrAnd r (λ f. f ≡ d) → all ≡ xs ++ ys → Hands of took stopped all a r b
  hands_more a b xs ys all d (Ok v) f is e = absurd is
  hands_more a b xs ys all d (Err x) f is e = subst (λ (y : EmitFault). Hands of took stopped all a (Err y) b) (sym is) (record {
    ok = tt;
    err = λ done h.
        let s = f.err done h in
        record { first = s.first; rest = s.rest ++ ys; split = e ∙ ap (λ (l : List ItemValue). l ++ ys) s.split ∙ append_assoc s.first s.rest ys; is = s.is };
    kept = f.kept;
  })

  -- looks take nothing
  looks_none : (a b : T) (items : List ItemValue) (u : Unit {0}) → Looks of took stopped items a (Ok u) b → Hands of took stopped [] a (Ok u) b
  looks_none a b items u g = record { ok = λ done h. subst (took b) (sym (append-nil done)) (g.ok done h); err = tt; kept = g.kept }

  pub looks_failed : (a b : T) (items : List ItemValue) (d : EmitFault) (r : Result (Unit {0}) EmitFault) → Looks of took stopped items a (Err d) b → IsErrAnd r (λ f. f ≡ d) → Hands of took stopped items a r b
  looks_failed a b items d (Ok v) g is = absurd is
  looks_failed a b items d (Err x) g is = subst (λ (y : EmitFault). Hands of took stopped items a (Err y) b) (sym is) (record { ok = tt; err = g.err; kept = g.kept })

module _ {T B : Type 0} {of : T → B} {may : ItemValue → Type 0} {took : T → List ItemValue → Type 0} {stopped : T → List ItemValue → EmitFault → Type 0} where
  pub leads_begin : (a : T) (left all : List ItemValue) → left ≡ all → AllByRecursion may left → Leads of may took stopped a a left all
  leads_begin a left all e fit = record { go = λ r new h. subst (λ (l : List ItemValue). Hands of took stopped l a r new) e h; fit = fit }

  -- what is handed on next
  pub leads_fit : (a b : T) (some rest left all : List ItemValue) → Leads of may took stopped a b left all → left ≡ some ++ rest → AllByRecursion may some
  leads_fit a b some rest left all l e = (all_parts may some rest (subst (AllByRecursion may) e l.fit)).0

  pub leads_on : (a b c : T) (some rest left all : List ItemValue) (u : Unit {0}) → Leads of may took stopped a b left all → Hands of took stopped some b (Ok u) c → left ≡ some ++ rest → Leads of may took stopped a c rest all
  leads_on a b c some rest left all u l h e = record { go = λ r new g. l.go r new (hands_join b c new some rest left u r h g e); fit = (all_parts may some rest (subst (AllByRecursion may) e l.fit)).1 }

  pub leads_failed : (a b c : T) (some rest left all : List ItemValue) (d : EmitFault) (r : Result (Unit {0}) EmitFault) → Leads of may took stopped a b left all → Hands of took stopped some b (Err d) c → IsErrAnd r (λ f. f ≡ d) → left ≡ some ++ rest → Hands of took stopped all a r c
  leads_failed a b c some rest left all d r l h is e = l.go r c (hands_more b c some rest left d r h is e)

  pub leads_end : (a b : T) (left all : List ItemValue) → Leads of may took stopped a b left all → left ≡ [] → Hands of took stopped all a (Ok tt) b
  leads_end a b left all l none = l.go (Ok tt) b (hands_none b left none)

  pub leads_looked : (a b c : T) (items left all : List ItemValue) (u : Unit {0}) → Leads of may took stopped a b left all → Looks of took stopped items b (Ok u) c → Leads of may took stopped a c left all
  leads_looked a b c items left all u l g = record { go = λ r new h. l.go r new (hands_join b c new [] left left u r (looks_none b c items u g) h refl); fit = l.fit }
