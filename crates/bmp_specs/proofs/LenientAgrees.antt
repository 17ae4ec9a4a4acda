-- The states of a strict and a lenient reading of the same messages: they agree on every peer but the Loc-RIBs of which
-- nothing told, and what a message does to them keeps it so.
use Rattle.std.proofs.Common.{◌≡◌, eqb, Bool, true, false, true≢false, cond, not, ◌&&◌, List, [], ◌++◌, Option, Some, None, refl, sym, ap, ◌∙◌, subst}
use Rattle.std.specs.List.{AllByRecursion}
use Rattle.std.specs.Ordering.{eq_by_cmp, is_eq}
use Rattle.std.specs.declared.cmp.Ordering.{Ordering}
use Rattle.std.specs.declared.cmp.Ordering.TheVariants.{Less, Equal, Greater}
use Rattle.std.proofs.lemmas.Cmp.{tied_itself}
use Rattle.bmp_specs.specs.declared.peers.View.{View}
use Rattle.bmp_specs.specs.LenientState.{LenientState, is_untold, nothing_known, with_shown, with_told}
use Rattle.bmp_specs.specs.MessageBody.{ReadingState, no_peers, with_peer}
use Rattle.bmp_specs.specs.Orders.{key_cmp, view_cmp}
use Rattle.bmp_specs.specs.PeerHeader.{loc_rib}
use Rattle.bmp_specs.specs.PeerUp.{IsNamed, Names}
use Rattle.bmp_specs.specs.UpdateForms.{FormsValue, as_agreed}
use Rattle.bmp_specs.specs.Values.{EffectValue, KeyValue, OpensValue}
use Rattle.bmp_specs.proofs.OrderLaws.{key_exact, key_total}
use Rattle.bmp_specs.proofs.PeerLaws.{named_kept_by_all, none_named}

-- the states after these effects of the strict reading
pub record Agrees (before : List EffectValue) (s : ReadingState) (t : LenientState) : Type 0 where
  pub opens : (key : KeyValue) → is_untold t key ≡ false → t.opens key ≡ s key
  pub none : (key : KeyValue) → is_untold t key ≡ true → s key ≡ None
  pub shown : (key : KeyValue) (view : View) → is_untold t key ≡ false → t.shown key view ≡ as_agreed
  pub untold : (key : KeyValue) → is_untold t key ≡ true → ¬ (IsNamed before key)

pub agrees_first : Agrees [] no_peers nothing_known
agrees_first = record { opens = λ key e. refl; none = λ key e. refl; shown = λ key view e. refl; untold = λ key e. none_named key }

-- none of the effects is an Up or a Down of the peer
abbrev pub AreOf : KeyValue → List EffectValue → Type 0
AreOf key effects = AllByRecursion (λ e. ¬ (Names key e)) effects

equal_by : (o : Ordering) → is_eq o ≡ true → o ≡ Equal
equal_by Less e = absurd (true≢false (sym e))
equal_by Equal e = refl
equal_by Greater e = absurd (true≢false (sym e))

neither : (b : Bool) → (not b && b) ≡ true → ⊥
neither true e = true≢false (sym e)
neither false e = true≢false (sym e)

pub same_key_by : (a b : KeyValue) → eq_by_cmp key_cmp a b ≡ true → a ≡ b
same_key_by a b e = key_exact a b (equal_by (key_cmp a b) e)

pub tied_key : (a b : KeyValue) → b ≡ a → eq_by_cmp key_cmp a b ≡ true
tied_key a b same = subst (λ (k : KeyValue). eq_by_cmp key_cmp a k ≡ true) (sym same) (ap is_eq (tied_itself key_total a))

module _ (before : List EffectValue) (s : ReadingState) (t : LenientState) (agrees : Agrees before s t) where
  still_untold : (more : List EffectValue) (key : KeyValue) → AreOf key more → is_untold t key ≡ true → ¬ (IsNamed (before ++ more) key)
  still_untold more key others e n = agrees.untold key e ((named_kept_by_all before more key others).1 n)

  -- a message that changes no state
  pub agrees_still : (more : List EffectValue) → ((key : KeyValue) → AreOf key more) → Agrees (before ++ more) s t
  agrees_still more others = record { opens = agrees.opens; none = agrees.none; shown = agrees.shown; untold = λ key e. still_untold more key (others key) e }

  -- a Peer Up or a Peer Down
  pub agrees_told : (more : List EffectValue) (key : KeyValue) (opens : Option OpensValue) → ((k : KeyValue) → ¬ (key ≡ k) → AreOf k more)
      → Agrees (before ++ more) (with_peer s key opens) (with_told t key opens)
  agrees_told more key opens others = record {
    opens = λ k e. opens_at k (eq_by_cmp key_cmp k key) e;
    none = λ k e. none_at k (eq_by_cmp key_cmp k key) e;
    shown = λ k view e. shown_at k view (eq_by_cmp key_cmp k key) e;
    untold = λ k e. untold_at k (eq_by_cmp key_cmp k key) refl e;
  }
    where
      opens_at : (k : KeyValue) (b : Bool) → (not (cond b (eqb k.kind loc_rib) (t.told k)) && eqb k.kind loc_rib) ≡ false → cond b opens (t.opens k) ≡ cond b opens (s k)
      opens_at k true e = refl
      opens_at k false e = agrees.opens k e

      none_at : (k : KeyValue) (b : Bool) → (not (cond b (eqb k.kind loc_rib) (t.told k)) && eqb k.kind loc_rib) ≡ true → cond b opens (s k) ≡ None
      none_at k true e = absurd (neither (eqb k.kind loc_rib) e)
      none_at k false e = agrees.none k e

      shown_at : (k : KeyValue) (view : View) (b : Bool) → (not (cond b (eqb k.kind loc_rib) (t.told k)) && eqb k.kind loc_rib) ≡ false → cond b as_agreed (t.shown k view) ≡ as_agreed
      shown_at k view true e = refl
      shown_at k view false e = agrees.shown k view e

      untold_at : (k : KeyValue) (b : Bool) → eq_by_cmp key_cmp k key ≡ b → (not (cond b (eqb k.kind loc_rib) (t.told k)) && eqb k.kind loc_rib) ≡ true → ¬ (IsNamed (before ++ more) k)
      untold_at k true is e = absurd (neither (eqb k.kind loc_rib) e)
      untold_at k false is e = still_untold more k (others k (λ same. true≢false (sym (tied_key k key same) ∙ is))) e

  -- routes of a peer that is up, in the forms that were agreed
  pub agrees_read : (more : List EffectValue) (key : KeyValue) (view : View) (opens : OpensValue) → ((k : KeyValue) → AreOf k more) → s key ≡ Some opens
      → Agrees (before ++ more) s (with_shown t key view opens as_agreed)
  agrees_read more key view opens others is_up = record {
    opens = λ k e. opens_at k (eq_by_cmp key_cmp k key) refl e;
    none = agrees.none;
    shown = λ k v e. shown_at k v (eq_by_cmp key_cmp k key && eq_by_cmp view_cmp v view) e;
    untold = λ k e. still_untold more k (others k) e;
  }
    where
      opens_at : (k : KeyValue) (b : Bool) → eq_by_cmp key_cmp k key ≡ b → is_untold t k ≡ false → cond b (Some opens) (t.opens k) ≡ s k
      opens_at k true is e = sym is_up ∙ ap s (sym (same_key_by k key is))
      opens_at k false is e = agrees.opens k e

      shown_at : (k : KeyValue) (v : View) (b : Bool) → is_untold t k ≡ false → cond b as_agreed (t.shown k v) ≡ as_agreed
      shown_at k v true e = refl
      shown_at k v false e = agrees.shown k v e

  -- routes of a Loc-RIB of which nothing told
  pub agrees_apart : (more : List EffectValue) (key : KeyValue) (view : View) (opens : OpensValue) (forms : FormsValue) → ((k : KeyValue) → AreOf k more) → is_untold t key ≡ true
      → Agrees (before ++ more) s (with_shown t key view opens forms)
  agrees_apart more key view opens forms others untold = record {
    opens = λ k e. opens_at k (eq_by_cmp key_cmp k key) refl e;
    none = agrees.none;
    shown = λ k v e. shown_at k v (eq_by_cmp key_cmp k key) (eq_by_cmp view_cmp v view) refl e;
    untold = λ k e. still_untold more k (others k) e;
  }
    where
      apart : (k : KeyValue) → eq_by_cmp key_cmp k key ≡ true → is_untold t k ≡ false → ⊥
      apart k is e = true≢false (sym untold ∙ ap (λ (j : KeyValue). is_untold t j) (sym (same_key_by k key is)) ∙ e)

      opens_at : (k : KeyValue) (b : Bool) → eq_by_cmp key_cmp k key ≡ b → is_untold t k ≡ false → cond b (Some opens) (t.opens k) ≡ s k
      opens_at k true is e = absurd (apart k is e)
      opens_at k false is e = agrees.opens k e

      shown_at : (k : KeyValue) (v : View) (b c : Bool) → eq_by_cmp key_cmp k key ≡ b → is_untold t k ≡ false → cond (b && c) forms (t.shown k v) ≡ as_agreed
      shown_at k v true c is e = absurd (apart k is e)
      shown_at k v false c is e = agrees.shown k v e
