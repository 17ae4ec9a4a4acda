-- One byte and one piece of the input after another.
use Rattle.std.proofs.Common.{◌≡◌, ◌≢◌, inl, inr, ℕ, ◌+◌, ◌<◌, Bool, true, false, length, take, drop, get_or, List, [], ◌∷◌, ◌++◌, Option, None, Some, refl, ap, sym, ◌∙◌, subst, append_assoc, append-nil, drop-cons, suc, arith}
use mathlib.Core.Bool.{false≢true}
use Rattle.std.proofs.lemmas.List.{take_more, take-append-drop}
use Rattle.std.specs.Io.KnownBytes.{Appends}
use Rattle.cut_publisher.specs.History.{Begins, revision}
use Rattle.cut_publisher.proofs.Prefixes.{begins_self, begins_trans}
use Rattle.wire_io.proofs.Joins.{appends_then, appends_none}
use Rattle.ask_session.specs.declared.close.Close.{Close}
use Rattle.ask_session.specs.declared.close.Close.TheVariants.{Ended, Full, Over, ReadFault, WriteFault}
use Rattle.ask_session.specs.Lines.{HasNoEnd, IsTooMany, chomped}
use Rattle.ask_session.specs.Replies.{History, Heard, too_long, unknown, asked, over, is_over, IsHeard}
use Rattle.ask_session.specs.Dialogue.{Dialogue}
use Rattle.ask_session.specs.Connection.{HasWritten}
use Rattle.ask_session.specs.Hearing.{IsEarly, IsEnd, Replied, Goes, Halts, EndsSo}
use Rattle.ask_session.proofs.NextLine.{few_none, many_long, plain_append, next_ends, next_last, next_long}
use Rattle.ask_session.proofs.Turning.{on, early, turns_none, turns_more, turns_then, turns_line, written_then}

module _ (lanes : ℕ) where
  pub goes_none : (seen : History) (pending : List ℕ) (told : Option (List ℕ)) (writes : ℕ) → HasNoEnd pending → (IsTooMany pending → ⊥) → Goes lanes seen seen pending pending told told writes writes
  goes_none seen pending told writes plain few = record { written = []; turns = turns_none lanes seen pending; plain = plain; few = few; told_is = appends_none told; calm = refl }

  -- after a connection's first part, another, up to its end
  pub goes_halts : (close : Close) (ended : Bool) (s1 s2 s3 : History) (from pending t : List ℕ) (a b c : Option (List ℕ)) (n0 n1 n2 : ℕ) → Goes lanes s1 s2 from pending a b n0 n1 → Halts lanes close ended s2 s3 (pending ++ t) b c n1 n2 → Halts lanes close ended s1 s3 (from ++ t) a c n0 n2
  goes_halts close ended s1 s2 s3 from pending t a b c n0 n1 n2 p q = record {
    sees = begins_trans s1 s2 s3 p.turns.sees q.sees;
    replies = p.written ++ q.replies;
    talk = p.turns.go close ended s3 t q.replies q.sees q.talk;
    written = written_then close a b c n0 n1 n2 p.written q.replies p.told_is p.calm q.written;
  }

  pub goes_then : (s1 s2 s3 : History) (from pending piece pending' : List ℕ) (a b c : Option (List ℕ)) (n0 n1 n2 : ℕ) → Goes lanes s1 s2 from pending a b n0 n1 → Goes lanes s2 s3 (pending ++ piece) pending' b c n1 n2 → Goes lanes s1 s3 (from ++ piece) pending' a c n0 n2
  goes_then s1 s2 s3 from pending piece pending' a b c n0 n1 n2 p q = record {
    written = p.written ++ q.written;
    turns = turns_then lanes s1 s2 s3 (from ++ piece) (pending ++ piece) pending' p.written q.written (turns_more lanes s1 s2 from pending p.written piece p.turns) q.turns;
    plain = q.plain;
    few = q.few;
    told_is = appends_then a b c p.written q.written p.told_is q.told_is;
    calm = q.calm ∙ p.calm;
  }

  -- a byte that ends no line
  goes_byte : (seen : History) (pending : List ℕ) (told : Option (List ℕ)) (writes byte : ℕ) → HasNoEnd pending → byte ≢ 10 → (IsTooMany (pending ++ byte ∷ []) → ⊥) → Goes lanes seen seen (pending ++ byte ∷ []) (pending ++ byte ∷ []) told told writes writes
  goes_byte seen pending told writes byte plain other few = goes_none seen (pending ++ byte ∷ []) told writes (plain_append pending (byte ∷ []) plain (other, tt)) few

  -- a line that was answered, after which others may come
  goes_line : (seen seen' : History) (pending : List ℕ) (a b : Option (List ℕ)) (n0 n1 : ℕ) → Begins seen seen' → HasNoEnd pending → Replied lanes (chomped pending) seen' a b n0 n1 None → Goes lanes seen seen' (pending ++ 10 ∷ []) [] a b n0 n1
  goes_line seen seen' pending a b n0 n1 sees plain r = record {
    written = r.text;
    turns = turns_line lanes seen seen' pending r.heard r.text sees plain r.is_heard r.is_answer r.answers.0;
    plain = tt;
    few = few_none;
    told_is = r.answers.1;
    calm = r.answers.2;
  }

  -- a line after which none comes
  halts_line : (close : Close) (ended : Bool) (seen seen' : History) (pending t : List ℕ) (a b : Option (List ℕ)) (n0 n1 : ℕ) → Begins seen seen' → HasNoEnd pending → Replied lanes (chomped pending) seen' a b n0 n1 (Some close) → Halts lanes close ended seen seen' (pending ++ 10 ∷ t) a b n0 n1
  halts_line close ended seen seen' pending t a b n0 n1 sees plain r = record {
    sees = sees;
    replies = r.text;
    talk = subst (λ (l : List ℕ). Dialogue lanes close ended seen' (revision seen) l r.text) (append_assoc pending (10 ∷ []) t) (early lanes seen seen' sees r.heard r.text r.is_answer close ended _ (chomped pending) t (next_ends ended pending t plain) r.is_heard r.answers.1);
    written = r.answers.2;
  }

  -- a line that is too long
  is_too_long : (line : List ℕ) (heard : Heard) → IsHeard line heard → 1024 < length line → heard ≡ too_long
  is_too_long line too_long is long = refl
  is_too_long line unknown is long = absurd (omega (arith, is.0))
  is_too_long line (asked ask) is long = absurd (omega (arith, is.0))
  is_too_long line over is long = absurd (omega (arith, is.0))

  -- after it the connection doesn't go on
  pub long_ends : (seen : History) (line : List ℕ) (a b : Option (List ℕ)) (n0 n1 : ℕ) → IsTooMany line → Replied lanes line seen a b n0 n1 None → ⊥
  long_ends seen line a b n0 n1 many r = false≢true (sym r.answers.0 ∙ ap is_over (is_too_long line r.heard r.is_heard (many_long line many)))

  halts_long : (close : Close) (ended : Bool) (seen seen' : History) (pending t : List ℕ) (a b : Option (List ℕ)) (n0 n1 : ℕ) → Begins seen seen' → HasNoEnd pending → IsTooMany pending → Replied lanes pending seen' a b n0 n1 (Some close) → Halts lanes close ended seen seen' (pending ++ t) a b n0 n1
  halts_long close ended seen seen' pending t a b n0 n1 sees plain many r =
      let n = next_long ended pending t plain many in
      let is : IsHeard n.line r.heard = subst (λ (h : Heard). IsHeard n.line h) (sym (is_too_long pending r.heard r.is_heard (many_long pending many))) n.long in
      record {
        sees = sees;
        replies = r.text;
        talk = early lanes seen seen' sees r.heard r.text r.is_answer close ended (pending ++ t) n.line n.rest n.next is r.answers.1;
        written = r.answers.2;
      }

  -- the end of the input
  silent : (close : Close) (ended : Bool) (history : History) (least : ℕ) → IsEnd close → Dialogue lanes close ended history least [] []
  silent Ended ended history least e = record { turns = []; talks = (record { plain = tt; few = few_none; none = λ _. refl }, refl) }
  silent Full ended history least e = record { turns = []; talks = (record { plain = tt; few = few_none; none = λ _. refl }, refl) }
  silent Over ended history least e = absurd e
  silent ReadFault ended history least e = absurd e
  silent WriteFault ended history least e = absurd e

  calm_end : (close : Close) (text : List ℕ) (a b : Option (List ℕ)) (n0 n1 : ℕ) → IsEnd close → Appends a b text → n1 ≡ n0 → HasWritten close text a b n0 n1
  calm_end Ended text a b n0 n1 e p q = (p, q)
  calm_end Full text a b n0 n1 e p q = (p, q)
  calm_end Over text a b n0 n1 e p q = absurd e
  calm_end ReadFault text a b n0 n1 e p q = absurd e
  calm_end WriteFault text a b n0 n1 e p q = absurd e

  pub ends_line : (close : Close) (seen seen' : History) (pending : List ℕ) (a b : Option (List ℕ)) (n0 n1 : ℕ) → Begins seen seen' → IsEnd close → HasNoEnd pending → 0 < length pending → Replied lanes pending seen' a b n0 n1 None → EndsSo lanes close close seen seen' pending a b n0 n1
  ends_line close seen seen' pending a b n0 n1 sees e plain some r = record {
    which = inl refl;
    halts = record {
      sees = sees;
      replies = r.text ++ [];
      talk = on lanes seen seen' sees r.heard r.text r.is_answer close true seen' pending pending [] [] (next_last pending plain some) r.is_heard r.answers.0 (begins_self seen') (silent close true seen' (revision seen') e);
      written = subst (λ (l : List ℕ). HasWritten close l a b n0 n1) (sym (append-nil r.text)) (calm_end close r.text a b n0 n1 e r.answers.1 r.answers.2);
    };
  }

  pub ends_early : (close early' : Close) (seen seen' : History) (pending : List ℕ) (a b : Option (List ℕ)) (n0 n1 : ℕ) → Begins seen seen' → HasNoEnd pending → 0 < length pending → Replied lanes pending seen' a b n0 n1 (Some early') → EndsSo lanes close early' seen seen' pending a b n0 n1
  ends_early close early' seen seen' pending a b n0 n1 sees plain some r = record {
    which = inr r.answers.0;
    halts = record {
      sees = sees;
      replies = r.text;
      talk = early lanes seen seen' sees r.heard r.text r.is_answer early' true pending pending [] (next_last pending plain some) r.is_heard r.answers.1;
      written = r.answers.2;
    };
  }

-- the piece round one of its bytes
piece_at : (pending piece : List ℕ) (i byte : ℕ) → i < length piece → get_or piece i 0 ≡ byte → (pending ++ take i piece) ++ byte ∷ drop (suc i) piece ≡ pending ++ piece
piece_at pending piece i byte h e = append_assoc pending (take i piece) (byte ∷ drop (suc i) piece) ∙ ap (λ (l : List ℕ). pending ++ l) (ap (λ (b : ℕ). take i piece ++ b ∷ drop (suc i) piece) (sym e) ∙ ap (λ (l : List ℕ). take i piece ++ l) (sym (drop-cons piece i 0 h)) ∙ take-append-drop i piece)

piece_more : (pending piece : List ℕ) (i byte : ℕ) → i < length piece → get_or piece i 0 ≡ byte → (pending ++ take i piece) ++ byte ∷ [] ≡ pending ++ take (i + 1) piece
piece_more pending piece i byte h e = append_assoc pending (take i piece) (byte ∷ []) ∙ ap (λ (l : List ℕ). pending ++ l) (ap (λ (b : ℕ). take i piece ++ b ∷ []) (sym e) ∙ sym (take_more piece i 0 h))

-- the loop over a piece
module _ (lanes lanes' : ℕ) (same : lanes' ≡ lanes) (seen0 seen seen' : History) (sees : Begins seen seen') (line0 piece pending : List ℕ) (a b c : Option (List ℕ)) (n0 n1 n2 : ℕ) (i : ℕ) (within : i < length piece) (p : Goes lanes seen0 seen (line0 ++ take i piece) pending a b n0 n1) where
  pub hears_line : (text : List ℕ) (close : Close) → get_or piece i 0 ≡ 10 → text ≡ chomped pending → Replied lanes' text seen' b c n1 n2 (Some close) → IsEarly close × Halts lanes close false seen0 seen' (line0 ++ piece) a c n0 n2
  hears_line text close byte e r =
      let r1 = subst (λ (l : List ℕ). Replied lanes l seen' b c n1 n2 (Some close)) e (subst (λ (n : ℕ). Replied n text seen' b c n1 n2 (Some close)) same r) in (
        r1.answers.0,
        subst (λ (l : List ℕ). Halts lanes close false seen0 seen' l a c n0 n2) (piece_at line0 piece i 10 within byte)
            (goes_halts lanes close false seen0 seen seen' (line0 ++ take i piece) pending (10 ∷ drop (suc i) piece) a b c n0 n1 n2 p (halts_line lanes close false seen seen' pending (drop (suc i) piece) b c n1 n2 sees p.plain r1)),
      )

  pub goes_on : (text : List ℕ) → get_or piece i 0 ≡ 10 → text ≡ chomped pending → Replied lanes' text seen' b c n1 n2 None → Goes lanes seen0 seen' (line0 ++ take (i + 1) piece) [] a c n0 n2
  goes_on text byte e r =
      let r1 = subst (λ (l : List ℕ). Replied lanes l seen' b c n1 n2 None) e (subst (λ (n : ℕ). Replied n text seen' b c n1 n2 None) same r) in
      subst (λ (l : List ℕ). Goes lanes seen0 seen' l [] a c n0 n2) (piece_more line0 piece i 10 within byte)
      (goes_then lanes seen0 seen seen' (line0 ++ take i piece) pending (10 ∷ []) [] a b c n0 n1 n2 p (goes_line lanes seen seen' pending b c n1 n2 sees p.plain r1))

  pub hears_long : (byte : ℕ) (text : List ℕ) (close : Close) → get_or piece i 0 ≡ byte → byte ≢ 10 → text ≡ pending ++ byte ∷ [] → IsTooMany text → Replied lanes' text seen' b c n1 n2 (Some close) → IsEarly close × Halts lanes close false seen0 seen' (line0 ++ piece) a c n0 n2
  hears_long byte text close at other e many r =
      let r1 = subst (λ (l : List ℕ). Replied lanes l seen' b c n1 n2 (Some close)) e (subst (λ (n : ℕ). Replied n text seen' b c n1 n2 (Some close)) same r) in
      let plain = plain_append pending (byte ∷ []) p.plain (other, tt) in
      let h = halts_long lanes close false seen seen' (pending ++ byte ∷ []) (drop (suc i) piece) b c n1 n2 sees plain (subst (λ (l : List ℕ). IsTooMany l) e many) r1 in (
        r1.answers.0,
        subst (λ (l : List ℕ). Halts lanes close false seen0 seen' l a c n0 n2) (piece_at line0 piece i byte within at)
            (goes_halts lanes close false seen0 seen seen' (line0 ++ take i piece) pending (byte ∷ drop (suc i) piece) a b c n0 n1 n2 p (subst (λ (l : List ℕ). Halts lanes close false seen seen' l b c n1 n2) (append_assoc pending (byte ∷ []) (drop (suc i) piece)) h)),
      )

module _ (lanes : ℕ) (seen0 seen : History) (line0 piece pending : List ℕ) (a b : Option (List ℕ)) (n0 n1 : ℕ) (i : ℕ) (within : i < length piece) (p : Goes lanes seen0 seen (line0 ++ take i piece) pending a b n0 n1) where
  pub goes_byte_on : (byte : ℕ) (pending' : List ℕ) → get_or piece i 0 ≡ byte → byte ≢ 10 → pending' ≡ pending ++ byte ∷ [] → (IsTooMany pending' → ⊥) → Goes lanes seen0 seen (line0 ++ take (i + 1) piece) pending' a b n0 n1
  goes_byte_on byte pending' at other e few =
      let few1 : IsTooMany (pending ++ byte ∷ []) → ⊥ = λ many. few (subst (λ (l : List ℕ). IsTooMany l) (sym e) many) in
      subst (λ (l : List ℕ). Goes lanes seen0 seen (line0 ++ take (i + 1) piece) l a b n0 n1) (sym e)
      (subst (λ (l : List ℕ). Goes lanes seen0 seen l (pending ++ byte ∷ []) a b n0 n1) (piece_more line0 piece i byte within at)
      (goes_then lanes seen0 seen seen (line0 ++ take i piece) pending (byte ∷ []) (pending ++ byte ∷ []) a b b n0 n1 n1 p (goes_byte lanes seen pending b n1 byte p.plain other few1)))
