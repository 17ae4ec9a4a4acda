-- One line after another.
use Rattle.std.proofs.Common.{◌≡◌, inl, inr, ℕ, ◌≤◌, Bool, false, List, [], ◌∷◌, ◌++◌, Option, refl, ap, sym, ◌∙◌, subst, append_assoc, append-nil, arith}
use Rattle.std.specs.Io.KnownBytes.{Appends}
use Rattle.cut_publisher.specs.History.{Begins, revision}
use Rattle.cut_publisher.proofs.Prefixes.{begins_self, begins_trans}
use Rattle.cut_publisher.proofs.Lanes.{revision-append}
use Rattle.wire_io.specs.Faults.{Rose}
use Rattle.wire_io.proofs.Joins.{appends_then}
use Rattle.ask_session.specs.declared.close.Close.{Close}
use Rattle.ask_session.specs.declared.close.Close.TheVariants.{Ended, Full, Over, ReadFault, WriteFault}
use Rattle.ask_session.specs.Lines.{HasNoEnd, chomped}
use Rattle.ask_session.specs.Replies.{History, Heard, IsHeard, IsAnswer, is_over}
use Rattle.ask_session.specs.Dialogue.{Turn, Dialogue, EndsWith}
use Rattle.ask_session.specs.Connection.{HasWritten}
use Rattle.ask_session.specs.Hearing.{Turns}
use Rattle.ask_session.proofs.NextLine.{Next, next_ends}

begins_revision : (a b : History) → Begins a b → revision a ≤ revision b
begins_revision a b p = omega (arith, ap revision p.is, revision-append a p.rest)

-- a line, its reply, and the rest of the connection
module _ (lanes : ℕ) (seen seen' : History) (sees : Begins seen seen') (heard : Heard) (text : List ℕ) (answer : IsAnswer lanes seen' heard text) where
  abbrev turn_of : List ℕ → Turn
  turn_of line = record { line = line; heard = heard; seen = seen'; reply = text }

  pub on : (close : Close) (ended : Bool) (history : History) (t line rest back : List ℕ) → Next ended t line rest → IsHeard line heard → is_over heard ≡ false → Begins seen' history
      → Dialogue lanes close ended history (revision seen') rest back → Dialogue lanes close ended history (revision seen) t (text ++ back)
  on close ended history t line rest back next is going later d = record {
    turns = turn_of line ∷ d.turns;
    talks = (rest, back, record { next = next; heard = is; seen = later; recent = begins_revision seen seen' sees; answered = answer; all = refl }, inr (going, d.talks));
  }

  -- the reply to a line with which the connection ends
  pub early : (close : Close) (ended : Bool) (t line rest : List ℕ) → Next ended t line rest → IsHeard line heard → EndsWith close (is_over heard) → Dialogue lanes close ended seen' (revision seen) t text
  early close ended t line rest next is ends = record {
    turns = turn_of line ∷ [];
    talks = (rest, [], record { next = next; heard = is; seen = begins_self seen'; recent = begins_revision seen seen' sees; answered = answer; all = sym (append-nil text) }, inl (ends, refl, refl));
  }

-- turns, one after another
pub turns_none : (lanes : ℕ) (seen : History) (from : List ℕ) → Turns lanes seen seen from from []
turns_none lanes seen from = record { sees = begins_self seen; go = λ close ended history t back later d. d }

pub turns_more : (lanes : ℕ) (seen seen' : History) (from to written piece : List ℕ) → Turns lanes seen seen' from to written → Turns lanes seen seen' (from ++ piece) (to ++ piece) written
turns_more lanes seen seen' from to written piece p = record {
  sees = p.sees;
  go = λ close ended history t back later d. subst (λ (l : List ℕ). Dialogue lanes close ended history (revision seen) l (written ++ back)) (sym (append_assoc from piece t))
      (p.go close ended history (piece ++ t) back later (subst (λ (l : List ℕ). Dialogue lanes close ended history (revision seen') l back) (append_assoc to piece t) d));
}

pub turns_then : (lanes : ℕ) (s1 s2 s3 : History) (a b c w w' : List ℕ) → Turns lanes s1 s2 a b w → Turns lanes s2 s3 b c w' → Turns lanes s1 s3 a c (w ++ w')
turns_then lanes s1 s2 s3 a b c w w' p q = record {
  sees = begins_trans s1 s2 s3 p.sees q.sees;
  go = λ close ended history t back later d. subst (λ (l : List ℕ). Dialogue lanes close ended history (revision s1) (a ++ t) l) (sym (append_assoc w w' back))
      (p.go close ended history t (w' ++ back) (begins_trans s2 s3 history q.sees later) (q.go close ended history t back later d));
}

pub turns_line : (lanes : ℕ) (seen seen' : History) (body : List ℕ) (heard : Heard) (text : List ℕ) → Begins seen seen' → HasNoEnd body → IsHeard (chomped body) heard → IsAnswer lanes seen' heard text → is_over heard ≡ false → Turns lanes seen seen' (body ++ 10 ∷ []) [] text
turns_line lanes seen seen' body heard text sees plain is answer going = record {
  sees = sees;
  go = λ close ended history t back later d. on lanes seen seen' sees heard text answer close ended history ((body ++ 10 ∷ []) ++ t) (chomped body) t back (next_ends ended body t plain) is going later d;
}

-- what was written before and now
pub written_then : (close : Close) (a b c : Option (List ℕ)) (n0 n1 n2 : ℕ) (w text : List ℕ) → Appends a b w → n1 ≡ n0 → HasWritten close text b c n1 n2 → HasWritten close (w ++ text) a c n0 n2
written_then Ended a b c n0 n1 n2 w text p e h = (appends_then a b c w text p h.0, h.1 ∙ e)
written_then Full a b c n0 n1 n2 w text p e h = (appends_then a b c w text p h.0, h.1 ∙ e)
written_then Over a b c n0 n1 n2 w text p e h = (appends_then a b c w text p h.0, h.1 ∙ e)
written_then ReadFault a b c n0 n1 n2 w text p e h = (appends_then a b c w text p h.0, h.1 ∙ e)
written_then WriteFault a b c n0 n1 n2 w text p e h = (record { front = w ++ h.0.front; back = h.0.back; parts = ap (λ (l : List ℕ). w ++ l) h.0.parts ∙ sym (append_assoc w h.0.front h.0.back); grown = appends_then a b c w h.0.front p h.0.grown }, subst (λ (n : ℕ). Rose n n2) e h.1)
