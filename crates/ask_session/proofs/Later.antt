-- What was answered on a front of a history was answered on the history.
use Rattle.std.proofs.Common.{◌≡◌, ◌⊎◌, inl, inr, ℕ, Bool, false, List, [], ◌∷◌, Option}
use Rattle.cut_publisher.specs.History.{Begins, revision}
use Rattle.cut_publisher.proofs.Prefixes.{begins_trans}
use Rattle.ask_session.specs.declared.close.Close.{Close}
use Rattle.ask_session.specs.declared.close.Close.TheVariants.{ReadFault}
use Rattle.ask_session.specs.Replies.{History, is_over}
use Rattle.ask_session.specs.Dialogue.{Turn, Talks, Dialogue}
use Rattle.ask_session.specs.Connection.{IsReadNoFurther}

either : (P Q R : Type 0) → (Q → R) → P ⊎ Q → P ⊎ R
either P Q R f (inl p) = inl p
either P Q R f (inr q) = inr (f q)

talks_later : (lanes : ℕ) (close : Close) (ended : Bool) (h k : History) → Begins h k → (turns : List Turn) (least : ℕ) (t out : List ℕ) → Talks lanes close ended h least t turns out → Talks lanes close ended k least t turns out
talks_later lanes close ended h k later [] least t out p = p
talks_later lanes close ended h k later (turn ∷ turns) least t out p = (
  p.0,
  p.1,
  record { next = p.2.next; heard = p.2.heard; seen = begins_trans turn.seen h k p.2.seen later; recent = p.2.recent; answered = p.2.answered; all = p.2.all },
  either _ _ _ (λ (more : (is_over turn.heard ≡ false) × Talks lanes close ended h (revision turn.seen) p.0 turns p.1). (more.0, talks_later lanes close ended h k later turns (revision turn.seen) p.0 p.1 more.1)) p.3,
)

pub dialogue_later : (lanes : ℕ) (close : Close) (ended : Bool) (h k : History) (least : ℕ) (t out : List ℕ) → Begins h k → Dialogue lanes close ended h least t out → Dialogue lanes close ended k least t out
dialogue_later lanes close ended h k least t out later d = record { turns = d.turns; talks = talks_later lanes close ended h k later d.turns least t out d.talks }

-- and so was what was answered before the last read
pub no_further_later : (lanes : ℕ) (h k : History) (least : ℕ) (bytes : List ℕ) (told told' : Option (List ℕ)) → Begins h k → IsReadNoFurther lanes h least bytes told told' → IsReadNoFurther lanes k least bytes told told'
no_further_later lanes h k least bytes told told' later n = record { front = n.front; piece = n.piece; split = n.split; short = n.short; replies = n.replies; going = dialogue_later lanes ReadFault false h k least n.front n.replies later n.going; written = n.written }
