-- A reply that went through a buffer.
use Rattle.std.proofs.Common.{ℕ, List, Option, Result}
use Rattle.std.specs.Io.KnownBytes.{append_known}
use Rattle.wire_io.specs.declared.sink.Failed.{Failed}
use Rattle.wire_io.specs.Aside.{Aside, laid_over}
use Rattle.wire_io.specs.Buffer.{BufferValue, GoesThrough}
use Rattle.query_eval.specs.Replies.{PutsReply}

-- whatever it is a reply on
pub reply_through : {O E : Type 0} (faults : O → ℕ) (told : O → Option (List ℕ)) (aside : O → Aside) (Of : E → Type 0) (IsReply : E → List ℕ → Type 0) (old new : O) (r : Result (Unit {0}) Failed)
    → GoesThrough faults told aside (λ a s b. (e : E) → Of e → PutsReply (λ (p : BufferValue O). faults p.below) (λ (p : BufferValue O). append_known (told p.below) p.held) (λ (p : BufferValue O). laid_over (told p.first) (aside p.below)) (IsReply e) a s b) old r new
    → (e : E) → Of e → PutsReply faults told aside (IsReply e) old r new
reply_through faults told aside Of IsReply old new r through e of =
    let left = through.left e of in
    record { text = left.text; is_reply = left.is_reply; written = through.written left.text left.written }
