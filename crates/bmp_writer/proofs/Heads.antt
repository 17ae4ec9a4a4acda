-- A message that has a meaning is read with the head that its bytes tell.
use Rattle.std.proofs.Common.{◌≡◌, ℕ, List, length, refl, sym, ap, ◌∙◌}
use Rattle.bmp_specs.specs.Frame.{IsFrame}
use Rattle.bmp_specs.specs.MessageBody.{IsMessage, ReadingState}
use Rattle.bmp_specs.specs.MessageEffects.{effects_of}
use Rattle.bmp_specs.specs.Values.{EffectValue, MessageValue, message}
use Rattle.bmp_specs.proofs.HasHead.{strict_head}
use Rattle.bmp_writer.specs.Written.{IsReadAs}
use Rattle.bmp_writer.proofs.Frames.{frame_length}

pub read_as : (state next : ReadingState) (kind : ℕ) (bytes body : List ℕ) (m : MessageValue) (effects : List EffectValue) → IsFrame bytes kind body → IsMessage state kind body m next → effects_of m ≡ effects
    → IsReadAs state kind (length bytes) body effects next
read_as state next kind bytes body m effects frame means same =
    let (head, is) = strict_head state kind body m next means in
    record {
      head = head;
      kind_is = is.kind_is;
      size_is = is.size_is ∙ sym (frame_length bytes kind body frame);
      is = record { value = m; means = means; head = head; is_head = is; entry_is = ap (message head) (sym same) };
    }
