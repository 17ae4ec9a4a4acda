use Rattle.std.proofs.Common.{◌≡◌, List, ℕ, [], ◌∷◌, ap, get_or, suc, map, take, drop, Ok, add-one, arith}
use Rattle.bmp_specs.specs.PeerText.{hex_text}
use Rattle.bmp_specs.specs.Values.{OtherValue}
use Rattle.reply_text.specs.Pieces.{behind}
use Rattle.reply_text.proofs.Pieces.{behind_next, behind_split}
use Rattle.wire_io.proofs.Joins.{join, join_failed, writes_none}
use Rattle.reply_text.proofs.lists.put_further_flags.Goals as goal

pub loop-other-init : goal.loop-other-init
loop-other-init g c = writes_none c.args.out.now

pub returns-in_err-put_flag : goal.returns-in_err-put_flag
returns-in_err-put_flag g c =
    let is : hex_text (c.other-item.result.flags ∷ []) ≡ hex_text ((get_or c.args.others.now c.loop-other.other-index c.other-item.result).flags ∷ []) = ap (λ (v : OtherValue). hex_text (v.flags ∷ [])) c.other-item.is in
    join_failed c.args.out.now c.loop-other.out c.put_flag.new.out (behind 44 (map (λ (other : OtherValue). hex_text (other.flags ∷ [])) (take c.loop-other.other-index c.args.others.now))) _ (behind 44 (map (λ (other : OtherValue). hex_text (other.flags ∷ [])) (drop (suc c.loop-other.other-index) c.args.others.now))) (behind 44 (map (λ (other : OtherValue). hex_text (other.flags ∷ [])) c.args.others.now)) _ c.from_residual.result
    c.loop-other.invariant (rw is at c.in_err-put_flag.ensures) c.from_residual.ensures.0 (behind_split 44 (λ (other : OtherValue). hex_text (other.flags ∷ [])) c.args.others.now c.loop-other.other-index c.other-item.result (omega arith))

pub loop-other-preserved : goal.loop-other-preserved
loop-other-preserved g c =
    let is : hex_text (c.other-item.result.flags ∷ []) ≡ hex_text ((get_or c.args.others.now c.loop-other.other-index c.other-item.result).flags ∷ []) = ap (λ (v : OtherValue). hex_text (v.flags ∷ [])) c.other-item.is in
    join c.args.out.now c.loop-other.out c.put_flag.new.out (behind 44 (map (λ (other : OtherValue). hex_text (other.flags ∷ [])) (take c.loop-other.other-index c.args.others.now))) _ _ tt (Ok tt) c.loop-other.invariant (rw is at c.in_ok-put_flag.ensures)
    (rw add-one (behind_next 44 (λ (other : OtherValue). hex_text (other.flags ∷ [])) c.args.others.now c.loop-other.other-index c.other-item.result (omega arith)))
