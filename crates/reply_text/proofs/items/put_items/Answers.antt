use Rattle.std.proofs.Common.{◌≡◌, ◌≤◌, ◌<◌, ◌∙◌, ℕ, List, true, [], ◌∷◌, ◌++◌, length, take, drop, map, Ok, ap, sym, refl, arith, append_assoc, append-nil}
use Rattle.ask_specs.specs.Items.{items}
use Rattle.reply_text.specs.Own.{item_size, item_text}
use Rattle.reply_text.specs.Pieces.{more_texts}
use Rattle.reply_text.proofs.Joining.{writes_same}
use Rattle.reply_text.proofs.Texts.{items_end, items_step}
use Rattle.wire_io.proofs.Joins.{join, join_failed, writes_none}
use Rattle.reply_text.proofs.items.put_items.Goals as goal

pub loop-rest-init : goal.loop-rest-init
loop-rest-init g c = record { front = []; written = writes_none c.args.out.now; parts = refl }

pub returns-in_err-put_next_item : goal.returns-in_err-put_next_item
returns-in_err-put_next_item g c =
    let f = item_text c.args.item in
    let size = item_size c.args.item in
    let rest = c.loop-rest.rest.now in
    let i = c.loop-rest.invariant in
    let is : c.size_of-size.result ≡ size = c.size_of-size.ensures.is in
    let octets : c.split_at.result.0.now ≡ take size rest = c.split_at.ensures.front ∙ ap (λ (n : ℕ). take n rest) is in
    let step = items_step f size c.loop-rest.some rest (rw is at c.size_of-size.ensures.some) (rw is at c.loop-rest-test.true) in
    join_failed c.args.out.now c.loop-rest.out c.put_next_item.new.out i.front (more_texts c.loop-rest.some (f (take size rest) ∷ [])) (more_texts true (map f (items size (drop size rest)))) _ _ c.from_residual.result
    i.written (rw octets at c.in_err-put_next_item.ensures) c.from_residual.ensures.0 (i.parts ∙ ap (λ (l : List ℕ). i.front ++ l) step)

pub loop-rest-smaller : goal.loop-rest-smaller
loop-rest-smaller g c = omega (arith, c.split_at.ensures.back_len, c.size_of-size.ensures.some)

pub loop-rest-preserved : goal.loop-rest-preserved
loop-rest-preserved g c =
    let f = item_text c.args.item in
    let size = item_size c.args.item in
    let rest = c.loop-rest.rest.now in
    let i = c.loop-rest.invariant in
    let is : c.size_of-size.result ≡ size = c.size_of-size.ensures.is in
    let octets : c.split_at.result.0.now ≡ take size rest = c.split_at.ensures.front ∙ ap (λ (n : ℕ). take n rest) is in
    let after : c.split_at.result.1.now ≡ drop size rest = c.split_at.ensures.back ∙ ap (λ (n : ℕ). drop n rest) is in
    let here : List ℕ = more_texts c.loop-rest.some (f (take size rest) ∷ []) in
    let step = items_step f size c.loop-rest.some rest (rw is at c.size_of-size.ensures.some) (rw is at c.loop-rest-test.true) in
    record {
      front = i.front ++ here;
      written = join c.args.out.now c.loop-rest.out c.put_next_item.new.out i.front here (i.front ++ here) tt (Ok tt) i.written (rw octets at c.in_ok-put_next_item.ensures) refl;
      parts = i.parts ∙ ap (λ (l : List ℕ). i.front ++ l) step ∙ sym (append_assoc i.front here (more_texts true (map f (items size (drop size rest))))) ∙ ap (λ (l : List ℕ). (i.front ++ here) ++ more_texts true (map f (items size l))) (sym after);
    }

pub returns : goal.returns
returns g c =
    let i = c.loop-rest.invariant in
    let is : c.size_of-size.result ≡ item_size c.args.item = c.size_of-size.ensures.is in
    let short : length c.loop-rest.rest.now < item_size c.args.item = rw is at c.loop-rest-test.false in
    writes_same _ _ _ _ _ i.written (i.parts ∙ ap (λ (l : List ℕ). i.front ++ l) (items_end (item_text c.args.item) (item_size c.args.item) c.loop-rest.some c.loop-rest.rest.now short) ∙ append-nil i.front)
