use Rattle.std.proofs.Common.{◌≡◌, ◌++◌, ◌∷◌, [], get_or, take, sym, subst, rules}
use Rattle.std.proofs.lemmas.List.{take_more}
use Rattle.route_runs.specs.Rows.{sets_of}
use Rattle.route_runs.specs.Gathering.{gathered, IsRenamed}
use Rattle.route_runs.proofs.Renaming.{renamed_more}
use Rattle.route_runs.proofs.tidy.all_renamed.Goals as goal

pub loop-at-preserved : goal.loop-at-preserved
loop-at-preserved g c =
    let old = sets_of c.args.packs.now in
    let before = gathered c.loop-at.out.packs.items c.loop-at.out.now.items in
    let new = gathered c.next_handle.new.out.packs.items c.next_handle.new.out.now.items in
    let items : c.push.new.self.items ≡ c.loop-at.copy.items ++ c.in_ok-handle.handle ∷ [] = search rules in
    let r = renamed_more old before new (take c.loop-at.at c.args.handles.now) c.loop-at.copy.items (get_or c.args.handles.now c.loop-at.at 0) c.in_ok-handle.handle c.loop-at.invariant.so_far c.in_ok-handle.ensures.keeps c.in_ok-handle.ensures.handle c.in_ok-handle.ensures.names in
    record {
      so_far = subst (λ l. IsRenamed old l new c.push.new.self.items) (sym (take_more c.args.handles.now c.loop-at.at 0 c.loop-at-test.true)) (subst (λ l. IsRenamed old (take c.loop-at.at c.args.handles.now ++ get_or c.args.handles.now c.loop-at.at 0 ∷ []) new l) (sym items) r);
      valid = c.in_ok-handle.ensures.handle;
      same = c.in_ok-handle.ensures.names;
    }
