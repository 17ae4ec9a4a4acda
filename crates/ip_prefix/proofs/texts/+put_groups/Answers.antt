use Rattle.std.proofs.Common.{◌≡◌, ◌<◌, ◌-◌, ◌++◌, List, length, ℕ, arith, sym, ap, ◌∙◌, append-nil, get_or, length-drop, length-take, drop, take}
use Rattle.ip_prefix.proofs.Joined.{groups_none, groups_one, groups_more, put_more, longer}
use Rattle.ip_prefix.proofs.Digits.{group_within}
use Rattle.ip_prefix.proofs.texts.+put_groups.Goals as goal

pub put_group-requires : goal.put_group-requires
put_group-requires t c = omega (arith, c.requires, c.in-len1.len_at_least, group_within (get_or c.args.groups.now 0 0) (c.type_inv.groups 0).fits)

pub put_group-requires-in-len1-up : goal.put_group-requires-in-len1-up
put_group-requires-in-len1-up t c = omega (arith, c.requires, c.in-len1-up.len_at_least, group_within (get_or c.args.groups.now 0 0) (c.type_inv.groups 0).fits)

pub push-requires : goal.push-requires
push-requires t c =
    omega (arith, c.requires, c.in-len1-up.len_at_least, longer c.args.text.now c.put_group-in-len1-up.new.text _ 4 c.put_group-in-len1-up.ensures (group_within (get_or c.args.groups.now 0 0) (c.type_inv.groups 0).fits))

pub put_groups-requires : goal.put_groups-requires
put_groups-requires t c =
    let rest : length (take (length c.args.groups.now - 1) (drop 1 c.args.groups.now)) ≡ length c.args.groups.now - 1 = omega (arith, length-take (length c.args.groups.now - 1) (drop 1 c.args.groups.now), length-drop 1 c.args.groups.now) in
    let smaller : length (take (length c.args.groups.now - 1) (drop 1 c.args.groups.now)) < t = omega (arith, c.decreases, rest, c.in-len1-up.len_at_least) in
    (smaller, omega (arith, c.requires, rest, c.in-len1-up.len_at_least, longer c.args.text.now c.put_group-in-len1-up.new.text _ 4 c.put_group-in-len1-up.ensures (group_within (get_or c.args.groups.now 0 0) (c.type_inv.groups 0).fits), longer c.put_group-in-len1-up.new.text c.push.new.self _ 1 c.push.ensures (omega arith)))

pub returns-in-empty-clause-whole : goal.returns-in-empty-clause-whole
returns-in-empty-clause-whole t c = sym (ap (λ (l : List ℕ). c.args.text.now ++ l) (groups_none c.args.groups.now (omega (arith, c.in-empty.len_below))) ∙ append-nil c.args.text.now)

pub returns-in-len1-clause-whole : goal.returns-in-len1-clause-whole
returns-in-len1-clause-whole t c = c.put_group.ensures ∙ ap (λ (l : List ℕ). c.args.text.now ++ l) (sym (groups_one c.args.groups.now c.in-len1.len_at_least c.in-len1.len_below))

pub returns-in-len1-clause-short : goal.returns-in-len1-clause-short
returns-in-len1-clause-short t c =
    omega (arith, c.in-len1.len_at_least, longer c.args.text.now c.put_group.new.text _ 4 c.put_group.ensures (group_within (get_or c.args.groups.now 0 0) (c.type_inv.groups 0).fits))

pub returns-in-len1-up-clause-whole : goal.returns-in-len1-up-clause-whole
returns-in-len1-up-clause-whole t c =
    put_more c.args.text.now _ _ _ _ _ _ c.put_group-in-len1-up.ensures c.push.ensures c.put_groups.ensures.whole
    ∙ ap (λ (l : List ℕ). c.args.text.now ++ l) (sym (groups_more c.args.groups.now c.in-len1-up.len_at_least))

pub returns-in-len1-up-clause-short : goal.returns-in-len1-up-clause-short
returns-in-len1-up-clause-short t c =
    let rest : length (take (length c.args.groups.now - 1) (drop 1 c.args.groups.now)) ≡ length c.args.groups.now - 1 = omega (arith, length-take (length c.args.groups.now - 1) (drop 1 c.args.groups.now), length-drop 1 c.args.groups.now) in
    omega (arith, c.put_groups.ensures.short, rest, c.in-len1-up.len_at_least, longer c.args.text.now c.put_group-in-len1-up.new.text _ 4 c.put_group-in-len1-up.ensures (group_within (get_or c.args.groups.now 0 0) (c.type_inv.groups 0).fits), longer c.put_group-in-len1-up.new.text c.push.new.self _ 1 c.push.ensures (omega arith))
