use Rattle.std.proofs.Common.{◌≡◌, ◌<◌, ◌-◌, ◌++◌, List, length, ℕ, arith, sym, ap, ◌∙◌, append-nil, get_or, length-drop, length-take, drop, take}
use Rattle.ip_prefix.proofs.Joined.{dotted_none, dotted_one, dotted_more, put_more, longer, octet_within}
use Rattle.ip_prefix.proofs.texts.+put_dotted.Goals as goal

pub put_number-requires : goal.put_number-requires
put_number-requires t c = omega (arith, c.requires, c.in-len1.len_at_least, octet_within (get_or c.args.numbers.now 0 0) (c.type_inv.numbers 0).fits)

pub put_number-requires-in-len1-up : goal.put_number-requires-in-len1-up
put_number-requires-in-len1-up t c = omega (arith, c.requires, c.in-len1-up.len_at_least, octet_within (get_or c.args.numbers.now 0 0) (c.type_inv.numbers 0).fits)

pub push-requires : goal.push-requires
push-requires t c =
    omega (arith, c.requires, c.in-len1-up.len_at_least, longer c.args.text.now c.put_number-in-len1-up.new.self _ 3 c.put_number-in-len1-up.ensures (octet_within (get_or c.args.numbers.now 0 0) (c.type_inv.numbers 0).fits))

pub put_dotted-requires : goal.put_dotted-requires
put_dotted-requires t c =
    let rest : length (take (length c.args.numbers.now - 1) (drop 1 c.args.numbers.now)) ≡ length c.args.numbers.now - 1 = omega (arith, length-take (length c.args.numbers.now - 1) (drop 1 c.args.numbers.now), length-drop 1 c.args.numbers.now) in
    let smaller : length (take (length c.args.numbers.now - 1) (drop 1 c.args.numbers.now)) < t = omega (arith, c.decreases, rest, c.in-len1-up.len_at_least) in
    (smaller, omega (arith, c.requires, rest, c.in-len1-up.len_at_least, longer c.args.text.now c.put_number-in-len1-up.new.self _ 3 c.put_number-in-len1-up.ensures (octet_within (get_or c.args.numbers.now 0 0) (c.type_inv.numbers 0).fits), longer c.put_number-in-len1-up.new.self c.push.new.self _ 1 c.push.ensures (omega arith)))

pub returns-in-empty-clause-whole : goal.returns-in-empty-clause-whole
returns-in-empty-clause-whole t c = sym (ap (λ (l : List ℕ). c.args.text.now ++ l) (dotted_none c.args.numbers.now (omega (arith, c.in-empty.len_below))) ∙ append-nil c.args.text.now)

pub returns-in-len1-clause-whole : goal.returns-in-len1-clause-whole
returns-in-len1-clause-whole t c = c.put_number.ensures ∙ ap (λ (l : List ℕ). c.args.text.now ++ l) (sym (dotted_one c.args.numbers.now c.in-len1.len_at_least c.in-len1.len_below))

pub returns-in-len1-clause-short : goal.returns-in-len1-clause-short
returns-in-len1-clause-short t c =
    omega (arith, c.in-len1.len_at_least, longer c.args.text.now c.put_number.new.self _ 3 c.put_number.ensures (octet_within (get_or c.args.numbers.now 0 0) (c.type_inv.numbers 0).fits))

pub returns-in-len1-up-clause-whole : goal.returns-in-len1-up-clause-whole
returns-in-len1-up-clause-whole t c =
    put_more c.args.text.now _ _ _ _ _ _ c.put_number-in-len1-up.ensures c.push.ensures c.put_dotted.ensures.whole
    ∙ ap (λ (l : List ℕ). c.args.text.now ++ l) (sym (dotted_more c.args.numbers.now c.in-len1-up.len_at_least))

pub returns-in-len1-up-clause-short : goal.returns-in-len1-up-clause-short
returns-in-len1-up-clause-short t c =
    let rest : length (take (length c.args.numbers.now - 1) (drop 1 c.args.numbers.now)) ≡ length c.args.numbers.now - 1 = omega (arith, length-take (length c.args.numbers.now - 1) (drop 1 c.args.numbers.now), length-drop 1 c.args.numbers.now) in
    omega (arith, c.put_dotted.ensures.short, rest, c.in-len1-up.len_at_least, longer c.args.text.now c.put_number-in-len1-up.new.self _ 3 c.put_number-in-len1-up.ensures (octet_within (get_or c.args.numbers.now 0 0) (c.type_inv.numbers 0).fits), longer c.put_number-in-len1-up.new.self c.push.new.self _ 1 c.push.ensures (omega arith))
