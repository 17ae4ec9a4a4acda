use Rattle.std.proofs.Common.{◌≡◌, ◌+◌, ◌<◌, ◌≤◌, ◌/◌, ◌%◌, ◌^◌, ◌++◌, List, length, ℕ, arith, sym, ap, ◌∙◌, append_assoc, length-append}
use Rattle.bmp_specs.specs.AddressText.{group_text}
use Rattle.ip_prefix.proofs.Digits.{group_step, group_digit}
use Rattle.ip_prefix.proofs.texts.+put_group.Goals as goal

-- one digit more
step_length : (n : ℕ) → 16 ≤ n → n < 2 ^ 16 → length (group_text n) ≡ length (group_text (n / 16)) + 1
step_length n more fits =
    ap length (group_step n more fits) ∙ length-append (group_text (n / 16)) (group_text (n % 16)) ∙ ap (λ (k : ℕ). length (group_text (n / 16)) + k) (group_digit (n % 16) (omega arith))

pub put_group-requires : goal.put_group-requires
put_group-requires t c =
    (omega (arith, c.decreases, c.if-group-lt16.false), omega (arith, c.requires, step_length c.args.group c.if-group-lt16.false c.ranges.group.fits))

pub push-requires-else-group-lt16 : goal.push-requires-else-group-lt16
push-requires-else-group-lt16 t c =
    omega (arith, c.requires, ap length c.put_group.ensures, length-append c.args.text.now (group_text (c.args.group / 16)), step_length c.args.group c.if-group-lt16.false c.ranges.group.fits)

pub returns-else-group-lt16 : goal.returns-else-group-lt16
returns-else-group-lt16 t c =
    c.push-else-group-lt16.ensures ∙ ap (λ (l : List ℕ). c.put_group.new.text ++ l) c.hex_digit-else-group-lt16.ensures ∙ ap (λ (l : List ℕ). l ++ group_text (c.args.group % 16)) c.put_group.ensures
    ∙ append_assoc c.args.text.now (group_text (c.args.group / 16)) (group_text (c.args.group % 16)) ∙ ap (λ (l : List ℕ). c.args.text.now ++ l) (sym (group_step c.args.group c.if-group-lt16.false c.ranges.group.fits))
