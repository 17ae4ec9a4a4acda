use Rattle.std.proofs.Common.{◌≡◌, ℕ, List, ◌≤◌, ◌+◌, length, arith, ◌∷◌, [], ◌++◌, sym, ap, ◌∙◌, subst, append_assoc}
use Rattle.bmp_specs.specs.AddressText.{address_text}
use Rattle.bmp_specs.specs.NumberText.{number_text}
use Rattle.bmp_specs.specs.PrefixText.{prefix_text, IsPrefixText}
use Rattle.ip_prefix.proofs.Joined.{octet_within, longer}
use Rattle.ip_prefix.proofs.ReadsBack.{prefix_back}
use Rattle.ip_prefix.proofs.prefixes.Prefix.text.Goals as goal

pub put_number-requires : goal.put_number-requires
put_number-requires c =
    let slash : length c.push.new.self ≤ length c.text-text.result + 1 = longer c.text-text.result c.push.new.self (47 ∷ []) 1 c.push.ensures (omega arith) in
    omega (arith, slash, c.text-text.ensures.short, octet_within c.bits.result c.bits.type_inv)

pub returns-clause-read_back : goal.returns-clause-read_back
returns-clause-read_back c =
    let whole : c.put_number.new.self ≡ prefix_text c.args.self.now =
    c.put_number.ensures ∙ ap (λ (l : List ℕ). l ++ number_text c.bits.result) (c.push.ensures ∙ ap (λ (l : List ℕ). l ++ (47 ∷ [])) (c.text-text.ensures.whole ∙ ap address_text c.addr.ensures))
    ∙ append_assoc (address_text c.args.self.now.address) (47 ∷ []) (number_text c.bits.result) ∙ ap (λ (n : ℕ). address_text c.args.self.now.address ++ (47 ∷ number_text n)) c.bits.ensures.same in
    subst (λ (l : List ℕ). IsPrefixText l c.args.self.now) (sym whole) (prefix_back c.args.self.now c.bits.ensures.valid)
