use Rattle.std.proofs.Common.{◌≡◌, ℕ, List, rules, sym, subst}
use Rattle.bmp_specs.specs.AddressText.{address_text, IsAddressText}
use Rattle.ip_prefix.proofs.ReadsBack.{address_back}
use Rattle.ip_prefix.proofs.address.Addr.text.Goals as goal

pub returns-in-V4-clause-read_back : goal.returns-in-V4-clause-read_back
returns-in-V4-clause-read_back c =
    let whole : c.put_dotted.new.text ≡ address_text c.args.self.now = search rules in
    subst (λ (l : List ℕ). IsAddressText l c.args.self.now) (sym whole) (address_back c.args.self.now c.octets-octets.ensures.valid)

pub returns-in-V6-clause-read_back : goal.returns-in-V6-clause-read_back
returns-in-V6-clause-read_back c =
    let whole : c.put_shortened.new.text ≡ address_text c.args.self.now = search rules in
    subst (λ (l : List ℕ). IsAddressText l c.args.self.now) (sym whole) (address_back c.args.self.now c.octets-octets.ensures.valid)
