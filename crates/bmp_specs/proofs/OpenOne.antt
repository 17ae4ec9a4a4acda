-- An OPEN message has one value at most, and none begins another.
use Rattle.std.proofs.Common.{◌≡◌, ℕ, Bool, true, false, List, [], ◌++◌, length, drop, get_or, refl, sym, ap, subst, ◌∙◌, arith}
use Rattle.std.specs.Prelude.{◌==◌, MatchBool}
use Rattle.std.specs.List.{flat_map}
use Rattle.bmp_specs.specs.Parts.{IsCode, AreParts}
use Rattle.bmp_specs.specs.Coded.{IsCoded}
use Rattle.bmp_specs.specs.Open.{IsParameter, HasParameters, Announces, IsOpen, IsOpenMessage, capabilities_type, has_extended_length}
use Rattle.bmp_specs.specs.Values.{CodedValue, OpenValue}
use Rattle.bmp_specs.proofs.PartsRead.{AreParts-one}
use Rattle.bmp_specs.proofs.CodedCode.{coded_code}
use Rattle.bmp_specs.proofs.BgpMessageCode.{message_code}

-- the capabilities of one value are one list
capabilities_one : (capable : Bool) (value : List ℕ) (cs ds : List CodedValue) → MatchBool capable (AreParts IsCoded value cs) (cs ≡ []) → MatchBool capable (AreParts IsCoded value ds) (ds ≡ []) → cs ≡ ds
capabilities_one true value cs ds p q = AreParts-one IsCoded coded_code value cs ds p q
capabilities_one false value cs ds p q = p ∙ sym q

parameter_one : (a b x y : List ℕ) (cs ds : List CodedValue) → IsParameter a cs → IsParameter b ds → a ++ x ≡ b ++ y → (a ≡ b) × (cs ≡ ds)
parameter_one a b x y cs ds p q e =
    let same = coded_code.one a b x y p.parameter q.parameter p.is q.is e in (
      same.0,
      capabilities_one (p.parameter.code == capabilities_type) p.parameter.value cs ds p.capabilities
          (subst (λ (v : CodedValue). MatchBool (v.code == capabilities_type) (AreParts IsCoded v.value ds) (ds ≡ [])) (sym same.1) q.capabilities),
    )

pub parameter_code : IsCode IsParameter
parameter_code = record { some = λ v p. omega (arith, p.is.header); one = parameter_one }

same_open : (o p : OpenValue) → o.version ≡ p.version → o.my_as ≡ p.my_as → o.hold ≡ p.hold → o.identifier ≡ p.identifier
    → o.four ≡ p.four → o.families ≡ p.families → o.paths ≡ p.paths → o.extended ≡ p.extended → o ≡ p
same_open o p version my_as hold identifier four families paths extended = λ i. record {
  version = version i;
  my_as = my_as i;
  hold = hold i;
  identifier = identifier i;
  four = four i;
  families = families i;
  paths = paths i;
  extended = extended i;
}

-- what the capabilities announce is one
record Same (o p : OpenValue) : Type 0 where
  four : o.four ≡ p.four
  families : o.families ≡ p.families
  paths : o.paths ≡ p.paths
  extended : o.extended ≡ p.extended

announces_one : (cs ds : List CodedValue) (o p : OpenValue) → cs ≡ ds → Announces cs o → Announces ds p → o.extended ≡ p.extended → Same o p
announces_one cs ds o p e a b x =
    let c = subst (λ (l : List CodedValue). Announces l p) (sym e) b in
    record { four = a.four_is ∙ sym c.four_is; families = a.families_are ∙ sym c.families_are; paths = a.paths_are ∙ sym c.paths_are; extended = x }

lists_one : (rest : List ℕ) (o p : OpenValue) (h : HasParameters rest o) (k : HasParameters rest p) → h.lists ≡ k.lists
lists_one rest o p h k = AreParts-one IsParameter parameter_code rest h.lists k.lists h.are k.are

parameters_one : (extended : Bool) (stated : ℕ) (rest : List ℕ) (o p : OpenValue)
    → MatchBool extended ((o.extended ≡ true) × Announces [] o) ((o.extended ≡ false) × (length rest ≡ stated) × HasParameters rest o)
    → MatchBool extended ((p.extended ≡ true) × Announces [] p) ((p.extended ≡ false) × (length rest ≡ stated) × HasParameters rest p)
    → Same o p
parameters_one true stated rest o p a b = announces_one [] [] o p refl a.1 b.1 (a.0 ∙ sym b.0)
parameters_one false stated rest o p a b =
    announces_one (flat_map (λ cs. cs) a.2.lists) (flat_map (λ cs. cs) b.2.lists) o p (ap (λ (l : List (List CodedValue)). flat_map (λ cs. cs) l) (lists_one rest o p a.2 b.2)) a.2.announces b.2.announces (a.0 ∙ sym b.0)

pub IsOpen-one : (body : List ℕ) (o p : OpenValue) → IsOpen body o → IsOpen body p → o ≡ p
IsOpen-one body o p a b =
    let same = parameters_one (has_extended_length (get_or body 9 0) (drop 10 body)) (get_or body 9 0) (drop 10 body) o p a.parameters b.parameters in
    same_open o p (sym a.version_is ∙ b.version_is) (sym a.my_as_is ∙ b.my_as_is) (sym a.hold_is ∙ b.hold_is) (sym a.identifier_is ∙ b.identifier_is) same.four same.families same.paths same.extended

pub open_message_code : IsCode IsOpenMessage
open_message_code = record {
  some = λ o p. omega (arith, p.is.header);
  one = λ a b x y o p h k e.
      let same = message_code.one a b x y h.message k.message h.is k.is e in
      let bodies : h.message.body ≡ k.message.body = ap (λ m. m.body) same.1 in
      (same.0, IsOpen-one k.message.body o p (subst (λ (l : List ℕ). IsOpen l o) bodies h.body_is) k.body_is);
}
