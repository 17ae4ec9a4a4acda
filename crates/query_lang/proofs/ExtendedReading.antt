-- The text of an extended community in words, part by part.
use Rattle.std.proofs.Common.{◌≡◌, ◌⊎◌, inl, inr, ℕ, ◌+◌, ◌*◌, ◌/◌, ◌%◌, ◌<◌, ◌≤◌, Bool, List, [], ◌∷◌, ◌++◌, All, Contains, length, drop, get_or, Some, None, unwrap_or, if◌then◌else◌, refl, sym, ap, subst, ◌∙◌, arith, lt-ltb}
use Rattle.std.specs.Char.{digit_value}
use Rattle.std.specs.Option.{option_and_then, option_map}
use Rattle.std.proofs.lemmas.List.Elements.{All-from_recursion}
use Rattle.byteorder.specs.Endian.{big_number}
use Rattle.bmp_specs.specs.declared.wire.Family.{Family}
use Rattle.bmp_specs.specs.declared.wire.Family.TheVariants.{V4, V6}
use Rattle.bmp_specs.specs.AddressText.{IsAddressText, IsTextIn, dot, dotted}
use Rattle.bmp_specs.specs.NumberText.{number_text, most_number, IsNumberText, IsNumberUpTo}
use Rattle.bmp_specs.specs.PeerText.{hex_text}
use Rattle.bmp_specs.specs.Prefix.{padded}
use Rattle.bmp_specs.specs.Values.{AddressValue}
use Rattle.ask_specs.specs.Traits.{extended}
use Rattle.ask_specs.specs.TraitText.{IsCommunityText, administrators, colon, extended_text, extended_word}
use Rattle.ask_specs.proofs.CommunityOne.{AreAdmins, Worded, admin_lacks, back_four_fits, back_pair_fits, dotted_has, eight, four_fits, four_value, of_address, of_four, of_two, pair_fits, pair_value, view_of, word_lacks, word_one}
use Rattle.ask_specs.proofs.TraitOne.{Octets, hex_lacks, number_one, octets_all}
use Rattle.ask_specs.proofs.WordLaws.{Lacks, cut_one, lacks_from, lacks_middle, number_lacks}
use Rattle.query_lang.specs.CommunityTexts.{named, worded}

-- a route target or a route origin
abbrev pub IsLow : ℕ → Type 0
IsLow low = (low ≡ 2) ⊎ (low ≡ 3)

abbrev word_of : ℕ → List ℕ
word_of low = unwrap_or (extended_word low) []

word_is : (low : ℕ) → IsLow low → extended_word low ≡ Some (word_of low)
word_is low (inl e) = subst (λ (n : ℕ). extended_word n ≡ Some (word_of n)) (sym e) refl
word_is low (inr e) = subst (λ (n : ℕ). extended_word n ≡ Some (word_of n)) (sym e) refl

word_free : (low : ℕ) → IsLow low → Lacks colon (word_of low)
word_free low is = word_lacks low colon (word_of low) (λ x. omega (arith, x)) (λ x. omega (arith, x)) (λ x. omega (arith, x)) (word_is low is)

-- the text is that of a community in words
pub record Read (low : ℕ) (rest octets : List ℕ) : Type 0 where
  pub h : ℕ
  pub a : ℕ
  pub b : ℕ
  pub c : ℕ
  pub d : ℕ
  pub e : ℕ
  pub f : ℕ
  pub os : Octets (h ∷ low ∷ a ∷ b ∷ c ∷ d ∷ e ∷ f ∷ [])
  pub admin : List ℕ
  pub local : List ℕ
  pub are : AreAdmins h a b c d e f admin local
  pub spelled : rest ≡ admin ++ (colon ∷ local)

pub read : (low : ℕ) (rest octets : List ℕ) → IsLow low → IsCommunityText (worded low rest) (extended octets) → Read low rest octets
read low rest octets is p =
    let u = eight octets p.0 in
    let os : Octets (u.h ∷ u.l ∷ u.a ∷ u.b ∷ u.c ∷ u.d ∷ u.e ∷ u.f ∷ []) = subst Octets u.is (octets_all octets p.1) in
    by_view u.h u.l u.a u.b u.c u.d u.e u.f os (view_of (worded low rest) u.h u.l u.a u.b u.c u.d u.e u.f
    (elim p.2 [ inl same ↦ inl (same ∙ ap (λ (o : List ℕ). extended_text o) u.is) | inr same ↦ inr (same ∙ ap hex_text u.is) ]))
  where
    by_view : (h l a b c d e f : ℕ) → Octets (h ∷ l ∷ a ∷ b ∷ c ∷ d ∷ e ∷ f ∷ []) → (worded low rest ≡ hex_text (h ∷ l ∷ a ∷ b ∷ c ∷ d ∷ e ∷ f ∷ [])) ⊎ Worded h l a b c d e f (worded low rest) → Read low rest octets
    by_view h l a b c d e f os (inl hex) = absurd (lacks_middle colon (word_of low) rest (subst (Lacks colon) (sym hex) (hex_lacks colon (omega arith) (h ∷ l ∷ a ∷ b ∷ c ∷ d ∷ e ∷ f ∷ []) os)))
    by_view h l a b c d e f os (inr w) =
        let cut = cut_one colon (word_of low) w.word rest w.back (word_free low is) (word_lacks l colon w.word (λ x. omega (arith, x)) (λ x. omega (arith, x)) (λ x. omega (arith, x)) w.word_is) w.spelled in
        let same : l ≡ low = word_one l low w.word w.word_is (word_is low is ∙ ap (λ (t : List ℕ). Some t) cut.0) in
        record {
          h = h;
          a = a;
          b = b;
          c = c;
          d = d;
          e = e;
          f = f;
          os = subst (λ (n : ℕ). Octets (h ∷ n ∷ a ∷ b ∷ c ∷ d ∷ e ∷ f ∷ [])) same os;
          admin = w.admins.admin;
          local = w.admins.local;
          are = w.admins.are;
          spelled = cut.1 ∙ w.admins.spelled;
        }

-- by its two administrators, of which the first has no colon
admin_free : (low : ℕ) (rest octets : List ℕ) (r : Read low rest octets) → Lacks colon r.admin
admin_free low rest octets r = admin_lacks r.h low r.a r.b r.c r.d r.e r.f r.os r.admin r.local r.are

pub parts : (low : ℕ) (admin local octets : List ℕ) → Lacks colon admin → (r : Read low (admin ++ (colon ∷ local)) octets) → AreAdmins r.h r.a r.b r.c r.d r.e r.f admin local
parts low admin local octets free r =
    let cut = cut_one colon admin r.admin local r.local free (admin_free low (admin ++ (colon ∷ local)) octets r) r.spelled in
    subst (λ (x : List ℕ). AreAdmins r.h r.a r.b r.c r.d r.e r.f x local) (sym cut.0) (subst (λ (y : List ℕ). AreAdmins r.h r.a r.b r.c r.d r.e r.f r.admin y) (sym cut.1) r.are)

-- without a second colon there is none
pub no_administrators : (low : ℕ) (rest octets : List ℕ) → IsLow low → (Contains rest colon → ⊥) → IsCommunityText (worded low rest) (extended octets) → ⊥
no_administrators low rest octets is free p =
    let r = read low rest octets is p in
    lacks_middle colon r.admin r.local (subst (Lacks colon) r.spelled (lacks_from colon rest free))

-- ---- an AS and a number
as_lacks : (asn c : ℕ) → 10 ≤ digit_value c → asn ≤ most_number → Lacks c (number_text asn)
as_lacks asn c other fits = number_lacks c asn other (omega (arith, fits))

no_dots : (asn a b c d : ℕ) → asn ≤ most_number → number_text asn ≡ dotted (a ∷ b ∷ c ∷ d ∷ []) → ⊥
no_dots asn a b c d fits is = dotted_has a b (c ∷ d ∷ []) (subst (Lacks dot) is (as_lacks asn dot (omega arith) fits))

pub of_two_read : (low asn : ℕ) (local octets : List ℕ) → IsLow low → asn < 65536 → ((n : ℕ) → IsNumberText local n → ⊥) → IsCommunityText (named low (number_text asn) local) (extended octets) → ⊥
of_two_read low asn local octets is small none p =
    let r = read low (number_text asn ++ (colon ∷ local)) octets is p in
    go r.h r.a r.b r.c r.d r.e r.f r.os (parts low (number_text asn) local octets (as_lacks asn colon (omega arith) (omega (arith, small))) r)
  where
    go : (h a b c d e f : ℕ) → Octets (h ∷ low ∷ a ∷ b ∷ c ∷ d ∷ e ∷ f ∷ []) → AreAdmins h a b c d e f (number_text asn) local → ⊥
    go h a b c d e f os (of_two hi at to) = none (big_number 4 (c ∷ d ∷ e ∷ f ∷ [])) (record { within = back_four_fits h low a b c d e f os; spelled = to })
    go h a b c d e f os (of_address hi at to) = no_dots asn a b c d (omega (arith, small)) at
    go h a b c d e f os (of_four hi big at to) =
        let fits = four_fits h low a b c d e f os in
        let same = number_one asn (big_number 4 (a ∷ b ∷ c ∷ d ∷ e ∷ f ∷ [])) (omega (arith, small)) (omega (arith, fits)) at in
        omega (arith, small, big, same)

pub of_four_read : (low asn : ℕ) (local octets : List ℕ) → IsLow low → 65536 ≤ asn → asn ≤ most_number → ((n : ℕ) → IsNumberUpTo 65535 local n → ⊥) → IsCommunityText (named low (number_text asn) local) (extended octets) → ⊥
of_four_read low asn local octets is wide fits none p =
    let r = read low (number_text asn ++ (colon ∷ local)) octets is p in
    go r.h r.a r.b r.c r.d r.e r.f r.os (parts low (number_text asn) local octets (as_lacks asn colon (omega arith) fits) r)
  where
    go : (h a b c d e f : ℕ) → Octets (h ∷ low ∷ a ∷ b ∷ c ∷ d ∷ e ∷ f ∷ []) → AreAdmins h a b c d e f (number_text asn) local → ⊥
    go h a b c d e f os (of_two hi at to) =
        let two = pair_fits h low a b c d e f os in
        let same = number_one asn (big_number 2 (a ∷ b ∷ c ∷ d ∷ e ∷ f ∷ [])) (omega (arith, fits)) (omega (arith, two)) at in
        omega (arith, wide, two, same)
    go h a b c d e f os (of_address hi at to) = no_dots asn a b c d fits at
    go h a b c d e f os (of_four hi big at to) = let two = back_pair_fits h low a b c d e f os in none (big_number 2 (e ∷ f ∷ [])) (record { within = omega (arith, two); spelled = to })

-- ---- an address and a number
abbrev v4_value : ℕ → ℕ → ℕ → ℕ → AddressValue
v4_value a b c d = record { family = V4; octets = padded (a ∷ b ∷ c ∷ d ∷ []) }

is_v4 : (h low a b c d e f : ℕ) (admin : List ℕ) → Octets (h ∷ low ∷ a ∷ b ∷ c ∷ d ∷ e ∷ f ∷ []) → admin ≡ dotted (a ∷ b ∷ c ∷ d ∷ []) → IsAddressText admin (v4_value a b c d)
is_v4 h low a b c d e f admin os is = (a ∷ b ∷ c ∷ d ∷ [], record { four = refl; within = All-from_recursion (λ (n : ℕ). n < 256) (a ∷ b ∷ c ∷ d ∷ []) (os.1.1.0, (os.1.1.1.0, (os.1.1.1.1.0, (os.1.1.1.1.1.0, tt)))); spelled = is }, refl)

pub of_address_read : (low : ℕ) (admin local octets : List ℕ) → IsLow low → (Contains admin colon → ⊥) → ((n : ℕ) → IsNumberText admin n → ⊥) → ((v : AddressValue) → v.family ≡ V4 → IsAddressText admin v → (n : ℕ) → IsNumberUpTo 65535 local n → ⊥)
    → IsCommunityText (named low admin local) (extended octets) → ⊥
of_address_read low admin local octets is free no_number none p =
    let r = read low (admin ++ (colon ∷ local)) octets is p in
    go r.h r.a r.b r.c r.d r.e r.f r.os (parts low admin local octets (lacks_from colon admin free) r)
  where
    go : (h a b c d e f : ℕ) → Octets (h ∷ low ∷ a ∷ b ∷ c ∷ d ∷ e ∷ f ∷ []) → AreAdmins h a b c d e f admin local → ⊥
    go h a b c d e f os (of_two hi at to) = let two = pair_fits h low a b c d e f os in no_number (big_number 2 (a ∷ b ∷ c ∷ d ∷ e ∷ f ∷ [])) (record { within = omega (arith, two); spelled = at })
    go h a b c d e f os (of_address hi at to) =
        let two = back_pair_fits h low a b c d e f os in
        none (v4_value a b c d) refl (is_v4 h low a b c d e f admin os at) (big_number 2 (e ∷ f ∷ [])) (record { within = omega (arith, two); spelled = to })
    go h a b c d e f os (of_four hi big at to) = no_number (big_number 4 (a ∷ b ∷ c ∷ d ∷ e ∷ f ∷ [])) (record { within = four_fits h low a b c d e f os; spelled = at })

-- ---- the octets that are made
made : (low : ℕ) (rest : List ℕ) (h : ℕ) (six : List ℕ) → IsLow low → length (h ∷ low ∷ six) ≡ 8 → Octets (h ∷ low ∷ six) → administrators h six ≡ Some rest → IsCommunityText (worded low rest) (extended (h ∷ low ∷ six))
made low rest h six is long os e =
    (long, All-from_recursion (λ (o : ℕ). o < 256) (h ∷ low ∷ six) os, inl (sym whole))
  where
    whole : extended_text (h ∷ low ∷ six) ≡ worded low rest
    whole = λ i. unwrap_or (option_and_then (λ word. option_map (λ text. word ++ (colon ∷ text)) (e i)) (word_is low is i)) (hex_text (h ∷ low ∷ six))

low_octet : (low : ℕ) → IsLow low → low < 256
low_octet low (inl e) = omega (arith, e)
low_octet low (inr e) = omega (arith, e)

pub two_made : (low asn number a b k l m n : ℕ) (local : List ℕ) → IsLow low → Octets (a ∷ b ∷ k ∷ l ∷ m ∷ n ∷ []) → a * 256 + b ≡ asn → (k * 256 + l) * 65536 + (m * 256 + n) ≡ number → local ≡ number_text number
    → IsCommunityText (named low (number_text asn) local) (extended (0 ∷ low ∷ a ∷ b ∷ k ∷ l ∷ m ∷ n ∷ []))
two_made low asn number a b k l m n local is os at to spelled =
    made low (number_text asn ++ (colon ∷ local)) 0 (a ∷ b ∷ k ∷ l ∷ m ∷ n ∷ []) is refl (omega arith, (low_octet low is, os))
    (λ i. Some (number_text ((pair_value a b (k ∷ l ∷ m ∷ n ∷ []) ∙ at) i) ++ (colon ∷ (ap number_text (four_value k l m n [] ∙ to) ∙ sym spelled) i)))

four_admins : (six : List ℕ) → 65535 < big_number 4 six → administrators 2 six ≡ Some (number_text (big_number 4 six) ++ (colon ∷ number_text (big_number 2 (drop 4 six))))
four_admins six wide = ap (λ (t : Bool). if t then Some (number_text (big_number 4 six) ++ (colon ∷ number_text (big_number 2 (drop 4 six)))) else None) (lt-ltb 65535 (big_number 4 six) wide)

pub four_made : (low asn number a b c d m n : ℕ) (local : List ℕ) → IsLow low → Octets (a ∷ b ∷ c ∷ d ∷ m ∷ n ∷ []) → 65536 ≤ asn → (a * 256 + b) * 65536 + (c * 256 + d) ≡ asn → m * 256 + n ≡ number → local ≡ number_text number
    → IsCommunityText (named low (number_text asn) local) (extended (2 ∷ low ∷ a ∷ b ∷ c ∷ d ∷ m ∷ n ∷ []))
four_made low asn number a b c d m n local is os wide at to spelled =
    let value : big_number 4 (a ∷ b ∷ c ∷ d ∷ m ∷ n ∷ []) ≡ asn = four_value a b c d (m ∷ n ∷ []) ∙ at in
    made low (number_text asn ++ (colon ∷ local)) 2 (a ∷ b ∷ c ∷ d ∷ m ∷ n ∷ []) is refl (omega arith, (low_octet low is, os))
    (four_admins (a ∷ b ∷ c ∷ d ∷ m ∷ n ∷ []) (omega (arith, wide, value)) ∙ (λ i. Some (number_text (value i) ++ (colon ∷ (ap number_text (pair_value m n [] ∙ to) ∙ sym spelled) i))))

pub address_made : (low number a b c d m n : ℕ) (admin local : List ℕ) → IsLow low → Octets (a ∷ b ∷ c ∷ d ∷ m ∷ n ∷ []) → admin ≡ dotted (a ∷ b ∷ c ∷ d ∷ []) → m * 256 + n ≡ number → local ≡ number_text number
    → IsCommunityText (named low admin local) (extended (1 ∷ low ∷ a ∷ b ∷ c ∷ d ∷ m ∷ n ∷ []))
address_made low number a b c d m n admin local is os at to spelled =
    made low (admin ++ (colon ∷ local)) 1 (a ∷ b ∷ c ∷ d ∷ m ∷ n ∷ []) is refl (omega arith, (low_octet low is, os))
    (λ i. Some (sym at i ++ (colon ∷ (ap number_text (pair_value m n [] ∙ to) ∙ sym spelled) i)))

-- the octets of a number, the highest first
pub be_four : (n a b c d : ℕ) → n ≤ most_number → a ≡ n / 16777216 % 256 → b ≡ n / 65536 % 256 → c ≡ n / 256 % 256 → d ≡ n % 256 → Octets (a ∷ b ∷ c ∷ d ∷ []) × ((a * 256 + b) * 65536 + (c * 256 + d) ≡ n)
be_four n a b c d fits p q r s = ((omega (arith, p), (omega (arith, q), (omega (arith, r), (omega (arith, s), tt)))), omega (arith, fits, p, q, r, s))

pub be_two : (n a b : ℕ) → n < 65536 → a ≡ n / 256 % 256 → b ≡ n % 256 → Octets (a ∷ b ∷ []) × (a * 256 + b ≡ n)
be_two n a b fits p q = ((omega (arith, p), (omega (arith, q), tt)), omega (arith, fits, p, q))

-- the four octets of an IPv4 address
pub record IsFour (admin octets : List ℕ) : Type 0 where
  pub within : Octets (get_or octets 0 0 ∷ get_or octets 1 0 ∷ get_or octets 2 0 ∷ get_or octets 3 0 ∷ [])
  pub spelled : admin ≡ dotted (get_or octets 0 0 ∷ get_or octets 1 0 ∷ get_or octets 2 0 ∷ get_or octets 3 0 ∷ [])

pub four_of : (admin octets : List ℕ) (v : AddressValue) → octets ≡ v.octets → v.family ≡ V4 → IsAddressText admin v → IsFour admin octets
four_of admin octets v same v4 is =
    let (numbers, text, padded_is) = subst (λ (g : Family). IsTextIn g admin v.octets) v4 is in
    go numbers text.four text.within text.spelled (same ∙ padded_is)
  where
    go : (numbers : List ℕ) → length numbers ≡ 4 → All (λ n. n < 256) numbers → admin ≡ dotted numbers → octets ≡ padded numbers → IsFour admin octets
    go [] four small spelled is = absurd (omega (arith, four))
    go (a ∷ []) four small spelled is = absurd (omega (arith, four))
    go (a ∷ b ∷ []) four small spelled is = absurd (omega (arith, four))
    go (a ∷ b ∷ c ∷ []) four small spelled is = absurd (omega (arith, four))
    go (a ∷ b ∷ c ∷ d ∷ []) four small spelled is = subst (IsFour admin) (sym is) (record { within = octets_all (a ∷ b ∷ c ∷ d ∷ []) small; spelled = spelled })
    go (a ∷ b ∷ c ∷ d ∷ e ∷ rest) four small spelled is = absurd (omega (arith, four))

pub v4_is_no_v6 : (v w : AddressValue) → v.family ≡ V4 → v ≡ w → w.family ≡ V6 → ⊥
v4_is_no_v6 v w v4 same v6 = let e : V4 ≡ V6 = sym v4 ∙ ap (λ (x : AddressValue). x.family) same ∙ v6 in absurd cc
