-- The text of a peer or of a view has one value.
use Rattle.std.proofs.Common.{◌≡◌, ℕ, List, ◌∷◌, ◌++◌, Option, None, Some, Ok, cond, length, take, drop, refl, sym, ap, subst, ◌∙◌, arith, ◌-◌, ◌+◌, codes}
use Rattle.std.specs.Prelude.{position, ◌==◌}
use Rattle.std.specs.Str.{bytes_eq}
use Rattle.std.proofs.lemmas.Fmt.{decimal_injective}
use Rattle.byteorder.specs.Endian.{big_bytes, big_number}
use Rattle.hex.specs.Hex.{decode_sized}
use Rattle.bmp_specs.specs.declared.peers.View.{View}
use Rattle.bmp_specs.specs.declared.peers.View.TheVariants.{InPre, InPost, OutPre, OutPost, Loc}
use Rattle.bmp_specs.specs.AddressText.{IsAddressText}
use Rattle.bmp_specs.specs.NumberText.{IsNumberUpTo}
use Rattle.bmp_specs.specs.PeerText.{dash, most_kind, view_text, distinguisher_text, IsDistinguisherText, IsKeyText, IsViewText}
use Rattle.bmp_specs.specs.Values.{AddressValue, KeyValue}
use Rattle.bmp_frames.specs.KeyText.{CutsAtDash}
use Rattle.bmp_frames.proofs.Dash.{no_dash, cut_here, first_part, second_part}
use Rattle.bmp_frames.proofs.Digits.{read_back, number_back}
use Rattle.ip_prefix.proofs.OneValue.{address_one}

kind_one : (text : List ℕ) (a b : ℕ) → IsNumberUpTo most_kind text a → IsNumberUpTo most_kind text b → a ≡ b
kind_one text a b p q = decimal_injective a b (omega (arith, p.within)) (omega (arith, q.within)) (sym p.spelled ∙ q.spelled)

distinguisher_one : (text : List ℕ) (a b : ℕ) → IsDistinguisherText text a → IsDistinguisherText text b → a ≡ b
distinguisher_one text a b p q =
    let same : Ok (big_bytes 8 a) ≡ decode_sized (distinguisher_text b) 8 = sym (read_back a p.within) ∙ ap (λ (l : List ℕ). decode_sized l 8) (sym p.spelled ∙ q.spelled) in
    let bytes : Ok (big_bytes 8 a) ≡ Ok (big_bytes 8 b) = same ∙ read_back b q.within in
    let these : big_bytes 8 a ≡ big_bytes 8 b = cc in
    sym (number_back a p.within) ∙ ap (λ (l : List ℕ). big_number 8 l) these ∙ number_back b q.within

-- a text with a `-` is cut at its first one
first_cut : (text front rest : List ℕ) → text ≡ front ++ (dash ∷ rest) → (x : List ℕ) × (y : List ℕ) × CutsAtDash text x y
first_cut text front rest spelled = go (position (λ b. b == dash) text) refl
  where
    go : (at : Option ℕ) → position (λ b. b == dash) text ≡ at → (x : List ℕ) × (y : List ℕ) × CutsAtDash text x y
    go None e = absurd (no_dash text e front rest spelled)
    go (Some i) e = (take i text, take (length text - (i + 1)) (drop (i + 1) text), cut_here text i e)

same_key : (a b : KeyValue) → a.kind ≡ b.kind → a.distinguisher ≡ b.distinguisher → a.address ≡ b.address → a ≡ b
same_key a b kind distinguisher address =
    ap (λ (k : ℕ). let v : KeyValue = record { kind = k; distinguisher = a.distinguisher; address = a.address } in v) kind
    ∙ ap (λ (d : ℕ). let v : KeyValue = record { kind = b.kind; distinguisher = d; address = a.address } in v) distinguisher
    ∙ ap (λ (x : AddressValue). let v : KeyValue = record { kind = b.kind; distinguisher = b.distinguisher; address = x } in v) address

-- a text writes one peer
pub key_one : (text : List ℕ) (a b : KeyValue) → IsKeyText text a → IsKeyText text b → a ≡ b
key_one text a b p q =
    let (front, rest, cut) = first_cut text p.kind (p.distinguisher ++ (dash ∷ p.address)) p.spelled in
    let one = first_part text front rest a cut p in
    let other = first_part text front rest b cut q in
    let (digits, address, next) = first_cut rest p.distinguisher p.address (sym one.1) in
    let one_more = second_part text front rest digits address a cut next p in
    let other_more = second_part text front rest digits address b cut next q in
    let kind : a.kind ≡ b.kind = kind_one front a.kind b.kind (subst (λ (l : List ℕ). IsNumberUpTo most_kind l a.kind) one.0 p.is_kind) (subst (λ (l : List ℕ). IsNumberUpTo most_kind l b.kind) other.0 q.is_kind) in
    let distinguisher : a.distinguisher ≡ b.distinguisher = distinguisher_one digits a.distinguisher b.distinguisher (subst (λ (l : List ℕ). IsDistinguisherText l a.distinguisher) one_more.0 p.is_distinguisher) (subst (λ (l : List ℕ). IsDistinguisherText l b.distinguisher) other_more.0 q.is_distinguisher) in
    let addresses : a.address ≡ b.address = address_one address a.address b.address (subst (λ (l : List ℕ). IsAddressText l a.address) one_more.1 p.is_address) (subst (λ (l : List ℕ). IsAddressText l b.address) other_more.1 q.is_address) in
    same_key a b kind distinguisher addresses

-- the view that a text is
abbrev view_at : List ℕ → Option View
view_at text =
    cond (bytes_eq text (codes "adj-in-pre")) (Some InPre)
    (cond (bytes_eq text (codes "adj-in-post")) (Some InPost)
    (cond (bytes_eq text (codes "adj-out-pre")) (Some OutPre)
    (cond (bytes_eq text (codes "adj-out-post")) (Some OutPost)
    (cond (bytes_eq text (codes "loc")) (Some Loc) None))))

view_found : (v : View) → view_at (view_text v) ≡ Some v
view_found InPre = refl
view_found InPost = refl
view_found OutPre = refl
view_found OutPost = refl
view_found Loc = refl

-- a text writes one view
pub view_one : (text : List ℕ) (a b : View) → IsViewText text a → IsViewText text b → a ≡ b
view_one text a b p q =
    let same : Some a ≡ Some b = sym (view_found a) ∙ ap (λ (l : List ℕ). view_at l) (sym p ∙ q) ∙ view_found b in
    cc
