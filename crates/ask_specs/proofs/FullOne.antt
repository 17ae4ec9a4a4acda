-- A full line tells its row: two rows with one full line are one.
use Rattle.std.proofs.Common.{◌≡◌, ℕ, zero, suc, ◌<◌, ◌≤◌, ◌/◌, ◌%◌, ◌==◌, Bool, true, false, if◌then◌else◌, List, [], ◌∷◌, ◌++◌, All, Option, Some, None, codes, get_or, length, map, take, drop, replicate, slice_index, refl, sym, ap, subst, ◌∙◌, arith, eqb-true, length-drop, length-take, take-append-drop, append_assoc, length-append, ◌-◌}
use Rattle.std.specs.Prelude.{flat_map}
use Rattle.std.specs.Char.{digit_value}
use Rattle.std.specs.List.{AllByRecursion}
use Rattle.std.proofs.lemmas.List.Elements.{recursion_from_All}
use Rattle.bmp_specs.specs.declared.wire.Family.TheVariants.{V4, V6}
use Rattle.bmp_specs.specs.Address.{IsAddress}
use Rattle.bmp_specs.specs.AddressText.{text_in}
use Rattle.bmp_specs.specs.Lines.{further}
use Rattle.bmp_specs.specs.NumberText.{number_text}
use Rattle.bmp_specs.specs.PeerText.{dash, hex_text}
use Rattle.bmp_specs.specs.RouteLine.{absent, aggregator_text, attribute_fields, comma, comma_list, community_text, hop_text, id_fields, origin_text, others_text, path_text, route_fields, route_line, text_or_absent, yes_or_no}
use Rattle.bmp_specs.specs.Rows.{RowValue}
use Rattle.bmp_specs.specs.Values.{AddressValue, AggregatorValue, AttrsValue, OtherValue, SegmentValue}
use Rattle.ask_specs.specs.FullLine.{BeginsWithLine, IsFourOctets, IsGiven, IsGivenAggregator, IsGivenRow, IsGivenSegment, IsOctet, OwnField, TellsAll, originator, clusters, extended, aigp, large, otc, full_fields, full_line, further_fields, is_divided_plainly, own_field, raw_path, raw_text, segment_octets}
use Rattle.ask_specs.specs.Traits.{IfNamed}
use Rattle.ask_specs.proofs.CommunityOne.{dotted_lacks, plain_one}
use Rattle.ask_specs.proofs.OthersOne.{AreKept, Differ, backs_one, codes_field, codes_one, comma_texts_one, differ_all, flags_field, flags_one, kept_all, others_told, own_is_field, own_list, own_list_one, raw_lacks, raw_list, raws_lack}
use Rattle.ask_specs.proofs.OwnOne.{address_item_one, four, octets_drop, octets_small, octets_take}
use Rattle.ask_specs.proofs.PathOne.{first_digit, given_all, path_field, path_octets, path_one}
use Rattle.ask_specs.proofs.TextLaws.{IsField, IsPeer, address_lacks, address_text_one, cancel, comma_field, comma_list_one, field_append, free, further_one, key_field, key_text_one, lacks_free, map_fields, name_field, number_field, prefix_field, prefix_text_one, view_field, view_text_one}
use Rattle.ask_specs.proofs.TraitOne.{Octets, Small, hex_lacks, hex_one, number_one, octets_all}
use Rattle.ask_specs.proofs.WordLaws.{Lacks, cut_one, lacks_append, lacks_middle, number_lacks}

pub cons_one : {X : Type 0} {x y : X} {xs ys : List X} → x ∷ xs ≡ y ∷ ys → (x ≡ y) × (xs ≡ ys)
cons_one e = (cc, cc)

-- ---- values that may not be there
opt_one : {A : Type 0} (text : A → List ℕ) (P : A → Type 0) → ((a : A) → P a → Lacks dash (text a)) → ((a b : A) → P a → P b → text a ≡ text b → a ≡ b) → (v w : Option A) → IfNamed v P → IfNamed w P
    → text_or_absent text v ≡ text_or_absent text w → v ≡ w
opt_one text P dashes one None None p q e = refl
opt_one text P dashes one None (Some b) p q e = absurd (let lacks = subst (Lacks dash) (sym e) (dashes b q) in lacks.0 refl)
opt_one text P dashes one (Some a) None p q e = absurd (let lacks = subst (Lacks dash) e (dashes a p) in lacks.0 refl)
opt_one {A = A} text P dashes one (Some a) (Some b) p q e = ap (λ (x : A). Some x) (one a b p q e)

opt_field : {A : Type 0} (text : A → List ℕ) (P : A → Type 0) → ((a : A) → P a → IsField (text a)) → (v : Option A) → IfNamed v P → IsField (text_or_absent text v)
opt_field text P field None p = name_field absent refl refl
opt_field text P field (Some a) p = field a p

-- ---- numbers
pub octet_one : (m n : ℕ) → IsFourOctets m → IsFourOctets n → number_text m ≡ number_text n → m ≡ n
octet_one m n p q e = number_one m n (omega (arith, p)) (omega (arith, q)) e

octets_dash : (n : ℕ) → IsFourOctets n → Lacks dash (number_text n)
octets_dash n p = number_lacks dash n (omega arith) (omega (arith, p))

pub octets_field : (n : ℕ) → IsFourOctets n → IsField (number_text n)
octets_field n p = number_field n (omega (arith, p))

-- ---- addresses as octets
pub octet_at : (v : List ℕ) → Octets v → (k : ℕ) → slice_index v k < 256
octet_at [] os k = omega arith
octet_at (o ∷ v) os zero = os.0
octet_at (o ∷ v) os (suc k) = octet_at v os.1 k

abbrev six_address : List ℕ → AddressValue
six_address octets = record { family = V6; octets = octets }

six_is : (v : List ℕ) → length v ≡ 16 → Octets v → IsAddress (six_address v)
six_is v n os = record { len = n; bytes = octet_at v os; used = tt }

abbrev four_address : ℕ → ℕ → ℕ → ℕ → AddressValue
four_address a b c d = record { family = V4; octets = a ∷ b ∷ c ∷ d ∷ replicate 12 0 }

four_is : (a b c d : ℕ) → Octets (a ∷ b ∷ c ∷ d ∷ []) → IsAddress (four_address a b c d)
four_is a b c d os = record { len = refl; bytes = octet_at (a ∷ b ∷ c ∷ d ∷ replicate 12 0) (os.0, (os.1.0, (os.1.1.0, (os.1.1.1.0, zeros)))); used = refl }
  where
    zeros : Octets (replicate 12 0)
    zeros = (omega arith, (omega arith, (omega arith, (omega arith, (omega arith, (omega arith, (omega arith, (omega arith, (omega arith, (omega arith, (omega arith, (omega arith, tt))))))))))))

six_one : (v w : List ℕ) → length v ≡ 16 → length w ≡ 16 → Octets v → Octets w → text_in V6 v ≡ text_in V6 w → v ≡ w
six_one v w n m os ot e = let same = address_text_one (six_address v) (six_address w) (six_is v n os) (six_is w m ot) e in ap (λ (a : AddressValue). a.octets) same

four_or_six : (v w : List ℕ) → length v ≡ 4 → length w ≡ 16 → Octets v → Octets w → ¬ (text_in V4 v ≡ text_in V6 w)
four_or_six v w n m os ot e =
    let u = four v n in
    let o : Octets (u.a ∷ u.b ∷ u.c ∷ u.d ∷ []) = subst Octets u.is os in
    let same = address_text_one (four_address u.a u.b u.c u.d) (six_address w) (four_is u.a u.b u.c u.d o) (six_is w m ot) (ap (text_in V4) (sym u.is) ∙ e) in
    let family : V4 ≡ V6 = ap (λ (a : AddressValue). a.family) same in
    absurd cc

four_lacks : (c : ℕ) → 10 ≤ digit_value c → ¬ (46 ≡ c) → (v : List ℕ) → Octets v → Lacks c (text_in V4 v)
four_lacks c other no_dot v os = dotted_lacks c other no_dot (take 4 v) (octets_small (take 4 v) (octets_take 4 v os))

six_lacks : (c : ℕ) → 16 ≤ digit_value c → ¬ (46 ≡ c) → ¬ (c ≡ 58) → (v : List ℕ) → length v ≡ 16 → Octets v → Lacks c (text_in V6 v)
six_lacks c other no_dot no_colon v n os = address_lacks c other no_dot no_colon (six_address v) (six_is v n os)

-- ---- next hops
data HopView (hop text : List ℕ) : Type 0 where
  hop_four : length hop ≡ 4 → text ≡ text_in V4 hop → HopView hop text
  hop_six : length hop ≡ 16 → text ≡ text_in V6 hop → HopView hop text
  hop_two : length hop ≡ 32 → text ≡ text_in V6 (take 16 hop) ++ (comma ∷ text_in V6 (drop 16 hop)) → HopView hop text
  hop_other : text ≡ 120 ∷ hex_text hop → HopView hop text

hop_view : (hop : List ℕ) → HopView hop (hop_text hop)
hop_view hop = go (length hop == 4) (length hop == 16) (length hop == 32) refl refl refl
  where
    go : (p q r : Bool) → (length hop == 4) ≡ p → (length hop == 16) ≡ q → (length hop == 32) ≡ r → HopView hop (hop_text hop)
    go true q r hp hq hr = hop_four (eqb-true (length hop) 4 hp) (rw hp refl)
    go false true r hp hq hr = hop_six (eqb-true (length hop) 16 hq) (rw (hp, hq) refl)
    go false false true hp hq hr = hop_two (eqb-true (length hop) 32 hr) (rw (hp, hq, hr) refl)
    go false false false hp hq hr = hop_other (rw (hp, hq, hr) refl)

front_long : (v : List ℕ) → length v ≡ 32 → length (take 16 v) ≡ 16
front_long v n = length-take 16 v ∙ omega (arith, n)

back_long : (v : List ℕ) → length v ≡ 32 → length (drop 16 v) ≡ 16
back_long v n = length-drop 16 v ∙ omega (arith, n)

module _ (c : ℕ) (other : 16 ≤ digit_value c) (no_dot : ¬ (46 ≡ c)) (no_colon : ¬ (c ≡ 58)) where
  view_lacks : (hop text : List ℕ) → Octets hop → ¬ (comma ≡ c) → ¬ (120 ≡ c) → HopView hop text → Lacks c text
  view_lacks hop text os no_comma no_x (hop_four n is) = subst (Lacks c) (sym is) (four_lacks c (omega (arith, other)) no_dot hop os)
  view_lacks hop text os no_comma no_x (hop_six n is) = subst (Lacks c) (sym is) (six_lacks c other no_dot no_colon hop n os)
  view_lacks hop text os no_comma no_x (hop_two n is) = subst (Lacks c) (sym is)
      (lacks_append c (text_in V6 (take 16 hop)) (comma ∷ text_in V6 (drop 16 hop)) (six_lacks c other no_dot no_colon (take 16 hop) (front_long hop n) (octets_take 16 hop os))
      (no_comma, six_lacks c other no_dot no_colon (drop 16 hop) (back_long hop n) (octets_drop 16 hop os)))
  view_lacks hop text os no_comma no_x (hop_other is) = subst (Lacks c) (sym is) (no_x, hex_lacks c other hop os)

  hop_lacks : (hop : List ℕ) → All IsOctet hop → ¬ (comma ≡ c) → ¬ (120 ≡ c) → Lacks c (hop_text hop)
  hop_lacks hop os no_comma no_x = view_lacks hop (hop_text hop) (octets_all hop os) no_comma no_x (hop_view hop)

hop_dash : (hop : List ℕ) → All IsOctet hop → Lacks dash (hop_text hop)
hop_dash hop os = hop_lacks dash (omega arith) (λ z. omega (arith, z)) (λ z. omega (arith, z)) hop os (λ z. omega (arith, z)) (λ z. omega (arith, z))

hop_field : (hop : List ℕ) → All IsOctet hop → IsField (hop_text hop)
hop_field hop os = (
  hop_lacks 32 (omega arith) (λ z. omega (arith, z)) (λ z. omega (arith, z)) hop os (λ z. omega (arith, z)) (λ z. omega (arith, z)),
  hop_lacks 10 (omega arith) (λ z. omega (arith, z)) (λ z. omega (arith, z)) hop os (λ z. omega (arith, z)) (λ z. omega (arith, z)),
)

-- two IPv6 addresses begin with no `x`
no_x : (a b : List ℕ) → Octets a → length a ≡ 32 → ¬ (text_in V6 (take 16 a) ++ (comma ∷ text_in V6 (drop 16 a)) ≡ 120 ∷ hex_text b)
no_x a b os n e =
    let front = six_lacks 120 (omega arith) (λ z. omega (arith, z)) (λ z. omega (arith, z)) (take 16 a) (front_long a n) (octets_take 16 a os) in
    let back = six_lacks 120 (omega arith) (λ z. omega (arith, z)) (λ z. omega (arith, z)) (drop 16 a) (back_long a n) (octets_drop 16 a os) in
    let lacks = subst (Lacks 120) e (lacks_append 120 (text_in V6 (take 16 a)) (comma ∷ text_in V6 (drop 16 a)) front ((λ z. omega (arith, z)), back)) in
    lacks.0 refl

views_one : (v w text : List ℕ) → Octets v → Octets w → HopView v text → HopView w text → v ≡ w
views_one v w text os ot (hop_four n p) (hop_four m q) = address_item_one v w (n, os) (m, ot) (sym p ∙ q)
views_one v w text os ot (hop_four n p) (hop_six m q) = absurd (four_or_six v w n m os ot (sym p ∙ q))
views_one v w text os ot (hop_four n p) (hop_two m q) = absurd (lacks_middle comma (text_in V6 (take 16 w)) (text_in V6 (drop 16 w)) (subst (Lacks comma) (sym p ∙ q) (four_lacks comma (omega arith) (λ z. omega (arith, z)) v os)))
views_one v w text os ot (hop_four n p) (hop_other q) = absurd (let lacks = subst (Lacks 120) (sym p ∙ q) (four_lacks 120 (omega arith) (λ z. omega (arith, z)) v os) in lacks.0 refl)
views_one v w text os ot (hop_six n p) (hop_four m q) = absurd (four_or_six w v m n ot os (sym q ∙ p))
views_one v w text os ot (hop_six n p) (hop_six m q) = six_one v w n m os ot (sym p ∙ q)
views_one v w text os ot (hop_six n p) (hop_two m q) = absurd (lacks_middle comma (text_in V6 (take 16 w)) (text_in V6 (drop 16 w)) (subst (Lacks comma) (sym p ∙ q) (six_lacks comma (omega arith) (λ z. omega (arith, z)) (λ z. omega (arith, z)) v n os)))
views_one v w text os ot (hop_six n p) (hop_other q) = absurd (let lacks = subst (Lacks 120) (sym p ∙ q) (six_lacks 120 (omega arith) (λ z. omega (arith, z)) (λ z. omega (arith, z)) v n os) in lacks.0 refl)
views_one v w text os ot (hop_two n p) (hop_four m q) = absurd (lacks_middle comma (text_in V6 (take 16 v)) (text_in V6 (drop 16 v)) (subst (Lacks comma) (sym q ∙ p) (four_lacks comma (omega arith) (λ z. omega (arith, z)) w ot)))
views_one v w text os ot (hop_two n p) (hop_six m q) = absurd (lacks_middle comma (text_in V6 (take 16 v)) (text_in V6 (drop 16 v)) (subst (Lacks comma) (sym q ∙ p) (six_lacks comma (omega arith) (λ z. omega (arith, z)) (λ z. omega (arith, z)) w m ot)))
views_one v w text os ot (hop_two n p) (hop_two m q) =
    let cut = cut_one comma (text_in V6 (take 16 v)) (text_in V6 (take 16 w)) (text_in V6 (drop 16 v)) (text_in V6 (drop 16 w))
    (six_lacks comma (omega arith) (λ z. omega (arith, z)) (λ z. omega (arith, z)) (take 16 v) (front_long v n) (octets_take 16 v os))
    (six_lacks comma (omega arith) (λ z. omega (arith, z)) (λ z. omega (arith, z)) (take 16 w) (front_long w m) (octets_take 16 w ot)) (sym p ∙ q) in
    let front = six_one (take 16 v) (take 16 w) (front_long v n) (front_long w m) (octets_take 16 v os) (octets_take 16 w ot) cut.0 in
    let back = six_one (drop 16 v) (drop 16 w) (back_long v n) (back_long w m) (octets_drop 16 v os) (octets_drop 16 w ot) cut.1 in
    sym (take-append-drop 16 v) ∙ (λ i. front i ++ back i) ∙ take-append-drop 16 w
views_one v w text os ot (hop_two n p) (hop_other q) = absurd (no_x v w os n (sym p ∙ q))
views_one v w text os ot (hop_other p) (hop_four m q) = absurd (let lacks = subst (Lacks 120) (sym q ∙ p) (four_lacks 120 (omega arith) (λ z. omega (arith, z)) w ot) in lacks.0 refl)
views_one v w text os ot (hop_other p) (hop_six m q) = absurd (let lacks = subst (Lacks 120) (sym q ∙ p) (six_lacks 120 (omega arith) (λ z. omega (arith, z)) (λ z. omega (arith, z)) w m ot) in lacks.0 refl)
views_one v w text os ot (hop_other p) (hop_two m q) = absurd (no_x w v ot m (sym q ∙ p))
views_one v w text os ot (hop_other p) (hop_other q) = hex_one v w os ot (cancel (120 ∷ []) (hex_text v) (hex_text w) (sym p ∙ q))

hop_one : (v w : List ℕ) → All IsOctet v → All IsOctet w → hop_text v ≡ hop_text w → v ≡ w
hop_one v w os ot e = views_one v w (hop_text w) (octets_all v os) (octets_all w ot) (subst (HopView v) e (hop_view v)) (hop_view w)

-- ---- ORIGIN
data OriginView (n : ℕ) (text : List ℕ) : Type 0 where
  is_igp : n ≡ 0 → text ≡ codes "igp" → OriginView n text
  is_egp : n ≡ 1 → text ≡ codes "egp" → OriginView n text
  is_incomplete : n ≡ 2 → text ≡ codes "incomplete" → OriginView n text
  is_number : text ≡ number_text n → OriginView n text

origin_view : (n : ℕ) → OriginView n (origin_text n)
origin_view n = go (n == 0) (n == 1) (n == 2) refl refl refl
  where
    go : (p q r : Bool) → (n == 0) ≡ p → (n == 1) ≡ q → (n == 2) ≡ r → OriginView n (origin_text n)
    go true q r hp hq hr = is_igp (eqb-true n 0 hp) (rw hp refl)
    go false true r hp hq hr = is_egp (eqb-true n 1 hq) (rw (hp, hq) refl)
    go false false true hp hq hr = is_incomplete (eqb-true n 2 hr) (rw (hp, hq, hr) refl)
    go false false false hp hq hr = is_number (rw (hp, hq, hr) refl)

origin_small : (n : ℕ) → IsOctet n → Small n
origin_small n fits = omega (arith, fits)

origins_one : (m n : ℕ) (text : List ℕ) → IsOctet m → IsOctet n → OriginView m text → OriginView n text → m ≡ n
origins_one m n text p q (is_igp a b) (is_igp c d) = a ∙ sym c
origins_one m n text p q (is_igp a b) (is_egp c d) = absurd (omega (arith, ap (λ (l : List ℕ). get_or l 0 0) (sym b ∙ d)))
origins_one m n text p q (is_igp a b) (is_incomplete c d) = absurd (omega (arith, ap (λ (l : List ℕ). get_or l 1 0) (sym b ∙ d)))
origins_one m n text p q (is_igp a b) (is_number d) = absurd (first_digit n 105 (codes "gp") (origin_small n q) (omega arith) (sym b ∙ d))
origins_one m n text p q (is_egp a b) (is_igp c d) = absurd (omega (arith, ap (λ (l : List ℕ). get_or l 0 0) (sym b ∙ d)))
origins_one m n text p q (is_egp a b) (is_egp c d) = a ∙ sym c
origins_one m n text p q (is_egp a b) (is_incomplete c d) = absurd (omega (arith, ap (λ (l : List ℕ). get_or l 0 0) (sym b ∙ d)))
origins_one m n text p q (is_egp a b) (is_number d) = absurd (first_digit n 101 (codes "gp") (origin_small n q) (omega arith) (sym b ∙ d))
origins_one m n text p q (is_incomplete a b) (is_igp c d) = absurd (omega (arith, ap (λ (l : List ℕ). get_or l 1 0) (sym b ∙ d)))
origins_one m n text p q (is_incomplete a b) (is_egp c d) = absurd (omega (arith, ap (λ (l : List ℕ). get_or l 0 0) (sym b ∙ d)))
origins_one m n text p q (is_incomplete a b) (is_incomplete c d) = a ∙ sym c
origins_one m n text p q (is_incomplete a b) (is_number d) = absurd (first_digit n 105 (codes "ncomplete") (origin_small n q) (omega arith) (sym b ∙ d))
origins_one m n text p q (is_number b) (is_igp c d) = absurd (first_digit m 105 (codes "gp") (origin_small m p) (omega arith) (sym d ∙ b))
origins_one m n text p q (is_number b) (is_egp c d) = absurd (first_digit m 101 (codes "gp") (origin_small m p) (omega arith) (sym d ∙ b))
origins_one m n text p q (is_number b) (is_incomplete c d) = absurd (first_digit m 105 (codes "ncomplete") (origin_small m p) (omega arith) (sym d ∙ b))
origins_one m n text p q (is_number b) (is_number d) = number_one m n (omega (arith, p)) (omega (arith, q)) (sym b ∙ d)

origin_one : (m n : ℕ) → IsOctet m → IsOctet n → origin_text m ≡ origin_text n → m ≡ n
origin_one m n p q e = origins_one m n (origin_text n) p q (subst (OriginView m) e (origin_view m)) (origin_view n)

origin_dash : (n : ℕ) → IsOctet n → Lacks dash (origin_text n)
origin_dash n fits = by (origin_view n)
  where
    by : OriginView n (origin_text n) → Lacks dash (origin_text n)
    by (is_igp a b) = subst (Lacks dash) (sym b) (lacks_free dash (codes "igp") refl)
    by (is_egp a b) = subst (Lacks dash) (sym b) (lacks_free dash (codes "egp") refl)
    by (is_incomplete a b) = subst (Lacks dash) (sym b) (lacks_free dash (codes "incomplete") refl)
    by (is_number b) = subst (Lacks dash) (sym b) (number_lacks dash n (omega arith) (omega (arith, fits)))

origin_field : (n : ℕ) → IsOctet n → IsField (origin_text n)
origin_field n fits = by (origin_view n)
  where
    by : OriginView n (origin_text n) → IsField (origin_text n)
    by (is_igp a b) = subst IsField (sym b) (name_field (codes "igp") refl refl)
    by (is_egp a b) = subst IsField (sym b) (name_field (codes "egp") refl refl)
    by (is_incomplete a b) = subst IsField (sym b) (name_field (codes "incomplete") refl refl)
    by (is_number b) = subst IsField (sym b) (number_field n (omega (arith, fits)))

-- ---- ATOMIC_AGGREGATE, AGGREGATOR and communities
atomic_one : (a b : Bool) → yes_or_no a ≡ yes_or_no b → a ≡ b
atomic_one true true e = refl
atomic_one false false e = refl
atomic_one true false e = absurd (omega (arith, ap (λ (l : List ℕ). get_or l 0 0) e))
atomic_one false true e = absurd (omega (arith, ap (λ (l : List ℕ). get_or l 0 0) e))

atomic_field : (a : Bool) → IsField (yes_or_no a)
atomic_field true = name_field (codes "yes") refl refl
atomic_field false = name_field (codes "no") refl refl

aggregator_lacks : (c : ℕ) → 10 ≤ digit_value c → ¬ (46 ≡ c) → ¬ (58 ≡ c) → (a : AggregatorValue) → IsGivenAggregator a → Lacks c (aggregator_text a)
aggregator_lacks c other no_dot no_colon a is =
    lacks_append c (number_text a.asn) (58 ∷ text_in V4 a.identifier) (number_lacks c a.asn other (let h = is.asn_is in omega (arith, h))) (no_colon, four_lacks c other no_dot a.identifier (octets_all a.identifier is.octets_are))

aggregator_one : (a b : AggregatorValue) → IsGivenAggregator a → IsGivenAggregator b → aggregator_text a ≡ aggregator_text b → a ≡ b
aggregator_one a b p q e =
    let cut = cut_one 58 (number_text a.asn) (number_text b.asn) (text_in V4 a.identifier) (text_in V4 b.identifier) (number_lacks 58 a.asn (omega arith) (let h = p.asn_is in omega (arith, h))) (number_lacks 58 b.asn (omega arith) (let h = q.asn_is in omega (arith, h))) e in
    let asn = octet_one a.asn b.asn p.asn_is q.asn_is cut.0 in
    let identifier = address_item_one a.identifier b.identifier (p.len, octets_all a.identifier p.octets_are) (q.len, octets_all b.identifier q.octets_are) cut.1 in
    λ i. record { asn = asn i; identifier = identifier i }

aggregator_dash : (a : AggregatorValue) → IsGivenAggregator a → Lacks dash (aggregator_text a)
aggregator_dash a is = aggregator_lacks dash (omega arith) (λ z. omega (arith, z)) (λ z. omega (arith, z)) a is

aggregator_field : (a : AggregatorValue) → IsGivenAggregator a → IsField (aggregator_text a)
aggregator_field a is = (aggregator_lacks 32 (omega arith) (λ z. omega (arith, z)) (λ z. omega (arith, z)) a is, aggregator_lacks 10 (omega arith) (λ z. omega (arith, z)) (λ z. omega (arith, z)) a is)

community_lacks : (c : ℕ) → 10 ≤ digit_value c → ¬ (58 ≡ c) → (n : ℕ) → IsFourOctets n → Lacks c (community_text n)
community_lacks c other no_colon n fits = lacks_append c (number_text (n / 65536)) (58 ∷ number_text (n % 65536)) (number_lacks c (n / 65536) other (omega (arith, fits))) (no_colon, number_lacks c (n % 65536) other (omega arith))

communities_one : (xs ys : List ℕ) → All IsFourOctets xs → All IsFourOctets ys → comma_list (map community_text xs) ≡ comma_list (map community_text ys) → xs ≡ ys
communities_one xs ys p q e =
    comma_list_one community_text IsFourOctets (community_lacks comma (omega arith) (λ z. omega (arith, z))) (community_lacks dash (omega arith) (λ z. omega (arith, z))) (λ a b f g same. plain_one a b f g same)
    xs ys (recursion_from_All IsFourOctets xs p) (recursion_from_All IsFourOctets ys q) e

communities_field : (xs : List ℕ) → All IsFourOctets xs → IsField (comma_list (map community_text xs))
communities_field xs p = comma_field (map community_text xs) (map_fields community_text IsFourOctets (λ n fits. (community_lacks 32 (omega arith) (λ z. omega (arith, z)) n fits, community_lacks 10 (omega arith) (λ z. omega (arith, z)) n fits)) xs (recursion_from_All IsFourOctets xs p))

-- ---- what is raw
raw_path_lacks : (c : ℕ) → 16 ≤ digit_value c → ¬ (58 ≡ c) → (p : Option (List SegmentValue)) → AllByRecursion (Lacks c) (raw_path p)
raw_path_lacks c other no_colon None = tt
raw_path_lacks c other no_colon (Some path) = go (is_divided_plainly false path)
  where
    go : (t : Bool) → AllByRecursion (Lacks c) (if t then [] else raw_text 2 (flat_map segment_octets path) ∷ [])
    go true = tt
    go false = (raw_lacks c other no_colon 2 (flat_map segment_octets path) (omega arith) (path_octets path), tt)

pub all_join : (P : List ℕ → Type 0) (a b : List (List ℕ)) → AllByRecursion P a → AllByRecursion P b → AllByRecursion P (a ++ b)
all_join P [] b p q = q
all_join P (x ∷ a) b p q = (p.0, all_join P a b p.1 q)

raw_all : (c : ℕ) → 16 ≤ digit_value c → ¬ (58 ≡ c) → (p : Option (List SegmentValue)) (others : List OtherValue) → AreKept others → AllByRecursion (Lacks c) (raw_path p ++ raw_list others)
raw_all c other no_colon p others kept = all_join (Lacks c) (raw_path p) (raw_list others) (raw_path_lacks c other no_colon p) (raws_lack c other no_colon others kept)

both_lack : (ws : List (List ℕ)) → AllByRecursion (Lacks 32) ws → AllByRecursion (Lacks 10) ws → AllByRecursion IsField ws
both_lack [] p q = tt
both_lack (w ∷ ws) p q = ((p.0, q.0), both_lack ws p.1 q.1)

raw_field : (p : Option (List SegmentValue)) (others : List OtherValue) → AreKept others → IsField (comma_list (raw_path p ++ raw_list others))
raw_field p others kept = comma_field (raw_path p ++ raw_list others) (both_lack (raw_path p ++ raw_list others) (raw_all 32 (omega arith) (λ z. omega (arith, z)) p others kept) (raw_all 10 (omega arith) (λ z. omega (arith, z)) p others kept))

-- ---- the fields of a route
pub named : (name text : List ℕ) → free 32 name ≡ true → free 10 name ≡ true → IsField text → IsField (name ++ text)
named name text p q is = field_append name text (name_field name p q) is

path_is_field : (p : Option (List SegmentValue)) → IfNamed p (All IsGivenSegment) → IsField (text_or_absent path_text p)
path_is_field p given = opt_field path_text (All IsGivenSegment) (λ path all. path_field path (given_all path all)) p given

module _ (a : AttrsValue) (is : IsGiven a) where
  kept_of : AreKept a.others
  kept_of = kept_all a.others is.kept

  differ_of : Differ a.others
  differ_of = differ_all a.others is.types_differ

  pub further_are : AllByRecursion IsField (further_fields a)
  further_are = (
    named (codes "flags=") (comma_list (map (λ other. hex_text (other.flags ∷ [])) a.others)) refl refl (flags_field a.others kept_of),
    (
      own_is_field (codes "large=") large a.others (name_field (codes "large=") refl refl) kept_of,
      (
        own_is_field (codes "ext=") extended a.others (name_field (codes "ext=") refl refl) kept_of,
        (
          own_is_field (codes "otc=") otc a.others (name_field (codes "otc=") refl refl) kept_of,
          (
            own_is_field (codes "aigp=") aigp a.others (name_field (codes "aigp=") refl refl) kept_of,
            (
              own_is_field (codes "originator=") originator a.others (name_field (codes "originator=") refl refl) kept_of,
              (
                own_is_field (codes "clusters=") clusters a.others (name_field (codes "clusters=") refl refl) kept_of,
                (named (codes "raw=") (comma_list (raw_path a.path ++ raw_list a.others)) refl refl (raw_field a.path a.others kept_of), tt),
              ),
            ),
          ),
        ),
      ),
    ),
  )

  attributes_are : AllByRecursion IsField (attribute_fields a)
  attributes_are = (
    named (codes "next=") (text_or_absent hop_text a.hop) refl refl (opt_field hop_text (All IsOctet) hop_field a.hop is.hop_is),
    (
      named (codes "origin=") (text_or_absent origin_text a.origin) refl refl (opt_field origin_text IsOctet origin_field a.origin is.origin_is),
      (
        named (codes "path=") (text_or_absent path_text a.path) refl refl (path_is_field a.path is.path_is),
        (
          named (codes "med=") (text_or_absent number_text a.med) refl refl (opt_field number_text IsFourOctets octets_field a.med is.med_is),
          (
            named (codes "pref=") (text_or_absent number_text a.pref) refl refl (opt_field number_text IsFourOctets octets_field a.pref is.pref_is),
            (
              named (codes "atomic=") (yes_or_no a.atomic) refl refl (atomic_field a.atomic),
              (
                named (codes "agg=") (text_or_absent aggregator_text a.aggregator) refl refl (opt_field aggregator_text IsGivenAggregator aggregator_field a.aggregator is.aggregator_is),
                (
                  named (codes "comm=") (comma_list (map community_text a.communities)) refl refl (communities_field a.communities is.communities_are),
                  (named (codes "other=") (others_text a.others) refl refl (codes_field a.others kept_of), tt),
                ),
              ),
            ),
          ),
        ),
      ),
    ),
  )

pub id_are : (id : Option ℕ) → IfNamed id IsFourOctets → AllByRecursion IsField (id_fields id)
id_are None fits = tt
id_are (Some id) fits = (named (codes "id=") (number_text id) refl refl (octets_field id fits), tt)

peer_of : (row : RowValue) → IsGivenRow row → IsPeer row.row_key.key
peer_of row is = record { kind_is = is.kind_is; distinguisher_is = is.distinguisher_is; address_is = is.address_is }

pub route_are : (row : RowValue) → IsGivenRow row → AllByRecursion IsField (route_fields row)
route_are row is = (
  key_field row.row_key.key (peer_of row is),
  (
    view_field row.row_key.view,
    (
      prefix_field row.row_key.nlri.prefix is.prefix_is,
      all_join IsField (attribute_fields row.route) (id_fields row.row_key.nlri.id) (attributes_are row.route is.route_is) (id_are row.row_key.nlri.id is.id_is),
    ),
  ),
)

full_are : (row : RowValue) → IsGivenRow row → AllByRecursion IsField (full_fields row)
full_are row is = all_join IsField (route_fields row) (further_fields row.route) (route_are row is) (further_are row.route is.route_is)

-- ---- two rows with the same fields
-- the fields don't begin with a path identifier
abbrev pub NoId : List (List ℕ) → Type 0
NoId fields = (n : ℕ) (rest : List (List ℕ)) → ¬ (fields ≡ (codes "id=" ++ number_text n) ∷ rest)

pub no_id : (name text : List ℕ) (rest : List (List ℕ)) → ¬ (get_or (name ++ text) 0 0 ≡ 105) → NoId ((name ++ text) ∷ rest)
no_id name text rest other n more e = other (ap (λ (l : List ℕ). get_or l 0 0) (cons_one e).0)

pub id_one : (x y : List (List ℕ)) (m n : Option ℕ) → NoId x → NoId y → IfNamed m IsFourOctets → IfNamed n IsFourOctets → id_fields m ++ x ≡ id_fields n ++ y → (m ≡ n) × (x ≡ y)
id_one x y None None r s p q e = (refl, e)
id_one x y None (Some n) r s p q e = absurd (r n y e)
id_one x y (Some m) None r s p q e = absurd (s m x (sym e))
id_one x y (Some m) (Some n) r s p q e =
    let parts = cons_one e in
    (ap (λ (z : ℕ). Some z) (octet_one m n p q (cancel (codes "id=") (number_text m) (number_text n) parts.0)), parts.1)

attrs_by : (a b : AttrsValue) → a.origin ≡ b.origin → a.path ≡ b.path → a.hop ≡ b.hop → a.med ≡ b.med → a.pref ≡ b.pref → a.atomic ≡ b.atomic → a.aggregator ≡ b.aggregator → a.communities ≡ b.communities → a.others ≡ b.others → a ≡ b
attrs_by a b c d e f g h j k l = λ i. record { origin = c i; path = d i; hop = e i; med = f i; pref = g i; atomic = h i; aggregator = j i; communities = k i; others = l i }

module _ (a b : AttrsValue) (p : IsGiven a) (q : IsGiven b) where
  -- the paths and the attributes that aren't read, by the further fields and two of the plain ones
  further_tell : text_or_absent path_text a.path ≡ text_or_absent path_text b.path → others_text a.others ≡ others_text b.others → further_fields a ≡ further_fields b → (a.path ≡ b.path) × (a.others ≡ b.others)
  further_tell paths types e =
      let (h0, t0) = cons_one e in
      let (h1, t1) = cons_one t0 in
      let (h2, t2) = cons_one t1 in
      let (h3, t3) = cons_one t2 in
      let (h4, t4) = cons_one t3 in
      let (h5, t5) = cons_one t4 in
      let (h6, t6) = cons_one t5 in
      let (h7, t7) = cons_one t6 in
      let kx = kept_of a p in
      let ky = kept_of b q in
      let dx = differ_of a p in
      let dy = differ_of b q in
      let codes_are = codes_one a.others b.others kx ky types in
      let flags_are = flags_one a.others b.others kx ky (cancel (codes "flags=") (comma_list (map (λ other. hex_text (other.flags ∷ [])) a.others)) (comma_list (map (λ other. hex_text (other.flags ∷ [])) b.others)) h0) in
      let own : (f : OwnField) (name : List ℕ) → own_field name f a.others ≡ own_field name f b.others → own_list f a.others ≡ own_list f b.others =
      λ f name same. own_list_one f a.others b.others dx dy kx ky (cancel name (comma_list (own_list f a.others)) (comma_list (own_list f b.others)) same) in
      let told = others_told a.others b.others dx dy kx ky codes_are flags_are
      (elim [
        | originator ↦ own originator (codes "originator=") h5
        | clusters ↦ own clusters (codes "clusters=") h6
        | extended ↦ own extended (codes "ext=") h2
        | aigp ↦ own aigp (codes "aigp=") h4
        | large ↦ own large (codes "large=") h1
        | otc ↦ own otc (codes "otc=") h3
      ]) in
      let raws = comma_texts_one (raw_path a.path ++ raw_list a.others) (raw_path b.path ++ raw_list b.others)
      (raw_all comma (omega arith) (λ z. omega (arith, z)) a.path a.others kx) (raw_all comma (omega arith) (λ z. omega (arith, z)) b.path b.others ky)
      (raw_all dash (omega arith) (λ z. omega (arith, z)) a.path a.others kx) (raw_all dash (omega arith) (λ z. omega (arith, z)) b.path b.others ky)
      (cancel (codes "raw=") (comma_list (raw_path a.path ++ raw_list a.others)) (comma_list (raw_path b.path ++ raw_list b.others)) h7) in
      let parts = backs_one (raw_path a.path) (raw_path b.path) (raw_list a.others) (raw_list b.others) told.0 raws in
      (path_one a.path b.path p.path_is q.path_is paths parts.0, told.1 parts.1)

  -- all of a route and its path identifier, by the fields from the next hop on
  pub route_tell : (m n : Option ℕ) → IfNamed m IsFourOctets → IfNamed n IsFourOctets → (x y : List (List ℕ)) → NoId x → NoId y → (x ≡ y → further_fields a ≡ further_fields b)
      → (attribute_fields a ++ id_fields m) ++ x ≡ (attribute_fields b ++ id_fields n) ++ y → (m ≡ n) × (a ≡ b)
  route_tell m n fm fn x y nx ny behind e =
      let (h0, t0) = cons_one e in
      let (h1, t1) = cons_one t0 in
      let (h2, t2) = cons_one t1 in
      let (h3, t3) = cons_one t2 in
      let (h4, t4) = cons_one t3 in
      let (h5, t5) = cons_one t4 in
      let (h6, t6) = cons_one t5 in
      let (h7, t7) = cons_one t6 in
      let (h8, t8) = cons_one t7 in
      let ids = id_one x y m n nx ny fm fn t8 in
      let hop = opt_one hop_text (All IsOctet) hop_dash hop_one a.hop b.hop p.hop_is q.hop_is (cancel (codes "next=") (text_or_absent hop_text a.hop) (text_or_absent hop_text b.hop) h0) in
      let origin = opt_one origin_text IsOctet origin_dash origin_one a.origin b.origin p.origin_is q.origin_is (cancel (codes "origin=") (text_or_absent origin_text a.origin) (text_or_absent origin_text b.origin) h1) in
      let med = opt_one number_text IsFourOctets octets_dash octet_one a.med b.med p.med_is q.med_is (cancel (codes "med=") (text_or_absent number_text a.med) (text_or_absent number_text b.med) h3) in
      let pref = opt_one number_text IsFourOctets octets_dash octet_one a.pref b.pref p.pref_is q.pref_is (cancel (codes "pref=") (text_or_absent number_text a.pref) (text_or_absent number_text b.pref) h4) in
      let atomic = atomic_one a.atomic b.atomic (cancel (codes "atomic=") (yes_or_no a.atomic) (yes_or_no b.atomic) h5) in
      let aggregator = opt_one aggregator_text IsGivenAggregator aggregator_dash aggregator_one a.aggregator b.aggregator p.aggregator_is q.aggregator_is (cancel (codes "agg=") (text_or_absent aggregator_text a.aggregator) (text_or_absent aggregator_text b.aggregator) h6) in
      let communities = communities_one a.communities b.communities p.communities_are q.communities_are (cancel (codes "comm=") (comma_list (map community_text a.communities)) (comma_list (map community_text b.communities)) h7) in
      let rest = further_tell (cancel (codes "path=") (text_or_absent path_text a.path) (text_or_absent path_text b.path) h2) (cancel (codes "other=") (others_text a.others) (others_text b.others) h8) (behind ids.1) in
      (ids.0, attrs_by a b origin rest.0 hop med pref atomic aggregator communities rest.1)

-- two rows with the same fields are one, whatever stands before the further ones
pub fields_tell : (row other : RowValue) → IsGivenRow row → IsGivenRow other → (x y : List (List ℕ)) → NoId x → NoId y → (x ≡ y → further_fields row.route ≡ further_fields other.route) → route_fields row ++ x ≡ route_fields other ++ y → row ≡ other
fields_tell row other p q x y nx ny behind e =
    let (h1, t1) = cons_one e in
    let (h2, t2) = cons_one t1 in
    let (h3, t3) = cons_one t2 in
    let key = key_text_one row.row_key.key other.row_key.key (peer_of row p) (peer_of other q) h1 in
    let view = view_text_one row.row_key.view other.row_key.view h2 in
    let prefix = prefix_text_one row.row_key.nlri.prefix other.row_key.nlri.prefix p.prefix_is q.prefix_is h3 in
    let (id, route) = route_tell row.route other.route p.route_is q.route_is row.row_key.nlri.id other.row_key.nlri.id p.id_is q.id_is x y nx ny behind t3 in
    λ i. record { row_key = record { key = key i; view = view i; nlri = record { prefix = prefix i; id = id i } }; route = route i }

flags_no_id : (a : AttrsValue) → NoId (further_fields a)
flags_no_id a = no_id (codes "flags=") (comma_list (map (λ other. hex_text (other.flags ∷ [])) a.others)) (drop 1 (further_fields a)) (λ z. omega (arith, z))

fields_one : (row other : RowValue) → IsGivenRow row → IsGivenRow other → full_fields row ≡ full_fields other → row ≡ other
fields_one row other p q e = fields_tell row other p q (further_fields row.route) (further_fields other.route) (flags_no_id row.route) (flags_no_id other.route) (λ z. z) e

-- two rows with one full line are the same row of the same lane
pub tells_all : TellsAll
tells_all lane other_lane row other fl fo p q e =
    let fields = further_one (number_text lane ∷ full_fields row) (number_text other_lane ∷ full_fields other) (octets_field lane fl, full_are row p) (octets_field other_lane fo, full_are other q)
    (cancel (codes "route") (further (number_text lane ∷ full_fields row)) (further (number_text other_lane ∷ full_fields other)) e) in
    let (h0, t0) = cons_one fields in
    (octet_one lane other_lane fl fo h0, fields_one row other p q t0)

-- ---- a full line begins with the plain line
pub body : List (List ℕ) → List ℕ
body [] = []
body (f ∷ fs) = 32 ∷ f ++ body fs

pub ended : (fs : List (List ℕ)) → further fs ≡ body fs ++ 10 ∷ []
unfolding body
ended [] = refl
ended (f ∷ fs) = ap (λ (l : List ℕ). 32 ∷ f ++ l) (ended fs) ∙ ap (λ (l : List ℕ). 32 ∷ l) (sym (append_assoc f (body fs) (10 ∷ [])))

pub goes_on : (fs : List (List ℕ)) (g : List ℕ) (gs : List (List ℕ)) → further (fs ++ g ∷ gs) ≡ body fs ++ 32 ∷ (g ++ further gs)
unfolding body
goes_on [] g gs = refl
goes_on (f ∷ fs) g gs = ap (λ (l : List ℕ). 32 ∷ f ++ l) (goes_on fs g gs) ∙ ap (λ (l : List ℕ). 32 ∷ l) (sym (append_assoc f (body fs) (32 ∷ (g ++ further gs))))

pub without_end : (xs : List ℕ) → take (length (xs ++ 10 ∷ []) - 1) (xs ++ 10 ∷ []) ≡ xs
without_end xs = ap (λ (n : ℕ). take n (xs ++ 10 ∷ [])) (omega (arith, length-append xs (10 ∷ []))) ∙ front xs
  where
    front : (us : List ℕ) → take (length us) (us ++ 10 ∷ []) ≡ us
    front [] = refl
    front (u ∷ us) = ap (λ (l : List ℕ). u ∷ l) (front us)

pub begins_with_line : BeginsWithLine
begins_with_line lane row =
    let fs : List (List ℕ) = number_text lane ∷ route_fields row in
    let whole = codes "route" ++ body fs in
    let line_is : route_line lane row ≡ whole ++ 10 ∷ [] = ap (λ (l : List ℕ). codes "route" ++ l) (ended fs) ∙ sym (append_assoc (codes "route") (body fs) (10 ∷ [])) in
    let g = codes "flags=" ++ comma_list (map (λ other. hex_text (other.flags ∷ [])) row.route.others) in
    let gs = drop 1 (further_fields row.route) in
    let full_is : full_line lane row ≡ whole ++ 32 ∷ (g ++ further gs) = ap (λ (l : List ℕ). codes "route" ++ l) (goes_on fs g gs) ∙ sym (append_assoc (codes "route") (body fs) (32 ∷ (g ++ further gs))) in
    let front : take (length (route_line lane row) - 1) (route_line lane row) ≡ whole = ap (λ (l : List ℕ). take (length l - 1) l) line_is ∙ without_end whole in
    (g ++ further gs, full_is ∙ ap (λ (l : List ℕ). l ++ 32 ∷ (g ++ further gs)) (sym front))
