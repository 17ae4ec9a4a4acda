-- The attributes of a field, judged one after another as the loop does, and the value that judged attributes have.
use Rattle.std.proofs.Common.{◌≡◌, ◌+◌, ◌/◌, ◌%◌, ◌<◌, ℕ, Bool, true, false, cond, eqb, List, [], ◌∷◌, ◌++◌, length, drop, get_or, map, filter, not, find, Option, Some, None, inl, inr, refl, sym, ap, subst, ◌∙◌, arith}
use Rattle.std.specs.Prelude.{◌==◌, ◌↔◌, IfSome, IsTrue, MatchBool, MatchOption, ⊤}
use Rattle.std.specs.List.{list_any}
use Rattle.std.specs.Option.{option_map}
use Rattle.std.proofs.lemmas.Bool.{cond_both, eq-eqb, eqb-true}
use Rattle.std.proofs.lemmas.List.{nil_from_length}
use Rattle.byteorder.specs.Endian.{big_number}
use Rattle.bmp_specs.specs.declared.wire.Width.{Width}
use Rattle.bmp_specs.specs.declared.wire.Width.TheVariants.{Two, Four}
use Rattle.bmp_specs.specs.AsPath.{ArePath, as_width}
use Rattle.bmp_specs.specs.Attribute.{IsAttribute}
use Rattle.bmp_specs.specs.Attributes.{AreAttributes, AreCommunities, IsAggregator, IsAtomic, Optional, aggregator, as4_aggregator, as4_path, as_path, atomic_aggregate, communities, is_read, kept, local_pref, mp_reach_nlri, mp_unreach_nlri, multi_exit_disc, next_hop, origin, value_of}
use Rattle.bmp_specs.specs.FourOctetAs.{IsMergedPath, ignores_as4, merged_aggregator}
use Rattle.bmp_specs.specs.MergedPath.{merged_path, without_confederation}
use Rattle.bmp_specs.specs.MpNlri.{IsMpReach, IsMpUnreach}
use Rattle.bmp_specs.specs.Number.{IsNumber}
use Rattle.bmp_specs.specs.Parts.{AreParts}
use Rattle.bmp_specs.specs.Registries.{CodeRowValue, FitsShape}
use Rattle.bmp_specs.specs.Sequence.{HasFront, IsField}
use Rattle.bmp_specs.specs.Values.{AggregatorValue, AttrsReadValue, MpValue, OtherValue, SegmentValue}
use Rattle.bmp_specs.proofs.AttributesOne.{attribute_code}
use Rattle.bmp_specs.proofs.PartsRead.{AreParts-one}
use Rattle.as_path.proofs.Judging.{path_decides, IsDecided, parts_there}
use Rattle.path_attrs.specs.AsInfo.{StatesAs}
use Rattle.path_attrs.specs.Field.{HasShape}
use Rattle.path_attrs.specs.Judged.{FitsType, HasForms, IsFound, IsJudged, mp_value}
use Rattle.path_attrs.specs.declared.judge.Judged.{Judged}
use Rattle.path_attrs.proofs.AsStated.{states_four, states_ignored, states_merged}
use Rattle.path_attrs.proofs.Counting.{codes_of, counts_twice, counts_stuck}
use Rattle.path_attrs.proofs.Gathering.{HaveForms, Judges, value_of_first}
use Rattle.path_attrs.proofs.Keeping.{length-AreNumbers}
use Rattle.path_attrs.proofs.Reading.{front_part}

-- Attributes in turn.

-- no attribute stands at what is left
pub judges_stuck : (width : Width) (field rest : List ℕ) (seen : List Bool) (count : ℕ) (reach unreach : Option (List ℕ)) → Judges width field rest seen count reach unreach → 0 < length rest
    → ((a : OtherValue) (after : List ℕ) → HasFront IsAttribute rest a after → ⊥) → (read : AttrsReadValue) → AreAttributes width field read → ⊥
judges_stuck width field rest seen count reach unreach j left none read p = counts_stuck field rest seen count j.counts left none p.parts p.are

-- a second of one type stands there
pub judges_twice : (width : Width) (field rest after : List ℕ) (seen : List Bool) (count : ℕ) (reach unreach : Option (List ℕ)) (a : OtherValue) → Judges width field rest seen count reach unreach → HasFront IsAttribute rest a after
    → get_or seen a.code false ≡ true → (read : AttrsReadValue) → AreAttributes width field read → ⊥
judges_twice width field rest after seen count reach unreach a j here marked read p = counts_twice field rest after seen count a j.counts here marked p.parts p.are p.distinct

-- The forms of a field that is attributes.

match_both : {P Q : Type 0} (b : Bool) → (b ≡ true → P) → (b ≡ false → Q) → MatchBool b P Q
match_both true here there = here refl
match_both false here there = there refl

-- so many octets have the shape of their type, where they have that of each type with one
shape_cases : (code n : ℕ) → (code ≡ origin → n ≡ 1) → (code ≡ next_hop → n ≡ 4) → (code ≡ multi_exit_disc → n ≡ 4) → (code ≡ local_pref → n ≡ 4) → (code ≡ atomic_aggregate → n ≡ 0)
    → (code ≡ communities → n % 4 ≡ 0) → HasShape code n
shape_cases code n h1 h3 h4 h5 h6 h8 =
    row_case origin _ _ h1 (row_case as_path _ _ (λ _. tt) (row_case next_hop _ _ h3 (row_case multi_exit_disc _ _ h4 (row_case local_pref _ _ h5 (row_case atomic_aggregate _ _ h6 (
    row_case aggregator _ _ (λ _. tt) (row_case communities _ _ h8 (row_case mp_reach_nlri _ _ (λ _. tt) (row_case mp_unreach_nlri _ _ (λ _. tt) (row_case as4_path _ _ (λ _. tt) (
    row_case as4_aggregator _ _ (λ _. tt) tt)))))))))))
  where
    Fits : Option CodeRowValue → Type 0
    Fits found = MatchOption found ⊤ (λ row. FitsShape row.shape n)

    row_case : (k : ℕ) (row : CodeRowValue) (others : Option CodeRowValue) → (code ≡ k → FitsShape row.shape n) → Fits others → Fits (cond (eqb k code) (Some row) others)
    row_case k row others here later = cond_both (eqb k code) (Some row) others Fits (λ e. here (sym (eqb-true k code e))) (λ _. later)

-- the value has the form of its type, where it has that of each type with one
form_cases : (width : Width) (code : ℕ) (value : List ℕ) → (code ≡ origin → length value ≡ 1) → (code ≡ as_path → (path : List SegmentValue) × ArePath width value path) → (code ≡ next_hop → length value ≡ 4)
    → (code ≡ multi_exit_disc → length value ≡ 4) → (code ≡ local_pref → length value ≡ 4) → (code ≡ atomic_aggregate → length value ≡ 0)
    → (code ≡ aggregator → (a : AggregatorValue) × IsAggregator width value a) → (code ≡ communities → length value % 4 ≡ 0) → FitsType width code value
form_cases width code value h1 h2 h3 h4 h5 h6 h7 h8 =
    match_both (eqb code as_path) (λ e. h2 (eqb-true code as_path e))
    (λ _. match_both (eqb code aggregator) (λ e. h7 (eqb-true code aggregator e)) (λ _. shape_cases code (length value) h1 h3 h4 h5 h6 h8))

-- what stands there has a value
optional_some : {V : Type 0} (Is : List ℕ → V → Type 0) (found : Option (List ℕ)) (value : List ℕ) (v : Option V) → found ≡ Some value → Optional Is found v → (w : V) × Is value w
optional_some {V} Is found value v e p = at v (subst (λ (o : Option (List ℕ)). Optional Is o v) e p)
  where
    at : (v : Option V) → Optional Is (Some value) v → (w : V) × Is value w
    at None q = absurd q
    at (Some w) q = (w, q)

number_length : (n : ℕ) (value : List ℕ) → (v : ℕ) × IsNumber n value v → length value ≡ n
number_length n value q = q.1.len

field_length : (n : ℕ) (value : List ℕ) → (v : List ℕ) × IsField n value v → length value ≡ n
field_length n value q = q.1.len

atomic_length : (found : Option (List ℕ)) (value : List ℕ) (atomic : Bool) → found ≡ Some value → IsAtomic found atomic → length value ≡ 0
atomic_length found value atomic e p = let q : (value ≡ []) × (atomic ≡ true) = subst (λ (o : Option (List ℕ)). IsAtomic o atomic) e p in ap (λ (l : List ℕ). length l) q.0

communities_length : (found : Option (List ℕ)) (value values : List ℕ) → found ≡ Some value → AreCommunities found values → length value % 4 ≡ 0
communities_length found value values e p =
    let q : AreParts (IsNumber 4) value values = subst (λ (o : Option (List ℕ)). AreCommunities o values) e p in
    omega (arith, length-AreNumbers value values q)

-- the value at a type has the form of the type
form_at : (width : Width) (field : List ℕ) (read : AttrsReadValue) (p : AreAttributes width field read) (code : ℕ) (value : List ℕ) → value_of code p.parts ≡ Some value → FitsType width code value
form_at width field read p code value e = form_cases width code value
    (λ is. number_length 1 value (optional_some (IsNumber 1) (value_of origin p.parts) value read.attrs.origin (here origin is) p.origin_is))
    (λ is. optional_some (ArePath width) (value_of as_path p.parts) value p.stated.as_path (here as_path is) p.as_path_is)
    (λ is. field_length 4 value (optional_some (IsField 4) (value_of next_hop p.parts) value read.attrs.hop (here next_hop is) p.hop_is))
    (λ is. number_length 4 value (optional_some (IsNumber 4) (value_of multi_exit_disc p.parts) value read.attrs.med (here multi_exit_disc is) p.med_is))
    (λ is. number_length 4 value (optional_some (IsNumber 4) (value_of local_pref p.parts) value read.attrs.pref (here local_pref is) p.pref_is))
    (λ is. atomic_length (value_of atomic_aggregate p.parts) value read.attrs.atomic (here atomic_aggregate is) p.atomic_is)
    (λ is. optional_some (IsAggregator width) (value_of aggregator p.parts) value p.stated.aggregator (here aggregator is) p.aggregator_is)
    (λ is. communities_length (value_of communities p.parts) value read.attrs.communities (here communities is) p.communities_are)
  where
    here : (k : ℕ) → code ≡ k → value_of k p.parts ≡ Some value
    here k is = subst (λ (j : ℕ). value_of j p.parts ≡ Some value) is e

-- an attribute without the form of its type stands there
pub judges_unfit : (width : Width) (field rest after : List ℕ) (seen : List Bool) (count : ℕ) (reach unreach : Option (List ℕ)) (a : OtherValue) → Judges width field rest seen count reach unreach → HasFront IsAttribute rest a after
    → get_or seen a.code false ≡ false → (FitsType width a.code a.value → ⊥) → (read : AttrsReadValue) → AreAttributes width field read → ⊥
judges_unfit width field rest after seen count reach unreach a j here unseen unfit read p =
    let c = j.counts in
    let q = c.read.only p.parts p.are in
    let r = front_part rest after a q.0 here q.2 in
    let together : p.parts ≡ c.parts ++ a ∷ r.0 = q.1 ∙ ap (λ (l : List OtherValue). c.parts ++ l) r.1 in
    let fresh : list_any (eqb a.code) (codes_of c.parts) ≡ false = sym (c.marks a.code) ∙ unseen in
    let found : value_of a.code p.parts ≡ Some a.value = ap (λ (l : List OtherValue). value_of a.code l) together ∙ value_of_first a.code c.parts r.0 a fresh (eq-eqb a.code a.code refl) in
    unfit (form_at width field read p a.code a.value found)

-- The value of a field whose attributes have the forms of their types.

-- the value at a type has the form of the type
pub fits_at : (width : Width) (code : ℕ) (parts : List OtherValue) → HaveForms width parts → IfSome (value_of code parts) (λ value. FitsType width code value)
fits_at width code [] all = tt
fits_at width code (a ∷ parts) all = go (eqb a.code code) refl (fits_at width code parts all.1)
  where
    go : (b : Bool) → eqb a.code code ≡ b → IfSome (value_of code parts) (λ value. FitsType width code value)
        → IfSome (option_map (λ (d : OtherValue). d.value) (cond b (Some a) (find (λ d. d.code == code) parts))) (λ value. FitsType width code value)
    go true e later = subst (λ (k : ℕ). FitsType width k a.value) (eqb-true a.code code e) all.0
    go false e later = later

-- a value, where something of the form stands there
optional_there : {V : Type 0} (Is : List ℕ → V → Type 0) (Fits : List ℕ → Type 0) → ((value : List ℕ) → Fits value → (v : V) × Is value v) → (found : Option (List ℕ)) → IfSome found Fits → (v : Option V) × Optional Is found v
optional_there Is Fits gives None h = (None, tt)
optional_there Is Fits gives (Some value) h = let q = gives value h in (Some q.0, q.1)

number_there : (n : ℕ) (value : List ℕ) → length value ≡ n → (v : ℕ) × IsNumber n value v
number_there n value e = (big_number n value, record { len = e; value_is = refl })

field_there : (n : ℕ) (value : List ℕ) → length value ≡ n → (v : List ℕ) × IsField n value v
field_there n value e = (value, record { len = e; value_is = refl })

-- octets are AGGREGATOR exactly where they are as many
pub aggregator_form : (width : Width) (value : List ℕ) (size : ℕ) → size ≡ as_width width → IsTrue (eqb (length value) (size + 4)) ↔ ((a : AggregatorValue) × IsAggregator width value a)
aggregator_form width value size e = (
  λ yes.
      let long : length value ≡ as_width width + 4 = eqb-true (length value) (size + 4) yes ∙ ap (λ (n : ℕ). n + 4) e in
      (record { asn = big_number (as_width width) value; identifier = drop (as_width width) value }, record { len = long; asn_is = refl; identifier_is = refl }),
  λ q. eq-eqb (length value) (size + 4) (q.1.len ∙ ap (λ (n : ℕ). n + 4) (sym e)),
)

atomic_there : (found : Option (List ℕ)) → IfSome found (λ value. length value ≡ 0) → (atomic : Bool) × IsAtomic found atomic
atomic_there None h = (false, refl)
atomic_there (Some value) h = (true, (nil_from_length value h, refl))

communities_there : (found : Option (List ℕ)) → IfSome found (λ value. length value % 4 ≡ 0) → (values : List ℕ) × AreCommunities found values
communities_there None h = ([], refl)
communities_there (Some value) h = parts_there (IsNumber 4) 4 (number_there 4) (length value / 4) value (omega (arith, h))

-- what AS_PATH and AS4_PATH give together, whatever octets AS4_PATH has
merged_there : (path : Option (List SegmentValue)) (octets4 : Option (List ℕ)) → (merged : Option (List SegmentValue)) × IsMergedPath path octets4 merged
merged_there None octets4 = (None, refl)
merged_there (Some path) None = (Some path, refl)
merged_there (Some path) (Some value) = at (path_decides Four value)
  where
    at : IsDecided Four value → (merged : Option (List SegmentValue)) × IsMergedPath (Some path) (Some value) merged
    at (inl (four, are)) = (Some (merged_path path (without_confederation four)), inl (record { segments = four; are = are; path_is = refl }))
    at (inr none) = (Some path, inr (record { none = none; path_is = refl }))

-- an aggregator and a path, where AGGREGATOR and AS_PATH have theirs
states_there : (width : Width) (value : ℕ → Option (List ℕ)) (g : Option AggregatorValue) (p : Option (List SegmentValue)) → Optional (ArePath width) (value as_path) p → Optional (IsAggregator width) (value aggregator) g
    → (chosen : Option AggregatorValue) × (path : Option (List SegmentValue)) × StatesAs width value chosen path
states_there Four value g p paths aggregators = (g, p, states_four Four refl value g p paths aggregators)
states_there Two value g p paths aggregators = at (ignores_as4 g (value as4_aggregator)) refl
  where
    at : (b : Bool) → ignores_as4 g (value as4_aggregator) ≡ b → (chosen : Option AggregatorValue) × (path : Option (List SegmentValue)) × StatesAs Two value chosen path
    at true e = (g, p, states_ignored Two refl value g p (value as4_aggregator) paths aggregators refl e)
    at false e =
        let m = merged_there p (value as4_path) in
        let h = merged_aggregator g (value as4_aggregator) in
        (h, m.0, states_merged Two refl value g h p m.0 (value as4_aggregator) (value as4_path) paths aggregators refl refl e refl m.1)

-- the field has attributes with these two
attributes_are : (width : Width) (field : List ℕ) (count : ℕ) (r u : Option MpValue) (h : HasForms width field count) → Optional IsMpReach (value_of mp_reach_nlri h.parts) r → Optional IsMpUnreach (value_of mp_unreach_nlri h.parts) u
    → (read : AttrsReadValue) × AreAttributes width field read × (read.reach ≡ r) × (read.unreach ≡ u) × (read.count ≡ count)
attributes_are width field count r u h rs us =
    let parts = h.parts in
    let value : ℕ → Option (List ℕ) = λ code. value_of code parts in
    let origins = optional_there (IsNumber 1) (λ v. length v ≡ 1) (number_there 1) (value origin) (fits_at width origin parts h.forms) in
    let hops = optional_there (IsField 4) (λ v. length v ≡ 4) (field_there 4) (value next_hop) (fits_at width next_hop parts h.forms) in
    let meds = optional_there (IsNumber 4) (λ v. length v ≡ 4) (number_there 4) (value multi_exit_disc) (fits_at width multi_exit_disc parts h.forms) in
    let prefs = optional_there (IsNumber 4) (λ v. length v ≡ 4) (number_there 4) (value local_pref) (fits_at width local_pref parts h.forms) in
    let atomics = atomic_there (value atomic_aggregate) (fits_at width atomic_aggregate parts h.forms) in
    let lists = communities_there (value communities) (fits_at width communities parts h.forms) in
    let aggregators = optional_there (IsAggregator width) (λ v. (a : AggregatorValue) × IsAggregator width v a) (λ v q. q) (value aggregator) (fits_at width aggregator parts h.forms) in
    let paths = optional_there (ArePath width) (λ v. (path : List SegmentValue) × ArePath width v path) (λ v q. q) (value as_path) (fits_at width as_path parts h.forms) in
    let chosen = states_there width value aggregators.0 paths.0 paths.1 aggregators.1 in
    let s = chosen.2 in
    let read : AttrsReadValue = record {
      attrs = record {
        origin = origins.0;
        path = chosen.1;
        hop = hops.0;
        med = meds.0;
        pref = prefs.0;
        atomic = atomics.0;
        aggregator = chosen.0;
        communities = lists.0;
        others = map kept (filter (λ a. not (is_read a)) parts);
      };
      reach = r;
      unreach = u;
      count = length parts;
    } in (
      read,
      record {
        parts = parts;
        are = h.are;
        distinct = h.distinct;
        origin_is = origins.1;
        hop_is = hops.1;
        med_is = meds.1;
        pref_is = prefs.1;
        atomic_is = atomics.1;
        communities_are = lists.1;
        reach_is = rs;
        unreach_is = us;
        stated = s.stated;
        as_path_is = s.as_path_is;
        aggregator_is = s.aggregator_is;
        as4_path_is = s.as4_path_is;
        as4_aggregator_is = s.as4_aggregator_is;
        chosen = s.chosen;
        others_are = refl;
        count_is = refl;
      },
      refl,
      refl,
      sym h.count_is,
    )

pub judged_are : (width : Width) (field : List ℕ) (judged : Judged) (reach unreach : Option (List ℕ)) → IsFound width field judged.count reach unreach → Optional IsMpReach reach (option_map mp_value judged.reach)
    → Optional IsMpUnreach unreach (option_map mp_value judged.unreach) → IsJudged width field judged
judged_are width field judged reach unreach f rs us =
    let q = attributes_are width field judged.count (option_map mp_value judged.reach) (option_map mp_value judged.unreach) f.forms
    (subst (λ (o : Option (List ℕ)). Optional IsMpReach o (option_map mp_value judged.reach)) f.reach_is rs)
    (subst (λ (o : Option (List ℕ)). Optional IsMpUnreach o (option_map mp_value judged.unreach)) f.unreach_is us) in
    record { read = q.0; are = q.1; reach_is = q.2; unreach_is = q.3; count_is = q.4; forms = f.forms }

-- A value that has no value of the form of MP_REACH_NLRI or MP_UNREACH_NLRI.

pub same_value : (width : Width) (field : List ℕ) (count : ℕ) (h : HasForms width field count) (read : AttrsReadValue) (p : AreAttributes width field read) (code : ℕ) → value_of code p.parts ≡ value_of code h.parts
same_value width field count h read p code = ap (λ (l : List OtherValue). value_of code l) (AreParts-one IsAttribute attribute_code field p.parts h.parts p.are h.are)

pub reach_broken : (width : Width) (field : List ℕ) (count : ℕ) (reach unreach : Option (List ℕ)) → IsFound width field count reach unreach → ((m : Option MpValue) → Optional IsMpReach reach m → ⊥) → (read : AttrsReadValue) → AreAttributes width field read → ⊥
reach_broken width field count reach unreach f none read p =
    none read.reach (subst (λ (o : Option (List ℕ)). Optional IsMpReach o read.reach) (same_value width field count f.forms read p mp_reach_nlri ∙ sym f.reach_is) p.reach_is)

pub unreach_broken : (width : Width) (field : List ℕ) (count : ℕ) (reach unreach : Option (List ℕ)) → IsFound width field count reach unreach → ((m : Option MpValue) → Optional IsMpUnreach unreach m → ⊥) → (read : AttrsReadValue) → AreAttributes width field read → ⊥
unreach_broken width field count reach unreach f none read p =
    none read.unreach (subst (λ (o : Option (List ℕ)). Optional IsMpUnreach o read.unreach) (same_value width field count f.forms read p mp_unreach_nlri ∙ sym f.unreach_is) p.unreach_is)

-- The form of a type that is told by its row.

unmatched : (P Q : Type 0) (b : Bool) → (b ≡ true → ⊥) → MatchBool b P Q → Q
unmatched P Q true not_so p = absurd (not_so refl)
unmatched P Q false not_so q = q

-- a value of another type than AS_PATH and AGGREGATOR has the form of its type where it has the shape of its row
pub other_form : (width : Width) (code : ℕ) (value : List ℕ) (told : Bool) → (code ≡ as_path → ⊥) → (code ≡ aggregator → ⊥) → IsTrue told ↔ HasShape code (length value) → IsTrue told ↔ FitsType width code value
other_form width code value told not_path not_aggregator tells = (
  λ yes. match_both (eqb code as_path) (λ e. absurd (no_path e)) (λ _. match_both (eqb code aggregator) (λ e. absurd (no_aggregator e)) (λ _. tells.0 yes)),
  λ fits. tells.1 (unmatched HasAggregator (HasShape code (length value)) (eqb code aggregator) no_aggregator (unmatched HasSegments (MatchBool (eqb code aggregator) HasAggregator (HasShape code (length value))) (eqb code as_path) no_path fits)),
)
  where
    HasSegments : Type 0
    HasSegments = (path : List SegmentValue) × ArePath width value path

    HasAggregator : Type 0
    HasAggregator = (a : AggregatorValue) × IsAggregator width value a

    no_path : eqb code as_path ≡ true → ⊥
    no_path e = not_path (eqb-true code as_path e)

    no_aggregator : eqb code aggregator ≡ true → ⊥
    no_aggregator e = not_aggregator (eqb-true code aggregator e)
