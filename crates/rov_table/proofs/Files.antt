-- The records that were read so far, and their VRPs.
use Rattle.std.proofs.Common.{◌≡◌, ℕ, ◌+◌, ◌<◌, List, [], ◌∷◌, ◌++◌, length, take, get_or, refl, sym, ap, subst, ◌∙◌, arith, append_assoc, length-append, append-nil}
use Rattle.std.proofs.lemmas.List.{get_or_at, take_at}
use Rattle.std.proofs.lemmas.Slice.Zip.{all_zipped_more}
use Rattle.rov_table.specs.declared.vrp.Vrp.{Vrp}
use Rattle.rov_table.specs.VrpFile.{IsVrp, AreVrps, IsFirstBad}

-- what was read of all records: these, and their VRPs; those to come
pub record HasRead (all : List (List (List ℕ))) (line : ℕ) (vrps : List Vrp) (others : List (List (List ℕ))) : Type 0 where
  pub before : List (List (List ℕ))
  pub whole : all ≡ before ++ others
  pub count : length before ≡ line
  pub are : AreVrps before vrps

pub read_none : (all : List (List (List ℕ))) → HasRead all 0 [] all
read_none all = record { before = []; whole = refl; count = refl; are = tt }

go : (all before others rest : List (List (List ℕ))) (fields : List (List ℕ)) → all ≡ before ++ others → others ≡ fields ∷ rest → all ≡ (before ++ (fields ∷ [])) ++ rest
go all before others rest fields whole e = whole ∙ ap (λ (l : List (List (List ℕ))). before ++ l) e ∙ sym (append_assoc before (fields ∷ []) rest)

vrps_skip : (before : List (List (List ℕ))) (fields : List (List ℕ)) (vrps : List Vrp) → length before ≡ 0 → AreVrps before vrps → AreVrps (before ++ (fields ∷ [])) vrps
vrps_skip [] fields vrps e are = are
vrps_skip (b ∷ before) fields vrps e are = absurd (omega arith)

vrps_more : (before : List (List (List ℕ))) (fields : List (List ℕ)) (vrps : List Vrp) (v : Vrp) → 0 < length before → AreVrps before vrps → IsVrp fields v → AreVrps (before ++ (fields ∷ [])) (vrps ++ (v ∷ []))
vrps_more [] fields vrps v h are is = absurd (omega arith)
vrps_more (b ∷ before) fields vrps v h are is = all_zipped_more IsVrp before vrps fields v are is

-- the first record is passed over
pub read_first : (all others rest : List (List (List ℕ))) (fields : List (List ℕ)) (line : ℕ) (vrps : List Vrp) → HasRead all line vrps others → others ≡ fields ∷ rest → line ≡ 0 → HasRead all (line + 1) vrps rest
read_first all others rest fields line vrps h e none = record {
  before = h.before ++ (fields ∷ []);
  whole = go all h.before others rest fields h.whole e;
  count = length-append h.before (fields ∷ []) ∙ ap (λ (n : ℕ). n + 1) h.count;
  are = vrps_skip h.before fields vrps (h.count ∙ none) h.are;
}

-- a later one is a VRP
pub read_more : (all others rest : List (List (List ℕ))) (fields : List (List ℕ)) (line : ℕ) (vrps : List Vrp) (v : Vrp) → HasRead all line vrps others → others ≡ fields ∷ rest → 0 < line → IsVrp fields v
    → HasRead all (line + 1) (vrps ++ (v ∷ [])) rest
read_more all others rest fields line vrps v h e some is = record {
  before = h.before ++ (fields ∷ []);
  whole = go all h.before others rest fields h.whole e;
  count = length-append h.before (fields ∷ []) ∙ ap (λ (n : ℕ). n + 1) h.count;
  are = vrps_more h.before fields vrps v (omega (arith, h.count)) h.are is;
}

-- or it is the first that is none
pub read_bad : (all others rest : List (List (List ℕ))) (fields : List (List ℕ)) (line : ℕ) (vrps : List Vrp) → HasRead all line vrps others → others ≡ fields ∷ rest → 0 < line → ((v : Vrp) → IsVrp fields v → ⊥)
    → IsFirstBad all line
read_bad all others rest fields line vrps h e some bad =
    let whole : all ≡ h.before ++ (fields ∷ rest) = h.whole ∙ ap (λ (l : List (List (List ℕ))). h.before ++ l) e in
    record {
      later = some;
      within = omega (arith, ap length whole, length-append h.before (fields ∷ rest), h.count);
      before = (vrps, subst (λ (l : List (List (List ℕ))). AreVrps l vrps) (sym (ap (take line) whole ∙ take_at h.before (fields ∷ rest) line h.count)) h.are);
      bad = λ v is. bad v (subst (λ (l : List (List ℕ)). IsVrp l v) (ap (λ (l : List (List (List ℕ))). get_or l line []) whole ∙ get_or_at h.before fields rest [] line h.count) is);
    }

-- all were read
pub read_all : (all others : List (List (List ℕ))) (line : ℕ) (vrps : List Vrp) → HasRead all line vrps others → others ≡ [] → AreVrps all vrps
read_all all others line vrps h e = subst (λ (l : List (List (List ℕ))). AreVrps l vrps) (sym (h.whole ∙ ap (λ (l : List (List (List ℕ))). h.before ++ l) e ∙ append-nil h.before)) h.are
