-- A file is one list of VRPs at most, and none where it has a bad record.
use Rattle.std.proofs.Common.{◌≡◌, ℕ, zero, suc, ◌<◌, List, [], ◌∷◌, length, drop, get_or, refl, sym, ap, ◌∙◌, arith}
use Rattle.std.specs.List.{AllZip}
use Rattle.bmp_specs.specs.Values.{PrefixValue}
use Rattle.ip_prefix.proofs.OneValue.{prefix_one}
use Rattle.ip_prefix.proofs.PrefixReading.{same_number}
use Rattle.rov_table.specs.declared.vrp.Vrp.{Vrp}
use Rattle.rov_table.specs.VrpFile.{without_as, IsMaxText, SpellsVrp, IsVrp, AreVrps, IsFirstBad}

pub max_one : (text : List ℕ) (own own' m n : ℕ) → own ≡ own' → IsMaxText text own m → IsMaxText text own' n → m ≡ n
max_one [] own own' m n e p q = p ∙ e ∙ sym q
max_one (b ∷ bs) own own' m n e p q = same_number (b ∷ bs) m n p q

spells_one : (asn prefix max : List ℕ) (v w : Vrp) → SpellsVrp asn prefix max v → SpellsVrp asn prefix max w → v ≡ w
spells_one asn prefix max v w p q =
    let number : v.asn ≡ w.asn = same_number (without_as asn) v.asn w.asn p.asn_is q.asn_is in
    let own : v.prefix ≡ w.prefix = prefix_one prefix v.prefix w.prefix p.prefix_is q.prefix_is in
    let most : v.max ≡ w.max = max_one max v.prefix.bits w.prefix.bits v.max w.max (ap (λ (x : PrefixValue). x.bits) own) p.max_is q.max_is in
    ap (λ (x : PrefixValue). let u : Vrp = record { prefix = x; max = v.max; asn = v.asn } in u) own
    ∙ ap (λ (n : ℕ). let u : Vrp = record { prefix = w.prefix; max = n; asn = v.asn } in u) most
    ∙ ap (λ (n : ℕ). let u : Vrp = record { prefix = w.prefix; max = w.max; asn = n } in u) number

pub vrp_one : (fields : List (List ℕ)) (v w : Vrp) → IsVrp fields v → IsVrp fields w → v ≡ w
vrp_one [] v w p q = absurd p
vrp_one (a ∷ []) v w p q = absurd p
vrp_one (a ∷ b ∷ []) v w p q = absurd p
vrp_one (a ∷ b ∷ c ∷ further) v w p q = spells_one a b c v w p q

zip_one : (rows : List (List (List ℕ))) (vs ws : List Vrp) → AllZip IsVrp rows vs → AllZip IsVrp rows ws → vs ≡ ws
zip_one [] [] [] p q = refl
zip_one [] [] (w ∷ ws) p q = absurd q
zip_one [] (v ∷ vs) ws p q = absurd p
zip_one (r ∷ rows) [] ws p q = absurd p
zip_one (r ∷ rows) (v ∷ vs) [] p q = absurd q
zip_one (r ∷ rows) (v ∷ vs) (w ∷ ws) p q = ap (λ (x : Vrp). x ∷ vs) (vrp_one r v w p.0 q.0) ∙ ap (λ (l : List Vrp). w ∷ l) (zip_one rows vs ws p.1 q.1)

pub file_one : (rows : List (List (List ℕ))) (vs ws : List Vrp) → AreVrps rows vs → AreVrps rows ws → vs ≡ ws
file_one rows vs ws p q = zip_one (drop 1 rows) vs ws p q

each_is : (rows : List (List (List ℕ))) (vs : List Vrp) (k : ℕ) → k < length rows → AllZip IsVrp rows vs → (v : Vrp) × IsVrp (get_or rows k []) v
each_is [] vs k l p = absurd (omega arith)
each_is (r ∷ rows) [] k l p = absurd p
each_is (r ∷ rows) (v ∷ vs) zero l p = (v, p.0)
each_is (r ∷ rows) (v ∷ vs) (suc k) l p = each_is rows vs k (omega arith) p.1

pub none_bad : (rows : List (List (List ℕ))) (vs : List Vrp) (line : ℕ) → AreVrps rows vs → IsFirstBad rows line → ⊥
none_bad [] vs line p bad = let l = bad.within in absurd (omega arith)
none_bad (r ∷ rows) vs zero p bad = let l = bad.later in absurd (omega arith)
none_bad (r ∷ rows) vs (suc line) p bad = let (v, is) = each_is rows vs line (let l = bad.within in omega arith) p in bad.bad v is
