-- What a wrong search would answer, and that it isn't what the contract asks for.
use Rattle.std.proofs.Common.{◌≡◌, ℕ, List, [], ◌∷◌, Some, get_or, refl, ap}
use Rattle.std.proofs.lemmas.Bool.{eqb-false}
use Rattle.bmp_specs.specs.declared.wire.Family.TheVariants.{V4}
use Rattle.bmp_specs.specs.Prefix.{padded, prefix_of}
use Rattle.prefix_trie.specs.Longest.{IsLongest}

-- 10.0.0.0/8 is the last prefix before 11.0.0.1, and doesn't hold it: who takes what the first look finds answers it.
the_last_before_an_address_may_not_hold_it : IsLongest {T = ℕ} (record { family = V4; octets = padded (11 ∷ 0 ∷ 0 ∷ 1 ∷ []) }) ((prefix_of V4 8 (10 ∷ []), 7) ∷ []) (Some (prefix_of V4 8 (10 ∷ []), 7)) → ⊥
the_last_before_an_address_may_not_hold_it is = eqb-false 10 11 refl (ap (λ (l : List ℕ). get_or l 0 0) is.holds.agree)
