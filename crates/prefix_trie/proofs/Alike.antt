-- Tables that are alike have the same prefixes.
use Rattle.std.proofs.Common.{◌≡◌, List, [], ◌∷◌, refl}
use Rattle.std.specs.Map.{keys_of}
use Rattle.bmp_specs.specs.Values.{PrefixValue}
use Rattle.prefix_trie.specs.Sharing.{AreAlike}

pub keys-alike : {T : Type 0} (R : T → T → Type 0) (es fs : List (PrefixValue × T)) → AreAlike R es fs → keys_of fs ≡ keys_of es
keys-alike R [] [] a = refl
keys-alike R [] (f ∷ fs) a = absurd a
keys-alike R (e ∷ es) [] a = absurd a
keys-alike R (e ∷ es) (f ∷ fs) a = rw (a.0.0, keys-alike R es fs a.1) refl
