-- Tables that are alike.
use Rattle.std.specs.Prelude.{◌≡◌, List}
use Rattle.std.specs.List.{AllZip}
use Rattle.bmp_specs.specs.Values.{PrefixValue}
use Rattle.prefix_trie.specs.Table.{TableValue}

-- the same prefixes, each with a value that is alike
abbrev pub AreAlike : {T : Type 0} → (T → T → Type 0) → List (PrefixValue × T) → List (PrefixValue × T) → Type 0
AreAlike R es fs = AllZip (λ e f. (f.0 ≡ e.0) × R e.1 f.1) es fs

-- tables of one family whose pairs are alike
pub record IsAlike {T : Type 0} (R : T → T → Type 0) (t u : TableValue T) : Type 0 where
  pub family : u.family ≡ t.family
  pub pairs : AreAlike R t.pairs u.pairs
