use Rattle.std.proofs.Common.{ℕ, List, IfNone, subst}
use Rattle.bmp_specs.specs.PrefixText.{IsPrefixText}
use Rattle.bmp_specs.specs.Values.{PrefixValue}
use Rattle.station_words.proofs.words.read_prefix.Goals as goal

pub returns-clause-none : goal.returns-clause-none
returns-clause-none c = subst (λ (l : List ℕ). IfNone c.parse_prefix.result ((prefix : PrefixValue) → IsPrefixText l prefix → ⊥)) c.as_bytes.ensures.value c.parse_prefix.ensures.none
