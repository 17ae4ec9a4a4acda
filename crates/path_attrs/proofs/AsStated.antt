-- What the four attributes of ASes state, from what was read of each.
use Rattle.std.proofs.Common.{◌≡◌, ℕ, true, false, List, Option, refl, sym, subst}
use Rattle.bmp_specs.specs.declared.wire.Width.{Width}
use Rattle.bmp_specs.specs.declared.wire.Width.TheVariants.{Two, Four}
use Rattle.bmp_specs.specs.AsPath.{ArePath}
use Rattle.bmp_specs.specs.Attributes.{IsAggregator, Optional, aggregator, as4_aggregator, as4_path, as_path}
use Rattle.bmp_specs.specs.FourOctetAs.{AsAttributes, Chooses, IsMergedPath, ignores_as4, merged_aggregator}
use Rattle.bmp_specs.specs.Values.{AggregatorValue, SegmentValue}
use Rattle.path_attrs.specs.AsInfo.{StatesAs}

pub states_four : (width : Width) → width ≡ Four → (value : ℕ → Option (List ℕ)) (g : Option AggregatorValue) (p : Option (List SegmentValue))
    → Optional (ArePath width) (value as_path) p → Optional (IsAggregator width) (value aggregator) g → StatesAs width value g p
states_four width e value g p paths aggregators =
    let a : AsAttributes = record { aggregator = g; as4_aggregator = value as4_aggregator; as_path = p; as4_path = value as4_path } in
    record { stated = a; as_path_is = paths; aggregator_is = aggregators; as4_path_is = refl; as4_aggregator_is = refl; chosen = subst (λ (w : Width). Chooses w a g p) (sym e) (refl, refl) }

pub states_ignored : (width : Width) → width ≡ Two → (value : ℕ → Option (List ℕ)) (g : Option AggregatorValue) (p : Option (List SegmentValue)) (x : Option (List ℕ))
    → Optional (ArePath width) (value as_path) p → Optional (IsAggregator width) (value aggregator) g → x ≡ value as4_aggregator → ignores_as4 g x ≡ true → StatesAs width value g p
states_ignored width e value g p x paths aggregators xs ignored =
    let a : AsAttributes = record { aggregator = g; as4_aggregator = x; as_path = p; as4_path = value as4_path } in
    let here : Chooses Two a g p = rw ignored (refl, refl) in
    record { stated = a; as_path_is = paths; aggregator_is = aggregators; as4_path_is = refl; as4_aggregator_is = xs; chosen = subst (λ (w : Width). Chooses w a g p) (sym e) here }

pub states_merged : (width : Width) → width ≡ Two → (value : ℕ → Option (List ℕ)) (g h : Option AggregatorValue) (p q : Option (List SegmentValue)) (x y : Option (List ℕ))
    → Optional (ArePath width) (value as_path) p → Optional (IsAggregator width) (value aggregator) g → x ≡ value as4_aggregator → y ≡ value as4_path
    → ignores_as4 g x ≡ false → h ≡ merged_aggregator g x → IsMergedPath p y q → StatesAs width value h q
states_merged width e value g h p q x y paths aggregators xs ys kept hs merged =
    let a : AsAttributes = record { aggregator = g; as4_aggregator = x; as_path = p; as4_path = y } in
    let here : Chooses Two a h q = rw kept (hs, merged) in
    record { stated = a; as_path_is = paths; aggregator_is = aggregators; as4_path_is = ys; as4_aggregator_is = xs; chosen = subst (λ (w : Width). Chooses w a h q) (sym e) here }
