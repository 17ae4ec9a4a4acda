-- Wrong results that the clauses of this crate don't let through, each at values.
use Rattle.std.proofs.Common.{◌≡◌, ℕ, true, [], ◌∷◌, None, Some, refl, arith}
use Rattle.std.specs.List.{IsDistinct}
use Rattle.bmp_specs.specs.declared.wire.Family.TheVariants.{V4}
use Rattle.bmp_specs.specs.declared.wire.IdUse.{IdUse}
use Rattle.bmp_specs.specs.declared.wire.Width.TheVariants.{Four}
use Rattle.bmp_specs.specs.Nlri.{AreNlri}
use Rattle.bmp_specs.specs.TreatAsWithdraw.{no_attributes}
use Rattle.bmp_specs.specs.Update.{IsUpdate, end_of_rib}
use Rattle.bmp_specs.specs.Values.{AttrsReadValue, PrefixValue, UpdateValue}

-- A path identifier is read and dropped.
a_path_identifier_is_not_dropped : (p : PrefixValue) → AreNlri V4 true (0 ∷ 0 ∷ 0 ∷ 1 ∷ 8 ∷ 10 ∷ []) (record { prefix = p; id = None } ∷ []) → ⊥
a_path_identifier_is_not_dropped p (front, rest, split, is, end) = grind (arith, is.id_is)

-- An UPDATE of attributes alone is an End-of-RIB marker.
abbrev read_with : ℕ → AttrsReadValue
read_with count = record { attrs = no_attributes; reach = None; unreach = None; count = count }

attributes_alone_are_no_marker : end_of_rib [] (read_with 1) [] ≡ Some V4 → ⊥
attributes_alone_are_no_marker marker = grind (arith, marker)

-- Running out of memory is told as a broken body, at a body that isn't.
abbrev nothing : UpdateValue
nothing = record { withdrawn = []; plain = []; plain_attrs = no_attributes; multi = []; multi_attrs = no_attributes; mark = Some V4; unread = 0 }

four_zeros_are_not_broken : (ids : IdUse) → ((u : UpdateValue) → IsUpdate Four ids (0 ∷ 0 ∷ 0 ∷ 0 ∷ []) u → ⊥) → ⊥
unfolding IsDistinct
four_zeros_are_not_broken ids broken = broken nothing (record {
  withdrawn_routes = [];
  path_attributes = [];
  nlri = [];
  fields = (0 ∷ 0 ∷ [], 0 ∷ 0 ∷ [], record { joined = refl }, record { header = omega arith; length_is = refl; value_is = refl }, (0 ∷ 0 ∷ [], [], record { joined = refl }, record { header = omega arith; length_is = refl; value_is = refl }, refl));
  read = read_with 0;
  attributes = record {
    parts = [];
    are = refl;
    distinct = tt;
    origin_is = tt;
    hop_is = tt;
    med_is = tt;
    pref_is = tt;
    atomic_is = refl;
    communities_are = refl;
    reach_is = tt;
    unreach_is = tt;
    stated = record { aggregator = None; as4_aggregator = None; as_path = None; as4_path = None };
    as_path_is = tt;
    aggregator_is = tt;
    as4_path_is = refl;
    as4_aggregator_is = refl;
    chosen = (refl, refl);
    others_are = refl;
    count_is = refl;
  };
  withdrawn = [];
  withdrawn_are = refl;
  unreachable = [];
  unreachable_are = refl;
  all_withdrawn = refl;
  plain_are = refl;
  plain_attrs_are = refl;
  multi_are = refl;
  multi_attrs_are = refl;
  mark_is = refl;
  unread_is = refl;
})
