-- The parts of a message that were passed over, one effect after another.
use Rattle.std.proofs.Common.{◌≡◌, ℕ, ◌+◌, ◌<◌, List, [], ◌∷◌, length, map, take, get_or, refl, ap, ◌∙◌, arith}
use Rattle.std.specs.Prelude.{sum_by}
use Rattle.std.specs.Arc.{arc_value}
use Rattle.std.proofs.lemmas.List.Sums.{sum_by-append}
use Rattle.bmp_specs.specs.declared.peers.View.{View}
use Rattle.bmp_specs.specs.Counts.{parts_in}
use Rattle.bmp_specs.specs.Reply.{told_count}
use Rattle.bmp_specs.specs.Values.{AttrsValue, KeyValue, NlriValue, announce, withdraw}
use Rattle.rib_model.specs.Effects.{effect_values, item_values}
use Rattle.rib_model.specs.declared.effect.Effect.{Effect}
use Rattle.rib_model.specs.declared.effect.Effect.TheVariants.{Up, Down, Announce, Withdraw, Mark, Statistic, Name, Descr, Orphan, Mirrored, Passed, Unread}
use Rattle.rib_model.proofs.Items.{values_taken}

none_announced : (key : KeyValue) (view : View) (route : AttrsValue) (nlris : List NlriValue) → 0 ≡ sum_by parts_in (map (λ n. announce key view n route) nlris)
none_announced key view route [] = refl
none_announced key view route (n ∷ nlris) = none_announced key view route nlris

none_withdrawn : (key : KeyValue) (view : View) (nlris : List NlriValue) → 0 ≡ sum_by parts_in (map (λ n. withdraw key view n) nlris)
none_withdrawn key view [] = refl
none_withdrawn key view (n ∷ nlris) = none_withdrawn key view nlris

-- effects of the other kinds have none
pub none_passed : (e : Effect) → ((parts : ℕ) → e ≡ Unread parts → ⊥) → 0 ≡ sum_by parts_in (item_values e)
none_passed (Up k info) other = refl
none_passed (Down k info) other = refl
none_passed (Announce k view nlris route) other = none_announced k view (arc_value route) nlris
none_passed (Withdraw k view nlris) other = none_withdrawn k view nlris
none_passed (Mark k view family) other = refl
none_passed (Statistic k stat) other = refl
none_passed (Name bytes) other = refl
none_passed (Descr bytes) other = refl
none_passed Orphan other = refl
none_passed Mirrored other = refl
none_passed Passed other = refl
none_passed (Unread parts) other = absurd (other parts refl)

-- one item more
pub parts_more : (items : List Effect) (i : ℕ) (e : Effect) (before one after : ℕ) → i < length items → e ≡ get_or items i e → before ≡ told_count (sum_by parts_in (effect_values (take i items))) → one ≡ sum_by parts_in (item_values e)
    → after ≡ told_count (before + one) → after ≡ told_count (sum_by parts_in (effect_values (take (i + 1) items)))
parts_more items i e before one after within is so_far here sum =
    let all = ap (sum_by parts_in) (values_taken items i e within) ∙ sum_by-append parts_in (effect_values (take i items)) (item_values (get_or items i e)) in
    let last = ap (λ (d : Effect). sum_by parts_in (item_values d)) is in
    omega (arith, all, last, so_far, here, sum)
