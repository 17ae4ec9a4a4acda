-- What one more effect of a message adds to the counts of its session.
use Rattle.std.proofs.Common.{◌≡◌, ℕ, ◌+◌, ◌<◌, List, [], ◌∷◌, ◌++◌, length, take, get_or, map, refl, sym, ap, ◌∙◌, append_assoc}
use Rattle.std.specs.Arc.{arc_value}
use Rattle.std.specs.List.{AllByRecursion}
use Rattle.bmp_specs.specs.declared.peers.View.{View}
use Rattle.bmp_specs.specs.Counts.{CountsValue}
use Rattle.bmp_specs.specs.Sums.{sum_of, effect_counts, message_counts}
use Rattle.bmp_specs.specs.Values.{NlriValue, AttrsValue, KeyValue, EffectValue, announce, withdraw}
use Rattle.bmp_specs.proofs.CountLaws.{message_pushed, IsUncounted, uncounted_kept_by_all}
use Rattle.rib_model.specs.Effects.{item_values, effect_values}
use Rattle.rib_model.proofs.Items.{values_taken}
use Rattle.rib_model.specs.declared.effect.Effect.{Effect}
use Rattle.rib_model.specs.declared.effect.Effect.TheVariants.{Up, Down, Announce, Withdraw, Mark, Statistic, Name, Descr, Orphan, Mirrored, Passed, Unread}

-- an effect that is counted
pub counted : (old new more before : CountsValue) (len : ℕ) (effects : List EffectValue) (e : EffectValue) → new ≡ sum_of old more → more ≡ effect_counts e → old ≡ sum_of before (message_counts len effects)
    → new ≡ sum_of before (message_counts len (effects ++ e ∷ []))
counted old new more before len effects e sums is was = sums ∙ ap (λ (a : CountsValue). sum_of a more) was ∙ ap (sum_of (sum_of before (message_counts len effects))) is ∙ message_pushed before len effects e

all_announced : (key : KeyValue) (view : View) (route : AttrsValue) (nlris : List NlriValue) → AllByRecursion IsUncounted (map (λ n. announce key view n route) nlris)
all_announced key view route [] = tt
all_announced key view route (n ∷ nlris) = (record { orphan = refl; unread = refl; mirrored = refl; passed = refl }, all_announced key view route nlris)

all_withdrawn : (key : KeyValue) (view : View) (nlris : List NlriValue) → AllByRecursion IsUncounted (map (λ n. withdraw key view n) nlris)
all_withdrawn key view [] = tt
all_withdrawn key view (n ∷ nlris) = (record { orphan = refl; unread = refl; mirrored = refl; passed = refl }, all_withdrawn key view nlris)

-- the effects of the other kinds
uncounted_items : (e : Effect) → (e ≡ Orphan → ⊥) → (e ≡ Mirrored → ⊥) → (e ≡ Passed → ⊥) → ((parts : ℕ) → e ≡ Unread parts → ⊥) → AllByRecursion IsUncounted (item_values e)
uncounted_items (Up k info) a b c d = (record { orphan = refl; unread = refl; mirrored = refl; passed = refl }, tt)
uncounted_items (Down k info) a b c d = (record { orphan = refl; unread = refl; mirrored = refl; passed = refl }, tt)
uncounted_items (Announce k view nlris route) a b c d = all_announced k view (arc_value route) nlris
uncounted_items (Withdraw k view nlris) a b c d = all_withdrawn k view nlris
uncounted_items (Mark k view family) a b c d = (record { orphan = refl; unread = refl; mirrored = refl; passed = refl }, tt)
uncounted_items (Statistic k stat) a b c d = (record { orphan = refl; unread = refl; mirrored = refl; passed = refl }, tt)
uncounted_items (Name bytes) a b c d = (record { orphan = refl; unread = refl; mirrored = refl; passed = refl }, tt)
uncounted_items (Descr bytes) a b c d = (record { orphan = refl; unread = refl; mirrored = refl; passed = refl }, tt)
uncounted_items Orphan a b c d = absurd (a refl)
uncounted_items Mirrored a b c d = absurd (b refl)
uncounted_items Passed a b c d = absurd (c refl)
uncounted_items (Unread parts) a b c d = absurd (d parts refl)

pub uncounted : (counts : CountsValue) (e : Effect) → (e ≡ Orphan → ⊥) → (e ≡ Mirrored → ⊥) → (e ≡ Passed → ⊥) → ((parts : ℕ) → e ≡ Unread parts → ⊥)
    → (before : CountsValue) (len : ℕ) (effects : List EffectValue) → counts ≡ sum_of before (message_counts len effects) → counts ≡ sum_of before (message_counts len (effects ++ item_values e))
uncounted counts e a b c d before len effects was = was ∙ ap (sum_of before) (sym (uncounted_kept_by_all len effects (item_values e) (uncounted_items e a b c d)))

-- the effects of the first items, and those of one more
pub more_items : (earlier : List EffectValue) (items : List Effect) (i : ℕ) (e : Effect) → i < length items → e ≡ get_or items i e
    → (earlier ++ effect_values (take i items)) ++ item_values e ≡ earlier ++ effect_values (take (i + 1) items)
more_items earlier items i e within is =
    ap (λ (d : Effect). (earlier ++ effect_values (take i items)) ++ item_values d) is
    ∙ append_assoc earlier (effect_values (take i items)) (item_values (get_or items i e))
    ∙ ap (λ (l : List EffectValue). earlier ++ l) (sym (values_taken items i e within))
