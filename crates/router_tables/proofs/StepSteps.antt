-- The last steps of a lane, when more come.
use Rattle.std.proofs.Common.{◌≡◌, ℕ, ◌+◌, ◌<◌, ◌^◌, ◌-◌, min, List, [], ◌∷◌, ◌++◌, length, map, take, get_or, refl, sym, ap, ◌∙◌, append_assoc, arith, length-append}
use Rattle.std.specs.Prelude.{filter_map}
use Rattle.std.proofs.lemmas.List.{map-append, take_more, flat_map_more}
use Rattle.std.proofs.lemmas.List.Elements.{filter_map-append}
use Rattle.bmp_specs.specs.declared.peers.View.{View}
use Rattle.bmp_specs.specs.Steps.{step_of, steps_in, steps_of}
use Rattle.bmp_specs.specs.Values.{NlriValue, AttrsValue, KeyValue, EffectValue, EntryValue, StepValue, announce, withdraw, announce_step, withdraw_step}
use Rattle.recent_ring.specs.Recent.{RecentValue, last_items, recent}
use Rattle.recent_ring.proofs.LastItems.{shown_push}
use Rattle.rib_model.specs.declared.step.Step.{Step}
use Rattle.rib_model.specs.Steps.{step_value}
use Rattle.rib_model.specs.Effects.{item_values, effect_values}
use Rattle.rib_model.specs.declared.effect.Effect.{Effect}
use Rattle.rib_model.proofs.Items.{values_taken}
use Rattle.router_tables.specs.Tables.{steps_told}

-- one step more
pub kept : (old new : RecentValue Step) (step : Step) → new.items ≡ last_items (old.items ++ step ∷ []) → new.total ≡ min (old.total + 1) (2 ^ 64 - 1)
    → (all : List StepValue) → steps_told old ≡ recent all → steps_told new ≡ recent (all ++ step_value step ∷ [])
kept old new step items total all is =
    let was : old.total ≡ min (length all) (2 ^ 64 - 1) = ap (λ (r : RecentValue StepValue). r.total) is in
    let shown : map step_value old.items ≡ last_items all = ap (λ (r : RecentValue StepValue). r.items) is in
    let long : length (all ++ step_value step ∷ []) ≡ length all + 1 = length-append all (step_value step ∷ []) in
    let n : new.total ≡ min (length (all ++ step_value step ∷ [])) (2 ^ 64 - 1) = omega arith in
    let xs : map step_value new.items ≡ last_items (all ++ step_value step ∷ []) = ap (map step_value) items ∙ shown_push step_value old.items step all shown in
    λ i. record { total = n i; items = xs i }

-- the steps on the first prefixes, and that on one more
pub more_steps : (f : NlriValue → StepValue) (all : List StepValue) (ns : List NlriValue) (i : ℕ) (n : NlriValue) → i < length ns → n ≡ get_or ns i n
    → (all ++ map f (take i ns)) ++ f n ∷ [] ≡ all ++ map f (take (i + 1) ns)
more_steps f all ns i n within is =
    ap (λ (m : NlriValue). (all ++ map f (take i ns)) ++ f m ∷ []) is
    ∙ append_assoc all (map f (take i ns)) (f (get_or ns i n) ∷ [])
    ∙ ap (λ (l : List StepValue). all ++ l) (sym (map-append f (take i ns) (get_or ns i n ∷ [])))
    ∙ ap (λ (l : List NlriValue). all ++ map f l) (sym (take_more ns i n within))

pub steps_announced : (key : KeyValue) (view : View) (route : AttrsValue) (ns : List NlriValue) → map (λ n. announce_step key view n route) ns ≡ filter_map step_of (map (λ n. announce key view n route) ns)
steps_announced key view route [] = refl
steps_announced key view route (n ∷ ns) = ap (λ (l : List StepValue). announce_step key view n route ∷ l) (steps_announced key view route ns)

pub steps_withdrawn : (key : KeyValue) (view : View) (ns : List NlriValue) → map (λ n. withdraw_step key view n) ns ≡ filter_map step_of (map (λ n. withdraw key view n) ns)
steps_withdrawn key view [] = refl
steps_withdrawn key view (n ∷ ns) = ap (λ (l : List StepValue). withdraw_step key view n ∷ l) (steps_withdrawn key view ns)

-- the steps of the first items, and those of one more
pub more_items : (all : List StepValue) (items : List Effect) (i : ℕ) (e : Effect) → i < length items → e ≡ get_or items i e
    → (all ++ filter_map step_of (effect_values (take i items))) ++ filter_map step_of (item_values e) ≡ all ++ filter_map step_of (effect_values (take (i + 1) items))
more_items all items i e within is =
    ap (λ (d : Effect). (all ++ filter_map step_of (effect_values (take i items))) ++ filter_map step_of (item_values d)) is
    ∙ append_assoc all (filter_map step_of (effect_values (take i items))) (filter_map step_of (item_values (get_or items i e)))
    ∙ ap (λ (l : List StepValue). all ++ l) (sym (filter_map-append step_of (effect_values (take i items)) (item_values (get_or items i e))))
    ∙ ap (λ (l : List EffectValue). all ++ filter_map step_of l) (sym (values_taken items i e within))

pub steps_more : (entries : List EntryValue) (e : EntryValue) → steps_of entries ++ steps_in e ≡ steps_of (entries ++ e ∷ [])
steps_more entries e = flat_map_more steps_in [] entries e
