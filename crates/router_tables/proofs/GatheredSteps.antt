-- The last steps of entries, which are gathered without the first ones.
use Rattle.std.proofs.Common.{◌≡◌, ℕ, ◌+◌, ◌-◌, ◌^◌, ◌<◌, ◌≤◌, ◌⊎◌, inl, inr, min, List, [], ◌++◌, length, map, take, drop, get_or, refl, sym, ap, ◌∙◌, arith, append_assoc, length-append, length-drop, length-take}
use Rattle.std.specs.Prelude.{filter_map}
use Rattle.std.specs.List.{AllZip}
use Rattle.std.proofs.lemmas.Bool.{cases_lt}
use Rattle.std.proofs.lemmas.Grind.{flat_map-append}
use Rattle.std.proofs.lemmas.List.{drop-append-le, drop-map, map-append, length-map, take_all, take-append-drop}
use Rattle.std.proofs.Math.ListN.{drop_of_length-le}
use Rattle.std.proofs.Math.Seq.{drop-append-add}
use Rattle.bmp_specs.specs.Steps.{step_of, steps_in, steps_of}
use Rattle.bmp_specs.specs.declared.peers.View.{View}
use Rattle.bmp_specs.specs.Values.{NlriValue, AttrsValue, KeyValue, EntryValue, StepValue, announce, withdraw, announce_step, withdraw_step}
use Rattle.recent_ring.specs.Recent.{RecentValue, last_items, recent}
use Rattle.recent_ring.proofs.Copies.{shown_copy}
use Rattle.recent_ring.proofs.MoreItems.{last_items-append, last_of_passed}
use Rattle.rib_model.specs.declared.effect.Effect.{Effect}
use Rattle.rib_model.specs.declared.entry.Entry.{Entry}
use Rattle.rib_model.specs.declared.step.Step.{Step}
use Rattle.rib_model.specs.Effects.{item_values, effect_values}
use Rattle.rib_model.specs.Entries.{entry_value, entry_values}
use Rattle.rib_model.specs.Steps.{step_value}
use Rattle.router_tables.specs.Tables.{steps_told}
use Rattle.router_tables.proofs.EntrySteps.{more_entries}
use Rattle.router_tables.proofs.StepSteps.{more_items, steps_announced, steps_more, steps_withdrawn}

module _ {X : Type 0} where
  drop-append : (n : ℕ) (xs ys : List X) → drop n (xs ++ ys) ≡ drop n xs ++ drop (n - length xs) ys
  drop-append n xs ys = elim (cases_lt n (length xs)) [
    | inl within ↦
        let none : n - length xs ≡ 0 = omega arith in
        drop-append-le n xs ys (omega arith) ∙ ap (λ (k : ℕ). drop n xs ++ drop k ys) (sym none)
    | inr past ↦
        let sum : n ≡ length xs + (n - length xs) = omega arith in
        ap (λ (k : ℕ). drop k (xs ++ ys)) sum ∙ drop-append-add xs ys (n - length xs) ∙ ap (λ (l : List X). l ++ drop (n - length xs) ys) (sym (drop_of_length-le xs {i = n} (omega arith)))
  ]

  -- more are gathered, once the first ones are passed over
  pub gathered_more : (old mid new all next : List X) (passed left : ℕ) → mid ≡ old ++ drop passed all → left ≡ passed - length all → new ≡ mid ++ drop left next → new ≡ old ++ drop passed (all ++ next)
  gathered_more old mid new all next passed left m l n =
      n ∙ ap (λ (k : List X). k ++ drop left next) m ∙ append_assoc old (drop passed all) (drop left next)
      ∙ ap (λ (k : ℕ). old ++ (drop passed all ++ drop k next)) l ∙ ap (λ (k : List X). old ++ k) (sym (drop-append passed all next))

  pub left_more : (all next : List X) (passed left rest : ℕ) → left ≡ passed - length all → rest ≡ left - length next → rest ≡ passed - length (all ++ next)
  left_more all next passed left rest l r = omega (arith, l, r, length-append all next)

  drop_min : (passed : ℕ) (xs : List X) → drop (min passed (length xs)) xs ≡ drop passed xs
  drop_min passed xs = elim (cases_lt passed (length xs)) [
    | inl within ↦ let same : min passed (length xs) ≡ passed = omega arith in ap (λ (k : ℕ). drop k xs) same
    | inr past ↦ drop_of_length-le xs {i = min passed (length xs)} (omega arith) ∙ sym (drop_of_length-le xs {i = passed} (omega arith))
  ]

-- the steps on the prefixes past the first ones
pub rest_shown : (f : NlriValue → StepValue) (ns : List NlriValue) (passed first : ℕ) → first ≡ min passed (length ns) → map f (take (length ns - first) (drop first ns)) ≡ drop passed (map f ns)
rest_shown f ns passed first is =
    ap (map f) (take_all (length ns - first) (drop first ns) (omega (arith, length-drop first ns)))
    ∙ ap (λ (k : ℕ). map f (drop k ns)) is
    ∙ ap (map f) (drop_min passed ns)
    ∙ sym (drop-map f passed ns)

-- of routes that are announced, or withdrawn
pub count_announced : (key : KeyValue) (view : View) (route : AttrsValue) (ns : List NlriValue) → length ns ≡ length (filter_map step_of (map (λ n. announce key view n route) ns))
count_announced key view route ns = sym (length-map ns (λ n. announce_step key view n route)) ∙ ap (λ (l : List StepValue). length l) (steps_announced key view route ns)

pub count_withdrawn : (key : KeyValue) (view : View) (ns : List NlriValue) → length ns ≡ length (filter_map step_of (map (λ n. withdraw key view n) ns))
count_withdrawn key view ns = sym (length-map ns (λ n. withdraw_step key view n)) ∙ ap (λ (l : List StepValue). length l) (steps_withdrawn key view ns)

pub rest_left : (ns : List NlriValue) (steps : List StepValue) (passed first : ℕ) → first ≡ min passed (length ns) → length ns ≡ length steps → passed - first ≡ passed - length steps
rest_left ns steps passed first is long = omega (arith, is, long)

pub rest_announced : (key : KeyValue) (view : View) (route : AttrsValue) (ns : List NlriValue) (passed first : ℕ) → first ≡ min passed (length ns)
    → map (λ n. announce_step key view n route) (take (length ns - first) (drop first ns)) ≡ drop passed (filter_map step_of (map (λ n. announce key view n route) ns))
rest_announced key view route ns passed first is = rest_shown (λ n. announce_step key view n route) ns passed first is ∙ ap (drop passed) (steps_announced key view route ns)

pub rest_withdrawn : (key : KeyValue) (view : View) (ns : List NlriValue) (passed first : ℕ) → first ≡ min passed (length ns)
    → map (λ n. withdraw_step key view n) (take (length ns - first) (drop first ns)) ≡ drop passed (filter_map step_of (map (λ n. withdraw key view n) ns))
rest_withdrawn key view ns passed first is = rest_shown (λ n. withdraw_step key view n) ns passed first is ∙ ap (drop passed) (steps_withdrawn key view ns)

-- the steps of the first items, and those of one more
pub effects_more : (items : List Effect) (i : ℕ) (e : Effect) → i < length items → e ≡ get_or items i e
    → filter_map step_of (effect_values (take i items)) ++ filter_map step_of (item_values e) ≡ filter_map step_of (effect_values (take (i + 1) items))
effects_more items i e within is = more_items [] items i e within is

-- the steps of the first entries, and those of one more
pub entries_more : (entries : List Entry) (i : ℕ) (e : Entry) → i < length entries → e ≡ get_or entries i e
    → steps_of (entry_values (take i entries)) ++ steps_in (entry_value e) ≡ steps_of (entry_values (take (i + 1) entries))
entries_more entries i e within is = steps_more (entry_values (take i entries)) (entry_value e) ∙ ap steps_of (more_entries [] entries i e within is)

-- how many they are
pub counted_more : (all next whole : List StepValue) (was one now : ℕ) → all ++ next ≡ whole → was ≡ min (length all) (2 ^ 64 - 1) → min one (2 ^ 64 - 1) ≡ min (length next) (2 ^ 64 - 1) → now ≡ min (was + one) (2 ^ 64 - 1) → now ≡ min (length whole) (2 ^ 64 - 1)
counted_more all next whole was one now is w o n =
    let long : length whole ≡ length all + length next = ap (λ (l : List StepValue). length l) (sym is) ∙ length-append all next in
    omega (arith, w, o, n, long)

shown_last : (items : List Step) → map step_value (last_items items) ≡ last_items (map step_value items)
shown_last items = sym (drop-map step_value (length items - 1024) items) ∙ ap (λ (k : ℕ). drop (k - 1024) (map step_value items)) (sym (length-map items step_value))

-- Of the steps that come, the first ones are passed over, and there are 1,024 behind them.
module _ (all more : List StepValue) (last : List Step) (passed : ℕ) (is : map step_value last ≡ drop passed more) (fits : (passed ≡ 0) ⊎ (passed + 1024 ≤ length more)) where
  long : length last ≡ length more - passed
  long = sym (length-map last step_value) ∙ ap (λ (l : List StepValue). length l) is ∙ length-drop passed more

  pub items_of : (old new : List Step) → map step_value old ≡ last_items all → map step_value new ≡ map step_value (last_items (old ++ last)) → map step_value new ≡ last_items (all ++ more)
  items_of old new was same =
      let kind : (length (take passed more) ≡ 0) ⊎ (1024 ≤ length (drop passed more)) = elim fits [
        | inl none ↦ inl (omega (arith, none, length-take passed more))
        | inr enough ↦ inr (omega (arith, enough, length-drop passed more))
      ] in
      same
      ∙ shown_last (old ++ last)
      ∙ ap (λ (l : List StepValue). last_items l) (map-append step_value old last)
      ∙ ap (λ (l : List StepValue). last_items (l ++ map step_value last)) was
      ∙ last_items-append all (map step_value last)
      ∙ ap (λ (l : List StepValue). last_items (all ++ l)) is
      ∙ sym (last_of_passed all (take passed more) (drop passed more) kind)
      ∙ ap (λ (l : List StepValue). last_items l) (append_assoc all (take passed more) (drop passed more))
      ∙ ap (λ (l : List StepValue). last_items (all ++ l)) (take-append-drop passed more)

  total_of : (old new : ℕ) → old ≡ min (length all) (2 ^ 64 - 1) → (1024 ≤ length last → new ≡ min (old + passed + length last) (2 ^ 64 - 1)) → (length last < 1024 → new ≡ min (old + length last) (2 ^ 64 - 1))
      → new ≡ min (length (all ++ more)) (2 ^ 64 - 1)
  total_of old new was many few =
      let sum : length (all ++ more) ≡ length all + length more = length-append all more in
      let l : length last ≡ length more - passed = long in
      elim (cases_lt (length last) 1024) [
        | inl short ↦ let t = few short in elim fits [
          | inl none ↦ omega (arith, t, was, sum, l, none)
          | inr enough ↦ absurd (omega (arith, enough, short, l))
        ]
        | inr enough ↦ let t = many (omega (arith, enough)) in elim fits [
          | inl none ↦ omega (arith, t, was, sum, l, none)
          | inr behind ↦ omega (arith, t, was, sum, l, behind)
        ]
      ]

  -- the ring of the last steps, with those
  pub told_more : (old new : RecentValue Step) → AllZip (λ x y. step_value y ≡ step_value x) (last_items (old.items ++ last)) new.items
      → (1024 ≤ length last → new.total ≡ min (old.total + passed + length last) (2 ^ 64 - 1)) → (length last < 1024 → new.total ≡ min (old.total + length last) (2 ^ 64 - 1))
      → steps_told old ≡ recent all → steps_told new ≡ recent (all ++ more)
  told_more old new alike many few was =
      let before : old.total ≡ min (length all) (2 ^ 64 - 1) = ap (λ (r : RecentValue StepValue). r.total) was in
      let shown : map step_value old.items ≡ last_items all = ap (λ (r : RecentValue StepValue). r.items) was in
      let same : map step_value new.items ≡ map step_value (last_items (old.items ++ last)) =
      shown_copy (λ x y. step_value y ≡ step_value x) step_value (λ x y h. h) (record { total = new.total; items = last_items (old.items ++ last) }) new (record { total = refl; items = alike }) in
      let n : new.total ≡ min (length (all ++ more)) (2 ^ 64 - 1) = total_of old.total new.total before many few in
      let xs : map step_value new.items ≡ last_items (all ++ more) = items_of old.items new.items shown same in
      λ i. record { total = n i; items = xs i }

-- and that of the steps of all entries
pub entries_told : (old new : RecentValue Step) (last : List Step) (passed : ℕ) (entries : List Entry) → map step_value last ≡ drop passed (steps_of (entry_values entries)) → (passed ≡ 0) ⊎ (passed + 1024 ≤ length (steps_of (entry_values entries)))
    → AllZip (λ x y. step_value y ≡ step_value x) (last_items (old.items ++ last)) new.items
    → (1024 ≤ length last → new.total ≡ min (old.total + passed + length last) (2 ^ 64 - 1)) → (length last < 1024 → new.total ≡ min (old.total + length last) (2 ^ 64 - 1))
    → (so_far : List EntryValue) → steps_told old ≡ recent (steps_of so_far) → steps_told new ≡ recent (steps_of (so_far ++ entry_values entries))
entries_told old new last passed entries is fits alike many few so_far was =
    told_more (steps_of so_far) (steps_of (entry_values entries)) last passed is fits old new alike many few was
    ∙ ap (λ (l : List StepValue). recent l) (sym (flat_map-append steps_in so_far (entry_values entries)))

-- how many are passed over
pub passed_fits : (count passed : ℕ) (steps : List StepValue) → count ≡ min (length steps) (2 ^ 64 - 1) → passed ≡ count - 1024 → (passed ≡ 0) ⊎ (passed + 1024 ≤ length steps)
passed_fits count passed steps c p = elim (cases_lt 0 passed) [
  | inl some ↦ inr (omega (arith, some, c, p))
  | inr none ↦ inl (omega (arith, none))
]
