-- The last steps of entries, which are made at the end.
use Rattle.std.proofs.Common.{◌≡◌, ℕ, ◌+◌, ◌-◌, ◌^◌, ◌<◌, ◌≤◌, ◌⊎◌, inl, inr, min, List, [], ◌++◌, length, map, drop, refl, sym, ap, ◌∙◌, subst, arith, append_assoc, length-append, length-drop}
use Rattle.std.specs.List.{AllZip}
use Rattle.std.proofs.lemmas.Grind.{flat_map-append}
use Rattle.std.proofs.lemmas.List.{length-map}
use Rattle.std.proofs.Math.Seq.{drop-append-add}
use Rattle.bmp_specs.specs.Steps.{steps_in, steps_of}
use Rattle.bmp_specs.specs.Values.{EntryValue, StepValue}
use Rattle.recent_ring.specs.Recent.{RecentValue, last_items, recent}
use Rattle.recent_ring.proofs.Copies.{shown_copy}
use Rattle.rib_model.specs.declared.entry.Entry.{Entry}
use Rattle.rib_model.specs.declared.step.Step.{Step}
use Rattle.rib_model.specs.Entries.{entry_values}
use Rattle.rib_model.specs.Steps.{step_value}
use Rattle.router_tables.specs.Building.{AreLate, LateValue}
use Rattle.router_tables.specs.Tables.{steps_told}
use Rattle.router_tables.proofs.GatheredSteps.{items_of}

-- the steps of three lists of entries
steps_joined : (told past more : List EntryValue) → steps_of ((told ++ past) ++ more) ≡ steps_of told ++ (steps_of past ++ steps_of more)
steps_joined told past more =
    flat_map-append steps_in (told ++ past) more
    ∙ ap (λ (l : List StepValue). l ++ steps_of more) (flat_map-append steps_in told past)
    ∙ append_assoc (steps_of told) (steps_of past) (steps_of more)

-- where some are passed over, and the entries behind them have 1,024 steps
pub past_told : (old new : RecentValue Step) (last : List Step) (entries : List Entry) (count first passed given : ℕ)
    → count ≡ min (length (steps_of (entry_values entries))) (2 ^ 64 - 1) → first ≡ count - 1024 → given ≡ min (passed + first) (2 ^ 64 - 1) → map step_value last ≡ drop first (steps_of (entry_values entries))
    → AllZip (λ x y. step_value y ≡ step_value x) (last_items (old.items ++ last)) new.items → (1024 ≤ length last → new.total ≡ min (old.total + given + length last) (2 ^ 64 - 1)) → 0 < passed
    → (told past : List EntryValue) → steps_told old ≡ recent (steps_of told) → passed ≡ min (length (steps_of past)) (2 ^ 64 - 1) → (passed ≡ 0) ⊎ (1024 ≤ length (steps_of (entry_values entries)))
    → steps_told new ≡ recent (steps_of ((told ++ past) ++ entry_values entries))
past_told old new last entries count first passed given c f g is alike many some told past was p enough =
    let all = steps_of told in
    let mid = steps_of past in
    let es = steps_of (entry_values entries) in
    let long : 1024 ≤ length es = elim enough [
      | inl none ↦ absurd (omega (arith, none, some))
      | inr l ↦ l
    ] in
    let whole : length (mid ++ es) ≡ length mid + length es = length-append mid es in
    let behind : length mid + first + 1024 ≤ length (mid ++ es) = omega (arith, whole, c, f, long) in
    let rest : map step_value last ≡ drop (length mid + first) (mid ++ es) = is ∙ sym (drop-append-add mid es first) in
    let before : old.total ≡ min (length all) (2 ^ 64 - 1) = ap (λ (r : RecentValue StepValue). r.total) was in
    let shown : map step_value old.items ≡ last_items all = ap (λ (r : RecentValue StepValue). r.items) was in
    let same : map step_value new.items ≡ map step_value (last_items (old.items ++ last)) =
    shown_copy (λ x y. step_value y ≡ step_value x) step_value (λ x y h. h) (record { total = new.total; items = last_items (old.items ++ last) }) new (record { total = refl; items = alike }) in
    let xs : map step_value new.items ≡ last_items (all ++ (mid ++ es)) = items_of all (mid ++ es) last (length mid + first) rest (inr behind) old.items new.items shown same in
    let size : length last ≡ length es - first = sym (length-map last step_value) ∙ ap (λ (l : List StepValue). length l) is ∙ length-drop first es in
    let sum : length (all ++ (mid ++ es)) ≡ length all + (length mid + length es) = length-append all (mid ++ es) ∙ ap (λ (n : ℕ). length all + n) whole in
    let t = many (omega (arith, size, c, f, long)) in
    let n : new.total ≡ min (length (all ++ (mid ++ es))) (2 ^ 64 - 1) = omega (arith, t, before, sum, size, g, p, c, f, long) in
    (λ i. record { total = n i; items = xs i }) ∙ ap (λ (l : List StepValue). recent l) (sym (steps_joined told past (entry_values entries)))

-- ---- what the steps stand for
none_counted : 0 ≡ min (length (steps_of [])) (2 ^ 64 - 1)
none_counted = omega arith

pub late_begun : (late : LateValue) → late.made ≡ recent [] → late.passed ≡ 0 → late.last ≡ [] → AreLate late []
late_begun late m p l = record { told = []; past = []; all = sym l; made = m; passed = p ∙ none_counted; enough = inl p }

-- the last ones are passed over
pub late_passed : (old new : LateValue) (more so_far : List EntryValue) (count : ℕ) → AreLate old so_far → new.made ≡ old.made → count ≡ min (length (steps_of old.last)) (2 ^ 64 - 1) → new.passed ≡ min (old.passed + count) (2 ^ 64 - 1)
    → new.last ≡ more → 1024 ≤ length (steps_of more) → AreLate new (so_far ++ more)
late_passed old new more so_far count h m c n l enough =
    let sum : length (steps_of (h.past ++ old.last)) ≡ length (steps_of h.past) + length (steps_of old.last) =
    ap (λ (k : List StepValue). length k) (flat_map-append steps_in h.past old.last) ∙ length-append (steps_of h.past) (steps_of old.last) in
    let p = h.passed in
    record {
      told = h.told;
      past = h.past ++ old.last;
      all = ap (λ (k : List EntryValue). k ++ more) (h.all ∙ append_assoc h.told h.past old.last) ∙ ap (λ (k : List EntryValue). (h.told ++ (h.past ++ old.last)) ++ k) (sym l);
      made = m ∙ h.made;
      passed = n ∙ omega (arith, c, p, sum);
      enough = inr (subst (λ (k : List EntryValue). 1024 ≤ length (steps_of k)) (sym l) enough);
    }

-- the last steps of all entries
pub late_told : (late : LateValue) (steps : RecentValue StepValue) (given entries : List EntryValue) → given ≡ late.last → AreLate late entries
    → ((told past : List EntryValue) → late.made ≡ recent (steps_of told) → late.passed ≡ min (length (steps_of past)) (2 ^ 64 - 1) → (late.passed ≡ 0) ⊎ (1024 ≤ length (steps_of given)) → steps ≡ recent (steps_of ((told ++ past) ++ given)))
    → steps ≡ recent (steps_of entries)
late_told late steps given entries same h makes =
    makes h.told h.past h.made h.passed (subst (λ (k : List EntryValue). (late.passed ≡ 0) ⊎ (1024 ≤ length (steps_of k))) (sym same) h.enough)
    ∙ ap (λ (k : List EntryValue). recent (steps_of ((h.told ++ h.past) ++ k))) same
    ∙ ap (λ (k : List EntryValue). recent (steps_of k)) (sym h.all)
