-- Rows gathered in order, one after another.
use Rattle.std.proofs.Common.{◌≡◌, inl, inr, ℕ, zero, suc, ◌+◌, ◌<◌, ◌≤◌, List, [], ◌∷◌, ◌++◌, Some, length, map, take, drop, refl, sym, ap, ◌∙◌, subst, arith, length-append}
use Rattle.std.specs.Prelude.{slice_get, ⊤}
use Rattle.std.specs.List.{Contains}
use Rattle.std.specs.List.Sorted.{IsStrictlySortedBy}
use Rattle.std.proofs.lemmas.Bool.{cases_lt}
use Rattle.bmp_specs.specs.Rows.{RowKeyValue, RowValue, HasRow}
use Rattle.bmp_specs.specs.TableRows.{row_key_cmp, AreRows}
use Rattle.bmp_specs.specs.Values.{EffectValue, announce}
use Rattle.bmp_specs.proofs.OrderLaws.{row_key_total}
use Rattle.bmp_specs.proofs.RowLaws.{route_one}
use Rattle.bmp_specs.proofs.ListedOne.{contains_first, contains_later}
use Rattle.plain_model.specs.declared.values.Row.{Row}
use Rattle.plain_model.specs.Rows.{IsRowAt, row_keys_of, IsGap, Puts}
use Rattle.plain_model.specs.Values.{row_key_value, row_value}
use Rattle.plain_model.proofs.Lists.{map_insert, split_one, contains_insert, contains_inserted, insert_cases, insert_sorted}

contains_got : {A B : Type 0} (f : A → B) (xs : List A) (i : ℕ) (x : A) → slice_get xs i ≡ Some x → Contains (map f xs) (f x)
contains_got f [] i x e = absurd cc
contains_got {A} {B} f (y ∷ xs) zero x e = let same : y ≡ x = cc in subst (λ (z : A). Contains (f y ∷ map f xs) (f z)) same (contains_first (f y) (map f xs))
contains_got f (y ∷ xs) (suc i) x e = contains_later (f y) (map f xs) (f x) (contains_got f xs i x e)

-- a row put at its gap
pub put_row : (rows : List Row) (row : Row) (i : ℕ) → IsStrictlySortedBy row_key_cmp (row_keys_of (map row_value rows)) → IsGap (row_keys_of (map row_value rows)) (row_key_value row.row_key) i
    → Puts (map row_value rows) (row_value row) (map row_value (take i rows ++ row ∷ drop i rows))
put_row rows row i sorted gap =
    let old = map row_value rows in
    let is = map_insert row_value rows i row in
    rw is (record {
      ordered = rw (map_insert (λ (r : RowValue). r.row_key) old i (row_value row)) (insert_sorted row_key_cmp row_key_total (row_keys_of old) i (row_key_value row.row_key) sorted gap.before gap.next);
      kept = λ other c. contains_insert old i (row_value row) other c;
      from = λ other c. insert_cases old i (row_value row) other c;
      placed = (row_value row, contains_inserted old i (row_value row), refl);
    })

-- a row whose place is taken
pub put_nothing : (rows : List Row) (row : Row) (i : ℕ) → IsStrictlySortedBy row_key_cmp (row_keys_of (map row_value rows)) → (r : Row) × (slice_get rows i ≡ Some r) × (row_key_value r.row_key ≡ row_key_value row.row_key)
    → Puts (map row_value rows) (row_value row) (map row_value rows)
put_nothing rows row i sorted (r, here, same) = record {
  ordered = sorted;
  kept = λ other c. c;
  from = λ other c. inl c;
  placed = (row_value r, contains_got row_value rows i r here, same);
}

-- the rows that the effects before this place announced, and that the effects leave
pub record Gathers (effects : List EffectValue) (at : ℕ) (rows : List RowValue) : Type 0 where
  pub ordered : IsStrictlySortedBy row_key_cmp (row_keys_of rows)
  pub sound : (row : RowValue) → Contains rows row → HasRow effects row
  pub complete : (i : ℕ) (row : RowValue) → i < at → IsRowAt effects i row → Contains rows row

pub gathers_nothing : (effects : List EffectValue) → Gathers effects 0 []
unfolding IsStrictlySortedBy
gathers_nothing effects = record { ordered = tt; sound = λ row c. absurd (omega (arith, c.1)); complete = λ i row before at. absurd (omega arith) }

-- one place has one row
row_at_one : (effects : List EffectValue) (i : ℕ) (a b : RowValue) → IsRowAt effects i a → IsRowAt effects i b → a ≡ b
row_at_one effects i a b p q =
    let x = announce a.row_key.key a.row_key.view a.row_key.nlri a.route in
    let y = announce b.row_key.key b.row_key.view b.row_key.nlri b.route in
    let parts = split_one p.has.announced.before q.has.announced.before p.has.announced.after q.has.announced.after x y (p.announced_at ∙ sym q.announced_at) (sym p.has.announced.split ∙ q.has.announced.split) in
    let same : x ≡ y = parts.1 in
    let key : a.row_key.key ≡ b.row_key.key = cc in
    let view : a.row_key.view ≡ b.row_key.view = cc in
    let nlri : a.row_key.nlri ≡ b.row_key.nlri = cc in
    let route : a.route ≡ b.route = cc in
    λ j. record { row_key = record { key = key j; view = view j; nlri = nlri j }; route = route j }

-- rows of one place are one
one_row : (effects : List EffectValue) (a b : RowValue) → HasRow effects a → HasRow effects b → a.row_key ≡ b.row_key → a ≡ b
one_row effects a b p q same =
    let moved : HasRow effects (record { row_key = b.row_key; route = a.route }) = subst (λ (place : RowKeyValue). HasRow effects (record { row_key = place; route = a.route })) same p in
    let route : a.route ≡ b.route = route_one effects b.row_key a.route b.route moved q in
    λ j. record { row_key = same j; route = route j }

pub gathers_row : (effects : List EffectValue) (at : ℕ) (old : List RowValue) (row : RowValue) (new : List RowValue) → Gathers effects at old → IsRowAt effects at row → Puts old row new → Gathers effects (at + 1) new
gathers_row effects at old row new g here puts = record { ordered = puts.ordered; sound = sound; complete = complete }
  where
    sound : (r : RowValue) → Contains new r → HasRow effects r
    sound r c = elim (puts.from r c) [ inl d ↦ g.sound r d | inr e ↦ subst (HasRow effects) (sym e) here.has ]

    itself : Contains new row
    itself = let p = puts.placed in subst (Contains new) (one_row effects p.0 row (sound p.0 p.1) here.has p.2) p.1

    complete : (i : ℕ) (r : RowValue) → i < at + 1 → IsRowAt effects i r → Contains new r
    complete i r before is = elim (cases_lt i at) [
      | inl earlier ↦ puts.kept r (g.complete i r earlier is)
      | inr later ↦
          let same : i ≡ at = omega arith in
          subst (Contains new) (row_at_one effects at row r here (subst (λ (n : ℕ). IsRowAt effects n r) same is)) itself
    ]

pub gathers_none : (effects : List EffectValue) (at : ℕ) (rows : List RowValue) → Gathers effects at rows → ((row : RowValue) → IsRowAt effects at row → ⊥) → Gathers effects (at + 1) rows
gathers_none effects at rows g none = record { ordered = g.ordered; sound = g.sound; complete = complete }
  where
    complete : (i : ℕ) (r : RowValue) → i < at + 1 → IsRowAt effects i r → Contains rows r
    complete i r before is = elim (cases_lt i at) [
      | inl earlier ↦ g.complete i r earlier is
      | inr later ↦ let same : i ≡ at = omega arith in absurd (none r (subst (λ (n : ℕ). IsRowAt effects n r) same is))
    ]

pub gathers_all : (effects : List EffectValue) (at : ℕ) (rows : List RowValue) → length effects ≤ at → Gathers effects at rows → AreRows (λ row. ⊤) effects rows
gathers_all effects at rows past g = record { ordered = g.ordered; exact = λ row. (λ c. (g.sound row c, tt), λ h. g.complete (length h.0.announced.before) row (within row h.0) (record { has = h.0; announced_at = refl })) }
  where
    within : (row : RowValue) (h : HasRow effects row) → length h.announced.before < at
    within row h =
        let x = announce row.row_key.key row.row_key.view row.row_key.nlri row.route in
        let e = ap length h.announced.split ∙ length-append h.announced.before (x ∷ h.announced.after) in
        omega (arith, e)
