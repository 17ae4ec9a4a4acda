-- Scans of lists of effects and of rows, one place after another.
use Rattle.std.proofs.Common.{◌≡◌, ◌↔◌, ℕ, suc, ◌+◌, ◌-◌, ◌<◌, Bool, true, false, List, [], ◌∷◌, ◌++◌, Some, length, map, take, drop, get_or, refl, sym, ap, ◌∙◌, subst, arith, add-one}
use Rattle.std.specs.Prelude.{slice_get}
use Rattle.std.specs.List.{AllByRecursion}
use Rattle.std.specs.declared.cmp.Ordering.TheVariants.{Less, Equal, Greater}
use Rattle.std.specs.Ordering.{ordering_reverse}
use Rattle.std.proofs.lemmas.List.{length-map, take_rest, take-map}
use Rattle.std.proofs.lemmas.Option.{slice_get-get_or}
use Rattle.bmp_specs.specs.PeerUp.{IsUp}
use Rattle.bmp_specs.specs.Rows.{RowKeyValue, RowValue, ReplacesRow}
use Rattle.bmp_specs.specs.TableRows.{row_key_cmp}
use Rattle.bmp_specs.specs.Values.{KeyValue, EffectValue, up, announce}
use Rattle.bmp_specs.proofs.LatestLaws.{no_middle, all_push}
use Rattle.bmp_specs.proofs.OrderLaws.{row_key_total, row_key_exact}
use Rattle.plain_model.specs.declared.values.Row.{Row}
use Rattle.plain_model.specs.declared.values.Effect.{Effect}
use Rattle.plain_model.specs.declared.values.Effect.TheVariants.{Up, Down, Announce, Withdraw, Mark, Passed}
use Rattle.plain_model.specs.Rows.{IsRowAt, LeaveRow, KeepsUp, row_keys_of, IsGap}
use Rattle.plain_model.specs.Values.{key_value, row_key_value, row_value, effect_value}
use Rattle.plain_model.proofs.Lists.{map_split, map_take_more, all_at, map_take_length, map_get, get_past, split_one}

-- no peer is up at first
pub none_up : (key : KeyValue) → (false ≡ true) ↔ IsUp [] key
none_up key = (λ e. absurd cc, λ u. absurd (no_middle u.1.before u.1.after (up key u.0) u.1.split))

pub up_step : (key : KeyValue) (es : List Effect) (i : ℕ) (d : Effect) (was after : Bool) → i < length es → (was ≡ true) ↔ IsUp (map effect_value (take i es)) key
    → KeepsUp key (effect_value (get_or es i d)) was after → (after ≡ true) ↔ IsUp (map effect_value (take (i + 1) es)) key
up_step key es i d was after within before keeps =
    rw (add-one, map_take_more effect_value es i d within) (keeps (map effect_value (take i es)) before)

pub leave_fails : (place : RowKeyValue) (es : List Effect) (i : ℕ) (d : Effect) → i < length es → ReplacesRow place (effect_value (get_or es i d)) → LeaveRow place (map effect_value es) → ⊥
leave_fails place es i d within replaced all = all_at effect_value (λ e. ¬ (ReplacesRow place e)) es i d all within replaced

-- the row is there
pub row_there : (es : List Effect) (i : ℕ) (d : Effect) (row : Row) → i < length es → get_or es i d ≡ Announce row → IsUp (map effect_value (take i es)) (key_value row.row_key.peer)
    → LeaveRow (row_key_value row.row_key) (map effect_value (take (length es - (i + 1)) (drop (i + 1) es))) → IsRowAt (map effect_value es) i (row_value row)
row_there es i d row within is is_up leave =
    let rest : take (length es - (i + 1)) (drop (i + 1) es) ≡ drop (suc i) es = take_rest es (i + 1) ∙ ap (λ (n : ℕ). drop n es) (add-one i) in
    record {
      has = record {
        announced = record {
          before = map effect_value (take i es);
          after = map effect_value (drop (suc i) es);
          split = map_split effect_value es i d within ∙ ap (λ (e : Effect). map effect_value (take i es) ++ effect_value e ∷ map effect_value (drop (suc i) es)) is;
          last = subst (λ (l : List Effect). LeaveRow (row_key_value row.row_key) (map effect_value l)) rest leave;
        };
        while_up = is_up;
      };
      announced_at = map_take_length effect_value es i (omega arith);
    }

-- what a row at this place says of the effect there, and of those around it
pub record SaysOf (es : List Effect) (i : ℕ) (d : Effect) (row : RowValue) : Type 0 where
  pub here : announce row.row_key.key row.row_key.view row.row_key.nlri row.route ≡ effect_value (get_or es i d)
  pub is_up : IsUp (map effect_value (take i es)) row.row_key.key
  pub leave : LeaveRow row.row_key (map effect_value (take (length es - (i + 1)) (drop (i + 1) es)))

pub says_of : (es : List Effect) (i : ℕ) (d : Effect) (row : RowValue) → i < length es → IsRowAt (map effect_value es) i row → SaysOf es i d row
says_of es i d row within r =
    let a = r.has.announced in
    let rest : take (length es - (i + 1)) (drop (i + 1) es) ≡ drop (suc i) es = take_rest es (i + 1) ∙ ap (λ (n : ℕ). drop n es) (add-one i) in
    let parts = split_one a.before (map effect_value (take i es)) a.after (map effect_value (drop (suc i) es)) (announce row.row_key.key row.row_key.view row.row_key.nlri row.route) (effect_value (get_or es i d))
    (r.announced_at ∙ sym (map_take_length effect_value es i (omega arith))) (sym a.split ∙ map_split effect_value es i d within) in
    record {
      here = parts.1;
      is_up = subst (λ (l : List EffectValue). IsUp l row.row_key.key) parts.0 r.has.while_up;
      leave = subst (λ (l : List Effect). LeaveRow row.row_key (map effect_value l)) (sym rest) (subst (λ (l : List EffectValue). LeaveRow row.row_key l) parts.2 a.last);
    }

-- only an announcement announces
announces : (e : Effect) (row : RowValue) → announce row.row_key.key row.row_key.view row.row_key.nlri row.route ≡ effect_value e → (r : Row) × (e ≡ Announce r)
announces (Up p asn) row h = absurd cc
announces (Down p reason) row h = absurd cc
announces (Announce r) row h = (r, refl)
announces (Withdraw place) row h = absurd cc
announces (Mark p view family) row h = absurd cc
announces Passed row h = absurd cc

pub no_announcement : (es : List Effect) (i : ℕ) (d : Effect) → i < length es → ((r : Row) → get_or es i d ≡ Announce r → ⊥) → (row : RowValue) → IsRowAt (map effect_value es) i row → ⊥
no_announcement es i d within none row at = let h = announces (get_or es i d) row (says_of es i d row within at).here in none h.0 h.1

-- an announcement announces one row
one_announced : (r : Row) (row : RowValue) → announce row.row_key.key row.row_key.view row.row_key.nlri row.route ≡ effect_value (Announce r) → row_key_value r.row_key ≡ row.row_key
one_announced r row h =
    let key : key_value r.row_key.peer ≡ row.row_key.key = cc in
    let view : r.row_key.view ≡ row.row_key.view = cc in
    let nlri : (row_key_value r.row_key).nlri ≡ row.row_key.nlri = cc in
    λ i. record { key = key i; view = view i; nlri = nlri i }

pub not_up : (es : List Effect) (i : ℕ) (d : Effect) (r : Row) → i < length es → get_or es i d ≡ Announce r → (IsUp (map effect_value (take i es)) (key_value r.row_key.peer) → ⊥) → (row : RowValue) → IsRowAt (map effect_value es) i row → ⊥
not_up es i d r within is down row at =
    let s = says_of es i d row within at in
    let place = one_announced r row (s.here ∙ ap effect_value is) in
    down (subst (λ (p : RowKeyValue). IsUp (map effect_value (take i es)) p.key) (sym place) s.is_up)

pub replaced : (es : List Effect) (i : ℕ) (d : Effect) (r : Row) → i < length es → get_or es i d ≡ Announce r → (LeaveRow (row_key_value r.row_key) (map effect_value (take (length es - (i + 1)) (drop (i + 1) es))) → ⊥) → (row : RowValue) → IsRowAt (map effect_value es) i row → ⊥
replaced es i d r within is other row at =
    let s = says_of es i d row within at in
    let place = one_announced r row (s.here ∙ ap effect_value is) in
    other (subst (λ (p : RowKeyValue). LeaveRow p (map effect_value (take (length es - (i + 1)) (drop (i + 1) es)))) (sym place) s.leave)

-- the places of rows
places_are : (rows : List Row) → row_keys_of (map row_value rows) ≡ map (λ r. row_key_value r.row_key) rows
places_are [] = refl
places_are (r ∷ rows) = ap (λ (l : List RowKeyValue). row_key_value r.row_key ∷ l) (places_are rows)

places_length : (rows : List Row) → length (row_keys_of (map row_value rows)) ≡ length rows
places_length rows = length-map (map row_value rows) (λ row. row.row_key) ∙ length-map rows row_value

pub found_place : (rows : List Row) (i : ℕ) (d : Row) (place : RowKeyValue) → i < length rows → Equal ≡ row_key_cmp (row_key_value (get_or rows i d).row_key) place
    → (row : Row) × (slice_get rows i ≡ Some row) × (row_key_value row.row_key ≡ place)
found_place rows i d place within tie = (get_or rows i d, slice_get-get_or rows i d within, row_key_exact (row_key_value (get_or rows i d).row_key) place (sym tie))

pub place_step : (rows : List Row) (i : ℕ) (d : Row) (place : RowKeyValue) → i < length rows → AllByRecursion (λ p. row_key_cmp p place ≡ Less) (take i (row_keys_of (map row_value rows)))
    → Less ≡ row_key_cmp (row_key_value (get_or rows i d).row_key) place → AllByRecursion (λ p. row_key_cmp p place ≡ Less) (take (i + 1) (row_keys_of (map row_value rows)))
place_step rows i d place within all less =
    rw (places_are rows, add-one, take-map, map_take_more (λ (r : Row). row_key_value r.row_key) rows i d within)
    (all_push (λ p. row_key_cmp p place ≡ Less) (map (λ r. row_key_value r.row_key) (take i rows)) (row_key_value (get_or rows i d).row_key) (rw (places_are rows, take-map) at all) (sym less))

pub gap_here : (rows : List Row) (i : ℕ) (d : Row) (place : RowKeyValue) → i < length rows → AllByRecursion (λ p. row_key_cmp p place ≡ Less) (take i (row_keys_of (map row_value rows)))
    → Greater ≡ row_key_cmp (row_key_value (get_or rows i d).row_key) place → IsGap (row_keys_of (map row_value rows)) place i
gap_here rows i d place within all greater = record {
  within = omega (arith, places_length rows);
  before = all;
  next = rw (places_are rows, map_get (λ (r : Row). row_key_value r.row_key) rows i d within) (row_key_total.antisymm place (row_key_value (get_or rows i d).row_key) ∙ ap ordering_reverse (sym greater));
}

pub gap_at_end : (rows : List Row) (i : ℕ) (place : RowKeyValue) → i ≡ length rows → AllByRecursion (λ p. row_key_cmp p place ≡ Less) (take i (row_keys_of (map row_value rows))) → IsGap (row_keys_of (map row_value rows)) place (length rows)
gap_at_end rows i place at all = record {
  within = omega (arith, places_length rows);
  before = subst (λ (n : ℕ). AllByRecursion (λ p. row_key_cmp p place ≡ Less) (take n (row_keys_of (map row_value rows)))) at all;
  next = rw (get_past (row_keys_of (map row_value rows)) (length rows) (omega (arith, places_length rows))) tt;
}
