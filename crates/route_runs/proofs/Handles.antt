-- Handles into packs that are put one behind the other, and the rows that they make.
use Rattle.std.proofs.Common.{◌≡◌, ℕ, suc, ◌+◌, ◌*◌, ◌/◌, ◌%◌, ◌<◌, inl, inr, true, false, nat_eq, if◌then◌else◌, List, [], ◌∷◌, ◌++◌, length, get_or, map, None, refl, ap, sym, ◌∙◌, subst, length-append, arith}
use Rattle.std.proofs.lemmas.List.{get_or_append_left, get_or-append-add}
use Rattle.std.specs.List.{AllByRecursion, slice_get}
use Rattle.std.specs.Map.{keys_of}
use Rattle.std.proofs.lemmas.Bool.Decides.{nat_tests}
use Rattle.std.proofs.Math.Nat.{add-mul-div_left, add-mul-mod_self_left, div-add-mod}
use Rattle.route_runs.specs.Rows.{gone, set_at, paired, named, rows, NamesSet, IsHandle}
use Rattle.route_runs.specs.Weave.{shifted}

pub length-rows : {K A : Type 0} (packs : List (List A)) (ks : List K) (vs : List ℕ) → length vs ≡ length ks → length (rows packs ks vs) ≡ length ks
length-rows packs [] vs e = refl
length-rows packs (k ∷ ks) [] e = absurd (omega (arith, e))
length-rows packs (k ∷ ks) (v ∷ vs) e = ap suc (length-rows packs ks vs (omega (arith, e)))

pub keys-rows : {K A : Type 0} (packs : List (List A)) (ks : List K) (vs : List ℕ) → length vs ≡ length ks → keys_of (rows packs ks vs) ≡ ks
keys-rows packs [] vs e = refl
keys-rows packs (k ∷ ks) [] e = absurd (omega (arith, e))
keys-rows packs (k ∷ ks) (v ∷ vs) e = ap (λ l. k ∷ l) (keys-rows packs ks vs (omega (arith, e)))

pub keys-paired : {K : Type 0} (ks : List K) (vs : List ℕ) → length vs ≡ length ks → keys_of (paired ks vs) ≡ ks
keys-paired [] vs e = refl
keys-paired (k ∷ ks) [] e = absurd (omega (arith, e))
keys-paired (k ∷ ks) (v ∷ vs) e = ap (λ l. k ∷ l) (keys-paired ks vs (omega (arith, e)))

pub keys-named : {K A : Type 0} (packs : List (List A)) (es : List (K × ℕ)) → keys_of (map (named packs) es) ≡ keys_of es
keys-named packs [] = refl
keys-named packs (e ∷ es) = ap (λ l. e.0 ∷ l) (keys-named packs es)

-- ---- one handle
-- at the front
pub handle_front : {A : Type 0} (packs more : List (List A)) (h : ℕ) → IsHandle packs h → IsHandle (packs ++ more) h
handle_front packs more h (inl e) = inl e
handle_front packs more h (inr n) = inr (record {
  pack = let l = n.pack in omega (arith, l, length-append packs more);
  place = subst (λ p. h % 4096 < length p) (sym (get_or_append_left packs more [] (h / 4096) n.pack)) n.place;
})

pub set_front : {A : Type 0} (packs more : List (List A)) (h : ℕ) → IsHandle packs h → set_at (packs ++ more) h ≡ set_at packs h
set_front packs more h (inl e) = ap (λ b. if b then None else slice_get (get_or (packs ++ more) (h / 4096) []) (h % 4096)) {x = nat_eq h gone} {y = true} (grind (arith, nat_tests, e))
    ∙ sym (ap (λ b. if b then None else slice_get (get_or packs (h / 4096) []) (h % 4096)) {x = nat_eq h gone} {y = true} (grind (arith, nat_tests, e)))
set_front packs more h (inr n) = ap (λ p. if nat_eq h gone then None else slice_get p (h % 4096)) (get_or_append_left packs more [] (h / 4096) n.pack)

-- behind others
div_shift : (h n : ℕ) → (h + 4096 * n) / 4096 ≡ n + h / 4096
div_shift h n = add-mul-div_left h n (omega arith) ∙ omega arith

mod_shift : (h n : ℕ) → (h + 4096 * n) % 4096 ≡ h % 4096
mod_shift h n = add-mul-mod_self_left h 4096 n

-- a handle that names a set, in a run that has few packs, is not that of what is gone
not_gone : (h n : ℕ) → h / 4096 < n → n < 1048576 → h < 4294963200
not_gone h n lt few = let d = div-add-mod h 4096 in let m : h % 4096 < 4096 = mod_less h in omega (arith, d, m, lt, few)
  where
    mod_less : (h : ℕ) → h % 4096 < 4096
    mod_less h = grind arith

module _ {A : Type 0} (more packs : List (List A)) (h : ℕ) (few : length (more ++ packs) < 1048576) (n : NamesSet packs h) where
  at_shift : shifted (4096 * length more) h ≡ h + 4096 * length more
  at_shift =
      let d : (h + 4096 * length more) / 4096 < length (more ++ packs) = rw (div_shift h (length more), length-append more packs) (omega (arith, n.pack)) in
      let l = not_gone (h + 4096 * length more) (length (more ++ packs)) d few in
      omega (arith, l)

  pack_shift : get_or (more ++ packs) (shifted (4096 * length more) h / 4096) [] ≡ get_or packs (h / 4096) []
  pack_shift = ap (λ i. get_or (more ++ packs) (i / 4096) []) at_shift ∙ ap (λ i. get_or (more ++ packs) i []) (div_shift h (length more)) ∙ get_or-append-add more packs (h / 4096) []

  place_shift : shifted (4096 * length more) h % 4096 ≡ h % 4096
  place_shift = ap (λ i. i % 4096) at_shift ∙ mod_shift h (length more)

  names_back : NamesSet (more ++ packs) (shifted (4096 * length more) h)
  names_back = record {
    pack = rw (at_shift, div_shift h (length more), length-append more packs) (omega (arith, n.pack));
    place = rw (place_shift, pack_shift) n.place;
  }

  test_shift : nat_eq (shifted (4096 * length more) h) gone ≡ nat_eq h gone
  test_shift =
      let d : (h + 4096 * length more) / 4096 < length (more ++ packs) = rw (div_shift h (length more), length-append more packs) (omega (arith, n.pack)) in
      let l = not_gone (h + 4096 * length more) (length (more ++ packs)) d few in
      let a : nat_eq (h + 4096 * length more) gone ≡ false = grind (arith, nat_tests, l) in
      let b : nat_eq h gone ≡ false = grind (arith, nat_tests, l) in
      ap (λ i. nat_eq i gone) at_shift ∙ a ∙ sym b

  set_names_back : set_at (more ++ packs) (shifted (4096 * length more) h) ≡ set_at packs h
  set_names_back = ap (λ b. if b then None else slice_get (get_or (more ++ packs) (shifted (4096 * length more) h / 4096) []) (shifted (4096 * length more) h % 4096)) test_shift
      ∙ ap (λ p. if nat_eq h gone then None else slice_get p (shifted (4096 * length more) h % 4096)) pack_shift ∙ ap (λ i. if nat_eq h gone then None else slice_get (get_or packs (h / 4096) []) i) place_shift

gone_shift : (s h : ℕ) → h ≡ gone → shifted s h ≡ gone
gone_shift s h e = omega (arith, e)

pub handle_back : {A : Type 0} (more packs : List (List A)) (h : ℕ) → length (more ++ packs) < 1048576 → IsHandle packs h → IsHandle (more ++ packs) (shifted (4096 * length more) h)
handle_back more packs h few (inl e) = inl (gone_shift _ h e)
handle_back more packs h few (inr n) = inr (names_back more packs h few n)

pub set_gone : {A : Type 0} (packs : List (List A)) (h : ℕ) → h ≡ gone → set_at packs h ≡ None
set_gone packs h e = ap (λ b. if b then None else slice_get (get_or packs (h / 4096) []) (h % 4096)) {x = nat_eq h gone} {y = true} (grind (arith, nat_tests, e))

pub set_back : {A : Type 0} (more packs : List (List A)) (h : ℕ) → length (more ++ packs) < 1048576 → IsHandle packs h → set_at (more ++ packs) (shifted (4096 * length more) h) ≡ set_at packs h
set_back more packs h few (inl e) = set_gone (more ++ packs) _ (gone_shift _ h e) ∙ sym (set_gone packs h e)
set_back more packs h few (inr n) = set_names_back more packs h few n

-- ---- rows
pub rows_front : {K A : Type 0} (packs more : List (List A)) (ks : List K) (vs : List ℕ) → AllByRecursion (IsHandle packs) vs → rows (packs ++ more) ks vs ≡ rows packs ks vs
rows_front packs more [] vs a = refl
rows_front packs more (k ∷ ks) [] a = refl
rows_front packs more (k ∷ ks) (v ∷ vs) a = ap (λ s. (k, s) ∷ rows (packs ++ more) ks vs) (set_front packs more v a.0) ∙ ap (λ l. (k, set_at packs v) ∷ l) (rows_front packs more ks vs a.1)

pub rows_back : {K A : Type 0} (more packs : List (List A)) (ks : List K) (vs : List ℕ) → length (more ++ packs) < 1048576 → AllByRecursion (IsHandle packs) vs → rows (more ++ packs) ks (map (shifted (4096 * length more)) vs) ≡ rows packs ks vs
rows_back more packs [] vs few a = refl
rows_back more packs (k ∷ ks) [] few a = refl
rows_back more packs (k ∷ ks) (v ∷ vs) few a = ap (λ s. (k, s) ∷ rows (more ++ packs) ks (map (shifted (4096 * length more)) vs)) (set_back more packs v few a.0) ∙ ap (λ l. (k, set_at packs v) ∷ l) (rows_back more packs ks vs few a.1)

pub handles_front : {A : Type 0} (packs more : List (List A)) (vs : List ℕ) → AllByRecursion (IsHandle packs) vs → AllByRecursion (IsHandle (packs ++ more)) vs
handles_front packs more [] a = tt
handles_front packs more (v ∷ vs) a = (handle_front packs more v a.0, handles_front packs more vs a.1)

pub handles_back : {A : Type 0} (more packs : List (List A)) (vs : List ℕ) → length (more ++ packs) < 1048576 → AllByRecursion (IsHandle packs) vs → AllByRecursion (IsHandle (more ++ packs)) (map (shifted (4096 * length more)) vs)
handles_back more packs [] few a = tt
handles_back more packs (v ∷ vs) few a = (handle_back more packs v few a.0, handles_back more packs vs few a.1)

pub vals_paired : {K : Type 0} (P : ℕ → Type 0) (ks : List K) (vs : List ℕ) → AllByRecursion P vs → AllByRecursion (λ (e : K × ℕ). P e.1) (paired ks vs)
vals_paired P [] vs a = tt
vals_paired P (k ∷ ks) [] a = tt
vals_paired P (k ∷ ks) (v ∷ vs) a = (a.0, vals_paired P ks vs a.1)

pub paired_handles : {K : Type 0} (P : ℕ → Type 0) (ks : List K) (vs : List ℕ) → length vs ≡ length ks → AllByRecursion (λ (e : K × ℕ). P e.1) (paired ks vs) → AllByRecursion P vs
paired_handles P [] [] e a = tt
paired_handles P [] (v ∷ vs) e a = absurd (omega (arith, e))
paired_handles P (k ∷ ks) [] e a = tt
paired_handles P (k ∷ ks) (v ∷ vs) e a = (a.0, paired_handles P ks vs (omega (arith, e)) a.1)
