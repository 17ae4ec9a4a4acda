-- New handles for the same sets.
use Rattle.std.proofs.Common.{◌≡◌, ℕ, zero, suc, ◌+◌, ◌*◌, ◌/◌, ◌%◌, ◌<◌, inl, inr, false, nat_eq, if◌then◌else◌, List, [], ◌∷◌, ◌++◌, length, get_or, map, None, Some, refl, ap, sym, ◌∙◌, subst, length-append, arith}
use Rattle.std.specs.List.{AllByRecursion, slice_get}
use Rattle.std.proofs.lemmas.Bool.{cases_lt}
use Rattle.std.proofs.lemmas.Bool.Decides.{nat_tests}
use Rattle.std.proofs.lemmas.List.{get_or_append_left, get_or_at, map-append}
use Rattle.std.proofs.lemmas.Nat.{div-mul-add, mod-mul-add}
use Rattle.route_runs.specs.Rows.{gone, set_at, rows, NamesSet, IsHandle}
use Rattle.route_runs.specs.Gathering.{Keeps, Adds, IsRenamed}
use Rattle.route_runs.proofs.Handles.{handle_front, set_front, set_gone}

pub keeps_front : {A : Type 0} (packs more : List (List A)) → Keeps packs (packs ++ more)
keeps_front packs more = record { handles = λ h i. handle_front packs more h i; sets = λ h i. set_front packs more h i }

pub keeps_same : {A : Type 0} (packs : List (List A)) → Keeps packs packs
keeps_same packs = record { handles = λ h i. i; sets = λ h i. refl }

pub keeps_then : {A : Type 0} (a b c : List (List A)) → Keeps a b → Keeps b c → Keeps a c
keeps_then a b c k m = record { handles = λ h i. m.handles h (k.handles h i); sets = λ h i. m.sets h (k.handles h i) ∙ k.sets h i }

get_front : {A : Type 0} (xs ys : List A) (i : ℕ) → i < length xs → slice_get (xs ++ ys) i ≡ slice_get xs i
get_front [] ys i lt = absurd (omega (arith, lt))
get_front (x ∷ xs) ys zero lt = refl
get_front (x ∷ xs) ys (suc i) lt = get_front xs ys i (omega (arith, lt))

get_last : {A : Type 0} (xs : List A) (x : A) → slice_get (xs ++ x ∷ []) (length xs) ≡ Some x
get_last [] x = refl
get_last (y ∷ xs) x = get_last xs x

-- what a pack at the end has, when it grows
pack_front : {A : Type 0} (packs : List (List A)) (now more : List A) (i : ℕ) → i < length packs → get_or (packs ++ more ∷ []) i [] ≡ get_or (packs ++ now ∷ []) i []
pack_front packs now more i lt = get_or_append_left packs (more ∷ []) [] i lt ∙ sym (get_or_append_left packs (now ∷ []) [] i lt)

module _ {A : Type 0} (packs : List (List A)) (now : List A) (x : A) where
  grown_cases : (h : ℕ) → NamesSet (packs ++ now ∷ []) h → (h % 4096 < length (get_or (packs ++ (now ++ x ∷ []) ∷ []) (h / 4096) []))
      × (slice_get (get_or (packs ++ (now ++ x ∷ []) ∷ []) (h / 4096) []) (h % 4096) ≡ slice_get (get_or (packs ++ now ∷ []) (h / 4096) []) (h % 4096))
  grown_cases h n = elim (cases_lt (h / 4096) (length packs)) [
    | inl front ↦ let e = pack_front packs now (now ++ x ∷ []) (h / 4096) front in (subst (λ p. h % 4096 < length p) (sym e) n.place, ap (λ p. slice_get p (h % 4096)) e)
    | inr more ↦
        let last : length packs ≡ h / 4096 = (let p = n.pack in omega (arith, more, p, length-append packs (now ∷ []))) in
        let a : get_or (packs ++ now ∷ []) (h / 4096) [] ≡ now = get_or_at packs now [] [] (h / 4096) last in
        let b : get_or (packs ++ (now ++ x ∷ []) ∷ []) (h / 4096) [] ≡ now ++ x ∷ [] = get_or_at packs (now ++ x ∷ []) [] [] (h / 4096) last in
        let lt : h % 4096 < length now = subst (λ p. h % 4096 < length p) a n.place in (
          subst (λ p. h % 4096 < length p) (sym b) (omega (arith, lt, length-append now (x ∷ []))),
          ap (λ p. slice_get p (h % 4096)) b ∙ get_front now (x ∷ []) (h % 4096) lt ∙ ap (λ p. slice_get p (h % 4096)) (sym a),
        )
  ]

  grown_handle : (h : ℕ) → IsHandle (packs ++ now ∷ []) h → IsHandle (packs ++ (now ++ x ∷ []) ∷ []) h
  grown_handle h (inl e) = inl e
  grown_handle h (inr n) = inr (record { pack = (let p = n.pack in omega (arith, p, length-append packs (now ∷ []), length-append packs ((now ++ x ∷ []) ∷ []))); place = (grown_cases h n).0 })

  grown_set : (h : ℕ) → IsHandle (packs ++ now ∷ []) h → set_at (packs ++ (now ++ x ∷ []) ∷ []) h ≡ set_at (packs ++ now ∷ []) h
  grown_set h (inl e) = set_gone (packs ++ (now ++ x ∷ []) ∷ []) h e ∙ sym (set_gone (packs ++ now ∷ []) h e)
  grown_set h (inr n) = ap (λ s. if nat_eq h gone then None else s) (grown_cases h n).1

  -- a set at the end of the pack that is being filled
  pub filled : (h : ℕ) → length now < 4096 → length packs < 1048574 → h ≡ length packs * 4096 + length now → Adds (packs ++ now ∷ []) (packs ++ (now ++ x ∷ []) ∷ []) (Some x) h
  filled h room few is =
      let d : h / 4096 ≡ length packs = ap (λ n. n / 4096) is ∙ div-mul-add (length packs) 4096 (length now) room in
      let m : h % 4096 ≡ length now = ap (λ n. n % 4096) is ∙ mod-mul-add (length packs) 4096 (length now) room in
      let at : get_or (packs ++ (now ++ x ∷ []) ∷ []) (h / 4096) [] ≡ now ++ x ∷ [] = get_or_at packs (now ++ x ∷ []) [] [] (h / 4096) (sym d) in
      let there : nat_eq h gone ≡ false = (let small : h < 4294967295 = omega (arith, is, room, few) in grind (arith, nat_tests, small)) in
      record {
        keeps = record { handles = grown_handle; sets = grown_set };
        handle = inr (record { pack = omega (arith, d, length-append packs ((now ++ x ∷ []) ∷ [])); place = subst (λ p. h % 4096 < length p) (sym at) (omega (arith, m, length-append now (x ∷ []))) });
        names = ap (λ b. if b then None else slice_get (get_or (packs ++ (now ++ x ∷ []) ∷ []) (h / 4096) []) (h % 4096)) there ∙ ap (λ p. slice_get p (h % 4096)) at ∙ ap (slice_get (now ++ x ∷ [])) m ∙ get_last now x;
      }

-- ---- lists of handles
all_kept : {A : Type 0} (a b : List (List A)) (vs : List ℕ) → Keeps a b → AllByRecursion (IsHandle a) vs → AllByRecursion (IsHandle b) vs
all_kept a b [] k h = tt
all_kept a b (v ∷ vs) k h = (k.handles v h.0, all_kept a b vs k h.1)

sets_kept : {A : Type 0} (a b : List (List A)) (vs : List ℕ) → Keeps a b → AllByRecursion (IsHandle a) vs → map (set_at b) vs ≡ map (set_at a) vs
sets_kept a b [] k h = refl
sets_kept a b (v ∷ vs) k h = ap (λ s. s ∷ map (set_at b) vs) (k.sets v h.0) ∙ ap (λ l. set_at a v ∷ l) (sets_kept a b vs k h.1)

all_snoc : (P : ℕ → Type 0) (vs : List ℕ) (v : ℕ) → AllByRecursion P vs → P v → AllByRecursion P (vs ++ v ∷ [])
all_snoc P [] v a p = (p, tt)
all_snoc P (w ∷ vs) v a p = (a.0, all_snoc P vs v a.1 p)

pub renamed_more : {A : Type 0} (old new new' : List (List A)) (vs ws : List ℕ) (v w : ℕ) → IsRenamed old vs new ws → Keeps new new' → IsHandle new' w → set_at new' w ≡ set_at old v → IsRenamed old (vs ++ v ∷ []) new' (ws ++ w ∷ [])
renamed_more old new new' vs ws v w r k h e = record {
  handles = all_snoc (IsHandle new') ws w (all_kept new new' ws k r.handles) h;
  same = map-append (set_at new') ws (w ∷ []) ∙ ap (λ l. l ++ set_at new' w ∷ []) (sets_kept new new' ws k r.handles ∙ r.same) ∙ ap (λ s. map (set_at old) vs ++ s ∷ []) e ∙ sym (map-append (set_at old) vs (v ∷ []));
}

head_same : {X : Type 0} (x y : X) (xs ys : List X) → x ∷ xs ≡ y ∷ ys → x ≡ y
head_same x y xs ys e = cc

tail_same : {X : Type 0} (x y : X) (xs ys : List X) → x ∷ xs ≡ y ∷ ys → xs ≡ ys
tail_same x y xs ys e = cc

pub rows_renamed : {K A : Type 0} (old new : List (List A)) (ks : List K) (vs ws : List ℕ) → map (set_at new) ws ≡ map (set_at old) vs → rows new ks ws ≡ rows old ks vs
rows_renamed old new [] vs ws e = refl
rows_renamed old new (k ∷ ks) [] [] e = refl
rows_renamed old new (k ∷ ks) [] (w ∷ ws) e = absurd (let n : suc (length (map (set_at new) ws)) ≡ 0 = ap length e in omega (arith, n))
rows_renamed old new (k ∷ ks) (v ∷ vs) [] e = absurd (let n : 0 ≡ suc (length (map (set_at old) vs)) = ap length e in omega (arith, n))
rows_renamed old new (k ∷ ks) (v ∷ vs) (w ∷ ws) e =
    ap (λ s. (k, s) ∷ rows new ks ws) (head_same _ _ _ _ e) ∙ ap (λ l. (k, set_at old v) ∷ l) (rows_renamed old new ks vs ws (tail_same _ _ _ _ e))
