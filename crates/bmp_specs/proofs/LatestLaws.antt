-- The latest of its kind in a list: one more element at the end, and that there is one.
use Rattle.std.proofs.Common.{◌≡◌, ◌↔◌, ◌⊎◌, inl, inr, List, [], ◌∷◌, ◌++◌, refl, sym, ap, ◌∙◌, subst, append-nil, append_assoc}
use Rattle.std.specs.List.{AllByRecursion}
use mathlib.Core.Logic.Iff.{trans as then_iff}
use Rattle.bmp_specs.specs.Latest.{Latest}

-- the place of x in a list with e at its end: the end, or before it
abbrev pub EndCases : {X : Type 0} → List X → List X → List X → X → X → Type 0
EndCases {X} es before after e x = ((after ≡ []) × (es ≡ before) × (e ≡ x)) ⊎ ((rest : List X) × (after ≡ rest ++ e ∷ []) × (es ≡ before ++ x ∷ rest))

-- two places of a list with x at one and y at the other
abbrev pub PlaceCases : {X : Type 0} → List X → List X → List X → List X → X → X → Type 0
PlaceCases {X} a at_a b at_b x y =
    ((a ≡ b) × (x ≡ y) × (at_a ≡ at_b))
    ⊎ ((between : List X) × (at_a ≡ between ++ y ∷ at_b))
    ⊎ ((between : List X) × (at_b ≡ between ++ x ∷ at_a))

module _ {X : Type 0} where
  pub no_middle : (before after : List X) (x : X) → [] ≡ before ++ x ∷ after → ⊥
  no_middle [] after x e = cc
  no_middle (b ∷ before) after x e = cc

  one_later : (y b : X) (es before after : List X) (e x : X) → y ≡ b → EndCases es before after e x → EndCases (y ∷ es) (b ∷ before) after e x
  one_later y b es before after e x same (inl (a, s, t)) = inl (a, cc, t)
  one_later y b es before after e x same (inr (rest, a, s)) = inr (rest, a, cc)

  pub end_cases : (es before after : List X) (e x : X) → es ++ e ∷ [] ≡ before ++ x ∷ after → EndCases es before after e x
  end_cases [] [] after e x h = inl (cc, refl, cc)
  end_cases [] (b ∷ before) after e x h = let t : [] ≡ before ++ x ∷ after = cc in absurd (no_middle before after x t)
  end_cases (y ∷ es) [] after e x h = inr (es, cc, cc)
  end_cases (y ∷ es) (b ∷ before) after e x h =
      let same : y ≡ b = cc in
      let rest : es ++ e ∷ [] ≡ before ++ x ∷ after = cc in
      one_later y b es before after e x same (end_cases es before after e x rest)

  pub all_push : (P : X → Type 0) (xs : List X) (x : X) → AllByRecursion P xs → P x → AllByRecursion P (xs ++ x ∷ [])
  all_push P [] x a h = (h, tt)
  all_push P (y ∷ xs) x a h = (a.0, all_push P xs x a.1 h)

  pub all_front : (P : X → Type 0) (xs : List X) (x : X) → AllByRecursion P (xs ++ x ∷ []) → AllByRecursion P xs × P x
  all_front P [] x a = (tt, a.0)
  all_front P (y ∷ xs) x a = let h = all_front P xs x a.1 in ((a.0, h.0), h.1)

  pub all_middle : (P : X → Type 0) (between after : List X) (x : X) → AllByRecursion P (between ++ x ∷ after) → P x
  all_middle P [] after x a = a.0
  all_middle P (y ∷ between) after x a = all_middle P between after x a.1

  middle_push : (before after : List X) (x e : X) → (before ++ x ∷ after) ++ e ∷ [] ≡ before ++ x ∷ (after ++ e ∷ [])
  middle_push [] after x e = refl
  middle_push (b ∷ before) after x e = ap (λ (l : List X). b ∷ l) (middle_push before after x e)

  next_cases : (c d : X) (a at_a b at_b : List X) (x y : X) → c ≡ d → PlaceCases a at_a b at_b x y → PlaceCases (c ∷ a) at_a (d ∷ b) at_b x y
  next_cases c d a at_a b at_b x y same (inl (p, q, r)) = inl (cc, q, r)
  next_cases c d a at_a b at_b x y same (inr h) = inr h

  pub place_cases : (a at_a b at_b : List X) (x y : X) → a ++ x ∷ at_a ≡ b ++ y ∷ at_b → PlaceCases a at_a b at_b x y
  place_cases [] at_a [] at_b x y e = inl (refl, cc, cc)
  place_cases [] at_a (d ∷ b) at_b x y e = inr (inl (b, cc))
  place_cases (c ∷ a) at_a [] at_b x y e = inr (inr (a, cc))
  place_cases (c ∷ a) at_a (d ∷ b) at_b x y e =
      let same : c ≡ d = cc in
      let rest : a ++ x ∷ at_a ≡ b ++ y ∷ at_b = cc in
      next_cases c d a at_a b at_b x y same (place_cases a at_a b at_b x y rest)

  module _ (Replaces : X → Type 0) where
    -- what stands at the end is the latest
    pub latest_now : (es : List X) (x : X) → Latest Replaces (es ++ x ∷ []) x
    latest_now es x = record { before = es; after = []; split = refl; last = tt }

    -- what doesn't replace it leaves it the latest, with the same before it
    pub latest_still : (es : List X) (e x : X) (l : Latest Replaces es x) → ¬ (Replaces e) → (m : Latest Replaces (es ++ e ∷ []) x) × (m.before ≡ l.before)
    latest_still es e x l other = (
      record {
        before = l.before;
        after = l.after ++ e ∷ [];
        split = ap (λ (xs : List X). xs ++ e ∷ []) l.split ∙ middle_push l.before l.after x e;
        last = all_push (λ y. ¬ (Replaces y)) l.after e l.last other;
      },
      refl,
    )

    -- the latest is what stands at the end, or it was the latest before and what stands there doesn't replace it
    pub latest_from : (es : List X) (e x : X) (m : Latest Replaces (es ++ e ∷ []) x)
        → ((e ≡ x) × (es ≡ m.before)) ⊎ ((l : Latest Replaces es x) × (l.before ≡ m.before) × ¬ (Replaces e))
    latest_from es e x m = go (end_cases es m.before m.after e x m.split)
      where
        go : EndCases es m.before m.after e x → ((e ≡ x) × (es ≡ m.before)) ⊎ ((l : Latest Replaces es x) × (l.before ≡ m.before) × ¬ (Replaces e))
        go (inl (a, s, t)) = inl (t, s)
        go (inr (rest, a, s)) =
            let h = all_front (λ y. ¬ (Replaces y)) rest e (subst (AllByRecursion (λ y. ¬ (Replaces y))) a m.last) in
            inr (record { before = m.before; after = rest; split = s; last = h.0 }, refl, h.1)

    pub latest_step : (es : List X) (e x : X) → Latest Replaces (es ++ e ∷ []) x ↔ ((e ≡ x) ⊎ (Latest Replaces es x × ¬ (Replaces e)))
    latest_step es e x = (
      λ m. elim (latest_from es e x m) [ inl h ↦ inl h.0 | inr h ↦ inr (h.0, h.2) ],
      λ c. elim c [ inl same ↦ subst (λ (d : X). Latest Replaces (es ++ d ∷ []) x) (sym same) (latest_now es x) | inr h ↦ (latest_still es e x h.0 h.1).0 ],
    )

    -- what doesn't replace a value that replaces leaves it the latest or not
    pub latest_kept : (es : List X) (e x : X) → Replaces x → ¬ (Replaces e) → Latest Replaces es x ↔ Latest Replaces (es ++ e ∷ []) x
    latest_kept es e x replaces other = (
      λ l. (latest_still es e x l other).0,
      λ m. elim (latest_from es e x m) [ inl h ↦ absurd (other (subst Replaces (sym h.0) replaces)) | inr h ↦ h.0 ],
    )

    -- of values that each replace, one is the latest, at one place
    pub latest_one : (es : List X) (x y : X) (l : Latest Replaces es x) (m : Latest Replaces es y) → Replaces x → Replaces y → (x ≡ y) × (l.before ≡ m.before) × (l.after ≡ m.after)
    latest_one es x y l m p q = go (place_cases l.before l.after m.before m.after x y (sym l.split ∙ m.split))
      where
        go : PlaceCases l.before l.after m.before m.after x y → (x ≡ y) × (l.before ≡ m.before) × (l.after ≡ m.after)
        go (inl (a, s, t)) = (s, a, t)
        go (inr (inl (between, s))) = absurd (all_middle (λ z. ¬ (Replaces z)) between m.after y (subst (AllByRecursion (λ z. ¬ (Replaces z))) s l.last) q)
        go (inr (inr (between, s))) = absurd (all_middle (λ z. ¬ (Replaces z)) between l.after x (subst (AllByRecursion (λ z. ¬ (Replaces z))) s m.last) p)

  -- where something replaces, the last that does is the latest
  pub latest_stands : (Replaces : X → Type 0) (decides : (x : X) → Replaces x ⊎ ¬ (Replaces x)) (xs : List X) → ((x : X) × Replaces x × Latest Replaces xs x) ⊎ AllByRecursion (λ x. ¬ (Replaces x)) xs
  latest_stands Replaces decides [] = inr tt
  latest_stands Replaces decides (y ∷ xs) = elim (latest_stands Replaces decides xs) [
    | inl h ↦ inl (h.0, h.1, record { before = y ∷ h.2.before; after = h.2.after; split = ap (λ (l : List X). y ∷ l) h.2.split; last = h.2.last })
    | inr others ↦ elim (decides y) [
      | inl r ↦ inl (y, r, record { before = []; after = xs; split = refl; last = others })
      | inr other ↦ inr (other, others)
    ]
  ]

  pub all_weaker : (P Q : X → Type 0) → ((x : X) → P x → Q x) → (xs : List X) → AllByRecursion P xs → AllByRecursion Q xs
  all_weaker P Q weaker [] all = tt
  all_weaker P Q weaker (x ∷ xs) all = (weaker x all.0, all_weaker P Q weaker xs all.1)

  -- what stays with each of some elements more stays with all of them
  pub still_by_all : (P : X → Type 0) (Q : List X → Type 0) → ((xs : List X) (x : X) → P x → Q xs → Q (xs ++ x ∷ [])) → (xs ys : List X) → AllByRecursion P ys → Q xs → Q (xs ++ ys)
  still_by_all P Q one xs [] all q = subst Q (sym (append-nil xs)) q
  still_by_all P Q one xs (y ∷ ys) all q = subst Q (append_assoc xs (y ∷ []) ys) (still_by_all P Q one (xs ++ y ∷ []) ys all.1 (one xs y all.0 q))

  -- what each of some elements leaves as it is, all of them do
  pub kept_by_all : (P : X → Type 0) (Q : List X → Type 0) → ((xs : List X) (x : X) → P x → Q xs ↔ Q (xs ++ x ∷ [])) → (xs ys : List X) → AllByRecursion P ys → Q xs ↔ Q (xs ++ ys)
  kept_by_all P Q one xs [] all = subst (λ (l : List X). Q xs ↔ Q l) (sym (append-nil xs)) (λ q. q, λ q. q)
  kept_by_all P Q one xs (y ∷ ys) all = then_iff (one xs y all.0) (subst (λ (l : List X). Q (xs ++ y ∷ []) ↔ Q l) (append_assoc xs (y ∷ []) ys) (kept_by_all P Q one (xs ++ y ∷ []) ys all.1))

  pub same_by_all : {A : Type 0} (P : X → Type 0) (f : List X → A) → ((xs : List X) (x : X) → P x → f (xs ++ x ∷ []) ≡ f xs) → (xs ys : List X) → AllByRecursion P ys → f (xs ++ ys) ≡ f xs
  same_by_all P f one xs [] all = ap f (append-nil xs)
  same_by_all P f one xs (y ∷ ys) all = ap f (sym (append_assoc xs (y ∷ []) ys)) ∙ same_by_all P f one (xs ++ y ∷ []) ys all.1 ∙ one xs y all.0
