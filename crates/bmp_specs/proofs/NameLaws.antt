-- What more effects do to the name and to the description of a router: the last that is given stays.
use Rattle.std.proofs.Common.{◌≡◌, ℕ, List, [], ◌∷◌, ◌++◌, Option, None, Some, refl, ap, ◌∙◌}
use Rattle.std.specs.Prelude.{filter_map, unwrap_or}
use Rattle.std.specs.List.{AllByRecursion, last_or}
use Rattle.std.proofs.lemmas.List.Elements.{filter_map-append}
use Rattle.bmp_specs.specs.Session.{name_in, description_in, name_of, description_of}
use Rattle.bmp_specs.specs.Values.{EffectValue, named, described}

module _ {X A : Type 0} (shows : X → Option A) (default : A) where
  -- the last value that is shown, or the default
  abbrev last_shown : List X → A
  last_shown xs = unwrap_or (last_or None (filter_map shows xs)) default

  last_over : (found : Option A) (xs ys : List A) → last_or found (xs ++ ys) ≡ last_or (last_or found xs) ys
  last_over found [] ys = refl
  last_over found (x ∷ xs) ys = last_over (Some x) xs ys

  any_default : (x : A) (ys : List A) (d e : A) → unwrap_or (last_or (Some x) ys) d ≡ unwrap_or (last_or (Some x) ys) e
  any_default x [] d e = refl
  any_default x (y ∷ ys) d e = any_default y ys d e

  last_then : (found : Option A) (ys : List A) → unwrap_or (last_or found ys) default ≡ unwrap_or (last_or None ys) (unwrap_or found default)
  last_then found [] = refl
  last_then found (y ∷ ys) = any_default y ys default (unwrap_or found default)

  last_of_both : (xs ys : List X) → last_shown (xs ++ ys) ≡ unwrap_or (last_or None (filter_map shows ys)) (last_shown xs)
  last_of_both xs ys =
      ap (λ (l : List A). unwrap_or (last_or None l) default) (filter_map-append shows xs ys)
      ∙ ap (λ (o : Option A). unwrap_or o default) (last_over None (filter_map shows xs) (filter_map shows ys))
      ∙ last_then (last_or None (filter_map shows xs)) (filter_map shows ys)

  -- one more
  last_step : (xs : List X) (x : X) → last_shown (xs ++ x ∷ []) ≡ unwrap_or (shows x) (last_shown xs)
  last_step xs x = last_of_both xs (x ∷ []) ∙ by (shows x) refl
    where
      by : (o : Option A) → shows x ≡ o → unwrap_or (last_or None (filter_map shows (x ∷ []))) (last_shown xs) ≡ unwrap_or o (last_shown xs)
      by None is = rw is refl
      by (Some y) is = rw is refl

  none_shown : (xs : List X) → AllByRecursion (λ x. shows x ≡ None) xs → filter_map shows xs ≡ []
  none_shown [] all = refl
  none_shown (x ∷ xs) all = rw (all.0) (none_shown xs all.1)

  last_kept : (xs ys : List X) → AllByRecursion (λ x. shows x ≡ None) ys → last_shown (xs ++ ys) ≡ last_shown xs
  last_kept xs ys none = last_of_both xs ys ∙ ap (λ (l : List A). unwrap_or (last_or None l) (last_shown xs)) (none_shown ys none)

-- ---- sysName
pub name_now : (es : List EffectValue) (name : List ℕ) → name_of (es ++ named name ∷ []) ≡ name
name_now es name = last_step name_in [] es (named name)

pub name_step : (es : List EffectValue) (e : EffectValue) → name_of (es ++ e ∷ []) ≡ unwrap_or (name_in e) (name_of es)
name_step es e = last_step name_in [] es e

pub name_kept : (es : List EffectValue) (e : EffectValue) → name_in e ≡ None → name_of (es ++ e ∷ []) ≡ name_of es
name_kept es e none = name_step es e ∙ ap (λ (o : Option (List ℕ)). unwrap_or o (name_of es)) none

pub name_kept_by_all : (es more : List EffectValue) → AllByRecursion (λ e. name_in e ≡ None) more → name_of (es ++ more) ≡ name_of es
name_kept_by_all es more none = last_kept name_in [] es more none

-- ---- sysDescr
pub description_now : (es : List EffectValue) (text : List ℕ) → description_of (es ++ described text ∷ []) ≡ text
description_now es text = last_step description_in [] es (described text)

pub description_step : (es : List EffectValue) (e : EffectValue) → description_of (es ++ e ∷ []) ≡ unwrap_or (description_in e) (description_of es)
description_step es e = last_step description_in [] es e

pub description_kept : (es : List EffectValue) (e : EffectValue) → description_in e ≡ None → description_of (es ++ e ∷ []) ≡ description_of es
description_kept es e none = description_step es e ∙ ap (λ (o : Option (List ℕ)). unwrap_or o (description_of es)) none

pub description_kept_by_all : (es more : List EffectValue) → AllByRecursion (λ e. description_in e ≡ None) more → description_of (es ++ more) ≡ description_of es
description_kept_by_all es more none = last_kept description_in [] es more none
