-- What one lane does, done on the list of all lanes; and a list of lanes that are all the same.
use Rattle.std.proofs.Common.{◌≡◌, ℕ, ◌+◌, ◌<◌, ◌≤◌, List, [], ◌∷◌, ◌++◌, length, get_or, set, replicate, inl, inr, refl, ap, ◌∙◌, subst}
use Rattle.std.proofs.lemmas.List.{get_or_default, replicate_more}
use Rattle.bmp_specs.specs.Life.{Given}
use Rattle.bmp_specs.specs.Meaning.{Meaning}
use Rattle.station_core.specs.declared.lane.Lane.{Lane}
use Rattle.station_core.specs.Standing.{MovesLane}
use Rattle.station_core.specs.Taking.{Moves}

module _ {B : Type 0} (meaning : Meaning) (state : B → meaning.State) (Does : List Given → List Given → Type 0) (number : ℕ) (lanes : List (Lane B)) where
  pub moves_at : (d new : Lane B) → number < length lanes → Moves meaning state Does (get_or lanes number d).due new.due (get_or lanes number d).present new.present → MovesLane meaning state Does number lanes (set lanes number new)
  moves_at d new here moves = inl (
    here,
    record {
      lane = new;
      is = refl;
      moves = λ e. subst (λ (l : Lane B). Moves meaning state Does l.due new.due l.present new.present) (get_or_default lanes number d e here) moves;
    },
  )

  pub moves_none : length lanes ≤ number → MovesLane meaning state Does number lanes lanes
  moves_none past = inr (past, refl)

-- one more of the same
pub same_more : {X : Type 0} (old new : List X) (x y : X) (n : ℕ) → old ≡ replicate n y → x ≡ y → new ≡ old ++ x ∷ [] → new ≡ replicate (n + 1) y
same_more {X} old new x y n before is next = next ∙ ap (λ (l : List X). l ++ x ∷ []) before ∙ ap (λ (z : X). replicate n y ++ z ∷ []) is ∙ replicate_more n y

-- as many as were asked for
pub same_all : {X : Type 0} (all : List X) (y : X) (n count : ℕ) → all ≡ replicate n y → n ≡ count → all ≡ replicate count y
same_all all y n count before is = before ∙ ap (λ (k : ℕ). replicate k y) is
