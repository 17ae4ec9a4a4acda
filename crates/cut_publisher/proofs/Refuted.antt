-- Wrong results of the publisher's calls, which their clauses refuse.
use Rattle.std.proofs.Common.{◌≡◌, ℕ, ◌^◌, ◌<◌, ◌≤◌, List, [], ◌∷◌, length, refl, sym, ap, subst, arith}
use Rattle.std.specs.Prelude.{replicate}
use Rattle.std.proofs.lemmas.List.{get_or-replicate, length-replicate}
use Rattle.std.proofs.lemmas.List.Elements.{All-replicate}
use Rattle.std.proofs.lemmas.List.Folds.{sum_by-replicate}
use Rattle.cut_publisher.specs.declared.history.Event.{Event}
use Rattle.cut_publisher.specs.declared.history.Event.TheVariants.{Of}
use Rattle.cut_publisher.specs.Cuts.{IsLane, Stands, most_passes, total}
use Rattle.cut_publisher.specs.History.{Begins, Fed, Saw, Site, batch}
use Rattle.cut_publisher.specs.Publication.{Published}

-- a pass of lane 0 that made these entries and has seen these of lane 0 and no others
abbrev pass_of : Site → List ℕ → List ℕ → Fed ℕ
pass_of site made seen = record { station = site; lane = 0; entries = made; seen = batch 0 seen }

-- A batch joins the history twice, whatever the pass says it made.
a_batch_joins_once : (site : Site) (made : List ℕ) (note : Saw ℕ) → Published (pass_of site [] []) (7 ∷ []) (pass_of site made (7 ∷ 7 ∷ [])) note → ⊥
a_batch_joins_once site made note p = omega (arith, ap length p.part_is, ap length p.entries)

-- Of what it has seen and what it is told a pass keeps the shorter: then what it keeps doesn't begin with the longer.
the_shorter_is_not_kept : Begins {A = Event ℕ} (Of 0 7 ∷ Of 0 8 ∷ []) (Of 0 7 ∷ []) → ⊥
the_shorter_is_not_kept b = omega (arith, ap length b.is)

-- ---- how many lanes there are
module _ {S E : Type 0} (stands : S → List E → Type 0) where
  -- A cut of 1,025 lanes stands for no history.
  lanes_are_few : (c : List (S × ℕ)) (h : List (Event E)) → length c ≡ 1025 → Stands stands c h → ⊥
  lanes_are_few c h many s = omega (arith, many, s.few)

  -- One of 1,024 does: that of a station where nothing was published.
  lanes_are_as_many : (n : ℕ) (v : S) → n ≡ 1024 → stands v [] → Stands stands (replicate n (v, 0)) []
  lanes_are_as_many n v many first = let x : S × ℕ = (v, 0) in let size = length-replicate n x in record {
    lanes = λ k d lt. subst (IsLane stands []) (sym (get_or-replicate n k x d (omega (arith, lt, size)))) (record { value = first; count = refl });
    rev = omega (arith, sum_by-replicate (λ (y : S × ℕ). y.1) n x);
    few = omega (arith, many, size);
    room = All-replicate (λ (y : S × ℕ). y.1 ≤ 2 ^ 57) n x (omega arith);
  }

module _ {S : Type 0} where
  -- That no lane has more than 2^57 entries doesn't keep the sum of 1,024 within 64 bits, so a publication asks for it.
  counts_are_no_bound_of_the_sum : (n : ℕ) (v : S) → n ≡ most_passes → total (replicate n (v, 2 ^ 57)) < 2 ^ 64 → ⊥
  counts_are_no_bound_of_the_sum n v many fits = omega (arith, many, fits, sum_by-replicate (λ (y : S × ℕ). y.1) n (v, 2 ^ 57))
