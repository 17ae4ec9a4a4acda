-- Each step of the cell keeps its rule.
use Rattle.std.proofs.Common.{◌≡◌, ◌≢◌, ℕ, List, [], ◌∷◌, ◌++◌, set, length, refl, sym, ap, ◌∙◌, subst, ⊎_elim, inl, inr}
use mathlib.Core.Option.{some}
use lib.ListN.{get_elem?}
use Rattle.left_right.specs.Register.{Admits, Turns, TurnsAt, Forks, Merges}
use Rattle.atomic_table.proofs.Lists.{at_set, at_snoc, set_again}
use Rattle.cut_publisher.specs.declared.cell.Shown.{Shown}
use Rattle.cut_publisher.specs.declared.cell.Known.{Known}
use Rattle.std.specs.Arc.{arc_value}
use Rattle.cut_publisher.specs.declared.history.LogRule.{LogRule}
use Rattle.logbook.specs.declared.tokens.Seen.{Seen}
use Rattle.std.proofs.lemmas.List.Sums.{fold_push}
use Rattle.std.specs.List.{fold}
use Rattle.cut_publisher.specs.declared.history.Step.{Step}
use Rattle.cut_publisher.specs.History.{told}
use Rattle.cut_publisher.specs.Cuts.{Stands}
use Rattle.cut_publisher.specs.Logs.{IsLog, IsOpen}
use Rattle.cut_publisher.specs.Rule.{Ends, Entered, Good, IsAlike, IsLive, IsReady, Keeps, named, nobody, site_at, site_of}

abbrev pub State : Type 0 → Type 0 → Type 0
State S E = List (S × ℕ) × Seen (Step E) ℕ LogRule × ℕ

abbrev pub state_of : {S E : Type 0} → Shown S E → State S E
state_of x = (arc_value x.cut, x.seen, x.steps)

abbrev pub applied : {S E : Type 0} → State S E → Shown S E → State S E
applied s x = state_of x

module _ {S E : Type 0} where
  pub alike_of : (x y : Shown S E) → state_of x ≡ state_of y → IsAlike x y
  alike_of x y e = record { cut = ap (λ (z : State S E). z.0) e; seen = ap (λ (z : State S E). z.1) e; steps = ap (λ (z : State S E). z.2) e }

  pub alike_back : (x y : Shown S E) → IsAlike x y → IsAlike y x
  alike_back x y a = record { cut = sym a.cut; seen = sym a.seen; steps = sym a.steps }

  -- what is alike is of one station
  pub alike_site : (x y : Shown S E) → IsAlike x y → site_of x ≡ site_of y
  alike_site x y a = λ i. site_at (a.seen i).book (a.cut i)

module _ {S E : Type 0} (stands : S → List E → Type 0) where
  pub enters : (seat : ℕ) (v : Known) → Turns (Keeps stands) seat v (λ x. x) (Entered stands)
  enters seat v x views h at =
      let w = named (site_of x) in (
        w,
        record {
          station = λ j u e n. ⊎_elim (λ (t : (j ≡ seat) × (w ≡ u)). sym t.1) (λ (t : (j ≢ seat) × (get_elem? views j ≡ some u)). h.station j u t.1 n) (at_set views seat j w u e);
          live = h.live;
        },
        record { now = refl; before = h.station seat v at; live = h.live },
      )

  pub admits : Admits (Keeps stands) nobody
  admits x views h = record {
    station = λ j u e n. ⊎_elim (λ at. h.station j u at n) (λ (t : nobody ≡ u). absurd (cc (ap (λ (z : Known). z.named) t, n))) (at_snoc views nobody u j e);
    live = h.live;
  }

  pub good_alike : (x y : Shown S E) → arc_value x.cut ≡ arc_value y.cut → x.seen.log ≡ y.seen.log → x.steps ≡ y.steps → Good stands x → Good stands y
  good_alike x y c l n h = record {
    cut = subst (λ (z : List (S × ℕ) × List (Step E)). Stands stands z.0 (told z.1)) (λ i. (c i, l i)) h.cut;
    long = subst (λ (z : ℕ × List (Step E)). z.0 ≡ length z.1) (λ i. (n i, l i)) h.long;
    marked = subst (λ (z : List (Step E)). IsLog z) l h.marked;
  }

  pub live_alike : (x y : Shown S E) → IsAlike x y → IsLive stands x → IsLive stands y
  live_alike x y a h = record {
    good = good_alike x y a.cut (ap (λ (s : Seen (Step E) ℕ LogRule). s.log) a.seen) a.steps h.good;
    unmarked = subst (λ (s : Seen (Step E) ℕ LogRule). IsOpen s.log) a.seen h.unmarked;
  }

  -- a live value of the same station may be shown
  pub passes : (seat : ℕ) (v : Known) (x y : Shown S E) → IsLive stands y → site_of y ≡ site_of x → TurnsAt (Keeps stands) seat v x y (λ v x y w. w ≡ v)
  passes seat v x y live book views h at = (
    v,
    record {
      station = λ j u e n. h.station j u (subst (λ (l : List Known). get_elem? l j ≡ some u) (set_again views seat v at) e) n ∙ ap named (sym book);
      live = live;
    },
    refl,
  )

  -- what was queued last is what stands then
  pub last_shown : (x y : Shown S E) (pending before : List (Shown S E)) (last : Shown S E) → pending ≡ before ++ last ∷ [] → state_of y ≡ fold applied (state_of x) pending → IsAlike y last
  last_shown x y pending before last ends is =
      alike_of y last (is ∙ ap (fold applied (state_of x)) ends ∙ fold_push applied (state_of x) before last)

  -- what was queued last may be shown
  pub turns : (seat : ℕ) (v : Known) (x y : Shown S E) (pending : List (Shown S E)) → Ends stands (site_of x) pending → state_of y ≡ fold applied (state_of x) pending
      → TurnsAt (Keeps stands) seat v x y (λ v x y w. w ≡ v)
  turns seat v x y pending ends is =
      let last = ends.1 in
      let e = last_shown x y pending ends.0 last ends.2 is in
      passes seat v x y (live_alike last y (alike_back y last e) ends.3) (alike_site y last e ∙ ends.4)

  -- with nothing pending the same stands
  pub same_shown : (x y : Shown S E) (pending : List (Shown S E)) → pending ≡ [] → state_of y ≡ fold applied (state_of x) pending → IsAlike y x
  same_shown x y pending none is = alike_of y x (is ∙ ap (fold applied (state_of x)) none)

  -- the same may be shown again
  pub rests : (seat : ℕ) (v : Known) (x y : Shown S E) (pending : List (Shown S E)) → IsLive stands x → pending ≡ [] → state_of y ≡ fold applied (state_of x) pending
      → TurnsAt (Keeps stands) seat v x y (λ v x y w. w ≡ v)
  rests seat v x y pending live none is =
      let e = same_shown x y pending none is in
      passes seat v x y (live_alike x y (alike_back y x e) live) (alike_site y x e)

  -- what waits last is shown, or the same again
  pub ready : (seat : ℕ) (v : Known) (x y : Shown S E) (pending : List (Shown S E)) → IsReady stands x pending → state_of y ≡ fold applied (state_of x) pending
      → TurnsAt (Keeps stands) seat v x y (λ v x y w. w ≡ v)
  ready seat v x y pending (inl ends) is = turns seat v x y pending ends is
  ready seat v x y pending (inr idle) is = rests seat v x y pending idle.0 idle.1 is

  -- what is shown then is live
  pub live_then : (x y : Shown S E) (pending : List (Shown S E)) → IsReady stands x pending → state_of y ≡ fold applied (state_of x) pending → IsLive stands y
  live_then x y pending (inl ends) is = live_alike ends.1 y (alike_back y ends.1 (last_shown x y pending ends.0 ends.1 ends.2 is)) ends.3
  live_then x y pending (inr idle) is = live_alike x y (alike_back y x (same_shown x y pending idle.1 is)) idle.0

  -- the same with nothing pending, and the writer then knows the station
  pub names : (seat : ℕ) (v : Known) (x y : Shown S E) (pending : List (Shown S E)) → IsLive stands x → pending ≡ [] → state_of y ≡ fold applied (state_of x) pending
      → TurnsAt (Keeps stands) seat v x y (λ v x y w. w ≡ named (site_of y))
  names seat v x y pending live none is views h at =
      let e = same_shown x y pending none is in
      let book : site_of y ≡ site_of x = alike_site y x e in
      let w = named (site_of y) in (
        w,
        record {
          station = λ j u e n. ⊎_elim (λ (t : (j ≡ seat) × (w ≡ u)). sym t.1) (λ (t : (j ≢ seat) × (get_elem? views j ≡ some u)). h.station j u t.1 n ∙ ap named (sym book)) (at_set views seat j w u e);
          live = live_alike x y (alike_back y x e) live;
        },
        refl,
      )

  pub tells : (seat : ℕ) (v : Known) → Forks (Keeps stands) seat v v v
  tells seat v x views h at = record {
    station = λ j u e n. ⊎_elim (λ was. h.station j u (subst (λ (l : List Known). get_elem? l j ≡ some u) (set_again views seat v at) was) n) (λ (same : v ≡ u). sym same ∙ h.station seat v at (ap (λ (z : Known). z.named) same ∙ n)) (at_snoc (set views seat v) v u j e);
    live = h.live;
  }

  pub learns : (seat : ℕ) (v : Known) (other : ℕ) (w : Known) → Merges (Keeps stands) seat v other w w nobody
  learns seat v other w x views h at apart there =
      let theirs = ⊎_elim (λ (t : (other ≡ seat) × (w ≡ w)). absurd (apart t.0)) (λ (t : (other ≢ seat) × (get_elem? views other ≡ some w)). t.1) (at_set views seat other w w there) in
      record {
        station = λ j u e n. ⊎_elim (λ (t : (j ≡ other) × (nobody ≡ u)). absurd (cc (ap (λ (z : Known). z.named) t.1, n)))
            (λ (t : (j ≢ other) × (get_elem? (set views seat w) j ≡ some u)). ⊎_elim (λ (r : (j ≡ seat) × (w ≡ u)). sym r.1 ∙ h.station other w theirs (ap (λ (z : Known). z.named) r.1 ∙ n)) (λ (r : (j ≢ seat) × (get_elem? views j ≡ some u)). h.station j u r.1 n) (at_set views seat j w u t.1))
            (at_set (set views seat w) other j nobody u e);
        live = h.live;
      }
