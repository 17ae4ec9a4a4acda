-- What one more change that is gathered makes of the rows.
use Rattle.std.proofs.Common.{◌≡◌, inl, inr, Bool, false, cond, List, ◌++◌, map, Option, None, Some, refl, sym, ap, ◌∙◌, subst}
use Rattle.std.specs.BTreeMap.{is_at}
use Rattle.std.specs.Ordering.{is_eq}
use Rattle.std.specs.Map.{lookup}
use Rattle.std.specs.Option.{unwrap_or}
use Rattle.std.proofs.lemmas.Cmp.{tied_itself}
use Rattle.bmp_specs.specs.declared.peers.View.{View}
use Rattle.bmp_specs.specs.Orders.{key_cmp, nlri_cmp, view_cmp}
use Rattle.bmp_specs.specs.PeerUp.{IsUp}
use Rattle.bmp_specs.specs.Rows.{RowKeyValue}
use Rattle.bmp_specs.specs.Values.{NlriValue, KeyValue, AttrsValue, EffectValue}
use Rattle.bmp_specs.proofs.EffectCases.{same_key}
use Rattle.bmp_specs.proofs.OrderLaws.{key_total, key_exact, view_total, view_exact, same_or_other}
use Rattle.bmp_specs.proofs.PairLookups.{at_other}
use Rattle.route_runs.specs.Override.{value_at}
use Rattle.route_runs.specs.Runs.{changed}
use Rattle.router_tables.specs.Pending.{PendingValue, PendingTables, view_changes, IsGathered, no_changes, changes_of, IsGatheredFor, route_effect, route_after, AreRowsAfter}
use Rattle.router_tables.specs.Tables.{Tables, route_at}
use Rattle.router_tables.proofs.RouteSteps.{IsAmong, IsPut, routes_put}

module _ (key : KeyValue) (view : View) (nlris : List NlriValue) (to : Option AttrsValue) (old new : PendingTables) (tables : Tables) (g : IsGatheredFor key view nlris to old new) where
  change_here : (place : RowKeyValue) → IsAmong key view nlris place → value_at nlri_cmp place.nlri (view_changes place.view (changes_of new place.key)) ≡ Some to
  change_here place here =
      subst (λ (k : KeyValue). value_at nlri_cmp place.nlri (view_changes place.view (changes_of new k)) ≡ Some to) here.0
      (subst (λ (v : View). value_at nlri_cmp place.nlri (view_changes v (changes_of new key)) ≡ Some to) here.1 (g.this.this.these place.nlri here.2))

  change_elsewhere : (place : RowKeyValue) → ¬ (IsAmong key view nlris place)
      → value_at nlri_cmp place.nlri (view_changes place.view (changes_of new place.key)) ≡ value_at nlri_cmp place.nlri (view_changes place.view (changes_of old place.key))
  change_elsewhere place other = elim (same_key key place.key) [
    | inl k ↦ subst (λ (j : KeyValue). value_at nlri_cmp place.nlri (view_changes place.view (changes_of new j)) ≡ value_at nlri_cmp place.nlri (view_changes place.view (changes_of old j))) k
        (elim (same_or_other view_cmp view_total view_exact view place.view) [
          | inl v ↦ subst (λ (w : View). value_at nlri_cmp place.nlri (view_changes w (changes_of new key)) ≡ value_at nlri_cmp place.nlri (view_changes w (changes_of old key))) v
              (g.this.this.others place.nlri (λ c. other (k, v, c)))
          | inr apart ↦ ap (value_at nlri_cmp place.nlri) (g.this.others place.view apart)
        ])
    | inr apart ↦ ap (λ (p : PendingValue). value_at nlri_cmp place.nlri (view_changes place.view p)) (g.others place.key apart)
  ]

  gathered_put : IsPut key view nlris to (route_after old tables) (route_after new tables)
  gathered_put = record {
    these = λ place here. ap (λ (o : Option (Option AttrsValue)). changed o (route_at tables place)) (change_here place here);
    others = λ place other. ap (λ (o : Option (Option AttrsValue)). changed o (route_at tables place)) (change_elsewhere place other);
  }

  -- changes of a peer that is up
  pub rows_gathered : (effects : List EffectValue) → IsUp effects key → AreRowsAfter old tables effects → AreRowsAfter new tables (effects ++ map (route_effect key view to) nlris)
  rows_gathered effects is_up h = routes_put key view to nlris (route_after old tables) (route_after new tables) effects is_up gathered_put h

-- the changes of a peer are taken out, and put back with these
pub gathered_for : (key : KeyValue) (view : View) (nlris : List NlriValue) (to : Option AttrsValue) (old gone new : PendingTables) (was now : PendingValue) → was ≡ changes_of old key → IsGathered view nlris to was now
    → ((k : KeyValue) → is_at (key_cmp key) k ≡ false → lookup (is_at (key_cmp k)) gone ≡ lookup (is_at (key_cmp k)) old) → lookup (is_at (key_cmp key)) new ≡ Some now
    → ((k : KeyValue) → is_at (key_cmp key) k ≡ false → lookup (is_at (key_cmp k)) new ≡ lookup (is_at (key_cmp k)) gone) → IsGatheredFor key view nlris to old new
gathered_for key view nlris to old gone new was now before g out here stays = record {
  this = subst (λ (p : PendingValue). IsGathered view nlris to p (changes_of new key)) before
      (subst (λ (p : PendingValue). IsGathered view nlris to was p) (sym (ap (λ (o : Option PendingValue). unwrap_or o no_changes) here)) g);
  others = λ other apart. let not_it = at_other key_cmp key_total key_exact key other apart in ap (λ (o : Option PendingValue). unwrap_or o no_changes) (stays other not_it ∙ out other not_it);
}

-- a peer that has changes has these instead
pub gathered_there : (key : KeyValue) (view : View) (nlris : List NlriValue) (to : Option AttrsValue) (old new : PendingTables) (was now : PendingValue) → Some was ≡ lookup (is_at (key_cmp key)) old → IsGathered view nlris to was now
    → ((k : KeyValue) → lookup (is_at (key_cmp k)) new ≡ cond (is_at (key_cmp key) k) (Some now) (lookup (is_at (key_cmp k)) old)) → IsGatheredFor key view nlris to old new
gathered_there key view nlris to old new was now there g each =
    let changes : Option PendingValue → PendingValue = (λ o. unwrap_or o no_changes) in
    let here : changes_of new key ≡ now = ap changes (each key ∙ ap (λ (b : Bool). cond b (Some now) (lookup (is_at (key_cmp key)) old)) (ap is_eq (tied_itself key_total key))) in
    record {
      this = subst (λ (p : PendingValue). IsGathered view nlris to p (changes_of new key)) (ap changes there) (subst (λ (p : PendingValue). IsGathered view nlris to was p) (sym here) g);
      others = λ other apart. ap changes (each other ∙ ap (λ (b : Bool). cond b (Some now) (lookup (is_at (key_cmp other)) old)) (at_other key_cmp key_total key_exact key other apart));
    }

-- a peer that has none has these
pub gathered_first : (key : KeyValue) (view : View) (nlris : List NlriValue) (to : Option AttrsValue) (old new : PendingTables) (now : PendingValue) → lookup (is_at (key_cmp key)) old ≡ None → IsGathered view nlris to no_changes now → lookup (is_at (key_cmp key)) new ≡ Some now
    → ((k : KeyValue) → is_at (key_cmp key) k ≡ false → lookup (is_at (key_cmp k)) new ≡ lookup (is_at (key_cmp k)) old) → IsGatheredFor key view nlris to old new
gathered_first key view nlris to old new now none g here stays =
    gathered_for key view nlris to old old new no_changes now (sym (ap (λ (o : Option PendingValue). unwrap_or o no_changes) none)) g (λ k other. refl) here stays
