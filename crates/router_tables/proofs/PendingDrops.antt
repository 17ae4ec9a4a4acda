-- A peer that comes up or goes down loses the gathered changes with its tables.
use Rattle.std.proofs.Common.{◌≡◌, ◌↔◌, inl, inr, false, List, [], ◌∷◌, ◌++◌, Option, None, Some, refl, sym, ap, ◌∙◌, subst}
use Rattle.std.specs.BTreeMap.{is_at}
use Rattle.std.specs.Map.{lookup}
use Rattle.std.specs.Option.{unwrap_or}
use Rattle.std.specs.Prelude.{option_and_then}
use mathlib.Core.Logic.Iff.{trans as then_iff}
use Rattle.bmp_specs.specs.declared.peers.View.{View}
use Rattle.bmp_specs.specs.declared.peers.View.TheVariants.{InPre, InPost, OutPre, OutPost, Loc}
use Rattle.bmp_specs.specs.Orders.{key_cmp, nlri_cmp}
use Rattle.bmp_specs.specs.PeerUp.{Names}
use Rattle.bmp_specs.specs.Rows.{RowKeyValue, HasRow}
use Rattle.bmp_specs.specs.Values.{NlriValue, KeyValue, AttrsValue, EffectValue}
use Rattle.bmp_specs.proofs.EffectCases.{named_other_row}
use Rattle.bmp_specs.proofs.OrderLaws.{key_total, key_exact, same_or_other}
use Rattle.bmp_specs.proofs.PairLookups.{at_other}
use Rattle.bmp_specs.proofs.RowLaws.{row_kept, named_ends_row}
use Rattle.route_runs.specs.Override.{value_at}
use Rattle.route_runs.specs.Runs.{changed}
use Rattle.router_tables.specs.Pending.{PendingValue, PendingTables, view_changes, no_changes, route_after, AreRowsAfter}
use Rattle.router_tables.specs.Tables.{Tables}
use Rattle.router_tables.specs.Views.{ViewsValue, view_table}

pub nothing : (view : View) (q : NlriValue) → value_at nlri_cmp q (view_changes view no_changes) ≡ None
nothing InPre q = refl
nothing InPost q = refl
nothing OutPre q = refl
nothing OutPost q = refl
nothing Loc q = refl

-- what a peer with these changes and these tables has at a place
abbrev route_by : Option PendingValue → Option ViewsValue → RowKeyValue → Option AttrsValue
route_by pending views place =
    changed (value_at nlri_cmp place.nlri (view_changes place.view (unwrap_or pending no_changes))) (option_and_then (value_at nlri_cmp place.nlri) (option_and_then (view_table place.view) views))

module _ (pending later : PendingTables) (tables next : Tables) (es : List EffectValue) (e : EffectValue) (k : KeyValue) where
  pub rows_after_dropped : Names k e → lookup (is_at (key_cmp k)) later ≡ None → ((key : KeyValue) → is_at (key_cmp k) key ≡ false → lookup (is_at (key_cmp key)) later ≡ lookup (is_at (key_cmp key)) pending)
      → lookup (is_at (key_cmp k)) next ≡ None → ((key : KeyValue) → is_at (key_cmp k) key ≡ false → lookup (is_at (key_cmp key)) next ≡ lookup (is_at (key_cmp key)) tables)
      → AreRowsAfter pending tables es → AreRowsAfter later next (es ++ e ∷ [])
  rows_after_dropped names unchanged others gone stays h row = elim (same_or_other key_cmp key_total key_exact row.row_key.key k) [
    | inl same ↦ (
      λ t. let p : lookup (is_at (key_cmp row.row_key.key)) later ≡ None = subst (λ (j : KeyValue). lookup (is_at (key_cmp j)) later ≡ None) (sym same) unchanged in
          let v : lookup (is_at (key_cmp row.row_key.key)) next ≡ None = subst (λ (j : KeyValue). lookup (is_at (key_cmp j)) next ≡ None) (sym same) gone in
          let none : route_after later next row.row_key ≡ None = (λ i. route_by (p i) (v i) row.row_key) ∙ ap (λ (o : Option (Option AttrsValue)). changed o None) (nothing row.row_key.view row.row_key.nlri) in
          let is : None ≡ Some row.route = sym none ∙ t in cc,
      λ has. absurd (named_ends_row es e row (subst (λ (j : KeyValue). Names j e) (sym same) names) has),
    )
    | inr other ↦
        let not_it = at_other key_cmp key_total key_exact k row.row_key.key (λ s. other (sym s)) in
        let p = others row.row_key.key not_it in
        let v = stays row.row_key.key not_it in
        let same : route_after later next row.row_key ≡ route_after pending tables row.row_key = (λ i. route_by (p i) (v i) row.row_key) in
        subst (λ (o : Option AttrsValue). (o ≡ Some row.route) ↔ HasRow (es ++ e ∷ []) row) (sym same) (then_iff (h row) (row_kept es e row (named_other_row k row.row_key e names other)))
  ]
