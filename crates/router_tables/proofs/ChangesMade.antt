-- The tables once the changes that were gathered are made.
use Rattle.std.proofs.Common.{◌≡◌, ◌↔◌, inl, inr, true, false, ◌<◌, length, List, [], ◌∷◌, Option, None, Some, Result, Ok, Err, OnOk, refl, sym, ap, ◌∙◌, subst, arith}
use Rattle.std.specs.BTreeMap.{is_at}
use Rattle.std.specs.Map.{lookup}
use Rattle.std.specs.Option.{unwrap_or}
use Rattle.std.specs.Prelude.{option_and_then}
use Rattle.bmp_specs.specs.declared.peers.View.{View}
use Rattle.bmp_specs.specs.declared.peers.View.TheVariants.{InPre, InPost, OutPre, OutPost, Loc}
use Rattle.bmp_specs.specs.Orders.{key_cmp, nlri_cmp}
use Rattle.bmp_specs.specs.Rows.{RowKeyValue, HasRow}
use Rattle.bmp_specs.specs.Values.{NlriValue, KeyValue, AttrsValue, EffectValue}
use Rattle.bmp_specs.proofs.EffectCases.{same_key}
use Rattle.bmp_specs.proofs.OrderLaws.{key_total, key_exact}
use Rattle.bmp_specs.proofs.PairLookups.{at_other}
use Rattle.bmp_specs.proofs.RowLaws.{none_row}
use Rattle.route_runs.specs.Override.{value_at}
use Rattle.route_runs.specs.Runs.{changed}
use Rattle.router_tables.specs.Pending.{PendingValue, PendingTables, view_changes, no_changes, changes_of, route_after, AreRowsAfter, AreTablesAfter, IsPeerAfter, IsTableAfter}
use Rattle.router_tables.specs.Tables.{Tables, table_at, route_at, AreRowsOf}
use Rattle.router_tables.specs.Views.{Table, ViewsValue, view_table, no_tables}
use Rattle.router_tables.proofs.PendingDrops.{nothing}

no_table : (view : View) → view_table view no_tables ≡ None
no_table InPre = refl
no_table InPost = refl
no_table OutPre = refl
no_table OutPost = refl
no_table Loc = refl

table_so_far : (view : View) (o : Option ViewsValue) → view_table view (unwrap_or o no_tables) ≡ option_and_then (view_table view) o
table_so_far view None = no_table view
table_so_far view (Some v) = refl

-- ---- one peer: its tables are taken out, changed, and put back where there are any
module _ (key : KeyValue) (pending : PendingValue) (tables gone : Tables) (old new : ViewsValue) (was : old ≡ unwrap_or (lookup (is_at (key_cmp key)) tables) no_tables) (after : AreTablesAfter pending old new)
    (out : (k : KeyValue) → is_at (key_cmp key) k ≡ false → lookup (is_at (key_cmp k)) gone ≡ lookup (is_at (key_cmp k)) tables) where
  peer_after : (next : Tables) → ((view : View) → table_at next key view ≡ view_table view new) → ((k : KeyValue) → is_at (key_cmp key) k ≡ false → lookup (is_at (key_cmp k)) next ≡ lookup (is_at (key_cmp k)) gone) → IsPeerAfter key pending tables next
  peer_after next there stays = record {
    this = λ view q. ap (λ (o : Option Table). option_and_then (value_at nlri_cmp q) o) (there view) ∙ after view q
        ∙ ap (λ (o : Option Table). changed (value_at nlri_cmp q (view_changes view pending)) (option_and_then (value_at nlri_cmp q) o)) (ap (view_table view) was ∙ table_so_far view (lookup (is_at (key_cmp key)) tables));
    others = λ other apart view. let not_it = at_other key_cmp key_total key_exact key other apart in ap (λ (o : Option ViewsValue). option_and_then (view_table view) o) (stays other not_it ∙ out other not_it);
  }

  pub peer_put : (next : Tables) → lookup (is_at (key_cmp key)) next ≡ Some new → ((k : KeyValue) → is_at (key_cmp key) k ≡ false → lookup (is_at (key_cmp k)) next ≡ lookup (is_at (key_cmp k)) gone) → IsPeerAfter key pending tables next
  peer_put next here stays = peer_after next (λ view. ap (λ (o : Option ViewsValue). option_and_then (view_table view) o) here) stays

  pub peer_gone : lookup (is_at (key_cmp key)) gone ≡ None → new ≡ no_tables → IsPeerAfter key pending tables gone
  peer_gone here none = peer_after gone (λ view. ap (λ (o : Option ViewsValue). option_and_then (view_table view) o) here ∙ sym (ap (view_table view) none ∙ no_table view)) (λ k apart. refl)

-- ---- all peers: one after another
module _ (pending rest : PendingTables) (tables next : Tables) (key : KeyValue) (changes : PendingValue) (here : lookup (is_at (key_cmp key)) pending ≡ Some changes) (gone : lookup (is_at (key_cmp key)) rest ≡ None)
    (stays : (k : KeyValue) → is_at (key_cmp key) k ≡ false → lookup (is_at (key_cmp k)) rest ≡ lookup (is_at (key_cmp k)) pending) (after : IsPeerAfter key changes tables next) where
  route_here : (view : View) (q : NlriValue) → route_after rest next (record { key = key; view = view; nlri = q }) ≡ route_after pending tables (record { key = key; view = view; nlri = q })
  route_here view q =
      ap (λ (o : Option PendingValue). changed (value_at nlri_cmp q (view_changes view (unwrap_or o no_changes))) (option_and_then (value_at nlri_cmp q) (table_at next key view))) gone
      ∙ ap (λ (o : Option (Option AttrsValue)). changed o (option_and_then (value_at nlri_cmp q) (table_at next key view))) (nothing view q)
      ∙ after.this view q
      ∙ ap (λ (o : Option PendingValue). changed (value_at nlri_cmp q (view_changes view (unwrap_or o no_changes))) (option_and_then (value_at nlri_cmp q) (table_at tables key view))) (sym here)

  route_same : (place : RowKeyValue) → route_after rest next place ≡ route_after pending tables place
  route_same place = elim (same_key key place.key) [
    | inl k ↦ subst (λ (j : KeyValue). route_after rest next (record { key = j; view = place.view; nlri = place.nlri }) ≡ route_after pending tables (record { key = j; view = place.view; nlri = place.nlri })) k (route_here place.view place.nlri)
    | inr apart ↦
        let p = stays place.key (at_other key_cmp key_total key_exact key place.key apart) in
        let t = after.others place.key apart place.view in
        ap (λ (o : Option PendingValue). changed (value_at nlri_cmp place.nlri (view_changes place.view (unwrap_or o no_changes))) (option_and_then (value_at nlri_cmp place.nlri) (table_at next place.key place.view))) p
        ∙ ap (λ (o : Option Table). changed (value_at nlri_cmp place.nlri (view_changes place.view (changes_of pending place.key))) (option_and_then (value_at nlri_cmp place.nlri) o)) t
  ]

  pub rows_same : (effects : List EffectValue) → AreRowsAfter pending tables effects → AreRowsAfter rest next effects
  rows_same effects h row = subst (λ (o : Option AttrsValue). (o ≡ Some row.route) ↔ HasRow effects row) (sym (route_same row.row_key)) (h row)

-- no change is left
pub rows_made : (pending : PendingTables) (tables : Tables) (effects : List EffectValue) → (0 < length pending → false ≡ true) → AreRowsAfter pending tables effects → AreRowsOf tables effects
rows_made [] tables effects none h row = subst (λ (o : Option (Option AttrsValue)). (changed o (route_at tables row.row_key) ≡ Some row.route) ↔ HasRow effects row) (nothing row.row_key.view row.row_key.nlri) (h row)
rows_made (p ∷ pending) tables effects none h row = let e : false ≡ true = none (omega arith) in absurd cc

-- nor is one gathered yet
pub rows_settled : (pending : PendingTables) (tables : Tables) (effects : List EffectValue) → pending ≡ [] → AreRowsOf tables effects → AreRowsAfter pending tables effects
rows_settled [] tables effects none h row = subst (λ (o : Option (Option AttrsValue)). (changed o (route_at tables row.row_key) ≡ Some row.route) ↔ HasRow effects row) (sym (nothing row.row_key.view row.row_key.nlri)) (h row)
rows_settled (p ∷ pending) tables effects none h row = absurd cc

-- no tables have no rows
pub no_rows : (pending : PendingTables) (tables : Tables) → pending ≡ [] → tables ≡ [] → AreRowsAfter pending tables []
no_rows [] [] p t row = (
  λ is. let none : route_after [] [] row.row_key ≡ None = ap (λ (o : Option (Option AttrsValue)). changed o None) (nothing row.row_key.view row.row_key.nlri) in let e : None ≡ Some row.route = sym none ∙ is in cc,
  λ h. absurd (none_row row h),
)
no_rows [] (t ∷ tables) p e row = absurd cc
no_rows (p ∷ pending) tables e t row = absurd cc

-- the tables of a peer, where that of each view is changed, the last by a call that may fail
pub all_after : {E : Type 0} (pending : PendingValue) (old new : ViewsValue) (r : Result (Unit {0}) E) → IsTableAfter pending.in_pre old.in_pre new.in_pre → IsTableAfter pending.in_post old.in_post new.in_post
    → IsTableAfter pending.out_pre old.out_pre new.out_pre → IsTableAfter pending.out_post old.out_post new.out_post → OnOk r (IsTableAfter pending.loc old.loc new.loc) → OnOk r (AreTablesAfter pending old new)
all_after pending old new (Err _) in_pre in_post out_pre out_post loc = tt
all_after pending old new (Ok _) in_pre in_post out_pre out_post loc = after
  where
    after : (view : View) → IsTableAfter (view_changes view pending) (view_table view old) (view_table view new)
    after InPre = in_pre
    after InPost = in_post
    after OutPre = out_pre
    after OutPost = out_post
    after Loc = loc
