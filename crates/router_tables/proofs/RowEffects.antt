-- The rows after effects that change no route, and after those on no NLRI.
use Rattle.std.proofs.Common.{◌≡◌, List, ◌++◌, refl}
use Rattle.std.specs.List.{AllByRecursion}
use Rattle.std.specs.declared.sync.Arc.{Arc}
use Rattle.std.specs.declared.alloc.Global.{Global}
use mathlib.Core.Logic.Iff.{trans as then_iff}
use Rattle.bmp_specs.specs.declared.peers.View.{View}
use Rattle.bmp_specs.specs.Rows.{RowKeyValue, ReplacesRow}
use Rattle.bmp_specs.specs.Values.{NlriValue, KeyValue, PeerInfoValue, DownInfoValue, AttrsValue, EffectValue}
use Rattle.bmp_specs.proofs.RowLaws.{row_kept_by_all}
use Rattle.rib_model.specs.Effects.{item_values}
use Rattle.rib_model.specs.declared.effect.Effect.{Effect}
use Rattle.rib_model.specs.declared.effect.Effect.TheVariants.{Up, Down, Announce, Withdraw, Mark, Statistic, Name, Descr, Orphan, Mirrored, Passed, Unread}
use Rattle.router_tables.specs.Pending.{RowsValue, StandsForRows}

-- the effects of the other kinds replace no row
others_replace_none : (place : RowKeyValue) (e : Effect) → ((key : KeyValue) (info : Arc PeerInfoValue Global) → e ≡ Up key info → ⊥) → ((key : KeyValue) (info : DownInfoValue) → e ≡ Down key info → ⊥)
    → ((key : KeyValue) (view : View) (nlris : List NlriValue) (route : Arc AttrsValue Global) → e ≡ Announce key view nlris route → ⊥)
    → ((key : KeyValue) (view : View) (nlris : List NlriValue) → e ≡ Withdraw key view nlris → ⊥) → AllByRecursion (λ d. ¬ (ReplacesRow place d)) (item_values e)
others_replace_none place (Up k info) a b c d = absurd (a k info refl)
others_replace_none place (Down k info) a b c d = absurd (b k info refl)
others_replace_none place (Announce k view nlris route) a b c d = absurd (c k view nlris route refl)
others_replace_none place (Withdraw k view nlris) a b c d = absurd (d k view nlris refl)
others_replace_none place (Mark k view family) a b c d = (λ r. r, tt)
others_replace_none place (Statistic k stat) a b c d = (λ r. r, tt)
others_replace_none place (Name bytes) a b c d = (λ r. r, tt)
others_replace_none place (Descr bytes) a b c d = (λ r. r, tt)
others_replace_none place Orphan a b c d = (λ r. r, tt)
others_replace_none place Mirrored a b c d = (λ r. r, tt)
others_replace_none place Passed a b c d = (λ r. r, tt)
others_replace_none place (Unread parts) a b c d = (λ r. r, tt)

pub rows_kept : (rows : RowsValue) (e : Effect) → ((key : KeyValue) (info : Arc PeerInfoValue Global) → e ≡ Up key info → ⊥) → ((key : KeyValue) (info : DownInfoValue) → e ≡ Down key info → ⊥)
    → ((key : KeyValue) (view : View) (nlris : List NlriValue) (route : Arc AttrsValue Global) → e ≡ Announce key view nlris route → ⊥)
    → ((key : KeyValue) (view : View) (nlris : List NlriValue) → e ≡ Withdraw key view nlris → ⊥)
    → (effects : List EffectValue) → StandsForRows rows effects → StandsForRows rows (effects ++ item_values e)
rows_kept rows e a b c d effects h row = then_iff (h row) (row_kept_by_all effects (item_values e) row (others_replace_none row.row_key e a b c d))
