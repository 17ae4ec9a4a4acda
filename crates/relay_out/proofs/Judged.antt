-- A table that is judged by its attributes.
use Rattle.std.proofs.Common.{◌≡◌, Bool, List, [], ◌∷◌, ◌++◌, ◌≤◌, Ok, refl, sym, ◌∙◌, subst, arith}
use Rattle.std.specs.List.{AllByRecursion}
use Rattle.std.specs.List.Sorted.{IsStrictlySortedBy}
use Rattle.std.specs.Map.{keys_of}
use Rattle.bmp_specs.specs.declared.peers.View.{View}
use Rattle.bmp_specs.specs.declared.wire.Family.{Family}
use Rattle.bmp_specs.specs.declared.wire.Family.TheVariants.{V4, V6}
use Rattle.bmp_specs.specs.Orders.{nlri_cmp}
use Rattle.bmp_specs.specs.PathIds.{uses_path_ids}
use Rattle.bmp_specs.specs.Prefix.{width_of}
use Rattle.bmp_specs.specs.Values.{AttrsValue, KeyValue, NlriValue, PeerInfoValue}
use Rattle.bmp_writer.specs.WrittenRoutes.{CanBeAnnounced, side_of_view}
use Rattle.query_eval.proofs.RowOrder.{in_order_rising}
use Rattle.route_runs.specs.Nlri.{AreNlri, IsNlri}
use Rattle.route_runs.specs.Runs.{in_order}
use Rattle.route_runs.specs.Sets.{RoutePasses, of_family}
use Rattle.route_runs.proofs.Halves.{keys_are}
use Rattle.router_tables.specs.Views.{Table}
use Rattle.relay_out.specs.declared.fault.EmitFault.{EmitFault}
use Rattle.relay_out.specs.Handed.{Hands}
use Rattle.relay_out.specs.Messages.{ItemValue}
use Rattle.relay_out.specs.Writable.{CanComplete, IsWritable}
use Rattle.relay_out.proofs.Steps.{items_of_pairs}

-- a prefix has 128 bits at most
few_bits : (family : Family) (n : NlriValue) → n.prefix.bits ≤ width_of family → n.prefix.bits ≤ 128
few_bits V4 n within = omega (arith, within)
few_bits V6 n within = within

module _ (info : PeerInfoValue) (key : KeyValue) (view : View) (low high : Bool)
    (of_low : low ≡ uses_path_ids info.sent info.received V4 (side_of_view view)) (of_high : high ≡ uses_path_ids info.sent info.received V6 (side_of_view view)) (can : CanComplete key view) where
  agreed : (family : Family) → of_family low high family ≡ uses_path_ids info.sent info.received family (side_of_view view)
  agreed V4 = of_low
  agreed V6 = of_high

  each : (es : Table) → AllByRecursion (λ (e : NlriValue × AttrsValue). IsNlri e.0) es → AllByRecursion (RoutePasses low high CanBeAnnounced) es → AllByRecursion IsWritable (items_of_pairs info key view es)
  each [] keys a = tt
  each (e ∷ es) keys a = (
    record {
      carries = a.0.1.carries key view e.0 can.known can.instance can.among (few_bits e.0.prefix.address.family e.0 keys.0.prefix.within);
      given = a.0.1.given;
      ids = sym (a.0.0 ∙ agreed e.0.prefix.address.family);
    },
    each es keys.1 a.1,
  )

  pub rows_writable : (table : Table) → IsStrictlySortedBy nlri_cmp (keys_of table) → AreNlri table → AllByRecursion (RoutePasses low high CanBeAnnounced) table → AllByRecursion IsWritable (items_of_pairs info key view (in_order nlri_cmp table))
  rows_writable table ordered are a =
      subst (λ (l : Table). AllByRecursion IsWritable (items_of_pairs info key view l)) (sym (in_order_rising nlri_cmp table ordered)) (each table (keys_are IsNlri table are) a)

-- what counts as taken need not be handed on
pub hands_taken : {T B : Type 0} {of : T → B} {took : T → List ItemValue → Type 0} {stopped : T → List ItemValue → EmitFault → Type 0} (a : T) (items : List ItemValue) → ((done : List ItemValue) → took a done → took a (done ++ items)) → Hands of took stopped items a (Ok tt) a
hands_taken a items taken = record { ok = taken; err = tt; kept = refl }
