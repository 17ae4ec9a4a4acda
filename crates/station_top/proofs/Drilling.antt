-- The replies of a drill, one after another.
use Rattle.std.proofs.Common.{◌≡◌, ℕ, List, ◌++◌, length, Option, Result, Ok, Err, refl, subst}
use mathlib.Core.Bool.{true}
use Rattle.std.specs.Result.{is_err}
use Rattle.ask_specs.specs.Asking.{plain}
use Rattle.bmp_specs.specs.Query.{QueryValue, cut, routers, count, quit}
use Rattle.bmp_specs.specs.Selection.{select_all}
use Rattle.cut_publisher.specs.declared.history.Event.{Event}
use Rattle.query_eval.specs.Replies.{PutsReply, IsAskReplyOn, StandsForHistory, lanes_of}
use Rattle.query_eval.proofs.HistoryLanes.{stand_for_lanes}
use Rattle.query_eval.proofs.RepliesThere.{reply_there}
use Rattle.rib_model.specs.declared.entry.Entry.{Entry}
use Rattle.router_tables.specs.Tables.{TablesValue}
use Rattle.station_run.specs.Drill.{IsDrillCut}
use Rattle.station_top.specs.Drill.{AreReplies, IsDrillText}
use Rattle.wire_io.specs.declared.sink.Failed.{Failed}
use Rattle.wire_io.specs.Aside.{Aside}
use Rattle.wire_io.proofs.Joins.{join, join_failed, more}

-- there is a reply on the history that the cut stands for
there : (tables : List (TablesValue × ℕ)) (history : List (Event Entry)) → StandsForHistory tables history → (query : QueryValue) → (query ≡ quit → ⊥) → (text : List ℕ) × IsAskReplyOn (plain query) (length tables) history text
there tables history stands query asks = reply_there tables query (lanes_of (length tables) history) asks (stand_for_lanes tables history stands)

module _ {O : Type 0} {faults : O → ℕ} {told : O → Option (List ℕ)} {aside : O → Aside} (tables : List (TablesValue × ℕ)) (history : List (Event Entry)) (stands : StandsForHistory tables history) where
  -- the first of them failed
  pub cut_failed : (a b : O) (d : Failed) (r : Result (Unit {0}) Failed) → PutsReply faults told aside (IsAskReplyOn (plain cut) (length tables) history) a (Err d) b → is_err r ≡ true → PutsReply faults told aside (AreReplies (lanes_of (length tables) history)) a r b
  cut_failed a b d r p failed =
      let second = there tables history stands routers (λ is. cc is) in
      let third = there tables history stands (count select_all) (λ is. cc is) in
      record {
        text = p.text ++ (second.0 ++ third.0);
        is_reply = record { first = p.text; second = second.0; third = third.0; of_cut = p.is_reply; of_routers = second.1; of_count = third.1; spelled = refl };
        written = more a b p.text (second.0 ++ third.0) (p.text ++ (second.0 ++ third.0)) d r p.written failed refl;
      }

  -- the second of them failed
  pub routers_failed : (a b c : O) (d : Failed) (r : Result (Unit {0}) Failed) → PutsReply faults told aside (IsAskReplyOn (plain cut) (length tables) history) a (Ok tt) b → PutsReply faults told aside (IsAskReplyOn (plain routers) (length tables) history) b (Err d) c → is_err r ≡ true
      → PutsReply faults told aside (AreReplies (lanes_of (length tables) history)) a r c
  routers_failed a b c d r p q failed =
      let third = there tables history stands (count select_all) (λ is. cc is) in
      record {
        text = p.text ++ (q.text ++ third.0);
        is_reply = record { first = p.text; second = q.text; third = third.0; of_cut = p.is_reply; of_routers = q.is_reply; of_count = third.1; spelled = refl };
        written = join_failed a b c p.text q.text third.0 (p.text ++ (q.text ++ third.0)) d r p.written q.written failed refl;
      }

  -- the first two were written, and then the third, or a front of it
  pub all_replied : (a b c d : O) (r : Result (Unit {0}) Failed) → PutsReply faults told aside (IsAskReplyOn (plain cut) (length tables) history) a (Ok tt) b → PutsReply faults told aside (IsAskReplyOn (plain routers) (length tables) history) b (Ok tt) c
      → PutsReply faults told aside (IsAskReplyOn (plain (count select_all)) (length tables) history) c r d → PutsReply faults told aside (AreReplies (lanes_of (length tables) history)) a r d
  all_replied a b c d r p q s = record {
    text = p.text ++ (q.text ++ s.text);
    is_reply = record { first = p.text; second = q.text; third = s.text; of_cut = p.is_reply; of_routers = q.is_reply; of_count = s.is_reply; spelled = refl };
    written = join a b d p.text (q.text ++ s.text) (p.text ++ (q.text ++ s.text)) tt r p.written (join b c d q.text s.text (q.text ++ s.text) tt r q.written s.written refl) refl;
  }

module _ {O : Type 0} {faults : O → ℕ} {told : O → Option (List ℕ)} {aside : O → Aside} where
  -- the replies on the cut of a drill are those on what its lanes make of their streams
  pub replied_on_drill : (seed lanes messages : ℕ) (tables : List (TablesValue × ℕ)) (is : IsDrillCut seed lanes messages tables) (a b : O) (r : Result (Unit {0}) Failed) → PutsReply faults told aside (AreReplies (lanes_of (length tables) is.history)) a r b
      → PutsReply faults told aside (IsDrillText seed lanes messages) a r b
  replied_on_drill seed lanes messages tables is a b r p = record {
    text = p.text;
    is_reply = record { history = is.history; parts = is.parts; replies = subst (λ (n : ℕ). AreReplies (lanes_of n is.history) p.text) is.wide p.is_reply };
    written = p.written;
  }
