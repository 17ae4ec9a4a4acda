-- What the clauses refuse: for each mistake that someone could make here, its result at one value.
use Rattle.std.proofs.Common.{◌≡◌, ⊎_elim, ℕ, ◌-◌, ◌≤◌, nat_eq, cond, Bool, true, false, List, [], ◌∷◌, ◌++◌, length, take, drop, get_or, refl, sym, ◌∙◌, ap, subst, length-append, length-take, take-append-drop, arith, Option, None, Some}
use Rattle.std.specs.Fmt.{digits}
use Rattle.std.specs.Prelude.{codes, sum_by}
use Rattle.std.proofs.lemmas.List.{get_or-append_right, take-append-le}
use Rattle.std.proofs.lemmas.List.Elements.{All-nil, All-cons}
use Rattle.ask_specs.specs.AskReply.{IsAskReply}
use Rattle.ask_specs.specs.Asking.{AskValue, plain, rows, steps, full_marks, full_routers}
use Rattle.ask_specs.specs.Offer.{IsOfferedAsk}
use Rattle.ask_specs.specs.Traits.{no_traits}
use Rattle.ask_specs.proofs.OfferLaws.{offers_plain}
use Rattle.ask_specs.proofs.WordLaws.{word_is_free}
use Rattle.ask_specs.proofs.WrongLaws.{full_count, lacks_space}
use Rattle.bmp_specs.specs.Life.{failed, Given}
use Rattle.bmp_specs.specs.Openings.{nothing_told}
use Rattle.bmp_specs.specs.Query.{table, quit, IsQuery, IsWord}
use Rattle.bmp_specs.specs.Reply.{reply}
use Rattle.bmp_specs.specs.Selection.{select_all}
use Rattle.bmp_specs.specs.Values.{EntryValue}
use Rattle.cut_publisher.specs.declared.history.Event.TheVariants.{Of}
use Rattle.query_eval.specs.Replies.{IsAskReplyOn, lanes_of}
use Rattle.query_lang.proofs.TextLaws.{read_back, quit_line}
use Rattle.rib_model.specs.declared.entry.Entry.TheVariants.{Opened}
use Rattle.wire_io.specs.Aside.{Aside}
use Rattle.ask_session.specs.declared.close.Close.{Close}
use Rattle.ask_session.specs.declared.close.Close.TheVariants.{Ended, ReadFault, WriteFault}
use Rattle.ask_session.specs.Lines.{HasNoEnd, IsTooMany, chomped, EndsLine, IsLast}
use Rattle.ask_session.specs.Replies.{History, Heard, too_long, unknown, asked, over, IsHeard, IsAnswer, error_query, is_over}
use Rattle.ask_session.specs.Dialogue.{Turn, Leaves, EndsWith, Takes, Talks, Dialogue}
use Rattle.ask_session.specs.Connection.{SaysEnd, HasWritten, IsReadNoFurther, Conversed}
use Rattle.ask_session.specs.Hearing.{Replied}

-- A line of 1,025 bytes is too long, and one of 1,024 isn't.
a_line_of_1025_bytes_is_too_long : (text : List ℕ) (heard : Heard) → length text ≡ 1025 → IsHeard text heard → heard ≡ too_long
a_line_of_1025_bytes_is_too_long text too_long size h = refl
a_line_of_1025_bytes_is_too_long text unknown size h = absurd (omega (arith, h.0, size))
a_line_of_1025_bytes_is_too_long text (asked ask) size h = absurd (omega (arith, h.0, size))
a_line_of_1025_bytes_is_too_long text over size h = absurd (omega (arith, h.0, size))

a_line_of_1024_bytes_is_not_too_long : (text : List ℕ) → length text ≡ 1024 → IsHeard text too_long → ⊥
a_line_of_1024_bytes_is_not_too_long text size h = absurd (omega (arith, h, size))

-- Before its line feed came they are too many too, but for a carriage return, which is no part of the line.
ends_with : (text : List ℕ) (b : ℕ) → length text ≡ 1024 → get_or (text ++ b ∷ []) (length (text ++ b ∷ []) - 1) 0 ≡ b
ends_with text b size =
    let at : length (text ++ b ∷ []) - 1 ≡ 1024 = omega (arith, length-append text (b ∷ []), size) in
    ap (λ (i : ℕ). get_or (text ++ b ∷ []) i 0) at ∙ get_or-append_right text (b ∷ []) 1024 1024 0 size (omega arith)

cut_by : (body : List ℕ) (b : ℕ) → get_or body (length body - 1) 0 ≡ b → chomped body ≡ cond (nat_eq b 13) (take (length body - 1) body) body
cut_by body b e = ap (λ (n : ℕ). cond (nat_eq n 13) (take (length body - 1) body) body) e

bytes_of_1025_are_too_many : (text : List ℕ) → length text ≡ 1024 → IsTooMany (text ++ 97 ∷ [])
bytes_of_1025_are_too_many text size =
    let whole : chomped (text ++ 97 ∷ []) ≡ text ++ 97 ∷ [] = cut_by (text ++ 97 ∷ []) 97 (ends_with text 97 size) in
    omega (arith, ap length whole, length-append text (97 ∷ []), size)

a_carriage_return_more_is_not_too_many : (text : List ℕ) → length text ≡ 1024 → IsTooMany (text ++ 13 ∷ []) → ⊥
a_carriage_return_more_is_not_too_many text size many =
    let less : chomped (text ++ 13 ∷ []) ≡ take (length (text ++ 13 ∷ []) - 1) (text ++ 13 ∷ []) = cut_by (text ++ 13 ∷ []) 13 (ends_with text 13 size) in
    absurd (omega (arith, many, ap length less, length-take (length (text ++ 13 ∷ []) - 1) (text ++ 13 ∷ []), length-append text (13 ∷ []), size))

-- the line `quit` is heard as the end, and nothing else
is_quit : IsQuery (codes "quit") quit
is_quit = subst (λ (l : List ℕ). IsQuery l quit) quit_line (read_back quit refl)

quit_is_over : (heard : Heard) → IsHeard (codes "quit") heard → heard ≡ over
quit_is_over too_long h = absurd (omega (arith, h))
quit_is_over unknown h = absurd (h.1 (plain quit) ((offers_plain (codes "quit") quit (plain quit) is_quit).1 refl))
quit_is_over (asked ask) h = absurd (h.2 ((offers_plain (codes "quit") quit ask is_quit).0 h.1))
quit_is_over over h = refl

-- the first line of a reply tells a revision
asked_reply : (ask : AskValue) (all : List (List EntryValue)) (text : List ℕ) → IsAskReply ask all text → (lines : List (List ℕ)) × (text ≡ reply (sum_by length all) lines)
asked_reply (plain query) all text r = (r.lines, r.told)
asked_reply (rows s f query traits) all text r = (r.lines, r.told)
asked_reply (steps f lane from prefix) all text r = (r.lines, r.told)
asked_reply (full_marks select) all text r = (r.lines, r.told)
asked_reply full_routers all text r = (r.lines, r.told)

no_error : (ask : AskValue) (lanes : ℕ) (history : History) → IsAskReplyOn ask lanes history error_query → ⊥
no_error ask lanes history r = absurd (omega (arith, ap (λ (l : List ℕ). get_or l 0 0) (asked_reply ask (lanes_of lanes history) error_query r).1))

-- `steps table` is offered, so it isn't answered by `error query`.
steps_table : IsOfferedAsk (codes "steps table") (rows true false (table select_all) no_traits)
steps_table = record {
  is_ask = record {
    words = codes "steps" ∷ codes "table" ∷ [];
    are_words = All-cons IsWord (codes "steps") (codes "table" ∷ []) (word_is_free (codes "steps") (lacks_space (codes "steps") refl)) (All-cons IsWord (codes "table") [] (word_is_free (codes "table") (lacks_space (codes "table") refl)) (All-nil IsWord));
    joined = refl;
    asks = record {
      steps_words = codes "steps" ∷ [];
      full_words = [];
      query_words = codes "table" ∷ [];
      traits_words = [];
      is_steps = refl;
      is_full = refl;
      is_query = record {
        selectors = [];
        are_selectors = record { peer_words = []; view_words = []; family_words = []; are_peer = record { router_words = []; peer_words = []; is_router = refl; is_peer = refl; spelled = refl }; is_view = refl; is_family = refl; spelled = refl };
        spelled = refl;
      };
      are_traits = record { through_words = []; community_words = []; other_words = []; is_through = refl; is_community = refl; is_other = refl; spelled = refl };
      asks = tt;
      told = (λ e. tt, λ e. tt);
      more = tt;
      spelled = refl;
    };
  };
  is_offered = tt;
}

steps_table_is_no_error : (lanes : ℕ) (history : History) (heard : Heard) → IsHeard (codes "steps table") heard → IsAnswer lanes history heard error_query → ⊥
steps_table_is_no_error lanes history too_long h a = absurd (omega (arith, h))
steps_table_is_no_error lanes history unknown h a = h.1 (rows true false (table select_all) no_traits) steps_table
steps_table_is_no_error lanes history (asked ask) h a = no_error ask lanes history a
steps_table_is_no_error lanes history over h a = absurd (omega (arith, ap (λ (l : List ℕ). length l) a))

-- `full count` asks nothing, so it is answered by `error query` alone.
full_count_is_an_error : (lanes : ℕ) (history : History) (heard : Heard) (text : List ℕ) → IsHeard (codes "full count") heard → IsAnswer lanes history heard text → text ≡ error_query
full_count_is_an_error lanes history too_long text h a = absurd (omega (arith, h))
full_count_is_an_error lanes history unknown text h a = a
full_count_is_an_error lanes history (asked ask) text h a = absurd (full_count ask h.1.is_ask)
full_count_is_an_error lanes history over text h a = absurd (full_count (plain quit) h.1.is_ask)

-- bytes before the first line feed are one list
same_line : (a b x y : List ℕ) → HasNoEnd a → HasNoEnd b → a ++ 10 ∷ x ≡ b ++ 10 ∷ y → a ≡ b
same_line [] [] x y p q e = refl
same_line [] (c ∷ b) x y p q e = absurd (q.0 (cc e))
same_line (c ∷ a) [] x y p q e = absurd (p.0 (cc e))
same_line (c ∷ a) (d ∷ b) x y p q e =
    let tails : a ++ 10 ∷ x ≡ b ++ 10 ∷ y = cc e in
    let same = same_line a b x y p.1 q.1 tails in
    cc (e, same)

-- the first line of these bytes is `quit`
abbrev quitting : List ℕ → List ℕ
quitting more = codes "quit" ++ 10 ∷ more

no_plain_quit : (more : List ℕ) → HasNoEnd (quitting more) → ⊥
no_plain_quit more p = p.1.1.1.1.0 refl

takes_quit : (lanes : ℕ) (ended : Bool) (history : History) (least : ℕ) (more : List ℕ) (turn : Turn) (rest back text : List ℕ) → Takes lanes ended history least (quitting more) turn rest back text → turn.heard ≡ over
takes_quit lanes ended history least more turn rest back text t =
    let line : turn.line ≡ codes "quit" = ⊎_elim
    (λ (e : EndsLine (quitting more) turn.line rest). e.line_is ∙ ap chomped (sym (same_line (codes "quit") e.body more rest (λ e. omega (arith, e), (λ e. omega (arith, e), (λ e. omega (arith, e), (λ e. omega (arith, e), tt)))) e.plain e.split)))
    (λ (l : IsLast ended (quitting more) turn.line rest). absurd (no_plain_quit more l.plain))
    t.next in
    quit_is_over turn.heard (subst (λ (l : List ℕ). IsHeard l turn.heard) line t.heard)

-- no dialogue of these bytes ends in a way that `quit` isn't
module _ (lanes : ℕ) (close : Close) (ended : Bool) (history : History) (more : List ℕ) (other : EndsWith close true → ⊥) (silent : Leaves close ended (quitting more) → ⊥) where
  no_talk : (least : ℕ) (turns : List Turn) (text : List ℕ) → Talks lanes close ended history least (quitting more) turns text → ⊥
  no_talk least [] text t = silent t.0
  no_talk least (turn ∷ turns) text (rest, back, takes, end) =
      let is : is_over turn.heard ≡ true = ap is_over (takes_quit lanes ended history least more turn rest back text takes) in
      ⊎_elim (λ e. other (subst (λ (b : Bool). EndsWith close b) is e.0)) (λ e. absurd (cc (is, e.0))) end

-- A connection that `quit` ended isn't told as one whose input ended.
quit_is_not_told_as_the_end : (lanes : ℕ) (ended : Bool) (history : History) (least : ℕ) (text : List ℕ) → Dialogue lanes Ended ended history least (codes "quit\n") text → ⊥
quit_is_not_told_as_the_end lanes ended history least text d = no_talk lanes Ended ended history [] (λ e. e) (λ s. no_plain_quit [] s.plain) least d.turns text d.talks

-- After `quit` nothing is read: no more than what came with it, in one read of at most 512 bytes.
nothing_is_read_after_quit : (lanes : ℕ) (history : History) (least : ℕ) (more : List ℕ) (told told' : Option (List ℕ)) → length more ≡ 513 → IsReadNoFurther lanes history least (codes "quit\n" ++ more) told told' → ⊥
nothing_is_read_after_quit lanes history least more told told' size n =
    let long : 5 ≤ length n.front = omega (arith, ap length n.split, length-append n.front n.piece, n.short, size) in
    let first : take 5 n.front ≡ codes "quit\n" = sym (take-append-le 5 n.front n.piece long) ∙ ap (λ (l : List ℕ). take 5 l) (sym n.split) in
    let front : n.front ≡ quitting (drop 5 n.front) = sym (take-append-drop 5 n.front) ∙ ap (λ (l : List ℕ). l ++ drop 5 n.front) first in
    let going = subst (λ (l : List ℕ). Dialogue lanes ReadFault false history least l n.replies) front n.going in
    no_talk lanes ReadFault false history (drop 5 n.front) (λ e. e) (λ s. no_plain_quit (drop 5 n.front) s.plain) least going.turns n.replies going.talks

-- A read that failed isn't told as the end of the input.
a_failed_read_is_not_the_end : (ended : Bool) (rest : Option (List ℕ)) (bytes : List ℕ) → SaysEnd Ended ended rest (record { bytes = bytes; last = failed }) → ⊥
a_failed_read_is_not_the_end ended rest bytes s = absurd (cc (s.1))

a_failed_read_is_told : (lanes : ℕ) (history : History) (least : ℕ) (old new : Aside) (input : Given) (told told' : Option (List ℕ)) (writes writes' : ℕ) → old.read_faults ≡ 0 → new.read_faults ≡ 1
    → Conversed lanes history least old new input told told' writes writes' Ended → ⊥
a_failed_read_is_told lanes history least old new input told told' writes writes' none one c = absurd (omega (arith, c.fault, none, one))

-- A write that failed is counted, and once.
a_failed_write_is_counted : (text : List ℕ) (told told' : Option (List ℕ)) → HasWritten WriteFault text told told' 0 0 → ⊥
a_failed_write_is_counted text told told' w = absurd (omega (arith, w.1))

a_failed_write_is_counted_once : (text : List ℕ) (told told' : Option (List ℕ)) → HasWritten WriteFault text told told' 0 2 → ⊥
a_failed_write_is_counted_once text told told' w = absurd (omega (arith, w.1))

-- A reply begins with its revision: no row that no lane published stands before it.
no_row_stands_before_a_reply : (ask : AskValue) (lanes : ℕ) (history : History) (more : List ℕ) → IsAskReplyOn ask lanes history (codes "router 0 idle\n" ++ more) → ⊥
no_row_stands_before_a_reply ask lanes history more r = absurd (omega (arith, ap (λ (l : List ℕ). get_or l 0 0) (asked_reply ask (lanes_of lanes history) (codes "router 0 idle\n" ++ more) r).1))

-- A reply isn't of the snapshot before: where one entry was seen, none tells the revision 0. Only the clause of `reply_to`
-- says so: by that of `serve_session` a reply is right at the revision that it tells, which never falls.
abbrev one_entry : History
one_entry = Of 0 (Opened nothing_told) ∷ []

abbrev at_0 : List ℕ → List ℕ
at_0 more = codes "at 0\n" ++ more

its_revision : sum_by length (lanes_of 1 one_entry) ≡ 1
its_revision = refl

tells_1 : (lines : List (List ℕ)) → get_or (reply 1 lines) 3 0 ≡ 49
unfolding digits
tells_1 lines = refl

not_before : (heard : Heard) (text more : List ℕ) → text ≡ at_0 more → is_over heard ≡ false → IsAnswer 1 one_entry heard text → ⊥
not_before too_long text more is going a = absurd (cc going)
not_before unknown text more is going a = absurd (omega (arith, ap (λ (l : List ℕ). get_or l 0 0) (sym is ∙ a)))
not_before (asked ask) text more is going a =
    let (lines, told) = asked_reply ask (lanes_of 1 one_entry) text a in
    absurd (omega (arith, ap (λ (l : List ℕ). get_or l 3 0) (sym is ∙ told ∙ ap (λ (n : ℕ). reply n lines) its_revision), tells_1 lines))
not_before over text more is going a = absurd (cc going)

a_reply_is_not_of_the_snapshot_before : (line more : List ℕ) → Replied 1 line one_entry (Some []) (Some (at_0 more)) 0 0 None → ⊥
a_reply_is_not_of_the_snapshot_before line more r = not_before r.heard r.text more (sym r.answers.1) r.answers.0 r.is_answer
