-- Wrong tables, which the clauses of their calls refuse.
use Rattle.std.proofs.Common.{◌≡◌, ℕ, ◌^◌, ◌-◌, min, List, [], ◌∷◌, ◌++◌, length, None, Some, refl, ap, sym, ◌∙◌, inl, inr, length-append, arith}
use Rattle.bmp_specs.specs.declared.peers.View.TheVariants.{InPre, InPost}
use Rattle.bmp_specs.specs.Counts.{CountsValue}
use Rattle.bmp_specs.specs.MessageHead.{plain_head}
use Rattle.bmp_specs.specs.Openings.{nothing_told}
use Rattle.bmp_specs.specs.Rows.{RowValue, HasRow}
use Rattle.bmp_specs.specs.Steps.{steps_of}
use Rattle.bmp_specs.specs.Values.{ClosingValue, KeyValue, NlriValue, AttrsValue, OpeningValue, PeerInfoValue, DownInfoValue, EntryValue, StepValue, up, down, announce, withdraw, unread, opened, message, closed}
use Rattle.bmp_specs.proofs.RowLaws.{row_from}
use Rattle.ask_specs.specs.Connection.{PassedValue}
use Rattle.recent_ring.specs.Recent.{RecentValue}
use Rattle.router_tables.specs.Building.{AreLate}
use Rattle.router_tables.specs.Last.{LeftValue}
use Rattle.router_tables.specs.Tables.{Tables, TablesValue, StandsFor, AreRowsOf, route_at}

-- a Route Monitoring message of 100 octets that withdraws a route
abbrev withdrawing : KeyValue → NlriValue → EntryValue
withdrawing key nlri = message (plain_head 0 100) (withdraw key InPre nlri ∷ [])

-- A message is taken twice: it is counted twice.
a_message_counts_once : (key : KeyValue) (nlri : NlriValue) (t : TablesValue) → StandsFor t (opened nothing_told ∷ withdrawing key nlri ∷ withdrawing key nlri ∷ []) → StandsFor t (opened nothing_told ∷ withdrawing key nlri ∷ []) → ⊥
a_message_counts_once key nlri t twice once = omega (arith, ap (λ (c : CountsValue). c.messages) (sym twice.session.counts ∙ once.session.counts))

-- And its steps are kept twice.
a_message_has_its_steps_once : (key : KeyValue) (nlri : NlriValue) (t : TablesValue) → StandsFor t (opened nothing_told ∷ withdrawing key nlri ∷ withdrawing key nlri ∷ []) → StandsFor t (opened nothing_told ∷ withdrawing key nlri ∷ []) → ⊥
a_message_has_its_steps_once key nlri t twice once = omega (arith, ap (λ (s : RecentValue StepValue). s.total) (sym twice.steps ∙ once.steps))

-- after a Peer Down there is no row of the peer
no_row_after_down : (row : RowValue) (info : PeerInfoValue) (ended : DownInfoValue)
    → HasRow (up row.row_key.key info ∷ announce row.row_key.key row.row_key.view row.row_key.nlri row.route ∷ down row.row_key.key ended ∷ []) row → ⊥
no_row_after_down row info ended h = elim (row_from (up row.row_key.key info ∷ announce row.row_key.key row.row_key.view row.row_key.nlri row.route ∷ []) (down row.row_key.key ended) row h) [
  | inl p ↦ absurd (cc (p.0))
  | inr p ↦ p.1 refl
]

-- A Peer Down clears the Adj-RIB-In before policy alone: a route in the one after policy is still there.
peer_down_clears_each_view : (tables : Tables) (key : KeyValue) (nlri : NlriValue) (route : AttrsValue) (info : PeerInfoValue) (ended : DownInfoValue)
    → route_at tables (record { key = key; view = InPost; nlri = nlri }) ≡ Some route
    → AreRowsOf tables (up key info ∷ announce key InPost nlri route ∷ down key ended ∷ []) → ⊥
peer_down_clears_each_view tables key nlri route info ended there rows =
    let row : RowValue = record { row_key = record { key = key; view = InPost; nlri = nlri }; route = route } in
    no_row_after_down row info ended ((rows row).0 there)

-- nothing stands before the last entries, so none of it is passed over
none_is_past : (told past last : List EntryValue) → last ≡ (told ++ past) ++ last → length (steps_of past) ≡ 0
none_is_past told [] last e = refl
none_is_past told (p ∷ past) last e = absurd (omega (arith, ap length e, length-append (told ++ p ∷ past) last, length-append told (p ∷ past)))

-- Of tables in the making, the steps that come are counted in place of those that fall out: where none fall out, as when
-- the first entries have 1,024 steps, none are passed over.
steps_that_come_do_not_fall_out : (made : RecentValue StepValue) (last : List EntryValue) → AreLate (record { made = made; passed = 1024; last = last }) last → ⊥
steps_that_come_do_not_fall_out made last l =
    omega (arith, l.passed ∙ ap (λ n. min n (2 ^ 64 - 1)) (none_is_past l.told l.past last l.all))

-- A closing forgets from where its connection came, and when.
a_closing_keeps_what_came : (since : ℕ) (closing : ClosingValue) (t : TablesValue) → t.session.last.came ≡ nothing_told
    → StandsFor t (opened (record { from = None; since = Some since }) ∷ closed closing ∷ []) → ⊥
a_closing_keeps_what_came since closing t forgot h =
    let e : None ≡ Some since = ap (λ (came : OpeningValue). came.since) (sym forgot ∙ h.session.last.came) in cc

-- A message that comes after the closing is counted as one of the connection.
a_message_after_the_closing_is_of_none : (key : KeyValue) (nlri : NlriValue) (closing : ClosingValue) (t : TablesValue) (left : LeftValue) → t.session.last.left ≡ Some left → left.counts.messages ≡ 1
    → StandsFor t (opened nothing_told ∷ closed closing ∷ withdrawing key nlri ∷ []) → ⊥
a_message_after_the_closing_is_of_none key nlri closing t left is one h =
    let same : h.session.last.left.0 ≡ left = (let e : Some h.session.last.left.0 ≡ Some left = sym h.session.last.left.1 ∙ is in cc) in
    omega (arith, sym (ap (λ (l : LeftValue). l.counts.messages) same) ∙ ap (λ (c : CountsValue). c.messages) h.session.last.left.2.counts, one)

-- What the connection before passed over is told of the next one.
an_opening_begins_with_nothing_passed : (closing : ClosingValue) (t : TablesValue) → t.session.last.passed.stats ≡ 1
    → StandsFor t (opened nothing_told ∷ message (plain_head 1 48) (unread 1 ∷ []) ∷ closed closing ∷ opened nothing_told ∷ []) → ⊥
an_opening_begins_with_nothing_passed closing t one h = omega (arith, ap (λ (p : PassedValue). p.stats) h.session.last.passed, one)
