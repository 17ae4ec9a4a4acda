-- Wrong replies, which the clauses of their calls refuse.
use Rattle.std.proofs.Common.{◌≡◌, ◌<◌, ℕ, zero, suc, true, false, List, [], ◌∷◌, ◌++◌, length, map, flat_map, replicate, slice_index, slice_index_or, codes, None, Some, Err, refl, ap, sym, ◌∙◌, inl, inr, subst, append-nil, arith}
use Rattle.std.specs.Fmt.{digits}
use Rattle.std.specs.Prelude.{IsTrue}
use Rattle.std.proofs.lemmas.Bool.{false≢true}
use Rattle.ask_specs.specs.Items.{are_items}
use Rattle.std.specs.List.{Contains}
use Rattle.ask_specs.specs.Asking.{full_routers, rows as rows_asked, steps}
use Rattle.ask_specs.specs.AskReply.{AsksTraitRow, IsAskReply, told_change}
use Rattle.ask_specs.specs.FullLine.{full_line}
use Rattle.ask_specs.specs.FullRouters.{full_router_line}
use Rattle.ask_specs.specs.Traits.{HasCommunity, StandIn, large, no_traits, plain}
use Rattle.bmp_specs.specs.declared.peers.View.{View}
use Rattle.bmp_specs.specs.declared.peers.View.TheVariants.{InPre, InPost}
use Rattle.bmp_specs.specs.declared.wire.Family.TheVariants.{V4}
use Rattle.bmp_specs.specs.Changes.{ChangeValue}
use Rattle.bmp_specs.specs.ChangeLines.{steps_line}
use Rattle.bmp_specs.specs.AddressText.{dotted}
use Rattle.bmp_specs.specs.MessageHead.{plain_head}
use Rattle.bmp_specs.specs.Openings.{nothing_told}
use Rattle.bmp_specs.specs.PeerLines.{lane_line}
use Rattle.bmp_specs.specs.PeerText.{hex_text, distinguisher_text}
use Rattle.bmp_specs.specs.PeerUp.{IsUp}
use Rattle.bmp_specs.specs.Query.{cut, longest, table}
use Rattle.bmp_specs.specs.QueryReply.{IsReply}
use Rattle.bmp_specs.specs.QueryRows.{AsksRow, IsLongestMatch}
use Rattle.bmp_specs.specs.Reply.{reply}
use Rattle.bmp_specs.specs.RouteLine.{route_line}
use Rattle.bmp_specs.specs.Rows.{RowValue, HasRow}
use Rattle.bmp_specs.specs.Selection.{SelectValue, IsRowSelected, select_all}
use Rattle.bmp_specs.specs.Session.{idle}
use Rattle.bmp_specs.specs.TableRows.{AreRows}
use Rattle.bmp_specs.specs.Values.{AddressValue, AttrsValue, EffectValue, KeyValue, NlriValue, OpenValue, OtherValue, PeerInfoValue, message, opened, opened_step, up, announce}
use Rattle.bmp_specs.proofs.ListedOne.{contains_cases, contains_first}
use Rattle.bmp_specs.proofs.RowLaws.{none_row, row_from, row_now, row_still, up_now, up_still}
use Rattle.wire_io.specs.Faults.{HasCause}
use Rattle.query_eval.proofs.RowChangeLaws.{change_lines, change_lines_one}
use Rattle.query_eval.proofs.TraitLaws.{stand_decides}

-- the lines of one lane are those of its part
first_part : (lines : List (List ℕ)) (parts : List (List (List ℕ))) → length parts ≡ 1 → lines ≡ flat_map (λ part. part) parts → lines ≡ slice_index_or parts 0 []
first_part lines [] n all = absurd (omega (arith, n))
first_part lines (p ∷ []) n all = all ∙ append-nil p
first_part lines (p ∷ q ∷ parts) n all = absurd (omega (arith, n))

-- The last line counts the first one too: `cut` tells one line of a lane without an entry, and the reply ends with 2.
the_first_line_is_not_counted : IsReply cut ([] ∷ []) (codes "at 0\nlane 0 0\nend 2\n") → ⊥
unfolding digits
the_first_line_is_not_counted r =
    let lines : r.lines ≡ lane_line 0 0 ∷ [] = first_part r.lines r.are_lines.parts r.are_lines.each.count r.are_lines.all ∙ r.are_lines.each.each 0 [] [] (omega arith) in
    omega (arith, ap (λ (text : List ℕ). slice_index text 18) (r.told ∙ ap (reply 0) lines))

-- After a write that failed the buffer is flushed once more, and that fails too: two faults are counted.
a_failed_call_counts_one_fault : {T E : Type 0} (fault : E) → HasCause {T = T} {E = E} 0 2 (Err fault) → ⊥
a_failed_call_counts_one_fault fault c = omega (arith, c.failed.1)

-- an IPv4 address or prefix that begins with these two octets
abbrev address : ℕ → ℕ → AddressValue
address a b = record { family = V4; octets = a ∷ b ∷ replicate 14 0 }

-- 10.0.0.0/8 and 10.1.0.0/16, which both hold 10.1.0.0
abbrev short : NlriValue
short = record { prefix = record { address = address 10 0; bits = 8 }; id = None }

abbrev long : NlriValue
long = record { prefix = record { address = address 10 1; bits = 16 }; id = None }

abbrev route : AttrsValue
route = record { origin = None; path = None; hop = None; med = None; pref = None; atomic = false; aggregator = None; communities = []; others = [] }

abbrev an_open : OpenValue
an_open = record { version = 4; my_as = 64500; hold = 180; identifier = 192 ∷ 0 ∷ 2 ∷ 1 ∷ []; four = None; families = []; paths = []; extended = false }

abbrev info : PeerInfoValue
info = record { asn = 64500; identifier = 192 ∷ 0 ∷ 2 ∷ 1 ∷ []; local = address 192 0; local_port = 179; remote_port = 179; sent = an_open; received = an_open; filtered = false; table = None }

abbrev peer : ℕ → KeyValue
peer number = record { kind = 0; distinguisher = number; address = address 192 0 }

abbrev row_of : KeyValue → View → NlriValue → RowValue
row_of key view nlri = record { row_key = record { key = key; view = view; nlri = nlri }; route = route }

-- two tables: the one has the short prefix, the other the long one
abbrev ups : KeyValue → KeyValue → List EffectValue
ups one other = up one info ∷ up other info ∷ []

abbrev two_tables : KeyValue → View → KeyValue → View → List EffectValue
two_tables one in_one other in_other = up one info ∷ up other info ∷ announce one in_one short route ∷ announce other in_other long route ∷ []

-- no prefix of the first table is longer than its short one
none_longer : (one : KeyValue) (in_one : View) (other : KeyValue) (in_other : View) → ((one ≡ other) × (in_one ≡ in_other) → ⊥)
    → (row : RowValue) → HasRow (two_tables one in_one other in_other) row → row.row_key.key ≡ one → row.row_key.view ≡ in_one → row.row_key.nlri ≡ short
none_longer one in_one other in_other two row h key view =
    elim (row_from (up one info ∷ up other info ∷ announce one in_one short route ∷ []) (announce other in_other long route) row h) [
      | inl p ↦ (let e : announce other in_other long route ≡ announce row.row_key.key row.row_key.view row.row_key.nlri row.route = p.0 in
          let k : other ≡ row.row_key.key = cc in
          let v : in_other ≡ row.row_key.view = cc in
          absurd (two (sym (k ∙ key), sym (v ∙ view))))
      | inr p ↦ elim (row_from (ups one other) (announce one in_one short route) row p.0) [
        | inl q ↦ (let e : announce one in_one short route ≡ announce row.row_key.key row.row_key.view row.row_key.nlri row.route = q.0 in
            let n : short ≡ row.row_key.nlri = cc in
            sym n)
        | inr q ↦ absurd (no_row_yet q.0)
      ]
    ]
  where
    no_row_yet : HasRow (ups one other) row → ⊥
    no_row_yet g = elim (row_from (up one info ∷ []) (up other info) row g) [
      | inl p ↦ (let e : up other info ≡ announce row.row_key.key row.row_key.view row.row_key.nlri row.route = p.0 in cc)
      | inr p ↦ elim (row_from [] (up one info) row p.0) [
        | inl q ↦ (let e : up one info ≡ announce row.row_key.key row.row_key.view row.row_key.nlri row.route = q.0 in cc)
        | inr q ↦ none_row row q.0
      ]
    ]

-- a list of one row has no row of another table
not_among : (one other : RowValue) → (one ≡ other → ⊥) → (k : ℕ) → k < 1 → slice_index_or (other ∷ []) k one ≡ one → ⊥
not_among one other differ zero less e = differ (sym e)
not_among one other differ (suc k) less e = omega (arith, less)

-- where `match` is asked of two tables, the row of the one with the longer prefix isn't all
each_has_its_longest : (one : KeyValue) (in_one : View) (other : KeyValue) (in_other : View) (select : SelectValue) → ((one ≡ other) × (in_one ≡ in_other) → ⊥)
    → IsUp (ups one other) one → IsRowSelected select 0 (row_of one in_one short)
    → AreRows (AsksRow (longest (address 10 1) select) 0 (two_tables one in_one other in_other)) (two_tables one in_one other in_other) (row_of other in_other long ∷ []) → ⊥
each_has_its_longest one in_one other in_other select two is_up selected rows =
    let row : RowValue = row_of one in_one short in
    let there : HasRow (two_tables one in_one other in_other) row =
    row_still (up one info ∷ up other info ∷ announce one in_one short route ∷ []) (announce other in_other long route) row (λ r. two (sym r.0, sym r.1)) (row_now (ups one other) row is_up) in
    let best : IsLongestMatch (two_tables one in_one other in_other) (address 10 1) row = record {
      holds = record { family = refl; agree = refl };
      longest_of = λ o h k v holds. omega (arith, ap (λ (n : NlriValue). n.prefix.bits) (none_longer one in_one other in_other two o h k v));
    } in
    let told = (rows.exact row).1 (there, (best, selected)) in
    not_among row (row_of other in_other long) (λ e. omega (arith, ap (λ (r : RowValue). r.row_key.nlri.prefix.bits) e)) told.0 told.1 told.2

-- Where no peer is named, `match` tells the longest of two peers' tables, in place of one for each.
match_tells_one_for_each_peer : AreRows (AsksRow (longest (address 10 1) select_all) 0 (two_tables (peer 1) InPre (peer 2) InPre)) (two_tables (peer 1) InPre (peer 2) InPre) (row_of (peer 2) InPre long ∷ []) → ⊥
match_tells_one_for_each_peer = each_has_its_longest (peer 1) InPre (peer 2) InPre select_all
    (λ same. omega (arith, ap (λ (k : KeyValue). k.distinguisher) same.0))
    (up_still (up (peer 1) info ∷ []) (up (peer 2) info) (peer 1) (λ e. omega (arith, ap (λ (k : KeyValue). k.distinguisher) e)) (up_now [] (peer 1) info))
    (record { of_peer = record { router_is = tt; peer_is = tt }; view_is = tt; family_is = tt })

-- Of a peer that is named, `match` tells the longest of two views, in place of one for each view.
match_tells_one_for_each_view : AreRows (AsksRow (longest (address 10 1) (record { router = None; peer = Some (peer 1); view = None; family = None })) 0 (two_tables (peer 1) InPre (peer 1) InPost)) (two_tables (peer 1) InPre (peer 1) InPost) (row_of (peer 1) InPost long ∷ []) → ⊥
match_tells_one_for_each_view = each_has_its_longest (peer 1) InPre (peer 1) InPost (record { router = None; peer = Some (peer 1); view = None; family = None })
    (λ same. let e : InPre ≡ InPost = same.1 in cc)
    (up_now (up (peer 1) info ∷ []) (peer 1) info)
    (record { of_peer = record { router_is = tt; peer_is = refl }; view_is = tt; family_is = tt })

-- ---- further words
-- a lane without an entry has no row
no_rows : (Asks : RowValue → Type 0) (known : List RowValue) → AreRows Asks [] known → known ≡ []
no_rows Asks [] are = refl
no_rows Asks (row ∷ rows) are = absurd (none_row row ((are.exact row).0 (contains_first row rows)).0)

-- `steps table` tells the number of a lane's steps before its rows, where it has none of either too: a reply without that
-- line is no reply.
steps_are_told : IsAskReply (rows_asked true false (table select_all) no_traits) ([] ∷ []) (codes "at 0\nend 0\n") → ⊥
unfolding digits
steps_are_told r =
    let part = r.are_lines.each.each 0 [] [] (omega arith) in
    let lines : r.lines ≡ part.steps_lines ++ map (route_line 0) part.known = first_part r.lines r.are_lines.parts r.are_lines.each.count r.are_lines.all ∙ part.told in
    elim part.are_steps [
      | inl told ↦ omega (arith, ap (λ (text : List ℕ). slice_index text 5) (r.told ∙ ap (reply 0) (lines ∙ ap (λ (l : List (List ℕ)). l ++ map (route_line 0) part.known) told.1)))
      | inr other ↦ absurd (other.0 tt)
    ]

-- `router 1`
abbrev of_lane_one : SelectValue
of_lane_one = record { router = Some 1; peer = None; view = None; family = None }

-- And it tells none of a lane that the selectors don't keep.
no_steps_of_another_lane : IsAskReply (rows_asked true false (table of_lane_one) no_traits) ([] ∷ []) (codes "at 0\nsteps 0 0\nend 1\n") → ⊥
unfolding digits
no_steps_of_another_lane r =
    let part = r.are_lines.each.each 0 [] [] (omega arith) in
    let none : part.known ≡ [] = no_rows (AsksTraitRow (table of_lane_one) no_traits 0 []) part.known part.are_rows in
    let lines : r.lines ≡ part.steps_lines ++ map (route_line 0) part.known = first_part r.lines r.are_lines.parts r.are_lines.each.count r.are_lines.all ∙ part.told in
    elim part.are_steps [
      | inl told ↦ omega (arith, told.0)
      | inr other ↦ omega (arith, ap (λ (text : List ℕ). slice_index text 5) (r.told ∙ ap (reply 0) (lines ∙ (λ i. other.1 i ++ map (route_line 0) (none i)))))
    ]

-- a lane whose connection was opened has one step
abbrev opening : ChangeValue
opening = record { number = 0; step = opened_step }

some_known : (known : List ChangeValue) → Contains known opening → (first : ChangeValue) × (rest : List ChangeValue) × (known ≡ first ∷ rest)
some_known [] c = absurd (omega (arith, c.1))
some_known (first ∷ rest) c = (first, rest, refl)

-- `changes 0 0` tells it: the number of steps alone is no reply.
each_step_is_told : IsAskReply (steps false 0 0 None) ((opened nothing_told ∷ []) ∷ []) (codes "at 1\nsteps 0 1\nend 1\n") → ⊥
unfolding digits
each_step_is_told r =
    let part = r.are_lines.each.each 0 [] [] (omega arith) in
    let some = some_known part.known ((part.are_known.exact opening).1 (record { later = omega arith; stands = refl })) in
    let lines : r.lines ≡ steps_line 0 1 ∷ map (told_change false 0) part.known = first_part r.lines r.are_lines.parts r.are_lines.each.count r.are_lines.all ∙ part.told in
    omega (arith, ap (λ (text : List ℕ). slice_index text 15) (r.told ∙ ap (reply 1) (lines ∙ ap (λ (known : List ChangeValue). steps_line 0 1 ∷ map (told_change false 0) known) some.2)))

-- And the steps of another lane are no reply to `changes 1 0`.
steps_of_the_lane_are_told : IsAskReply (steps false 1 0 None) ((opened nothing_told ∷ []) ∷ []) (codes "at 1\nsteps 0 1\nchange 0 0 opened\nend 2\n") → ⊥
unfolding digits
steps_of_the_lane_are_told r =
    let lines : r.lines ≡ [] = first_part r.lines r.are_lines.parts r.are_lines.each.count r.are_lines.all ∙ r.are_lines.each.each 0 [] [] (omega arith) in
    omega (arith, ap (λ (text : List ℕ). slice_index text 5) (r.told ∙ ap (reply 1) lines))

-- ---- rows by path attributes
-- a route with these communities, and one with this attribute that isn't read
abbrev with_communities : List ℕ → AttrsValue
with_communities list = record { origin = None; path = None; hop = None; med = None; pref = None; atomic = false; aggregator = None; communities = list; others = [] }

abbrev with_other : OtherValue → AttrsValue
with_other other = record { origin = None; path = None; hop = None; med = None; pref = None; atomic = false; aggregator = None; communities = []; others = other ∷ [] }

abbrev at_prefix : NlriValue → AttrsValue → RowValue
at_prefix nlri set = record { row_key = record { key = peer 1; view = InPre; nlri = nlri }; route = set }

-- one table: the route of the short prefix has the community, that of the long one hasn't
abbrev with_short : List EffectValue
with_short = up (peer 1) info ∷ announce (peer 1) InPre short (with_communities (666 ∷ [])) ∷ []

abbrev one_table : List EffectValue
one_table = with_short ++ announce (peer 1) InPre long (with_communities []) ∷ []

-- Where the route of the longest match lacks the community, `match` tells a shorter prefix whose route has it.
a_shorter_prefix_takes_its_place : AreRows (AsksTraitRow (longest (address 10 1) select_all) (record { through = None; community = Some (plain 666); other = None }) 0 one_table) one_table (at_prefix short (with_communities (666 ∷ [])) ∷ []) → ⊥
a_shorter_prefix_takes_its_place rows =
    let told = (rows.exact (at_prefix short (with_communities (666 ∷ [])))).0 (contains_first (at_prefix short (with_communities (666 ∷ []))) []) in
    let is_up : IsUp with_short (peer 1) = up_still (up (peer 1) info ∷ []) (announce (peer 1) InPre short (with_communities (666 ∷ []))) (peer 1) (λ n. n) (up_now [] (peer 1) info) in
    let there : HasRow one_table (at_prefix long (with_communities [])) = row_now with_short (at_prefix long (with_communities [])) is_up in
    let longer = told.1.0.0.longest_of (at_prefix long (with_communities [])) there refl refl (record { family = refl; agree = refl }) in
    omega (arith, longer)

-- The large community 1:2:3 is found at the front of a value of 13 octets, which is no list of large communities.
abbrev malformed : OtherValue
malformed = record { flags = 192; code = 32; value = 0 ∷ 0 ∷ 0 ∷ 1 ∷ 0 ∷ 0 ∷ 0 ∷ 2 ∷ 0 ∷ 0 ∷ 0 ∷ 3 ∷ 0 ∷ [] }

a_malformed_attribute_has_a_community : HasCommunity (with_other malformed) (large 1 2 3) → ⊥
a_malformed_attribute_has_a_community h = elim (contains_cases malformed [] h.attribute h.stands) [
  | inl is ↦ false≢true (subst (λ (other : OtherValue). IsTrue (are_items 12 other.value)) (sym is) h.formed)
  | inr d ↦ absurd (omega (arith, d.1))
]

-- The numbers of `through` are found in another order.
another_order_goes_through : StandIn (64500 ∷ 3356 ∷ []) (3356 ∷ 64500 ∷ []) → ⊥
another_order_goes_through s = false≢true ((stand_decides (64500 ∷ 3356 ∷ []) (3356 ∷ 64500 ∷ [])).1 s)

-- ---- full lines
-- a session with one route, without path attributes
abbrev before_route : List EffectValue
before_route = up (peer 1) info ∷ []

abbrev one_route : List EffectValue
one_route = before_route ++ announce (peer 1) InPre short route ∷ []

abbrev its_row : RowValue
its_row = at_prefix short route

only_row : (row : RowValue) → HasRow one_route row → row ≡ its_row
only_row row h = elim (row_from before_route (announce (peer 1) InPre short route) row h) [
  | inl p ↦ (let e : announce (peer 1) InPre short route ≡ announce row.row_key.key row.row_key.view row.row_key.nlri row.route = p.0 in
      let k : row.row_key.key ≡ peer 1 = cc in
      let v : row.row_key.view ≡ InPre = cc in
      let n : row.row_key.nlri ≡ short = cc in
      let a : row.route ≡ route = cc in
      λ i. record { row_key = record { key = k i; view = v i; nlri = n i }; route = a i })
  | inr p ↦ absurd (none_yet p.0)
]
  where
    none_yet : HasRow before_route row → ⊥
    none_yet g = elim (row_from [] (up (peer 1) info) row g) [
      | inl q ↦ (let e : up (peer 1) info ≡ announce row.row_key.key row.row_key.view row.row_key.nlri row.route = q.0 in cc)
      | inr q ↦ none_row row q.0
    ]

-- its row is told, and no other
its_row_known : (known : List RowValue) → AreRows (AsksTraitRow (table select_all) no_traits 0 one_route) one_route known → (rest : List RowValue) × (known ≡ its_row ∷ rest)
its_row_known [] are =
    let told = (are.exact its_row).1 (row_now before_route its_row (up_now [] (peer 1) info), (record { of_peer = record { router_is = tt; peer_is = tt }; view_is = tt; family_is = tt }, record { through_is = tt; community_is = tt; other_is = tt })) in
    absurd (omega (arith, told.1))
its_row_known (row ∷ rows) are = let same = only_row row ((are.exact row).0 (contains_first row rows)).0 in (rows, λ i. same i ∷ rows)

-- `full table` tells a row by the line that `table` tells of it.
a_full_row_tells_all : IsAskReply (rows_asked false true (table select_all) no_traits) ((opened nothing_told ∷ message (plain_head 0 0) one_route ∷ []) ∷ []) (codes "at 2\nroute 0 0-0000000000000001-192.0.0.0 adj-in-pre 10.0.0.0/8 next=- origin=- path=- med=- pref=- atomic=no agg=- comm=- other=-\nend 1\n") → ⊥
unfolding digits hex_text distinguisher_text dotted
a_full_row_tells_all r =
    let part = r.are_lines.each.each 0 [] [] (omega arith) in
    let known = its_row_known part.known part.are_rows in
    let lines : r.lines ≡ part.steps_lines ++ map (full_line 0) part.known = first_part r.lines r.are_lines.parts r.are_lines.each.count r.are_lines.all ∙ part.told in
    omega (arith, ap (λ (text : List ℕ). slice_index text 130) (r.told ∙ ap (reply 2) (lines ∙ (λ i. part.are_steps i ++ map (full_line 0) (known.1 i)))))

-- `full changes 0 0` tells a step by the line that `changes 0 0` tells of it, without its times.
a_full_change_tells_its_times : IsAskReply (steps true 0 0 None) ((opened nothing_told ∷ []) ∷ []) (codes "at 1\nsteps 0 1\nchange 0 0 opened\nend 2\n") → ⊥
unfolding digits
a_full_change_tells_its_times r =
    let part = r.are_lines.each.each 0 [] [] (omega arith) in
    let one = change_lines_one true 0 0 None (opened nothing_told ∷ []) _ _ part (change_lines true 0 0 None (opened nothing_told ∷ [])) in
    let lines : r.lines ≡ steps_line 0 1 ∷ told_change true 0 opening ∷ [] = first_part r.lines r.are_lines.parts r.are_lines.each.count r.are_lines.all ∙ one in
    omega (arith, ap (λ (text : List ℕ). slice_index text 32) (r.told ∙ ap (reply 1) lines))

-- `full routers` tells a router by the line that `routers` tells of it, without its times.
a_full_router_tells_its_times : IsAskReply full_routers ([] ∷ []) (codes "at 0\nrouter 0 idle\nend 1\n") → ⊥
unfolding digits
a_full_router_tells_its_times r =
    let part = r.are_lines.each.each 0 [] [] (omega arith) in
    let lines : r.lines ≡ full_router_line 0 idle part.last ∷ [] = first_part r.lines r.are_lines.parts r.are_lines.each.count r.are_lines.all ∙ part.told in
    omega (arith, ap length (r.told ∙ ap (reply 0) lines))
