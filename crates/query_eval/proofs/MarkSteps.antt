-- The marks of peers, one after another.
use Rattle.std.proofs.Common.{◌≡◌, ◌+◌, ◌<◌, ◌≤◌, ℕ, List, [], ◌∷◌, ◌++◌, length, get_or, drop, map, ap, ◌∙◌}
use Rattle.std.specs.List.{filter}
use Rattle.std.proofs.lemmas.List.{map-append, at_drop_more, drop_all}
use Rattle.std.proofs.lemmas.List.Elements.{filter-append}
use Rattle.bmp_specs.specs.declared.peers.View.{View}
use Rattle.bmp_specs.specs.declared.wire.Family.TheVariants.{V4, V6}
use Rattle.bmp_specs.specs.PeerUp.{StateValue}
use Rattle.bmp_specs.specs.QueryReply.{MarkValue}
use Rattle.bmp_specs.specs.Selection.{SelectValue}
use Rattle.bmp_specs.specs.Values.{KeyValue}
use Rattle.peer_book.specs.Peers.{Peers}
use Rattle.query_eval.specs.Told.{mark_of, view_marks, peer_marks, state_marks, marks_in, keeps_mark, mark_lines}

module _ (line : ℕ → MarkValue → List ℕ) (select : SelectValue) (lane : ℕ) where
  pub mark_lines_append : (xs ys : List MarkValue) → mark_lines line select lane (xs ++ ys) ≡ mark_lines line select lane xs ++ mark_lines line select lane ys
  mark_lines_append xs ys =
      ap (map (line lane)) (filter-append (keeps_mark select lane) xs ys)
      ∙ map-append (line lane) (filter (keeps_mark select lane) xs) (filter (keeps_mark select lane) ys)

  -- the lines of the two families
  pub families_split : (peers : Peers) (key : KeyValue) (view : View)
      → mark_lines line select lane (view_marks peers key view)
      ≡ mark_lines line select lane (mark_of peers key view V4 ∷ []) ++ mark_lines line select lane (mark_of peers key view V6 ∷ [])
  families_split peers key view = mark_lines_append (mark_of peers key view V4 ∷ []) (mark_of peers key view V6 ∷ [])

  -- the lines of the first view and of the others
  pub view_first : (peers : Peers) (key : KeyValue) (views : List View) (i : ℕ) (d : View) → i < length views
      → mark_lines line select lane (peer_marks peers key (drop i views)) ≡ mark_lines line select lane (view_marks peers key (get_or views i d)) ++ mark_lines line select lane (peer_marks peers key (drop (i + 1) views))
  view_first peers key views i d small =
      at_drop_more (λ (vs : List View). mark_lines line select lane (peer_marks peers key vs)) views i d small ∙ mark_lines_append (view_marks peers key (get_or views i d)) (peer_marks peers key (drop (i + 1) views))

  pub views_over : (peers : Peers) (key : KeyValue) (views : List View) (i : ℕ) → length views ≤ i → mark_lines line select lane (peer_marks peers key (drop i views)) ≡ []
  views_over peers key views i over = ap (λ (vs : List View). mark_lines line select lane (peer_marks peers key vs)) (drop_all i views over)

  -- the lines of the first peer and of the others
  pub marks_first : (peers : Peers) (left rest : List (KeyValue × StateValue)) (e : KeyValue × StateValue) → left ≡ e ∷ rest
      → mark_lines line select lane (marks_in peers left) ≡ mark_lines line select lane (state_marks peers e) ++ mark_lines line select lane (marks_in peers rest)
  marks_first peers left rest e is = ap (λ (l : List (KeyValue × StateValue)). mark_lines line select lane (marks_in peers l)) is ∙ mark_lines_append (state_marks peers e) (marks_in peers rest)
