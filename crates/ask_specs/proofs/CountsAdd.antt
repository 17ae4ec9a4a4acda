-- The numbers of rows of `full marks` add up to that of `count`: each row is of one table, whose mark is told.
use Rattle.std.proofs.Common.{◌≡◌, ℕ, suc, ◌+◌, ◌<◌, cond, Bool, true, false, ◌&&◌, ◌⊎◌, inl, inr, List, [], ◌∷◌, length, map, refl, sym, ap, subst, ◌∙◌, arith, length-append, Decides}
use Rattle.std.specs.Prelude.{flat_map, sum_by, slice_index_or}
use Rattle.std.specs.Cmp.{IsTotalOrder, Equal-is}
use Rattle.std.specs.List.{AllByRecursion, Contains, filter}
use Rattle.std.specs.List.Sorted.{IsStrictlySortedBy}
use Rattle.std.specs.declared.cmp.Ordering.{Ordering}
use Rattle.std.specs.declared.cmp.Ordering.TheVariants.{Less, Equal}
use Rattle.std.specs.Ordering.{is_eq, ordering_then}
use Rattle.std.proofs.lemmas.Bool.{false≢true, cond_both}
use Rattle.std.proofs.lemmas.Bool.Decides.{Decides-like, Decides-and}
use Rattle.std.proofs.lemmas.Cmp.{tied_itself}
use Rattle.std.proofs.lemmas.List.Sums.{length-filter, sum_by-cons}
use Rattle.std.proofs.lemmas.Map.Lookups.{CmpEqualImpliesEq}
use Rattle.bmp_specs.specs.declared.peers.View.{View}
use Rattle.bmp_specs.specs.declared.wire.Family.{Family}
use Rattle.bmp_specs.specs.Complete.{IsComplete}
use Rattle.bmp_specs.specs.Listed.{AreParallel}
use Rattle.bmp_specs.specs.Orders.{family_cmp, key_cmp, view_cmp}
use Rattle.bmp_specs.specs.PeerUp.{IsUp, Names}
use Rattle.bmp_specs.specs.Query.{count}
use Rattle.bmp_specs.specs.QueryReply.{MarkValue, IsMark, mark_cmp}
use Rattle.bmp_specs.specs.QueryRows.{AsksRow}
use Rattle.bmp_specs.specs.Reply.{told_count}
use Rattle.bmp_specs.specs.Rows.{RowValue, HasRow}
use Rattle.bmp_specs.specs.Selection.{SelectValue, IsAskedFor, IsPeerSelected, IsSelected, IsRowSelected}
use Rattle.bmp_specs.specs.Session.{session_effects}
use Rattle.bmp_specs.specs.TableRows.{row_key_cmp, AreRows}
use Rattle.bmp_specs.specs.Values.{EntryValue, EffectValue, KeyValue, mark, up}
use Rattle.bmp_specs.proofs.LatestLaws.{latest_one}
use Rattle.bmp_specs.proofs.ListedOne.{contains_cases, contains_first, contains_later, rows_one}
use Rattle.bmp_specs.proofs.OrderLaws.{family_total, family_exact, view_total, view_exact, key_total, key_exact, same_or_other}
use Rattle.bmp_specs.proofs.RowLaws.{up_by_row}
use Rattle.ask_specs.specs.FullMarks.{AreRowCounts, CountsAddUp, HasOwnViews, IsOfTable, RowCountValue}

-- ---- what a filter keeps, and in which order
module _ {X : Type 0} (test : X → Bool) where
  from_filter : (xs : List X) (x : X) → Contains (filter test xs) x → Contains xs x × (test x ≡ true)
  from_filter [] x c = absurd (omega (arith, c.1))
  from_filter (y ∷ ys) x c = cond_both (test y) (y ∷ filter test ys) (filter test ys) (λ (l : List X). Contains l x → Contains (y ∷ ys) x × (test x ≡ true))
      (λ kept d. elim (contains_cases y (filter test ys) x d) [
        | inl is ↦ (subst (Contains (y ∷ ys)) is (contains_first y ys), subst (λ (z : X). test z ≡ true) is kept)
        | inr e ↦ let h = from_filter ys x e in (contains_later y ys x h.0, h.1)
      ])
      (λ passed d. let h = from_filter ys x d in (contains_later y ys x h.0, h.1))
      c

  to_filter : (xs : List X) (x : X) → Contains xs x → test x ≡ true → Contains (filter test xs) x
  to_filter [] x c t = absurd (omega (arith, c.1))
  to_filter (y ∷ ys) x c t = cond_both (test y) (y ∷ filter test ys) (filter test ys) (λ (l : List X). Contains l x)
      (λ kept. elim (contains_cases y ys x c) [
        | inl is ↦ subst (Contains (y ∷ filter test ys)) is (contains_first y (filter test ys))
        | inr d ↦ contains_later y (filter test ys) x (to_filter ys x d t)
      ])
      (λ passed. elim (contains_cases y ys x c) [
        | inl is ↦ absurd (false≢true (sym passed ∙ ap test is ∙ t))
        | inr d ↦ to_filter ys x d t
      ])

  all_kept : {K : Type 0} (key : X → K) (P : K → Type 0) (xs : List X) → AllByRecursion P (map key xs) → AllByRecursion P (map key (filter test xs))
  all_kept key P [] a = tt
  all_kept key P (x ∷ xs) a = cond_both (test x) (x ∷ filter test xs) (filter test xs) (λ (l : List X). AllByRecursion P (map key l)) (λ kept. (a.0, all_kept key P xs a.1)) (λ passed. all_kept key P xs a.1)

  sorted_kept : {K : Type 0} (key : X → K) (cmp : K → K → Ordering) (xs : List X) → IsStrictlySortedBy cmp (map key xs) → IsStrictlySortedBy cmp (map key (filter test xs))
  unfolding IsStrictlySortedBy
  sorted_kept key cmp [] s = tt
  sorted_kept key cmp (x ∷ xs) s = cond_both (test x) (x ∷ filter test xs) (filter test xs) (λ (l : List X). IsStrictlySortedBy cmp (map key l))
      (λ kept. (all_kept key (λ k. cmp (key x) k ≡ Less) xs s.0, sorted_kept key cmp xs s.1))
      (λ passed. sorted_kept key cmp xs s.1)

  length_first : (x : X) (xs : List X) → length (filter test (x ∷ xs)) ≡ cond (test x) 1 0 + length (filter test xs)
  length_first x xs = length-filter test (x ∷ xs) ∙ sum_by-cons (λ y. cond (test y) 1 0) x xs ∙ ap (λ (n : ℕ). cond (test x) 1 0 + n) (sym (length-filter test xs))

-- ---- sums
sum_zero : {X : Type 0} (xs : List X) → sum_by (λ (x : X). 0) xs ≡ 0
sum_zero [] = refl
sum_zero {X} (x ∷ xs) = omega (arith, sum_by-cons (λ (y : X). 0) x xs, sum_zero xs)

sum_split : {X : Type 0} (f g h : X → ℕ) → ((x : X) → h x ≡ f x + g x) → (xs : List X) → sum_by h xs ≡ sum_by f xs + sum_by g xs
sum_split f g h is [] = refl
sum_split f g h is (x ∷ xs) = omega (arith, sum_by-cons f x xs, sum_by-cons g x xs, sum_by-cons h x xs, is x, sum_split f g h is xs)

-- items of a list that fit one of some tests each are as many as those of all tests
each_once : {X C : Type 0} (fits : C → X → Bool) (cs : List C) (xs : List X) → ((x : X) → Contains xs x → sum_by (λ c. cond (fits c x) 1 0) cs ≡ 1)
    → sum_by (λ c. length (filter (fits c) xs)) cs ≡ length xs
each_once fits cs [] once = sum_zero cs
each_once fits cs (x ∷ xs) once =
    let both = sum_split (λ c. cond (fits c x) 1 0) (λ c. length (filter (fits c) xs)) (λ c. length (filter (fits c) (x ∷ xs))) (λ c. length_first (fits c) x xs) cs in
    omega (arith, both, once x (contains_first x xs), each_once fits cs xs (λ y c. once y (contains_later x xs y c)))

told_both : (a b m n : ℕ) → a ≡ told_count m → told_count b ≡ told_count n → told_count (a + b) ≡ told_count (m + n)
told_both a b m n p q = omega (arith, p, q)

told_each : {C : Type 0} (f n : C → ℕ) (cs : List C) → ((c : C) → Contains cs c → f c ≡ told_count (n c)) → told_count (sum_by f cs) ≡ told_count (sum_by n cs)
told_each f n [] is = refl
told_each f n (c ∷ cs) is =
    ap told_count (sum_by-cons f c cs) ∙ told_both (f c) (sum_by f cs) (n c) (sum_by n cs) (is c (contains_first c cs)) (told_each f n cs (λ d e. is d (contains_later c cs d e))) ∙ ap told_count (sym (sum_by-cons n c cs))

-- ---- the table of a row
same_decides : {A : Type 0} (cmp : A → A → Ordering) → IsTotalOrder cmp → CmpEqualImpliesEq cmp → (a b : A) → Decides (is_eq (cmp a b)) (a ≡ b)
same_decides {A} cmp total exact a b = Decides-like (is_eq (cmp a b)) (exact a b) (λ same. subst (λ (v : A). cmp a v ≡ Equal) same (tied_itself total a)) (Equal-is (cmp a b))

is_of_table : MarkValue → RowValue → Bool
is_of_table m row = is_eq (key_cmp row.row_key.key m.key) && (is_eq (view_cmp row.row_key.view m.view) && is_eq (family_cmp row.row_key.nlri.prefix.address.family m.family))

table_decides : (m : MarkValue) (row : RowValue) → Decides (is_of_table m row) (IsOfTable m row)
unfolding is_of_table
table_decides m row =
    let within = Decides-and _ _ (same_decides view_cmp view_total view_exact row.row_key.view m.view) (same_decides family_cmp family_total family_exact row.row_key.nlri.prefix.address.family m.family) in
    Decides-like (is_of_table m row) (λ h. record { key_is = h.0; view_is = h.1.0; family_is = h.1.1 }) (λ s. (s.key_is, (s.view_is, s.family_is)))
    (Decides-and _ _ (same_decides key_cmp key_total key_exact row.row_key.key m.key) within)

-- marks of the table of one row tie
marks_tie : (m n : MarkValue) (row : RowValue) → IsOfTable m row → IsOfTable n row → mark_cmp m n ≡ Equal
marks_tie m n row p q =
    let key : key_cmp m.key n.key ≡ Equal = subst (λ (k : KeyValue). key_cmp m.key k ≡ Equal) (sym p.key_is ∙ q.key_is) (tied_itself key_total m.key) in
    let view : view_cmp m.view n.view ≡ Equal = subst (λ (v : View). view_cmp m.view v ≡ Equal) (sym p.view_is ∙ q.view_is) (tied_itself view_total m.view) in
    let family : family_cmp m.family n.family ≡ Equal = subst (λ (f : Family). family_cmp m.family f ≡ Equal) (sym p.family_is ∙ q.family_is) (tied_itself family_total m.family) in
    ap (λ (o : Ordering). ordering_then o (ordering_then (view_cmp m.view n.view) (family_cmp m.family n.family))) key ∙ ap (λ (o : Ordering). ordering_then o (family_cmp m.family n.family)) view ∙ family

-- counts in the order of their marks, of which one is of the table of the row: no other is
module _ (row : RowValue) where
  hits : RowCountValue → ℕ
  hits c = cond (is_of_table c.mark row) 1 0

  below_hits_none : (m : MarkValue) (cs : List RowCountValue) → IsOfTable m row → AllByRecursion (λ k. mark_cmp m k ≡ Less) (map (λ (c : RowCountValue). c.mark) cs) → sum_by hits cs ≡ 0
  unfolding hits
  below_hits_none m [] of below = refl
  below_hits_none m (c ∷ cs) of below = sum_by-cons hits c cs ∙ go (is_of_table c.mark row) refl (below_hits_none m cs of below.1)
    where
      go : (t : Bool) → is_of_table c.mark row ≡ t → sum_by hits cs ≡ 0 → hits c + sum_by hits cs ≡ 0
      go true is rest = let tie : mark_cmp m c.mark ≡ Equal = marks_tie m c.mark row of ((table_decides c.mark row).0 is) in let less : mark_cmp m c.mark ≡ Less = below.0 in absurd cc
      go false is rest = let none : hits c ≡ 0 = ap (λ (t : Bool). cond t 1 0) is in omega (arith, none, rest)

  hits_once : (cs : List RowCountValue) (c : RowCountValue) → IsStrictlySortedBy mark_cmp (map (λ (c : RowCountValue). c.mark) cs) → Contains cs c → IsOfTable c.mark row → sum_by hits cs ≡ 1
  unfolding hits IsStrictlySortedBy
  hits_once [] c s there of = absurd (omega (arith, there.1))
  hits_once (d ∷ cs) c s there of = sum_by-cons hits d cs ∙ elim (contains_cases d cs c there) [
    | inl is ↦
        let here : IsOfTable d.mark row = subst (λ (x : RowCountValue). IsOfTable x.mark row) (sym is) of in
        let one : hits d ≡ 1 = ap (λ (t : Bool). cond t 1 0) ((table_decides d.mark row).1 here) in
        omega (arith, one, below_hits_none d.mark cs here s.0)
    | inr later ↦ omega (arith, passed later, hits_once cs c s.1 later of)
  ]
    where
      less_there : (xs : List RowCountValue) → AllByRecursion (λ k. mark_cmp d.mark k ≡ Less) (map (λ (c : RowCountValue). c.mark) xs) → Contains xs c → mark_cmp d.mark c.mark ≡ Less
      less_there [] all e = absurd (omega (arith, e.1))
      less_there (x ∷ xs) all e = elim (contains_cases x xs c e) [ inl is ↦ subst (λ (z : RowCountValue). mark_cmp d.mark z.mark ≡ Less) is all.0 | inr f ↦ less_there xs all.1 f ]

      passed : Contains cs c → hits d ≡ 0
      passed later = go (is_of_table d.mark row) refl
        where
          go : (t : Bool) → is_of_table d.mark row ≡ t → hits d ≡ 0
          go true is = let tie : mark_cmp d.mark c.mark ≡ Equal = marks_tie d.mark c.mark row ((table_decides d.mark row).0 is) of in let less : mark_cmp d.mark c.mark ≡ Less = less_there cs s.0 later in absurd cc
          go false is = ap (λ (t : Bool). cond t 1 0) is

-- ---- whether a table is complete
mark_or_other : (key : KeyValue) (view : View) (family : Family) (e : EffectValue) → (e ≡ mark key view family) ⊎ ¬ (e ≡ mark key view family)
mark_or_other key view family (mark k v f) = elim (same_or_other key_cmp key_total key_exact k key) [
  | inl a ↦ elim (same_or_other view_cmp view_total view_exact v view) [
    | inl b ↦ elim (same_or_other family_cmp family_total family_exact f family) [
      | inl c ↦ inl (λ i. mark (a i) (b i) (c i))
      | inr differ ↦ inr (λ e. differ cc)
    ]
    | inr differ ↦ inr (λ e. differ cc)
  ]
  | inr differ ↦ inr (λ e. differ cc)
]
mark_or_other key view family e = inr (λ same. absurd cc)

mark_there : (key : KeyValue) (view : View) (family : Family) (es : List EffectValue) → Contains es (mark key view family) ⊎ ¬ (Contains es (mark key view family))
mark_there key view family [] = inr (λ c. omega (arith, c.1))
mark_there key view family (e ∷ es) = elim (mark_or_other key view family e) [
  | inl is ↦ inl (subst (Contains (e ∷ es)) is (contains_first e es))
  | inr differ ↦ elim (mark_there key view family es) [
    | inl c ↦ inl (contains_later e es (mark key view family) c)
    | inr none ↦ inr (λ c. elim (contains_cases e es (mark key view family) c) [ inl is ↦ differ is | inr d ↦ none d ])
  ]
]

complete_or_not : (es : List EffectValue) (key : KeyValue) (view : View) (family : Family) → IsUp es key → IsComplete es key view family ⊎ ¬ (IsComplete es key view family)
complete_or_not es key view family u = elim (mark_there key view family u.1.after) [
  | inl c ↦ inl (record { info = u.0; up = u.1; marked = c })
  | inr none ↦ inr (λ c. none (subst (λ (l : List EffectValue). Contains l (mark key view family)) (latest_one (Names key) es (up key c.info) (up key u.0) c.up u.1 refl refl).2 c.marked))
]

-- ---- one lane
module _ (select : SelectValue) (lane : ℕ) (entries : List EntryValue) (own : HasOwnViews entries) where
  row_mark : (row : RowValue) → HasRow (session_effects entries) row → (m : MarkValue) × IsMark entries m × IsOfTable m row
  row_mark row has =
      let u = up_by_row (session_effects entries) row has in
      elim (complete_or_not (session_effects entries) row.row_key.key row.row_key.view row.row_key.nlri.prefix.address.family u) [
        | inl c ↦ (record { key = row.row_key.key; view = row.row_key.view; family = row.row_key.nlri.prefix.address.family; complete = true }, record { up = u; view_is = own row has; complete_is = (λ t. c, λ d. refl) }, record { key_is = refl; view_is = refl; family_is = refl })
        | inr differ ↦ (record { key = row.row_key.key; view = row.row_key.view; family = row.row_key.nlri.prefix.address.family; complete = false }, record { up = u; view_is = own row has; complete_is = (λ t. absurd (false≢true t), λ d. absurd (differ d)) }, record { key_is = refl; view_is = refl; family_is = refl })
      ]

  row_selected : (m : MarkValue) (row : RowValue) → IsSelected select lane m.key m.view m.family → IsOfTable m row → IsRowSelected select lane row
  row_selected m row sel of = record {
    of_peer = subst (λ (k : KeyValue). IsPeerSelected select.router select.peer lane k) (sym of.key_is) sel.of_peer;
    view_is = subst (λ (v : View). IsAskedFor select.view v) (sym of.view_is) sel.view_is;
    family_is = subst (λ (f : Family). IsAskedFor select.family f) (sym of.family_is) sel.family_is;
  }

  mark_selected : (m : MarkValue) (row : RowValue) → IsRowSelected select lane row → IsOfTable m row → IsSelected select lane m.key m.view m.family
  mark_selected m row sel of = record {
    of_peer = subst (λ (k : KeyValue). IsPeerSelected select.router select.peer lane k) of.key_is sel.of_peer;
    view_is = subst (λ (v : View). IsAskedFor select.view v) of.view_is sel.view_is;
    family_is = subst (λ (f : Family). IsAskedFor select.family f) of.family_is sel.family_is;
  }

  module _ (rows : List RowValue) (are : AreRows (AsksRow (count select) lane (session_effects entries)) (session_effects entries) rows) where
    table_rows : (m : MarkValue) → IsSelected select lane m.key m.view m.family → AreRows (IsOfTable m) (session_effects entries) (filter (is_of_table m) rows)
    table_rows m sel = record {
      ordered = sorted_kept (is_of_table m) (λ (row : RowValue). row.row_key) row_key_cmp rows are.ordered;
      exact = λ x. (
        λ c. let h = from_filter (is_of_table m) rows x c in (((are.exact x).0 h.0).0, (table_decides m x).0 h.1),
        λ is. to_filter (is_of_table m) rows x ((are.exact x).1 (is.0, row_selected m x sel is.1)) ((table_decides m x).1 is.1),
      );
    }

    pub lane_adds_up : (known : List RowCountValue) → AreRowCounts select lane entries known → told_count (sum_by (λ (c : RowCountValue). c.rows) known) ≡ told_count (length rows)
    unfolding hits
    lane_adds_up known all =
        told_each (λ (c : RowCountValue). c.rows) (λ c. length (filter (is_of_table c.mark) rows)) known counted ∙ ap told_count (each_once (λ (c : RowCountValue). is_of_table c.mark) known rows once)
      where
        counted : (c : RowCountValue) → Contains known c → c.rows ≡ told_count (length (filter (is_of_table c.mark) rows))
        counted c there =
            let is = (all.exact c).0 there in
            is.0.count_is ∙ ap (λ (l : List RowValue). told_count (length l)) (rows_one (IsOfTable c.mark) (session_effects entries) is.0.rows (filter (is_of_table c.mark) rows) is.0.are_rows (table_rows c.mark is.1))

        once : (row : RowValue) → Contains rows row → sum_by (hits row) known ≡ 1
        once row there =
            let is = (are.exact row).0 there in
            let found = row_mark row is.0 in
            let m = found.0 in
            let sel = mark_selected m row is.1 found.2 in
            let c : RowCountValue = record { mark = m; rows = told_count (length (filter (is_of_table m) rows)) } in
            hits_once row known c all.ordered ((all.exact c).1 (record { is_mark = found.1; rows = filter (is_of_table m) rows; are_rows = table_rows m sel; count_is = refl }, sel)) found.2

-- ---- all lanes
lanes_add_up : (select : SelectValue) (number : ℕ → ℕ) (lanes : List (List EntryValue)) (counts : List (List RowCountValue)) (parts : List (List RowValue))
    → ((lane : ℕ) (d : List EntryValue) → lane < length lanes → HasOwnViews (slice_index_or lanes lane d))
    → AreParallel (λ k. AreRowCounts select (number k)) lanes counts
    → AreParallel (λ k entries part. AreRows (AsksRow (count select) (number k) (session_effects entries)) (session_effects entries) part) lanes parts
    → told_count (sum_by (λ part. sum_by (λ (c : RowCountValue). c.rows) part) counts) ≡ told_count (length (flat_map (λ (part : List RowValue). part) parts))
lanes_add_up select number [] [] [] own p q = refl
lanes_add_up select number [] (c ∷ counts) parts own p q = absurd (omega (arith, p.count))
lanes_add_up select number [] [] (r ∷ parts) own p q = absurd (omega (arith, q.count))
lanes_add_up select number (l ∷ lanes) [] parts own p q = absurd (omega (arith, p.count))
lanes_add_up select number (l ∷ lanes) (c ∷ counts) [] own p q = absurd (omega (arith, q.count))
lanes_add_up select number (l ∷ lanes) (c ∷ counts) (r ∷ parts) own p q =
    let sum = λ (part : List RowCountValue). sum_by (λ (c : RowCountValue). c.rows) part in
    let all = flat_map (λ (part : List RowValue). part) parts in
    let first : told_count (sum c) ≡ told_count (length r) = lane_adds_up select (number 0) l (own 0 l (omega arith)) r (q.each 0 l r (omega arith)) c (p.each 0 l c (omega arith)) in
    let rest : told_count (sum_by sum counts) ≡ told_count (length all) =
    lanes_add_up select (λ k. number (suc k)) lanes counts parts (λ k d lt. own (suc k) d (omega (arith, lt)))
    (record { count = omega (arith, p.count); each = λ k a b lt. p.each (suc k) a b (omega (arith, lt)) })
    (record { count = omega (arith, q.count); each = λ k a b lt. q.each (suc k) a b (omega (arith, lt)) }) in
    ap told_count (sum_by-cons sum c counts) ∙ told_sums (sum c) (sum_by sum counts) (length r) (length all) first rest ∙ ap told_count (sym (length-append r all))
  where
    told_sums : (a b m n : ℕ) → told_count a ≡ told_count m → told_count b ≡ told_count n → told_count (a + b) ≡ told_count (m + n)
    told_sums a b m n p q = omega (arith, p, q)

pub counts_add_up : CountsAddUp
counts_add_up select lanes counts rows own are all =
    lanes_add_up select (λ k. k) lanes counts all.parts own are all.each ∙ ap (λ (l : List RowValue). told_count (length l)) (sym all.all)
