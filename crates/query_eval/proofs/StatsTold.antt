-- The statistics that a book tells of a peer are those that the entries leave.
use Rattle.std.proofs.Common.{◌≡◌, ℕ, List, [], ◌∷◌, map, Option, Some, refl, sym, ap, ◌∙◌, subst}
use Rattle.std.specs.Prelude.{◌↔◌}
use Rattle.std.specs.List.Sorted.{IsStrictlySortedBy}
use Rattle.std.specs.Cmp.{eq_by_cmp_equiv}
use Rattle.std.specs.BTreeMap.{is_at}
use Rattle.std.specs.Map.{keys_of, lookup}
use Rattle.std.proofs.lemmas.Map.Keys.{IsDistinct-from_sorted}
use Rattle.std.proofs.lemmas.Map.Views.{Contains-from_lookup, lookup-from_Contains, tells_apart}
use Rattle.bmp_specs.specs.PeerLines.{stat_line}
use Rattle.bmp_specs.specs.Query.{stats}
use Rattle.bmp_specs.specs.QueryReply.{AreLaneLines}
use Rattle.bmp_specs.specs.Rows.{HasStatistic}
use Rattle.bmp_specs.specs.Session.{session_effects}
use Rattle.bmp_specs.specs.StatKind.{KindValue, kind_cmp, kind_of}
use Rattle.bmp_specs.specs.Values.{KeyValue, StatValue, EntryValue}
use Rattle.bmp_specs.proofs.ListedOne.{all_one}
use Rattle.bmp_specs.proofs.OrderLaws.{kind_total, kind_exact}
use Rattle.stats_book.specs.Standing.{StandsForStats}
use Rattle.stats_book.specs.Stats.{Stats, stats_at}
use Rattle.query_eval.specs.Told.{stat_in, stat_lines}
use Rattle.query_eval.proofs.InOrder.{by_key, by_key_sorted, by_key_same}
use Rattle.query_eval.proofs.Keeping.{from_map, to_map}

kinds_same : (es : List (KindValue × ℕ)) → map kind_of (map stat_in es) ≡ keys_of es
kinds_same [] = refl
kinds_same (e ∷ es) = ap (λ (l : List KindValue). e.0 ∷ l) (kinds_same es)

lines_same : (lane : ℕ) (key : KeyValue) (es : List (KindValue × ℕ)) → stat_lines lane key es ≡ map (stat_line lane key) (map stat_in es)
lines_same lane key [] = refl
lines_same lane key (e ∷ es) = ap (λ (l : List (List ℕ)). stat_line lane key (stat_in e) ∷ l) (lines_same lane key es)

module _ (lane : ℕ) (key : KeyValue) (entries : List EntryValue) where
  pub are_kind_lines : (es : List (KindValue × ℕ)) → IsStrictlySortedBy kind_cmp (keys_of es) → ((stat : StatValue) → (lookup (is_at (kind_cmp (kind_of stat))) es ≡ Some stat.value) ↔ HasStatistic (session_effects entries) key stat)
      → AreLaneLines (stats key) lane entries (stat_lines lane key es)
  are_kind_lines es ordered values = record {
    known = map stat_in es;
    are_known = record {
      ordered = subst (IsStrictlySortedBy kind_cmp) (sym (kinds_same es)) ordered;
      exact = λ x. (
        λ c.
            let h = from_map stat_in es x c in
            let there : lookup (is_at (kind_cmp h.0.0)) es ≡ Some h.0.1 = lookup-from_Contains (eq_by_cmp_equiv kind_total) h.0.0 h.0.1 es (IsDistinct-from_sorted kind_cmp (keys_of es) ordered) h.1 in
            (values x).0 (subst (λ (s : StatValue). lookup (is_at (kind_cmp (kind_of s))) es ≡ Some s.value) h.2 there),
        λ has. to_map stat_in es (kind_of x, x.value) (Contains-from_lookup (tells_apart kind_exact) (kind_of x) x.value es ((values x).1 has)),
      );
    };
    told = lines_same lane key es;
  }

  pub are_stat_lines : (book : Stats) → IsStrictlySortedBy kind_cmp (keys_of (stats_at book key)) → StandsForStats book (session_effects entries) → AreLaneLines (stats key) lane entries (stat_lines lane key (stats_at book key))
  are_stat_lines book ordered stands = are_kind_lines (stats_at book key) ordered (stands.values key)

  -- there are such lines, in whatever order the book has its statistics
  pub stat_lines_there : (book : Stats) → StandsForStats book (session_effects entries) → (lines : List (List ℕ)) × AreLaneLines (stats key) lane entries lines
  stat_lines_there book stands =
      let es = stats_at book key in (
        stat_lines lane key (by_key kind_cmp es),
        are_kind_lines (by_key kind_cmp es) (by_key_sorted kind_cmp kind_total es)
            (λ stat. subst (λ (o : Option ℕ). (o ≡ Some stat.value) ↔ HasStatistic (session_effects entries) key stat) (sym (by_key_same kind_cmp kind_total (kind_of stat) es)) (stands.values key stat)),
      )

  pub stat_lines_one : (a b : List (List ℕ)) → AreLaneLines (stats key) lane entries a → AreLaneLines (stats key) lane entries b → a ≡ b
  stat_lines_one a b p q = p.told ∙ ap (map (stat_line lane key)) (all_one kind_of kind_cmp kind_total (HasStatistic (session_effects entries) key) p.known q.known p.are_known q.are_known) ∙ sym q.told
