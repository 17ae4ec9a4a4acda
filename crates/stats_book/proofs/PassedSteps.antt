-- What one more message makes of the parts that were passed over.
use Rattle.std.proofs.Common.{◌≡◌, ℕ, ◌+◌, Bool, true, false, cond, List, [], ◌∷◌, ◌++◌, refl, sym, ap, ◌∙◌, subst, arith}
use Rattle.std.specs.Prelude.{◌==◌, ◌||◌, not, filter, flat_map, sum_by}
use Rattle.std.proofs.lemmas.Bool.{cond-true, cond-false, ne_eqb, or_from}
use Rattle.std.proofs.lemmas.List.{flat_map_more}
use Rattle.std.proofs.lemmas.List.Elements.{filter-append}
use Rattle.std.proofs.lemmas.List.Sums.{sum_by-append, sum_by_push}
use Rattle.bmp_specs.specs.Reply.{told_count}
use Rattle.bmp_specs.specs.Values.{EffectValue, EntryValue, FamilyCodeValue, HeadValue, message}
use Rattle.ask_specs.specs.Connection.{PassedValue, is_of_routes, is_of_tlvs, is_report, others_in, parts_of, passed_of}
use Rattle.stats_book.specs.Others.{others_of}

-- the parts of the messages of one cause, with one message more
cause_more : (test : EntryValue → Bool) (messages : List EntryValue) (m : EntryValue) (before after parts : ℕ) (b : Bool) → test m ≡ b → parts ≡ told_count (parts_of m) → after ≡ cond b (told_count (before + parts)) before
    → before ≡ told_count (sum_by parts_of (filter test messages)) → after ≡ told_count (sum_by parts_of (filter test (messages ++ m ∷ [])))
cause_more test messages m before after parts true is here more so_far =
    let all = ap (sum_by parts_of) (filter-append test messages (m ∷ []) ∙ ap (λ (l : List EntryValue). filter test messages ++ l) (cond-true (test m) _ _ is)) ∙ sum_by_push parts_of (filter test messages) m in
    omega (arith, all, here, more, so_far)
cause_more test messages m before after parts false is here more so_far =
    let all = ap (sum_by parts_of) (filter-append test messages (m ∷ []) ∙ ap (λ (l : List EntryValue). filter test messages ++ l) (cond-false (test m) _ _ is)) ∙ sum_by-append parts_of (filter test messages) [] in
    omega (arith, all, here, more, so_far)

-- how parts of a message of this type are counted
pub record CountsParts (kind parts : ℕ) (before after : PassedValue) : Type 0 where
  pub tlvs : after.tlvs ≡ cond (not (kind == 0 || kind == 1)) (told_count (before.tlvs + parts)) before.tlvs
  pub stats : after.stats ≡ cond (kind == 1) (told_count (before.stats + parts)) before.stats
  pub routes : after.routes ≡ cond (kind == 0) (told_count (before.routes + parts)) before.routes

module _ (parts : ℕ) (before : PassedValue) where
  pub counts_routes : (kind : ℕ) (n : ℕ) → kind ≡ 0 → n ≡ told_count (before.routes + parts) → CountsParts kind parts before (record before { routes = n })
  counts_routes kind n is more = subst (λ (k : ℕ). CountsParts k parts before (record before { routes = n })) (sym is) (record { tlvs = refl; stats = refl; routes = more })

  pub counts_stats : (kind : ℕ) (n : ℕ) → kind ≡ 1 → n ≡ told_count (before.stats + parts) → CountsParts kind parts before (record before { stats = n })
  counts_stats kind n is more = subst (λ (k : ℕ). CountsParts k parts before (record before { stats = n })) (sym is) (record { tlvs = refl; stats = more; routes = refl })

  pub counts_tlvs : (kind : ℕ) (n : ℕ) → (kind ≡ 0 → ⊥) → (kind ≡ 1 → ⊥) → n ≡ told_count (before.tlvs + parts) → CountsParts kind parts before (record before { tlvs = n })
  counts_tlvs kind n not_zero not_one more =
      let zeroth = ne_eqb kind 0 not_zero in
      let first = ne_eqb kind 1 not_one in
      record {
        tlvs = more ∙ sym (cond-true _ _ _ (ap not (or_from _ _ zeroth first)));
        stats = sym (cond-false _ _ _ first);
        routes = sym (cond-false _ _ _ zeroth);
      }

-- with the families of the message
pub passed_more : (before after : PassedValue) (parts : ℕ) (head : HeadValue) (effects : List EffectValue) → CountsParts head.kind parts before after → parts ≡ told_count (parts_of (message head effects))
    → ((all : List FamilyCodeValue) → record { families = before.families; named = before.others; more = before.more } ≡ others_of all → record { families = after.families; named = after.others; more = after.more } ≡ others_of (all ++ head.others))
    → (messages : List EntryValue) → before ≡ passed_of messages → after ≡ passed_of (messages ++ message head effects ∷ [])
passed_more before after parts head effects counts here others messages was =
    let m = message head effects in
    let tlvs = cause_more is_of_tlvs messages m before.tlvs after.tlvs parts (is_of_tlvs m) refl here counts.tlvs (ap (λ (p : PassedValue). p.tlvs) was) in
    let stats = cause_more is_report messages m before.stats after.stats parts (is_report m) refl here counts.stats (ap (λ (p : PassedValue). p.stats) was) in
    let routes = cause_more is_of_routes messages m before.routes after.routes parts (is_of_routes m) refl here counts.routes (ap (λ (p : PassedValue). p.routes) was) in
    let families = others (flat_map others_in messages) (ap (λ (p : PassedValue). record { families = p.families; named = p.others; more = p.more }) was) ∙ ap others_of (flat_map_more others_in [] messages m) in
    λ i. record { tlvs = tlvs i; stats = stats i; routes = routes i; families = (families i).families; others = (families i).named; more = (families i).more }
