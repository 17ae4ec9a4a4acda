-- What a pass publishes, one publication after another.
use Rattle.std.proofs.Common.{◌≡◌, ◌+◌, List, [], ◌++◌, length, refl, sym, ap, ◌∙◌, append-nil, append_assoc, arith, length-append}
use Rattle.std.proofs.lemmas.List.{map-append, length-map}
use Rattle.bmp_specs.specs.Values.{EntryValue}
use Rattle.cut_publisher.specs.History.{Fed}
use Rattle.cut_publisher.proofs.Prefixes.{begins_self, begins_trans}
use Rattle.rib_model.specs.declared.entry.Entry.{Entry}
use Rattle.rib_model.specs.Entries.{entry_value, entry_values}
use Rattle.feed_worker.specs.Publishing.{Grows}

pub grows_none : (a : Fed Entry) → Grows a a []
grows_none a = record { station = refl; lane = refl; made = []; values_are = refl; entries = sym (append-nil a.entries); seen = begins_self a.seen; unmarked = λ u. u }

pub grows_then : (a b c : Fed Entry) (xs ys : List EntryValue) → Grows a b xs → Grows b c ys → Grows a c (xs ++ ys)
grows_then a b c xs ys p q = record {
  station = q.station ∙ p.station;
  lane = q.lane ∙ p.lane;
  made = p.made ++ q.made;
  values_are = ap (λ (l : List EntryValue). l ++ ys) p.values_are ∙ ap (λ (l : List EntryValue). entry_values p.made ++ l) q.values_are ∙ sym (map-append entry_value p.made q.made);
  entries = q.entries ∙ ap (λ (l : List Entry). l ++ q.made) p.entries ∙ append_assoc a.entries p.made q.made;
  seen = begins_trans a.seen b.seen c.seen p.seen q.seen;
  unmarked = λ u. q.unmarked (p.unmarked u);
}

-- the values of what a pass published
pub grows_values : (old new : Fed Entry) (values : List EntryValue) → Grows old new values → entry_values new.entries ≡ entry_values old.entries ++ values
grows_values old new values p = ap entry_values p.entries ∙ map-append entry_value old.entries p.made ∙ ap (λ (l : List EntryValue). entry_values old.entries ++ l) (sym p.values_are)

-- how many entries it has then
pub grows_count : (old new : Fed Entry) (values : List EntryValue) → Grows old new values → length new.entries ≡ length old.entries + length values
grows_count old new values p = ap length p.entries ∙ length-append old.entries p.made ∙ omega (arith, ap length p.values_are, length-map p.made entry_value)
