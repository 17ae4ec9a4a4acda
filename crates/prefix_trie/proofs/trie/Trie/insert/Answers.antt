use Rattle.std.proofs.Common.{◌≡◌, Result, Ok, Err, OnOk, OnErr, List, sym, ap, ◌∙◌}
use Rattle.std.specs.List.{All}
use Rattle.std.specs.Map.{keys_of}
use Rattle.std.specs.BTreeMap.{insert_entry}
use Rattle.std.proofs.lemmas.Map.Views.{All-keys-insert_entry}
use Rattle.bmp_specs.specs.Orders.{prefix_cmp}
use Rattle.bmp_specs.specs.Values.{PrefixValue}
use Rattle.prefix_trie.specs.Table.{IsOfFamily}
use Rattle.prefix_trie.proofs.trie.Trie.insert.Goals as goal

kept : {A E T : Type 0} (P : PrefixValue → Type 0) (r : Result A E) (old new : List (PrefixValue × T)) (k : PrefixValue) (v : T) → OnOk r (new ≡ insert_entry prefix_cmp old k v) → OnErr r (new ≡ old) → All P (keys_of old) → P k → All P (keys_of new)
kept P (Ok x) old new k v ok err a h = rw ok (All-keys-insert_entry prefix_cmp k v P old a h)
kept P (Err x) old new k v ok err a h = rw err a

pub invariant_of-self : goal.invariant_of-self
invariant_of-self g c = kept (IsOfFamily c.self.inside.family) c.insert.result _ _ c.args.prefix _ c.insert.ensures.entries c.insert.ensures.err c.self.invariant
    (record { same = c.requires ∙ ap (λ v. v.family) (sym c.self.view_is); exact = c.bits-bits.ensures.valid })
