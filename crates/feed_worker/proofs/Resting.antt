-- A pass that left nothing of a connection unpublished.
use Rattle.std.proofs.Common.{◌≡◌, ◌≤◌, List, [], ◌∷◌, ◌++◌, length, inl, inr, refl, sym, ap, ◌∙◌, append_assoc, arith}
use Rattle.bmp_specs.specs.Meaning.{Meaning}
use Rattle.bmp_specs.specs.Values.{EntryValue, opened, closed}
use Rattle.cut_publisher.specs.History.{Fed}
use Rattle.rib_model.specs.declared.entry.Entry.{Entry}
use Rattle.rib_model.specs.Entries.{entry_values}
use Rattle.wire_io.specs.Aside.{Aside}
use Rattle.feed_worker.specs.Feed.{Concludes, IsLifeOf}
use Rattle.feed_worker.specs.FeedPort.{IsAtRest}
use Rattle.feed_worker.proofs.Growing.{grows_values}

-- it published nothing
pub rests_new : (entries : List Entry) → length entries ≤ 0 → IsAtRest (entry_values entries)
rests_new [] none = inl refl
rests_new (e ∷ es) none = absurd (omega (arith, none))

-- the last that it published is a whole life
pub rests_after : (meaning : Meaning) (c d : Aside) (pass new : Fed Entry) → Concludes meaning (IsLifeOf meaning) c d pass new → IsAtRest (entry_values new.entries)
rests_after meaning c d pass new t =
    let life = t.is_of in
    let before : List EntryValue = entry_values pass.entries in
    let end : List EntryValue = closed (record { cause = life.cause; until = life.until }) ∷ [] in
    inr (before ++ opened life.came ∷ life.messages, record { cause = life.cause; until = life.until }, grows_values pass new t.entries t.grows ∙ ap (λ (l : List EntryValue). before ++ l) life.is ∙ sym (append_assoc before (opened life.came ∷ life.messages) end))
