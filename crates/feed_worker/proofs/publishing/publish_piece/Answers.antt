use Rattle.std.proofs.Common.{◌≡◌, ◌+◌, ◌++◌, length, arith}
use Rattle.rib_model.specs.Entries.{entry_values}
use Rattle.feed_worker.proofs.Gathering.{room_for, publishes}
use Rattle.feed_worker.proofs.Growing.{grows_values}
use Rattle.feed_worker.proofs.Moving.{same_places, front_follows, breaks_told}
use Rattle.feed_worker.proofs.publishing.publish_piece.Goals as goal

pub publish_entries-requires-clause-room : goal.publish_entries-requires-clause-room
publish_entries-requires-clause-room g c =
    let h = c.requires.room in
    let piece = c.args.piece.now in
    let gathered = c.in_ok-gathered.gathered in
    let gives = c.in_ok-gathered.ensures.gives (h.fed ++ piece) h.published.messages (c.in_ok-feed.ensures.run h.fed h.published.messages h.published.given.reached) in
    rw c.as_slice.ensures (room_for g.B.BodyReading.meaning g.B.BodyReading.state h.came h.first c.args.pass.now h.fed piece c.args.walk.now c.gather.new.walk h.published gathered.entries gathered.end gives h.room h.within)

pub published-requires : goal.published-requires
published-requires g c =
    let gathered = c.in_ok-gathered.gathered in
    (entry_values c.args.pass.now.entries, rw c.as_slice-2.ensures (grows_values c.args.pass.now c.publish_entries.new.pass (entry_values gathered.entries) (rw c.as_slice.ensures at c.in_ok-publish_entries.ensures)))

pub tell_break-requires : goal.tell_break-requires
tell_break-requires g c =
    let h = c.requires.room in
    let piece = c.args.piece.now in
    let p = h.published in
    let gathered = c.in_ok-gathered.gathered in
    let gives = c.in_ok-gathered.ensures.gives (h.fed ++ piece) p.messages (c.in_ok-feed.ensures.run h.fed p.messages p.given.reached) in
    let count : length h.fed ≡ c.offset-from.result + c.rest.result = omega (arith, p.given.reached.count, c.rest.ensures.all, c.offset-from.ensures) in
    let front = front_follows g.B.BodyReading.meaning g.B.BodyReading.state h.fed piece p.messages (entry_values gathered.entries) c.args.walk.now p.given c.gather.new.walk gathered.end c.follow.new.self.octets gives (same_places h.fed piece _ _ _ _ _ _ count c.offset-from.ensures c.stands_at-to.ensures (c.follow.ensures h.fed count (rw c.offset-from.ensures h.front))) in
    rw c.published.ensures.aside (breaks_told g.B.BodyReading.meaning g.B.BodyReading.state _ (h.fed ++ piece) (p.messages ++ entry_values gathered.entries) c.gather.new.walk gathered.end c.follow.new.self.octets h.present gives front)

pub returns-clause-published : goal.returns-clause-published
returns-clause-published g c came first fed p =
    let piece = c.args.piece.now in
    let gathered = c.in_ok-gathered.gathered in
    let gives = c.in_ok-gathered.ensures.gives (fed ++ piece) p.messages (c.in_ok-feed.ensures.run fed p.messages p.given.reached) in
    publishes g.B.BodyReading.meaning g.B.BodyReading.state came first c.args.pass.now fed piece c.args.walk.now c.gather.new.walk p gathered.entries gathered.end gives c.publish_entries.new.pass (rw c.as_slice.ensures at c.in_ok-publish_entries.ensures)

pub returns-clause-fronts : goal.returns-clause-fronts
returns-clause-fronts g c came first fed p front =
    let piece = c.args.piece.now in
    let gathered = c.in_ok-gathered.gathered in
    let gives = c.in_ok-gathered.ensures.gives (fed ++ piece) p.messages (c.in_ok-feed.ensures.run fed p.messages p.given.reached) in
    let count : length fed ≡ c.offset-from.result + c.rest.result = omega (arith, p.given.reached.count, c.rest.ensures.all, c.offset-from.ensures) in
    front_follows g.B.BodyReading.meaning g.B.BodyReading.state fed piece p.messages (entry_values gathered.entries) c.args.walk.now p.given c.gather.new.walk gathered.end c.follow.new.self.octets gives (same_places fed piece _ _ _ _ _ _ count c.offset-from.ensures c.stands_at-to.ensures (c.follow.ensures fed count (rw c.offset-from.ensures front)))
