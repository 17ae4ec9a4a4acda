use Rattle.std.proofs.Common.{inl, sym, ap, ◌∙◌, drop}
use Rattle.cut_publisher.proofs.turning.show.Goals as goal
use Rattle.cut_publisher.specs.Rule.{site_of}

pub turn-writer-requires : goal.turn-writer-requires
turn-writer-requires g c = inl (drop c.args.writer.behind c.args.writer.log.items, c.args.shown, c.queue.ensures.pending, c.requires.live, c.requires.book ∙ sym (ap (λ d. site_of d.shown.value) c.queue.ensures.desk))
