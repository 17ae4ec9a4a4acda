use Rattle.std.proofs.Common.{◌≡◌, inl, inr, length, ap, ◌∙◌, arith}
use Rattle.std.proofs.lemmas.Result.{err_from_is_err_and}
use Rattle.disk_doors.specs.Disk.{DiskValue}
use Rattle.disk_doors.proofs.Passing.{asked_rests, sizes_lasts, writes_lasts, syncs_lasts, lasts_then}
use Rattle.feed_archive.proofs.Created.{makes_none, write_fails, writes_and_syncs}
use Rattle.feed_archive.proofs.Empty.{created, shut_kept}
use Rattle.feed_archive.proofs.creating.create.Goals as goal

-- whichever calls came after the write
pub returns-clause-told : goal.returns-clause-told
returns-clause-told g c = λ t.
    let none : length (g.D.Disk.shows c.args.disk.now).now.file ≡ 0 = omega (arith, (c.in_ok-size.ensures.told t).size, c.if-branch-ne0.false) in
    created _ _ none (shut_kept _ _ _ _ _ (ap (λ (d : DiskValue). length d.now.file) (c.in_ok-size.ensures.told t).next ∙ none) (c.in_ok-write_at.ensures.told t) (c.in_ok-sync.ensures.told t))

pub returns-in_err-size-clause-told : goal.returns-in_err-size-clause-told
returns-in_err-size-clause-told g c =
    let p = err_from_is_err_and c.from_residual.result c.from_residual.ensures.1 in
    rw (p.1, p.2) (λ t some. asked_rests _ _ (c.in_err-size.ensures.told t).next)

pub returns-in_err-write_at-clause-told : goal.returns-in_err-write_at-clause-told
returns-in_err-write_at-clause-told g c =
    let p = err_from_is_err_and c.from_residual-in_err-write_at.result c.from_residual-in_err-write_at.ensures.1 in
    rw (p.1, p.2) (λ t some.
    let none : length (g.D.Disk.shows c.args.disk.now).now.file ≡ 0 = omega (arith, (c.in_ok-size.ensures.told t).size, c.if-branch-ne0.false) in
    absurd (some none))

pub returns-in_err-sync-clause-told : goal.returns-in_err-sync-clause-told
returns-in_err-sync-clause-told g c =
    let p = err_from_is_err_and c.from_residual-in_err-sync.result c.from_residual-in_err-sync.ensures.1 in
    rw (p.1, p.2) (λ t some.
    let none : length (g.D.Disk.shows c.args.disk.now).now.file ≡ 0 = omega (arith, (c.in_ok-size.ensures.told t).size, c.if-branch-ne0.false) in
    absurd (some none))

pub returns-in_err-size-clause-lasts : goal.returns-in_err-size-clause-lasts
returns-in_err-size-clause-lasts g c = λ t. (sizes_lasts _ _ _ (c.in_err-size.ensures.told t))

pub returns-then-branch-ne0-clause-lasts : goal.returns-then-branch-ne0-clause-lasts
returns-then-branch-ne0-clause-lasts g c = λ t. (sizes_lasts _ _ _ (c.in_ok-size.ensures.told t))

pub returns-in_err-write_at-clause-lasts : goal.returns-in_err-write_at-clause-lasts
returns-in_err-write_at-clause-lasts g c = λ t. lasts_then _ _ _ (sizes_lasts _ _ _ (c.in_ok-size.ensures.told t)) (writes_lasts _ _ _ _ _ (c.in_err-write_at.ensures.told t))

pub returns-in_err-sync-clause-lasts : goal.returns-in_err-sync-clause-lasts
returns-in_err-sync-clause-lasts g c = λ t.
    lasts_then _ _ _ (lasts_then _ _ _ (sizes_lasts _ _ _ (c.in_ok-size.ensures.told t)) (writes_lasts _ _ _ _ _ (c.in_ok-write_at.ensures.told t))) (syncs_lasts _ _ _ (c.in_err-sync.ensures.told t))

pub returns-in_err-size-clause-calls : goal.returns-in_err-size-clause-calls
returns-in_err-size-clause-calls g c =
    let p = err_from_is_err_and c.from_residual.result c.from_residual.ensures.1 in
    rw (p.1, p.2) (λ t. inl (makes_none _ _ _ (c.in_err-size.ensures.told t)))

pub returns-then-branch-ne0-clause-calls : goal.returns-then-branch-ne0-clause-calls
returns-then-branch-ne0-clause-calls g c = λ t. makes_none _ _ _ (c.in_ok-size.ensures.told t)

pub returns-in_err-write_at-clause-calls : goal.returns-in_err-write_at-clause-calls
returns-in_err-write_at-clause-calls g c =
    let p = err_from_is_err_and c.from_residual-in_err-write_at.result c.from_residual-in_err-write_at.ensures.1 in
    rw (p.1, p.2) (λ t.
    let none : length (g.D.Disk.shows c.args.disk.now).now.file ≡ 0 = omega (arith, (c.in_ok-size.ensures.told t).size, c.if-branch-ne0.false) in
    inr (none, inl (write_fails _ _ _ _ (c.in_ok-size.ensures.told t) _ (c.in_err-write_at.ensures.told t))))

pub returns-in_err-sync-clause-calls : goal.returns-in_err-sync-clause-calls
returns-in_err-sync-clause-calls g c =
    let p = err_from_is_err_and c.from_residual-in_err-sync.result c.from_residual-in_err-sync.ensures.1 in
    rw (p.1, p.2) (λ t.
    let none : length (g.D.Disk.shows c.args.disk.now).now.file ≡ 0 = omega (arith, (c.in_ok-size.ensures.told t).size, c.if-branch-ne0.false) in
    inr (none, inr (_, writes_and_syncs _ _ _ _ (c.in_ok-size.ensures.told t) _ _ _ (c.in_ok-write_at.ensures.told t) (c.in_err-sync.ensures.told t))))

pub returns-clause-calls : goal.returns-clause-calls
returns-clause-calls g c = λ t. writes_and_syncs _ _ _ _ (c.in_ok-size.ensures.told t) _ _ _ (c.in_ok-write_at.ensures.told t) (c.in_ok-sync.ensures.told t)
