use Rattle.std.proofs.Common.{◌++◌, List, ℕ, ap, append-nil, codes}
use Rattle.bmp_specs.specs.EscapedText.{escaped_text}
use Rattle.wire_io.proofs.Joins.{join, more}
use Rattle.reply_text.proofs.router.put_names.Goals as goal

pub returns-in_err-put_text : goal.returns-in_err-put_text
returns-in_err-put_text g c =
    let descr : List ℕ = codes " descr=" ++ escaped_text c.args.descr.now in
    more _ _ _ descr _ _ _ c.in_err-put_text.ensures c.from_residual.ensures.0 (ap (λ (l : List ℕ). (codes " name=" ++ escaped_text c.args.name.now) ++ l) (append-nil descr))

pub returns : goal.returns
returns g c =
    let descr : List ℕ = codes " descr=" ++ escaped_text c.args.descr.now in
    join _ _ _ _ _ _ _ _ c.in_ok-put_text.ensures c.put_text-2.ensures (ap (λ (l : List ℕ). (codes " name=" ++ escaped_text c.args.name.now) ++ l) (append-nil descr))
