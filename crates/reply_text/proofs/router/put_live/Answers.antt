use Rattle.std.proofs.Common.{◌≡◌, ◌∙◌, ◌++◌, [], ◌∷◌, ap, codes, List, ℕ}
use Rattle.ask_specs.specs.FullRouters.{counted_fields}
use Rattle.bmp_specs.specs.Counts.{CountsValue}
use Rattle.bmp_specs.specs.NumberText.{number_text}
use Rattle.bmp_specs.specs.PeerLines.{live_line}
use Rattle.reply_text.specs.Pieces.{spaced}
use Rattle.reply_text.proofs.Further.{further-spaced}
use Rattle.reply_text.proofs.Joining.{join_three}
use Rattle.reply_text.proofs.Pieces.{line_parts}
use Rattle.wire_io.proofs.Joins.{join_failed, more}
use Rattle.reply_text.proofs.router.put_live.Goals as goal

abbrev front : ℕ → List (List ℕ)
front lane = number_text lane ∷ codes "live" ∷ []

live_parts : (lane up : ℕ) (counts : CountsValue) (name descr : List ℕ) → live_line lane up counts name descr ≡ (codes "router" ++ spaced (front lane)) ++ (spaced (counted_fields up counts name descr) ++ codes "\n")
live_parts lane up counts name descr =
    let fields = counted_fields up counts name descr in
    line_parts (codes "router") (front lane) fields ∙ ap (λ (l : List ℕ). (codes "router" ++ spaced (front lane)) ++ l) (further-spaced fields)

pub returns-in_err-put_state : goal.returns-in_err-put_state
returns-in_err-put_state g c =
    let line = c.args.line.now in
    more _ _ _ (spaced (counted_fields line.peers line.counts line.name.now line.descr.now) ++ codes "\n") _ _ _ c.in_err-put_state.ensures c.from_residual.ensures.0 (live_parts c.args.lane line.peers line.counts line.name.now line.descr.now)

pub returns-in_err-put_counted : goal.returns-in_err-put_counted
returns-in_err-put_counted g c =
    let line = c.args.line.now in
    join_failed _ _ _ _ _ (codes "\n") _ _ _ c.in_ok-put_state.ensures c.in_err-put_counted.ensures c.from_residual-in_err-put_counted.ensures.0 (live_parts c.args.lane line.peers line.counts line.name.now line.descr.now)

pub returns : goal.returns
returns g c =
    let line = c.args.line.now in
    join_three _ _ _ _ _ _ _ _ _ _ _ c.in_ok-put_state.ensures c.in_ok-put_counted.ensures c.write_all.ensures (live_parts c.args.lane line.peers line.counts line.name.now line.descr.now)
