-- Each lane of a station that served is one that served from nothing on, and a copy of its rows can be kept.
use Rattle.std.proofs.Common.{◌≡◌, ℕ, zero, suc, ◌+◌, ◌<◌, List, [], ◌∷◌, length, None, refl, subst, append-nil, arith}
use Rattle.ask_specs.specs.Lives.{LivesAnnounceOfUp}
use Rattle.bmp_specs.specs.Meaning.{Meaning}
use Rattle.cut_publisher.specs.History.{Site}
use Rattle.cut_publisher.specs.Opening.{fresh_feed}
use Rattle.feed_worker.specs.Lives.{IsServedLane}
use Rattle.feed_worker.proofs.LaneLives.{seen_up}
use Rattle.ask_session.specs.Replies.{History}
use Rattle.station_run.specs.Seen.{LanesAreServed, LanesAreTellable}
use Rattle.station_run.specs.Served.{AreLaneRuns, LaneRun}

-- the lane at this place among the runs from lane k on
served_at : (meaning : Meaning) (rounds : ℕ) (site : Site) (history : History) (k : ℕ) (rs : List LaneRun) → AreLaneRuns meaning rounds site history k rs → (n : ℕ) → n < length rs → IsServedLane meaning (k + n) history
served_at meaning rounds site history k [] are n below = absurd (omega (arith, below))
served_at meaning rounds site history k (r ∷ rs) (one, are) zero below =
    let here : k ≡ k + zero = omega arith in
    subst (λ (lane : ℕ). IsServedLane meaning lane history) here (record {
      began = None;
      rounds = rounds;
      old = r.first;
      new = r.last;
      before = fresh_feed site k;
      after = r.pass;
      end = r.end;
      nothing = refl;
      serves = one.lane_serves.serves;
      published = one.published;
    })
served_at meaning rounds site history k (r ∷ rs) (one, are) (suc n) below =
    let here : (k + 1) + n ≡ k + suc n = omega arith in
    subst (λ (lane : ℕ). IsServedLane meaning lane history) here (served_at meaning rounds site history (k + 1) rs are n (omega (arith, below)))

pub lanes_served : (meaning : Meaning) → LanesAreServed meaning
lanes_served meaning rounds lanes askers runs ask_runs cut feeds asks rev served lane below =
    let same : 0 + lane ≡ lane = omega arith in
    subst (λ (k : ℕ). IsServedLane meaning k served.ending.history) same (served_at meaning rounds served.site served.ending.history 0 runs served.lanes_are lane (omega (arith, below, served.count)))

pub lanes_tellable : (meaning : Meaning) → LivesAnnounceOfUp meaning → LanesAreTellable meaning
lanes_tellable meaning of_up rounds lanes askers runs ask_runs cut feeds asks rev served lane below few =
    let history = served.ending.history in
    record {
      of_up = seen_up meaning of_up lane history history (lanes_served meaning rounds lanes askers runs ask_runs cut feeds asks rev served lane below) (record { rest = []; is = append-nil history });
      few = few;
    }
