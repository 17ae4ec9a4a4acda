use Rattle.std.proofs.Common.{map}
use Rattle.std.specs.String.{string_bytes}
use Rattle.station_words.specs.Complaints.{AreServe}
use Rattle.station_words.proofs.ComplaintSteps.{none_then}
use Rattle.station_words.proofs.SoundWords.{are_serve}
use Rattle.station_words.proofs.serve_ports.ports_complaint.Goals as goal

pub number_of-feeds-requires : goal.number_of-feeds-requires
number_of-feeds-requires c = record { is_number = λ value is. (is.0, is.1) }

pub number_of-askers-requires : goal.number_of-askers-requires
number_of-askers-requires c = record { is_number = λ value is. (is.0, is.1) }

pub number_of-feed-requires : goal.number_of-feed-requires
number_of-feed-requires c = record { is_number = λ value is. (is.0, is.1) }

pub number_of-ask-requires : goal.number_of-ask-requires
number_of-ask-requires c = record { is_number = λ value is. (is.0, is.1) }

pub returns-clause-some : goal.returns-clause-some
returns-clause-some c = λ has.
    let settings = has.0 in
    let are = has.1 in
    let sound = has.2 in
    c.apart_complaint.ensures.some (map string_bytes c.args.given.now) (
      settings,
      are,
      (
        sound,
        record {
          number = c.number_of-feeds.result;
          shared = c.are_shared-shared.result;
          is_first = c.number_of-feed.ensures settings are sound;
          is_number = c.number_of-feeds.ensures settings are sound;
          is_shared = c.are_shared-shared.ensures settings are sound;
          counted = c.width.ensures;
        },
        record {
          number = c.number_of-askers.result;
          shared = c.are_shared-shared.result;
          is_first = c.number_of-ask.ensures settings are sound;
          is_number = c.number_of-askers.ensures settings are sound;
          is_shared = c.are_shared-shared.ensures settings are sound;
          counted = c.width-2.ensures;
        },
      ),
    )

pub returns-clause-none : goal.returns-clause-none
returns-clause-none c = λ has.
    let settings = has.0 in
    let are = has.1 in
    let sound = has.2 in
    let given = map string_bytes c.args.given.now in
    none_then c.apart_complaint.result _ (AreServe given)
    (λ fits. are_serve given settings are sound c.number_of-feeds.result c.number_of-askers.result c.number_of-feed.result c.number_of-ask.result c.width.result c.width-2.result c.are_shared-shared.result (c.number_of-feeds.ensures settings are sound) (c.number_of-askers.ensures settings are sound) (c.number_of-feed.ensures settings are sound) (c.number_of-ask.ensures settings are sound) (c.are_shared-shared.ensures settings are sound) c.width.ensures c.width-2.ensures fits)
    c.apart_complaint.ensures.none
