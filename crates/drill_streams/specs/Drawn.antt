-- What a word that a lane of a drill draws stands for.
use Rattle.std.specs.Prelude.{ℕ, ◌+◌, ◌/◌, ◌%◌, List, [], ◌∷◌, Some, None}
use Rattle.bmp_specs.specs.declared.wire.SegmentKind.TheVariants.{Sequence}
use Rattle.bmp_specs.specs.Address.{prefix_at}
use Rattle.bmp_specs.specs.Values.{AttrsValue, NlriValue, SegmentValue}
use Rattle.bmp_specs.specs.TreatAsWithdraw.{no_attributes}
use Rattle.rand_pcg.specs.Lcg.{Lcg, advance, increment_of, started}
use Rattle.rand_pcg.specs.Pcg.{multiplier_64, pcg32}
use Rattle.drill_streams.specs.Peers.{peer_as, peer_octets, v4}

-- the generator of a lane, a PCG of 64 bits: the state that it starts from is the seed, and its stream the lane's number
abbrev pub generator : ℕ → ℕ → Lcg
generator seed lane = started 64 multiplier_64 seed (increment_of 64 lane)

-- the word at a position, counted from 0: what the generator gives after so many steps
abbrev pub word_at : ℕ → ℕ → ℕ → ℕ
word_at seed lane i = (pcg32 (advance 64 multiplier_64 i (generator seed lane))).0

-- the peer that it is for
abbrev pub peer_of : ℕ → ℕ
peer_of w = w % 4

-- which message it stands for, of sixteen choices
abbrev pub choice_of : ℕ → ℕ
choice_of w = w / 4 % 16

-- 10.x.y.0/24, of 4,096 prefixes, without a path identifier
abbrev pub prefix_of : ℕ → NlriValue
prefix_of w = record { prefix = prefix_at (v4 (10 ∷ (w / 64 % 256) ∷ (w / 16384 % 16) ∷ 0 ∷ [])) 24; id = None }

-- one sequence of the peer's AS and one of 64 others
abbrev pub path_of : ℕ → List SegmentValue
path_of w = record { kind = Sequence; numbers = peer_as (peer_of w) ∷ (65000 + w / 262144 % 64) ∷ [] } ∷ []

-- ORIGIN is IGP, AS_PATH such a path, and NEXT_HOP the peer
abbrev pub attrs_of : ℕ → AttrsValue
attrs_of w = record no_attributes {
  origin = Some 0;
  path = Some (path_of w);
  hop = Some (peer_octets (peer_of w));
}
