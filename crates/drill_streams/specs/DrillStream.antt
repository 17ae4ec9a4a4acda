-- The stream of a lane of a drill, by what stands at each position.
use Rattle.std.specs.Prelude.{◌≡◌, ℕ, ◌==◌, ◌&&◌, ◌%◌, Bool, List, [], ◌∷◌, ◌++◌, length, map}
use Rattle.std.specs.List.{filter, range_with_len}
use Rattle.bmp_specs.specs.Parts.{AreParts}
use Rattle.drill_streams.specs.Drawn.{choice_of, peer_of, word_at}
use Rattle.drill_streams.specs.Messages.{IsInitiation, IsMessageOf, IsUp}

-- the words in front of a position
abbrev pub words_before : ℕ → ℕ → ℕ → List ℕ
words_before seed lane i = map (word_at seed lane) (range_with_len 0 i)

-- the word takes this peer down or up
abbrev pub turns : ℕ → ℕ → Bool
turns p w = (peer_of w == p) && (choice_of w == 0)

-- Whether a peer is up in front of a position. It came up in front of all words, and each word that turns it takes it from
-- up to down or from down to up: its last Peer Up or Peer Down was a Peer Up where so far an even number of words did.
abbrev pub is_up : ℕ → ℕ → ℕ → ℕ → Bool
is_up seed lane p i = length (filter (turns p) (words_before seed lane i)) % 2 == 0

-- the message of the word at a position
abbrev pub IsMessageAt : ℕ → ℕ → List ℕ → ℕ → Type 0
IsMessageAt seed lane bytes i = IsMessageOf (is_up seed lane (peer_of (word_at seed lane i)) i) (word_at seed lane i) bytes

-- The stream: an Initiation Message, a Peer Up Notification of each peer in order, and the messages of so many words.
pub record IsDrillStream (seed lane messages : ℕ) (bytes : List ℕ) : Type 0 where
  pub initiation : List ℕ
  pub ups : List ℕ
  pub drawn : List ℕ
  pub joined : bytes ≡ initiation ++ (ups ++ drawn)
  pub initiation_is : IsInitiation lane initiation
  pub ups_are : AreParts IsUp ups (0 ∷ 1 ∷ 2 ∷ 3 ∷ [])
  pub drawn_are : AreParts (IsMessageAt seed lane) drawn (range_with_len 0 messages)
