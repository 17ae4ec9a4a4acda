-- What the lines of a table begin with.
use Rattle.std.specs.Prelude.{ℕ, List, [], ◌∷◌, ◌++◌}
use Rattle.bmp_specs.specs.declared.peers.View.{View}
use Rattle.bmp_specs.specs.NumberText.{number_text}
use Rattle.bmp_specs.specs.PeerText.{key_text, view_text}
use Rattle.bmp_specs.specs.Values.{KeyValue}

-- a table: its lane, its peer and its view
pub record TableValue : Type 0 where
  pub lane : ℕ
  pub key : KeyValue
  pub view : View

-- the word with the space after it, the lane, the peer and the view, and the space after them
abbrev pub front_text : List ℕ → TableValue → List ℕ
front_text word table = word ++ (number_text table.lane ++ (32 ∷ (key_text table.key ++ (32 ∷ (view_text table.view ++ (32 ∷ []))))))
