-- What a wrong row or step would be, and that it isn't what the contract asks for.
use Rattle.std.proofs.Common.{◌≡◌, ℕ, [], ◌∷◌, None, replicate}
use Rattle.std.specs.declared.cmp.Ordering.TheVariants.{Greater}
use Rattle.bmp_specs.specs.declared.peers.View.{View}
use Rattle.bmp_specs.specs.declared.peers.View.TheVariants.{InPre, InPost}
use Rattle.bmp_specs.specs.declared.wire.Family.TheVariants.{V4}
use Rattle.bmp_specs.specs.Prefix.{prefix_of}
use Rattle.bmp_specs.specs.Rows.{RowKeyValue}
use Rattle.bmp_specs.specs.TableRows.{row_key_cmp}
use Rattle.bmp_specs.specs.Values.{KeyValue}
use Rattle.rib_model.specs.contracts.step.StepKeep.TheImpl as kept
use Rattle.rib_model.specs.declared.step.Step.TheVariants.{Up, Down}

-- a row of one peer, at the prefix of this first byte
abbrev row_in : View → ℕ → RowKeyValue
row_in view byte = record {
  key = record { kind = 0; distinguisher = 0; address = record { family = V4; octets = replicate 16 0 } };
  view = view;
  nlri = record { prefix = prefix_of V4 8 (byte ∷ []); id = None };
}

-- 11.0.0.0/8 before policy stands before 10.0.0.0/8 after policy: who orders rows by prefix before view turns them round.
the_view_goes_before_the_prefix : row_key_cmp (row_in InPre 11) (row_in InPost 10) ≡ Greater → ⊥
the_view_goes_before_the_prefix is = absurd cc

-- A peer that came up isn't kept for one that went down.
down_is_not_kept_as_up : (key : KeyValue) → kept.ghosts.alike (Down key) (Up key) → ⊥
down_is_not_kept_as_up key is = absurd cc
