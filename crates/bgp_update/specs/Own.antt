-- The attributes of an UPDATE message that has no multiprotocol ones.
use Rattle.std.specs.Prelude.{◌≡◌, ℕ, List, None}
use Rattle.bmp_specs.specs.declared.wire.Width.{Width}
use Rattle.bmp_specs.specs.Attributes.{AreAttributes}
use Rattle.bmp_specs.specs.Values.{AttrsReadValue, AttrsValue}

-- "Path Attributes" without MP_REACH_NLRI and MP_UNREACH_NLRI are these attributes
pub record AreOwn (width : Width) (field : List ℕ) (attrs : AttrsValue) : Type 0 where
  pub read : AttrsReadValue
  pub are : AreAttributes width field read
  pub no_reach : read.reach ≡ None
  pub no_unreach : read.unreach ≡ None
  pub attrs_are : attrs ≡ read.attrs
