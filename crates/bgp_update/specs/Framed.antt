-- The frame of the body of an UPDATE message, where it stands.
use Rattle.std.specs.Option.{option_map}
use Rattle.bmp_specs.specs.FramedUpdate.{FramedValue}
use Rattle.path_attrs.specs.Judged.{mp_value}
use Rattle.bgp_update.specs.declared.frame.FramedUpdate.{FramedUpdate}

-- its fields, and its multiprotocol attributes
abbrev pub framed_value : FramedUpdate → FramedValue
framed_value f = record {
  withdrawn_routes = f.withdrawn.now;
  path_attributes = f.attributes.now;
  nlri = f.nlri.now;
  reach = option_map mp_value f.reach;
  unreach = option_map mp_value f.unreach;
}
