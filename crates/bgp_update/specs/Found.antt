-- What judging the body of an UPDATE message finds.
use Rattle.std.specs.Prelude.{◌≡◌, ℕ, ◌+◌, List, length}
use Rattle.std.specs.Option.{option_map}
use Rattle.bmp_specs.specs.declared.wire.Family.TheVariants.{V4}
use Rattle.bmp_specs.specs.declared.wire.IdUse.{IdUse}
use Rattle.bmp_specs.specs.declared.wire.Width.{Width}
use Rattle.bmp_specs.specs.AddressFamily.{uses_ids}
use Rattle.bmp_specs.specs.Counted.{IsCounted, IsRest}
use Rattle.bmp_specs.specs.Nlri.{AreNlri}
use Rattle.bmp_specs.specs.Sequence.{Then}
use Rattle.bmp_specs.specs.Update.{AreMpNlri}
use Rattle.bmp_specs.specs.Values.{NlriValue}
use Rattle.path_attrs.specs.Judged.{IsJudged, mp_value}
use Rattle.bgp_update.specs.declared.judge.Found.{Found}

-- the body has these fields, its attributes have values, each list of prefixes has items, and they are so many
pub record HasFound (width : Width) (ids : IdUse) (body : List ℕ) (found : Found) : Type 0 where
  pub fields : Then IsCounted (Then IsCounted IsRest) body (found.fields.withdrawn.now, (found.fields.attributes.now, found.fields.nlri.now))
  pub judged : IsJudged width found.fields.attributes.now found.judged
  pub gone : List NlriValue
  pub gone_are : AreNlri V4 (uses_ids ids V4) found.fields.withdrawn.now gone
  pub lost : List NlriValue
  pub lost_are : AreMpNlri ids (option_map mp_value found.judged.unreach) lost
  pub plain : List NlriValue
  pub plain_are : AreNlri V4 (uses_ids ids V4) found.fields.nlri.now plain
  pub multi : List NlriValue
  pub multi_are : AreMpNlri ids (option_map mp_value found.judged.reach) multi
  pub withdrawn_count : found.withdrawn ≡ length gone + length lost
  pub plain_count : found.plain ≡ length plain
  pub multi_count : found.multi ≡ length multi
