use Rattle.rib_model.specs.Effects.{effect_values}
use Rattle.bmp_message.specs.Heads.{others_value}
use Rattle.bmp_message.proofs.Heads.{head_is}
use Rattle.bmp_message.proofs.head.head_of.Goals as goal

pub returns : goal.returns
returns c head is =
    head_is c.args.kind c.message_length.result c.args.body.now (effect_values c.args.effects.now) _ c.peer_head_of.result (others_value c.others_of-others.result) c.of-message.ensures c.message_length.ensures c.peer_head_of.ensures
    c.others_of-others.ensures head is
