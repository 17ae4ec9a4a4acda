use Rattle.bmp_frames.proofs.Fields.{place_v4}
use Rattle.bmp_frames.proofs.header.PeerHeader.place.Goals as goal

pub returns-in-V4 : goal.returns-in-V4
returns-in-V4 c =
    place_v4 c.args.self.now c.args.raw.now c.copy_from_slice.new.self c.v4.result c.in-V4.ensures c.told-raw c.copy_from_slice.ensures.after c.v4.ensures.family c.v4.ensures.octets
