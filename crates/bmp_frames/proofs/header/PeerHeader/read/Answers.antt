use Rattle.bmp_frames.proofs.Fields.{read_fields}
use Rattle.bmp_frames.proofs.header.PeerHeader.read.Goals as goal

pub returns : goal.returns
returns c =
    read_fields c.args.head.now c.read_u64.result c.read_u32.result c.read_u32-2.result c.read_u32-3.result c.copy_from_slice.new.self c.copy_from_slice-2.new.self c.told-head
    c.read_u64.ensures c.copy_from_slice.ensures.after c.read_u32.ensures c.copy_from_slice-2.ensures.after c.read_u32-2.ensures c.read_u32-3.ensures
