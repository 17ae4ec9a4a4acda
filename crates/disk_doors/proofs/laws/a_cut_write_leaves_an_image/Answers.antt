use Rattle.disk_doors.proofs.Torn.{cut_image}
use Rattle.disk_doors.proofs.laws.a_cut_write_leaves_an_image.Goals as goal

pub returns : goal.returns
returns c = cut_image
