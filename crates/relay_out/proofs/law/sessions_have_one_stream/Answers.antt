use Rattle.relay_out.proofs.OneStream.{one_stream}
use Rattle.relay_out.proofs.law.sessions_have_one_stream.Goals as goal

pub returns : goal.returns
returns c = one_stream
