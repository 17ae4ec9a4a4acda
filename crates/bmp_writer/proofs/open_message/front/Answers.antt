use Rattle.std.proofs.Common.{rules, ◌≡◌, length}
use Rattle.bmp_writer.proofs.OpenRead.{front_joined}
use Rattle.bmp_writer.proofs.open_message.front.Goals as goal

pub returns-clause-bytes : goal.returns-clause-bytes
returns-clause-bytes c =
    let four : length c.args.identifier ≡ 4 = search rules in
    front_joined c.args.version c.args.my_as c.args.hold c.args.parameters c.args.identifier c.to_be_bytes.result c.to_be_bytes-2.result c.to_be_bytes-3.result four c.to_be_bytes.ensures c.to_be_bytes-2.ensures c.to_be_bytes-3.ensures
