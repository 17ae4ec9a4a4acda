use Rattle.std.proofs.Common.{◌≡◌, ◌<◌, ◌^◌, rules}
use Rattle.bmp_specs.specs.Values.{KeyValue}
use Rattle.bmp_writer.proofs.Headers.{header_same, header_joined, fields}
use Rattle.bmp_writer.proofs.peer.put_peer_header.Goals as goal

pub returns-clause-front : goal.returns-clause-front
returns-clause-front c =
    let k = c.key.inside in
    let inside : KeyValue = record { kind = k.kind; distinguisher = k.distinguisher; address = k.address } in
    let same : inside ≡ c.args.key.now = c.key.view_is in
    let fits : inside.distinguisher < 2 ^ 64 = search rules in
    let joined = header_joined inside c.flags.result c.raw_address.result c.to_be_bytes.result _ _ _ _ _ c.to_be_bytes.ensures c.put-at.ensures.front c.put-at-2.ensures.front c.put-at-3.ensures.front c.put.ensures.front in
    let r = c.requires in (
      fields inside c.flags.result c.raw_address.result,
      joined,
      header_same inside c.args.key.now same c.args.view c.flags.result c.raw_address.result fits c.raw_address.ensures.size c.raw_address.ensures.same c.raw_address.ensures.octets r.kind r.family r.view c.flags.ensures,
    )
