use Rattle.std.proofs.Common.{ℕ, List, ap, ◌∙◌, arith, not}
use Rattle.std.specs.Prelude.{count_by}
use Rattle.std.proofs.lemmas.List.{take_rest}
use Rattle.std.proofs.lemmas.Result.{err_from_is_err_and}
use Rattle.byteorder.specs.Endian.{big_number}
use Rattle.bmp_specs.specs.PeerHeader.{HeaderValue}
use Rattle.peer_events.specs.declared.tlvs.Carrier.{Carrier}
use Rattle.peer_events.specs.Known.{is_known_in}
use Rattle.peer_events.proofs.PeerUpReading.{known_by, same_error}
use Rattle.peer_events.proofs.peer_up.read_peer_up.Goals as goal

pub returns-in_err-openings-clause-broken : goal.returns-in_err-openings-clause-broken
returns-in_err-openings-clause-broken c =
    let p = err_from_is_err_and c.from_residual.result c.from_residual.ensures.1 in
    rw (p.1, p.2) (λ broken. c.in_err-openings.ensures.broken (same_error _ _ broken) c.args.head.now)

pub returns-clause-ok : goal.returns-clause-ok
returns-clause-ok c =
    let rest = c.args.rest.now in
    let (ts, are, parts) = c.in_ok-openings.ensures.parts in
    let places = ap (λ (m : Carrier). count_by (λ t. not (is_known_in m t)) ts) c.carrier_of.ensures in
    record {
      header = omega arith;
      local_is = c.local_address.ensures;
      local_port_is = c.read_u16.ensures ∙ ap (λ (l : List ℕ). big_number 2 l) (take_rest rest 16);
      remote_port_is = c.read_u16-2.ensures ∙ ap (λ (l : List ℕ). big_number 2 l) (take_rest rest 18);
      tlvs = ts;
      parts = parts;
      asn_is = ap (λ (h : HeaderValue). h.asn) c.head.view_is;
      identifier_is = ap (λ (h : HeaderValue). h.identifier) c.head.view_is;
      filtered_is = c.is_filtered.ensures;
      table_is = c.in_ok-table.ensures ts are;
      unread_is = c.count_unread.ensures ts are ∙ places ∙ known_by c.args.head.now ts;
    }
