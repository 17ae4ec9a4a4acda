-- Two route lines in full: a usual one, and one in which each attribute is told.
use Rattle.std.proofs.Common.{◌≡◌, ℕ, true, false, [], ◌∷◌, ◌++◌, Some, None, codes, replicate, refl}
use Rattle.std.specs.Fmt.{digits}
use Rattle.bmp_specs.specs.declared.wire.Family.TheVariants.{V4, V6}
use Rattle.bmp_specs.specs.declared.wire.SegmentKind.TheVariants.{Set, Sequence, ConfedSequence, ConfedSet}
use Rattle.bmp_specs.specs.declared.peers.View.TheVariants.{InPre, Loc}
use Rattle.bmp_specs.specs.AddressText.{dotted, joined_groups, runs, shortened_run}
use Rattle.bmp_specs.specs.PeerText.{distinguisher_text, hex_text}
use Rattle.bmp_specs.specs.RouteLine.{route_line}
use Rattle.bmp_specs.specs.Rows.{RowValue}
use Rattle.bmp_specs.specs.Values.{AddressValue}

abbrev v4 : ℕ → ℕ → ℕ → ℕ → AddressValue
v4 a b c d = record { family = V4; octets = a ∷ b ∷ c ∷ d ∷ replicate 12 0 }

abbrev usual_row : RowValue
usual_row = record {
  row_key = record {
    key = record { kind = 0; distinguisher = 0; address = v4 192 0 2 1 };
    view = InPre;
    nlri = record { prefix = record { address = v4 10 0 0 0; bits = 8 }; id = None };
  };
  route = record {
    origin = Some 0;
    path = Some (record { kind = Sequence; numbers = 64500 ∷ [] } ∷ []);
    hop = Some (192 ∷ 0 ∷ 2 ∷ 1 ∷ []);
    med = None;
    pref = None;
    atomic = false;
    aggregator = None;
    communities = [];
    others = [];
  };
}

pub usual_route_line : route_line 0 usual_row ≡ codes "route 0 0-0000000000000000-192.0.2.1 adj-in-pre 10.0.0.0/8 next=192.0.2.1 origin=igp path=64500 med=- pref=- atomic=no agg=- comm=- other=-\n"
unfolding digits dotted distinguisher_text hex_text
usual_route_line = refl

abbrev full_row : RowValue
full_row = record {
  row_key = record {
    key = record { kind = 3; distinguisher = 1; address = v4 0 0 0 0 };
    view = Loc;
    nlri = record { prefix = record { address = record { family = V6; octets = 32 ∷ 1 ∷ 13 ∷ 184 ∷ replicate 12 0 }; bits = 32 }; id = Some 7 };
  };
  route = record {
    origin = Some 3;
    path = Some (record { kind = Sequence; numbers = 64500 ∷ 64501 ∷ [] } ∷ (record { kind = Set; numbers = 1 ∷ 2 ∷ [] } ∷ (record { kind = ConfedSequence; numbers = 3 ∷ [] } ∷ (record { kind = ConfedSet; numbers = [] } ∷ []))));
    hop = Some (32 ∷ 1 ∷ 13 ∷ 184 ∷ replicate 11 0 ++ 1 ∷ 254 ∷ 128 ∷ replicate 13 0 ++ 1 ∷ []);
    med = Some 10;
    pref = Some 100;
    atomic = true;
    aggregator = Some (record { asn = 64500; identifier = 192 ∷ 0 ∷ 2 ∷ 1 ∷ [] });
    communities = 4227072100 ∷ 65535 ∷ [];
    others = record { flags = 192; code = 16; value = [] } ∷ (record { flags = 192; code = 32; value = 0 ∷ [] } ∷ []);
  };
}

pub full_route_line : route_line 12 full_row ≡ codes "route 12 3-0000000000000001-0.0.0.0 loc 2001:db8::/32 next=2001:db8::1,fe80::1 origin=3 path=64500_64501_{1,2}_(3)_[] med=10 pref=100 atomic=yes agg=64500:192.0.2.1 comm=64500:100,0:65535 other=16,32 id=7\n"
unfolding digits dotted joined_groups runs shortened_run distinguisher_text hex_text
full_route_line = refl
