-- The registries that the station knows: for each code the shape of its value, and the name that replies have for it.
use Rattle.std.specs.Prelude.{◌≡◌, ℕ, ◌%◌, ◌==◌, List, [], ◌∷◌, Option, find, codes}
use Rattle.bmp_specs.specs.declared.registry.Shape.{Shape}
use Rattle.bmp_specs.specs.declared.registry.Shape.TheVariants.{Counter32, Gauge64, FamilyGauge64, Exact, Multiple, Free}

-- a code of a registry, the shape of its value, and its name
pub record CodeRowValue : Type 0 where
  pub code : ℕ
  pub shape : Shape
  pub name : List ℕ

abbrev pub row : ℕ → Shape → List ℕ → CodeRowValue
row code shape name = record { code = code; shape = shape; name = name }

-- the first row with the code
abbrev pub first_row : ℕ → List CodeRowValue → Option CodeRowValue
first_row code rows = find (λ r. r.code == code) rows

-- a value of so many bytes has the shape
abbrev pub FitsShape : Shape → ℕ → Type 0
FitsShape Counter32 bytes = bytes ≡ 4
FitsShape Gauge64 bytes = bytes ≡ 8
FitsShape FamilyGauge64 bytes = bytes ≡ 11
FitsShape (Exact count) bytes = bytes ≡ count
FitsShape (Multiple count) bytes = bytes % count ≡ 0
FitsShape Free bytes = Unit {0}

-- BMP message types (RFC 7854, sections 4.1 and 10.1)
abbrev pub message_types : List CodeRowValue
message_types =
    row 0 Free (codes "route-monitoring")
    ∷ (row 1 Free (codes "statistics-report")
    ∷ (row 2 Free (codes "peer-down")
    ∷ (row 3 Free (codes "peer-up")
    ∷ (row 4 Free (codes "initiation")
    ∷ (row 5 Free (codes "termination")
    ∷ (row 6 Free (codes "route-mirroring")
    ∷ []))))))

-- Peer Down reason codes (RFC 7854, section 4.9; for 6 RFC 9069, section 5.3)
abbrev pub peer_down_reasons : List CodeRowValue
peer_down_reasons =
    row 1 Free (codes "local-notification")
    ∷ (row 2 Free (codes "local-event")
    ∷ (row 3 Free (codes "remote-notification")
    ∷ (row 4 Free (codes "remote-silent")
    ∷ (row 5 Free (codes "unmonitored")
    ∷ (row 6 Free (codes "local-closed")
    ∷ [])))))

-- BMP statistics types (RFC 7854, section 4.8; from 14 on RFC 8671, section 6.2)
abbrev pub statistics_types : List CodeRowValue
statistics_types =
    row 0 Counter32 (codes "rejected-by-policy")
    ∷ (row 1 Counter32 (codes "duplicate-announcements")
    ∷ (row 2 Counter32 (codes "duplicate-withdrawals")
    ∷ (row 3 Counter32 (codes "cluster-list-loop")
    ∷ (row 4 Counter32 (codes "as-path-loop")
    ∷ (row 5 Counter32 (codes "originator-id-loop")
    ∷ (row 6 Counter32 (codes "confed-loop")
    ∷ (row 7 Gauge64 (codes "adj-rib-in")
    ∷ (row 8 Gauge64 (codes "loc-rib")
    ∷ (row 9 FamilyGauge64 (codes "adj-rib-in-family")
    ∷ (row 10 FamilyGauge64 (codes "loc-rib-family")
    ∷ (row 11 Counter32 (codes "updates-as-withdraw")
    ∷ (row 12 Counter32 (codes "prefixes-as-withdraw")
    ∷ (row 13 Counter32 (codes "duplicate-updates")
    ∷ (row 14 Gauge64 (codes "adj-rib-out-pre")
    ∷ (row 15 Gauge64 (codes "adj-rib-out-post")
    ∷ (row 16 FamilyGauge64 (codes "adj-rib-out-pre-family")
    ∷ (row 17 FamilyGauge64 (codes "adj-rib-out-post-family")
    ∷ [])))))))))))))))))

-- path attribute type codes (RFC 4271, section 5, to 7; RFC 1997 for 8; RFC 4760, sections 3 and 4, for 14 and 15; RFC 6793,
-- section 3, for 17 and 18)
abbrev pub attribute_types : List CodeRowValue
attribute_types =
    row 1 (Exact 1) (codes "origin")
    ∷ (row 2 Free (codes "as-path")
    ∷ (row 3 (Exact 4) (codes "next-hop")
    ∷ (row 4 (Exact 4) (codes "multi-exit-disc")
    ∷ (row 5 (Exact 4) (codes "local-pref")
    ∷ (row 6 (Exact 0) (codes "atomic-aggregate")
    ∷ (row 7 Free (codes "aggregator")
    ∷ (row 8 (Multiple 4) (codes "communities")
    ∷ (row 14 Free (codes "mp-reach-nlri")
    ∷ (row 15 Free (codes "mp-unreach-nlri")
    ∷ (row 17 Free (codes "as4-path")
    ∷ (row 18 Free (codes "as4-aggregator")
    ∷ [])))))))))))

-- Information TLV types (RFC 7854, section 4.4; for 3 RFC 9069, section 5.2.1)
abbrev pub information_types : List CodeRowValue
information_types =
    row 0 Free (codes "string")
    ∷ (row 1 Free (codes "sysdescr")
    ∷ (row 2 Free (codes "sysname")
    ∷ (row 3 Free (codes "table-name")
    ∷ [])))

-- capability codes (RFC 4760, section 8; RFC 6793, section 3; RFC 7911, section 4)
abbrev pub capability_codes : List CodeRowValue
capability_codes =
    row 1 (Exact 4) (codes "multiprotocol")
    ∷ (row 65 (Exact 4) (codes "four-byte-as")
    ∷ (row 69 (Multiple 4) (codes "add-path")
    ∷ []))
