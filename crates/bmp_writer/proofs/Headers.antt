-- The fields of a Per-Peer Header, put together, name the peer and the view.
use Rattle.std.proofs.Common.{◌≡◌, ℕ, ◌≤◌, ◌<◌, ◌^◌, ◌==◌, zero, suc, Bool, true, false, if◌then◌else◌, List, [], ◌∷◌, ◌++◌, length, replicate, Some, None, Contains, slice_index_or, bit_or, refl, sym, ap, subst, ◌∙◌, arith, leb, length-append, append_assoc}
use Rattle.byteorder.specs.Endian.{big_bytes}
use Rattle.byteorder.specs.Numbers.{big_number-reads_back}
use Rattle.bmp_specs.specs.declared.peers.View.{View}
use Rattle.bmp_specs.specs.declared.peers.View.TheVariants.{InPre, InPost, OutPre, OutPost, Loc}
use Rattle.bmp_specs.specs.declared.wire.Family.{Family}
use Rattle.bmp_specs.specs.declared.wire.Family.TheVariants.{V4, V6}
use Rattle.bmp_specs.specs.Number.{IsNumber}
use Rattle.bmp_specs.specs.Sequence.{IsField}
use Rattle.bmp_specs.specs.PeerHeader.{a_flag, is_two_byte, HeaderValue, IsHeader, IsViewOf, address_in, family_of, is_set, l_flag, loc_rib, o_flag, v_flag, view_of}
use Rattle.bmp_specs.specs.Values.{AddressValue, KeyValue}
use Rattle.bmp_writer.specs.PeerMessage.{IsHeaderOf, address_bytes, family_flag, view_flags}

abbrev pub flags_for : Bool → Family → View → ℕ
flags_for loc family view = if loc then 0 else bit_or (family_flag family) (view_flags view)

flag_family : (loc : Bool) (family : Family) (view : View) → (loc ≡ true → family ≡ V4)
    → (if loc then V4 else (if is_set v_flag (flags_for loc family view) then V6 else V4)) ≡ family
flag_family true family view v4 = sym (v4 refl)
flag_family false V4 InPre v4 = refl
flag_family false V4 InPost v4 = refl
flag_family false V4 OutPre v4 = refl
flag_family false V4 OutPost v4 = refl
flag_family false V4 Loc v4 = refl
flag_family false V6 InPre v4 = refl
flag_family false V6 InPost v4 = refl
flag_family false V6 OutPre v4 = refl
flag_family false V6 OutPost v4 = refl
flag_family false V6 Loc v4 = refl

abbrev pub four_views : List View
four_views = InPre ∷ InPost ∷ OutPre ∷ OutPost ∷ []

pub only_loc : (view : View) (k : ℕ) → k < 1 → slice_index_or (Loc ∷ []) k view ≡ view → Loc ≡ view
only_loc view zero l e = e
only_loc view (suc k) l e = absurd (omega (arith, l))

not_loc : (k : ℕ) → k < 4 → slice_index_or four_views k Loc ≡ Loc → ⊥
not_loc zero l e = absurd cc
not_loc (suc zero) l e = absurd cc
not_loc (suc (suc zero)) l e = absurd cc
not_loc (suc (suc (suc zero))) l e = absurd cc
not_loc (suc (suc (suc (suc k)))) l e = absurd (omega (arith, l))

flag_view : (loc : Bool) (family : Family) (view : View) → Contains (if loc then Loc ∷ [] else four_views) view
    → (if loc then Loc else (if is_set o_flag (flags_for loc family view) then (if is_set l_flag (flags_for loc family view) then OutPost else OutPre) else (if is_set l_flag (flags_for loc family view) then InPost else InPre))) ≡ view
flag_view true family view (k, l, e) = only_loc view k l e
flag_view false V4 InPre among = refl
flag_view false V4 InPost among = refl
flag_view false V4 OutPre among = refl
flag_view false V4 OutPost among = refl
flag_view false V4 Loc (k, l, e) = absurd (not_loc k l e)
flag_view false V6 InPre among = refl
flag_view false V6 InPost among = refl
flag_view false V6 OutPre among = refl
flag_view false V6 OutPost among = refl
flag_view false V6 Loc (k, l, e) = absurd (not_loc k l e)

flag_width : (loc : Bool) (family : Family) (view : View) → (if loc then false else is_set a_flag (flags_for loc family view)) ≡ false
flag_width true family view = refl
flag_width false V4 InPre = refl
flag_width false V4 InPost = refl
flag_width false V4 OutPre = refl
flag_width false V4 OutPost = refl
flag_width false V4 Loc = refl
flag_width false V6 InPre = refl
flag_width false V6 InPost = refl
flag_width false V6 OutPre = refl
flag_width false V6 OutPost = refl
flag_width false V6 Loc = refl

pub one_byte : (n : ℕ) → IsNumber 1 (n ∷ []) n
one_byte n = record { len = refl; value_is = omega arith }

-- the fields of the header
abbrev pub header_with : KeyValue → ℕ → List ℕ → HeaderValue
header_with key flags raw = record { kind = key.kind; flags = flags; distinguisher = key.distinguisher; address = raw; asn = 0; identifier = replicate 4 0; seconds = 0; micros = 0 }

abbrev pub fields : KeyValue → ℕ → List ℕ → List ℕ
fields key flags raw = (key.kind ∷ flags ∷ []) ++ (big_bytes 8 key.distinguisher ++ (raw ++ replicate 16 0))

is_header : (key : KeyValue) (flags : ℕ) (raw : List ℕ) → key.distinguisher < 2 ^ 64 → length raw ≡ 16 → IsHeader (fields key flags raw) (header_with key flags raw)
is_header key flags raw fits len =
    let number : IsNumber 8 (big_bytes 8 key.distinguisher) key.distinguisher = record { len = refl; value_is = big_number-reads_back 8 key.distinguisher [] fits } in
    let zeros : IsNumber 4 (replicate 4 0) 0 = record { len = refl; value_is = refl } in
    let id : IsField 4 (replicate 4 0) (replicate 4 0) = record { len = refl; value_is = refl } in (
      key.kind ∷ [],
      flags ∷ (big_bytes 8 key.distinguisher ++ (raw ++ replicate 16 0)),
      record { joined = refl },
      one_byte key.kind,
      (
        flags ∷ [],
        big_bytes 8 key.distinguisher ++ (raw ++ replicate 16 0),
        record { joined = refl },
        one_byte flags,
        (
          big_bytes 8 key.distinguisher,
          raw ++ replicate 16 0,
          record { joined = refl },
          number,
          (
            raw,
            replicate 16 0,
            record { joined = refl },
            record { len = len; value_is = refl },
            (
              replicate 4 0,
              replicate 12 0,
              record { joined = refl },
              zeros,
              (replicate 4 0, replicate 8 0, record { joined = refl }, id, (replicate 4 0, replicate 4 0, record { joined = refl }, zeros, zeros)),
            ),
          ),
        ),
      ),
    )

pub header_written : (key : KeyValue) (view : View) (flags : ℕ) (raw : List ℕ) → key.distinguisher < 2 ^ 64 → length raw ≡ 16 → address_in key.address.family raw ≡ key.address → raw ≡ address_bytes key.address
    → key.kind ≤ loc_rib → (key.kind ≡ loc_rib → key.address.family ≡ V4) → IsViewOf key view → flags ≡ flags_for (key.kind == loc_rib) key.address.family view
    → IsHeaderOf key view (fields key flags raw)
header_written key view flags raw fits len address octets kind v4 among f =
    let h = header_with key flags raw in
    let known : leb key.kind loc_rib ≡ true = grind (arith, kind) in
    let loc : (key.kind == loc_rib) ≡ true → key.address.family ≡ V4 = λ e. let three : key.kind ≡ loc_rib = grind (arith, e) in v4 three in
    let family : family_of h ≡ key.address.family = subst (λ (g : ℕ). (if key.kind == loc_rib then V4 else (if is_set v_flag g then V6 else V4)) ≡ key.address.family) (sym f) (flag_family (key.kind == loc_rib) key.address.family view loc) in
    let seen : view_of h ≡ view = subst (λ (g : ℕ). (if key.kind == loc_rib then Loc else (if is_set o_flag g then (if is_set l_flag g then OutPost else OutPre) else (if is_set l_flag g then InPost else InPre))) ≡ view) (sym f) (flag_view (key.kind == loc_rib) key.address.family view among) in
    let width : is_two_byte h ≡ false = subst (λ (g : ℕ). (if key.kind == loc_rib then false else is_set a_flag g) ≡ false) (sym f) (flag_width (key.kind == loc_rib) key.address.family view) in
    let at : address_in (family_of h) raw ≡ key.address = ap (λ (g : Family). address_in g raw) family ∙ address in
    let make : AddressValue → KeyValue = λ a. record { kind = key.kind; distinguisher = key.distinguisher; address = a } in
    record {
      header = h;
      is = is_header key flags raw fits len;
      len = omega (arith, length-append raw (replicate 16 0), len);
      key_is = ap (λ (b : Bool). if b then Some (make (address_in (family_of h) raw)) else None) known ∙ ap (λ (a : AddressValue). Some (make a)) at;
      view_is = seen;
      flags_are = f;
      address_is = octets;
      plain = record { four_byte = width; no_asn = refl; no_identifier = refl; no_seconds = refl; no_micros = refl };
    }

-- five pieces, one behind another
five : (t a b c d : List ℕ) → (((t ++ a) ++ b) ++ c) ++ d ≡ t ++ (a ++ (b ++ (c ++ d)))
five t a b c d = append_assoc ((t ++ a) ++ b) c d ∙ append_assoc (t ++ a) b (c ++ d) ∙ append_assoc t a (b ++ (c ++ d))

pub header_joined : (key : KeyValue) (flags : ℕ) (raw number t t1 t2 t3 t4 : List ℕ) → number ≡ big_bytes 8 key.distinguisher
    → t1 ≡ t ++ key.kind ∷ flags ∷ [] → t2 ≡ t1 ++ number → t3 ≡ t2 ++ raw → t4 ≡ t3 ++ replicate 16 0 → t4 ≡ t ++ fields key flags raw
header_joined key flags raw number t t1 t2 t3 t4 n e1 e2 e3 e4 =
    e4 ∙ ap (λ (l : List ℕ). l ++ replicate 16 0) (e3 ∙ ap (λ (l : List ℕ). l ++ raw) (e2 ∙ ap (λ (l : List ℕ). l ++ number) e1))
    ∙ ap (λ (b : List ℕ). (((t ++ key.kind ∷ flags ∷ []) ++ b) ++ raw) ++ replicate 16 0) n ∙ five t (key.kind ∷ flags ∷ []) (big_bytes 8 key.distinguisher) raw (replicate 16 0)

-- the same for a key as its fields are
pub header_same : (inside key : KeyValue) → inside ≡ key → (view : View) (flags : ℕ) (raw : List ℕ) → inside.distinguisher < 2 ^ 64 → length raw ≡ 16 → address_in inside.address.family raw ≡ inside.address → raw ≡ address_bytes inside.address
    → key.kind ≤ loc_rib → (key.kind ≡ loc_rib → key.address.family ≡ V4) → IsViewOf key view → flags ≡ flags_for (key.kind == loc_rib) key.address.family view
    → IsHeaderOf key view (fields inside flags raw)
header_same inside key same view flags raw fits len address octets kind v4 among f =
    subst (λ (k : KeyValue). k.distinguisher < 2 ^ 64 → address_in k.address.family raw ≡ k.address → raw ≡ address_bytes k.address → IsHeaderOf key view (fields k flags raw)) (sym same)
    (λ fits address octets. header_written key view flags raw fits len address octets kind v4 among f) fits address octets
