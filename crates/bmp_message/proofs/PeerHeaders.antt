-- From what a message of one peer means to what its bytes mean with the Per-Peer Header, and from a message that it refuses
-- to none.
use Rattle.std.proofs.Common.{◌≡◌, ℕ, ◌+◌, ◌<◌, List, [], ◌∷◌, length, take, drop, Option, Some, None, refl, sym, ap, subst, ◌∙◌, arith, length-append, length-take}
use Rattle.std.specs.Prelude.{MatchOption}
use Rattle.bmp_specs.specs.MessageBody.{MessageType}
use Rattle.bmp_specs.specs.PeerHeader.{HeaderValue, IsHeader, header_size, key_of}
use Rattle.bmp_specs.specs.Values.{EffectValue, KeyValue, passed}
use Rattle.bmp_specs.proofs.PeerHeaderCode.{header_code}
use Rattle.bmp_message.specs.Effects.{ReadsNothing}
use Rattle.bmp_message.specs.PeerMeaning.{HasPeerBy, PeerMeaning}

-- a header has 42 bytes
pub header_length : (bytes : List ℕ) (h : HeaderValue) → IsHeader bytes h → length bytes ≡ 42
header_length bytes h (a, ra, sa, pa, (b, rb, sb, pb, (c, rc, sc, pc, (d, rd, sd, pd, (e, re, se, pe, (f, rf, sf, pf, (g, rg, sg, pg, ph))))))) =
    let la : length bytes ≡ length a + length ra = ap length sa.joined ∙ length-append a ra in
    let lb : length ra ≡ length b + length rb = ap length sb.joined ∙ length-append b rb in
    let lc : length rb ≡ length c + length rc = ap length sc.joined ∙ length-append c rc in
    let ld : length rc ≡ length d + length rd = ap length sd.joined ∙ length-append d rd in
    let le : length rd ≡ length e + length re = ap length se.joined ∙ length-append e re in
    let lf : length re ≡ length f + length rf = ap length sf.joined ∙ length-append f rf in
    let lg : length rf ≡ length g + length rg = ap length sg.joined ∙ length-append g rg in
    omega (arith, pa.len, pb.len, pc.len, pd.len, pe.len, pf.len, pg.len, ph.len)

module _ (meaning : PeerMeaning) (kind : MessageType) (s : meaning.State) (body : List ℕ) where
  pub no_header : length body < header_size → ReadsNothing (HasPeerBy meaning kind s body)
  no_header short effects next p = absurd (omega (arith, header_length (take header_size body) p.header p.is, length-take header_size body))

  module _ (front rest : List ℕ) (h : HeaderValue) (f : front ≡ take header_size body) (is : IsHeader front h) where
    here : IsHeader (take header_size body) h
    here = subst (λ (l : List ℕ). IsHeader l h) f is

    -- what a message means, by the peer that its header names
    abbrev Under : List EffectValue → meaning.State → HeaderValue → List ℕ → Option KeyValue → Type 0
    Under effects next header after found = MatchOption found ((effects ≡ passed ∷ []) × (next ≡ s)) (λ key. meaning.Means kind s header key after effects next)

    module _ (r : rest ≡ drop header_size body) (key : KeyValue) (found : Some key ≡ key_of h) where
      pub with_key : (effects : List EffectValue) (next : meaning.State) → meaning.Means kind s h key rest effects next → HasPeerBy meaning kind s body effects next
      with_key effects next p = record {
        header = h;
        is = here;
        means = subst (λ (l : List ℕ). Under effects next h l (key_of h)) r (subst (λ (o : Option KeyValue). Under effects next h rest o) found p);
      }

      pub no_meaning : ReadsNothing (meaning.Means kind s h key rest) → ReadsNothing (HasPeerBy meaning kind s body)
      no_meaning not effects next p =
          let same : p.header ≡ h = (header_code.one (take header_size body) (take header_size body) [] [] p.header h p.is here refl).1 in
          let moved = subst (λ (x : HeaderValue). Under effects next x (drop header_size body) (key_of x)) same p.means in
          not effects next (subst (λ (l : List ℕ). meaning.Means kind s h key l effects next) (sym r) (subst (λ (o : Option KeyValue). Under effects next h (drop header_size body) o) (sym found) moved))

    -- of a peer type that isn't known
    pub of_unknown : None ≡ key_of h → HasPeerBy meaning kind s body (passed ∷ []) s
    of_unknown none = record { header = h; is = here; means = subst (λ (o : Option KeyValue). Under (passed ∷ []) s h (drop header_size body) o) none (refl, refl) }
