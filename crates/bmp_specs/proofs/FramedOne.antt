-- An UPDATE message has one frame at most, and one that has a value has a frame.
use Rattle.std.proofs.Common.{◌≡◌, ℕ, Bool, true, false, cond, List, [], ◌∷◌, filter, map, refl, ap, subst}
use Rattle.std.specs.Prelude.{◌==◌}
use Rattle.std.specs.List.{AllByRecursion, IsDistinct}
use Rattle.bmp_specs.specs.declared.wire.IdUse.{IdUse}
use Rattle.bmp_specs.specs.declared.wire.Width.{Width}
use Rattle.bmp_specs.specs.Attribute.{IsAttribute}
use Rattle.bmp_specs.specs.Attributes.{mp_reach_nlri, mp_unreach_nlri, value_of}
use Rattle.bmp_specs.specs.FramedUpdate.{FramedValue, IsFramed, is_multiprotocol}
use Rattle.bmp_specs.specs.MpNlri.{IsMpReach, IsMpUnreach}
use Rattle.bmp_specs.specs.Parts.{AreParts}
use Rattle.bmp_specs.specs.Update.{IsUpdate}
use Rattle.bmp_specs.specs.Values.{OtherValue, UpdateValue}
use Rattle.bmp_specs.proofs.AttributesOne.{attribute_code, reach_one, unreach_one}
use Rattle.bmp_specs.proofs.PartsRead.{AreParts-one}
use Rattle.bmp_specs.proofs.ThenOne.{IsOne, Optional-one}
use Rattle.bmp_specs.proofs.UpdateOne.{UpdateFields, fields_one}

pub IsFramed-one : IsOne IsFramed
IsFramed-one body f g p q =
    let fields = fields_one body (f.withdrawn_routes, (f.path_attributes, f.nlri)) (g.withdrawn_routes, (g.path_attributes, g.nlri)) p.fields q.fields in
    let withdrawn : f.withdrawn_routes ≡ g.withdrawn_routes = ap (λ (x : UpdateFields). x.0) fields in
    let attributes : f.path_attributes ≡ g.path_attributes = ap (λ (x : UpdateFields). x.1.0) fields in
    let nlri : f.nlri ≡ g.nlri = ap (λ (x : UpdateFields). x.1.1) fields in
    let same : p.parts ≡ q.parts = AreParts-one IsAttribute attribute_code g.path_attributes p.parts q.parts (subst (λ (l : List ℕ). AreParts IsAttribute l p.parts) attributes p.are) q.are in
    let found : (code : ℕ) → value_of code p.parts ≡ value_of code q.parts = λ code. ap (λ (l : List OtherValue). value_of code l) same in
    let reach = Optional-one IsMpReach reach_one (value_of mp_reach_nlri q.parts) f.reach g.reach (rw (found mp_reach_nlri) at p.reach_is) q.reach_is in
    let unreach = Optional-one IsMpUnreach unreach_one (value_of mp_unreach_nlri q.parts) f.unreach g.unreach (rw (found mp_unreach_nlri) at p.unreach_is) q.unreach_is in
    λ i. record { withdrawn_routes = withdrawn i; path_attributes = attributes i; nlri = nlri i; reach = reach i; unreach = unreach i }

-- of codes that are distinct those that pass a test are
module _ (same : ℕ → ℕ → Bool) (test : ℕ → Bool) where
  apart_at : (b : Bool) (P : ℕ → Type 0) (j : ℕ) (ks : List ℕ) → P j → AllByRecursion P ks → AllByRecursion P (cond b (j ∷ ks) ks)
  apart_at true P j ks p a = (p, a)
  apart_at false P j ks p a = a

  apart : (P : ℕ → Type 0) (ks : List ℕ) → AllByRecursion P ks → AllByRecursion P (filter test ks)
  apart P [] a = tt
  apart P (k ∷ ks) a = apart_at (test k) P k (filter test ks) a.0 (apart P ks a.1)

  distinct_at : (b : Bool) (k : ℕ) (ks : List ℕ) → AllByRecursion (λ j. same k j ≡ false) ks → IsDistinct same ks → IsDistinct same (cond b (k ∷ ks) ks)
  unfolding IsDistinct
  distinct_at true k ks a d = (a, d)
  distinct_at false k ks a d = d

  pub distinct_filter : (ks : List ℕ) → IsDistinct same ks → IsDistinct same (filter test ks)
  unfolding IsDistinct
  distinct_filter [] d = tt
  distinct_filter (k ∷ ks) d = distinct_at (test k) k (filter test ks) (apart (λ j. same k j ≡ false) ks d.0) (distinct_filter ks d.1)

-- the frame of an UPDATE message
abbrev pub frame_of : (width : Width) (ids : IdUse) (body : List ℕ) (u : UpdateValue) → IsUpdate width ids body u → FramedValue
frame_of width ids body u p = record { withdrawn_routes = p.withdrawn_routes; path_attributes = p.path_attributes; nlri = p.nlri; reach = p.read.reach; unreach = p.read.unreach }

pub is_framed : (width : Width) (ids : IdUse) (body : List ℕ) (u : UpdateValue) (p : IsUpdate width ids body u) → IsFramed body (frame_of width ids body u p)
is_framed width ids body u p = record {
  fields = p.fields;
  parts = p.attributes.parts;
  are = p.attributes.are;
  distinct = distinct_filter (λ j k. j == k) is_multiprotocol (map (λ (a : OtherValue). a.code) p.attributes.parts) p.attributes.distinct;
  reach_is = p.attributes.reach_is;
  unreach_is = p.attributes.unreach_is;
}
