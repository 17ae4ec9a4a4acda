-- The body of an UPDATE message that is read in the forms that are taken.
use Rattle.std.specs.Prelude.{ℕ, ◌≡◌, false, not, ◌&&◌, ◌⊎◌, List}
use Rattle.bmp_specs.specs.declared.wire.Family.TheVariants.{V4, V6}
use Rattle.bmp_specs.specs.FramedUpdate.{FitsFamily, FramedValue, IsFramed}
use Rattle.bmp_specs.specs.LenientBody.{IsMalformed, IsReadInForms}
use Rattle.bmp_specs.specs.MessageBody.{id_use, width_of}
use Rattle.bmp_specs.specs.PeerHeader.{HeaderValue}
use Rattle.bmp_specs.specs.Update.{IsUpdate}
use Rattle.bmp_specs.specs.UpdateForms.{FormsValue, Takes, departs, ids_in}
use Rattle.bmp_specs.specs.Values.{OpensValue, UpdateValue}

-- what `IsLenientUpdate` says of the body of the message
pub record IsBodyInForms (opens : OpensValue) (h : HeaderValue) (body : List ℕ) (last taken : FormsValue) (u : UpdateValue) : Type 0 where
  pub framed : FramedValue
  pub frames : IsFramed body framed
  pub v4 : Takes (λ bare. FitsFamily framed V4 (not bare && (id_use opens h).v4)) last.bare_v4 taken.bare_v4
  pub v6 : Takes (λ bare. FitsFamily framed V6 (not bare && (id_use opens h).v6)) last.bare_v6 taken.bare_v6
  pub routes : IsReadInForms opens h body framed last taken u ⊎ IsMalformed opens h framed last taken u

-- it has a value in the last forms, and these have no AS numbers of two octets where the header says four
pub record IsReadAsLast (opens : OpensValue) (h : HeaderValue) (body : List ℕ) (last : FormsValue) (u : UpdateValue) : Type 0 where
  pub stays : departs opens h last.two_octets ≡ false
  pub is : IsUpdate (width_of h) (ids_in last (id_use opens h)) body u
