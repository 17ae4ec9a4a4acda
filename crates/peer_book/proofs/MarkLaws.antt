-- The marks of a peer, after one is set.
use Rattle.std.proofs.Common.{◌≡◌, true, false, refl, ap, ◌∙◌}
use Rattle.bmp_specs.specs.declared.wire.Family.{Family}
use Rattle.bmp_specs.specs.declared.wire.Family.TheVariants.{V4, V6}
use Rattle.bmp_specs.specs.declared.peers.View.{View}
use Rattle.bmp_specs.specs.declared.peers.View.TheVariants.{InPre, InPost, OutPre, OutPost, Loc}
use Rattle.peer_book.specs.declared.marks.FamilyMarks.{FamilyMarks}
use Rattle.peer_book.specs.declared.marks.Marks.{Marks}
use Rattle.peer_book.specs.Marks.{has_family, with_family, marks_of_view, with_view, no_marks, is_marked, marked}

pub none_marked : (view : View) (family : Family) → is_marked no_marks view family ≡ false
none_marked InPre V4 = refl
none_marked InPre V6 = refl
none_marked InPost V4 = refl
none_marked InPost V6 = refl
none_marked OutPre V4 = refl
none_marked OutPre V6 = refl
none_marked OutPost V4 = refl
none_marked OutPost V6 = refl
none_marked Loc V4 = refl
none_marked Loc V6 = refl

family_here : (m : FamilyMarks) (family : Family) → has_family (with_family m family) family ≡ true
family_here m V4 = refl
family_here m V6 = refl

family_elsewhere : (m : FamilyMarks) (family other : Family) → ¬ (other ≡ family) → has_family (with_family m family) other ≡ has_family m other
family_elsewhere m V4 V4 apart = absurd (apart refl)
family_elsewhere m V4 V6 apart = refl
family_elsewhere m V6 V4 apart = refl
family_elsewhere m V6 V6 apart = absurd (apart refl)

view_here : (m : Marks) (view : View) (of_view : FamilyMarks) → marks_of_view (with_view m view of_view) view ≡ of_view
view_here m InPre of_view = refl
view_here m InPost of_view = refl
view_here m OutPre of_view = refl
view_here m OutPost of_view = refl
view_here m Loc of_view = refl

view_elsewhere : (m : Marks) (view other : View) (of_view : FamilyMarks) → ¬ (other ≡ view) → marks_of_view (with_view m view of_view) other ≡ marks_of_view m other
view_elsewhere m InPre InPre of_view apart = absurd (apart refl)
view_elsewhere m InPre InPost of_view apart = refl
view_elsewhere m InPre OutPre of_view apart = refl
view_elsewhere m InPre OutPost of_view apart = refl
view_elsewhere m InPre Loc of_view apart = refl
view_elsewhere m InPost InPre of_view apart = refl
view_elsewhere m InPost InPost of_view apart = absurd (apart refl)
view_elsewhere m InPost OutPre of_view apart = refl
view_elsewhere m InPost OutPost of_view apart = refl
view_elsewhere m InPost Loc of_view apart = refl
view_elsewhere m OutPre InPre of_view apart = refl
view_elsewhere m OutPre InPost of_view apart = refl
view_elsewhere m OutPre OutPre of_view apart = absurd (apart refl)
view_elsewhere m OutPre OutPost of_view apart = refl
view_elsewhere m OutPre Loc of_view apart = refl
view_elsewhere m OutPost InPre of_view apart = refl
view_elsewhere m OutPost InPost of_view apart = refl
view_elsewhere m OutPost OutPre of_view apart = refl
view_elsewhere m OutPost OutPost of_view apart = absurd (apart refl)
view_elsewhere m OutPost Loc of_view apart = refl
view_elsewhere m Loc InPre of_view apart = refl
view_elsewhere m Loc InPost of_view apart = refl
view_elsewhere m Loc OutPre of_view apart = refl
view_elsewhere m Loc OutPost of_view apart = refl
view_elsewhere m Loc Loc of_view apart = absurd (apart refl)

pub marked_here : (m : Marks) (view : View) (family : Family) → is_marked (marked m view family) view family ≡ true
marked_here m view family =
    let of_view : FamilyMarks = with_family (marks_of_view m view) family in
    ap (λ (f : FamilyMarks). has_family f family) (view_here m view of_view) ∙ family_here (marks_of_view m view) family

-- in another view
pub marked_other_view : (m : Marks) (view other : View) (family f : Family) → ¬ (other ≡ view) → is_marked (marked m view family) other f ≡ is_marked m other f
marked_other_view m view other family f apart = ap (λ (g : FamilyMarks). has_family g f) (view_elsewhere m view other (with_family (marks_of_view m view) family) apart)

-- in the same view, of the other family
pub marked_other_family : (m : Marks) (view : View) (family f : Family) → ¬ (f ≡ family) → is_marked (marked m view family) view f ≡ is_marked m view f
marked_other_family m view family f apart =
    let of_view : FamilyMarks = with_family (marks_of_view m view) family in
    ap (λ (g : FamilyMarks). has_family g f) (view_here m view of_view) ∙ family_elsewhere (marks_of_view m view) family f apart
