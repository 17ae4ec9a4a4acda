-- The marks of a peer: for each view and family, whether its End-of-RIB marker came (RFC 4724, section 2).
use Rattle.std.specs.Prelude.{Bool, true, false}
use Rattle.bmp_specs.specs.declared.wire.Family.{Family}
use Rattle.bmp_specs.specs.declared.wire.Family.TheVariants.{V4, V6}
use Rattle.bmp_specs.specs.declared.peers.View.{View}
use Rattle.bmp_specs.specs.declared.peers.View.TheVariants.{InPre, InPost, OutPre, OutPost, Loc}
use Rattle.peer_book.specs.declared.marks.FamilyMarks.{FamilyMarks}
use Rattle.peer_book.specs.declared.marks.Marks.{Marks}

abbrev pub has_family : FamilyMarks → Family → Bool
has_family marks V4 = marks.v4
has_family marks V6 = marks.v6

abbrev pub with_family : FamilyMarks → Family → FamilyMarks
with_family marks V4 = record { v4 = true; v6 = marks.v6 }
with_family marks V6 = record { v4 = marks.v4; v6 = true }

abbrev pub marks_of_view : Marks → View → FamilyMarks
marks_of_view marks InPre = marks.in_pre
marks_of_view marks InPost = marks.in_post
marks_of_view marks OutPre = marks.out_pre
marks_of_view marks OutPost = marks.out_post
marks_of_view marks Loc = marks.loc

abbrev pub with_view : Marks → View → FamilyMarks → Marks
with_view marks InPre of_view = record marks { in_pre = of_view }
with_view marks InPost of_view = record marks { in_post = of_view }
with_view marks OutPre of_view = record marks { out_pre = of_view }
with_view marks OutPost of_view = record marks { out_post = of_view }
with_view marks Loc of_view = record marks { loc = of_view }

-- no mark is set
abbrev pub no_marks : Marks
no_marks =
    let none : FamilyMarks = record { v4 = false; v6 = false } in
    record { in_pre = none; in_post = none; out_pre = none; out_post = none; loc = none }

-- the mark of the view and the family is set
abbrev pub is_marked : Marks → View → Family → Bool
is_marked marks view family = has_family (marks_of_view marks view) family

-- the marks with that of the view and the family set
abbrev pub marked : Marks → View → Family → Marks
marked marks view family = with_view marks view (with_family (marks_of_view marks view) family)
