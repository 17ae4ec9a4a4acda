-- The derived order of views is that of replies.
use Rattle.std.proofs.Common.{◌≡◌, refl}
use Rattle.bmp_specs.specs.contracts.peers.ViewOrd.TheImpl as view
use Rattle.bmp_specs.specs.declared.peers.View.{View}
use Rattle.bmp_specs.specs.declared.peers.View.TheVariants.{InPre, InPost, OutPre, OutPost, Loc}
use Rattle.bmp_specs.specs.Orders.{view_cmp}

pub derived_view_is : (a b : View) → view.ghosts.cmp a b ≡ view_cmp a b
derived_view_is InPre InPre = refl
derived_view_is InPre InPost = refl
derived_view_is InPre OutPre = refl
derived_view_is InPre OutPost = refl
derived_view_is InPre Loc = refl
derived_view_is InPost InPre = refl
derived_view_is InPost InPost = refl
derived_view_is InPost OutPre = refl
derived_view_is InPost OutPost = refl
derived_view_is InPost Loc = refl
derived_view_is OutPre InPre = refl
derived_view_is OutPre InPost = refl
derived_view_is OutPre OutPre = refl
derived_view_is OutPre OutPost = refl
derived_view_is OutPre Loc = refl
derived_view_is OutPost InPre = refl
derived_view_is OutPost InPost = refl
derived_view_is OutPost OutPre = refl
derived_view_is OutPost OutPost = refl
derived_view_is OutPost Loc = refl
derived_view_is Loc InPre = refl
derived_view_is Loc InPost = refl
derived_view_is Loc OutPre = refl
derived_view_is Loc OutPost = refl
derived_view_is Loc Loc = refl
