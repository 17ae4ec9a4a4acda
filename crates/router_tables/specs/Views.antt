-- The tables of one peer: one for each RIB in which its routes are seen, none where it has no row.
use Rattle.std.specs.Prelude.{List, Option, None}
use Rattle.bmp_specs.specs.declared.peers.View.{View}
use Rattle.bmp_specs.specs.declared.peers.View.TheVariants.{InPre, InPost, OutPre, OutPost, Loc}
use Rattle.bmp_specs.specs.Values.{NlriValue, AttrsValue}

-- the NLRI that have a route, each with its path attributes, in the order of NLRI
abbrev pub Table : Type 0
Table = List (NlriValue × AttrsValue)

pub record ViewsValue : Type 0 where
  pub in_pre : Option Table
  pub in_post : Option Table
  pub out_pre : Option Table
  pub out_post : Option Table
  pub loc : Option Table

-- the table of a view
abbrev pub view_table : View → ViewsValue → Option Table
view_table InPre views = views.in_pre
view_table InPost views = views.in_post
view_table OutPre views = views.out_pre
view_table OutPost views = views.out_post
view_table Loc views = views.loc

-- of a peer without rows
abbrev pub no_tables : ViewsValue
no_tables = record { in_pre = None; in_post = None; out_pre = None; out_post = None; loc = None }
