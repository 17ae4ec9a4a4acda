-- The reading state that a map of peers is, and how an insert and a removal change it.
use Rattle.std.proofs.Common.{◌≡◌, Bool, true, false, cond, List, [], ◌∷◌, map, Option, Some, None, refl, sym, ap, ◌∙◌}
use Rattle.std.specs.Arc.{arc_value}
use Rattle.std.specs.BTreeMap.{is_at}
use Rattle.std.specs.Map.{lookup}
use Rattle.std.specs.Option.{is_some, option_map}
use Rattle.std.specs.Ordering.{eq_by_cmp, is_eq, ordering_reverse}
use Rattle.std.specs.declared.alloc.Global.{Global}
use Rattle.std.specs.declared.cmp.Ordering.{Ordering}
use Rattle.std.specs.declared.cmp.Ordering.TheVariants.{Less, Equal, Greater}
use Rattle.std.specs.declared.sync.Arc.{Arc}
use Rattle.bmp_specs.specs.MessageBody.{with_peer}
use Rattle.bmp_specs.specs.Orders.{key_cmp}
use Rattle.bmp_specs.specs.Values.{KeyValue, OpensValue, PeerInfoValue}
use Rattle.bmp_specs.proofs.OrderLaws.{key_total}
use Rattle.bmp_message.specs.State.{opens_of, reading_state, up_peers}

-- what is kept of a peer
abbrev pub Kept : Type 0
Kept = Arc PeerInfoValue Global

-- the OPEN messages of what is kept
abbrev pub opens_in : Option Kept → Option OpensValue
opens_in found = option_map (λ a. opens_of (arc_value a)) found

found_first : {A B : Type 0} (f : A → B) (first : Bool) (x : A) (y : Option A) (z : Option B) → z ≡ option_map f y → cond first (Some (f x)) z ≡ option_map f (cond first (Some x) y)
found_first f true x y z e = refl
found_first f false x y z e = e

-- a look-up finds what it found before each value was changed
looked_up : {K A B : Type 0} (f : A → B) (test : K → Bool) (es : List (K × A)) → lookup test (map (λ e. (e.0, f e.1)) es) ≡ option_map f (lookup test es)
looked_up f test [] = refl
looked_up {K} {A} {B} f test (e ∷ es) = found_first f (test e.0) e.1 (lookup test es) (lookup test (map (λ (d : K × A). (d.0, f d.1)) es)) (looked_up f test es)

-- what the state says of a key is what the map has there
pub state_at : (es : List (KeyValue × Kept)) (key : KeyValue) → reading_state (up_peers es) key ≡ opens_in (lookup (is_at (key_cmp key)) es)
state_at es key = looked_up (λ (a : Kept). opens_of (arc_value a)) (is_at (key_cmp key)) es

kept_some : (found : Option Kept) → is_some found ≡ is_some (opens_in found)
kept_some None = refl
kept_some (Some kept) = refl

-- whether the map has the key is whether the peer is up
pub up_at : (es : List (KeyValue × Kept)) (key : KeyValue) → is_some (lookup (is_at (key_cmp key)) es) ≡ is_some (reading_state (up_peers es) key)
up_at es key = kept_some (lookup (is_at (key_cmp key)) es) ∙ ap (λ (o : Option OpensValue). is_some o) (sym (state_at es key))

-- what was found at a key
pub found_at : (es : List (KeyValue × Kept)) (key : KeyValue) (found : Option Kept) → found ≡ lookup (is_at (key_cmp key)) es → reading_state (up_peers es) key ≡ opens_in found
found_at es key found e = state_at es key ∙ ap opens_in (sym e)

turned : (o : Ordering) → is_eq (ordering_reverse o) ≡ is_eq o
turned Less = refl
turned Equal = refl
turned Greater = refl

-- two keys tie in either order
pub tied : (a b : KeyValue) → is_eq (key_cmp a b) ≡ is_eq (key_cmp b a)
tied a b = ap is_eq (key_total.antisymm a b) ∙ turned (key_cmp b a)

chosen : (b c : Bool) (w x : Option Kept) → b ≡ c → opens_in (cond b w x) ≡ cond c (opens_in w) (opens_in x)
chosen b true w x e = ap (λ (d : Bool). opens_in (cond d w x)) e
chosen b false w x e = ap (λ (d : Bool). opens_in (cond d w x)) e

changed_at : (old new : List (KeyValue × Kept)) (key : KeyValue) (w : Option Kept)
    → ((q : KeyValue) → lookup (is_at (key_cmp q)) new ≡ cond (is_at (key_cmp key) q) w (lookup (is_at (key_cmp q)) old))
    → (q : KeyValue) → reading_state (up_peers new) q ≡ with_peer (reading_state (up_peers old)) key (opens_in w) q
changed_at old new key w each q =
    state_at new q ∙ ap opens_in (each q) ∙ chosen (is_at (key_cmp key) q) (eq_by_cmp key_cmp q key) w (lookup (is_at (key_cmp q)) old) (tied key q)
    ∙ ap (λ (o : Option OpensValue). cond (eq_by_cmp key_cmp q key) (opens_in w) o) (sym (state_at old q))

-- where the map changes at one key alone, so does the state
pub state_after : (old new : List (KeyValue × Kept)) (key : KeyValue) (w : Option Kept)
    → ((q : KeyValue) → lookup (is_at (key_cmp q)) new ≡ cond (is_at (key_cmp key) q) w (lookup (is_at (key_cmp q)) old))
    → reading_state (up_peers new) ≡ with_peer (reading_state (up_peers old)) key (opens_in w)
state_after old new key w each = λ i q. changed_at old new key w each q i
