-- The state that the known peers are, and how a message changes it.
use Rattle.std.proofs.Common.{◌≡◌, eqb, Bool, true, false, cond, ◌&&◌, Option, Some, None, refl, sym, ap, ◌∙◌}
use Rattle.std.specs.BTreeMap.{is_at}
use Rattle.std.specs.Ordering.{eq_by_cmp}
use Rattle.bmp_specs.specs.declared.peers.View.{View}
use Rattle.bmp_specs.specs.declared.peers.View.TheVariants.{InPre, InPost, OutPre, OutPost, Loc}
use Rattle.bmp_specs.specs.LenientState.{LenientState, with_shown, with_told}
use Rattle.bmp_specs.specs.Orders.{key_cmp, view_cmp}
use Rattle.bmp_specs.specs.PeerHeader.{loc_rib}
use Rattle.bmp_specs.specs.UpdateForms.{FormsValue, as_agreed}
use Rattle.bmp_specs.specs.Values.{KeyValue, OpensValue}
use Rattle.bmp_specs.proofs.LenientAgrees.{same_key_by}
use Rattle.bmp_message.specs.Lenient.{KnownPeers, ShownValue, UpPeerValue, forms_at, known_at, lenient_state, nothing_shown, opens_known, shown_known, told_known, with_forms, with_shown_in}
use Rattle.bmp_message.proofs.Peers.{tied}

-- what is kept of a peer, where something is
abbrev pub Kept : Type 0
Kept = Option (Option UpPeerValue)

-- the state with this kept of one key
abbrev pub changed : LenientState → KeyValue → Kept → LenientState
changed s key w = record {
  opens = λ q. cond (eq_by_cmp key_cmp q key) (opens_known w) (s.opens q);
  told = λ q. cond (eq_by_cmp key_cmp q key) (told_known w) (s.told q);
  shown = λ q view. cond (eq_by_cmp key_cmp q key) (shown_known w view) (s.shown q view);
}

choice : {X Y : Type 0} (f : X → Y) (b c : Bool) (w x : X) → b ≡ c → f (cond b w x) ≡ cond c (f w) (f x)
choice f b true w x e = ap (λ (d : Bool). f (cond d w x)) e
choice f b false w x e = ap (λ (d : Bool). f (cond d w x)) e

-- where the map changes at one key alone, so does the state
pub state_changed : (old new : KnownPeers) (key : KeyValue) (w : Kept) → ((q : KeyValue) → known_at new q ≡ cond (is_at (key_cmp key) q) w (known_at old q))
    → lenient_state new ≡ changed (lenient_state old) key w
state_changed old new key w each = λ i. record { opens = λ q. opens_at q i; told = λ q. told_at q i; shown = λ q view. shown_at q view i }
  where
    opens_at : (q : KeyValue) → opens_known (known_at new q) ≡ cond (eq_by_cmp key_cmp q key) (opens_known w) (opens_known (known_at old q))
    opens_at q = ap opens_known (each q) ∙ choice opens_known (is_at (key_cmp key) q) (eq_by_cmp key_cmp q key) w (known_at old q) (tied key q)

    told_at : (q : KeyValue) → told_known (known_at new q) ≡ cond (eq_by_cmp key_cmp q key) (told_known w) (told_known (known_at old q))
    told_at q = ap told_known (each q) ∙ choice told_known (is_at (key_cmp key) q) (eq_by_cmp key_cmp q key) w (known_at old q) (tied key q)

    shown_at : (q : KeyValue) (view : View) → shown_known (known_at new q) view ≡ cond (eq_by_cmp key_cmp q key) (shown_known w view) (shown_known (known_at old q) view)
    shown_at q view = ap (λ (k : Kept). shown_known k view) (each q) ∙ choice (λ (k : Kept). shown_known k view) (is_at (key_cmp key) q) (eq_by_cmp key_cmp q key) w (known_at old q) (tied key q)

module _ (s : LenientState) (key : KeyValue) (w : Kept) where
  -- a Peer Up or a Peer Down
  pub told_changed : (opens : Option OpensValue) → opens_known w ≡ opens → told_known w ≡ eqb key.kind loc_rib → ((view : View) → shown_known w view ≡ as_agreed) → changed s key w ≡ with_told s key opens
  told_changed opens up told shown = λ i. record {
    opens = λ q. cond (eq_by_cmp key_cmp q key) (up i) (s.opens q);
    told = λ q. told_at q (eq_by_cmp key_cmp q key) refl i;
    shown = λ q view. cond (eq_by_cmp key_cmp q key) (shown view i) (s.shown q view);
  }
    where
      told_at : (q : KeyValue) (b : Bool) → eq_by_cmp key_cmp q key ≡ b → cond b (told_known w) (s.told q) ≡ cond b (eqb q.kind loc_rib) (s.told q)
      told_at q true e = told ∙ ap (λ (k : KeyValue). eqb k.kind loc_rib) (sym (same_key_by q key e))
      told_at q false e = refl

  -- routes that were read
  pub shown_changed : (view : View) (opens : OpensValue) (forms : FormsValue) → opens_known w ≡ Some opens → told_known w ≡ s.told key
      → ((v : View) → shown_known w v ≡ cond (eq_by_cmp view_cmp v view) forms (s.shown key v)) → changed s key w ≡ with_shown s key view opens forms
  shown_changed view opens forms up told shown = λ i. record {
    opens = λ q. cond (eq_by_cmp key_cmp q key) (up i) (s.opens q);
    told = λ q. told_at q (eq_by_cmp key_cmp q key) refl i;
    shown = λ q v. shown_at q v (eq_by_cmp key_cmp q key) refl i;
  }
    where
      told_at : (q : KeyValue) (b : Bool) → eq_by_cmp key_cmp q key ≡ b → cond b (told_known w) (s.told q) ≡ s.told q
      told_at q true e = told ∙ ap (λ (k : KeyValue). s.told k) (sym (same_key_by q key e))
      told_at q false e = refl

      shown_at : (q : KeyValue) (v : View) (b : Bool) → eq_by_cmp key_cmp q key ≡ b → cond b (shown_known w v) (s.shown q v) ≡ cond (b && eq_by_cmp view_cmp v view) forms (s.shown q v)
      shown_at q v true e = shown v ∙ ap (λ (k : KeyValue). cond (eq_by_cmp view_cmp v view) forms (s.shown k v)) (sym (same_key_by q key e))
      shown_at q v false e = refl

-- the forms of one view change alone
pub forms_set : (s : ShownValue) (forms : FormsValue) (view v : View) → forms_at (with_forms s view forms) v ≡ cond (eq_by_cmp view_cmp v view) forms (forms_at s v)
forms_set s forms InPre InPre = refl
forms_set s forms InPre InPost = refl
forms_set s forms InPre OutPre = refl
forms_set s forms InPre OutPost = refl
forms_set s forms InPre Loc = refl
forms_set s forms InPost InPre = refl
forms_set s forms InPost InPost = refl
forms_set s forms InPost OutPre = refl
forms_set s forms InPost OutPost = refl
forms_set s forms InPost Loc = refl
forms_set s forms OutPre InPre = refl
forms_set s forms OutPre InPost = refl
forms_set s forms OutPre OutPre = refl
forms_set s forms OutPre OutPost = refl
forms_set s forms OutPre Loc = refl
forms_set s forms OutPost InPre = refl
forms_set s forms OutPost InPost = refl
forms_set s forms OutPost OutPre = refl
forms_set s forms OutPost OutPost = refl
forms_set s forms OutPost Loc = refl
forms_set s forms Loc InPre = refl
forms_set s forms Loc InPost = refl
forms_set s forms Loc OutPre = refl
forms_set s forms Loc OutPost = refl
forms_set s forms Loc Loc = refl

pub nothing_at : (v : View) → forms_at nothing_shown v ≡ as_agreed
nothing_at InPre = refl
nothing_at InPost = refl
nothing_at OutPre = refl
nothing_at OutPost = refl
nothing_at Loc = refl

module _ (old new : KnownPeers) (key : KeyValue) where
  -- a peer that was up has these forms in this view
  pub shows : (peer : Option UpPeerValue) (view : View) (forms : FormsValue) (opens : OpensValue) → known_at old key ≡ Some peer → opens_known (known_at old key) ≡ Some opens
      → ((q : KeyValue) → known_at new q ≡ cond (is_at (key_cmp key) q) (Some (with_shown_in peer view forms)) (known_at old q)) → lenient_state new ≡ with_shown (lenient_state old) key view opens forms
  shows None view forms opens found up each = absurd (cc (sym up ∙ ap opens_known found))
  shows (Some peer) view forms opens found up each =
      state_changed old new key (Some (Some (record peer { shown = with_forms peer.shown view forms }))) each
      ∙ shown_changed (lenient_state old) key (Some (Some (record peer { shown = with_forms peer.shown view forms }))) view opens forms
      (ap opens_known (sym found) ∙ up) (ap told_known (sym found))
      (λ v. forms_set peer.shown forms view v ∙ ap (λ (k : Kept). cond (eq_by_cmp view_cmp v view) forms (shown_known k v)) (sym found))

  -- a Loc-RIB of which nothing was known is up, and has these forms in this view
  pub begins : (peer : UpPeerValue) (view : View) (forms : FormsValue) (opens : OpensValue) → known_at old key ≡ None → peer ≡ record { opens = opens; told = false; shown = with_forms nothing_shown view forms }
      → ((q : KeyValue) → known_at new q ≡ cond (is_at (key_cmp key) q) (Some (Some peer)) (known_at old q)) → lenient_state new ≡ with_shown (lenient_state old) key view opens forms
  begins peer view forms opens none is each =
      state_changed old new key (Some (Some peer)) each ∙ ap (λ (p : UpPeerValue). changed (lenient_state old) key (Some (Some p))) is
      ∙ shown_changed (lenient_state old) key (Some (Some (record { opens = opens; told = false; shown = with_forms nothing_shown view forms }))) view opens forms refl (ap told_known (sym none))
      (λ v. forms_set nothing_shown forms view v ∙ ap (λ (f : FormsValue). cond (eq_by_cmp view_cmp v view) forms f) (nothing_at v ∙ ap (λ (k : Kept). shown_known k v) (sym none)))

  -- a Peer Up told of it
  pub told_up : (peer : UpPeerValue) (opens : OpensValue) → peer ≡ record { opens = opens; told = eqb key.kind loc_rib; shown = nothing_shown }
      → ((q : KeyValue) → known_at new q ≡ cond (is_at (key_cmp key) q) (Some (Some peer)) (known_at old q)) → lenient_state new ≡ with_told (lenient_state old) key (Some opens)
  told_up peer opens is each =
      state_changed old new key (Some (Some peer)) each ∙ ap (λ (p : UpPeerValue). changed (lenient_state old) key (Some (Some p))) is
      ∙ told_changed (lenient_state old) key (Some (Some (record { opens = opens; told = eqb key.kind loc_rib; shown = nothing_shown }))) (Some opens) refl refl nothing_at

  -- a Peer Down told of it: a Loc-RIB is kept, and another peer isn't
  pub told_down : eqb key.kind loc_rib ≡ true → ((q : KeyValue) → known_at new q ≡ cond (is_at (key_cmp key) q) (Some None) (known_at old q)) → lenient_state new ≡ with_told (lenient_state old) key None
  told_down is each = state_changed old new key (Some None) each ∙ told_changed (lenient_state old) key (Some None) None refl (sym is) (λ view. refl)

  pub told_gone : eqb key.kind loc_rib ≡ false → ((q : KeyValue) → known_at new q ≡ cond (is_at (key_cmp key) q) None (known_at old q)) → lenient_state new ≡ with_told (lenient_state old) key None
  told_gone is each = state_changed old new key None each ∙ told_changed (lenient_state old) key None None refl (sym is) (λ view. refl)

  -- the same, with what was found there and what stands there now
  pub shows_so : (peer after : Option UpPeerValue) (view : View) (forms : FormsValue) → Some peer ≡ known_at old key → after ≡ with_shown_in peer view forms
      → ((q : KeyValue) → known_at new q ≡ cond (is_at (key_cmp key) q) (Some after) (known_at old q)) → (opens : OpensValue) → opens_known (known_at old key) ≡ Some opens
      → lenient_state new ≡ with_shown (lenient_state old) key view opens forms
  shows_so peer after view forms found is each opens up =
      shows peer view forms opens (sym found) up (λ q. each q ∙ ap (λ (p : Option UpPeerValue). cond (is_at (key_cmp key) q) (Some p) (known_at old q)) is)

  pub not_up : (view : View) (forms : FormsValue) → None ≡ known_at old key → (opens : OpensValue) → opens_known (known_at old key) ≡ Some opens → lenient_state new ≡ with_shown (lenient_state old) key view opens forms
  not_up view forms none opens up = absurd (cc (sym up ∙ ap opens_known (sym none)))
