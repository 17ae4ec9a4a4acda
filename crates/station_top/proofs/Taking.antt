-- A connection that is taken to its end, read by read.
use Rattle.std.proofs.Common.{◌≡◌, ◌≢◌, ℕ, ◌+◌, ◌<◌, ◌≤◌, length, take, List, [], ◌∷◌, ◌++◌, Option, Some, None, Result, Ok, Err, refl, ap, sym, ◌∙◌, subst, append_assoc, append-nil, length-append, length-take, arith}
use Rattle.std.specs.Prelude.{IsTrue, IfSome, OnErr}
use Rattle.std.specs.Io.KnownBytes.{Consumes, Keeps}
use Rattle.bmp_specs.specs.declared.causes.Cause.{Cause}
use Rattle.bmp_specs.specs.declared.causes.Cause.TheVariants.{ReadFault, Full}
use Rattle.bmp_specs.proofs.Fronts.{read_no_further}
use Rattle.bmp_specs.specs.Life.{LastRead, gave, gave_none, failed, most_taken, most_read, IsReadNoFurther, Given, cause_at_end}
use Rattle.bmp_specs.specs.Meaning.{Meaning, WalksBy}
use Rattle.bmp_specs.specs.Openings.{nothing_told}
use Rattle.bmp_specs.specs.Values.{EntryValue, opened}
use Rattle.bmp_specs.specs.Walk.{Verdict}
use Rattle.wire_io.specs.declared.sink.Failed.{Failed}
use Rattle.wire_io.specs.Aside.{Aside}
use Rattle.wire_io.specs.Faults.{Rose}
use Rattle.station_doors.specs.Doors.{Reads, AsPlanned, Went, GivesBytes, given_more, read_of, went_so, GivesMore}
use Rattle.station_doors.specs.Planned.{AllGave, Gives}
use Rattle.station_doors.proofs.Planned.{read_some, gives_none, gives_then, last_gave, last_none, last_failed, all_before, all_last}
use Rattle.station_doors.proofs.ReadLaws.{consumes_then, consumes_none, keeps_consumes, given_on, given_failed}
use Rattle.bmp_message.proofs.Causes.{come_end, come_fault, come_full, come_early, come_early_here, undecided}
use Rattle.bmp_message.specs.Effects.{GivesMessages}
use Rattle.bmp_message.specs.StreamWalk.{WalkValue, HasReached, rest_of, verdict_with}
use Rattle.station_top.specs.Account.{HasNoted, HasDrawn, IsDrained, IsEnded}
use Rattle.station_top.specs.Take.{IsNew, Takes, TakesBytes, ReadsOn}
use Rattle.station_top.specs.declared.take.Taken.{Taken}
use Rattle.station_top.proofs.Causes.{not_early}
use Rattle.station_top.proofs.Lengths.{walk_lengths}

-- what holds anyway, holds where a call failed
pub on_error : {T E P : Type 0} (result : Result T E) → P → OnErr result P
on_error (Ok value) holds = tt
on_error (Err e) holds = holds

-- the bytes taken so far, of a connection that goes on
pub record Goes (first now : Aside) (calls0 calls : ℕ) (taken : ℕ) : Type 0 where
  pub bytes : List ℕ
  pub plan : now.plan ≡ first.plan
  pub coming : now.coming ≡ first.coming
  pub rest : Consumes first.rest now.rest bytes
  pub given : GivesMore first.given now.given bytes gave
  pub opened : now.opened ≡ first.opened
  pub closed : now.closed ≡ first.closed
  pub is_open : IsTrue now.is_open
  pub refused : now.refused ≡ first.refused
  pub taken_is : now.taken ≡ taken
  pub count : length bytes ≡ taken
  pub planned : calls0 ≡ 0 → IfSome first.plan (λ plan. Gives plan calls bytes)
  pub open_faults : now.open_faults ≡ first.open_faults
  pub read_faults : now.read_faults ≡ first.read_faults

pub goes_none : (a : Aside) (calls : ℕ) → IsNew a → Goes a a calls calls 0
goes_none a calls n = record { bytes = []; plan = refl; coming = refl; rest = consumes_none a.rest; given = n.fresh; opened = refl; closed = refl; is_open = n.is_open; refused = refl; taken_is = n.none; count = refl; planned = gives_none a.plan calls; open_faults = refl; read_faults = refl }

-- reads were made since, where that is kept, and each gave bytes
abbrev pub GaveOn : Option (List LastRead) → Option (List LastRead) → Type 0
GaveOn None now = now ≡ None
GaveOn (Some old) now = (went : List LastRead) × AllGave went × (now ≡ Some (went ++ old))

pub gave_on_none : (w : Option (List LastRead)) → GaveOn w w
gave_on_none None = refl
gave_on_none (Some old) = ([], tt, refl)

pub gave_on_more : (w0 w after : Option (List LastRead)) (m : ℕ) → GaveOn w0 w → Went w after (Ok m) → m ≢ 0 → GaveOn w0 after
gave_on_more None w after m g on some = subst (λ (o : Option (List LastRead)). Went o after (Ok m)) g on
gave_on_more (Some old) w after m g on some = (gave ∷ g.0, g.1, subst (λ (o : Option (List LastRead)). Went o after (Ok m)) g.2 on ∙ ap (λ (l : LastRead). Some (l ∷ (g.0 ++ old))) (read_some m some))

reads_on : (w0 w : Option (List LastRead)) → GaveOn w0 w → ReadsOn w0 w gave
reads_on None w g = g
reads_on (Some old) w g = (g.0, all_before g.0 g.1, all_last g.0 g.1, g.2)

reads_last : (w0 w after : Option (List LastRead)) (r : Result ℕ Failed) → GaveOn w0 w → Went w after r → ReadsOn w0 after (went_so r)
reads_last None w after r g on = subst (λ (o : Option (List LastRead)). Went o after r) g on
reads_last (Some old) w after r g on = (went_so r ∷ g.0, g.1, refl, subst (λ (o : Option (List LastRead)). Went o after r) g.2 on)

-- a read gave bytes
pub goes_more : (a0 a b : Aside) (calls0 c d n m : ℕ) (buf : List ℕ) → Goes a0 a calls0 c n → Reads a b (Ok m) buf → AsPlanned a.plan c d (Ok m) → m ≢ 0 → m ≤ length buf → n + m ≤ most_taken → m ≤ most_read → Goes a0 b calls0 d (n + m)
goes_more a0 a b calls0 c d n m buf g r p some within room size = record {
  bytes = g.bytes ++ take m buf;
  plan = r.plan ∙ g.plan;
  coming = r.coming ∙ g.coming;
  rest = consumes_then a0.rest a.rest b.rest g.bytes (take m buf) g.rest r.rest.0;
  given = subst (λ (l : LastRead). GivesMore a0.given b.given (g.bytes ++ take m buf) l) (read_some m some) (given_on a0.given a.given b.given g.bytes buf m g.given r.given);
  opened = r.opened ∙ g.opened;
  closed = r.closed ∙ g.closed;
  is_open = r.is_open ∙ g.is_open;
  refused = r.refused ∙ g.refused;
  taken_is = omega (arith, r.taken, g.taken_is, room);
  count = omega (arith, length-append g.bytes (take m buf), length-take m buf, g.count, within);
  planned = λ none. gives_then a0.plan a.plan c d m g.bytes buf g.plan (g.planned none) p some within size (omega (arith, g.count, room));
  open_faults = r.calm ∙ g.open_faults;
  read_faults = r.cause.fine ∙ g.read_faults;
}

-- the bytes taken so far, of a connection that goes on, and what was drawn of them
pub record Taking {R : Type 0} (meaning : Meaning) (state : R → meaning.State) (Stands : List EntryValue → Type 0) (first now : Aside) (calls0 calls taken : ℕ) (walk : WalkValue R) (revision : ℕ) : Type 0 where
  pub goes : Goes first now calls0 calls taken
  pub drained : IsDrained meaning state Stands goes.bytes walk revision

-- nothing was taken
pub taking_none : {R : Type 0} (meaning : Meaning) (state : R → meaning.State) (Stands : List EntryValue → Type 0) (a : Aside) (calls : ℕ) (walk : WalkValue R) → IsNew a → Stands (opened nothing_told ∷ []) → HasReached meaning state [] [] walk → (walk.offset ≡ 0) × (walk.cutter.offset + length walk.cutter.pending ≡ 0) → Taking meaning state Stands a a calls calls 0 walk 1
unfolding goes_none
taking_none meaning state Stands a calls walk new first reached (place, none) = record {
  goes = goes_none a calls new;
  drained = record {
    messages = [];
    reached = reached;
    walks = rw (place, none) (refl, refl);
    noted = record { noted = first; count = omega arith };
  };
}

-- as many entries as there are: fewer than 64 bits hold
exact : (meaning : Meaning) (gives : GivesMessages meaning) (Stands : List EntryValue → Type 0) (bytes : List ℕ) (messages : List EntryValue) (offset revision : ℕ) (v : Verdict) → length bytes ≤ most_taken → WalksBy meaning bytes messages offset v → HasNoted Stands messages revision
    → revision ≡ length (opened nothing_told ∷ messages)
exact meaning gives Stands bytes messages offset revision v within w noted = let long = walk_lengths meaning gives meaning.start bytes messages offset v w in omega (arith, within, noted.count, long.count, long.within)

-- a walk that waits was read no further
waits : (meaning : Meaning) (bytes : List ℕ) (messages : List EntryValue) (offset rest : ℕ) → WalksBy meaning bytes messages offset (verdict_with rest) → IsReadNoFurther meaning bytes
waits meaning bytes messages offset rest w = subst (λ (l : List ℕ). IsReadNoFurther meaning l) (append-nil bytes) (read_no_further meaning bytes messages offset (verdict_with rest) w (undecided rest) [] (omega arith))

module _ (R : Type 0) (meaning : Meaning) (state : R → meaning.State) (gives : GivesMessages meaning) (Stands : List EntryValue → Type 0) (a0 a : Aside) (calls0 c n : ℕ) (walk : WalkValue R) (revision : ℕ) (t : Taking meaning state Stands a0 a calls0 c n walk revision) where
  -- a read gave none
  pub takes_end : (w0 w after : Option (List LastRead)) (b : Aside) (d' : ℕ) (buf : List ℕ) (taken : Taken) → GaveOn w0 w → Went w after (Ok 0) → Reads a b (Ok 0) buf → AsPlanned a.plan c d' (Ok 0) → 0 < length buf → n < most_taken → taken ≡ record { cause = cause_at_end (rest_of walk) walk.offset; revision = revision; bytes = n } → Takes meaning Stands a0 b w0 after calls0 taken
  takes_end w0 w after b d' buf taken on went r p some room is =
      let g = t.goes in
      let d = t.drained in
      let same : g.bytes ++ take 0 buf ≡ g.bytes = append-nil g.bytes in
      rw is (record {
        bytes = g.bytes;
        last = gave_none;
        messages = d.messages;
        took = record {
          plan = r.plan ∙ g.plan;
          coming = r.coming ∙ g.coming;
          rest = subst (λ (l : List ℕ). Consumes a0.rest b.rest l) same (consumes_then a0.rest a.rest b.rest g.bytes (take 0 buf) g.rest r.rest.0);
          given = subst (λ (l : List ℕ). GivesMore a0.given b.given l gave_none) same (given_on a0.given a.given b.given g.bytes buf 0 g.given r.given);
          opened = r.opened ∙ g.opened;
          closed = r.closed ∙ g.closed;
          refused = r.refused ∙ g.refused;
          within = omega (arith, g.count, room);
          no_further = waits meaning g.bytes d.messages walk.offset (rest_of walk) d.walks;
          end = λ _. r.rest.1 refl some;
          planned = λ none. last_none a0.plan a.plan c d' g.bytes g.plan (g.planned none) p;
          open_faults = r.calm ∙ g.open_faults;
          read_faults = r.cause.fine ∙ g.read_faults;
          went = reads_last w0 w after (Ok 0) on went;
        };
        come = come_end meaning g.bytes d.messages walk.offset (rest_of walk) (omega (arith, g.count, room)) d.walks;
        noted = d.noted.noted;
        count = exact meaning gives Stands g.bytes d.messages walk.offset revision (verdict_with (rest_of walk)) (omega (arith, g.count, room)) d.walks d.noted;
        size = sym g.count;
        early = λ e. absurd (not_early (rest_of walk) walk.offset e);
      })

  -- a read failed
  pub takes_fault : (w0 w after : Option (List LastRead)) (b : Aside) (d' : ℕ) (buf : List ℕ) (e : Failed) (taken : Taken) → GaveOn w0 w → Went w after (Err e) → Reads a b (Err e) buf → AsPlanned a.plan c d' (Err e) → n < most_taken → taken ≡ record { cause = ReadFault n; revision = revision; bytes = n } → Takes meaning Stands a0 b w0 after calls0 taken
  takes_fault w0 w after b d' buf e taken on went r p room is =
      let g = t.goes in
      let d = t.drained in
      let same : g.bytes ++ [] ≡ g.bytes = append-nil g.bytes in
      rw (is, sym g.count) (record {
        bytes = g.bytes;
        last = failed;
        messages = d.messages;
        took = record {
          plan = r.plan ∙ g.plan;
          coming = r.coming ∙ g.coming;
          rest = subst (λ (l : List ℕ). Consumes a0.rest b.rest l) same (consumes_then a0.rest a.rest b.rest g.bytes [] g.rest (keeps_consumes a.rest b.rest r.rest));
          given = subst (λ (l : List ℕ). GivesMore a0.given b.given l failed) same (given_failed a0.given a.given b.given g.bytes buf e g.given r.given);
          opened = r.opened ∙ g.opened;
          closed = r.closed ∙ g.closed;
          refused = r.refused ∙ g.refused;
          within = omega (arith, g.count, room);
          no_further = waits meaning g.bytes d.messages walk.offset (rest_of walk) d.walks;
          end = λ other. absurd (cc other);
          planned = λ none. last_failed a0.plan a.plan c d' g.bytes e g.plan (g.planned none) p;
          open_faults = r.calm ∙ g.open_faults;
          read_faults = subst (λ (k : ℕ). Rose k b.read_faults) g.read_faults r.cause.failed;
          went = reads_last w0 w after (Err e) on went;
        };
        come = come_fault meaning g.bytes d.messages walk.offset (rest_of walk) (omega (arith, g.count, room)) d.walks;
        noted = d.noted.noted;
        count = exact meaning gives Stands g.bytes d.messages walk.offset revision (verdict_with (rest_of walk)) (omega (arith, g.count, room)) d.walks d.noted;
        size = refl;
        early = λ e. absurd e;
      })

  -- the limit of one connection was reached
  pub takes_full : (w0 w : Option (List LastRead)) (taken : Taken) → GaveOn w0 w → n ≡ most_taken → taken ≡ record { cause = Full; revision = revision; bytes = n } → Takes meaning Stands a0 a w0 w calls0 taken
  takes_full w0 w taken on full is =
      let g = t.goes in
      let d = t.drained in
      rw is (record {
        bytes = g.bytes;
        last = gave;
        messages = d.messages;
        took = record {
          plan = g.plan;
          coming = g.coming;
          rest = g.rest;
          given = g.given;
          opened = g.opened;
          closed = g.closed;
          refused = g.refused;
          within = omega (arith, g.count, full);
          no_further = waits meaning g.bytes d.messages walk.offset (rest_of walk) d.walks;
          end = λ other. absurd (cc other);
          planned = λ none. last_gave a0.plan c g.bytes (g.planned none);
          open_faults = g.open_faults;
          read_faults = g.read_faults;
          went = reads_on w0 w on;
        };
        come = come_full meaning g.bytes d.messages walk.offset (rest_of walk) (g.count ∙ full) d.walks;
        noted = d.noted.noted;
        count = exact meaning gives Stands g.bytes d.messages walk.offset revision (verdict_with (rest_of walk)) (omega (arith, g.count, full)) d.walks d.noted;
        size = sym g.count;
        early = λ e. absurd e;
      })

  -- a piece was fed to the walk
  pub drawn_fed : (piece : List ℕ) (fed : WalkValue R) → ((bytes : List ℕ) (given : List EntryValue) → HasReached meaning state bytes given walk → HasReached meaning state (bytes ++ piece) given fed) → HasDrawn meaning state Stands (t.goes.bytes ++ piece) fed revision
  drawn_fed piece fed run = record { messages = t.drained.messages; reached = run t.goes.bytes t.drained.messages t.drained.reached; noted = t.drained.noted }

  -- a read gave bytes, all their messages were drawn, and the walk goes on
  pub taking_more : (Next : List EntryValue → Type 0) (b : Aside) (d' m : ℕ) (buf : List ℕ) (new : WalkValue R) (now : ℕ) → Reads a b (Ok m) buf → AsPlanned a.plan c d' (Ok m) → m ≢ 0 → m ≤ length buf → n + m ≤ most_taken → m ≤ most_read → IsDrained meaning state Next (t.goes.bytes ++ take m buf) new now
      → Taking meaning state Next a0 b calls0 d' (n + m) new now
  unfolding goes_more
  taking_more Next b d' m buf new now r p some within room size drained = record { goes = goes_more a0 a b calls0 c d' n m buf t.goes r p some within room size; drained = drained }

  -- the walk ended in the bytes of a read
  pub takes_early : (w0 w after : Option (List LastRead)) (Next : List EntryValue → Type 0) (b : Aside) (d' m : ℕ) (buf : List ℕ) (cause : Cause) (now : ℕ) (taken : Taken) → GaveOn w0 w → Went w after (Ok m) → Reads a b (Ok m) buf → AsPlanned a.plan c d' (Ok m) → m ≢ 0 → m ≤ length buf → n + m ≤ most_taken → m ≤ most_read
      → IsEnded meaning Next (t.goes.bytes ++ take m buf) now cause → taken ≡ record { cause = cause; revision = now; bytes = n + m } → Takes meaning Next a0 b w0 after calls0 taken
  unfolding goes_more
  takes_early w0 w after Next b d' m buf cause now taken on went r p some within room size ended is =
      let g = goes_more a0 a b calls0 c d' n m buf t.goes r p some within room size in
      let long : length g.bytes ≤ most_taken = omega (arith, g.count, room) in
      let come = come_early_here meaning g.bytes ended.messages cause gave ended.ends long in
      rw is (record {
        bytes = g.bytes;
        last = gave;
        messages = ended.messages;
        took = record {
          plan = g.plan;
          coming = g.coming;
          rest = g.rest;
          given = g.given;
          opened = g.opened;
          closed = g.closed;
          refused = g.refused;
          within = long;
          no_further = read_no_further meaning t.goes.bytes t.drained.messages walk.offset (verdict_with (rest_of walk)) t.drained.walks (undecided (rest_of walk)) (take m buf) (omega (arith, size, length-take m buf));
          end = λ other. absurd (cc other);
          planned = λ none. last_gave a0.plan d' g.bytes (g.planned none);
          open_faults = g.open_faults;
          read_faults = g.read_faults;
          went = reads_on w0 after (gave_on_more w0 w after m on went some);
        };
        come = come;
        noted = ended.noted.noted;
        count = exact meaning gives Next g.bytes ended.messages come.offset now come.verdict long come.walk ended.noted;
        size = sym g.count;
        early = λ _. come_early meaning g.bytes ended.messages cause ended.ends;
      })

  -- memory ran out after a read that gave bytes
  pub breaks : (w0 w after : Option (List LastRead)) (b : Aside) (d' m : ℕ) (buf : List ℕ) → GaveOn w0 w → Went w after (Ok m) → Reads a b (Ok m) buf → AsPlanned a.plan c d' (Ok m) → m ≢ 0 → m ≤ length buf → n + m ≤ most_taken → m ≤ most_read → (bytes : List ℕ) × TakesBytes meaning a0 b w0 after calls0 bytes gave
  unfolding goes_more
  breaks w0 w after b d' m buf on went r p some within room size =
      let g = goes_more a0 a b calls0 c d' n m buf t.goes r p some within room size in (
        g.bytes,
        record {
          plan = g.plan;
          coming = g.coming;
          rest = g.rest;
          given = g.given;
          opened = g.opened;
          closed = g.closed;
          refused = g.refused;
          within = omega (arith, g.count, room);
          no_further = read_no_further meaning t.goes.bytes t.drained.messages walk.offset (verdict_with (rest_of walk)) t.drained.walks (undecided (rest_of walk)) (take m buf) (omega (arith, size, length-take m buf));
          end = λ other. absurd (cc other);
          planned = λ none. last_gave a0.plan d' g.bytes (g.planned none);
          open_faults = g.open_faults;
          read_faults = g.read_faults;
          went = reads_on w0 after (gave_on_more w0 w after m on went some);
        },
      )
