-- A connection, piece by piece, up to its end.
use Rattle.std.proofs.Common.{◌≡◌, ◌⊎◌, inl, inr, ℕ, ◌+◌, ◌≤◌, true, false, length, List, [], ◌++◌, Option, Err, refl, ap, sym, ◌∙◌, subst, append-nil, length-append, arith}
use mathlib.Core.Bool.{false≢true}
use Rattle.std.specs.Io.KnownBytes.{Appends, Keeps, IsAtEnd}
use Rattle.bmp_specs.specs.Life.{LastRead, gave, gave_none, failed, most_taken, Given}
use Rattle.cut_publisher.specs.History.{revision}
use Rattle.cut_publisher.proofs.Prefixes.{begins_self}
use Rattle.station_doors.specs.Doors.{AsPlanned, most_heard}
use Rattle.wire_io.specs.Aside.{Aside, fresh}
use Rattle.wire_io.specs.Faults.{Rose}
use Rattle.wire_io.specs.declared.sink.Failed.{Failed}
use Rattle.wire_io.proofs.Joins.{appends_none, appends_then, keeps_appends}
use Rattle.ask_session.specs.declared.close.Close.{Close}
use Rattle.ask_session.specs.declared.close.Close.TheVariants.{Ended, Full, Over, ReadFault, WriteFault}
use Rattle.ask_session.specs.Lines.{HasNoEnd, IsTooMany}
use Rattle.ask_session.specs.Replies.{History}
use Rattle.ask_session.specs.Dialogue.{Dialogue}
use Rattle.ask_session.specs.Connection.{ReadsInput, SaysEnd, HasReadFault, Conversed}
use Rattle.ask_session.specs.Hearing.{IsEarly, Goes, Halts, EndsSo}
use Rattle.ask_session.specs.Taking.{Lives}
use Rattle.ask_session.proofs.NextLine.{few_none}
use Rattle.ask_session.proofs.Going.{no_further}
use Rattle.ask_session.proofs.Pieces.{goes_none, goes_halts, goes_then}
use Rattle.ask_session.proofs.Reading.{ReadsPiece, input_begin, input_then}
use Rattle.station_doors.proofs.ReadLaws.{fails_some}

goes_keeps : (lanes : ℕ) (s1 s2 : History) (from pending : List ℕ) (a b c : Option (List ℕ)) (n0 n1 n2 : ℕ) → Goes lanes s1 s2 from pending a b n0 n1 → Keeps b c → n2 ≡ n1 → Goes lanes s1 s2 from pending a c n0 n2
goes_keeps lanes s1 s2 from pending a b c n0 n1 n2 p k e = record {
  written = p.written;
  turns = p.turns;
  plain = p.plain;
  few = p.few;
  told_is = subst (λ (l : List ℕ). Appends a c l) (append-nil p.written) (appends_then a b c p.written [] p.told_is (keeps_appends b c k));
  calm = e ∙ p.calm;
}

pub lives_begin : (lanes : ℕ) (seen : History) (aside : Aside) (told : Option (List ℕ)) (writes : ℕ) → Lives lanes seen seen aside aside told told writes writes [] 0
lives_begin lanes seen aside told writes = record {
  input = fresh;
  reads = input_begin aside;
  going = refl;
  count = refl;
  few = omega arith;
  calm = refl;
  goes = goes_none lanes seen [] told writes tt few_none;
}

fault_early : (close : Close) (n m : ℕ) → IsEarly close → m ≡ n → HasReadFault close n m
fault_early Over n m e h = h
fault_early WriteFault n m e h = h
fault_early Ended n m e h = absurd e
fault_early Full n m e h = absurd e
fault_early ReadFault n m e h = absurd e

says_early : (close : Close) (rest : Option (List ℕ)) (input : Given) → IsEarly close → SaysEnd close false rest input
says_early Over rest input e = λ h. absurd (false≢true h)
says_early WriteFault rest input e = λ h. absurd (false≢true h)
says_early Ended rest input e = absurd e
says_early Full rest input e = absurd e
says_early ReadFault rest input e = absurd e

-- the input ended
says_ended : (rest : Option (List ℕ)) (input : Given) (result : Close) → input.last ≡ gave_none → IsAtEnd rest → (result ≡ Ended) ⊎ IsEarly result → SaysEnd result true rest input
says_ended rest input Ended last end w = (refl, last, end)
says_ended rest input Full last end (inl e) = absurd (cc)
says_ended rest input Full last end (inr e) = absurd e
says_ended rest input Over last end w = λ h. inl (last, end)
says_ended rest input ReadFault last end (inl e) = absurd (cc)
says_ended rest input ReadFault last end (inr e) = absurd e
says_ended rest input WriteFault last end w = λ h. inl (last, end)

-- the most bytes were taken
says_full : (rest : Option (List ℕ)) (input : Given) (result : Close) → length input.bytes ≡ most_taken → (result ≡ Full) ⊎ IsEarly result → SaysEnd result true rest input
says_full rest input Full long w = (refl, long)
says_full rest input Ended long (inl e) = absurd (cc)
says_full rest input Ended long (inr e) = absurd e
says_full rest input Over long w = λ h. inr long
says_full rest input ReadFault long (inl e) = absurd (cc)
says_full rest input ReadFault long (inr e) = absurd e
says_full rest input WriteFault long w = λ h. inr long

fault_end : (close result : Close) (n m : ℕ) → (close ≡ Ended) ⊎ (close ≡ Full) → (result ≡ close) ⊎ IsEarly result → m ≡ n → HasReadFault result n m
fault_end close Ended n m c w h = h
fault_end close Full n m c w h = h
fault_end close Over n m c w h = h
fault_end close WriteFault n m c w h = h
fault_end close ReadFault n m (inl c) (inl e) h = absurd (cc)
fault_end close ReadFault n m (inr c) (inl e) h = absurd (cc)
fault_end close ReadFault n m c (inr e) h = absurd e

-- a further read, after which the piece was heard
module _ (lanes lanes' : ℕ) (same : lanes' ≡ lanes) (s1 s2 s3 : History) (a1 a2 a3 a4 : Aside) (t1 t2 t3 t4 : Option (List ℕ)) (n1 n2 n3 n4 : ℕ) (pending piece : List ℕ) (last : LastRead) (taken : ℕ) (p : Lives lanes s1 s2 a1 a2 t1 t2 n1 n2 pending taken)
    (r : ReadsPiece a2 a3 piece last) (told : Keeps t2 t3) (calm : n3 ≡ n2) (reads : a3.read_faults ≡ a2.read_faults) (fits : taken + length piece ≤ most_taken) (kept : a4 ≡ a3) where
  abbrev input_now : Given
  input_now = record { bytes = p.input.bytes ++ piece; last = last }

  goes_read : Goes lanes s1 s2 p.input.bytes pending t1 t3 n1 n3
  goes_read = goes_keeps lanes s1 s2 p.input.bytes pending t1 t2 t3 n1 n2 n3 p.goes told calm

  all_read : ReadsInput a1 a4 input_now
  all_read = subst (λ (x : Aside). ReadsInput a1 x input_now) (sym kept) (input_then a1 a2 a3 p.input piece last p.reads r (omega (arith, fits, p.count)))

  all_few : length input_now.bytes ≤ most_taken
  all_few = omega (arith, fits, p.count, length-append p.input.bytes piece)

  all_calm : a4.read_faults ≡ a1.read_faults
  all_calm = ap (λ (x : Aside). x.read_faults) kept ∙ reads ∙ p.calm

  pub lives_next : (pending' : List ℕ) (n : ℕ) → n ≡ length piece → last ≡ gave → Goes lanes' s2 s3 (pending ++ piece) pending' t3 t4 n3 n4 → Lives lanes s1 s3 a1 a4 t1 t4 n1 n4 pending' (taken + n)
  lives_next pending' n len going q = record {
    input = input_now;
    reads = all_read;
    going = going;
    count = omega (arith, p.count, len, length-append p.input.bytes piece);
    few = omega (arith, fits, len);
    calm = all_calm;
    goes = goes_then lanes s1 s2 s3 p.input.bytes pending piece pending' t1 t3 t4 n1 n3 n4 goes_read (subst (λ (l : ℕ). Goes l s2 s3 (pending ++ piece) pending' t3 t4 n3 n4) same q);
  }

  pub conversed_early : (close : Close) → IsEarly close → last ≡ gave → length piece ≤ most_heard → Halts lanes' close false s2 s3 (pending ++ piece) t3 t4 n3 n4 → (input : Given) × Conversed lanes s3 (revision s1) a1 a4 input t1 t4 n1 n4 close
  conversed_early close e some short q =
      let q1 = subst (λ (l : ℕ). Halts l close false s2 s3 (pending ++ piece) t3 t4 n3 n4) same q in
      let h = goes_halts lanes close false s1 s2 s3 p.input.bytes pending piece t1 t3 t4 n1 n3 n4 goes_read q1 in (
        input_now,
        record {
          reads = all_read;
          few = all_few;
          ended = false;
          says = says_early close a4.rest input_now e;
          replies = h.replies;
          talk = h.talk;
          written = h.written;
          fault = fault_early close a1.read_faults a4.read_faults e all_calm;
          planned = λ other. absurd (cc (some, other));
          no_further = no_further lanes s1 s2 s3 (p.input.bytes ++ piece) p.input.bytes pending piece close q1.replies t1 t3 t4 n1 n3 n3 n4 goes_read q1.sees refl short q1.written;
        },
      )

  pub conversed_end : (result : Close) → piece ≡ [] → last ≡ gave_none → IsAtEnd a3.rest → EndsSo lanes' Ended result s2 s3 pending t3 t4 n3 n4 → (input : Given) × Conversed lanes s3 (revision s1) a1 a4 input t1 t4 n1 n4 result
  conversed_end result none none_given end q =
      let q0 = subst (λ (l : ℕ). Halts l result true s2 s3 pending t3 t4 n3 n4) same q.halts in
      let q1 = subst (λ (l : List ℕ). Halts lanes result true s2 s3 l t3 t4 n3 n4) (sym (append-nil pending) ∙ ap (λ (l : List ℕ). pending ++ l) (sym none)) q0 in
      let h = goes_halts lanes result true s1 s2 s3 p.input.bytes pending piece t1 t3 t4 n1 n3 n4 goes_read q1 in
      let end4 = subst (λ (x : Aside). IsAtEnd x.rest) (sym kept) end in (
        input_now,
        record {
          reads = all_read;
          few = all_few;
          ended = true;
          says = says_ended a4.rest input_now result none_given end4 q.which;
          replies = h.replies;
          talk = h.talk;
          written = h.written;
          fault = fault_end Ended result a1.read_faults a4.read_faults (inl refl) q.which all_calm;
          planned = λ other. absurd (cc (none_given, other));
          no_further = no_further lanes s1 s2 s3 (p.input.bytes ++ piece) p.input.bytes pending piece result q1.replies t1 t3 t4 n1 n3 n3 n4 goes_read q1.sees refl (omega (arith, ap length none)) q1.written;
        },
      )

-- no further read
module _ (lanes : ℕ) (s1 s2 s3 : History) (a1 a2 a3 : Aside) (t1 t2 t3 : Option (List ℕ)) (n1 n2 n3 : ℕ) (pending : List ℕ) (taken : ℕ) (p : Lives lanes s1 s2 a1 a2 t1 t2 n1 n2 pending taken) where
  pub conversed_full : (lanes' : ℕ) → lanes' ≡ lanes → (result : Close) → most_taken ≤ taken → a3 ≡ a2 → EndsSo lanes' Full result s2 s3 pending t2 t3 n2 n3 → (input : Given) × Conversed lanes s3 (revision s1) a1 a3 input t1 t3 n1 n3 result
  conversed_full lanes' same result long kept q =
      let q0 = subst (λ (l : ℕ). Halts l result true s2 s3 pending t2 t3 n2 n3) same q.halts in
      let q1 = subst (λ (l : List ℕ). Halts lanes result true s2 s3 l t2 t3 n2 n3) (sym (append-nil pending)) q0 in
      let h = goes_halts lanes result true s1 s2 s3 p.input.bytes pending [] t1 t2 t3 n1 n2 n3 p.goes q1 in
      let calm : a3.read_faults ≡ a1.read_faults = ap (λ (x : Aside). x.read_faults) kept ∙ p.calm in (
        p.input,
        record {
          reads = subst (λ (x : Aside). ReadsInput a1 x p.input) (sym kept) p.reads;
          few = omega (arith, p.few, p.count);
          ended = true;
          says = says_full a3.rest p.input result (omega (arith, long, p.count, p.few)) q.which;
          replies = h.replies;
          talk = subst (λ (l : List ℕ). Dialogue lanes result true s3 (revision s1) l h.replies) (append-nil p.input.bytes) h.talk;
          written = h.written;
          fault = fault_end Full result a1.read_faults a3.read_faults (inr refl) q.which calm;
          planned = λ other. absurd (cc (p.going, other));
          no_further = no_further lanes s1 s2 s3 p.input.bytes p.input.bytes pending [] result q1.replies t1 t2 t3 n1 n2 n2 n3 p.goes q1.sees (sym (append-nil p.input.bytes)) (omega arith) q1.written;
        },
      )

  -- a failed read
  pub conversed_fault : (before after : ℕ) (e : Failed) → ReadsPiece a2 a3 [] failed → AsPlanned a2.plan before after (Err e) → Keeps t2 t3 → n3 ≡ n2 → Rose a2.read_faults a3.read_faults → (input : Given) × Conversed lanes s2 (revision s1) a1 a3 input t1 t3 n1 n3 ReadFault
  conversed_fault before after e r plan told calm rose =
      let g = goes_keeps lanes s1 s2 p.input.bytes pending t1 t2 t3 n1 n2 n3 p.goes told calm in
      let d : Dialogue lanes ReadFault false s2 (revision s2) (pending ++ []) [] = record { turns = []; talks = (record { plain = subst (λ (l : List ℕ). HasNoEnd l) (sym (append-nil pending)) g.plain; few = subst (λ (l : List ℕ). IsTooMany l → ⊥) (sym (append-nil pending)) g.few; none = λ h. absurd (false≢true h) }, refl) } in
      let input : Given = record { bytes = p.input.bytes ++ []; last = failed } in (
        input,
        record {
          reads = input_then a1 a2 a3 p.input [] failed p.reads r (omega (arith, p.few, p.count));
          few = omega (arith, p.few, p.count, length-append {A = ℕ} p.input.bytes []);
          ended = false;
          says = (refl, refl);
          replies = g.written ++ [];
          talk = g.turns.go ReadFault false s2 [] [] (begins_self s2) d;
          written = (subst (λ (l : List ℕ). Appends t1 t3 l) (sym (append-nil g.written)) g.told_is, g.calm);
          fault = subst (λ (n : ℕ). Rose n a3.read_faults) p.calm rose;
          planned = λ _. fails_some a1.plan a2.plan before after e p.reads.stays.plan plan;
          no_further = no_further lanes s1 s2 s2 (p.input.bytes ++ []) p.input.bytes pending [] ReadFault [] t1 t3 t3 n1 n3 n3 n3 g (begins_self s2) refl (omega arith) (appends_none t3, refl);
        },
      )
