-- What was written relays the session.
use Rattle.std.proofs.Common.{◌≡◌, ℕ, List, [], ◌∷◌, ◌++◌, Option, Result, Ok, Err, IsErrAnd, inl, inr, refl, sym, ap, ◌∙◌, subst, append_assoc}
use Rattle.std.specs.List.{AllByRecursion}
use Rattle.bmp_specs.specs.Values.{EffectValue}
use Rattle.wire_io.specs.Aside.{Aside}
use Rattle.wire_io.proofs.Joins.{appends_none}
use Rattle.relay_out.specs.declared.fault.EmitFault.{EmitFault}
use Rattle.relay_out.specs.declared.fault.EmitFault.TheVariants.{Failed, Unwritable, NoMemory}
use Rattle.relay_out.specs.Judging.{Refuses}
use Rattle.relay_out.specs.Messages.{IsRelayStream, ItemValue, stream_items}
use Rattle.relay_out.specs.Told.{IsTold, StreamValue}
use Rattle.relay_out.specs.Writable.{IsWritable}
use Rattle.relay_out.specs.Writing.{Emits, IsCounted, HasBegun, IsFront, Relays}
use Rattle.relay_out.proofs.Members.{all_parts}
use Rattle.relay_out.proofs.RelayLaw.{all_writable, are_writable, reads_back}

-- a front of the first messages is one of all
further : (items first rest : List ItemValue) (bytes : List ℕ) → items ≡ first ++ rest → IsFront first bytes → IsFront items bytes
further items first rest bytes e f = record {
  first = f.first;
  rest = f.rest ++ rest;
  split = e ∙ ap (λ (l : List ItemValue). l ++ rest) f.split ∙ append_assoc f.first f.rest rest;
  back = f.back;
  octets = f.octets;
  are = f.are;
}

not_first : (items first rest : List ItemValue) → items ≡ first ++ rest → ¬ (AllByRecursion IsWritable first) → ¬ (AllByRecursion IsWritable items)
not_first items first rest e not all = not (all_parts IsWritable first rest (subst (AllByRecursion IsWritable) e all)).0

module _ {O : Type 0} (faults : O → ℕ) (told : O → Option (List ℕ)) (aside : O → Aside) where
  begun_further : (old new : O) (items first rest : List ItemValue) → items ≡ first ++ rest → HasBegun faults told aside old new first → HasBegun faults told aside old new items
  begun_further old new items first rest e b = record { written = b.written; front = further items first rest b.written e b.front; grown = b.grown; kept = b.kept }

  nothing_begun : (a : O) (items : List ItemValue) → HasBegun faults told aside a a items
  nothing_begun a items = record { written = []; front = record { first = []; rest = items; split = refl; back = []; octets = tt; are = refl }; grown = appends_none (told a); kept = refl }

  -- whoever judges may be handed anything
  pub any_may : (xs : List ItemValue) → AllByRecursion (λ item. Unit {0}) xs
  any_may [] = tt
  any_may (x ∷ xs) = (tt, any_may xs)

  -- ---- what else holds, whichever session it is
  pub refused_counted : (first : List ItemValue) (n : ℕ) (d : EmitFault) (r : Result (Unit {0}) EmitFault) → Refuses first d → IsErrAnd r (λ f. f ≡ d) → IsCounted n n r
  refused_counted first n d (Ok v) refuses same = refl
  refused_counted first n d (Err Failed) refuses same = absurd (subst (Refuses first) (sym same) refuses)
  refused_counted first n d (Err Unwritable) refuses same = refl
  refused_counted first n d (Err NoMemory) refuses same = refl

  pub emitted_kept : (items : List ItemValue) (old new : O) (r : Result (Unit {0}) EmitFault) → Emits faults told aside items old r new → aside new ≡ aside old
  emitted_kept items old new (Ok v) (bytes, are, grown, kept, calm) = kept
  emitted_kept items old new (Err Failed) (first, rest, split, (begun, rose)) = begun.kept
  emitted_kept items old new (Err Unwritable) (first, rest, split, not) = absurd not
  emitted_kept items old new (Err NoMemory) (first, rest, split, (begun, calm)) = begun.kept

  pub emitted_counted : (items : List ItemValue) (old new : O) (r : Result (Unit {0}) EmitFault) → Emits faults told aside items old r new → IsCounted (faults old) (faults new) r
  emitted_counted items old new (Ok v) (bytes, are, grown, kept, calm) = calm
  emitted_counted items old new (Err Failed) (first, rest, split, (begun, rose)) = rose
  emitted_counted items old new (Err Unwritable) (first, rest, split, not) = absurd not
  emitted_counted items old new (Err NoMemory) (first, rest, split, (begun, calm)) = calm

  -- ---- what it relays
  module _ (effects : List EffectValue) (s : StreamValue) (is : IsTold effects s) where
    abbrev items : List ItemValue
    items = stream_items s

    -- the messages were refused
    pub refused : (a : O) (first rest : List ItemValue) (d : EmitFault) (r : Result (Unit {0}) EmitFault) → items ≡ first ++ rest → Refuses first d → IsErrAnd r (λ f. f ≡ d) → Relays faults told aside effects a r a
    refused a first rest d (Ok v) e refuses same = absurd same
    refused a first rest d (Err x) e refuses same = subst (λ (f : EmitFault). Relays faults told aside effects a (Err f) a) (sym same) (by d refuses)
      where
        by : (d : EmitFault) → Refuses first d → Relays faults told aside effects a (Err d) a
        by Failed p = absurd p
        by Unwritable p = (λ can. not_first items first rest e p (all_writable effects s is can), refl)
        by NoMemory p = (inr refl, s, is, nothing_begun a items, refl)

    -- all of them can be written, and were, or not
    pub relays : (old new : O) (r : Result (Unit {0}) EmitFault) → AllByRecursion IsWritable items → Emits faults told aside items old r new → Relays faults told aside effects old r new
    relays old new (Ok v) can (bytes, are, grown, kept, calm) =
        let session = are_writable effects s is can in
        let stream : IsRelayStream effects bytes = record { told = s; is_told = is; are = are } in
        (session, bytes, stream, reads_back effects bytes stream session, grown, kept, calm)
    relays old new (Err Failed) can (first, rest, split, (begun, rose)) = (are_writable effects s is can, s, is, begun_further old new items first rest split begun, rose)
    relays old new (Err Unwritable) can (first, rest, split, not) = absurd not
    relays old new (Err NoMemory) can (first, rest, split, (begun, calm)) = (inl (are_writable effects s is can), s, is, begun_further old new items first rest split begun, calm)
