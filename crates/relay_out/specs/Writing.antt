-- What a writer of messages has written, and what it holds back.
use Rattle.std.specs.Prelude.{◌≡◌, ◌⊎◌, ℕ, List, [], ◌++◌, Option, Result, Ok, Err}
use Rattle.std.specs.Io.KnownBytes.{Appends}
use Rattle.bmp_specs.specs.Octets.{AreOctets}
use Rattle.bmp_specs.specs.Parts.{AreParts}
use Rattle.bmp_specs.specs.Values.{EffectValue}
use Rattle.wire_io.specs.Aside.{Aside}
use Rattle.wire_io.specs.Faults.{Rose}
use Rattle.relay_out.specs.declared.fault.EmitFault.{EmitFault}
use Rattle.relay_out.specs.declared.fault.EmitFault.TheVariants.{Failed, Unwritable, NoMemory}
use Rattle.relay_out.specs.Messages.{IsItem, IsRelayStream, ItemValue, stream_items}
use Rattle.relay_out.specs.Relayed.{ReadsBack}
use Rattle.relay_out.specs.Told.{IsTold, StreamValue}
use Rattle.relay_out.specs.Writable.{AreWritable}

-- the sink as the writer got it, the sink now, and the bytes that are held back
pub record WriterValue (O : Type 0) : Type 0 where
  pub first : O
  pub below : O
  pub held : List ℕ

-- the bytes are a front of the first of these messages, and what is missing of these is octets too
pub record IsFront (items : List ItemValue) (bytes : List ℕ) : Type 0 where
  pub first : List ItemValue
  pub rest : List ItemValue
  pub split : items ≡ first ++ rest
  pub back : List ℕ
  pub octets : AreOctets back
  pub are : AreParts IsItem (bytes ++ back) first

-- the count of faults rose by one exactly where a write failed, which ended the call
abbrev pub IsCounted : ℕ → ℕ → Result (Unit {0}) EmitFault → Type 0
IsCounted before now (Ok v) = now ≡ before
IsCounted before now (Err Failed) = Rose before now
IsCounted before now (Err Unwritable) = now ≡ before
IsCounted before now (Err NoMemory) = now ≡ before

module _ {O : Type 0} (faults : O → ℕ) (told : O → Option (List ℕ)) (aside : O → Aside) where
  -- the messages were written, save for what is held back, and no write failed
  pub record HasWritten (w : WriterValue O) (items : List ItemValue) : Type 0 where
    pub written : List ℕ
    pub are : AreParts IsItem (written ++ w.held) items
    pub grown : Appends (told w.first) (told w.below) written
    pub kept : aside w.below ≡ aside w.first
    pub calm : faults w.below ≡ faults w.first

  -- a front of the messages was written
  pub record HasBegun (old new : O) (items : List ItemValue) : Type 0 where
    pub written : List ℕ
    pub front : IsFront items written
    pub grown : Appends (told old) (told new) written
    pub kept : aside new ≡ aside old

  -- why it was stopped; what it is handed can be written
  abbrev pub IsStopped : O → O → List ItemValue → EmitFault → Type 0
  IsStopped old new items Failed = HasBegun old new items × Rose (faults old) (faults new)
  IsStopped old new items Unwritable = ⊥
  IsStopped old new items NoMemory = HasBegun old new items × (faults new ≡ faults old)

  -- all messages were written, or it was stopped at the last of the first ones
  abbrev pub WritesAll : List ItemValue → WriterValue O → Result (Unit {0}) EmitFault → WriterValue O → Type 0
  WritesAll items old (Ok v) new = HasWritten old [] → HasWritten new items × (new.held ≡ [])
  WritesAll items old (Err fault) new = HasWritten old [] → (first : List ItemValue) × (rest : List ItemValue) × (items ≡ first ++ rest) × IsStopped new.first new.below first fault

  abbrev pub Emits : List ItemValue → O → Result (Unit {0}) EmitFault → O → Type 0
  Emits items old (Ok v) new = (bytes : List ℕ) × AreParts IsItem bytes items × Appends (told old) (told new) bytes × (aside new ≡ aside old) × (faults new ≡ faults old)
  Emits items old (Err fault) new = (first : List ItemValue) × (rest : List ItemValue) × (items ≡ first ++ rest) × IsStopped old new first fault

  -- What a call leaves that relays a session with these effects: the whole stream was written, which is read back; or
  -- nothing, since the session can't be relayed; or a front of the stream. Out of memory, too, nothing was written of a
  -- session that can't be relayed.
  abbrev pub Relays : List EffectValue → O → Result (Unit {0}) EmitFault → O → Type 0
  Relays effects old (Ok v) new = AreWritable effects × (bytes : List ℕ) × IsRelayStream effects bytes × ReadsBack effects bytes × Appends (told old) (told new) bytes × (aside new ≡ aside old) × (faults new ≡ faults old)
  Relays effects old (Err Unwritable) new = ¬ (AreWritable effects) × (new ≡ old)
  Relays effects old (Err Failed) new = AreWritable effects × (s : StreamValue) × IsTold effects s × HasBegun old new (stream_items s) × Rose (faults old) (faults new)
  Relays effects old (Err NoMemory) new = (AreWritable effects ⊎ (new ≡ old)) × (s : StreamValue) × IsTold effects s × HasBegun old new (stream_items s) × (faults new ≡ faults old)
