-- A handle may go to another thread: what it owns says the same to every thread.
use Rattle.std.specs.Prelude.{ℕ, [], ◌∷◌, Option, None, Some}
use mathlib.Core.List.{List}
use mir.Raw.{raw}
use mir.Syntax.{named}
use mir.Val.{Val}
use base.Fraction.{full_share}
use base.Shift.{Keyless}
use denote.RattleType.{RattleType}
use denote.RawPtr.{Ptr, block_ptr, null_ptr, lies_at}
use denote.Memory.{lone}
use denote.Param.Send.{IsSend, part_keyless}
use denote.Signature.{static_lft}
use denote.Struct.Owning.{shape, to}
use denote.Struct.Struct.{Struct}
use Rattle.std.specs.declared.alloc.Global.{Global}
use Rattle.std.proofs.alloc.Global.TheSendSync as heap
use Rattle.std.proofs.Crossing.{frees}
use Rattle.pdb_addr2line.specs.ContextInputs.{ContextState}
use Rattle.pdb_addr2line.specs.contracts.context_data.ContextPdbDataModuleProvider.TheImpl.{ghosts as provider}
use Rattle.pdb_addr2line.proofs.context_data.ContextPdbData.TheSendSync as records
use Rattle.pdb_addr2line.proofs.context.Context.TheSendSync as contexts
use Rattle.pdb_records.specs.Records.{Records}
use Rattle.pdb_c.specs.Handles.{HeldRecords, HeldContext, holds}
use Rattle.pdb_c.specs.contracts.handle.Handle.{the_row, the_type}

held_records : IsSend HeldRecords
held_records = records.the_send static_lft

held_context : (lifetime : ℕ) → IsSend (HeldContext lifetime)
held_context lifetime = contexts.the_send (record {
  mir = named 0;
  lft =
      lifetime ∷ [];
}) HeldRecords provider (records.the_sync static_lft)

lies_keyless : (R : RattleType) → IsSend R → (p : Ptr) (x : R.Denot) → Keyless (lies_at R full_share p x)
lies_keyless R s (block_ptr b o) x = part_keyless R s full_share x b o
lies_keyless R s null_ptr x = tt

holds_keyless : (a : Global) (p q : Ptr) (held : Option (ContextState Records)) → Keyless (holds a p q held)
holds_keyless a p q None = tt
holds_keyless a p q (Some x) = λ it. (
  tt,
  (
    (lies_keyless HeldRecords held_records p it.1, frees.frees a (raw (lone HeldRecords.mir)) p),
    (lies_keyless (HeldContext it.0) (held_context it.0) q x, frees.frees a (raw (lone (HeldContext it.0).mir)) q),
  ),
)

fields_keyless : (d : the_row.Denot) (vs : List Val) → Keyless ((Struct (shape the_type)).own_val (to the_type d) vs)
fields_keyless d vs = λ vss. (tt, (tt, (tt, (heap.the_field_send.owned (to the_type d).1.1.0 vss.1.1.0, tt))))

pub send : IsSend the_row
send = record {
  owned = λ d vs. (fields_keyless d vs, holds_keyless d.alloc d.records d.context d.held);
  leaving = λ k x vs. tt;
}
