-- The memory that a handle owns.
use Rattle.std.specs.Prelude.{ℕ, [], ◌∷◌, Option, None, Some}
use Rattle.std.specs.declared.alloc.Global.{Global}
use Rattle.std.specs.contracts.impls.GlobalAllocator.TheImpl.{ghosts}
use Rattle.std_alloc.specs.Box.Ownership.{box_owns}
use base.Fraction.{full_share}
use base.Fml.{Fml, feq, fsep, fex, flft, flent}
use mir.Raw.{raw}
use mir.Syntax.{named}
use denote.RattleType.{RattleType}
use denote.Memory.{lone}
use denote.RawPtr.{Ptr, null_ptr, lies_at}
use denote.Signature.{static_lft}
use Rattle.pdb_records.specs.Records.{Records}
use Rattle.pdb_addr2line.specs.ContextInputs.{ContextState}
use Rattle.pdb_addr2line.specs.contracts.context_data.ContextPdbData.{the_row as records_row}
use Rattle.pdb_addr2line.specs.contracts.context_data.ContextPdbDataModuleProvider.TheImpl.{ghosts as provider}
use Rattle.pdb_addr2line.specs.contracts.context.Context.{the_row as context_row}

-- the type of the records that a handle owns
abbrev pub HeldRecords : RattleType
HeldRecords = records_row static_lft

-- the type of a context that borrows from such records for a lifetime
abbrev pub HeldContext : ℕ → RattleType
HeldContext lifetime = context_row (record { mir = named 0; lft = lifetime ∷ [] }) HeldRecords provider

-- records at a pointer, borrowed for a lifetime, and the right to free their block
abbrev pub lends_records : Global → Ptr → ℕ → Records → Fml
lends_records alloc at lifetime records =
    fsep (flent (lifetime ∷ []) (lies_at HeldRecords full_share at records))
    (ghosts.dealloc_token alloc (raw (lone HeldRecords.mir)) at)

-- the context at a pointer, in a block of its own
abbrev pub owns_context : Global → Ptr → ℕ → ContextState Records → Fml
owns_context alloc at lifetime context = box_owns (ghosts.dealloc_token alloc) (HeldContext lifetime) at context

-- a lifetime that hasn't ended, records that are borrowed for it, and a context that borrows from them
abbrev pub holds_for : Global → Ptr → Ptr → ContextState Records → ℕ × Records → Fml
holds_for alloc records_at context_at context held =
    fsep (flft (held.0 ∷ []) full_share)
    (fsep (lends_records alloc records_at held.0 held.1) (owns_context alloc context_at held.0 context))

-- the second pointer of a closed handle is null; those of an open one point to records and to a context over them
abbrev pub holds : Global → Ptr → Ptr → Option (ContextState Records) → Fml
holds alloc records_at context_at None = feq Ptr context_at null_ptr
holds alloc records_at context_at (Some context) =
    fex (ℕ × Records) (holds_for alloc records_at context_at context)
