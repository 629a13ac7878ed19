-- Opening a handle: the records that are read, the context over them, and the result.
use Rattle.std.specs.Prelude.{◌≡◌, ◌≢◌, ℕ, ℤ, pos, List, Option, None, Some, Result, Ok, Err}
use Rattle.std.specs.Result.{result_map_both}
use Rattle.pdb_records.specs.Records.{Records}
use Rattle.pdb_msf.specs.declared.container_error.ContainerError.{ContainerError}
use Rattle.pdb_errors.specs.declared.error.Error.{Error}
use Rattle.pdb_errors.specs.Outcomes.{and_then}
use Rattle.pdb_addr2line.specs.ContextInputs.{ContextInputs, ContextState}
use Rattle.pdb_addr2line.specs.ContextData.{records_refusal, default_flags, context_of}
use Rattle.pdb_addr2line.specs.Calls.{fresh}
use Rattle.pdb_container.specs.PdbFile.{records_of}
use Rattle.pdb_repairs.specs.Repaired.{repaired}
use Rattle.pdb_c.specs.declared.call_error.CallError.{CallError}
use Rattle.pdb_c.specs.declared.call_error.CallError.TheVariants.{RecordsRefused, OutOfMemory}
use Rattle.pdb_c.specs.CallError.{code}
use Rattle.pdb_c.specs.ReportTexts.{Agrees, records_in}

-- the records, or a refusal if a stream of theirs can't be read
abbrev pub unless_refused : Option Error → Records → Result Records CallError
unless_refused None records = Ok records
unless_refused (Some error) records = Err RecordsRefused

-- the records, or the refusal if they can have no context
abbrev pub accepted_records : Records → Result Records CallError
accepted_records records = unless_refused (records_refusal records) records

-- a context over inputs, without failed parts; or the refusal for records without a context
abbrev pub fresh_context : Result (ContextInputs Records) Error → Result (ContextState Records) CallError
fresh_context (Ok inputs) = Ok (fresh inputs)
fresh_context (Err error) = Err RecordsRefused

-- the context over readable records, without failed parts
abbrev pub context_over : Records → Result (ContextState Records) CallError
context_over records = fresh_context (context_of default_flags records)

-- the records that opening reads from the bytes of a records file and of its module files, or why it is refused
abbrev pub records_to_open : List ℕ → List (List ℕ) → Result Records CallError
records_to_open bytes files = and_then (records_in bytes files) accepted_records

-- the context that opening makes over these records, or why it is refused
abbrev pub context_to_open : List ℕ → List (List ℕ) → Result (ContextState Records) CallError
context_to_open bytes files = and_then (records_to_open bytes files) context_over

-- the content of a handle with this context
abbrev pub held_by : Result (ContextState Records) CallError → Result (Option (ContextState Records)) CallError
held_by (Ok context) = Ok (Some context)
held_by (Err refusal) = Err refusal

-- the content of a handle after records were opened in it: the context over them, or its old content
abbrev pub LeavesOpened : {A : Type 0} → Result A CallError → Result (ContextState Records) CallError
    → (held held' : Option (ContextState Records)) → Type 0
LeavesOpened (Ok answer) wanted held held' = held_by wanted ≡ Ok held'
LeavesOpened (Err refusal) wanted held held' = (held' ≡ held) × (refusal ≢ OutOfMemory → wanted ≡ Err refusal)

-- the content of the handle and the return value after opening, by the context or the refusal
abbrev pub Leaves : Result (ContextState Records) CallError → Option (ContextState Records) → ℤ → Type 0
Leaves (Ok context) held answer = (held ≡ Some context) × (answer ≡ pos 0)
Leaves (Err refusal) held answer = (held ≡ None) × (answer ≡ code refusal)

-- the end of opening: it has the defined context or refusal, except after an allocation failure
pub record Opens (wanted : Result (ContextState Records) CallError) (held : Option (ContextState Records)) (answer : ℤ)
    : Type 0 where
  pub found : Result (ContextState Records) CallError
  pub agrees : Agrees (λ context. context) found wanted
  pub left : Leaves found held answer

-- the repaired records of a PDB file
abbrev pub repaired_file : List ℕ → Result Records ContainerError
repaired_file bytes = result_map_both repaired (λ fault. fault) (records_of bytes)

-- a context over the repaired records of a PDB file, without failed parts
pub record OverFile (bytes : List ℕ) (context : ContextState Records) : Type 0 where
  pub records : Records
  pub read : repaired_file bytes ≡ Ok records
  pub made : context_over records ≡ Ok context

-- the content of a handle after a PDB file was opened in it: a context over its records, or its old content
abbrev pub LeavesOver : {A : Type 0} → List ℕ → Result A CallError → (held held' : Option (ContextState Records))
    → Type 0
LeavesOver bytes (Ok answer) held (Some context) = OverFile bytes context
LeavesOver bytes (Ok answer) held None = ⊥
LeavesOver bytes (Err refusal) held held' = held' ≡ held

-- the return value is that for some refusal
pub record RefusedBy (answer : ℤ) : Type 0 where
  pub why : CallError
  pub is : answer ≡ code why

-- the result of opening a PDB file: a context over its records and 0, or no context and the value for a refusal
abbrev pub LeavesFile : List ℕ → Option (ContextState Records) → ℤ → Type 0
LeavesFile bytes (Some context) answer = OverFile bytes context × (answer ≡ pos 0)
LeavesFile bytes None answer = RefusedBy answer
