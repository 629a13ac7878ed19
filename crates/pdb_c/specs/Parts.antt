-- Parts of a PDB file that are read for some addresses.
use Rattle.std.specs.Prelude.{◌≡◌, ℕ, ℤ, true, List, length, map, Option, None, Some, Result, Ok, Err}
use Rattle.pdb_records.specs.Records.{Records}
use Rattle.pdb_addr2line.specs.ContextInputs.{ContextState}
use Rattle.pdb_known.specs.Known.{Known}
use Rattle.pdb_known.specs.StrictlyClosed.{is_strictly_closed}
use Rattle.pdb_session.specs.FileParts.{IsPartOfFile}
use Rattle.pdb_session.specs.Session.{needs_none}
use Rattle.pdb_c.specs.declared.call_error.CallError.{CallError}
use Rattle.pdb_c.specs.declared.call_error.CallError.TheVariants.{Closed}
use Rattle.pdb_c.specs.Buffers.{Answers}
use Rattle.pdb_c.specs.FoundFrames.{flag_number}
use Rattle.pdb_c.specs.Openings.{context_over}
use Rattle.pdb_c.specs.Questions.{is_read_at}

-- a flag for each module: 1 if it was read, and else 0. Once all of a file was read there are none
abbrev pub flags_of : Known → List ℕ
flags_of known = map flag_number known.modules

-- a context is over a part of a file: nothing in the part leads to something that wasn't read, it is enough for answers
-- at these addresses, and these flags say which modules it has
pub record OverPart (file addresses flags : List ℕ) (context : ContextState Records) : Type 0 where
  pub known : Known
  pub part : IsPartOfFile known (Some file) (length file)
  pub closed : is_strictly_closed known ≡ true
  pub enough : needs_none known addresses ≡ true
  pub modules : flags ≡ flags_of known
  pub made : context_over known.records ≡ Ok context

-- what a handle holds once a part of a file was put into it, with these flags: a context over the part, or else what it
-- held
abbrev pub LeavesPart : (file addresses : List ℕ) → Result (List ℕ) CallError
    → (held held' : Option (ContextState Records)) → Type 0
LeavesPart file addresses (Ok flags) held (Some context) = OverPart file addresses flags context
LeavesPart file addresses (Ok flags) held None = ⊥
LeavesPart file addresses (Err refusal) held held' = held' ≡ held

-- how the opening of a part ends: with the flags of its modules, or refused
pub record EndsWithPart (file addresses : List ℕ) (held held' : Option (ContextState Records))
    (before after : List ℕ) (wanted : ℕ) (answer : ℤ) : Type 0 where
  pub found : Result (List ℕ) CallError
  pub left : Answers found before after wanted answer
  pub holds : LeavesPart file addresses found held held'

-- whether the module whose code lies at an address was read, as a number; refused where no context is held
abbrev pub flag_of_handle : Option (ContextState Records) → List ℕ → ℕ → Result ℕ CallError
flag_of_handle None flags address = Err Closed
flag_of_handle (Some context) flags address = Ok (flag_number (is_read_at flags context address))
