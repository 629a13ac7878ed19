-- The answers of a session for the symbol file of its PDB file.
use Rattle.std.specs.Prelude.{◌≡◌, ℕ, Option, Ok}
use Rattle.pdb_records.specs.Records.{Records}
use Rattle.pdb_frames.specs.Frame.{FramesInfo}
use Rattle.pdb_addr2line.specs.ContextData.{context_of}
use Rattle.pdb_addr2line.specs.ContextInputs.{ContextInputs}
use Rattle.pdb_addr2line.specs.Lookups.{frames_at}
use Rattle.pdb_addr2line.specs.NamedFunctions.{named_answer, symbol_name_at}
use Rattle.pdb_known.specs.Known.{IsPartOf, infos_of}
use Rattle.pdb_session.specs.Session.{ContextOverPart}

-- the answer at an address is that of a context over all records of the file; a function without a name gets that of
-- its symbol
abbrev pub IsAnswerOverAll : ContextOverPart → ℕ → Option FramesInfo → Type 0
IsAnswerOverAll context address answer =
    (whole : Records) (inputs : ContextInputs Records)
    → IsPartOf context.known whole → context_of context.flags whole ≡ Ok inputs
    → named_answer (symbol_name_at infos_of inputs address) (frames_at infos_of inputs address) ≡ Ok answer
