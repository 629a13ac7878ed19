-- Why answers over a file end early.
use Rattle.std.specs.Prelude.{◌≡◌, ◌==◌, ◌⊎◌, ℕ, Bool, true, List, length, Some, Err}
use Rattle.pdb_records.specs.Records.{Records}
use Rattle.pdb_errors.specs.declared.error.Error.{Error}
use Rattle.pdb_types.specs.declared.flags.TypeFormatterFlags.{TypeFormatterFlags}
use Rattle.pdb_addr2line.specs.ContextData.{context_of, records_refusal}
use Rattle.pdb_symbolizer_input.specs.EndReasons.{MayEnd, NoFile, NoRefusal, reason_of}
use Rattle.pdb_symbolizer_input.specs.declared.options.Options.{Options}
use Rattle.pdb_symbolizer_input.specs.declared.run_errors.RunError.{RunError}

-- the errors for which lines of an input aren't read
abbrev pub EndsInput : RunError → Type 0
EndsInput error = MayEnd true true NoFile NoRefusal (reason_of error)

-- the errors for which lines of an input aren't answered by a context over the known records
abbrev pub EndsLines : Bool → RunError → Type 0
EndsLines takes_all error = MayEnd takes_all true NoFile NoRefusal (reason_of error)

-- no context can be made over records, for this error: a stream that it can't do without can't be read, or a table that
-- it needs is refused
abbrev pub RefuseContext : TypeFormatterFlags → Records → Error → Type 0
RefuseContext flags records error = (records_refusal records ≡ Some error) ⊎ (context_of flags records ≡ Err error)

-- whether lines of the input are read: if the command line has no addresses
abbrev pub reads_input : Options → Bool
reads_input options = length options.addresses.items == 0

-- the errors for which answers over the file at a path end early, if these records were read of it
abbrev pub EndsAnswers : Bool → Bool → List ℕ → TypeFormatterFlags → Records → RunError → Type 0
EndsAnswers takes_all reads_input path flags records error =
    MayEnd takes_all reads_input (λ file. file ≡ path) (RefuseContext flags records) (reason_of error)
