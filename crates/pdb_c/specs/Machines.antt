-- Which processor the program of a PDB file is for.
use Rattle.std.specs.Prelude.{◌≡◌, ℕ, ℤ, pos, List, Option, Some, None, Result, Ok, Err}
use Rattle.std.specs.Option.{option_map_or}
use Rattle.pdb_errors.specs.Outcomes.{and_then}
use Rattle.pdb_container.specs.declared.identity.PdbIdentity.{PdbIdentity}
use Rattle.pdb_container.specs.DebugRecords.{of_file}
use Rattle.pdb_container.specs.Identity.{identity}
use Rattle.pdb_c.specs.declared.call_error.CallError.{CallError}
use Rattle.pdb_c.specs.declared.call_error.CallError.TheVariants.{NoDebugId}
use Rattle.pdb_c.specs.CallError.{code, refusal_of_container}
use Rattle.pdb_c.specs.ReportTexts.{Agrees, with_refusal}

-- the number of the processor in a file's identity: 0 if the identity has none, and a refusal if there is no identity
abbrev pub number_in : Option PdbIdentity → Result ℕ CallError
number_in None = Err NoDebugId
number_in (Some found) = Ok (option_map_or (λ machine. machine.0) found.machine 0)

-- the number of the processor that the program of a PDB file is for, by the file's bytes
abbrev pub machine_number : List ℕ → Result ℕ CallError
machine_number bytes = and_then (with_refusal refusal_of_container (of_file identity bytes)) number_in

-- a number, or the return value for a refusal
abbrev pub number_or_code : Result ℕ CallError → ℤ
number_or_code (Ok number) = pos number
number_or_code (Err refusal) = code refusal

-- the end of a call for a number: it has the defined number or refusal, except after an allocation failure
pub record EndsWithNumber (asked : Result ℕ CallError) (answer : ℤ) : Type 0 where
  pub found : Result ℕ CallError
  pub agrees : Agrees (λ number. number) found asked
  pub is : answer ≡ number_or_code found
