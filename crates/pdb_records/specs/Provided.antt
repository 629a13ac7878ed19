-- The answers of a provider of modules.
use Rattle.std.specs.Prelude.{ℕ, Option, Result, Ok, Err}
use Rattle.std.specs.Option.{option_copied}
use Rattle.std.specs.Borrow.{Bor}
use Rattle.pdb_records.specs.declared.error.StreamError.{StreamError}
use Rattle.pdb_records.specs.declared.debug_information.Module.{Module}
use Rattle.pdb_records.specs.declared.modules.ModuleInfo.{ModuleInfo}

-- the records that a provider's answer borrows
abbrev pub provided : Result (Option (Bor ModuleInfo)) StreamError → Result (Option ModuleInfo) StreamError
provided (Ok info) = Ok (option_copied info)
provided (Err fault) = Err fault

-- the records of each module, by module index and module, as a provider answers them
abbrev pub ProviderInfos : Type 0
ProviderInfos = ℕ → Module → Result (Option ModuleInfo) StreamError
