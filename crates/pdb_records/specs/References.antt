-- References across modules.
use Rattle.std.specs.Prelude.{ℕ, ◌/◌, ◌%◌, ◌^◌, ◌==◌, List, Option, Some, None, Result}
use Rattle.std.specs.Prelude.{Ok, Err, option_map, option_and_then, find, slice_get}
use Rattle.pdb_records.specs.Imports.{Imported}
use Rattle.pdb_records.specs.declared.error.Error.{Error}
use Rattle.pdb_records.specs.declared.error.Error.TheVariants.{CrossModuleRefNotFound}
use Rattle.pdb_records.specs.declared.strings.StringRef.{StringRef}

-- the module at bits 20 to 30 of an import's index
abbrev pub imported_module : List Imported → ℕ → Option Imported
imported_module modules index = slice_get modules ((index / 2 ^ 20) % 2 ^ 11)

-- the name of an imported module, and the number there for an import's index, whose bits 0 to 19 are the position
abbrev pub import_at : List Imported → ℕ → Option (StringRef × ℕ)
import_at modules index =
    option_and_then (λ m. option_map (λ number. (m.module_name, number)) (slice_get m.locals (index % 2 ^ 20)))
    (imported_module modules index)

-- the import that was found, or the error with its index
abbrev pub found_import : ℕ → Option (StringRef × ℕ) → Result (StringRef × ℕ) Error
found_import index None = Err (CrossModuleRefNotFound index)
found_import index (Some entry) = Ok entry

-- the import for an index
abbrev pub imported : List Imported → ℕ → Result (StringRef × ℕ) Error
imported modules index = found_import index (import_at modules index)

-- the index of the first export with this number
abbrev pub exported : ℕ → List (ℕ × ℕ) → Option ℕ
exported number exports = option_map (λ e. e.1) (find (λ e. e.0 == number) exports)
