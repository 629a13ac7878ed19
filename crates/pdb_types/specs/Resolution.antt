-- Resolving indices that refer to other modules.
use Rattle.std.specs.Prelude.{ℕ, ◌^◌, List, Option, Some, None, Result, Ok, Err, nat_lt, slice_get, if◌then◌else◌}
use Rattle.std.specs.Str.{str_to_ascii_lowercase}
use Rattle.pdb_records.specs.Names.{lossy}
use Rattle.pdb_records.specs.Imports.{Imported}
use Rattle.pdb_records.specs.References.{imported, exported}
use Rattle.pdb_records.specs.Strings.{string_at}
use Rattle.pdb_records.specs.declared.error.StreamError.{StreamError}
use Rattle.pdb_records.specs.declared.error.Error as records
use Rattle.pdb_records.specs.declared.error.Error.TheVariants.{Stream, StringNotFound}
use Rattle.pdb_records.specs.declared.strings.StringRef.{StringRef}
use Rattle.pdb_records.specs.declared.debug_information.Module.{Module}
use Rattle.pdb_records.specs.declared.modules.ModuleInfo.{ModuleInfo}
use Rattle.pdb_errors.specs.declared.error.Error.{Error}
use Rattle.pdb_errors.specs.declared.error.Error.TheVariants.{PdbError, OutOfRangeModuleIndex, ModuleInfoNotFound}
use Rattle.pdb_errors.specs.declared.error.Error.TheVariants.{CantResolveCrossModuleRefWithoutStringTable}
use Rattle.pdb_errors.specs.declared.error.Error.TheVariants.{LocalIndexNotInExports}
use Rattle.pdb_types.specs.declared.read_error.Part.{Part}
use Rattle.pdb_types.specs.declared.read_error.Part.TheVariants.{Imports, Exports}
use Rattle.pdb_errors.specs.Errors.{Plain, NoModuleNamed}
use Rattle.pdb_types.specs.ModuleNames.{is_named, last_position_from}
use Rattle.pdb_errors.specs.Outcomes.{and_then, streamed}
use Rattle.pdb_types.specs.TypeInputs.{LinkInputs}
use Rattle.pdb_types.specs.ReadError.{ReadErrorView, Refused, Broken, read_error_view_by}

-- the records of the module with this index, by a provider's answer
abbrev pub provided_info : ℕ → Result (Option ModuleInfo) StreamError → Result ModuleInfo Error
provided_info module_index (Ok (Some info)) = Ok info
provided_info module_index (Ok None) = Err (ModuleInfoNotFound module_index)
provided_info module_index (Err fault) = Err (PdbError (Stream fault))

-- the records of a module; an error if the list doesn't have the module index
abbrev pub info_of : LinkInputs → ℕ → Option Module → Result ModuleInfo Error
info_of link module_index None = Err (OutOfRangeModuleIndex module_index)
info_of link module_index (Some m) = provided_info module_index (link.info module_index m)

-- the records of the module with this index
abbrev pub module_info : LinkInputs → ℕ → Result ModuleInfo Error
module_info link module_index = info_of link module_index (slice_get link.modules module_index)

-- the imports of the module with this index
abbrev pub imports : LinkInputs → ℕ → Result (List Imported) Error
imports link module_index = and_then (module_info link module_index) (λ info. streamed info.imports)

-- the exports of the module with this index
abbrev pub exports : LinkInputs → ℕ → Result (List (ℕ × ℕ)) Error
exports link module_index = and_then (module_info link module_index) (λ info. streamed info.exports)

-- the result of reading a part of the records; with an error it is broken
abbrev pub unbroken : {A : Type 0} → Part → Result A Error → Result A ReadErrorView
unbroken part (Ok content) = Ok content
unbroken part (Err e) = Err (Broken part (Plain e))

-- a result of the records, with its error as a read error
abbrev pub answered : {A : Type 0} → Result A records.Error → Result A ReadErrorView
answered (Ok answer) = Ok answer
answered (Err e) = Err (read_error_view_by e)

-- the texts; without them no index can be resolved to another module
abbrev pub texts : Option (List (StringRef × List ℕ)) → Result (List (StringRef × List ℕ)) ReadErrorView
texts None = Err (Refused (Plain CantResolveCrossModuleRefWithoutStringTable))
texts (Some strings) = Ok strings

-- the text under a reference
abbrev pub found_text : StringRef → Option (List ℕ) → Result (List ℕ) ReadErrorView
found_text reference None = Err (read_error_view_by (StringNotFound reference.0))
found_text reference (Some text) = Ok text

-- the module that was found by a name, or the name in lower case
abbrev pub found_module : List ℕ → Option ℕ → Result ℕ ReadErrorView
found_module name None = Err (Refused (NoModuleNamed (str_to_ascii_lowercase (lossy name))))
found_module name (Some module_index) = Ok module_index

-- the module with this name; of several the one with the greatest module index
abbrev pub module_named : List Module → List ℕ → Result ℕ ReadErrorView
module_named modules name = found_module name (last_position_from 0 (is_named name) modules)

-- the module whose name is under a reference
abbrev pub module_under : List Module → List (StringRef × List ℕ) → StringRef → Result ℕ ReadErrorView
module_under modules strings reference =
    and_then (found_text reference (string_at reference strings)) (λ name.
    module_named modules name)

-- the index that was found under a number of a module's exports
abbrev pub found_export : ℕ → Option ℕ → Result ℕ ReadErrorView
found_export local None = Err (Refused (Plain (LocalIndexNotInExports local)))
found_export local (Some index) = Ok index

-- the index that a module exports under a number
abbrev pub export_of : LinkInputs → ℕ → ℕ → Result ℕ ReadErrorView
export_of link local module_index =
    and_then (unbroken (Exports module_index) (exports link module_index)) (λ list.
    found_export local (exported local list))

-- the index that an import refers to: the name of the other module, and the number there
abbrev pub import_target : LinkInputs → List (StringRef × List ℕ) → StringRef × ℕ → Result ℕ ReadErrorView
import_target link strings (reference, local) =
    and_then (module_under link.modules strings reference) (λ module_index.
    export_of link local module_index)

-- the index to which an index resolves that refers to another module; the module with this module index has it
abbrev pub across : LinkInputs → ℕ → ℕ → Result ℕ ReadErrorView
across link module_index index =
    and_then (texts link.strings) (λ strings.
    and_then (unbroken (Imports module_index) (imports link module_index)) (λ list.
    and_then (answered (imported list index)) (λ target.
    import_target link strings target)))

-- the index to which an index resolves: with bit 31 it refers to another module, otherwise it is itself
abbrev pub resolved : LinkInputs → ℕ → ℕ → Result ℕ ReadErrorView
resolved link module_index index = if nat_lt index (2 ^ 31) then Ok index else across link module_index index
