-- The errors of printing a type, a signature or an id.
use Rattle.std.specs.Prelude.{⊤}
use Rattle.pdb_errors.specs.declared.error.Error.TheVariants.{PdbError, ArgumentTypeNotArgumentList}
use Rattle.pdb_errors.specs.declared.error.Error.TheVariants.{FunctionIdIsNotProcedureType}
use Rattle.pdb_errors.specs.declared.error.Error.TheVariants.{MemberFunctionIdIsNotMemberFunctionType}
use Rattle.pdb_errors.specs.declared.error.Error.TheVariants.{CantResolveCrossModuleRefWithoutStringTable}
use Rattle.pdb_errors.specs.declared.error.Error.TheVariants.{ModuleImportsUnsuccessful, ModuleExportsUnsuccessful}
use Rattle.pdb_errors.specs.declared.error.Error.TheVariants.{LocalIndexNotInExports, OutOfRangeModuleIndex}
use Rattle.pdb_errors.specs.declared.error.Error.TheVariants.{ModuleInfoNotFound, CircularTypeDefinition}
use Rattle.pdb_errors.specs.Errors.{ErrorView, Plain, NoModuleNamed}

-- an error of the records, of an index that refers to another module, of the type of a function or of its argument
-- list, or of an index that repeats
abbrev pub IsPrintError : ErrorView → Type 0
IsPrintError (Plain (PdbError e)) = ⊤
IsPrintError (Plain CantResolveCrossModuleRefWithoutStringTable) = ⊤
IsPrintError (Plain (OutOfRangeModuleIndex module_index)) = ⊤
IsPrintError (Plain (ModuleInfoNotFound module_index)) = ⊤
IsPrintError (Plain ModuleImportsUnsuccessful) = ⊤
IsPrintError (Plain ModuleExportsUnsuccessful) = ⊤
IsPrintError (Plain (LocalIndexNotInExports local)) = ⊤
IsPrintError (NoModuleNamed name) = ⊤
IsPrintError (Plain ArgumentTypeNotArgumentList) = ⊤
IsPrintError (Plain MemberFunctionIdIsNotMemberFunctionType) = ⊤
IsPrintError (Plain FunctionIdIsNotProcedureType) = ⊤
IsPrintError (Plain (CircularTypeDefinition index)) = ⊤
IsPrintError other = ⊥
