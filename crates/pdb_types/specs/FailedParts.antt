-- The parts of the records that failed.
use Rattle.std.specs.Prelude.{Bool, List, Option}
use Rattle.std.specs.declared.cmp.Ordering.{Ordering}
use Rattle.std.specs.declared.cmp.Ordering.TheVariants.{Less, Greater}
use Rattle.std.specs.Ordering.{nat_cmp}
use Rattle.pdb_errors.specs.declared.error.Error.{Error}
use Rattle.pdb_errors.specs.declared.error.Error.TheVariants.{ModuleImportsUnsuccessful, ModuleExportsUnsuccessful}
use Rattle.pdb_types.specs.declared.read_error.Part.{Part}
use Rattle.pdb_types.specs.declared.read_error.Part.TheVariants.{Imports, Exports}
use Rattle.pdb_errors.specs.Errors.{ErrorView, Plain}
use Rattle.pdb_errors.specs.PartSet.{has_part, add_part, add_met, error_of_part}

-- the order of parts: imports before exports, each by module index
abbrev pub part_cmp : Part → Part → Ordering
part_cmp (Imports a) (Imports b) = nat_cmp a b
part_cmp (Imports a) (Exports b) = Less
part_cmp (Exports a) (Imports b) = Greater
part_cmp (Exports a) (Exports b) = nat_cmp a b

-- a set of parts, each once and in order
abbrev pub Parts : Type 0
Parts = List Part

-- a part is among those that failed
abbrev pub has_failed : Parts → Part → Bool
has_failed failed part = has_part part_cmp failed part

-- these parts, and one more
abbrev pub with_part : Parts → Part → Parts
with_part failed part = add_part part_cmp failed part

-- these parts, and the one that was found broken, if any
abbrev pub with_met : Parts → Option Part → Parts
with_met failed met = add_met part_cmp failed met

-- the error of a part that failed before
abbrev pub unsuccessful_part : Part → Error
unsuccessful_part (Imports module_index) = ModuleImportsUnsuccessful
unsuccessful_part (Exports module_index) = ModuleExportsUnsuccessful

-- the view of the error of a part that failed before
abbrev pub unsuccessful : Part → ErrorView
unsuccessful part = Plain (unsuccessful_part part)

-- the error for a broken part: that it failed before, if it did, otherwise its own error
abbrev pub part_error : Parts → Part → ErrorView → ErrorView
part_error failed part e = error_of_part part_cmp unsuccessful failed part e
