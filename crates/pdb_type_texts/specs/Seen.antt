-- Indices that were seen.
use Rattle.std.specs.Prelude.{◌≡◌, ℕ, Bool, true, false, ◌==◌, ◌&&◌, not, List}
use Rattle.std.specs.List.{list_any}
use Rattle.std.specs.Ordering.{nat_cmp}
use Rattle.std.specs.BTreeSet.{BTreeSet, contains}
use Rattle.pdb_records.specs.declared.types.TypeIndex.{TypeIndex}
use Rattle.pdb_errors.specs.declared.error.Error.{Error}
use Rattle.pdb_errors.specs.declared.error.Error.TheVariants.{CircularTypeDefinition}
use Rattle.pdb_errors.specs.declared.error.Error.TheVariants as error
use Rattle.pdb_type_texts.specs.declared.seen.SeenError.{SeenError}
use Rattle.pdb_type_texts.specs.declared.seen.SeenError.TheVariants.{Already, OutOfMemory}

-- whether a set has the index with this number
abbrev pub has : BTreeSet TypeIndex → ℕ → Bool
has set q = contains (λ a b. nat_cmp a.0 b.0) set (record { 0 = q })

-- whether one of these indices has this number
abbrev pub holds : List TypeIndex → ℕ → Bool
holds indices q = list_any (λ index. q == index.0) indices

-- whether a set had the index with this number before a level inserted these
abbrev pub base : BTreeSet TypeIndex → List TypeIndex → ℕ → Bool
base set inserted q = has set q && not (holds inserted q)

-- the error for a refused index
abbrev pub error_of : SeenError → Error
error_of (Already seen) = CircularTypeDefinition seen.0.0
error_of OutOfMemory = error.OutOfMemory

-- an index was refused: it was there before, or an allocation failed
abbrev pub IsRefusal : SeenError → TypeIndex → Bool → Type 0
IsRefusal (Already seen) index there = (seen.0 ≡ index) × (there ≡ true)
IsRefusal OutOfMemory index there = there ≡ false
