-- Arrays: the type of their elements, and their dimensions.
use Rattle.std.specs.Prelude.{ℕ, List}
use Rattle.pdb_records.specs.declared.types.TypeIndex.{TypeIndex}

-- an element type, and at least one dimension, in bytes
pub record Dimensions : Type 0 where
  pub element_type : TypeIndex
  pub first : ℕ
  pub rest : List ℕ
