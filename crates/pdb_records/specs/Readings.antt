-- Lists that were read, with the fault that ended them.
use Rattle.std.specs.Prelude.{List, Option}
use Rattle.pdb_records.specs.declared.error.StreamError.{StreamError}

-- the entries in order, and the fault after them, if there is one
pub record Read (T : Type 0) : Type 0 where
  pub items : List T
  pub fault : Option StreamError
