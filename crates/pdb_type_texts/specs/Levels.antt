-- Levels of open indices: how a level changes while another one is above it, and when that one ends.
use denote.RattleType.{RattleType}
use mir.Syntax.{named}
use Rattle.std.specs.Prelude.{[]}
use Rattle.std.specs.Borrow.{Lends, MutBor, Fml}
use Rattle.std.specs.BTreeSet.{BTreeSet}
use Rattle.std.specs.contracts.alloc.Global as global
use Rattle.std.specs.contracts.vec.Vec as vec
use Rattle.std.specs.contracts.collections.BTreeSet as set
use Rattle.std.specs.contracts.impls.GlobalAllocator.TheImpl.{ghosts}
use Rattle.pdb_records.specs.declared.types.TypeIndex.{TypeIndex}
use Rattle.pdb_records.specs.contracts.types.TypeIndex as index
use Rattle.pdb_records.specs.contracts.types.TypeIndexOrd.TheImpl as ord
use Rattle.pdb_records.specs.contracts.types.TypeIndexPartialEq.TheImpl as eq
use Rattle.pdb_records.specs.contracts.types.TypeIndexPartialOrd.TheImpl as partial_ord
use Rattle.pdb_type_texts.specs.contracts.seen.Seen as level

-- the row of sets of indices
abbrev pub set_row : RattleType
set_row = set.the_row index.the_row global.the_row ord.ghosts eq.ghosts partial_ord.ghosts ghosts

-- the row of levels
abbrev pub level_row : RattleType
level_row = level.the_row (record { mir = named 1; lft = [] }) (vec.the_row index.the_row global.the_row ghosts)

-- a level with another set; its own inserted indices and its reference stay
abbrev pub with_set : level_row.Denot → BTreeSet TypeIndex → level_row.Denot
with_set below set = record below { set = record below.set { now = set } }

-- a level ends with the set of the level above it; its own inserted indices and its reference stay
abbrev pub LendsSet : MutBor level_row.Denot → MutBor (BTreeSet TypeIndex) → Fml
LendsSet below above = Lends level_row set_row below above (with_set below.now)
