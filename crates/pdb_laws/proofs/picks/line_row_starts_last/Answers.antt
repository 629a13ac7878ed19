use Rattle.std.specs.Prelude.{nat_le}
use Rattle.pdb_tables.proofs.PickLemmas.{pick_is_picked}
use Rattle.pdb_laws.proofs.picks.line_row_starts_last.Goals as goal

pub returns : goal.returns
returns c = λ rows offset. pick_is_picked (λ row. nat_le row.offset offset) (λ row. row.offset) rows
