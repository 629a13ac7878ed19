use Rattle.std.proofs.Common.{refl, arith}
use Rattle.pdb_addr2line.proofs.answer_laws.own_row_beside_an_added_range_is_outside.Goals as goal

pub returns : goal.returns
returns c = λ sole. let same = sole _ _ (0, omega arith, refl) (2, omega arith, refl) refl refl refl in
    absurd (omega (arith, same))
