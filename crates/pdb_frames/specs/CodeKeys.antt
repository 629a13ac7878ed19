-- The orders of the keys of modules' code: different keys don't compare as equal.
use Rattle.std.proofs.Common.{ap}
use Rattle.std.proofs.lemmas.Map.Lookups.{exact_unsigned, exact_pairs}
use Rattle.std.specs.Ordering.{nat_cmp}
use Rattle.std.specs.FinMap.{IsAntisymmetric}
use Rattle.pdb_frames.specs.CodeCaches.{function_cmp, procedure_cmp}

-- only the same function compares as equal
pub function_cmp-IsAntisymmetric : IsAntisymmetric function_cmp
function_cmp-IsAntisymmetric a b tied =
    ap (λ key. record { module_index = key.0; section = key.1.0; offset = key.1.1 })
    (exact_pairs nat_cmp _ exact_unsigned (exact_pairs nat_cmp nat_cmp exact_unsigned exact_unsigned)
    (a.module_index, (a.section, a.offset)) (b.module_index, (b.section, b.offset)) tied)

-- only the same procedure compares as equal
pub procedure_cmp-IsAntisymmetric : IsAntisymmetric procedure_cmp
procedure_cmp-IsAntisymmetric a b tied =
    ap (λ key. record { module_index = key.0; symbol = key.1.0; end = key.1.1 })
    (exact_pairs nat_cmp _ exact_unsigned (exact_pairs nat_cmp nat_cmp exact_unsigned exact_unsigned)
    (a.module_index, (a.symbol, a.end)) (b.module_index, (b.symbol, b.end)) tied)
