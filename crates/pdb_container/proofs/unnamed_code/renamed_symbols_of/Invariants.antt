-- What becomes of the symbols is what was listed, and what becomes of those of the code that is left.
use Rattle.std.proofs.Common.{◌≡◌, ◌++◌, drop}
use Rattle.std.specs.BTreeMap.{get}
use Rattle.std.specs.Ordering.{nat_cmp}
use Rattle.pdb_container.specs.FunctionsByStart.{seen}
use Rattle.pdb_container.specs.UnnamedCode.{renamed_symbols}
use Rattle.pdb_container.proofs.unnamed_code.renamed_symbols_of.Given as goal

abbrev pub invariant-loop-code : goal.invariant-loop-code
invariant-loop-code l = renamed_symbols (λ asked. seen (get nat_cmp l.functions asked)) l.room l.codes
    ≡ l.list.items ++ renamed_symbols (λ asked. seen (get nat_cmp l.functions asked)) l.left (drop l.code-index l.codes)
