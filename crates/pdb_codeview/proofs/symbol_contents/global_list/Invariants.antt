-- The symbols are those that were read and those that are left.
use Rattle.std.proofs.Common.{◌≡◌, ◌++◌, drop, map}
use Rattle.pdb_codeview.specs.SymbolContents.{global_symbol}
use Rattle.pdb_codeview.proofs.symbol_contents.global_list.Given as goal

abbrev pub invariant-loop-symbol : goal.invariant-loop-symbol
invariant-loop-symbol l =
    map global_symbol l.list.items ≡ l.items.items ++ map global_symbol (drop l.symbol-index l.list.items)
