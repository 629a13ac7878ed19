-- The symbols are those that were read and those that are left, after the code that was read last.
use Rattle.std.proofs.Common.{◌≡◌, ◌++◌, drop}
use Rattle.pdb_codeview.specs.InlineSites.{code_of}
use Rattle.pdb_codeview.specs.SymbolContents.{no_code, symbols_from}
use Rattle.pdb_codeview.proofs.symbol_contents.module_list.Given as goal

abbrev pub invariant-loop-symbol : goal.invariant-loop-symbol
invariant-loop-symbol l = symbols_from (code_of l.code) l.list.items no_code l.list.items
    ≡ l.items.items ++ symbols_from (code_of l.code) l.list.items l.at (drop l.symbol-index l.list.items)
