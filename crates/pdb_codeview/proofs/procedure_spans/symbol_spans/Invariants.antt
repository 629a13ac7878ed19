-- The spans of all symbols are those that were written, and those of the symbols that are left.
use Rattle.std.proofs.Common.{◌≡◌, ◌++◌, drop}
use Rattle.pdb_codeview.specs.ProcedureSpans.{symbol_spans}
use Rattle.pdb_codeview.proofs.procedure_spans.symbol_spans.Given as goal

abbrev pub invariant-loop-symbol : goal.invariant-loop-symbol
invariant-loop-symbol l = symbol_spans l.symbols ≡ l.spans.items ++ symbol_spans (drop l.symbol-index l.symbols)
