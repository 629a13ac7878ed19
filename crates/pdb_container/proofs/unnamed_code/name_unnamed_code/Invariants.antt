-- The modules are those where what was listed so far became of symbols.
use Rattle.std.proofs.Common.{◌≡◌, fold}
use Rattle.pdb_container.specs.UnnamedCode.{named}
use Rattle.pdb_container.proofs.unnamed_code.name_unnamed_code.Given as goal

abbrev pub invariant-loop-renamed_symbol : goal.invariant-loop-renamed_symbol
invariant-loop-renamed_symbol l = l.modules ≡ fold named l.initial.modules l.yielded
