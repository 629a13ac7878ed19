-- A name is known, or that of the first public symbol among those that are left.
use Rattle.std.proofs.Common.{◌≡◌, drop}
use Rattle.std.specs.Option.{option_or}
use Rattle.pdb_records.specs.declared.addresses.PdbInternalSectionOffset.{PdbInternalSectionOffset}
use Rattle.pdb_symbolizer_lib.specs.PublicNames.{name_in, public_name}
use Rattle.pdb_symbolizer_lib.proofs.public_names.add_names.Given as goal

abbrev pub invariant-loop-symbol : goal.invariant-loop-symbol
invariant-loop-symbol l = (start : PdbInternalSectionOffset)
    → option_or (name_in l.names start) (public_name (drop l.symbol-index l.symbols) start)
    ≡ option_or (name_in l.initial.names start) (public_name l.symbols start)
