use Rattle.std.proofs.Common.{◌≡◌, ℕ, Some, drop}
use Rattle.std.specs.Prelude.{option_map}
use Rattle.std.specs.BTreeMap.{get}
use Rattle.std.specs.Option.{option_or}
use Rattle.std.specs.Ordering.{nat_cmp}
use Rattle.pdb_frames.specs.FileNames.{name_under}
use Rattle.pdb_frames.specs.SourceFiles.{file_name_of}
use Rattle.pdb_frames.proofs.file_names.names_of.Given as goal

-- what is known, else what is left gives, is what all give
abbrev pub invariant-loop-reference : goal.invariant-loop-reference
invariant-loop-reference l = (number : ℕ)
    → option_or (option_map file_name_of (get nat_cmp l.names number))
    (name_under (Some (drop l.reference-index l.table)) number)
    ≡ name_under (Some l.table) number
