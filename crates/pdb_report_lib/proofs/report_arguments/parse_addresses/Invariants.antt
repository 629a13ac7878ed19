use Rattle.std.proofs.Common.{◌≡◌, ◌++◌, map, drop, string_bytes}
use Rattle.std.specs.Prelude.{option_map}
use Rattle.pdb_report_lib.specs.ReportArguments.{addresses_of}
use Rattle.pdb_report_lib.proofs.report_arguments.parse_addresses.Given as goal

-- the addresses so far, and those of what is left, are those of all
abbrev pub invariant-loop-word : goal.invariant-loop-word
invariant-loop-word l =
    option_map (λ rest. l.addresses.items ++ rest) (addresses_of (map string_bytes (drop l.word-index l.words)))
    ≡ addresses_of (map string_bytes l.words)
