use Rattle.std.proofs.Common.{◌≡◌, drop}
use Rattle.pdb_report_lib.specs.ReportArguments.{hex_after}
use Rattle.pdb_report_lib.proofs.report_arguments.hex_value.Given as goal

-- what is left, after what was read so far, spells the whole number
abbrev pub invariant-loop-digit : goal.invariant-loop-digit
invariant-loop-digit l = hex_after l.value (drop l.digit-index l.digits) ≡ hex_after 0 l.digits
