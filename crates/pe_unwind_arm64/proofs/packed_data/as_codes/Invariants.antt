-- All codes are those that were numbered, and those that are left.
use Rattle.std.proofs.Common.{◌≡◌, ◌++◌, drop}
use Rattle.pe_unwind_arm64.specs.PackedData.{as_codes, numbered_from}
use Rattle.pe_unwind_arm64.proofs.packed_data.as_codes.Given as goal

abbrev pub invariant-loop-index : goal.invariant-loop-index
invariant-loop-index l = as_codes l.operations ≡ l.codes.items ++ numbered_from l.index (drop l.index l.operations)
