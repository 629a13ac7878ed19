-- All bytes are int3 exactly if those that are left are.
use Rattle.std.proofs.Common.{◌≡◌, drop}
use Rattle.std.specs.List.{list_all}
use Rattle.pe_unwind.specs.LeafCode.{is_int3}
use Rattle.pe_unwind.proofs.leaf_code.are_int3.Given as goal

abbrev pub invariant-loop-byte : goal.invariant-loop-byte
invariant-loop-byte l = list_all is_int3 l.bytes ≡ list_all is_int3 (drop l.byte-index l.bytes)
