-- All bytes are plain exactly if those are that are left.
use Rattle.std.proofs.Common.{◌≡◌, drop}
use Rattle.std.specs.List.{list_all}
use Rattle.pdb_symbolication.specs.HarmlessNames.{is_plain}
use Rattle.pdb_symbolication.proofs.harmless_names.are_plain.Given as goal

abbrev pub invariant-loop-byte : goal.invariant-loop-byte
invariant-loop-byte l = list_all is_plain l.bytes ≡ list_all is_plain (drop l.byte-index l.bytes)
