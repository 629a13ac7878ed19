use Rattle.std.proofs.Common.{◌≡◌, ◌+◌, drop}
use Rattle.pdb_records.specs.Addresses.{internal_offset, offset_from}
use Rattle.pdb_records.proofs.addresses.Rva.to_internal_offset.Given as goal

-- what is left of the sections, numbered on, gives the answer of all
abbrev pub invariant-loop-index : goal.invariant-loop-index
invariant-loop-index l = internal_offset l.address_map l.self ≡ offset_from (l.index + 1)
    (drop l.index l.address_map) l.self.0
