-- Parts of records without their faults.
use Rattle.std.specs.Prelude.{None}
use Rattle.pdb_records.specs.Readings.{Read}

-- the items that were read, without the fault
abbrev pub without_fault : {T : Type 0} → Read T → Read T
without_fault reading = record reading { fault = None }
