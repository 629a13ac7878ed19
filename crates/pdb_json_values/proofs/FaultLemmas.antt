-- A fault ends the reading.
use Rattle.std.proofs.Common.{Result}
use Rattle.pdb_json_values.specs.declared.record_fault.RecordFault.{RecordFault}
use Rattle.pdb_json_values.specs.declared.record_fault.RecordFault.TheVariants as code
use Rattle.pdb_json_values.specs.RecordFault.{Fault, IsFaultOf, ◌>>=◌}

-- the fault of a step is the fault of the whole
pub fault_ends : {X Y : Type 0} (fault : RecordFault) (read : Result X Fault) (next : X → Result Y Fault)
    → IsFaultOf fault read → IsFaultOf fault (read >>= next)
fault_ends code.NotJson read next matches = rw matches
fault_ends (code.ModuleFiles wanted given) read next matches = rw matches
fault_ends (code.Shape path wanted) read next matches = rw matches
fault_ends (code.NumberOutOfRange path) read next matches = rw matches
fault_ends (code.ModuleNotJson path) read next matches = rw matches
fault_ends code.OutOfMemory read next matches = tt
