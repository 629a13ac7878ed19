-- What is read of the member, seen from around it.
use Rattle.std.proofs.Common.{Global, Vec, codes, map, subst}
use Rattle.serde_json.specs.Data.{Data}
use Rattle.pdb_json_values.specs.RecordFault.{AgreesBy, read_inside}
use Rattle.pdb_symbolication.specs.RequestValues.{entry_seen, memory_map_of}
use Rattle.pdb_symbolication.specs.declared.requests.MemoryMapEntry.{MemoryMapEntry}
use Rattle.pdb_symbolication.proofs.RequestLemmas.{agrees_inside}
use Rattle.pdb_symbolication.proofs.request_reader.memory_map_in.Goals as goal

pub returns : goal.returns
returns c =
    subst (λ (d : Data). AgreesBy (λ (all : Vec MemoryMapEntry Global). map entry_seen all.items) c.inside.result
    (read_inside (codes "memoryMap") (memory_map_of d))) c.member.ensures
    (agrees_inside (λ (all : Vec MemoryMapEntry Global). map entry_seen all.items) (codes "memoryMap")
    c.memory_map_of-memory_map.result c.inside.result _ c.inside.ensures c.memory_map_of-memory_map.ensures)
