use Rattle.std.proofs.Common.{sym}
use Rattle.pdb_json.proofs.JsonLemmas.{json_of-read, json_of-none}
use Rattle.pdb_json.proofs.json.json.Goals as goal

pub returns-in-Ok : goal.returns-in-Ok
returns-in-Ok c = sym (json_of-read _ _ c.in-Ok.ensures.ok.0 c.in-Ok.ensures.ok.1)

pub returns-in-Err-2 : goal.returns-in-Err-2
returns-in-Err-2 c =
    let nothing_read = c.in-Err.ensures.err (λ memory. let asked = c.is_memory.ensures.1 memory in cc) in
    sym (json_of-none _ nothing_read)
