-- The bytes are the JSON text of the value that is read, or of none.
use Rattle.std.proofs.Common.{List, Result, subst, sym}
use Rattle.pdb_json_values.specs.RecordFault.{AgreesBy, Fault}
use Rattle.pdb_symbolication.specs.RequestValues.{JobValue, request_seen}
use Rattle.pdb_symbolication.proofs.InMapLemmas.{names_modules}
use Rattle.pdb_symbolication.proofs.RequestLemmas.{text_none, text_read}
use Rattle.pdb_symbolication.proofs.requests.SymbolicationRequest.from_slice.Goals as goal

pub returns-in-Ok-clause-answer : goal.returns-in-Ok-clause-answer
returns-in-Ok-clause-answer c =
    subst (λ (read : Result (List JobValue) Fault). AgreesBy request_seen c.request_of.result read)
    (sym (text_read c.args.bytes.now _ c.in-Ok.ensures.ok.0 c.in-Ok.ensures.ok.1)) c.request_of.ensures

pub returns-in-Ok-clause-in_map : goal.returns-in-Ok-clause-in_map
returns-in-Ok-clause-in_map c = names_modules c.request_of.result _ c.request_of.ensures

pub returns-in-Err-2-clause-answer : goal.returns-in-Err-2-clause-answer
returns-in-Err-2-clause-answer c =
    text_none c.args.bytes.now
    (c.in-Err.ensures.err (λ memory. let asked = c.is_memory.ensures.1 memory in cc))
