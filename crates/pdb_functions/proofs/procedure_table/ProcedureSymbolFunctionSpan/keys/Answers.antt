use Rattle.std.proofs.Common.{◌+◌, arith}
use Rattle.pdb_functions.proofs.KeyLemmas.{section_offsets_have_keys}
use Rattle.pdb_functions.proofs.procedure_table.ProcedureSymbolFunctionSpan.keys.Goals as goal

pub returns : goal.returns
returns c =
    let at = c.args.self.now.offset in
    section_offsets_have_keys _ _ at.section at.offset (at.offset + c.args.self.now.len) c.key-start.ensures.answer
    (omega arith) (omega arith)
