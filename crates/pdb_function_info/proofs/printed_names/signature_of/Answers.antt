use Rattle.std.proofs.lemmas.Result.{MatchResult-weaker}
use Rattle.pdb_type_texts.specs.PrintInputs.{formatter_inputs}
use Rattle.pdb_type_texts.specs.Printed.{document_of}
use Rattle.pdb_type_texts.specs.Signatures.{signature}
use Rattle.pdb_function_info.proofs.NameLemmas.{printed-text, refused-text}
use Rattle.pdb_function_info.proofs.printed_names.signature_of.Goals as goal

pub returns-in-Ok-clause-answer : goal.returns-in-Ok-clause-answer
returns-in-Ok-clause-answer g c =
    let w = formatter_inputs g.P.ModuleProvider.info c.args.formatter.now.type_inputs c.args.module_index in
    let d = document_of w (signature w c.args.name.now c.args.index.0) in
    printed-text d c.args.formatter.now.failed _ _ c.in-Ok.ensures.answer

pub returns-in-Err-clause-answer : goal.returns-in-Err-clause-answer
returns-in-Err-clause-answer g c =
    let w = formatter_inputs g.P.ModuleProvider.info c.args.formatter.now.type_inputs c.args.module_index in
    let d = document_of w (signature w c.args.name.now c.args.index.0) in
    let failed = c.args.formatter.now.failed in
    MatchResult-weaker c.no_text_for.result c.no_text_for.ensures
    (λ text none. rw none.0 (refused-text d failed _ (c.in-Err.ensures.answer none.1).error)) (λ e is. is)
