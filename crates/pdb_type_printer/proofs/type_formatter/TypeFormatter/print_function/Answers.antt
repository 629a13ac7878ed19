use Rattle.pdb_type_texts.specs.Signatures.{signature}
use Rattle.pdb_type_texts.specs.PrintInputs.{formatter_inputs}
use Rattle.pdb_type_texts.proofs.DocumentLemmas.{document-runs}
use Rattle.pdb_type_texts.proofs.UnfoldingLemmas.{formatter-below}
use Rattle.pdb_type_printer.proofs.LaterLemmas.{later-then}
use Rattle.pdb_type_printer.proofs.type_formatter.TypeFormatter.print_function.Goals as goal

pub returns-in_err-print-clause-monotone : goal.returns-in_err-print-clause-monotone
returns-in_err-print-clause-monotone g c = later-then c.in_ok-signature.ensures.monotone c.in_err-print.ensures.monotone

pub returns-clause-monotone : goal.returns-clause-monotone
returns-clause-monotone g c = later-then c.in_ok-signature.ensures.monotone c.in_ok-print.ensures.monotone

pub returns-clause-answer : goal.returns-clause-answer
returns-clause-answer g c =
    let w = formatter_inputs g.P.ModuleProvider.info c.args.self.now.type_inputs c.args.module_index in
    let ends = rw c.in_ok-signature.ensures.monotone.type_inputs at c.in_ok-print.ensures.ends in
    let runs = c.in_ok-signature.ensures.begins _ ends in
    let is = document-runs w (formatter-below g.P.ModuleProvider.info c.args.self.now.type_inputs c.args.module_index)
    (signature w c.args.name.now c.args.index.0) c.args.self.now.failed _ runs in
    rw (c.into_printed.ensures.text, c.into_printed.ensures.failure) is
