use Rattle.std.proofs.Common.{arith}
use Rattle.pdb_errors.specs.declared.error.Error.TheVariants.{ArgumentTypeNotArgumentList}
use Rattle.pdb_errors.specs.Errors.{Plain}
use Rattle.pdb_type_texts.specs.Documents.{OfError}
use Rattle.pdb_type_texts.specs.Plans.{failing}
use Rattle.pdb_type_texts.specs.Progress.{open_in}
use Rattle.pdb_type_texts.specs.PrintInputs.{formatter_inputs}
use Rattle.pdb_type_printer.proofs.OtherKinds.{on_list-other}
use Rattle.pdb_type_printer.proofs.TurnLemmas.{advances_fewer, advances_failed}
use Rattle.pdb_type_printer.proofs.type_formatter.TypeFormatter.on_list.Goals as goal

pub returns-in_default-clause-advances : goal.returns-in_default-clause-advances
returns-in_default-clause-advances g c =
    let w = formatter_inputs g.P.ModuleProvider.info c.args.self.now.type_inputs c.args.module_index in
    let failed = advances_failed w
    (OfError (Plain ArgumentTypeNotArgumentList)) c.args.progress.now _ c.args.self.now.failed c.requires.no_failure
    c.fail.ensures in
    let fewer = advances_fewer w
    (failing (Plain ArgumentTypeNotArgumentList)) 1 0 c.args.progress.now _ c.args.self.now.failed _
    (omega arith) failed in
    rw (on_list-other w c.args.m.now c.args.form
    (open_in c.args.progress.now.steps) c.args.type_data.now c.in_default.not-ArgumentList) fewer
