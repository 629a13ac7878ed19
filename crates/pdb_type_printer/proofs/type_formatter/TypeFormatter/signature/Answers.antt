use Rattle.std.proofs.lemmas.Result.{on_ok_weaker}
use Rattle.std.proofs.Common.{ap, sym}
use Rattle.std.proofs.lemmas.Bool.{ne_eqb}
use Rattle.pdb_type_texts.specs.PrintInputs.{formatter_inputs}
use Rattle.pdb_type_printer.proofs.LoopLemmas.{begins_stands, begins_refused}
use Rattle.pdb_type_printer.proofs.ReadLemmas.{read_error-is, read_error-broken}
use Rattle.pdb_type_printer.proofs.LaterLemmas.{later-adds}
use Rattle.pdb_type_printer.proofs.type_formatter.TypeFormatter.signature.Goals as goal

pub returns-in-Err-clause-begins : goal.returns-in-Err-clause-begins
returns-in-Err-clause-begins g c = on_ok_weaker c.refuse.result (λ refused.
    let w = formatter_inputs g.P.ModuleProvider.info c.args.self.now.type_inputs c.args.module_index in
    let read_error = read_error-is (w.read c.args.index.0) c.in-Err.read_error refused.read_error_view
    c.in-Err.ensures.answer refused.known in
    let ran = rw c.in-Err.ensures.unchanged at refused.ran in
    begins_refused w c.args.name.now c.args.index.0 refused.read_error_view c.args.progress.now _
    c.args.self.now.failed _ (ne_eqb c.args.index.0 0 c.if-index-eq0.false) read_error c.requires.beginning
    refused.steps ran)
    c.refuse.ensures.fails

pub returns-in_ok-open-in-Ok-clause-begins : goal.returns-in_ok-open-in-Ok-clause-begins
returns-in_ok-open-in-Ok-clause-begins g c = on_ok_weaker c.by_type.result (λ ok.
    let w = formatter_inputs g.P.ModuleProvider.info c.args.self.now.type_inputs c.args.module_index in
    let read = c.in-Ok.ensures.answer in
    begins_stands w c.args.name.now c.args.index.0 c.in-Ok.type_data.now c.args.progress.now _ _
    c.args.self.now.failed _ (ne_eqb c.args.index.0 0 c.if-index-eq0.false) read c.requires.beginning _
    c.in_ok-open-in-Ok.ensures (ap (λ f. f.failed) c.in-Ok.ensures.unchanged)
    (ok w (sym (rw c.in-Ok.ensures.unchanged at c.flags.ensures))))
    c.by_type.ensures

pub returns-in-Err-clause-monotone : goal.returns-in-Err-clause-monotone
returns-in-Err-clause-monotone g c =
    let w = formatter_inputs g.P.ModuleProvider.info c.args.self.now.type_inputs c.args.module_index in
    later-adds c.in-Err.ensures.unchanged c.refuse.ensures.type_inputs
    (c.refuse.ensures.broken w (read_error-broken w c.args.index.0 c.in-Err.read_error c.in-Err.ensures.answer))
