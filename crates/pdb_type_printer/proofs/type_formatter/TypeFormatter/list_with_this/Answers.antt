use Rattle.std.proofs.lemmas.Result.{on_ok_weaker}
use Rattle.std.proofs.Common.{sym, arith}
use Rattle.pdb_type_texts.specs.Plans.{on_read}
use Rattle.pdb_type_texts.specs.Progress.{open_in}
use Rattle.pdb_type_texts.specs.Methods.{this_of, method_list}
use Rattle.pdb_type_texts.specs.PrintInputs.{formatter_inputs}
use Rattle.pdb_type_printer.proofs.TurnLemmas.{advances_fewer, advances_stands, advances_refused}
use Rattle.pdb_type_printer.proofs.ReadLemmas.{read_error-is, this-broken}
use Rattle.pdb_type_printer.proofs.LaterLemmas.{later-adds}
use Rattle.pdb_type_printer.proofs.type_formatter.TypeFormatter.list_with_this.Goals as goal

pub returns-in-Ok-clause-advances : goal.returns-in-Ok-clause-advances
returns-in-Ok-clause-advances g c = on_ok_weaker c.method_list.result (λ ok.
    let w = formatter_inputs g.P.ModuleProvider.info c.args.self.now.type_inputs c.args.module_index in
    let stands = advances_stands w 0 _ c.args.progress.now _
    (ok w (sym (rw c.in-Ok.ensures.unchanged at c.flags.ensures))) c.args.self.now.failed in
    rw (c.in-Ok.ensures.answer, c.in-Ok.ensures.unchanged) stands)
    c.method_list.ensures

pub returns-in-Err-clause-advances : goal.returns-in-Err-clause-advances
returns-in-Err-clause-advances g c = on_ok_weaker c.refuse.result (λ refused.
    let w = formatter_inputs g.P.ModuleProvider.info c.args.self.now.type_inputs c.args.module_index in
    let this = this_of w c.args.m.now.class_type c.args.m.now.this_pointer_type in
    let next = method_list w (open_in c.args.progress.now.steps) c.args.form c.args.list.now in
    let read_error = read_error-is this c.in-Err.read_error
    refused.read_error_view c.in-Err.ensures.answer refused.known in
    let ran = rw c.in-Err.ensures.unchanged at refused.ran in
    let failed = advances_refused w this next refused.read_error_view c.args.progress.now _
    c.args.self.now.failed _ read_error c.requires.no_failure refused.steps ran in
    advances_fewer w (on_read this next) 1 0 c.args.progress.now _ c.args.self.now.failed _ (omega arith) failed)
    c.refuse.ensures.fails

pub returns-in-Err-clause-monotone : goal.returns-in-Err-clause-monotone
returns-in-Err-clause-monotone g c =
    let w = formatter_inputs g.P.ModuleProvider.info c.args.self.now.type_inputs c.args.module_index in
    later-adds c.in-Err.ensures.unchanged c.refuse.ensures.type_inputs
    (c.refuse.ensures.broken w
    (this-broken w c.args.m.now.class_type c.args.m.now.this_pointer_type c.in-Err.read_error c.in-Err.ensures.answer))
