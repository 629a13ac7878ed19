use Rattle.std.proofs.lemmas.Result.{on_ok_weaker}
use Rattle.std.proofs.Common.{arith, sym, ◌∙◌}
use Rattle.pdb_type_texts.specs.Plans.{on_read}
use Rattle.pdb_type_texts.specs.Rules.{element}
use Rattle.pdb_type_texts.specs.Progress.{open_in}
use Rattle.pdb_type_texts.specs.PrintInputs.{formatter_inputs}
use Rattle.pdb_type_printer.proofs.ElementLemmas.{keys-among}
use Rattle.pdb_type_printer.proofs.TurnLemmas.{advances_fewer, advances_read, advances_refused, elements_circular}
use Rattle.pdb_type_printer.proofs.TurnLemmas.{elements_read}
use Rattle.pdb_type_printer.proofs.ReadLemmas.{read_error-is, read_error-broken}
use Rattle.pdb_type_printer.proofs.LaterLemmas.{later-adds}
use Rattle.pdb_type_printer.proofs.type_formatter.TypeFormatter.elements.Goals as goal

pub returns-then-contains-clause-advances : goal.returns-then-contains-clause-advances
returns-then-contains-clause-advances g c =
    let w = formatter_inputs g.P.ModuleProvider.info c.args.self.now.type_inputs c.args.module_index in
    let among = sym (keys-among c.args.next.0 c.args.elements.keys) ∙ sym c.if-contains.ensures in
    elements_circular w c.args.elements.keys c.args.levels.items c.args.next.0 c.args.progress.now _
    c.args.self.now.failed among c.requires.no_failure c.fail.ensures

pub returns-in-Ok-clause-advances : goal.returns-in-Ok-clause-advances
returns-in-Ok-clause-advances g c = on_ok_weaker c.element.result (λ ok.
    let w = formatter_inputs g.P.ModuleProvider.info c.args.self.now.type_inputs c.args.module_index in
    let absent = sym (keys-among c.args.next.0 c.args.elements.keys) ∙ sym c.if-contains.ensures in
    let read = c.in-Ok.ensures.answer in
    let advances = rw c.in-Ok.ensures.unchanged at ok in
    let after = advances_read w 0 (w.read c.args.next.0) c.in-Ok.type_data.now
    (element w (open_in c.args.progress.now.steps) c.args.elements.keys c.args.levels.items c.args.next.0)
    c.args.progress.now _ c.args.self.now.failed _ read advances in
    elements_read w c.args.elements.keys c.args.levels.items c.args.next.0 c.args.progress.now _
    c.args.self.now.failed _ absent after)
    c.element.ensures.advances

pub returns-in-Err-clause-advances : goal.returns-in-Err-clause-advances
returns-in-Err-clause-advances g c = on_ok_weaker c.refuse.result (λ refused.
    let w = formatter_inputs g.P.ModuleProvider.info c.args.self.now.type_inputs c.args.module_index in
    let absent = sym (keys-among c.args.next.0 c.args.elements.keys) ∙ sym c.if-contains.ensures in
    let read_error = read_error-is (w.read c.args.next.0) c.in-Err.read_error refused.read_error_view
    c.in-Err.ensures.answer refused.known in
    let ran = rw c.in-Err.ensures.unchanged at refused.ran in
    let plan = on_read (w.read c.args.next.0)
    (element w (open_in c.args.progress.now.steps) c.args.elements.keys c.args.levels.items c.args.next.0) in
    let failed = advances_refused w (w.read c.args.next.0)
    (element w (open_in c.args.progress.now.steps) c.args.elements.keys c.args.levels.items c.args.next.0)
    refused.read_error_view c.args.progress.now _ c.args.self.now.failed _ read_error c.requires.no_failure
    refused.steps ran in
    elements_read w c.args.elements.keys c.args.levels.items c.args.next.0 c.args.progress.now _
    c.args.self.now.failed _ absent
    (advances_fewer w plan 1 0 c.args.progress.now _ c.args.self.now.failed _ (omega arith) failed))
    c.refuse.ensures.fails

pub returns-in-Err-clause-monotone : goal.returns-in-Err-clause-monotone
returns-in-Err-clause-monotone g c =
    let w = formatter_inputs g.P.ModuleProvider.info c.args.self.now.type_inputs c.args.module_index in
    later-adds c.in-Err.ensures.unchanged c.refuse.ensures.type_inputs
    (c.refuse.ensures.broken w (read_error-broken w c.args.next.0 c.in-Err.read_error c.in-Err.ensures.answer))
