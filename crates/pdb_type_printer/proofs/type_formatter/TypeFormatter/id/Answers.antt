use Rattle.std.proofs.lemmas.Result.{on_ok_weaker}
use Rattle.std.proofs.Common.{sym, ◌∙◌}
use Rattle.pdb_type_texts.specs.PrintInputs.{formatter_inputs}
use Rattle.pdb_type_printer.proofs.ElementLemmas.{keys-among}
use Rattle.pdb_type_printer.proofs.TurnLemmas.{id_circular, id_noted, id_read}
use Rattle.pdb_type_printer.proofs.ReadLemmas.{read_error-is, read_error-id-broken}
use Rattle.pdb_type_printer.proofs.LaterLemmas.{later-adds}
use Rattle.pdb_type_printer.proofs.type_formatter.TypeFormatter.id.Goals as goal

pub returns-then-contains-clause-advances : goal.returns-then-contains-clause-advances
returns-then-contains-clause-advances g c =
    let w = formatter_inputs g.P.ModuleProvider.info c.args.self.now.type_inputs c.args.module_index in
    let among = sym (keys-among c.args.index.0 c.args.met.keys) ∙ sym c.if-contains.ensures in
    id_circular w c.args.met.keys c.args.index.0 c.args.progress.now _ c.args.self.now.failed among
    c.requires.no_failure c.fail.ensures

pub returns-in-Err-clause-advances : goal.returns-in-Err-clause-advances
returns-in-Err-clause-advances g c = on_ok_weaker c.note.result (λ noted.
    let w = formatter_inputs g.P.ModuleProvider.info c.args.self.now.type_inputs c.args.module_index in
    let absent = sym (keys-among c.args.index.0 c.args.met.keys) ∙ sym c.if-contains.ensures in
    let read_error = read_error-is (w.read_id c.args.index.0) c.in-Err.read_error noted.read_error_view
    c.in-Err.ensures.answer noted.known in
    let ran = rw c.in-Err.ensures.unchanged at noted.ran in
    id_noted w c.args.met.keys c.args.index.0 noted.read_error_view c.args.progress.now _ c.args.self.now.failed _
    absent read_error c.requires.no_failure noted.steps ran)
    c.note.ensures.noted

pub returns-in_ok-insert-in-Ok-clause-advances : goal.returns-in_ok-insert-in-Ok-clause-advances
returns-in_ok-insert-in-Ok-clause-advances g c = on_ok_weaker c.id_by_kind.result (λ ok.
    let w = formatter_inputs g.P.ModuleProvider.info c.args.self.now.type_inputs c.args.module_index in
    let absent = sym (keys-among c.args.index.0 c.args.met.keys) ∙ sym c.if-contains.ensures in
    let read = c.in-Ok.ensures.answer in
    let settled = rw c.in-Ok.ensures.unchanged at ok in
    let keys = c.in_ok-insert-in-Ok.ensures.keys in
    id_read w c.args.met.keys c.args.index.0 c.in-Ok.id_data.now c.args.progress.now _ c.args.self.now.failed _
    absent read (rw keys at settled))
    c.id_by_kind.ensures.advances

pub returns-in-Err-clause-monotone : goal.returns-in-Err-clause-monotone
returns-in-Err-clause-monotone g c =
    let w = formatter_inputs g.P.ModuleProvider.info c.args.self.now.type_inputs c.args.module_index in
    later-adds c.in-Err.ensures.unchanged c.note.ensures.type_inputs
    (c.note.ensures.broken w (read_error-id-broken w c.args.index.0 c.in-Err.read_error c.in-Err.ensures.answer))
