use Rattle.std.proofs.lemmas.Result.{on_ok_weaker}
use Rattle.pdb_type_texts.specs.PrintInputs.{formatter_inputs}
use Rattle.pdb_type_printer.proofs.StandsLemmas.{stands_first}
use Rattle.pdb_type_printer.proofs.TurnLemmas.{advances_stands, closing_advances}
use Rattle.pdb_type_printer.proofs.type_formatter.TypeFormatter.id_by_kind.Goals as goal

pub returns-in-Other-clause-advances : goal.returns-in-Other-clause-advances
returns-in-Other-clause-advances g c = on_ok_weaker c.push-in-Other.result (λ ok.
    let w = formatter_inputs g.P.ModuleProvider.info c.args.self.now.type_inputs c.args.module_index in
    let all = stands_first w ok in
    let stands = rw (c.as_str.ensures.value, c.kind.view_is) at all in
    rw c.in-Other.is (closing_advances w 0 _ c.args.progress.now _ c.args.self.now.failed _
    (advances_stands w 0 _ c.args.progress.now _ stands c.args.self.now.failed)))
    c.push-in-Other.ensures
