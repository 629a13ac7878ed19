use Rattle.std.proofs.lemmas.Result.{on_ok_weaker}
use Rattle.std.proofs.Common.{sym}
use Rattle.std.specs.Prelude.{◌∷◌, []}
use Rattle.pdb_type_texts.specs.Ids.{function_id}
use Rattle.pdb_type_texts.specs.PrintInputs.{formatter_inputs}
use Rattle.pdb_type_printer.proofs.TurnLemmas.{alone_entered}
use Rattle.pdb_type_printer.proofs.type_formatter.TypeFormatter.function_id.Goals as goal

pub returns-in-None-clause-advances : goal.returns-in-None-clause-advances
returns-in-None-clause-advances g c =
    let w = formatter_inputs g.P.ModuleProvider.info c.args.self.now.type_inputs c.args.module_index in
    let failed = rw c.in-None.is at c.in_ok-enter_alone.ensures.entered in
    failed (function_id w c.args.met.keys c.args.id.now (c.args.id.now.function_type.0 ∷ []))

pub returns-in-Some-clause-advances : goal.returns-in-Some-clause-advances
returns-in-Some-clause-advances g c = on_ok_weaker c.function_by_type.result (λ ok.
    let w = formatter_inputs g.P.ModuleProvider.info c.args.self.now.type_inputs c.args.module_index in
    let entered = rw c.in-Some.is at c.in_ok-enter_alone.ensures.entered in
    let advances = ok w (sym (rw c.in_ok-enter_alone.ensures.monotone.type_inputs at c.flags.ensures)) _ in
    alone_entered w c.args.id.now.function_type.0
    (function_id w c.args.met.keys c.args.id.now) c.in-Some.type_data.now c.args.progress.now _ _
    c.args.self.now.failed _ entered advances)
    c.function_by_type.ensures
