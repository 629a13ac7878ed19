use Rattle.std.proofs.Common.{refl}
use Rattle.std.proofs.lemmas.Result.{on_ok_weaker}
use Rattle.pdb_types.specs.ReadError.{Missing, Unimplemented}
use Rattle.pdb_type_printer.proofs.TurnLemmas.{written_run}
use Rattle.pdb_type_printer.proofs.type_formatter.TypeFormatter.note.Goals as goal

pub returns-in-Missing-clause-noted : goal.returns-in-Missing-clause-noted
returns-in-Missing-clause-noted g c = on_ok_weaker c.write.result (λ wrote.
    let ran = written_run _ c.args.progress.now _ c.args.self.now.failed c.requires.no_failure wrote in
    record {
      read_error_view = Missing c.in-Missing.index;
      known = rw c.in-Missing.is refl;
      steps = ran.0;
      ran = ran.1;
    }) c.write.ensures

pub returns-in-Unimplemented-clause-noted : goal.returns-in-Unimplemented-clause-noted
returns-in-Unimplemented-clause-noted g c = on_ok_weaker c.write-in-Unimplemented.result (λ wrote.
    let ran = written_run _ c.args.progress.now _ c.args.self.now.failed c.requires.no_failure wrote in
    record {
      read_error_view = Unimplemented c.in-Unimplemented.kind;
      known = rw c.in-Unimplemented.is refl;
      steps = ran.0;
      ran = ran.1;
    }) c.write-in-Unimplemented.ensures
