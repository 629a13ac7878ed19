use Rattle.pdb_report_lib.proofs.ListLemmas.{unwritten}
use Rattle.pdb_report_lib.proofs.reports.put_listed.Goals as goal

pub returns-in_err-line-clause-refused : goal.returns-in_err-line-clause-refused
returns-in_err-line-clause-refused g c =
    unwritten _ (g.W.Sink.state c.args.sink.now) c.from_residual-in_err-line.ensures.1
