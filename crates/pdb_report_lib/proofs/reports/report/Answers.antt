use Rattle.pdb_report_lib.proofs.ContextLemmas.{state_by_calls}
use Rattle.pdb_report_lib.proofs.reports.report.Goals as goal

pub returns-in-Names-clause-state : goal.returns-in-Names-clause-state
returns-in-Names-clause-state g c =
    state_by_calls g.P.ModuleProvider.info c.args.context.now c.report_names.new.context c.args.command
    c.args.addresses.now _ c.in-Names.is c.report_names.ensures.state
