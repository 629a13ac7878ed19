use Rattle.pdb_report_lib.proofs.ContextLemmas.{state_where_answered, gains_where_answered, early_where_refused}
use Rattle.pdb_report_lib.proofs.reports.look_up_frames.Goals as goal

pub returns-clause-state : goal.returns-clause-state
returns-clause-state g c =
    let found = c.find_frames.ensures in
    state_where_answered g.P.ModuleProvider.info c.args.context.now _ c.args.address _ found.inputs found.failed
    found.code_failed

pub returns-clause-early : goal.returns-clause-early
returns-clause-early g c =
    let found = c.find_frames.ensures in
    early_where_refused g.P.ModuleProvider.info c.args.context.now _ c.args.address _ found.inputs found.failed
    found.code_failed found.unchanged found.broken

pub returns-clause-gains : goal.returns-clause-gains
returns-clause-gains g c =
    let found = c.find_frames.ensures in
    gains_where_answered g.P.ModuleProvider.info c.args.context.now _ c.args.address _ found.inputs found.broken
    found.code_failed found.answer
