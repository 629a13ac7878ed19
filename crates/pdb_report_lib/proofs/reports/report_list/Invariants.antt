use Rattle.std.proofs.Common.{◌≡◌, take}
use Rattle.pdb_addr2line.specs.FunctionIter.{functions_at, after_functions}
use Rattle.pdb_report_lib.specs.PrintedLines.{list_text}
use Rattle.pdb_report_lib.specs.Sinks.{Takes}
use Rattle.pdb_report_lib.proofs.reports.report_list.Given as goal

-- the sink holds the lines of the functions over the starts so far, and the context answered those functions
abbrev pub invariant-loop-start : goal.invariant-loop-start
invariant-loop-start g l =
    let state = g.W.Sink.state in
    let functions = functions_at g.P.ModuleProvider.info l.fn.context.inputs (take l.start-index l.start-items) in
    record {
      inputs : l.context.inputs ≡ l.fn.context.inputs;
      context : l.context ≡ after_functions g.P.ModuleProvider.info l.fn.context (take l.start-index l.start-items);
      taken : Takes (state l.initial.sink) (state l.sink) (list_text functions);
    }
