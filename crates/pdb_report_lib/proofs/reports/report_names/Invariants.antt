use Rattle.std.proofs.Common.{◌≡◌, take}
use Rattle.pdb_addr2line.specs.FunctionIter.{after_functions}
use Rattle.pdb_report_lib.specs.Reports.{function_text, addresses_text, TakesText}
use Rattle.pdb_report_lib.proofs.reports.report_names.Given as goal

-- the sink holds the texts of the addresses so far, and the context answered the functions there
abbrev pub invariant-loop-address : goal.invariant-loop-address
invariant-loop-address g l =
    let state = g.W.Sink.state in
    let text_of = function_text g.P.ModuleProvider.info l.initial.context.inputs in
    record {
      inputs : l.context.inputs ≡ l.initial.context.inputs;
      context : l.context ≡ after_functions g.P.ModuleProvider.info l.initial.context
          (take l.address-index l.addresses);
      taken : TakesText (addresses_text text_of (take l.address-index l.addresses)) (state l.initial.sink)
          (state l.sink);
    }
