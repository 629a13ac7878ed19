use Rattle.std.proofs.Common.{◌≡◌, take, map}
use Rattle.pdb_addr2line.specs.declared.calls.Call.TheVariants.{FindFrames}
use Rattle.pdb_addr2line.specs.Calls.{after_calls}
use Rattle.pdb_report_lib.specs.Reports.{stack_text, addresses_text, TakesText}
use Rattle.pdb_report_lib.proofs.reports.report_frames.Given as goal

-- the sink holds the texts of the addresses so far, and the context answered the frames there
abbrev pub invariant-loop-address : goal.invariant-loop-address
invariant-loop-address g l =
    let state = g.W.Sink.state in
    let text_of = stack_text g.P.ModuleProvider.info l.initial.context.inputs l.initial.context.code_failed in
    record {
      inputs : l.context.inputs ≡ l.initial.context.inputs;
      code_failed : l.context.code_failed ≡ l.initial.context.code_failed;
      context : l.context ≡ after_calls g.P.ModuleProvider.info l.initial.context
          (map FindFrames (take l.address-index l.addresses));
      taken : TakesText (addresses_text text_of (take l.address-index l.addresses)) (state l.initial.sink)
          (state l.sink);
    }
