use Rattle.std.proofs.Common.{◌∙◌, ◌<◌, length, get_or, arith}
use Rattle.pdb_report_lib.specs.Reports.{function_text, TakesText}
use Rattle.pdb_addr2line.proofs.FunctionLemmas.{after_one_more, on_error}
use Rattle.pdb_report_lib.proofs.ContextLemmas.{cut_at_address}
use Rattle.pdb_report_lib.proofs.ReportLemmas.{takes_one_more}
use Rattle.pdb_report_lib.proofs.reports.report_names.Goals as goal

pub loop-address-preserved : goal.loop-address-preserved
loop-address-preserved g c =
    let state = g.W.Sink.state in
    let text_of = function_text g.P.ModuleProvider.info c.args.context.now.inputs in
    let address = get_or c.args.addresses.now c.loop-address.address-index 0 in
    let below : c.loop-address.address-index < length c.args.addresses.now = omega arith in
    let text : TakesText (text_of address) (state c.loop-address.sink) (state c.put_function.new.sink) =
    rw c.loop-address.invariant.inputs at c.in_ok-put_function.ensures.text in
    record {
      inputs = c.put_function.ensures.inputs ∙ c.loop-address.invariant.inputs;
      context = after_one_more g.P.ModuleProvider.info c.args.context.now c.loop-address.context
          c.put_function.new.context c.args.addresses.now c.loop-address.address-index below
          c.loop-address.invariant.context c.in_ok-put_function.ensures.state;
      taken = takes_one_more text_of c.args.addresses.now c.loop-address.address-index (state c.args.sink.now)
          (state c.loop-address.sink) (state c.put_function.new.sink) below c.loop-address.invariant.taken text;
    }

pub returns-in_err-put_function-clause-early : goal.returns-in_err-put_function-clause-early
returns-in_err-put_function-clause-early g c =
    on_error _ (cut_at_address g.P.ModuleProvider.info c.args.context.now c.loop-address.context
    c.put_function.new.context c.args.addresses.now c.loop-address.address-index c.loop-address.invariant.context
    c.put_function.ensures.gains)
