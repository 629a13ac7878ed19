use Rattle.std.proofs.Common.{◌∙◌, ◌<◌, length, get_or, arith}
use Rattle.pdb_report_lib.specs.Reports.{stack_text, TakesText, EndsAtOnce, EndsAmidTexts, IsLeftAmid}
use Rattle.pdb_report_lib.proofs.ContextLemmas.{after_frames_more, left_at_address}
use Rattle.pdb_report_lib.proofs.ReportLemmas.{takes_one_more, ends_at_address, fails_with}
use Rattle.pdb_report_lib.proofs.reports.report_frames.Goals as goal

pub loop-address-preserved : goal.loop-address-preserved
loop-address-preserved g c =
    let state = g.W.Sink.state in
    let text_of = stack_text g.P.ModuleProvider.info c.args.context.now.inputs c.args.context.now.code_failed in
    let address = get_or c.args.addresses.now c.loop-address.address-index 0 in
    let below : c.loop-address.address-index < length c.args.addresses.now = omega arith in
    let text : TakesText (text_of address) (state c.loop-address.sink) (state c.put_frames.new.sink) =
    rw (c.loop-address.invariant.inputs, c.loop-address.invariant.code_failed) at c.in_ok-put_frames.ensures.text in
    record {
      inputs = c.put_frames.ensures.inputs ∙ c.loop-address.invariant.inputs;
      code_failed = c.in_ok-put_frames.ensures.code_failed ∙ c.loop-address.invariant.code_failed;
      context = after_frames_more g.P.ModuleProvider.info c.args.context.now c.loop-address.context
          c.put_frames.new.context c.args.addresses.now c.loop-address.address-index below
          c.loop-address.invariant.context c.in_ok-put_frames.ensures.state;
      taken = takes_one_more text_of c.args.addresses.now c.loop-address.address-index (state c.args.sink.now)
          (state c.loop-address.sink) (state c.put_frames.new.sink) below c.loop-address.invariant.taken text;
    }

pub returns-in_err-put_frames-clause-refused : goal.returns-in_err-put_frames-clause-refused
returns-in_err-put_frames-clause-refused g c =
    let state = g.W.Sink.state in
    let text_of = stack_text g.P.ModuleProvider.info c.args.context.now.inputs c.args.context.now.code_failed in
    let i = c.loop-address.address-index in
    let addresses = c.args.addresses.now in
    let fault = c.in_err-put_frames.field-0.0 in
    let before = state c.args.sink.now in
    let after = state c.put_frames.new.sink in
    let below : i < length addresses = omega arith in
    let at_once : EndsAtOnce (text_of (get_or addresses i 0)) (state c.loop-address.sink) after fault =
    rw (c.loop-address.invariant.inputs, c.loop-address.invariant.code_failed) at c.in_err-put_frames.ensures.refused in
    let ends = ends_at_address text_of addresses i before
    (state c.loop-address.sink) after fault below c.loop-address.invariant.taken at_once in
    fails_with _ fault (EndsAmidTexts text_of addresses before after) c.from_residual.ensures.1 ends

pub returns-in_err-put_frames-clause-early : goal.returns-in_err-put_frames-clause-early
returns-in_err-put_frames-clause-early g c =
    let info = g.P.ModuleProvider.info in
    let i = c.loop-address.address-index in
    let addresses = c.args.addresses.now in
    let fault = c.in_err-put_frames.field-0.0 in
    let below : i < length addresses = omega arith in
    let left = left_at_address info c.args.context.now c.loop-address.context c.put_frames.new.context addresses i
    fault below c.loop-address.invariant.context c.in_err-put_frames.ensures.early in
    fails_with _ fault (IsLeftAmid info c.args.context.now c.put_frames.new.context addresses)
    c.from_residual.ensures.1 left
