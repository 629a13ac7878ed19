use Rattle.std.proofs.Common.{◌≡◌, ◌∙◌, ◌<◌, [], ◌∷◌, length, get_or, ap, subst, arith}
use Rattle.std.proofs.lemmas.List.{take_all}
use Rattle.pdb_addr2line.proofs.FunctionLemmas.{after_one_more, on_error}
use Rattle.pdb_addr2line.specs.FunctionIter.{functions_at, after_functions, start_addresses, IsCutShort}
use Rattle.pdb_report_lib.specs.PrintedLines.{list_text}
use Rattle.pdb_report_lib.specs.Reports.{EndsListEarly}
use Rattle.pdb_report_lib.specs.Sinks.{Takes}
use Rattle.pdb_report_lib.proofs.ContextLemmas.{cut_at_address}
use Rattle.pdb_report_lib.proofs.ListLemmas.{takes_one_listed, ends_listed}
use Rattle.pdb_report_lib.proofs.ReportLemmas.{fails_with}
use Rattle.pdb_report_lib.proofs.reports.report_list.Goals as goal

pub loop-start-preserved : goal.loop-start-preserved
loop-start-preserved g c =
    let state = g.W.Sink.state in
    let info = g.P.ModuleProvider.info in
    let inputs = c.args.context.now.inputs in
    let starts = c.deref-start-items.result.now in
    let i = c.loop-start.start-index in
    let below : i < length starts = omega arith in
    let next : Takes (state c.loop-start.sink) (state c.put_listed.new.sink)
    (list_text (functions_at info inputs (get_or starts i 0 ∷ []))) =
    rw c.loop-start.invariant.inputs at c.in_ok-put_listed.ensures.text in
    record {
      inputs = c.put_listed.ensures.inputs ∙ c.loop-start.invariant.inputs;
      context = after_one_more info c.args.context.now c.loop-start.context c.put_listed.new.context starts i below
          c.loop-start.invariant.context c.in_ok-put_listed.ensures.state;
      taken = takes_one_listed info inputs starts i (state c.args.sink.now) (state c.loop-start.sink)
          (state c.put_listed.new.sink) below c.loop-start.invariant.taken next;
    }

pub returns-in_err-put_listed-clause-refused : goal.returns-in_err-put_listed-clause-refused
returns-in_err-put_listed-clause-refused g c =
    let state = g.W.Sink.state in
    let info = g.P.ModuleProvider.info in
    let inputs = c.args.context.now.inputs in
    let starts = c.deref-start-items.result.now in
    let is : starts ≡ start_addresses info inputs =
    c.deref-start-items.ensures.value ∙ c.in_ok-starts.ensures.answer in
    let fault = c.in_err-put_listed.field-0.0 in
    let before = state c.args.sink.now in
    let after = state c.put_listed.new.sink in
    let amid : EndsListEarly (functions_at info inputs starts) before after fault =
    ends_listed info inputs starts c.loop-start.start-index before
    (state c.loop-start.sink) after c.loop-start.invariant.taken fault c.in_err-put_listed.ensures.refused in
    let ends = subst (λ xs. EndsListEarly (functions_at info inputs xs) before after fault) is amid in
    fails_with _ fault (EndsListEarly (functions_at info inputs (start_addresses info inputs)) before after)
    c.from_residual-in_err-put_listed.ensures.1 ends

pub returns-clause-state : goal.returns-clause-state
returns-clause-state g c =
    let info = g.P.ModuleProvider.info in
    let whole = take_all c.loop-start.start-index c.deref-start-items.result.now c.loop-start-test.false in
    c.loop-start.invariant.context
    ∙ ap (after_functions info c.args.context.now)
    (whole ∙ (c.deref-start-items.ensures.value ∙ c.in_ok-starts.ensures.answer))

pub returns-in_err-put_listed-clause-early : goal.returns-in_err-put_listed-clause-early
returns-in_err-put_listed-clause-early g c =
    let info = g.P.ModuleProvider.info in
    let starts = c.deref-start-items.result.now in
    let is : starts ≡ start_addresses info c.args.context.now.inputs =
    c.deref-start-items.ensures.value ∙ c.in_ok-starts.ensures.answer in
    let cut = cut_at_address info c.args.context.now c.loop-start.context c.put_listed.new.context starts
    c.loop-start.start-index c.loop-start.invariant.context c.put_listed.ensures.gains in
    on_error _ (subst (λ xs. IsCutShort info c.args.context.now c.put_listed.new.context xs) is cut)
