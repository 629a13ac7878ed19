use Rattle.pdb_functions.specs.FunctionMatches.{function_match}
use Rattle.pdb_addr2line.proofs.FoundLemmas.{at_goes_by_symbol}
use Rattle.pdb_addr2line.proofs.GainLemmas.{gains_by_one, gains_none, state_with_failed}
use Rattle.pdb_addr2line.proofs.context.Context.find_function.Goals as goal

pub returns-in-Some-clause-answer : goal.returns-in-Some-clause-answer
returns-in-Some-clause-answer g c =
    let found = rw (c.in-Some.is) at c.in_ok-found.ensures.answer in
    rw (← found) (rw c.found.ensures.unchanged at c.function_info.ensures.answer)

pub returns-in-Some-clause-state : goal.returns-in-Some-clause-state
returns-in-Some-clause-state g c =
    let found = rw (c.in-Some.is) at c.in_ok-found.ensures.answer in
    let inputs = rw c.found.ensures.unchanged at c.function_info.ensures.inputs in
    let failed = rw c.found.ensures.unchanged at c.function_info.ensures.failed in
    let code_failed = rw c.found.ensures.unchanged at c.function_info.ensures.code_failed in
    rw (← found) (state_with_failed c.args.self.now c.function_info.new.self _ c.function_info.result inputs failed
    code_failed)

pub returns-in-Some-clause-gains : goal.returns-in-Some-clause-gains
returns-in-Some-clause-gains g c =
    let inputs = rw c.found.ensures.unchanged at c.function_info.ensures.inputs in
    let broken = rw c.found.ensures.unchanged at c.function_info.ensures.broken in
    let code_failed = rw c.found.ensures.unchanged at c.function_info.ensures.code_failed in
    gains_by_one g.P.ModuleProvider.info c.args.self.now c.function_info.new.self inputs broken code_failed

pub returns-in-None-clause-state : goal.returns-in-None-clause-state
returns-in-None-clause-state g c =
    let none = rw (c.in-None.is) at c.in_ok-found.ensures.answer in
    rw (← none) c.found.ensures.unchanged

pub returns-in-None-clause-gains : goal.returns-in-None-clause-gains
returns-in-None-clause-gains g c = gains_none g.P.ModuleProvider.info _ _ c.found.ensures.unchanged

pub returns-in_err-found-clause-gains : goal.returns-in_err-found-clause-gains
returns-in_err-found-clause-gains g c = gains_none g.P.ModuleProvider.info _ _ c.found.ensures.unchanged

pub function_info-requires : goal.function_info-requires
function_info-requires g c =
    let found = rw (c.in-Some.is) at c.in_ok-found.ensures.answer in
    record {
      named = rw c.found.ensures.unchanged
          (at_goes_by_symbol g.P.ModuleProvider.info c.args.self.now.inputs c.args.address
          (function_match c.in-Some.found) found);
    }
