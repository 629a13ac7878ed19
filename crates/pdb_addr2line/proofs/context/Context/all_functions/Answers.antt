use Rattle.std.proofs.Common.{◌∙◌, ◌<◌, [], ◌∷◌, ◌++◌, length, get_or, take, map, sym, ap, refl, arith}
use Rattle.std.proofs.lemmas.List.{take_all}
use Rattle.pdb_function_info.specs.Function.{function_view}
use Rattle.pdb_addr2line.specs.FunctionIter.{functions_at}
use Rattle.pdb_addr2line.proofs.FunctionLemmas.{inputs_stay, after_one_more, functions_one_more, cut_short_later}
use Rattle.pdb_addr2line.proofs.FunctionLemmas.{on_error}
use Rattle.pdb_addr2line.proofs.GainLemmas.{gains_none, gains_after}
use Rattle.pdb_addr2line.proofs.context.Context.all_functions.Goals as goal

pub loop-address-init : goal.loop-address-init
loop-address-init g c = record {
  functions = ap (map function_view) c.new-functions.ensures.items;
  state = refl;
  gains = gains_none g.P.ModuleProvider.info c.start_addresses.new.self c.start_addresses.new.self refl;
}

pub loop-address-preserved : goal.loop-address-preserved
loop-address-preserved g c =
    let info = g.P.ModuleProvider.info in
    let context = c.start_addresses.new.self in
    let addresses = c.deref-address-items.result.now in
    let i = c.loop-address.address-index in
    let below : i < length addresses = omega arith in
    let same = ap (λ s. s.inputs) c.loop-address.invariant.state ∙ inputs_stay info context (take i addresses) in
    let here = ap (λ s. functions_at info s (get_or addresses i 0 ∷ [])) same in
    record {
      functions = c.in_ok-add_function.ensures.added
          ∙ (ap (λ xs. map function_view c.loop-address.functions.items ++ xs) here
          ∙ (ap (λ xs. xs ++ functions_at info context.inputs (get_or addresses i 0 ∷ []))
          c.loop-address.invariant.functions
          ∙ sym (functions_one_more info context.inputs addresses i below)));
      state = after_one_more info context c.loop-address.self c.add_function.new.self addresses i below
          c.loop-address.invariant.state c.in_ok-add_function.ensures.state;
      gains = gains_after info context c.loop-address.self c.add_function.new.self c.loop-address.invariant.gains
          c.add_function.ensures.gains;
    }

pub returns-in_err-add_function-clause-early : goal.returns-in_err-add_function-clause-early
returns-in_err-add_function-clause-early g c =
    let info = g.P.ModuleProvider.info in
    let addresses = c.deref-address-items.result.now in
    let i = c.loop-address.address-index in
    let below : i < length addresses = omega arith in
    let is = c.deref-address-items.ensures.value ∙ c.in_ok-addresses.ensures.answer in
    let cut = cut_short_later info c.start_addresses.new.self c.loop-address.self c.add_function.new.self addresses i
    below c.loop-address.invariant.state c.in_err-add_function.ensures.early in
    on_error _ (rw (is, c.start_addresses.ensures.unchanged) at cut)

pub returns-clause-answer : goal.returns-clause-answer
returns-clause-answer g c =
    let whole = take_all c.loop-address.address-index c.deref-address-items.result.now c.loop-address-test.false in
    let all = whole ∙ (c.deref-address-items.ensures.value ∙ c.in_ok-addresses.ensures.answer) in
    rw (c.start_addresses.ensures.unchanged, all) at c.loop-address.invariant.functions

pub returns-clause-state : goal.returns-clause-state
returns-clause-state g c =
    let whole = take_all c.loop-address.address-index c.deref-address-items.result.now c.loop-address-test.false in
    let all = whole ∙ (c.deref-address-items.ensures.value ∙ c.in_ok-addresses.ensures.answer) in
    rw (c.start_addresses.ensures.unchanged, all) at c.loop-address.invariant.state

pub returns-in_err-add_function-clause-gains : goal.returns-in_err-add_function-clause-gains
returns-in_err-add_function-clause-gains g c =
    let gains = rw c.start_addresses.ensures.unchanged at c.loop-address.invariant.gains in
    on_error _ (gains_after g.P.ModuleProvider.info c.args.self.now c.loop-address.self c.add_function.new.self gains
    c.add_function.ensures.gains)
