use Rattle.std.proofs.Common.{[], ◌∷◌}
use Rattle.pdb_addr2line.specs.FunctionIter.{IsCutShort}
use Rattle.pdb_addr2line.proofs.FunctionLemmas.{on_error}
use Rattle.pdb_addr2line.proofs.GainLemmas.{gains_none}
use Rattle.pdb_addr2line.proofs.context.Context.add_function.Goals as goal

pub returns-in_err-push-clause-early : goal.returns-in_err-push-clause-early
returns-in_err-push-clause-early g c =
    let info = g.P.ModuleProvider.info in
    let cut : IsCutShort info c.args.self.now c.find_function.new.self (c.args.address ∷ []) =
    record { done = 1; interrupted = gains_none info _ _ c.in_ok-function.ensures.state } in
    on_error _ cut

pub returns-in_err-function-clause-early : goal.returns-in_err-function-clause-early
returns-in_err-function-clause-early g c =
    let cut : IsCutShort g.P.ModuleProvider.info c.args.self.now c.find_function.new.self (c.args.address ∷ []) =
    record { done = 0; interrupted = c.find_function.ensures.gains } in
    on_error _ cut
