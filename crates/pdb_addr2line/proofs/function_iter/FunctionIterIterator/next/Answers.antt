use Rattle.std.proofs.Common.{◌∙◌, [], ◌∷◌, ◌++◌, sym, ap}
use Rattle.std.specs.Vec.Iter.{into_iter_items}
use Rattle.std.specs.Option.{is_some}
use Rattle.pdb_addr2line.specs.FunctionSteps.{untried, lender}
use Rattle.pdb_addr2line.proofs.FunctionLemmas.{on_error}
use Rattle.pdb_addr2line.proofs.FunctionStepLemmas.{passed_here, answered_here}
use Rattle.pdb_addr2line.proofs.function_iter.FunctionIterIterator.next.Goals as goal

pub loop-address-preserved : goal.loop-address-preserved
loop-address-preserved g c =
    let info = g.P.ModuleProvider.info in
    let all = untried c.args.self.now in
    let passed = c.loop-address.invariant.1 in
    let nothing = ap is_some (sym c.transpose-answered.ensures) ∙ (sym c.is_some.ensures ∙ c.if-is_some.false) in (
      c.loop-address.invariant.0,
      passed ++ c.in-Some.address ∷ [],
      passed_here info (lender c.args.self.now) (lender c.loop-address.self) c.find_function.new.self all passed
          (untried c.loop-address.self)
          (into_iter_items c.next.new.self) c.in-Some.address c.find_function.result c.loop-address.invariant.2
          c.in-Some.ensures.items c.find_function.ensures.answer c.find_function.ensures.state nothing,
    )

pub returns-then-is_some-clause-steps : goal.returns-then-is_some-clause-steps
returns-then-is_some-clause-steps g c =
    let info = g.P.ModuleProvider.info in
    let all = untried c.args.self.now in
    let passed = c.loop-address.invariant.1 in
    let something = ap is_some (sym c.transpose-answered.ensures) ∙ (sym c.is_some.ensures ∙ c.if-is_some.true) in
    let answered = answered_here info (lender c.args.self.now)
    (lender c.loop-address.self) c.find_function.new.self all passed (untried c.loop-address.self)
    (into_iter_items c.next.new.self) c.in-Some.address c.find_function.result c.loop-address.invariant.2
    c.in-Some.ensures.items c.find_function.ensures.answer c.find_function.ensures.state
    (on_error c.find_function.result c.find_function.ensures.gains) something in
    record {
      same_reference = c.loop-address.invariant.0;
      matches = rw c.transpose-answered.ensures answered;
    }
