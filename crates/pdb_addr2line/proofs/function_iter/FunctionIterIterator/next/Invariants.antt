use Rattle.std.proofs.Common.{◌≡◌, ℕ, List, length}
use Rattle.pdb_addr2line.specs.FunctionSteps.{untried, lender, Passes}
use Rattle.pdb_addr2line.proofs.function_iter.FunctionIterIterator.next.Given as goal

-- the addresses tried so far were passed
abbrev pub invariant-loop-address : goal.invariant-loop-address
invariant-loop-address g l =
    (l.self.context.ghost_name ≡ l.initial.self.context.ghost_name)
    × (passed : List ℕ) × Passes g.P.ModuleProvider.info (lender l.initial.self) (lender l.self)
    (untried l.initial.self) passed (untried l.self)

-- fewer are left
abbrev pub decreases-loop-address : goal.decreases-loop-address
decreases-loop-address g l = length (untried l.self)
