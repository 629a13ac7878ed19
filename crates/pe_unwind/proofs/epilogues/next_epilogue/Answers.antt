-- No epilogue goes on at one offset more.
use Rattle.std.proofs.Common.{◌≡◌, ◌≤◌, ℕ, false, sym, drop, below_more}
use Rattle.std.specs.Prelude.{is_some}
use Rattle.pe_unwind.specs.Epilogues.{epilogue_rules}
use Rattle.pe_unwind.proofs.epilogues.next_epilogue.Goals as goal

pub loop-at-preserved : goal.loop-at-preserved
loop-at-preserved c =
    below_more (λ (at : ℕ). c.args.from ≤ at
    → is_some (epilogue_rules c.args.function.now (drop at c.args.code.now)) ≡ false)
    c.loop-at.at c.loop-at.invariant (λ from. sym c.if-is_epilogue_at.ensures)
