-- No epilogue goes on where the first bytes are none of one.
use Rattle.std.proofs.Common.{sym}
use Rattle.pe_unwind.proofs.EpilogueLemmas.{other_at}
use Rattle.pe_unwind.proofs.epilogues.is_epilogue_at.Goals as goal

pub returns-then-not-may_begin : goal.returns-then-not-may_begin
returns-then-not-may_begin c =
    sym (other_at c.args.function.now c.args.code.now c.args.at (sym c.if-not-may_begin.ensures))
