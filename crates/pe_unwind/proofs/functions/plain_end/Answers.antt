-- No epilogue is listed, or goes on by the code, before the end that was found.
use Rattle.std.proofs.Common.{sym}
use Rattle.pe_unwind.proofs.LineLemmas.{plain_by_code, plain_listed}
use Rattle.pe_unwind.proofs.functions.plain_end.Goals as goal

pub returns-then-lists_epilogues-clause-plain : goal.returns-then-lists_epilogues-clause-plain
returns-then-lists_epilogues-clause-plain c =
    plain_listed c.args.function.now c.args.code.now c.args.offset c.next_listed.result
    (sym c.if-lists_epilogues.ensures) c.requires.plain c.next_listed.ensures.none

pub returns-else-lists_epilogues-clause-plain : goal.returns-else-lists_epilogues-clause-plain
returns-else-lists_epilogues-clause-plain c =
    plain_by_code c.args.function.now c.args.code.now c.args.offset c.next_epilogue.result
    (sym c.if-lists_epilogues.ensures) c.requires.plain c.next_epilogue.ensures.none
