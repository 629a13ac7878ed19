-- The epilogues of a function are in order.
use Rattle.pe_unwind_arm64.proofs.OrderLemmas.{function_order, rules_outside, rules_within}
use Rattle.pe_unwind_arm64.proofs.functions.epilogues_have_rules.Goals as goal

pub returns-clause-within : goal.returns-clause-within
returns-clause-within c = λ program reach entry function before after epilogue offset is.
    rules_within function.info offset before after epilogue (function_order program reach entry function is)

pub returns-clause-outside : goal.returns-clause-outside
returns-clause-outside c = rules_outside
