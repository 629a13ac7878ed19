-- The next offset by all codes is the one by those that are left, if it is before the one by those that were passed.
use Rattle.std.proofs.Common.{◌≡◌, drop}
use Rattle.pe_unwind.specs.Rules.{next_counted}
use Rattle.pe_unwind.proofs.rules.next_counted.Given as goal

abbrev pub invariant-loop-code : goal.invariant-loop-code
invariant-loop-code l = next_counted l.offset l.end l.codes
    ≡ next_counted l.offset l.next (drop l.code-index l.codes)
