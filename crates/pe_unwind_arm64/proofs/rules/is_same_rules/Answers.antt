-- Rules are the same if each part is.
use Rattle.std.proofs.Common.{refl}
use Rattle.pe_unwind_arm64.proofs.LineLemmas.{same_rules}
use Rattle.pe_unwind_arm64.proofs.rules.is_same_rules.Goals as goal

pub returns : goal.returns
returns c = λ saved. same_rules c.args.a c.args.b (c.if-not-is_same_cfa.ensures refl)
    (c.if-not-is_same_return.ensures refl) (c.is_same_saved.ensures saved)
