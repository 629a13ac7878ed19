-- Offsets that were sorted and stand there once ascend.
use Rattle.std.proofs.Common.{List, ℕ, sym, subst, eqb}
use Rattle.std.proofs.lemmas.List.Kept.{Contains-dedup_nat}
use Rattle.std.proofs.lemmas.List.Sorted.{Contains-permutation}
use Rattle.std.specs.Prelude.{Contains}
use Rattle.std.proofs.lemmas.List.Filters.{dedup_is}
use Rattle.std.proofs.lemmas.Map.Keys.{IsStrictlyIncreasing-dedup}
use Rattle.std.specs.List.Sorted.{IsStrictlyIncreasing}
use Rattle.pdb_symbolication.proofs.wanted_modules.NamedModule.wanted.Goals as goal

pub invariant_of-result-clause-ascending : goal.invariant_of-result-clause-ascending
invariant_of-result-clause-ascending c =
    let sorted = c.sort_unstable.new.self.items in
    subst (λ (offsets : List ℕ). IsStrictlyIncreasing offsets)
    (sym (dedup_is eqb sorted c.dedup.new.self.items c.dedup.ensures.filtered))
    (IsStrictlyIncreasing-dedup sorted c.sort_unstable.ensures.sorted)

pub returns-clause-kept : goal.returns-clause-kept
returns-clause-kept c offset has =
    let sorted = c.sort_unstable.new.self.items in
    subst (λ (offsets : List ℕ). Contains offsets offset)
    (sym (dedup_is eqb sorted c.dedup.new.self.items c.dedup.ensures.filtered))
    (Contains-dedup_nat sorted offset
    (Contains-permutation c.args.self.offsets.items sorted offset c.sort_unstable.ensures.permutation has))
