-- Where a function starts is known, or said by the first among those that are left.
use Rattle.std.proofs.Common.{◌≡◌, ℕ, drop}
use Rattle.std.specs.BTreeMap.{get}
use Rattle.std.specs.Option.{option_or}
use Rattle.std.specs.Ordering.{nat_cmp}
use Rattle.pdb_codeview.specs.Inlinees.{inlinee_source}
use Rattle.pdb_codeview.proofs.inlinees.first_sources.Given as goal

abbrev pub invariant-loop-inlinee : goal.invariant-loop-inlinee
invariant-loop-inlinee l = (asked : ℕ)
    → option_or (get nat_cmp l.sources asked) (inlinee_source asked (drop l.inlinee-index l.listed))
    ≡ inlinee_source asked l.listed
