-- A stable sort puts the claims in order.
use Rattle.std.proofs.Common.{ℕ, rules}
use Rattle.std.proofs.lemmas.Cmp.{nat_cmp_total}
use Rattle.std.proofs.lemmas.Fn.{always_returns_same}
use Rattle.std.proofs.lemmas.List.Sorted.{ranks_by}
use Rattle.std.proofs.lemmas.Result.{on_ok_weaker}
use Rattle.pdb_tables.proofs.SortLemmas.{sorted_is_in_order}
use Rattle.pdb_repairs.specs.declared.claims.Claim.{Claim}
use Rattle.pdb_repairs.proofs.overlaps.sort_by_start.Goals as goal

-- where a claim begins
abbrev start_of : Claim → ℕ
start_of claim = claim.start

pub returns : goal.returns
returns c =
    on_ok_weaker c.sort_by_key.result (λ sorted.
    sorted_is_in_order (ranks_by nat_cmp_total start_of) c.args.claims.now.items c.sort_by_key.new.self.items
    (sorted start_of (always_returns_same _ _ _ (λ a r q k. search rules)))
    (c.sort_by_key.ensures.stable start_of (always_returns_same _ _ _ (λ a r q k. search rules))))
    c.sort_by_key.ensures.sorted
