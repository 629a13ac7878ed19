-- A stable sort puts the claims in order.
use Rattle.std.proofs.Common.{rules}
use Rattle.std.proofs.lemmas.Cmp.{nat_cmp_total}
use Rattle.std.proofs.lemmas.Fn.{always_returns_same}
use Rattle.std.proofs.lemmas.List.Sorted.{ranks_by}
use Rattle.std.proofs.lemmas.Result.{on_ok_weaker}
use Rattle.pdb_tables.proofs.SortLemmas.{sorted_is_in_order}
use Rattle.pdb_repairs.specs.Claims.{size_of}
use Rattle.pdb_repairs.proofs.intervals.sort_by_size.Goals as goal

pub returns : goal.returns
returns c =
    on_ok_weaker c.sort_by_key.result (λ sorted.
    sorted_is_in_order (ranks_by nat_cmp_total size_of) c.args.claims.now.items c.sort_by_key.new.self.items
    (sorted size_of (always_returns_same _ _ _ (λ a r q k. search rules)))
    (c.sort_by_key.ensures.stable size_of (always_returns_same _ _ _ (λ a r q k. search rules))))
    c.sort_by_key.ensures.sorted
