-- A stable sort puts the list in order.
use Rattle.std.proofs.Common.{rules}
use Rattle.std.proofs.lemmas.Fn.{always_returns_same}
use Rattle.std.proofs.lemmas.Result.{on_ok_weaker}
use Rattle.std.proofs.lemmas.List.Sorted.{ranks_by}
use Rattle.pdb_tables.proofs.SortLemmas.{sorted_is_in_order}
use Rattle.pdb_tables.proofs.keyed.sort_by_key.Goals as goal

pub returns-clause-state : goal.returns-clause-state
returns-clause-state g c =
    let key = g.T.Keyed.key_of in
    on_ok_weaker c.sort_by_key.result (λ sorted.
    sorted_is_in_order (ranks_by g.met.T.Key.Ord.total key) c.args.entries.now.items c.sort_by_key.new.self.items
    (sorted key (always_returns_same _ _ _ (λ a r q k. search rules)))
    (c.sort_by_key.ensures.stable key (always_returns_same _ _ _ (λ a r q k. search rules))))
    c.sort_by_key.ensures.sorted
