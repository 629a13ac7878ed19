-- A stable sort puts the list in order, so that its places ascend.
use Rattle.std.proofs.Common.{rules}
use Rattle.std.proofs.lemmas.Fn.{always_returns_same}
use Rattle.std.proofs.lemmas.Result.{on_ok_weaker}
use Rattle.std.proofs.lemmas.Cmp.{nat_cmp_total}
use Rattle.std.proofs.lemmas.List.Sorted.{IsNonDecreasingBy-from_sort_by_key, ranks_by}
use Rattle.pdb_tables.proofs.SortLemmas.{sorted_is_in_order}
use Rattle.pdb_codeview.proofs.places.sort_by_place.Goals as goal

pub returns : goal.returns
returns g c =
    let place_of = g.T.HasPlace.place_of in
    record {
      state = on_ok_weaker c.sort_by_key.result (λ sorted.
          sorted_is_in_order (ranks_by nat_cmp_total place_of) c.args.items.now.items c.sort_by_key.new.self.items
          (sorted place_of (always_returns_same _ _ _ (λ a r q k. search rules)))
          (c.sort_by_key.ensures.stable place_of (always_returns_same _ _ _ (λ a r q k. search rules))))
          c.sort_by_key.ensures.sorted;
      ascending = on_ok_weaker c.sort_by_key.result (λ sorted.
          IsNonDecreasingBy-from_sort_by_key place_of c.sort_by_key.new.self.items sorted (λ a r q k. search rules))
          c.sort_by_key.ensures.sorted;
    }
