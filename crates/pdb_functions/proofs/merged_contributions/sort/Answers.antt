use Rattle.std.proofs.lemmas.Result.{on_ok_weaker}
use Rattle.pdb_tables.proofs.SortLemmas.{sorted_is_in_order}
use Rattle.pdb_functions.proofs.ContributionLemmas.{contributions_rank}
use Rattle.pdb_functions.proofs.merged_contributions.sort.Goals as goal

pub returns : goal.returns
returns c = on_ok_weaker c.sort.result (λ sorted. sorted_is_in_order contributions_rank c.args.claims.now.items
    c.sort.new.self.items sorted c.sort.ensures.stable) c.sort.ensures.sorted
