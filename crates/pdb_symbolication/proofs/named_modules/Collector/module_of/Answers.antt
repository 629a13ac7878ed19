-- A module that is added has no offsets.
use Rattle.std.proofs.Common.{sym, subst, List, ℕ}
use Rattle.pdb_symbolication.specs.WantedModules.{NoMore, offsets_in}
use Rattle.pdb_symbolication.proofs.GainLemmas.{no_more_fresh}
use Rattle.pdb_symbolication.proofs.named_modules.Collector.module_of.Goals as goal

pub returns-in_ok-insert-in-None-clause-no_more : goal.returns-in_ok-insert-in-None-clause-no_more
returns-in_ok-insert-in-None-clause-no_more c =
    subst (λ (all : List (List ℕ)). NoMore (offsets_in c.args.self.now) all) (sym c.in_ok-position-in-None.ensures.offsets_added)
    (no_more_fresh (offsets_in c.args.self.now))
