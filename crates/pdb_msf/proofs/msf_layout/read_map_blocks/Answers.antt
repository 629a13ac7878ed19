-- A file that ends before the numbers is cut short.
use Rattle.pdb_msf.proofs.FrontLemmas.{map_cut_short}
use Rattle.pdb_msf.proofs.msf_layout.read_map_blocks.Goals as goal

pub returns-then-saturating_sub-count-clause-answer : goal.returns-then-saturating_sub-count-clause-answer
returns-then-saturating_sub-count-clause-answer g c =
    map_cut_short _ _ _ _ c.saturating_sub.ensures c.if-saturating_sub-count.true
