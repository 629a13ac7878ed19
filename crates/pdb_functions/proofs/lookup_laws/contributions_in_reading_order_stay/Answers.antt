use Rattle.pdb_functions.proofs.ReadingOrderLawLemmas.{in_reading_order_stay}
use Rattle.pdb_functions.proofs.lookup_laws.contributions_in_reading_order_stay.Goals as goal

pub returns : goal.returns
returns c = in_reading_order_stay
