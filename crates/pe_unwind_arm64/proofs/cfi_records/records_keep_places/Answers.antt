-- A record keeps a place.
use Rattle.pe_unwind_arm64.proofs.PlaceLemmas.{place_kept}
use Rattle.pe_unwind_arm64.proofs.cfi_records.records_keep_places.Goals as goal

pub returns : goal.returns
returns c = place_kept
