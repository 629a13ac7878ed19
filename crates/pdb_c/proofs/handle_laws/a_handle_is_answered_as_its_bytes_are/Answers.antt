use Rattle.std.specs.Prelude.{[], ◌∷◌}
use Rattle.pdb_c.specs.ReportTexts.{records_in}
use Rattle.pdb_c.proofs.OpeningLemmas.{asked_alike, refused_alike}
use Rattle.pdb_c.proofs.handle_laws.a_handle_is_answered_as_its_bytes_are.Goals as goal

pub returns : goal.returns
returns c = record {
  opened = asked_alike;
  refused = λ command bytes address addresses why is.
      refused_alike command (records_in bytes []) (address ∷ addresses) why is;
}
