-- A text that isn't read is no GUID.
use Rattle.std.proofs.Common.{true, false, ◌≡◌}
use Rattle.uuid.specs.Text.{parsed}
use Rattle.pdb_identity.proofs.DebugIdLemmas.{no_guid}
use Rattle.pdb_identity.proofs.debug_id.guid_of.Goals as goal

pub returns-in-Err : goal.returns-in-Err
returns-in-Err c =
    no_guid (parsed c.args.text.now) (λ guid is.
    let bad : false ≡ true = c.in-Err.ensures.ok.1 (guid, is) in absurd cc)
