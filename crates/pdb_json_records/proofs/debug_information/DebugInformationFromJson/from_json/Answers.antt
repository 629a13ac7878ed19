use Rattle.std.proofs.Common.{refl}
use Rattle.pdb_json_records.specs.DebugInformation.{debug_information_of}
use Rattle.pdb_json_records.proofs.debug_information.DebugInformationFromJson.from_json.Goals as goal

pub returns : goal.returns
unfolding debug_information_of
returns c =
    rw (
      c.in_ok-debug.ensures,
      c.in_ok-machine_type.ensures,
      c.in_ok-modules.ensures,
      c.in_ok-section_contributions.ensures,
    ) refl
