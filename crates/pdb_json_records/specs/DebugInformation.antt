-- Debug information: the machine, the modules and the section contributions.
use Rattle.std.specs.Prelude.{ℕ, List, [], ◌∷◌, Result, Ok, unwrap_or, codes}
use Rattle.serde_json.specs.Data.{Data}
use Rattle.pdb_records.specs.declared.debug_information.MachineType.{MachineType}
use Rattle.pdb_records.specs.declared.debug_information.MachineType.TheVariants as machine
use Rattle.pdb_records.specs.declared.debug_information.DebugInformation.{DebugInformation}
use Rattle.pdb_records.specs.declared.debug_information.Module.{Module}
use Rattle.pdb_records.specs.declared.debug_information.SectionContribution.{SectionContribution}
use Rattle.pdb_json_values.specs.RecordFault.{Fault, ◌>>=◌}
use Rattle.pdb_json_values.specs.Values.{object_of, text_of}
use Rattle.pdb_json_values.specs.JsonNumbers.{u32_of}
use Rattle.pdb_json_records.specs.NameValues.{name_of, variant_named}
use Rattle.pdb_json_records.specs.Members.{member_of, reading_of, stream_of}
use Rattle.pdb_json_records.specs.Sections.{section_offset_of}

-- the names of processors
abbrev pub machines : List (List ℕ × MachineType)
machines =
    (codes "Amd64", machine.Amd64)
    ∷ (codes "Arm64", machine.Arm64)
    ∷ (codes "Ia64", machine.Ia64)
    ∷ (codes "RiscV64", machine.RiscV64)
    ∷ (codes "RiscV128", machine.RiscV128)
    ∷ []

-- a processor; any other text means another one
unfoldable pub machine_of : Data → Result MachineType Fault
machine_of d = do
  name ← text_of d
  Ok (unwrap_or (variant_named name machines) machine.Other)

-- a file that was linked into the program
unfoldable pub module_of : ℕ → Data → Result Module Fault
module_of version d = do
  entry ← object_of d
  name ← member_of (codes "name") (name_of version) entry
  Ok (record { name = name })

-- a section contribution of a module
unfoldable pub contribution_of : Data → Result SectionContribution Fault
contribution_of d = do
  contribution ← object_of d
  offset ← section_offset_of (codes "section") (codes "offset") contribution
  size ← member_of (codes "size") u32_of contribution
  from ← member_of (codes "module") u32_of contribution
  Ok (record { offset = offset; size = size; «module» = from })

-- the debug information: the processor, the modules, and the section contributions
unfoldable pub debug_information_of : ℕ → Data → Result DebugInformation Fault
debug_information_of version d = do
  debug ← object_of d
  processor ← member_of (codes "machine_type") (stream_of machine_of) debug
  modules ← member_of (codes "modules") (reading_of (module_of version)) debug
  contributions ← member_of (codes "section_contributions") (reading_of contribution_of) debug
  Ok (record { machine_type = processor; modules = modules; section_contributions = contributions })
