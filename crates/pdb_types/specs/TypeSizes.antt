-- The sizes of types, at the ends of their chains.
use Rattle.std.specs.Prelude.{ℕ, zero, suc, List, Option, Some, None, Result}
use Rattle.std.specs.Prelude.{Ok, Err, length, option_and_then, if◌then◌else◌}
use Rattle.std.specs.Option.{unwrap_or}
use Rattle.pdb_records.specs.Readings.{Read}
use Rattle.pdb_records.specs.declared.types.Item.{Item}
use Rattle.pdb_records.specs.declared.types.TypeIndex.{TypeIndex}
use Rattle.pdb_records.specs.declared.types.TypeData.{TypeData}
use Rattle.pdb_types.specs.declared.read_error.Part.{Part}
use Rattle.pdb_types.specs.declared.type_sizes.TypeSize.{TypeSize}
use Rattle.pdb_types.specs.declared.type_sizes.Step.{Step}
use Rattle.pdb_types.specs.declared.type_sizes.Step.TheVariants.{Ended, Next}
use Rattle.pdb_types.specs.ForwardReferences.{Aggregate, aggregate, size_behind}
use Rattle.pdb_types.specs.ItemReading.{reading}
use Rattle.pdb_types.specs.Sizes.{own_size, underneath}
use Rattle.pdb_types.specs.TypeInputs.{LinkInputs, TypeInputs, link_inputs}
use Rattle.pdb_records.specs.Provided.{ProviderInfos}
use Rattle.pdb_types.specs.ReadError.{ReadErrorView, Broken}

-- the type for an index of the module with this module index, and the number to which the index resolves
abbrev pub read_type : LinkInputs → Read (Item TypeIndex TypeData) → ℕ → ℕ → Result (ℕ × TypeData) ReadErrorView
read_type link types module_index index = reading (λ i. i.0) link types module_index index

-- the size for a forward reference, in its definition after it; other types have none
abbrev pub size_elsewhere : ℕ → List (Item TypeIndex TypeData) → Aggregate → Option ℕ
size_elsewhere number items a = if a.forward_reference then size_behind number a.name items else None

-- the size of a type with this number, which is neither an enumeration nor a modifier
abbrev pub end_size : ℕ → List (Item TypeIndex TypeData) → ℕ → TypeData → ℕ
end_size pointer items number type =
    unwrap_or (option_and_then (size_elsewhere number items) (aggregate type)) (own_size pointer type)

-- size 0, and no broken part of the records
abbrev pub no_size : TypeSize
no_size = record { size = 0; met = None }

-- the next step of a chain after a type: the type underneath, or the end with its size
abbrev pub step_from : ℕ → List (Item TypeIndex TypeData) → ℕ × TypeData → Option TypeIndex → Step
step_from pointer items read None = Ended (record { size = end_size pointer items read.0 read.1; met = None })
step_from pointer items read (Some next) = Next next

-- the broken part in a read error
abbrev pub met_in : ReadErrorView → Option Part
met_in (Broken part e) = Some part
met_in other = None

-- the next step of a chain after what was read; an unreadable type ends it without a size
abbrev pub step_after : ℕ → List (Item TypeIndex TypeData) → Result (ℕ × TypeData) ReadErrorView → Step
step_after pointer items (Ok read) = step_from pointer items read (underneath read.1)
step_after pointer items (Err error) = Ended (record { size = 0; met = met_in error })

-- the next step of a chain after an index
abbrev pub step : LinkInputs → Read (Item TypeIndex TypeData) → ℕ → ℕ → ℕ → Step
step link types pointer module_index index = step_after pointer types.items (read_type link types module_index index)

-- the size at this step; a chain that continues here has none
abbrev pub ended : Step → TypeSize
ended (Ended size) = size
ended (Next index) = no_size

-- the size of the rest of a chain
abbrev pub onward : (ℕ → TypeSize) → Step → TypeSize
onward next (Ended size) = size
onward next (Next index) = next index.0

-- the size at the end of a chain of at most this many steps
abbrev pub size_along : (ℕ → Step) → ℕ → ℕ → TypeSize
size_along next zero index = ended (next index)
size_along next (suc steps) index = onward (size_along next steps) (next index)

-- the size of a type for an index of the module with this module index: the size at the end of its chain, or none if
-- the chain never ends. As many steps as there are entries decide this, by the laws over SizeLaws
unfoldable pub type_size : LinkInputs → Read (Item TypeIndex TypeData) → ℕ → ℕ → ℕ → TypeSize
type_size link types pointer module_index index =
    size_along (step link types pointer module_index) (length types.items) index

-- the size of a type by type inputs, and the broken part that was found
abbrev pub size_of : {P : Type 0} → (P → ProviderInfos) → TypeInputs P → ℕ → ℕ → TypeSize
size_of info inputs module_index index =
    type_size (link_inputs info inputs) inputs.types inputs.pointer_size module_index index
