-- Laws on the sizes at the ends of chains of types, in words of their own.
use Rattle.std.specs.Prelude.{◌≡◌, ℕ, zero, suc}
use Rattle.pdb_records.specs.declared.types.TypeIndex.{TypeIndex}
use Rattle.pdb_types.specs.declared.type_sizes.TypeSize.{TypeSize}
use Rattle.pdb_types.specs.declared.type_sizes.Step.{Step}
use Rattle.pdb_types.specs.declared.type_sizes.Step.TheVariants.{Ended, Next}

-- a chain from an index ends after this many steps with this size
abbrev pub EndsWith : (ℕ → Step) → ℕ → ℕ → TypeSize → Type 0
EndsWith next zero index size = next index ≡ Ended size
EndsWith next (suc steps) index size =
    (further : TypeIndex) × (next index ≡ Next further) × EndsWith next steps further.0 size

-- a chain from an index never ends
abbrev pub NeverEnds : (ℕ → Step) → ℕ → Type 0
NeverEnds next index = (steps : ℕ) (size : TypeSize) → EndsWith next steps index size → ⊥

-- a chain leads from one index to another in this many steps
abbrev pub Leads : (ℕ → Step) → ℕ → ℕ → ℕ → Type 0
Leads next zero index other = index ≡ other
Leads next (suc steps) index other =
    (further : TypeIndex) × (next index ≡ Next further) × Leads next steps further.0 other
