-- Laws on lookups, in words of their own.
use Rattle.std.specs.Prelude.{◌≡◌, ◌≢◌, ◌<◌, ◌≤◌, ℕ, Bool, true, false, List, [], ◌∷◌, ⊤, ◌&&◌, ◌==◌, nat_le, nat_lt}
use Rattle.std.specs.Prelude.{◌⊎◌, Option, Some, None, find}
use Rattle.std.specs.List.{AllByRecursion, list_any}
use Rattle.pdb_records.specs.Addresses.{is_same_section_offset}
use Rattle.pdb_records.specs.declared.addresses.PdbInternalSectionOffset.{PdbInternalSectionOffset}
use Rattle.pdb_errors.specs.declared.error.Error.{Error}
use Rattle.pdb_errors.specs.declared.error.Error.TheVariants.{OverlappingSectionContributions}
use Rattle.pdb_functions.specs.declared.merged_contributions.ModuleSectionContribution.{ModuleSectionContribution}
use Rattle.pdb_functions.specs.MergedContributions.{is_same_module}
use Rattle.pdb_functions.specs.Procedures.{ModuleProcedure}

-- a contribution has at least one byte
abbrev pub IsFilled : ModuleSectionContribution → Type 0
IsFilled m = m.start_offset < m.end_offset

-- one contribution is before another: in an earlier section, or completely below it in the same section
abbrev pub LiesBefore : ModuleSectionContribution → ModuleSectionContribution → Type 0
LiesBefore a b =
    (a.section_index < b.section_index) ⊎ ((a.section_index ≡ b.section_index) × (a.end_offset ≤ b.start_offset))

-- each contribution has a byte and is before all that follow
abbrev pub AreApart : List ModuleSectionContribution → Type 0
AreApart [] = ⊤
AreApart (m ∷ ms) = IsFilled m × AllByRecursion (LiesBefore m) ms × AreApart ms

-- whether a claim is within an interval: it has the interval's module and section, begins no earlier and ends no later
abbrev pub lies_in : ModuleSectionContribution → ModuleSectionContribution → Bool
lies_in claim interval =
    is_same_module claim interval
    && nat_le interval.start_offset claim.start_offset && nat_le claim.end_offset interval.end_offset

-- a claim is within one of the intervals
abbrev pub LiesInOneOf : List ModuleSectionContribution → ModuleSectionContribution → Type 0
LiesInOneOf intervals claim = list_any (lies_in claim) intervals ≡ true

-- an interval begins where one of the claims of its module and section begins
abbrev pub BeginsWithOneOf : List ModuleSectionContribution → ModuleSectionContribution → Type 0
BeginsWithOneOf claims interval =
    list_any (λ claim. is_same_module claim interval && (claim.start_offset == interval.start_offset)) claims ≡ true

-- an interval ends where one of the claims of its module and section ends
abbrev pub EndsWithOneOf : List ModuleSectionContribution → ModuleSectionContribution → Type 0
EndsWithOneOf claims interval =
    list_any (λ claim. is_same_module claim interval && (claim.end_offset == interval.end_offset)) claims ≡ true

-- an interval shares no byte with a claim of another module
abbrev pub IsApartFrom : ModuleSectionContribution → ModuleSectionContribution → Type 0
IsApartFrom interval claim =
    interval.section_index ≡ claim.section_index → interval.module_index ≢ claim.module_index
    → (claim.end_offset ≤ interval.start_offset) ⊎ (interval.end_offset ≤ claim.start_offset)

-- no two neighbours have one module and section: between two such intervals there is one of another module
abbrev pub NeighboursDiffer : List ModuleSectionContribution → Type 0
NeighboursDiffer [] = ⊤
NeighboursDiffer (interval ∷ []) = ⊤
NeighboursDiffer (interval ∷ next ∷ intervals) =
    (is_same_module interval next ≡ false) × NeighboursDiffer (next ∷ intervals)

-- one of the claims has this section and module, and contains this byte
abbrev pub HasByteOf : List ModuleSectionContribution → ℕ → ℕ → ℕ → Type 0
HasByteOf claims section module_index offset =
    list_any (λ claim. (claim.section_index == section) && (claim.module_index == module_index)
    && nat_le claim.start_offset offset && nat_lt offset claim.end_offset) claims ≡ true

-- an error names a byte that contributions of two modules claim
abbrev pub IsOverlap : List ModuleSectionContribution → Error → Type 0
IsOverlap claims (OverlappingSectionContributions section before module_index) =
    (before ≢ module_index)
    × ((offset : ℕ) × (HasByteOf claims section before offset × HasByteOf claims section module_index offset))
IsOverlap claims other = ⊥

-- the first procedure of a list that starts at a section offset
abbrev pub procedure_starting_at : PdbInternalSectionOffset → List ModuleProcedure → Option ModuleProcedure
procedure_starting_at section_offset procedures = find (λ p. is_same_section_offset p.offset section_offset) procedures

-- the last procedure of a list
abbrev pub last_procedure : List ModuleProcedure → Option ModuleProcedure
last_procedure [] = None
last_procedure (p ∷ []) = Some p
last_procedure (p ∷ q ∷ ps) = last_procedure (q ∷ ps)
