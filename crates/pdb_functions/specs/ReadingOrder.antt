-- Contributions joined in reading order, as long as those of each module follow one another. Only the law about
-- programs in that order uses this.
use Rattle.std.specs.Prelude.{◌≡◌, ◌≤◌, ⊤, true, false, List, [], ◌∷◌, ◌++◌, ◌&&◌, nat_lt, Option}
use Rattle.std.specs.Prelude.{Some, None, Result, Ok, option_map, if◌then◌else◌}
use Rattle.std.specs.List.{AllByRecursion}
use Rattle.pdb_records.specs.declared.error.Error.TheVariants.{Stream}
use Rattle.pdb_records.specs.declared.addresses.ImageSectionHeader.{ImageSectionHeader}
use Rattle.pdb_records.specs.declared.debug_information.SectionContribution.{SectionContribution}
use Rattle.pdb_records.specs.declared.debug_information.DebugInformation.{DebugInformation}
use Rattle.pdb_errors.specs.declared.error.Error.{Error}
use Rattle.pdb_errors.specs.declared.error.Error.TheVariants.{PdbError, UnorderedSectionContributions}
use Rattle.pdb_functions.specs.declared.merged_contributions.ModuleSectionContribution.{ModuleSectionContribution}
use Rattle.pdb_tables.specs.InOrder.{in_order}
use Rattle.pdb_errors.specs.Outcomes.{first_refusal, unless}
use Rattle.pdb_functions.specs.MergedContributions.{claims, is_same_module, refused_end, overlap_after, contribution_before}

-- the interval of a claim, after what came before: it keeps the first start, and ends with the claim
abbrev pub interval_after : Option ModuleSectionContribution → ModuleSectionContribution → ModuleSectionContribution
interval_after None claim = claim
interval_after (Some interval) claim =
    if is_same_module interval claim then record interval { end_offset = claim.end_offset } else claim

-- the interval that a claim of another module or section ends
abbrev pub interval_ended : Option ModuleSectionContribution → ModuleSectionContribution
    → List ModuleSectionContribution
interval_ended None claim = []
interval_ended (Some interval) claim = if is_same_module interval claim then [] else interval ∷ []

-- the intervals of neighbours with one module and section, in reading order, after what came before
abbrev pub reading_intervals : Option ModuleSectionContribution → List ModuleSectionContribution
    → List ModuleSectionContribution
reading_intervals None [] = []
reading_intervals (Some interval) [] = interval ∷ []
reading_intervals before (claim ∷ claims) =
    interval_ended before claim ++ reading_intervals (Some (interval_after before claim)) claims

-- the error of a claim that ends below the end before it in its interval
abbrev pub refused_order : Option ModuleSectionContribution → ModuleSectionContribution → Option Error
refused_order None claim = None
refused_order (Some interval) claim =
    if is_same_module interval claim && nat_lt claim.end_offset interval.end_offset
    then Some (UnorderedSectionContributions claim.module_index claim.section_index)
    else None

-- the first error in reading order, after what came before
abbrev pub refusal_after : Option ModuleSectionContribution → List ModuleSectionContribution → Option Error
refusal_after before [] = None
refusal_after before (claim ∷ claims) =
    first_refusal (refused_end claim) (
    first_refusal (refused_order before claim) (
    refusal_after (Some (interval_after before claim)) claims))

-- the first error in reading order: of a contribution, or the fault after them
abbrev pub joining_refusal : List ImageSectionHeader → DebugInformation → Option Error
joining_refusal sections debug =
    first_refusal (refusal_after None (claims sections debug.section_contributions.items)) (
    option_map (λ fault. PdbError (Stream fault)) debug.section_contributions.fault)

-- these intervals sorted by section, start, end and module
abbrev pub ordered_intervals : List ImageSectionHeader → List SectionContribution → List ModuleSectionContribution
ordered_intervals sections cs = in_order contribution_before (reading_intervals None (claims sections cs))

-- the contributions of a program, joined in reading order, or why there are none
abbrev pub merged_in_reading_order : List ImageSectionHeader → DebugInformation
    → Result (List ModuleSectionContribution) Error
merged_in_reading_order sections debug =
    let intervals = ordered_intervals sections debug.section_contributions.items in
    unless (joining_refusal sections debug) (unless (overlap_after None intervals) (Ok intervals))

-- each interval is the only one of its module and section
abbrev pub AreOnly : List ModuleSectionContribution → Type 0
AreOnly [] = ⊤
AreOnly (interval ∷ intervals) =
    AllByRecursion (λ other. is_same_module interval other ≡ false) intervals × AreOnly intervals

-- if neighbours have one module and section, the second starts no earlier
abbrev pub StartsNeverFall : List ModuleSectionContribution → Type 0
StartsNeverFall [] = ⊤
StartsNeverFall (claim ∷ []) = ⊤
StartsNeverFall (claim ∷ next ∷ claims) =
    (is_same_module claim next ≡ true → claim.start_offset ≤ next.start_offset) × StartsNeverFall (next ∷ claims)
