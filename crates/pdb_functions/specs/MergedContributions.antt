-- Merged contributions: which module the bytes of the program belong to.
use Rattle.std.specs.Prelude.{◌+◌, ◌^◌, Bool, List, [], ◌∷◌, ◌&&◌, ◌==◌, max, nat_lt, Option}
use Rattle.std.specs.Prelude.{Some, None, Result, Ok, option_map, map, filter, if◌then◌else◌}
use Rattle.std.specs.Ordering.{nat_cmp, ordering_then, is_lt}
use Rattle.std.specs.declared.cmp.Ordering.{Ordering}
use Rattle.pdb_records.specs.declared.error.Error.TheVariants.{Stream}
use Rattle.pdb_records.specs.declared.addresses.ImageSectionHeader.{ImageSectionHeader}
use Rattle.pdb_records.specs.declared.addresses.PdbInternalSectionOffset.{PdbInternalSectionOffset}
use Rattle.pdb_records.specs.declared.debug_information.SectionContribution.{SectionContribution}
use Rattle.pdb_records.specs.declared.debug_information.DebugInformation.{DebugInformation}
use Rattle.pdb_errors.specs.declared.error.Error.{Error}
use Rattle.pdb_errors.specs.declared.error.Error.TheVariants.{PdbError, SectionContributionEndTooLarge}
use Rattle.pdb_errors.specs.declared.error.Error.TheVariants.{OverlappingSectionContributions}
use Rattle.pdb_functions.specs.declared.merged_contributions.ModuleSectionContribution.{ModuleSectionContribution}
use Rattle.pdb_tables.specs.InOrder.{in_order}
use Rattle.pdb_errors.specs.Outcomes.{first_refusal, unless}
use Rattle.pdb_functions.specs.CodeSections.{is_executable}

-- whether a contribution counts: it isn't empty and its section holds code
abbrev pub is_counted : List ImageSectionHeader → SectionContribution → Bool
is_counted sections c = nat_lt 0 c.size && is_executable sections c.offset.section

-- the bytes that a contribution claims for its module
abbrev pub claimed : SectionContribution → ModuleSectionContribution
claimed c = record {
  section_index = c.offset.section;
  start_offset = c.offset.offset;
  end_offset = c.offset.offset + c.size;
  module_index = c.«module»;
}

-- the claims of the contributions that count, in reading order
abbrev pub claims : List ImageSectionHeader → List SectionContribution → List ModuleSectionContribution
claims sections cs = map claimed (filter (is_counted sections) cs)

-- whether two claims have one module and section
abbrev pub is_same_module : ModuleSectionContribution → ModuleSectionContribution → Bool
is_same_module a b = (a.section_index == b.section_index) && (a.module_index == b.module_index)

-- the error of a claim whose end doesn't fit in 32 bits
abbrev pub refused_end : ModuleSectionContribution → Option Error
refused_end claim =
    if nat_lt claim.end_offset (2 ^ 32) then None
    else Some (SectionContributionEndTooLarge claim.module_index claim.section_index)

-- the error of the first claim, in reading order, whose end doesn't fit in 32 bits
abbrev pub refused_ends : List ModuleSectionContribution → Option Error
refused_ends [] = None
refused_ends (claim ∷ claims) = first_refusal (refused_end claim) (refused_ends claims)

-- the first error in reading order: of an end, or the fault after the contributions
abbrev pub reading_refusal : List ImageSectionHeader → DebugInformation → Option Error
reading_refusal sections debug =
    first_refusal (refused_ends (claims sections debug.section_contributions.items)) (
    option_map (λ fault. PdbError (Stream fault)) debug.section_contributions.fault)

-- the order of claims: by section, start, end and module
abbrev pub contribution_cmp : ModuleSectionContribution → ModuleSectionContribution → Ordering
contribution_cmp a b =
    ordering_then (nat_cmp a.section_index b.section_index) (
    ordering_then (nat_cmp a.start_offset b.start_offset) (
    ordering_then (nat_cmp a.end_offset b.end_offset) (
    nat_cmp a.module_index b.module_index)))

-- whether one claim comes before another
abbrev pub contribution_before : ModuleSectionContribution → ModuleSectionContribution → Bool
contribution_before a b = is_lt (contribution_cmp a b)

-- the claims of the contributions that count, sorted by section, start, end and module
abbrev pub ordered_claims : List ImageSectionHeader → List SectionContribution → List ModuleSectionContribution
ordered_claims sections cs = in_order contribution_before (claims sections cs)

-- a claim put before intervals. It joins the first interval if that has its module and section, with the gap and up to
-- the greater end; otherwise it is an interval of its own
abbrev pub intervals_with : ModuleSectionContribution → List ModuleSectionContribution
    → List ModuleSectionContribution
intervals_with claim [] = claim ∷ []
intervals_with claim (interval ∷ intervals) =
    if is_same_module claim interval
    then record claim { end_offset = max claim.end_offset interval.end_offset } ∷ intervals
    else claim ∷ interval ∷ intervals

-- the intervals of claims; neighbours with one module and section are joined
abbrev pub intervals_of : List ModuleSectionContribution → List ModuleSectionContribution
intervals_of [] = []
intervals_of (claim ∷ claims) = intervals_with claim (intervals_of claims)

-- the error of an interval that begins before the end of the one before it, in one section
abbrev pub refused_overlap : Option ModuleSectionContribution → ModuleSectionContribution → Option Error
refused_overlap None interval = None
refused_overlap (Some before) interval =
    if (before.section_index == interval.section_index) && nat_lt interval.start_offset before.end_offset
    then Some (OverlappingSectionContributions interval.section_index before.module_index interval.module_index)
    else None

-- the error of the first overlap of neighbours, after an interval that came before
abbrev pub overlap_after : Option ModuleSectionContribution → List ModuleSectionContribution → Option Error
overlap_after before [] = None
overlap_after before (interval ∷ intervals) =
    first_refusal (refused_overlap before interval) (overlap_after (Some interval) intervals)

-- the merged contributions of a program, or why there are none
abbrev pub merged_contributions : List ImageSectionHeader → DebugInformation
    → Result (List ModuleSectionContribution) Error
merged_contributions sections debug =
    let intervals = intervals_of (ordered_claims sections debug.section_contributions.items) in
    unless (reading_refusal sections debug) (unless (overlap_after None intervals) (Ok intervals))

-- the starts of the contributions that count, in reading order
abbrev pub contribution_starts : List ImageSectionHeader → List SectionContribution → List PdbInternalSectionOffset
contribution_starts sections cs = map (λ c. c.offset) (filter (is_counted sections) cs)
