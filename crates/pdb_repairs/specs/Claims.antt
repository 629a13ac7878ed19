-- The bytes that contributions claim for their modules, and which contributions are kept.
use Rattle.std.specs.Prelude.{ℕ, ◌+◌, ◌-◌, ◌*◌, ◌^◌, ◌==◌, ◌&&◌, ◌||◌, not, Bool, true, false, nat_lt, List}
use Rattle.std.specs.Prelude.{fold, map, Option, Some, None, option_map, if◌then◌else◌}
use Rattle.std.specs.List.{filter, filter_map, list_all, range_with_len}
use Rattle.std.specs.Ordering.{nat_cmp}
use Rattle.pdb_records.specs.Addresses.{numbered_section}
use Rattle.pdb_records.specs.declared.addresses.ImageSectionHeader.{ImageSectionHeader}
use Rattle.pdb_records.specs.declared.debug_information.DebugInformation.{DebugInformation}
use Rattle.pdb_records.specs.declared.debug_information.SectionContribution.{SectionContribution}
use Rattle.pdb_tables.specs.Keyed.{first_of_each_key}
use Rattle.pdb_tables.specs.RangeSet.{is_within}
use Rattle.pdb_repairs.specs.declared.claims.Claim.{Claim}
use Rattle.pdb_repairs.specs.declared.repairs.Repair.{Repair}
use Rattle.pdb_repairs.specs.declared.repairs.Repair.TheVariants.{ModuleContributions}

-- whether a section holds code, if there is one
abbrev pub holds_code : Option ImageSectionHeader → Bool
holds_code None = false
holds_code (Some section) = section.execute

-- whether a contribution counts: it has bytes, in a section that holds code
abbrev pub counts : List ImageSectionHeader → SectionContribution → Bool
counts sections contribution =
    holds_code (numbered_section contribution.offset.section sections) && nat_lt 0 contribution.size

-- the number of a byte of a section, which no byte of another section has
abbrev pub byte_number : ℕ → ℕ → ℕ
byte_number section offset = section * 2 ^ 32 + offset

-- the claim of a contribution: the bytes from its start to its end, if the end is below 2 ^ 32
abbrev pub claim_of : SectionContribution → Option Claim
claim_of contribution =
    let end = contribution.offset.offset + contribution.size in
    if nat_lt end (2 ^ 32)
    then Some (record {
      start = byte_number contribution.offset.section contribution.offset.offset;
      end = byte_number contribution.offset.section end;
      module_index = contribution.«module»;
    })
    else None

-- the claims of the contributions that count
abbrev pub claims_of : List ImageSectionHeader → List SectionContribution → List Claim
claims_of sections contributions = filter_map claim_of (filter (counts sections) contributions)

-- whether a claim has a byte
abbrev pub has_byte : ℕ → Claim → Bool
has_byte byte claim = is_within claim.start claim.end byte

-- the number of bytes in a claim
abbrev pub size_of : Claim → ℕ
size_of claim = claim.end - claim.start

-- whether a claim is greater than the greatest one before it, if there is one
abbrev pub is_greater : Option Claim → Claim → Bool
is_greater None claim = true
is_greater (Some greatest) claim = nat_lt (size_of greatest) (size_of claim)

-- the greatest claim to a byte after one more claim; of equally great claims the first stays
abbrev pub greater_over : ℕ → Option Claim → Claim → Option Claim
greater_over byte greatest claim = if has_byte byte claim && is_greater greatest claim then Some claim else greatest

-- the greatest of the claims to a byte; of equally great ones the first
abbrev pub greatest_over : List Claim → ℕ → Option Claim
greatest_over claims byte = fold (greater_over byte) None claims

-- the module that owns a byte: that of the greatest claim to it, of equally great ones the first
abbrev pub owner : List Claim → ℕ → Option ℕ
owner claims byte = option_map (λ claim. claim.module_index) (greatest_over claims byte)

-- whether two optional modules are the same
abbrev pub is_same_module : Option ℕ → Option ℕ → Bool
is_same_module None None = true
is_same_module None (Some b) = false
is_same_module (Some a) None = false
is_same_module (Some a) (Some b) = a == b

-- whether the module of a claim owns each of its bytes
unfoldable pub owns_all : List Claim → Claim → Bool
owns_all claims claim =
    list_all (λ byte. is_same_module (owner claims byte) (Some claim.module_index))
    (range_with_len claim.start (size_of claim))

-- whether the module of a claim owns each of its bytes; false for a contribution without a claim, whose end is too high
abbrev pub owns : List Claim → Option Claim → Bool
owns claims None = false
owns claims (Some claim) = owns_all claims claim

-- whether a contribution is kept: it doesn't count, or its module owns each of its bytes
abbrev pub is_retained : List ImageSectionHeader → List Claim → SectionContribution → Bool
is_retained sections claims contribution = not (counts sections contribution) || owns claims (claim_of contribution)

-- the contributions that are kept
abbrev pub retained : List ImageSectionHeader → List SectionContribution → List SectionContribution
retained sections contributions = filter (is_retained sections (claims_of sections contributions)) contributions

-- the modules of the contributions that aren't kept, one for each contribution
abbrev pub modules_of_left_out : List ImageSectionHeader → List Claim → List SectionContribution → List ℕ
modules_of_left_out sections claims contributions =
    map (λ contribution. contribution.«module»)
    (filter (λ contribution. not (is_retained sections claims contribution)) contributions)

-- the modules of contributions that aren't kept, sorted and without duplicates
abbrev pub modules_left_out : List ImageSectionHeader → List SectionContribution → List ℕ
modules_left_out sections contributions =
    first_of_each_key nat_cmp (λ m. m) (modules_of_left_out sections (claims_of sections contributions) contributions)

-- debug information with only the contributions that are kept
abbrev pub with_retained : List ImageSectionHeader → DebugInformation → DebugInformation
with_retained sections debug = record debug {
  section_contributions = record debug.section_contributions {
    items = retained sections debug.section_contributions.items;
  };
}

-- the repairs for contributions that aren't kept: one for each module, in ascending order
abbrev pub repairs_of_claims : List ImageSectionHeader → DebugInformation → List Repair
repairs_of_claims sections debug = map ModuleContributions (modules_left_out sections debug.section_contributions.items)
