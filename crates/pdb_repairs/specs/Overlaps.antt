-- Whether any byte is claimed by two modules.
use Rattle.std.specs.Prelude.{ℕ, ◌&&◌, ◌||◌, ◌==◌, not, Bool, false, nat_lt, List, [], ◌∷◌, length, count_by}
use Rattle.std.specs.Prelude.{if◌then◌else◌}
use Rattle.std.specs.Ordering.{nat_cmp}
use Rattle.pdb_records.specs.declared.addresses.ImageSectionHeader.{ImageSectionHeader}
use Rattle.pdb_records.specs.declared.debug_information.SectionContribution.{SectionContribution}
use Rattle.pdb_tables.specs.InOrder.{in_order}
use Rattle.pdb_tables.specs.Keyed.{is_lower}
use Rattle.pdb_repairs.specs.Claims.{counts}
use Rattle.pdb_repairs.specs.declared.claims.Claim.{Claim}

-- whether a claim begins before another
abbrev pub is_earlier : Claim → Claim → Bool
is_earlier = is_lower nat_cmp (λ claim. claim.start)

-- whether a claim begins before the greatest end of the claims before it, if that end belongs to another module
abbrev pub overlaps : ℕ → ℕ → List Claim → Bool
overlaps reach module_index [] = false
overlaps reach module_index (claim ∷ claims) =
    (nat_lt claim.start reach && not (claim.module_index == module_index))
    || (if nat_lt reach claim.end then overlaps claim.end claim.module_index claims
    else overlaps reach module_index claims)

-- whether some contribution may not be kept: one that counts has no claim, or claims of two modules overlap
abbrev pub may_lose : List ImageSectionHeader → List SectionContribution → List Claim → Bool
may_lose sections contributions claims =
    nat_lt (length claims) (count_by (counts sections) contributions) || overlaps 0 0 (in_order is_earlier claims)
