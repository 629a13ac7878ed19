-- Intervals of bytes that one module owns.
use Rattle.std.specs.Prelude.{◌≡◌, ⊤, ℕ, not, Bool, false, List, [], ◌∷◌}
use Rattle.std.specs.Prelude.{nat_lt, Option, Some, None, option_and_then, if◌then◌else◌}
use Rattle.std.specs.List.{flat_map}
use Rattle.std.specs.Ordering.{nat_cmp}
use Rattle.pdb_tables.specs.Keyed.{is_above, is_lower, KeysAscend}
use Rattle.pdb_tables.specs.Last.{last_over}
use Rattle.pdb_tables.specs.declared.segment.Segment.{Segment}
use Rattle.pdb_repairs.specs.Claims.{is_same_module, owner, size_of}
use Rattle.pdb_repairs.specs.declared.claims.Claim.{Claim}
use Rattle.pdb_repairs.specs.declared.intervals.Interval.{Interval}

-- whether a claim has fewer bytes than another
abbrev pub is_smaller : Claim → Claim → Bool
is_smaller = is_lower nat_cmp size_of

-- the bytes of a claim, with its module as their value
abbrev pub segment_of : Claim → Segment ℕ
segment_of claim = record { start = claim.start; end = claim.end; value = claim.module_index }

-- the start and the end of each claim
abbrev pub edges_of : List Claim → List ℕ
edges_of claims = flat_map (λ claim. claim.start ∷ claim.end ∷ []) claims

-- whether an interval is of this module
abbrev pub is_of : Option Interval → Option ℕ → Bool
is_of None module_index = false
is_of (Some interval) module_index = is_same_module interval.module_index module_index

-- whether the next interval begins before a byte
abbrev pub ends_before : Option Interval → ℕ → Bool
ends_before None byte = false
ends_before (Some next) byte = nat_lt next.start byte

-- the interval that begins at a byte, with the owner of the byte
abbrev pub interval_at : (ℕ → Option ℕ) → ℕ → Interval
interval_at owner_of byte = record { start = byte; module_index = owner_of byte }

-- the intervals that begin at these bytes, after the interval `last`; one begins at each byte with another owner than
-- the interval before it
abbrev pub intervals_after : (ℕ → Option ℕ) → Option Interval → List ℕ → List Interval
intervals_after owner_of last [] = []
intervals_after owner_of last (byte ∷ bytes) =
    if is_of last (owner_of byte) then intervals_after owner_of last bytes
    else interval_at owner_of byte ∷ intervals_after owner_of (Some (interval_at owner_of byte)) bytes

-- whether an interval begins at a byte or before it
abbrev pub begins_by : ℕ → Interval → Bool
begins_by byte interval = not (is_above nat_cmp (λ i. i.start) byte interval)

-- the module of an interval
abbrev pub module_of : Option Interval → Option ℕ
module_of interval = option_and_then (λ i. i.module_index) interval

-- neighbours have different modules, and so do the first interval and the one before it
abbrev pub Differ : Option Interval → List Interval → Type 0
Differ last [] = ⊤
Differ last (interval ∷ intervals) = (is_of last interval.module_index ≡ false) × Differ (Some interval) intervals

-- the intervals have the owner of each byte: the module of the last interval that begins at or before it
pub record AreOwners (claims : List Claim) (intervals : List Interval) : Type 0 where
  pub ascend : KeysAscend nat_cmp (λ i. i.start) intervals
  pub owners : (byte : ℕ) → owner claims byte ≡ module_of (last_over (begins_by byte) None intervals)
  pub differ : Differ None intervals
