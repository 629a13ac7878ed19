-- Lists that are sorted by the places of their elements.
use Rattle.std.specs.Prelude.{ℕ, ◌+◌, ◌*◌, ◌^◌, ◌==◌, Bool, false, nat_le, List, [], ◌∷◌, Option, Some, None}
use Rattle.std.specs.Prelude.{if◌then◌else◌}
use Rattle.std.specs.Ordering.{nat_cmp, is_lt}
use Rattle.pdb_tables.specs.InOrder.{in_order}
use Rattle.pdb_records.specs.declared.addresses.PdbInternalSectionOffset.{PdbInternalSectionOffset}

-- a section offset as one number, its place: the section's number times 4 GiB, plus the offset
abbrev pub place : PdbInternalSectionOffset → ℕ
place section_offset = section_offset.section * 2 ^ 32 + section_offset.offset

-- whether the first element has a lower place than the second
abbrev pub stands_before : {T : Type 0} → (T → ℕ) → T → T → Bool
stands_before place_of a b = is_lt (nat_cmp (place_of a) (place_of b))

-- whether the element before has this place
abbrev pub is_at : Option ℕ → ℕ → Bool
is_at None x = false
is_at (Some before) x = before == x

-- the first of each run of neighbours with the same place; the list follows an element with the place `before`, if any
abbrev pub firsts_after : {T : Type 0} → (T → ℕ) → Option ℕ → List T → List T
firsts_after place_of before [] = []
firsts_after place_of before (x ∷ xs) =
    if is_at before (place_of x) then firsts_after place_of before xs
    else x ∷ firsts_after place_of (Some (place_of x)) xs

-- a list sorted by place, with only the first element of each place
abbrev pub first_of_each_place : {T : Type 0} → (T → ℕ) → List T → List T
first_of_each_place place_of xs = firsts_after place_of None (in_order (stands_before place_of) xs)

-- whether the first element of a list has a place of at most `x`
abbrev pub begins_by : {T : Type 0} → (T → ℕ) → ℕ → List T → Bool
begins_by place_of x [] = false
begins_by place_of x (y ∷ ys) = nat_le (place_of y) x

-- the rest of a list without each first element whose next one has a place of at most `x`. For a sorted list this is
-- the rest from the last element whose place is at most `x`; the whole list if there is no such element
abbrev pub from_last : {T : Type 0} → (T → ℕ) → ℕ → List T → List T
from_last place_of x [] = []
from_last place_of x (y ∷ ys) = if begins_by place_of x ys then from_last place_of x ys else y ∷ ys

-- the elements of a list before the first one that fails a test
abbrev pub front : {T : Type 0} → (T → Bool) → List T → List T
front passes [] = []
front passes (x ∷ xs) = if passes x then x ∷ front passes xs else []
