-- Which of ascending numbers a number is.
use Rattle.std.proofs.Common.{◌≡◌, ◌≢◌, ℕ, ◌<◌, List, length, get_or, Some, None, arith, true, false}
use Rattle.std.proofs.Common.{◌≤◌, sym, Result, Ok, Err}
use Rattle.std.proofs.lemmas.Bool.Decides.{nat_tests}
use Rattle.std.proofs.lemmas.List.Sorted.{searched}
use Rattle.std.proofs.lemmas.List.Sums.{position_or_len_is}
use Rattle.std.proofs.lemmas.Map.Keys.{below_from_sorted, non_decreasing_from_sorted, sorted_from_strictly_increasing}
use Rattle.std.specs.List.{position, position_or_len}
use Rattle.std.specs.List.Sorted.{IsBinarySearchResult, IsStrictlyIncreasing}
use Rattle.std.specs.Ordering.{nat_cmp}
use Rattle.std.specs.Prelude.{◌==◌, MatchResult}
use Rattle.std.specs.Result.{result_ok}

other_number : (at offset : ℕ) → at < offset → (at == offset) ≡ false
other_number at offset below = grind (arith, nat_tests)

differs : (at offset : ℕ) → at ≢ offset → (at == offset) ≡ false
differs at offset other = grind (arith, nat_tests)

same_number : (at offset : ℕ) → at ≡ offset → (at == offset) ≡ true
same_number at offset same = grind (arith, nat_tests)

-- it is the one at this place
pub position_at : (numbers : List ℕ) (offset place : ℕ) → IsStrictlyIncreasing numbers → place < length numbers
    → get_or numbers place 0 ≡ offset → position (λ at. at == offset) numbers ≡ Some place
position_at numbers offset place ascends within same =
    let sorted = sorted_from_strictly_increasing numbers ascends in
    let first : position_or_len (λ at. at == offset) numbers ≡ place =
    position_or_len_is (λ at. at == offset) numbers place 0 (omega arith)
    (λ k before. other_number (get_or numbers k 0) offset
    (omega (arith, below_from_sorted numbers k place 0 sorted before within)))
    (λ inside. same_number (get_or numbers place 0) offset same) in
    rw first (grind (arith, nat_tests))

-- it is none of them
pub position_none : (numbers : List ℕ) (offset : ℕ) → ((k : ℕ) → k < length numbers → get_or numbers k 0 ≢ offset)
    → position (λ at. at == offset) numbers ≡ None
position_none numbers offset lacks =
    let first : position_or_len (λ at. at == offset) numbers ≡ length numbers =
    position_or_len_is (λ at. at == offset) numbers (length numbers) 0 (omega arith)
    (λ k before. differs (get_or numbers k 0) offset (lacks k before))
    (λ inside. absurd (omega arith)) in
    rw first (grind (arith, nat_tests))

found_nowhere : (at offset place k count : ℕ) → (k < place → at < offset) → (place ≤ k → k < count → offset < at)
    → k < count → at ≢ offset
found_nowhere at offset place k count before behind within same = grind arith

by_search : (numbers : List ℕ) (offset : ℕ) (found : Result ℕ ℕ) → IsStrictlyIncreasing numbers
    → MatchResult found (λ place. (place < length numbers) × (get_or numbers place 0 ≡ offset))
    (λ place. (place ≤ length numbers) × ((k : ℕ) → k < place → get_or numbers k 0 < offset)
    × ((k : ℕ) → place ≤ k → k < length numbers → offset < get_or numbers k 0))
    → result_ok found ≡ position (λ at. at == offset) numbers
by_search numbers offset (Ok place) ascends is = sym (position_at numbers offset place ascends is.0 is.1)
by_search numbers offset (Err place) ascends is =
    sym (position_none numbers offset (λ k within same.
    found_nowhere (get_or numbers k 0) offset place k (length numbers) (is.1 k) (is.2 k) within same))

-- what a search by halves finds
pub number_searched : (numbers : List ℕ) (offset : ℕ) (found : Result ℕ ℕ) → IsStrictlyIncreasing numbers
    → IsBinarySearchResult (λ at. nat_cmp at offset) numbers found
    → result_ok found ≡ position (λ at. at == offset) numbers
number_searched numbers offset found ascends searching =
    let sorted = sorted_from_strictly_increasing numbers ascends in
    by_search numbers offset found ascends (searched numbers offset found searching
    (λ i j before within. non_decreasing_from_sorted numbers sorted i j 0 before within))
