-- Lists of numbers, number by number.
use Rattle.std.proofs.Common.{◌≡◌, ℕ, zero, suc, ◌+◌, ◌-◌, ◌*◌, ◌<◌, List, [], ◌∷◌, ◌++◌, take, drop, length, refl, ap}
use Rattle.std.proofs.Common.{append_assoc, arith}
use Rattle.std.proofs.lemmas.List.{drop-drop, drop-take, take-take}
use Rattle.pdb_msf.specs.NumberLists.{number, numbers}

-- with the next number copied, the numbers are still those that were copied and those that are left
pub copied_one : (count done x : ℕ) (all copied after bytes : List ℕ) → done < count
    → all ≡ copied ++ numbers (count - done) (drop (4 * done) bytes) → x ≡ number (drop (4 * done) bytes)
    → after ≡ copied ++ x ∷ []
    → all ≡ after ++ numbers (count - (done + 1)) (drop (4 * (done + 1)) bytes)
copied_one count done x all copied after bytes below before is pushed =
    let more : count - done ≡ suc (count - (done + 1)) = omega arith in
    let next : 4 * done + 4 ≡ 4 * (done + 1) = omega arith in
    rw (pushed, is, append_assoc) (rw (more, drop-drop, next) at before)

-- the numbers in the bytes that they take are those in all bytes
pub numbers_of_taken : (count : ℕ) (bytes : List ℕ) → numbers count (take (4 * count) bytes) ≡ numbers count bytes
numbers_of_taken zero bytes = refl
numbers_of_taken (suc count) bytes =
    let more : 4 * suc count ≡ 4 + 4 * count = omega arith in
    rw (more, take-take 4 (4 + 4 * count) bytes (omega arith), drop-take, numbers_of_taken count (drop 4 bytes)) refl

-- so many numbers are so many
pub number_count : (count : ℕ) (bytes : List ℕ) → length (numbers count bytes) ≡ count
number_count zero bytes = refl
number_count (suc count) bytes = ap suc (number_count count (drop 4 bytes))

-- what is known of numbers that were taken
pub ruleset taken = (numbers_of_taken, number_count)
