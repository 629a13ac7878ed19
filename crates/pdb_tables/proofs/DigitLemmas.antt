-- How the number of binary digits grows.
use Rattle.std.proofs.Common.{◌≡◌, ℕ, zero, suc, ◌+◌, ◌*◌, ◌/◌, ◌^◌, ◌<◌, ◌≤◌, length, subst, ap, arith}
use Rattle.std.specs.Int.Digits.{digits_of}
use Rattle.std.proofs.lemmas.Int.Digits.{number_lt, number_digits_of, all_below_base_digits_of, length-digits_of-le}
use Rattle.std.proofs.lemmas.Int.Digits.{length-digits_of_step}
use Rattle.pdb_tables.specs.Probes.{digits}

-- a number is below the power of two of its digits
below_power : (n : ℕ) → n < 2 ^ digits n
unfolding digits
below_power n =
    subst (λ m. m < 2 ^ length (digits_of 2 n)) (number_digits_of 2 n (omega arith))
    (number_lt 2 (digits_of 2 n) (all_below_base_digits_of 2 n (omega arith)))

-- a lower number has no more digits
pub digits_mono : (m n : ℕ) → m ≤ n → digits m ≤ digits n
unfolding digits
digits_mono m n lower = length-digits_of-le 2 (digits n) m (omega arith)
    (let below : n < 2 ^ digits n = below_power n in omega arith)

-- half of a number has one digit less
pub digits_half : (m n : ℕ) → 0 < n → m ≤ n / 2 → digits m + 1 ≤ digits n
unfolding digits
digits_half m n some half =
    let fewer : digits m ≤ digits (n / 2) = digits_mono m (n / 2) half in
    omega (arith, fewer, length-digits_of_step 2 n (omega arith) some)

-- twice a number has at most one digit more
pub digits_double : (n : ℕ) → digits (2 * n) ≤ digits n + 1
unfolding digits
digits_double zero = omega arith
digits_double (suc n) =
    let half : 2 * suc n / 2 ≡ suc n = omega arith in
    omega (
      arith,
      length-digits_of_step 2 (2 * suc n) (omega arith) (omega arith),
      ap (λ k. length (digits_of 2 k)) half,
    )
