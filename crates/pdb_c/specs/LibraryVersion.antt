-- The version of the library, as one number.
use Rattle.std.specs.Prelude.{ℕ, ◌+◌, ◌*◌}

-- the first number of the library's version
abbrev pub major : ℕ
major = 0

-- the second number
abbrev pub minor : ℕ
minor = 2

-- the third number
abbrev pub patch : ℕ
patch = 0

-- a version as one number
abbrev pub version_number : ℕ → ℕ → ℕ → ℕ
version_number major minor patch = major * 1000000 + minor * 1000 + patch
