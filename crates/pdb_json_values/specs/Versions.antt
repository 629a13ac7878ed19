-- What the second version of the format has beyond the first.
use Rattle.std.specs.Prelude.{ℕ, Bool, ◌==◌}

-- whether a name may be an array of its bytes
abbrev pub has_names_in_bytes : ℕ → Bool
has_names_in_bytes version = version == 2

-- whether the records of a module may have a file of their own
abbrev pub has_module_files : ℕ → Bool
has_module_files version = version == 2
