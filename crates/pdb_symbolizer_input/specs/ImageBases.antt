-- What is subtracted from addresses, to make them relative to where a program is loaded.
use Rattle.std.specs.Prelude.{ℕ, ◌+◌, ◌-◌, ◌%◌, ◌^◌, Option, Some, None, unwrap_or, nat_lt, if◌then◌else◌}
use Rattle.pdb_symbolizer_input.specs.declared.image_bases.ImageBase.{ImageBase}
use Rattle.pdb_symbolizer_input.specs.declared.options.Base.{Base}
use Rattle.pdb_symbolizer_input.specs.declared.options.Base.TheVariants.{Preferred, Relative, At}
use Rattle.pdb_symbolizer_input.specs.declared.options.Options.{Options}

-- where a program is loaded; `preferred` is its image base, if it is known
abbrev pub loaded_at : Base → Option ℕ → Option ℕ
loaded_at Preferred preferred = preferred
loaded_at Relative preferred = Some 0
loaded_at (At address) preferred = Some address

-- the base and the adjustment for a program; `preferred` is its image base, if it is known
abbrev pub image_base_of : Options → Option ℕ → ImageBase
image_base_of options preferred = record { base = loaded_at options.base preferred; adjust = options.adjust }

-- the difference of two addresses, modulo 2^64
abbrev pub less : ℕ → ℕ → ℕ
less address taken = (address + (2 ^ 64 - taken)) % 2 ^ 64

-- an address, if it fits 32 bits
abbrev pub in_32_bits : ℕ → Option ℕ
in_32_bits address = if nat_lt address (2 ^ 32) then Some address else None

-- an address relative to where the program is loaded, if it fits 32 bits: the base and the adjustment are subtracted
abbrev pub relative : ImageBase → ℕ → Option ℕ
relative image_base given = in_32_bits (less (less given (unwrap_or image_base.base 0)) image_base.adjust)
