-- The callee-saved registers of ARM64 and their numbers; the base registers of places.
use Rattle.std.specs.Prelude.{ℕ, ◌+◌, ◌==◌, if◌then◌else◌}
use Rattle.pe_unwind_arm64.specs.declared.registers.BaseRegister.{BaseRegister}
use Rattle.pe_unwind_arm64.specs.declared.registers.BaseRegister.TheVariants.{Fp, Sp}
use Rattle.pe_unwind_arm64.specs.declared.registers.Register.{Register}
use Rattle.pe_unwind_arm64.specs.declared.registers.Register.TheVariants.{X19, X20, X21, X22, X23, X24, X25, X26}
use Rattle.pe_unwind_arm64.specs.declared.registers.Register.TheVariants.{X27, X28, X29, X30}

-- the register this many after x19; numbers above 10 all mean x30
abbrev pub register : ℕ → Register
register number =
    if number == 0 then X19 else
    if number == 1 then X20 else
    if number == 2 then X21 else
    if number == 3 then X22 else
    if number == 4 then X23 else
    if number == 5 then X24 else
    if number == 6 then X25 else
    if number == 7 then X26 else
    if number == 8 then X27 else
    if number == 9 then X28 else
    if number == 10 then X29 else
    X30

-- the number of a register, counted from x19
abbrev pub index : Register → ℕ
index X19 = 0
index X20 = 1
index X21 = 2
index X22 = 3
index X23 = 4
index X24 = 5
index X25 = 6
index X26 = 7
index X27 = 8
index X28 = 9
index X29 = 10
index X30 = 11

-- the register after a register, which is stored above it in a pair
abbrev pub second : Register → Register
second first = register (index first + 1)

-- the number of a base register
abbrev pub base_number : BaseRegister → ℕ
base_number Sp = 0
base_number Fp = 1
