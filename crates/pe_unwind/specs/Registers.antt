-- The general registers of x64 and their numbers.
use Rattle.std.specs.Prelude.{ℕ, ◌==◌, if◌then◌else◌}
use Rattle.pe_unwind.specs.declared.registers.Register.{Register}
use Rattle.pe_unwind.specs.declared.registers.Register.TheVariants.{Rax, Rcx, Rdx, Rbx, Rsp, Rbp, Rsi, Rdi}
use Rattle.pe_unwind.specs.declared.registers.Register.TheVariants.{R8, R9, R10, R11, R12, R13, R14, R15}

-- the register that has a number in instructions and in unwind codes
abbrev pub register : ℕ → Register
register number =
    if number == 0 then Rax else
    if number == 1 then Rcx else
    if number == 2 then Rdx else
    if number == 3 then Rbx else
    if number == 4 then Rsp else
    if number == 5 then Rbp else
    if number == 6 then Rsi else
    if number == 7 then Rdi else
    if number == 8 then R8 else
    if number == 9 then R9 else
    if number == 10 then R10 else
    if number == 11 then R11 else
    if number == 12 then R12 else
    if number == 13 then R13 else
    if number == 14 then R14 else
    R15

-- the number of a register
abbrev pub index : Register → ℕ
index Rax = 0
index Rcx = 1
index Rdx = 2
index Rbx = 3
index Rsp = 4
index Rbp = 5
index Rsi = 6
index Rdi = 7
index R8 = 8
index R9 = 9
index R10 = 10
index R11 = 11
index R12 = 12
index R13 = 13
index R14 = 14
index R15 = 15
