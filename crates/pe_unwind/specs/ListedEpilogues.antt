-- Epilogues of version 2, which the first unwind codes of an info list.
use Rattle.std.specs.Prelude.{ℕ, ◌+◌, ◌-◌, ◌*◌, ◌%◌, ◌==◌, ◌&&◌, nat_le, nat_lt, List, [], ◌∷◌, Option, Some, None}
use Rattle.std.specs.Prelude.{option_map, if◌then◌else◌}
use Rattle.std.specs.Option.{option_and_then, option_or}
use Rattle.pe_unwind.specs.Registers.{index}
use Rattle.pe_unwind.specs.Rules.{Function, at_first, popped, rules_of, with_saved}
use Rattle.pe_unwind.specs.UnwindInfo.{Info}
use Rattle.pe_unwind.specs.declared.listed_epilogues.Popping.{Popping}
use Rattle.pe_unwind.specs.declared.registers.Register.{Register}
use Rattle.pe_unwind.specs.declared.rules.Rules.{Rules}
use Rattle.pe_unwind.specs.declared.rules.Unwound.{Unwound}
use Rattle.pe_unwind.specs.declared.unwind_codes.Operation.{Operation}
use Rattle.pe_unwind.specs.declared.unwind_codes.Operation.TheVariants.{Epilogue, Push}
use Rattle.pe_unwind.specs.declared.unwind_codes.UnwindCode.{UnwindCode}

-- the operation info of a code that lists an epilogue
abbrev pub epilogue_info : Operation → Option ℕ
epilogue_info (Epilogue info) = Some info
epilogue_info operation = None

-- the register of a push code
abbrev pub pushed : Operation → Option Register
pushed (Push register) = Some register
pushed operation = None

-- the distance of an offset from the start of an epilogue, if it is in that epilogue. The epilogue is given by the size
-- of the function, its own size, and how far before the function's end it starts. An epilogue that starts before the
-- function doesn't count
abbrev pub offset_in : ℕ → ℕ → ℕ → ℕ → Option ℕ
offset_in function_size size distance offset =
    if nat_le distance function_size && nat_le (function_size - distance) offset
    && nat_lt offset (function_size - distance + size)
    then Some (offset - (function_size - distance)) else None

-- how far before the function's end an epilogue starts, by its code, unless that is the first one. The low eight bits
-- are the code's offset, and the others its operation info
abbrev pub distance_of : ℕ → ℕ → ℕ
distance_of low high = low + high * 256

-- the distance of an offset from the start of the first epilogue that has it, among the epilogues of the codes after
-- the first. A distance of 0 is padding of the list; no offset of the function is so near to its end
abbrev pub in_others : ℕ → ℕ → ℕ → List UnwindCode → Option ℕ
in_others function_size size offset [] = None
in_others function_size size offset (code ∷ codes) =
    option_and_then
    (λ info. option_or (offset_in function_size size (distance_of code.offset info) offset)
    (in_others function_size size offset codes))
    (epilogue_info code.operation)

-- the distance of an offset from the start of the epilogue that has it, among all listed epilogues. The first code has
-- the size of each epilogue in its offset; odd operation info means that one epilogue is at the function's end
abbrev pub in_listed : ℕ → ℕ → List UnwindCode → Option ℕ
in_listed function_size offset [] = None
in_listed function_size offset (code ∷ codes) =
    option_and_then
    (λ info. option_or (if info % 2 == 1 then offset_in function_size code.offset code.offset offset else None)
    (in_others function_size code.offset offset codes))
    (epilogue_info code.operation)

-- the size of the pop of a register in bytes: r8 to r15 need a prefix
abbrev pub pop_size : Register → ℕ
pop_size register = if nat_lt (index register) 8 then 1 else 2

-- the effect of undoing the pop of a register after `run` bytes of it and of the pops after it have run: nothing if it
-- has run completely. Otherwise the register is saved at the stack pointer, which then moves by 8 bytes
abbrev pub pop_left : ℕ → Register → Unwound → Unwound
pop_left run register u = if nat_le (pop_size register) run then u else popped 8 (with_saved register u.stack u)

-- the effect of undoing the pop for a push code; of the bytes that have run, those of this pop don't count for the pops
-- after it
abbrev pub code_left : Option Register → Popping → Popping
code_left None p = p
code_left (Some register) p = record { run = p.run - pop_size register; unwound = pop_left p.run register p.unwound }

-- the effect of undoing the pops for some codes, in order
abbrev pub codes_left : List UnwindCode → Popping → Popping
codes_left [] p = p
codes_left (code ∷ codes) p = codes_left codes (code_left (pushed code.operation) p)

-- the effect of undoing the pops for the codes of some infos
abbrev pub infos_left : List Info → Popping → Popping
infos_left [] p = p
infos_left (info ∷ infos) p = infos_left infos (codes_left info.codes p)

-- the state before anything is undone, after this many bytes of an epilogue have run
abbrev pub all_left : ℕ → Popping
all_left run = record { run = run; unwound = at_first }

-- the rules this many bytes after the start of an epilogue: the remaining pops of the function's own info and of its
-- parents
abbrev pub rules_left : Function → ℕ → Rules
rules_left function run =
    rules_of (infos_left function.parents (codes_left function.own.codes (all_left run))).unwound

-- the rules at an offset of a function, if it is in an epilogue that is listed
abbrev pub listed_rules : Function → ℕ → Option Rules
listed_rules function offset =
    option_map (rules_left function) (in_listed (function.end - function.begin) offset function.own.codes)
