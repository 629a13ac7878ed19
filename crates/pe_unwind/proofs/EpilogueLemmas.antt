-- Code that begins with none of the bytes of an epilogue.
use Rattle.std.proofs.Common.{◌≡◌, ◌∙◌, ◌<◌, ◌+◌, ◌*◌, ◌/◌, ◌%◌, ℕ, false, List, Option, Some, None, drop, refl, ap, arith}
use Rattle.std.proofs.lemmas.List.{get_or-drop}
use Rattle.std.specs.Prelude.{is_some, slice_index}
use Rattle.std.proofs.lemmas.Bool.Decides.{nat_tests}
use Rattle.pe_unwind.specs.Epilogues.{adds_byte, adds_number, epilogue_rules, first_pop, first_pops, jumps_out}
use Rattle.pe_unwind.specs.Epilogues.{jumps_prefixed, jumps_through, lea_if, leas, leaves, may_begin, returns}
use Rattle.pe_unwind.specs.Epilogues.{stack_restored}
use Rattle.pe_unwind.specs.Registers.{index}
use Rattle.pe_unwind.specs.Rules.{Function, at_first, stack_top}
use Rattle.pe_unwind.specs.declared.registers.Register.{Register}
use Rattle.pe_unwind.specs.declared.registers.Register.TheVariants.{Rax, Rcx, Rdx, Rbx, Rsp, Rbp, Rsi, Rdi, R8, R9, R10}
use Rattle.pe_unwind.specs.declared.registers.Register.TheVariants.{R11, R12, R13, R14, R15}
use Rattle.pe_unwind.proofs.PopLemmas.{all_pops, no_pop_more}
use Rattle.pe_unwind.specs.declared.rules.Unwound.{Unwound}
use Rattle.pe_unwind.specs.declared.unwind_info.FrameRegister.{FrameRegister}

-- there are 16 registers
index_small : (r : Register) → index r < 16
index_small Rax = omega arith
index_small Rcx = omega arith
index_small Rdx = omega arith
index_small Rbx = omega arith
index_small Rsp = omega arith
index_small Rbp = omega arith
index_small Rsi = omega arith
index_small Rdi = omega arith
index_small R8 = omega arith
index_small R9 = omega arith
index_small R10 = omega arith
index_small R11 = omega arith
index_small R12 = omega arith
index_small R13 = omega arith
index_small R14 = omega arith
index_small R15 = omega arith

-- the first bytes are none of an epilogue
abbrev Other : List ℕ → Type 0
Other code = may_begin (slice_index code 0) (slice_index code 1) (slice_index code 2) ≡ false

no_add_of_a_byte : (code : List ℕ) → Other code → adds_byte code ≡ false
no_add_of_a_byte code other = grind (arith, nat_tests)

no_add_of_a_number : (code : List ℕ) → Other code → adds_number code ≡ false
no_add_of_a_number code other = grind (arith, nat_tests)

-- ModRM of a lea to rsp names rsp
names_rsp : (number mode : ℕ) → (mode * 64 + 0x20 + number % 8) / 8 % 8 ≡ 4
names_rsp number mode = omega arith

no_lea : (number mode size : ℕ) (code : List ℕ) → number < 16 → Other code → leas number mode size code ≡ false
no_lea number mode size code small other =
    let rsp = names_rsp number mode in
    grind (arith, nat_tests)

no_pop : (code : List ℕ) → Other code → first_pop code ≡ None
no_pop code other = grind (arith, nat_tests)

no_return : (code : List ℕ) → Other code → returns code ≡ false
no_return code other = grind (arith, nat_tests)

no_jump : (function : Function) (code : List ℕ) → Other code → jumps_out function code ≡ false
no_jump function code other = grind (arith, nat_tests)

no_jump_through : (code : List ℕ) → Other code → jumps_through code ≡ false
no_jump_through code other = grind (arith, nat_tests)

no_jump_prefixed : (code : List ℕ) → Other code → jumps_prefixed code ≡ false
no_jump_prefixed code other = grind (arith, nat_tests)

no_way_out : (function : Function) (code : List ℕ) → Other code → leaves function code ≡ false
no_way_out function code other =
    rw (
      no_return code other,
      no_jump function code other,
      no_jump_through code other,
      no_jump_prefixed code other,
    ) refl

-- no instruction gives the frame back
nothing_given_back : (frame : Option FrameRegister) (code : List ℕ) → Other code
    → stack_restored frame code ≡ record { stack = stack_top; size = 0 }
nothing_given_back frame code other =
    rw (no_add_of_a_byte code other, no_add_of_a_number code other) (by_frame frame)
  where
    by_frame : (frame : Option FrameRegister) → lea_if frame code ≡ record { stack = stack_top; size = 0 }
    by_frame None = refl
    by_frame (Some frame) =
        rw (
          no_lea (index frame.register) 1 4 code (index_small frame.register) other,
          no_lea (index frame.register) 2 7 code (index_small frame.register) other,
        ) refl

-- no pop is undone
nothing_popped : (code : List ℕ) (u : Unwound) → Other code → first_pops code u ≡ (u, code)
nothing_popped code u other = all_pops code u ∙ no_pop_more 16 code u (no_pop code other)

-- no epilogue goes on there
other_code : (function : Function) (code : List ℕ) → Other code → is_some (epilogue_rules function code) ≡ false
other_code function code other =
    rw (nothing_given_back function.own.frame code other)
    (rw (nothing_popped code (record at_first { stack = stack_top }) other) (rw (no_way_out function code other) refl))

-- a byte of what is left of code is one of the code
read_left : (code : List ℕ) (at more place : ℕ) → at + more ≡ place
    → slice_index (drop at code) more ≡ slice_index code place
read_left code at more place is = get_or-drop at code more 0 ∙ ap (slice_index code) is

-- no epilogue goes on at an offset, by the bytes there
pub other_at : (function : Function) (code : List ℕ) (at : ℕ)
    → may_begin (slice_index code at) (slice_index code (at + 1)) (slice_index code (at + 2)) ≡ false
    → is_some (epilogue_rules function (drop at code)) ≡ false
other_at function code at other =
    let first : slice_index (drop at code) 0 ≡ slice_index code at = read_left code at 0 at (omega arith) in
    let second : slice_index (drop at code) 1 ≡ slice_index code (at + 1) = read_left code at 1 (at + 1) refl in
    let third : slice_index (drop at code) 2 ≡ slice_index code (at + 2) = read_left code at 2 (at + 2) refl in
    other_code function (drop at code) (
    ap (λ a. may_begin a (slice_index (drop at code) 1) (slice_index (drop at code) 2)) first
    ∙ ap (λ b. may_begin (slice_index code at) b (slice_index (drop at code) 2)) second
    ∙ ap (λ c. may_begin (slice_index code at) (slice_index code (at + 1)) c) third ∙ other
    )
