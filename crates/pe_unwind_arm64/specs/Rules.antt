-- The unwind rules after some of a function's codes: where the caller's stack pointer, the return address and the saved
-- registers are.
use Rattle.std.specs.Prelude.{ℕ, ◌+◌, ◌-◌, ◌%◌, ◌^◌, Bool, true, false, List, [], ◌∷◌, drop}
use Rattle.std.specs.Prelude.{Option, Some, None, replicate, slice_get, slice_set, unwrap_or, if◌then◌else◌}
use Rattle.pe_unwind_arm64.specs.Registers.{index, second}
use Rattle.pe_unwind_arm64.specs.declared.registers.BaseRegister.TheVariants.{Fp, Sp}
use Rattle.pe_unwind_arm64.specs.declared.registers.Register.{Register}
use Rattle.pe_unwind_arm64.specs.declared.registers.Register.TheVariants.{X30}
use Rattle.pe_unwind_arm64.specs.declared.rules.RegisterOffset.{RegisterOffset}
use Rattle.pe_unwind_arm64.specs.declared.rules.Rules.{Rules}
use Rattle.pe_unwind_arm64.specs.declared.rules.Unwound.{Unwound}
use Rattle.pe_unwind_arm64.specs.declared.unwind_codes.Operation.{Operation}
use Rattle.pe_unwind_arm64.specs.declared.unwind_codes.Operation.TheVariants.{AddFrame, Allocate, End, EndChained}
use Rattle.pe_unwind_arm64.specs.declared.unwind_codes.Operation.TheVariants.{Push, PushFloats, PushPair, Save}
use Rattle.pe_unwind_arm64.specs.declared.unwind_codes.Operation.TheVariants.{SaveFloats, SavePair, SaveWithLink}
use Rattle.pe_unwind_arm64.specs.declared.unwind_codes.Operation.TheVariants.{SetFrame, Unseen, Unusable}
use Rattle.pe_unwind_arm64.specs.declared.unwind_codes.UnwindCode.{UnwindCode}

-- the sum of two 64-bit addresses; a negative number is its two's complement
abbrev pub sum_of : ℕ → ℕ → ℕ
sum_of a b = (a + b) % 2 ^ 64

-- an address minus a number
abbrev pub less : ℕ → ℕ → ℕ
less a b = (a + (2 ^ 64 - b)) % 2 ^ 64

-- the place this many bytes above another
abbrev pub above : RegisterOffset → ℕ → RegisterOffset
above place bytes = record place { offset = sum_of place.offset bytes }

-- where the stack pointer points before anything is undone
abbrev pub stack_top : RegisterOffset
stack_top = record { base = Sp; offset = 0 }

-- the place this many bytes below the address in x29
abbrev pub below_frame : ℕ → RegisterOffset
below_frame bytes = record { base = Fp; offset = less 0 bytes }

-- no register is saved
abbrev pub nothing_saved : List (Option RegisterOffset)
nothing_saved = replicate 12 None

-- before anything is undone the stack pointer is as it is, and no register is saved
abbrev pub at_first : Unwound
at_first = record { stack = stack_top; saved = nothing_saved }

-- a register is saved at a place; of several places, the last one counts
abbrev pub with_saved : Register → RegisterOffset → Unwound → Unwound
with_saved register place unwound = record unwound { saved = slice_set unwound.saved (index register) (Some place) }

-- two registers are saved, the second one 8 bytes above the first
abbrev pub with_pair : Register → Register → RegisterOffset → Unwound → Unwound
with_pair one other place unwound = with_saved other (above place 8) (with_saved one place unwound)

-- the stack pointer points higher
abbrev pub popped : ℕ → Unwound → Unwound
popped bytes unwound = record unwound { stack = above unwound.stack bytes }

-- the effect of undoing one operation: the stack pointer moves back up, a stored register is at its place above the
-- stack pointer, and a set x29 gives the stack pointer
abbrev pub undone : Operation → Unwound → Unwound
undone (Allocate bytes) u = popped bytes u
undone (Save register offset) u = with_saved register (above u.stack offset) u
undone (SavePair first offset) u = with_pair first (second first) (above u.stack offset) u
undone (SaveWithLink register offset) u = with_pair register X30 (above u.stack offset) u
undone (Push register bytes) u = popped bytes (with_saved register u.stack u)
undone (PushPair first bytes) u = popped bytes (with_pair first (second first) u.stack u)
undone SaveFloats u = u
undone (PushFloats bytes) u = popped bytes u
undone SetFrame u = record u { stack = below_frame 0 }
undone (AddFrame bytes) u = record u { stack = below_frame bytes }
undone Unseen u = u
undone End u = u
undone EndChained u = u
undone (Unusable refusal) u = u

-- whether all codes end here
abbrev pub is_end : Operation → Bool
is_end End = true
is_end operation = false

-- the effect of undoing codes, in order, up to the end code. After the end of the function's own codes come those of
-- the function of which it is a part
abbrev pub codes_undone : List UnwindCode → Unwound → Unwound
codes_undone [] u = u
codes_undone (code ∷ codes) u = if is_end code.operation then u else codes_undone codes (undone code.operation u)

-- the rules after this much is undone: the caller's stack pointer is the stack pointer, and the return address is where
-- x30 is stored, or in x30
abbrev pub rules_of : Unwound → Rules
rules_of u = record {
  cfa = u.stack;
  return_address = unwrap_or (slice_get u.saved (index X30)) None;
  saved = u.saved;
}

-- the rules if all codes but the first `count` are undone
abbrev pub rules_behind : ℕ → List UnwindCode → Rules
rules_behind count codes = rules_of (codes_undone (drop count codes) at_first)
