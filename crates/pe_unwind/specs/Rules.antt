-- The unwind rules at an offset of a function: where the caller's stack pointer, the return address and the saved
-- registers are.
use Rattle.std.specs.Prelude.{ℕ, ◌+◌, ◌-◌, ◌%◌, ◌^◌, ◌||◌, ◌&&◌, Bool, true, false, min, nat_le, nat_lt, List, [], ◌∷◌}
use Rattle.std.specs.Prelude.{Option, Some, None, replicate, slice_set, is_none, is_some, if◌then◌else◌}
use Rattle.std.specs.List.{list_any}
use Rattle.pe_unwind.specs.Registers.{index}
use Rattle.pe_unwind.specs.UnwindInfo.{Info}
use Rattle.pe_unwind.specs.declared.registers.Register.{Register}
use Rattle.pe_unwind.specs.declared.registers.Register.TheVariants.{Rsp}
use Rattle.pe_unwind.specs.declared.rules.Cfa.{Cfa}
use Rattle.pe_unwind.specs.declared.rules.Cfa.TheVariants.{Loaded, Sum}
use Rattle.pe_unwind.specs.declared.rules.RegisterOffset.{RegisterOffset}
use Rattle.pe_unwind.specs.declared.rules.Rules.{Rules}
use Rattle.pe_unwind.specs.declared.rules.Unwound.{Unwound}
use Rattle.pe_unwind.specs.declared.unwind_codes.Operation.{Operation}
use Rattle.pe_unwind.specs.declared.unwind_codes.Operation.TheVariants.{Allocate, Epilogue, MachineFrame, Push, Save}
use Rattle.pe_unwind.specs.declared.unwind_codes.Operation.TheVariants.{SetFrame, Unseen}
use Rattle.pe_unwind.specs.declared.unwind_codes.UnwindCode.{UnwindCode}
use Rattle.pe_unwind.specs.declared.unwind_info.FrameRegister.{FrameRegister}

-- the sum of two 64-bit addresses; a negative number is its two's complement
abbrev pub sum_of : ℕ → ℕ → ℕ
sum_of a b = (a + b) % 2 ^ 64

-- an address minus a number
abbrev pub less : ℕ → ℕ → ℕ
less a b = (a + (2 ^ 64 - b)) % 2 ^ 64

-- the place this many bytes above another
abbrev pub above : RegisterOffset → ℕ → RegisterOffset
above place bytes = record place { offset = sum_of place.offset bytes }

-- where the stack pointer points before anything is undone
abbrev pub stack_top : RegisterOffset
stack_top = record { register = Rsp; offset = 0 }

-- no register is saved
abbrev pub nothing_saved : List (Option RegisterOffset)
nothing_saved = replicate 16 None

-- the start of a frame: the frame register points some bytes above it
abbrev pub frame_start : FrameRegister → RegisterOffset
frame_start frame = record { register = frame.register; offset = less 0 frame.offset }

-- before anything is undone the stack pointer is as it is, and no register is saved
abbrev pub at_first : Unwound
at_first = record { stack = stack_top; saved = nothing_saved; is_trapped = false }

-- a register is saved at a place; of several places, the last one counts
abbrev pub with_saved : Register → RegisterOffset → Unwound → Unwound
with_saved register place unwound = record unwound { saved = slice_set unwound.saved (index register) (Some place) }

-- the stack pointer points higher
abbrev pub popped : ℕ → Unwound → Unwound
popped bytes unwound = record unwound { stack = above unwound.stack bytes }

-- the stack pointer where a code set the frame register: the frame's start, if the info has a frame register
abbrev pub at_frame : Option FrameRegister → Unwound → Unwound
at_frame None unwound = unwound
at_frame (Some frame) unwound = record unwound { stack = frame_start frame }

-- the effect of undoing one operation, by the info's frame register and the start of its frame. A push saves a register
-- at the stack pointer, and moves it by 8 bytes. In a machine frame the stack pointer points at the return address,
-- above an error code if there is one
abbrev pub undone : Option FrameRegister → RegisterOffset → Operation → Unwound → Unwound
undone frame start (Push register) u = popped 8 (with_saved register u.stack u)
undone frame start (Allocate bytes) u = popped bytes u
undone frame start SetFrame u = at_frame frame u
undone frame start (Save register offset) u = with_saved register (above start offset) u
undone frame start (MachineFrame with_error_code) u =
    record (popped (if with_error_code then 8 else 0) u) { is_trapped = true }
undone frame start (Epilogue info) u = u
undone frame start Unseen u = u

-- whether a code counts at an offset in the prologue: its instruction has run. After the prologue (None), all codes
-- count
abbrev pub counts : Option ℕ → UnwindCode → Bool
counts None code = true
counts (Some offset) code = nat_le code.offset offset

-- an offset if it is between another and an end, otherwise the end
abbrev pub sooner : ℕ → ℕ → ℕ → ℕ
sooner offset from end = if nat_lt offset from && nat_lt from end then from else end

-- the first offset after another at which one more code counts, if it is before an end; else this end
abbrev pub next_counted : ℕ → ℕ → List UnwindCode → ℕ
next_counted offset end [] = end
next_counted offset end (code ∷ codes) = next_counted offset (sooner offset code.offset end) codes

-- the effect of undoing one code: nothing if it doesn't count, or after a machine frame
abbrev pub code_undone : Option FrameRegister → RegisterOffset → Option ℕ → UnwindCode → Unwound → Unwound
code_undone frame start offset code u =
    if u.is_trapped then u else if counts offset code then undone frame start code.operation u else u

-- the effect of undoing some codes, in order
abbrev pub codes_undone : Option FrameRegister → RegisterOffset → Option ℕ → List UnwindCode → Unwound → Unwound
codes_undone frame start offset [] u = u
codes_undone frame start offset (code ∷ codes) u =
    codes_undone frame start offset codes (code_undone frame start offset code u)

-- whether an operation sets the frame register
abbrev pub is_set_frame : Operation → Bool
is_set_frame SetFrame = true
is_set_frame operation = false

-- whether a code that counts sets the frame register
abbrev pub sets_frame : Option ℕ → UnwindCode → Bool
sets_frame offset code = is_set_frame code.operation && counts offset code

-- the place that a frame with this register begins at, once the register is set
abbrev pub start_once : Option FrameRegister → Bool → RegisterOffset
start_once None set = stack_top
start_once (Some frame) set = if set then frame_start frame else stack_top

-- the place from which SAVE codes count: the frame's start if the info has a frame register that is set there,
-- otherwise the stack pointer. It is set after the prologue, in a chained info, and after the code that sets it
abbrev pub saves_from : Option ℕ → Info → RegisterOffset
saves_from offset info =
    start_once info.frame (is_none offset || is_some info.parent || list_any (sets_frame offset) info.codes)

-- the effect of undoing an info at an offset in its prologue, or after it (None)
abbrev pub info_undone : Option ℕ → Info → Unwound → Unwound
info_undone offset info u = codes_undone info.frame (saves_from offset info) offset info.codes u

-- the effect of undoing the parents of a chained info, in order: all of their codes count
abbrev pub parents_undone : List Info → Unwound → Unwound
parents_undone [] u = u
parents_undone (info ∷ infos) u = parents_undone infos (info_undone None info u)

-- the caller's stack pointer: the address after the return address, or in a machine frame, the value stored 24 bytes
-- above the return address
abbrev pub cfa_of : Unwound → Cfa
cfa_of u = if u.is_trapped then Loaded (above u.stack 24) else Sum (above u.stack 8)

-- the rules after this much is undone: the stack pointer points at the return address
abbrev pub rules_of : Unwound → Rules
rules_of u = record { cfa = cfa_of u; return_address = u.stack; saved = u.saved }

-- the unwind info of a function: the addresses that it begins and ends at, its own info, and those that this is chained
-- to
pub record Function : Type 0 where
  pub begin : ℕ
  pub end : ℕ
  pub own : Info
  pub parents : List Info

-- an offset in the prologue of an info; none after it
abbrev pub prologue_offset : Info → ℕ → Option ℕ
prologue_offset info offset = if nat_lt offset info.prologue_size then Some offset else None

-- the rules at an offset in the prologue, or after it (None), outside of epilogues
abbrev pub body_rules : Function → Option ℕ → Rules
body_rules function offset = rules_of (parents_undone function.parents (info_undone offset function.own at_first))

-- the first offset after one in the prologue at which one more code counts, otherwise the prologue's end; at most the
-- size
abbrev pub next_step : Function → ℕ → ℕ → ℕ
next_step function offset size = next_counted offset (min function.own.prologue_size size) function.own.codes
