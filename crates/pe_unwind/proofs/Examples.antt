-- Worked examples: functions with their unwind infos and their code written by hand, and the rules at their offsets.
use Rattle.std.proofs.Common.{◌≡◌, ℕ, ◌+◌, true, List, [], ◌∷◌, Option, Some, None, Ok, Err, refl}
use Rattle.std.specs.Fmt.{digits}
use Rattle.std.specs.Prelude.{◌-◌, ◌^◌, codes, replicate, slice_set}
use Rattle.pe_unwind.specs.CfiText.{first_text, item_text, later_text}
use Rattle.pe_unwind.specs.Epilogues.{first_pops}
use Rattle.pe_unwind.specs.Functions.{rule_at}
use Rattle.pe_unwind.specs.Registers.{index}
use Rattle.pe_unwind.specs.Rules.{Function}
use Rattle.pe_unwind.specs.UnwindCodes.{unwind_codes}
use Rattle.pe_unwind.specs.UnwindInfo.{Info, info_in}
use Rattle.pe_unwind.specs.declared.cfi_records.RegisterRule.TheVariants.{At}
use Rattle.pe_unwind.specs.declared.cfi_records.CfiItem.TheVariants.{CfaItem, RegisterItem}
use Rattle.pe_unwind.specs.declared.unwind_errors.EntryError.TheVariants.{CodesCut, InfoOutsideOfImage, UnknownCode}
use Rattle.pe_unwind.specs.declared.unwind_errors.EntryError.TheVariants.{UnknownVersion}
use Rattle.pe_unwind.specs.declared.registers.Register.{Register}
use Rattle.pe_unwind.specs.declared.registers.Register.TheVariants.{Rbp, Rbx, Rsi, Rsp, R12, R14}
use Rattle.pe_unwind.specs.declared.rules.Cfa.TheVariants.{Loaded, Sum}
use Rattle.pe_unwind.specs.declared.rules.RegisterOffset.{RegisterOffset}
use Rattle.pe_unwind.specs.declared.rules.Rules.{Rules}
use Rattle.pe_unwind.specs.declared.unwind_codes.Operation.TheVariants.{Allocate, Epilogue, MachineFrame, Push, Save}
use Rattle.pe_unwind.specs.declared.unwind_codes.Operation.TheVariants.{SetFrame, Unseen}

-- a place above the stack pointer, and one above rbp
abbrev stack : ℕ → RegisterOffset
stack offset = record { register = Rsp; offset = offset }

abbrev rbp : ℕ → RegisterOffset
rbp offset = record { register = Rbp; offset = offset }

-- registers saved at places
abbrev none : List (Option RegisterOffset)
none = replicate 16 None

abbrev saved : Register → RegisterOffset → List (Option RegisterOffset) → List (Option RegisterOffset)
saved register place others = slice_set others (index register) (Some place)

-- rules with the return address at a place, and the caller's stack pointer above it
abbrev rules_at : Register → ℕ → List (Option RegisterOffset) → Rules
rules_at register offset registers = record {
  cfa = Sum (record { register = register; offset = offset + 8 });
  return_address = record { register = register; offset = offset };
  saved = registers;
}

-- push rbx; sub rsp, 32. The info: version 1, a prologue of 5 bytes, two slots, no frame register
abbrev plain_info : List ℕ
plain_info = 1 ∷ 5 ∷ 2 ∷ 0 ∷ 5 ∷ 0x32 ∷ 1 ∷ 0x30 ∷ []

abbrev plain : Info
plain = record {
  version = 1;
  prologue_size = 5;
  frame = None;
  codes = record { offset = 5; operation = Allocate 32 } ∷ record { offset = 1; operation = Push Rbx } ∷ [];
  parent = None;
}

info_is_read : info_in plain_info ≡ Ok plain
unfolding unwind_codes
info_is_read = refl

-- an info that ends within its codes, one of version 3, one with the code 6 in version 1, one that is too short
codes_cut : info_in (1 ∷ 5 ∷ 2 ∷ 0 ∷ 5 ∷ 0x32 ∷ []) ≡ Err CodesCut
codes_cut = refl

last_code_cut : info_in (1 ∷ 5 ∷ 1 ∷ 0 ∷ 5 ∷ 0x01 ∷ []) ≡ Err CodesCut
unfolding unwind_codes
last_code_cut = refl

version_3 : info_in (3 ∷ 5 ∷ 0 ∷ 0 ∷ []) ≡ Err UnknownVersion
version_3 = refl

unknown_code : info_in (1 ∷ 5 ∷ 1 ∷ 0 ∷ 5 ∷ 0x06 ∷ []) ≡ Err UnknownCode
unfolding unwind_codes
unknown_code = refl

short_info : info_in (1 ∷ 5 ∷ 0 ∷ []) ≡ Err InfoOutsideOfImage
short_info = refl

-- each form of code: lea rbp, [rsp+32] as frame register, a large allocation in one slot and in two, saves in one slot
-- and in two, xmm registers, a machine frame with an error code
each_code : unwind_codes 1
    (9 ∷ 0x03 ∷ 8 ∷ 0x01 ∷ 0 ∷ 1 ∷ 7 ∷ 0x11 ∷ 0 ∷ 0 ∷ 1 ∷ 0 ∷ 6 ∷ 0x64 ∷ 2 ∷ 0 ∷ 5 ∷ 0xe5 ∷ 0 ∷ 0 ∷ 1
    ∷ 0 ∷ 4 ∷ 0x68 ∷ 1 ∷ 0 ∷ 3 ∷ 0x69 ∷ 0 ∷ 0 ∷ 1 ∷ 0 ∷ 0 ∷ 0x1a ∷ [])
    ≡ Ok (record { offset = 9; operation = SetFrame } ∷ record { offset = 8; operation = Allocate 2048 }
    ∷ record { offset = 7; operation = Allocate 65536 } ∷ record { offset = 6; operation = Save Rsi 16 }
    ∷ record { offset = 5; operation = Save R14 65536 } ∷ record { offset = 4; operation = Unseen }
    ∷ record { offset = 3; operation = Unseen } ∷ record { offset = 0; operation = MachineFrame true } ∷ [])
unfolding unwind_codes
each_code = refl

-- a function with this info: push rbx; sub rsp, 32; nop; add rsp, 32; pop rbx; ret
abbrev plain_function : Function
plain_function = record { begin = 4096; end = 4108; own = plain; parents = [] }

abbrev plain_code : List ℕ
plain_code = 0x53 ∷ 0x48 ∷ 0x83 ∷ 0xec ∷ 0x20 ∷ 0x90 ∷ 0x48 ∷ 0x83 ∷ 0xc4 ∷ 0x20 ∷ 0x5b ∷ 0xc3 ∷ []

at_the_start : rule_at plain_function plain_code 0 ≡ rules_at Rsp 0 none
unfolding rule_at first_pops
at_the_start = refl

behind_the_push : rule_at plain_function plain_code 1 ≡ rules_at Rsp 8 (saved Rbx (stack 0) none)
unfolding rule_at first_pops
behind_the_push = refl

before_the_prologues_end : rule_at plain_function plain_code 4 ≡ rules_at Rsp 8 (saved Rbx (stack 0) none)
unfolding rule_at first_pops
before_the_prologues_end = refl

in_the_body : rule_at plain_function plain_code 5 ≡ rules_at Rsp 40 (saved Rbx (stack 32) none)
unfolding rule_at first_pops
in_the_body = refl

at_the_epilogue : rule_at plain_function plain_code 6 ≡ rules_at Rsp 40 (saved Rbx (stack 32) none)
unfolding rule_at first_pops
at_the_epilogue = refl

at_the_pop : rule_at plain_function plain_code 10 ≡ rules_at Rsp 8 (saved Rbx (stack 0) none)
unfolding rule_at first_pops
at_the_pop = refl

at_the_return : rule_at plain_function plain_code 11 ≡ rules_at Rsp 0 none
unfolding rule_at first_pops
at_the_return = refl

-- push rbp; sub rsp, 64; lea rbp, [rsp+32]; mov [rbp+16], rbx; nop; mov rbx, [rbp+16]; lea rsp, [rbp+32]; pop rbp; ret
abbrev framed_info : List ℕ
framed_info = 1 ∷ 14 ∷ 5 ∷ 0x25 ∷ 14 ∷ 0x34 ∷ 6 ∷ 0 ∷ 10 ∷ 0x03 ∷ 5 ∷ 0x72 ∷ 1 ∷ 0x50 ∷ 0 ∷ 0 ∷ []

abbrev framed : Info
framed = record {
  version = 1;
  prologue_size = 14;
  frame = Some (record { register = Rbp; offset = 32 });
  codes = record { offset = 14; operation = Save Rbx 48 } ∷ record { offset = 10; operation = SetFrame }
      ∷ record { offset = 5; operation = Allocate 64 } ∷ record { offset = 1; operation = Push Rbp } ∷ [];
  parent = None;
}

framed_info_is_read : info_in framed_info ≡ Ok framed
unfolding unwind_codes
framed_info_is_read = refl

abbrev framed_function : Function
framed_function = record { begin = 4096; end = 4121; own = framed; parents = [] }

abbrev framed_code : List ℕ
framed_code = 0x55 ∷ 0x48 ∷ 0x83 ∷ 0xec ∷ 0x40 ∷ 0x48 ∷ 0x8d ∷ 0x6c ∷ 0x24 ∷ 0x20 ∷ 0x48 ∷ 0x89 ∷ 0x5d ∷ 0x10 ∷ 0x90
    ∷ 0x48 ∷ 0x8b ∷ 0x5d ∷ 0x10 ∷ 0x48 ∷ 0x8d ∷ 0x65 ∷ 0x20 ∷ 0x5d ∷ 0xc3 ∷ []

before_the_frame : rule_at framed_function framed_code 5 ≡ rules_at Rsp 72 (saved Rbp (stack 64) none)
unfolding rule_at first_pops
before_the_frame = refl

behind_the_frame : rule_at framed_function framed_code 10 ≡ rules_at Rbp 40 (saved Rbp (rbp 32) none)
unfolding rule_at first_pops
behind_the_frame = refl

framed_body : rule_at framed_function framed_code 14
    ≡ rules_at Rbp 40 (saved Rbx (rbp 16) (saved Rbp (rbp 32) none))
unfolding rule_at first_pops
framed_body = refl

at_the_lea : rule_at framed_function framed_code 19 ≡ rules_at Rbp 40 (saved Rbp (rbp 32) none)
unfolding rule_at first_pops
at_the_lea = refl

-- a body in which rbx is pushed, with no prologue, to tell epilogues from it
abbrev pushed_info : Info
pushed_info = record {
  version = 1;
  prologue_size = 0;
  frame = None;
  codes = record { offset = 0; operation = Push Rbx } ∷ [];
  parent = None;
}

abbrev pushed_function : Function
pushed_function = record { begin = 4096; end = 4104; own = pushed_info; parents = [] }

abbrev body : Rules
body = rules_at Rsp 8 (saved Rbx (stack 0) none)

abbrev nops : List ℕ
nops = 0x90 ∷ 0x90 ∷ []

-- a jump within the function, one behind its end, one to its start, which a chained info's function doesn't leave by
jump_inside : rule_at pushed_function (0xeb ∷ 0 ∷ 0x90 ∷ 0x90 ∷ 0x90 ∷ 0x90 ∷ nops) 0 ≡ body
unfolding rule_at first_pops
jump_inside = refl

jump_outside : rule_at pushed_function (0xeb ∷ 6 ∷ 0x90 ∷ 0x90 ∷ 0x90 ∷ 0x90 ∷ nops) 0 ≡ rules_at Rsp 0 none
unfolding rule_at first_pops
jump_outside = refl

jump_back : rule_at pushed_function (0x90 ∷ 0x90 ∷ 0xeb ∷ 0xfc ∷ 0x90 ∷ 0x90 ∷ nops) 2 ≡ rules_at Rsp 0 none
unfolding rule_at first_pops
jump_back = refl

jump_before : rule_at pushed_function (0xe9 ∷ 0xfa ∷ 0xff ∷ 0xff ∷ 0xff ∷ 0x90 ∷ nops) 0 ≡ rules_at Rsp 0 none
unfolding rule_at first_pops
jump_before = refl

-- jumps through memory and by a register: FF E0 alone may be a switch
jump_through_memory : rule_at pushed_function (0xff ∷ 0x25 ∷ 1 ∷ 2 ∷ 3 ∷ 4 ∷ nops) 0 ≡ rules_at Rsp 0 none
unfolding rule_at first_pops
jump_through_memory = refl

jump_with_prefix : rule_at pushed_function (0x48 ∷ 0xff ∷ 0x25 ∷ 1 ∷ 2 ∷ 3 ∷ 4 ∷ 0x90 ∷ []) 0 ≡ rules_at Rsp 0 none
unfolding rule_at first_pops
jump_with_prefix = refl

jump_by_register : rule_at pushed_function (0x48 ∷ 0xff ∷ 0xe0 ∷ 0x90 ∷ 0x90 ∷ 0x90 ∷ nops) 0 ≡ rules_at Rsp 0 none
unfolding rule_at first_pops
jump_by_register = refl

switch : rule_at pushed_function (0x90 ∷ 0xff ∷ 0xe0 ∷ 0x90 ∷ 0x90 ∷ 0x90 ∷ nops) 1 ≡ body
unfolding rule_at first_pops
switch = refl

-- the function's bytes end within a jump
jump_cut : rule_at pushed_function (0x90 ∷ 0x90 ∷ 0x90 ∷ 0x90 ∷ 0xe9 ∷ 0 ∷ nops) 4 ≡ body
unfolding rule_at first_pops
jump_cut = refl

-- sub rsp, 32 behind a machine frame with an error code
abbrev trap : Function
trap = record {
  begin = 4096;
  end = 4104;
  own = record pushed_info {
    prologue_size = 4;
    codes = record { offset = 4; operation = Allocate 32 } ∷ record { offset = 0; operation = MachineFrame true } ∷ [];
  };
  parents = [];
}

trap_body : rule_at trap (0x48 ∷ 0x83 ∷ 0xec ∷ 0x20 ∷ 0x90 ∷ 0x90 ∷ nops) 4
    ≡ record { cfa = Loaded (stack 64); return_address = stack 40; saved = none }
unfolding rule_at first_pops
trap_body = refl

-- a part of the function above that saves rsi, too; its info is chained to that function's
abbrev part : Function
part = record {
  begin = 4200;
  end = 4208;
  own = record {
    version = 1;
    prologue_size = 4;
    frame = None;
    codes = record { offset = 4; operation = Save Rsi 48 } ∷ [];
    parent = Some 8192;
  };
  parents = plain ∷ [];
}

abbrev part_code : List ℕ
part_code = 0x48 ∷ 0x89 ∷ 0x74 ∷ 0x24 ∷ 0x90 ∷ 0x90 ∷ nops

part_start : rule_at part part_code 0 ≡ rules_at Rsp 40 (saved Rbx (stack 32) none)
unfolding rule_at first_pops
part_start = refl

part_body : rule_at part part_code 4 ≡ rules_at Rsp 40 (saved Rsi (stack 48) (saved Rbx (stack 32) none))
unfolding rule_at first_pops
part_body = refl

-- push rbx; push r12, and an epilogue of version 2 at the function's end: pop r12; pop rbx; ret
abbrev listed : Function
listed = record {
  begin = 4096;
  end = 4106;
  own = record {
    version = 2;
    prologue_size = 3;
    frame = None;
    codes = record { offset = 4; operation = Epilogue 1 } ∷ record { offset = 0; operation = Epilogue 0 }
        ∷ record { offset = 3; operation = Push R12 } ∷ record { offset = 1; operation = Push Rbx } ∷ [];
    parent = None;
  };
  parents = [];
}

abbrev listed_code : List ℕ
listed_code = 0x53 ∷ 0x41 ∷ 0x54 ∷ 0x90 ∷ 0x90 ∷ 0x90 ∷ 0x41 ∷ 0x5c ∷ 0x5b ∷ 0xc3 ∷ []

abbrev both_pushed : Rules
both_pushed = rules_at Rsp 16 (saved Rbx (stack 8) (saved R12 (stack 0) none))

listed_body : rule_at listed listed_code 5 ≡ both_pushed
unfolding rule_at first_pops
listed_body = refl

listed_start : rule_at listed listed_code 6 ≡ both_pushed
unfolding rule_at first_pops
listed_start = refl

within_the_pop : rule_at listed listed_code 7 ≡ both_pushed
unfolding rule_at first_pops
within_the_pop = refl

one_popped : rule_at listed listed_code 8 ≡ rules_at Rsp 8 (saved Rbx (stack 0) none)
unfolding rule_at first_pops
one_popped = refl

both_popped : rule_at listed listed_code 9 ≡ rules_at Rsp 0 none
unfolding rule_at first_pops
both_popped = refl

-- the text of the lines of the function above, from the start to behind the push
first_record : first_text 4096 12 (rules_at Rsp 0 none) ≡ codes "STACK CFI INIT 1000 c .cfa: $rsp 8 + .ra: .cfa 8 - ^\n"
unfolding first_text item_text digits
first_record = refl

saved_record : later_text 4097 (rules_at Rsp 0 none) (rules_at Rsp 8 (saved Rbx (stack 0) none))
    ≡ codes "STACK CFI 1001 .cfa: $rsp 16 + $rbx: .cfa 16 - ^\n"
unfolding later_text item_text digits
saved_record = refl

-- a register that is saved where it was before needs no rule, one that isn't saved any more is itself
taken_back : later_text 4106 (rules_at Rsp 40 (saved Rbx (stack 32) none)) (rules_at Rsp 0 none)
    ≡ codes "STACK CFI 100a .cfa: $rsp 8 + $rbx: $rbx\n"
unfolding later_text item_text digits
taken_back = refl

-- a negative offset from the frame register, and a place above the caller's stack pointer
negative : item_text (CfaItem (Sum (rbp (2 ^ 64 - 16)))) ≡ codes " .cfa: $rbp -16 +"
unfolding item_text digits
negative = refl

other_base : item_text (RegisterItem Rbx (At (stack 8))) ≡ codes " $rbx: $rsp 8 + ^"
unfolding item_text digits
other_base = refl

-- behind a machine frame
trapped_record : first_text 4096 8 (record { cfa = Loaded (stack 24); return_address = stack 0; saved = none })
    ≡ codes "STACK CFI INIT 1000 8 .cfa: $rsp 24 + ^ .ra: $rsp 0 + ^\n"
unfolding first_text item_text digits
trapped_record = refl
