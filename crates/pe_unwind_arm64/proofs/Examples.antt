-- Worked examples: unwind codes, infos and packed data as clang 14 wrote them or as they were written by hand, each read as
-- llvm-readobj prints it; the rules are those by which the code at each offset gives the frame back.
use Rattle.std.proofs.Common.{◌≡◌, ◌^◌, ◌-◌, ℕ, false, List, [], ◌∷◌, Option, Some, None, Ok, Err, refl}
use Rattle.std.specs.Prelude.{codes, replicate, slice_set}
use Rattle.std.specs.Fmt.{digits}
use Rattle.pe_unwind_arm64.specs.Canonical.{epilogue_part, prologue_part}
use Rattle.pe_unwind_arm64.specs.CfiText.{first_text, item_text, later_text}
use Rattle.pe_unwind_arm64.specs.Functions.{rule_at, rules_before}
use Rattle.pe_unwind_arm64.specs.Packed.{packed_length, packed_of}
use Rattle.pe_unwind_arm64.specs.PackedData.{as_codes, packed_info}
use Rattle.pe_unwind_arm64.specs.Registers.{index}
use Rattle.pe_unwind_arm64.specs.UnwindCodes.{codes_in, next_operation}
use Rattle.pe_unwind_arm64.specs.UnwindInfo.{Info, header_in, info_in, scopes_in}
use Rattle.pe_unwind_arm64.specs.declared.cfi_records.RegisterRule.TheVariants.{At}
use Rattle.pe_unwind_arm64.specs.declared.cfi_records.CfiItem.TheVariants.{RegisterItem}
use Rattle.pe_unwind_arm64.specs.declared.unwind_errors.EntryError.TheVariants.{AnyRegister, CodesCut, CustomStack}
use Rattle.pe_unwind_arm64.specs.declared.unwind_errors.EntryError.TheVariants.{EpilogueOutsideOfFunction, EpiloguesOverlap}
use Rattle.pe_unwind_arm64.specs.declared.unwind_errors.EntryError.TheVariants.{FrameLost, InfoOutsideOfImage, NextOfNoPair}
use Rattle.pe_unwind_arm64.specs.declared.unwind_errors.EntryError.TheVariants.{PackedFrame, PackedRegisters, ScalableVectors}
use Rattle.pe_unwind_arm64.specs.declared.unwind_errors.EntryError.TheVariants.{UnknownCode, UnknownRegister, UnknownVersion}
use Rattle.pe_unwind_arm64.specs.declared.registers.BaseRegister.TheVariants.{Fp, Sp}
use Rattle.pe_unwind_arm64.specs.declared.registers.Register.{Register}
use Rattle.pe_unwind_arm64.specs.declared.registers.Register.TheVariants.{X19, X20, X21, X22, X23, X24, X25}
use Rattle.pe_unwind_arm64.specs.declared.registers.Register.TheVariants.{X27, X29, X30}
use Rattle.pe_unwind_arm64.specs.declared.rules.RegisterOffset.{RegisterOffset}
use Rattle.pe_unwind_arm64.specs.declared.rules.Rules.{Rules}
use Rattle.pe_unwind_arm64.specs.declared.unwind_codes.Operation.{Operation}
use Rattle.pe_unwind_arm64.specs.declared.unwind_codes.Operation.TheVariants.{AddFrame, Allocate, End, EndChained, Push}
use Rattle.pe_unwind_arm64.specs.declared.unwind_codes.Operation.TheVariants.{PushFloats, PushPair, Save, SaveFloats}
use Rattle.pe_unwind_arm64.specs.declared.unwind_codes.Operation.TheVariants.{SavePair, SaveWithLink, SetFrame}
use Rattle.pe_unwind_arm64.specs.declared.unwind_codes.Operation.TheVariants.{Unseen, Unusable}
use Rattle.pe_unwind_arm64.specs.declared.unwind_codes.UnwindCode.{UnwindCode}

-- a code with its index
abbrev code : ℕ → Operation → UnwindCode
code number operation = record { index = number; operation = operation }

-- places above where sp and where x29 point
abbrev stack : ℕ → RegisterOffset
stack offset = record { base = Sp; offset = offset }

abbrev frame : ℕ → RegisterOffset
frame offset = record { base = Fp; offset = offset }

-- no register is stored; one more is
abbrev none : List (Option RegisterOffset)
none = replicate 12 None

abbrev saved : Register → RegisterOffset → List (Option RegisterOffset) → List (Option RegisterOffset)
saved register place registers = slice_set registers (index register) (Some place)

-- rules with x30 unchanged, and with x30 stored at a place
abbrev unlinked : RegisterOffset → List (Option RegisterOffset) → Rules
unlinked cfa registers = record { cfa = cfa; return_address = None; saved = registers }

abbrev linked : RegisterOffset → RegisterOffset → List (Option RegisterOffset) → Rules
linked cfa link registers = record { cfa = cfa; return_address = Some link; saved = saved X30 link registers }

-- each form of code
short_codes : codes_in (0x03 ∷ 0x25 ∷ 0x45 ∷ 0x83 ∷ 0xe1 ∷ 0xe3 ∷ 0xe5 ∷ 0xfc ∷ 0xe4 ∷ [])
    ≡ code 0 (Allocate 48) ∷ code 1 (PushPair X19 40) ∷ code 2 (SavePair X29 40) ∷ code 3 (PushPair X29 32)
    ∷ code 4 SetFrame ∷ code 5 Unseen ∷ code 6 EndChained ∷ code 7 Unseen ∷ code 8 End ∷ []
unfolding codes_in
short_codes = refl

register_codes : codes_in (0xc8 ∷ 0x42 ∷ 0xcc ∷ 0x85 ∷ 0xd2 ∷ 0xca ∷ 0xd5 ∷ 0x6b ∷ 0xd6 ∷ 0x44 ∷ [])
    ≡ code 0 (SavePair X20 16) ∷ code 2 (PushPair X21 48) ∷ code 4 (Save X30 80) ∷ code 6 (Push X30 96)
    ∷ code 8 (SaveWithLink X21 32) ∷ []
unfolding codes_in
register_codes = refl

float_codes : codes_in (0xd8 ∷ 0x82 ∷ 0xda ∷ 0x0f ∷ 0xdd ∷ 0x04 ∷ 0xde ∷ 0xa1 ∷ [])
    ≡ code 0 SaveFloats ∷ code 2 (PushFloats 128) ∷ code 4 Unseen ∷ code 6 (Allocate 16) ∷ []
unfolding codes_in
float_codes = refl

long_codes : codes_in (0xc1 ∷ 0x02 ∷ 0xe0 ∷ 0x01 ∷ 0x02 ∷ 0x03 ∷ 0xe2 ∷ 0x05 ∷ [])
    ≡ code 0 (Allocate 4128) ∷ code 2 (Allocate 1056816) ∷ code 6 (AddFrame 40) ∷ []
unfolding codes_in
long_codes = refl

-- stp x19, x20, [sp, #-112]!, and the stores of the pairs up to x27 and x28 after it
next_codes : codes_in (0xe6 ∷ 0xe6 ∷ 0xe6 ∷ 0xe6 ∷ 0x2e ∷ [])
    ≡ code 0 (SavePair X27 64) ∷ code 1 (SavePair X25 48) ∷ code 2 (SavePair X23 32) ∷ code 3 (SavePair X21 16)
    ∷ code 4 (PushPair X19 112) ∷ []
unfolding codes_in next_operation
next_codes = refl

-- stp x20, x21, [sp, #16], and a pair after it; a pair of d registers; x30 has no pair after it, and none is after x28
next_of_others : codes_in (0xe6 ∷ 0xc8 ∷ 0x42 ∷ 0xe6 ∷ 0xd8 ∷ 0x82 ∷ 0xe6 ∷ 0x45 ∷ 0xe6 ∷ 0xca ∷ 0x02 ∷ 0xe6 ∷ [])
    ≡ code 0 (SavePair X22 32) ∷ code 1 (SavePair X20 16) ∷ code 3 SaveFloats ∷ code 4 SaveFloats
    ∷ code 6 (Unusable NextOfNoPair) ∷ code 7 (SavePair X29 40) ∷ code 8 (Unusable NextOfNoPair)
    ∷ code 9 (SavePair X27 16) ∷ code 11 (Unusable NextOfNoPair) ∷ []
unfolding codes_in next_operation
next_of_others = refl

-- codes that can't be undone: registers after x30, alloc_z, save_any_reg, trap_frame, clear_unwound_to_call, one without
-- a meaning, and one that is cut
unusable_codes : codes_in (0xcb ∷ 0x3f ∷ 0xd7 ∷ 0xff ∷ 0xdf ∷ 1 ∷ 0xe7 ∷ 1 ∷ 2 ∷ 0xe8 ∷ 0xec ∷ 0xed ∷ 0xc8 ∷ [])
    ≡ code 0 (Unusable UnknownRegister) ∷ code 2 (Unusable UnknownRegister) ∷ code 4 (Unusable ScalableVectors)
    ∷ code 6 (Unusable AnyRegister) ∷ code 9 (Unusable CustomStack) ∷ code 10 (Unusable CustomStack)
    ∷ code 11 (Unusable UnknownCode) ∷ code 12 (Unusable CodesCut) ∷ []
unfolding codes_in
unusable_codes = refl

-- sub sp, sp, #64; stp x19, x20, [sp, #16]; stp x29, x30, [sp, #32]; add x29, sp, #32; str x25, [sp, #48]; two epilogues,
-- at 10 and at 17 instructions, of which the second takes the stack pointer from x29
abbrev two_bytes : List ℕ
two_bytes = 0x17 ∷ 0 ∷ 0x80 ∷ 0x38 ∷ 0x0a ∷ 0 ∷ 0x40 ∷ 2 ∷ 0x11 ∷ 0 ∷ 0 ∷ 4
    ∷ 0xd1 ∷ 0x86 ∷ 0xe2 ∷ 4 ∷ 0x44 ∷ 0xc8 ∷ 2 ∷ 4 ∷ 0xe4 ∷ 0xd1 ∷ 0x86 ∷ 0x44 ∷ 0xc8 ∷ 2 ∷ 4 ∷ 0xe4
    ∷ 0xd1 ∷ 0x86 ∷ 0xe2 ∷ 4 ∷ 0x44 ∷ 0xc8 ∷ 2 ∷ 4 ∷ 0xe4 ∷ 0xe3 ∷ 0xe3 ∷ 0xe3 ∷ []

abbrev two : Info
two = record {
  codes = code 0 (Save X25 48) ∷ code 2 (AddFrame 32) ∷ code 4 (SavePair X29 32) ∷ code 5 (SavePair X19 16)
      ∷ code 7 (Allocate 64) ∷ code 8 End
      ∷ code 9 (Save X25 48) ∷ code 11 (SavePair X29 32) ∷ code 12 (SavePair X19 16) ∷ code 14 (Allocate 64)
      ∷ code 15 End
      ∷ code 16 (Save X25 48) ∷ code 18 (AddFrame 32) ∷ code 20 (SavePair X29 32) ∷ code 21 (SavePair X19 16)
      ∷ code 23 (Allocate 64) ∷ code 24 End ∷ code 25 Unseen ∷ code 26 Unseen ∷ code 27 Unseen ∷ [];
  prologue = 5;
  epilogues = record { start = 10; end = 15; index = 9 } ∷ record { start = 17; end = 23; index = 16 } ∷ [];
}

two_is_read : info_in two_bytes ≡ Ok two
unfolding codes_in scopes_in
two_is_read = refl

-- x19 and x20 at places of their own, and x29
abbrev first_pair : RegisterOffset → RegisterOffset → List (Option RegisterOffset)
first_pair one other = saved X20 other (saved X19 one none)

two_start : rule_at two 0 ≡ unlinked (stack 0) none
unfolding rules_before
two_start = refl

two_behind_the_pair : rule_at two 8 ≡ unlinked (stack 64) (first_pair (stack 16) (stack 24))
unfolding rules_before
two_behind_the_pair = refl

two_within_the_add : rule_at two 15
    ≡ linked (stack 64) (stack 40) (saved X29 (stack 32) (first_pair (stack 16) (stack 24)))
unfolding rules_before
two_within_the_add = refl

-- after the add the places are counted from x29, but that of x25 by the code in front
abbrev by_frame : List (Option RegisterOffset)
by_frame = saved X29 (frame 0) (first_pair (frame (2 ^ 64 - 16)) (frame (2 ^ 64 - 8)))

two_body : rule_at two 20 ≡ linked (frame 32) (frame 8) (saved X25 (stack 48) by_frame)
unfolding rules_before
two_body = refl

two_first_epilogue : rule_at two 40
    ≡ linked (stack 64) (stack 40)
    (saved X25 (stack 48) (saved X29 (stack 32) (first_pair (stack 16) (stack 24))))
unfolding rules_before
two_first_epilogue = refl

two_first_return : rule_at two 56 ≡ unlinked (stack 0) none
unfolding rules_before
two_first_return = refl

two_between : rule_at two 60 ≡ linked (frame 32) (frame 8) (saved X25 (stack 48) by_frame)
unfolding rules_before
two_between = refl

two_second_epilogue : rule_at two 72 ≡ linked (frame 32) (frame 8) by_frame
unfolding rules_before
two_second_epilogue = refl

two_before_the_pair : rule_at two 80 ≡ unlinked (stack 64) (first_pair (stack 16) (stack 24))
unfolding rules_before
two_before_the_pair = refl

-- a part of a function, which branches back: stp x21, x22, [sp, #-48]!; stp x23, x24, [sp, #16]; the function had done
-- stp x29, x30, [sp, #-32]!; mov x29, sp; str x19, [sp, #16]; the epilogue is at the end, and has the prologue's codes
abbrev part_bytes : List ℕ
part_bytes = 0x0a ∷ 0 ∷ 0x20 ∷ 0x18 ∷ 0xe6 ∷ 0xcc ∷ 0x85 ∷ 0xe5 ∷ 0xd0 ∷ 2 ∷ 0xe1 ∷ 0x83 ∷ 0xe4 ∷ 0xe3 ∷ 0xe3
    ∷ 0xe3 ∷ []

abbrev part : Info
part = record {
  codes = code 0 (SavePair X23 16) ∷ code 1 (PushPair X21 48) ∷ code 3 EndChained ∷ code 4 (Save X19 16)
      ∷ code 6 SetFrame ∷ code 7 (PushPair X29 32) ∷ code 8 End ∷ code 9 Unseen ∷ code 10 Unseen ∷ code 11 Unseen ∷ [];
  prologue = 2;
  epilogues = record { start = 7; end = 10; index = 0 } ∷ [];
}

part_is_read : info_in part_bytes ≡ Ok part
unfolding codes_in next_operation
part_is_read = refl

part_start : rule_at part 0 ≡ linked (frame 32) (frame 8) (saved X29 (frame 0) (saved X19 (stack 16) none))
unfolding rules_before
part_start = refl

part_body : rule_at part 8
    ≡ linked (frame 32) (frame 8) (saved X29 (frame 0) (saved X19 (stack 64)
    (saved X24 (stack 24) (saved X23 (stack 16) (saved X22 (stack 8) (saved X21 (stack 0) none))))))
unfolding rules_before
part_body = refl

part_end : rule_at part 36 ≡ linked (frame 32) (frame 8) (saved X29 (frame 0) (saved X19 (stack 16) none))
unfolding rules_before
part_end = refl

-- a header of two words: 300 epilogues, and 64 words of codes
extended_header_is_read : header_in (0x17 ∷ 0 ∷ 0 ∷ 0 ∷ 0x2c ∷ 1 ∷ 64 ∷ 0 ∷ [])
    ≡ Ok (record { length = 23; is_single = false; epilogues = 300; words = 64; size = 8 })
extended_header_is_read = refl

-- infos that are refused: of version 1; without codes; with an index that no code has, and one in the midst of a code;
-- with an epilogue after the function's end; with one before the end of another; with x29 stored when it is set already
version_1 : info_in (0x17 ∷ 0 ∷ 4 ∷ 8 ∷ 0xe4 ∷ 0xe3 ∷ 0xe3 ∷ 0xe3 ∷ []) ≡ Err UnknownVersion
version_1 = refl

no_header : info_in (0x17 ∷ 0 ∷ 0 ∷ []) ≡ Err InfoOutsideOfImage
no_header = refl

codes_outside : info_in (0x17 ∷ 0 ∷ 0 ∷ 16 ∷ 0xe3 ∷ 0xe3 ∷ 0xe3 ∷ 0xe4 ∷ []) ≡ Err CodesCut
codes_outside = refl

no_end : info_in (0x17 ∷ 0 ∷ 0 ∷ 8 ∷ 0xe3 ∷ 0xe3 ∷ 0xe3 ∷ 0xe3 ∷ []) ≡ Err CodesCut
unfolding codes_in
no_end = refl

index_of_no_code : info_in (0x17 ∷ 0 ∷ 0x20 ∷ 9 ∷ 0xc1 ∷ 2 ∷ 0xe4 ∷ 0xe4 ∷ []) ≡ Err CodesCut
unfolding codes_in
index_of_no_code = refl

index_within_a_code : info_in (0x17 ∷ 0 ∷ 0x60 ∷ 8 ∷ 0xc1 ∷ 2 ∷ 0xe4 ∷ 0xe4 ∷ []) ≡ Err CodesCut
unfolding codes_in
index_within_a_code = refl

epilogue_outside : info_in (5 ∷ 0 ∷ 0x40 ∷ 8 ∷ 4 ∷ 0 ∷ 0 ∷ 0 ∷ 3 ∷ 0xe4 ∷ 0xe3 ∷ 0xe3 ∷ [])
    ≡ Err EpilogueOutsideOfFunction
unfolding codes_in scopes_in
epilogue_outside = refl

epilogues_overlap : info_in (9 ∷ 0 ∷ 0x80 ∷ 8 ∷ 4 ∷ 0 ∷ 0 ∷ 0 ∷ 5 ∷ 0 ∷ 0 ∷ 0 ∷ 3 ∷ 0xe4 ∷ 0xe3 ∷ 0xe3 ∷ [])
    ≡ Err EpiloguesOverlap
unfolding codes_in scopes_in
epilogues_overlap = refl

frame_stored_late : info_in (9 ∷ 0 ∷ 0 ∷ 8 ∷ 0x45 ∷ 0xe1 ∷ 8 ∷ 0xe4 ∷ []) ≡ Err FrameLost
unfolding codes_in
frame_stored_late = refl

-- packed data: str x30, [sp, #64] after stp x25, x26, [sp, #48] .. stp x19, x20, [sp, #-80]!
eight_registers : prologue_part (packed_of 0x02a801a1)
    ≡ Save X30 64 ∷ SavePair X25 48 ∷ SavePair X23 32 ∷ SavePair X21 16 ∷ PushPair X19 80 ∷ []
eight_registers = refl

eight_registers_length : packed_length 0x02a801a1 ≡ 104
eight_registers_length = refl

-- its epilogue is the last six instructions
eight_registers_info : packed_info (packed_of 0x02a801a1) 104
    ≡ Ok (record {
      codes = code 0 (Save X30 64) ∷ code 1 (SavePair X25 48) ∷ code 2 (SavePair X23 32) ∷ code 3 (SavePair X21 16)
          ∷ code 4 (PushPair X19 80) ∷ code 5 End
          ∷ code 6 (Save X30 64) ∷ code 7 (SavePair X25 48) ∷ code 8 (SavePair X23 32) ∷ code 9 (SavePair X21 16)
          ∷ code 10 (PushPair X19 80) ∷ code 11 End ∷ [];
      prologue = 5;
      epilogues = record { start = 98; end = 104; index = 6 } ∷ [];
    })
unfolding as_codes
eight_registers_info = refl

-- a part without prologue and epilogue has the same codes
eight_registers_part : packed_info (packed_of 0x02a801a2) 104
    ≡ Ok (record {
      codes = code 0 (Save X30 64) ∷ code 1 (SavePair X25 48) ∷ code 2 (SavePair X23 32) ∷ code 3 (SavePair X21 16)
          ∷ code 4 (PushPair X19 80) ∷ code 5 End
          ∷ code 6 (Save X30 64) ∷ code 7 (SavePair X25 48) ∷ code 8 (SavePair X23 32) ∷ code 9 (SavePair X21 16)
          ∷ code 10 (PushPair X19 80) ∷ code 11 End ∷ [];
      prologue = 0;
      epilogues = [];
    })
unfolding as_codes
eight_registers_part = refl

-- mov x29, sp; stp x29, x30, [sp, #-496]!; the parameters; str d10 .. stp d8, d9; str x23, [sp, #32];
-- stp x21, x22, [sp, #16]; stp x19, x20, [sp, #-144]!
all_kinds : prologue_part (packed_of 0x14756069)
    ≡ SetFrame ∷ PushPair X29 496 ∷ Unseen ∷ Unseen ∷ Unseen ∷ Unseen ∷ SaveFloats ∷ SaveFloats ∷ Save X23 32
    ∷ SavePair X21 16 ∷ PushPair X19 144 ∷ []
all_kinds = refl

-- its epilogue has nothing of x29 nor of the parameters
all_kinds_epilogue : epilogue_part (packed_of 0x14756069)
    ≡ PushPair X29 496 ∷ SaveFloats ∷ SaveFloats ∷ Save X23 32 ∷ SavePair X21 16 ∷ PushPair X19 144 ∷ []
all_kinds_epilogue = refl

-- sub sp, sp, #16; sub sp, sp, #4080; stp x21, x30, [sp, #16]; stp x19, x20, [sp, #-32]!
odd_with_link : prologue_part (packed_of 0x8123003d)
    ≡ Allocate 16 ∷ Allocate 4080 ∷ SaveWithLink X21 16 ∷ PushPair X19 32 ∷ []
odd_with_link = refl

-- sub sp, sp, #16; stp x6, x7 .. stp x0, x1, [sp, #-64]!
parameters_alone : prologue_part (packed_of 0x02900029)
    ≡ Allocate 16 ∷ Unseen ∷ Unseen ∷ Unseen ∷ Allocate 64 ∷ []
parameters_alone = refl

-- sub sp, sp, #16; str d10, [sp, #16]; stp d8, d9, [sp, #-32]!
floats_alone : prologue_part (packed_of 0x0180401d) ≡ Allocate 16 ∷ SaveFloats ∷ PushFloats 32 ∷ []
floats_alone = refl

-- mov x29, sp; stp x29, x30, [sp, #-32]!; stp x19, x20, [sp, #-16]!; pacibsp
signed : prologue_part (packed_of 0x01c20021) ≡ SetFrame ∷ PushPair X29 32 ∷ PushPair X19 16 ∷ Unseen ∷ []
signed = refl

-- mov x29, sp; stp x29, x30, [sp, #0]; sub sp, sp, #528
large_chain : prologue_part (packed_of 0x10e00001) ≡ SetFrame ∷ SavePair X29 0 ∷ Allocate 528 ∷ []
large_chain = refl

-- eleven registers; x19 alone with x30; a frame of 0 bytes for two registers
eleven_registers : packed_info (packed_of 0x040b0041) 16 ≡ Err PackedRegisters
eleven_registers = refl

one_with_link : packed_info (packed_of 0x04210041) 16 ≡ Err PackedRegisters
one_with_link = refl

no_frame : packed_info (packed_of 0x00020041) 16 ≡ Err PackedFrame
no_frame = refl

-- the text of the lines of a function that does stp x29, x30, [sp, #-16]!, and of the line after its load
abbrev framed : Rules
framed = linked (stack 16) (stack 8) (saved X29 (stack 0) none)

first_record : first_text 4096 92 (unlinked (stack 0) none) ≡ codes "STACK CFI INIT 1000 5c .cfa: sp 0 + .ra: x30\n"
unfolding first_text item_text digits
first_record = refl

saved_record : later_text 4100 (unlinked (stack 0) none) framed
    ≡ codes "STACK CFI 1004 .cfa: sp 16 + .ra: .cfa 8 - ^ x29: .cfa 16 - ^ x30: .cfa 8 - ^\n"
unfolding later_text item_text digits
saved_record = refl

taken_back : later_text 4180 framed (unlinked (stack 0) none)
    ≡ codes "STACK CFI 1054 .cfa: sp 0 + .ra: x30 x29: x29 x30: x30\n"
unfolding later_text item_text digits
taken_back = refl

-- from sp to x29, by which the same places are found
to_the_frame : later_text 4100 framed (linked (frame 16) (frame 8) (saved X29 (frame 0) none))
    ≡ codes "STACK CFI 1004 .cfa: x29 16 +\n"
unfolding later_text item_text digits
to_the_frame = refl

-- a place above sp where the caller's stack pointer is by x29, and one below where x29 points
above_sp : item_text (RegisterItem X25 (At (stack 48))) ≡ codes " x25: sp 48 + ^"
unfolding item_text digits
above_sp = refl

below_x29 : item_text (RegisterItem X19 (At (frame (2 ^ 64 - 16)))) ≡ codes " x19: x29 -16 + ^"
unfolding item_text digits
below_x29 = refl
