-- The kinds of symbols that are used, by their published numbers (S_.. of cvinfo.h).
use Rattle.std.specs.Prelude.{ℕ, ◌==◌, ◌||◌, Bool}

-- a thunk, in the older form: a few instructions that jump to a procedure
abbrev pub s_thunk32_st : ℕ
s_thunk32_st = 0x0206

-- a symbol that is visible outside its module, in the older form
abbrev pub s_pub32_st : ℕ
s_pub32_st = 0x1009

-- a local procedure, in the older form
abbrev pub s_lproc32_st : ℕ
s_lproc32_st = 0x100a

-- a global procedure, in the older form
abbrev pub s_gproc32_st : ℕ
s_gproc32_st = 0x100b

-- a thunk
abbrev pub s_thunk32 : ℕ
s_thunk32 = 0x1102

-- a symbol that is visible outside its module
abbrev pub s_pub32 : ℕ
s_pub32 = 0x110e

-- a local procedure, which only its module sees
abbrev pub s_lproc32 : ℕ
s_lproc32 = 0x110f

-- a global procedure
abbrev pub s_gproc32 : ℕ
s_gproc32 = 0x1110

-- separated code of a procedure
abbrev pub s_sepcode : ℕ
s_sepcode = 0x1132

-- a local procedure, with an id for its type
abbrev pub s_lproc32_id : ℕ
s_lproc32_id = 0x1146

-- a global procedure, with an id for its type
abbrev pub s_gproc32_id : ℕ
s_gproc32_id = 0x1147

-- an inline site: a place where a call was replaced by the callee's body
abbrev pub s_inlinesite : ℕ
s_inlinesite = 0x114d

-- a local procedure for a DPC target
abbrev pub s_lproc32_dpc : ℕ
s_lproc32_dpc = 0x1155

-- a local procedure for a DPC target, with an id for its type
abbrev pub s_lproc32_dpc_id : ℕ
s_lproc32_dpc_id = 0x1156

-- an inline site with a count of its calls
abbrev pub s_inlinesite2 : ℕ
s_inlinesite2 = 0x115d

-- whether a kind is one of the two of public symbols
abbrev pub is_public_kind : ℕ → Bool
is_public_kind kind = (kind == s_pub32) || (kind == s_pub32_st)

-- whether a kind is one of the eight of procedures
abbrev pub is_procedure_kind : ℕ → Bool
is_procedure_kind kind =
    (kind == s_lproc32) || (kind == s_lproc32_st) || (kind == s_gproc32) || (kind == s_gproc32_st)
    || (kind == s_lproc32_id) || (kind == s_gproc32_id) || (kind == s_lproc32_dpc) || (kind == s_lproc32_dpc_id)

-- whether a kind is one of the eleven of code with a size: procedures, thunks, and separated code
abbrev pub is_code_kind : ℕ → Bool
is_code_kind kind = is_procedure_kind kind || (kind == s_thunk32) || (kind == s_thunk32_st) || (kind == s_sepcode)

-- whether a kind is one of the ten that count inside a procedure: procedures and inline sites
abbrev pub is_site_kind : ℕ → Bool
is_site_kind kind = is_procedure_kind kind || (kind == s_inlinesite) || (kind == s_inlinesite2)
