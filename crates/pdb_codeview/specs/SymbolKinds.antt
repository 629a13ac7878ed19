-- Kinds of symbols that only this crate uses, by their published numbers (S_.. of cvinfo.h).
use Rattle.std.specs.Prelude.{ℕ, ◌==◌, ◌||◌, Bool, if◌then◌else◌}
use Rattle.pdb_records.specs.SymbolKinds.{s_gproc32, s_lproc32}

-- a record that reserves space
abbrev pub s_skip : ℕ
s_skip = 0x0007

-- a record that pads up to an alignment
abbrev pub s_align : ℕ
s_align = 0x0402

-- a jump to a function
abbrev pub s_trampoline : ℕ
s_trampoline = 0x112c

-- a procedure for Itanium that is local to its module
abbrev pub s_lprocia64 : ℕ
s_lprocia64 = 0x1118

-- a procedure for Itanium that is global
abbrev pub s_gprocia64 : ℕ
s_gprocia64 = 0x1119

-- a procedure of managed code (C++/CLI) that is global
abbrev pub s_gmanproc : ℕ
s_gmanproc = 0x112a

-- a procedure of managed code (C++/CLI) that is local to its module
abbrev pub s_lmanproc : ℕ
s_lmanproc = 0x112b

-- whether a kind is a procedure for Itanium
abbrev pub is_itanium_kind : ℕ → Bool
is_itanium_kind kind = (kind == s_lprocia64) || (kind == s_gprocia64)

-- whether a kind is a procedure of managed code
abbrev pub is_managed_kind : ℕ → Bool
is_managed_kind kind = (kind == s_gmanproc) || (kind == s_lmanproc)

-- the kind that the records have for a symbol's kind: procedures of these four kinds become plain global (S_GPROC32) or
-- local (S_LPROC32) procedures
abbrev pub recorded_kind : ℕ → ℕ
recorded_kind kind =
    if (kind == s_gprocia64) || (kind == s_gmanproc) then s_gproc32 else
    if (kind == s_lprocia64) || (kind == s_lmanproc) then s_lproc32 else
    kind
