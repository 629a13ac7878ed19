-- Kinds of subsections of a module, by their published numbers (DEBUG_S_.. of cvinfo.h).
use Rattle.std.specs.Prelude.{ℕ}

-- lines
abbrev pub debug_s_lines : ℕ
debug_s_lines = 0xf2

-- files, with their checksums
abbrev pub debug_s_filechksms : ℕ
debug_s_filechksms = 0xf4

-- functions that are inlined in the module's code
abbrev pub debug_s_inlineelines : ℕ
debug_s_inlineelines = 0xf6

-- the module's imports from other modules
abbrev pub debug_s_crossscopeimports : ℕ
debug_s_crossscopeimports = 0xf7

-- the module's exports to other modules
abbrev pub debug_s_crossscopeexports : ℕ
debug_s_crossscopeexports = 0xf8
