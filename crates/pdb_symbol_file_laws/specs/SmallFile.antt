-- A small symbol file, and its records.
use Rattle.std.specs.Prelude.{ℕ, List, [], ◌∷◌, ◌++◌, codes, Some}
use Rattle.pdb_breakpad.specs.ShownFrames.{ShownFrame}
use Rattle.pdb_symbol_file_laws.specs.SymbolTextReader.{SymbolLine, File, InlineOrigin, Func, Public, Inline, CodeLine}
use Rattle.pdb_symbol_file_laws.specs.SymbolTextReader.{OtherLine}

-- a program with a function, into which a body is inlined, and a symbol whose end isn't known
abbrev pub small_file : List ℕ
small_file =
    codes "MODULE windows x86_64 4C4C44205044422E1 small.pdb\n"
    ++ codes "INFO CODE_ID 5F3C1A2B7000 small.exe\n"
    ++ codes "FILE 0 d:\\small program\\main.c\n"
    ++ codes "FILE 1 add.h\n"
    ++ codes "INLINE_ORIGIN 0 add(int, int)\n"
    ++ codes "FUNC 1000 2a 0 main\n"
    ++ codes "INLINE 0 12 0 0 1008 a\n"
    ++ codes "1000 8 11 0\n"
    ++ codes "1008 a 3 1\n"
    ++ codes "1012 18 13 0\n"
    ++ codes "PUBLIC 2000 0 exit\n"

-- the records of the small file, line by line
abbrev pub small_records : List SymbolLine
small_records =
    OtherLine
    ∷ OtherLine
    ∷ File 0 (codes "d:\\small program\\main.c")
    ∷ File 1 (codes "add.h")
    ∷ InlineOrigin 0 (codes "add(int, int)")
    ∷ Func 0x1000 0x2a (codes "main")
    ∷ Inline 0 12 0 0 0x1008 0xa
    ∷ CodeLine 0x1000 0x8 11 0
    ∷ CodeLine 0x1008 0xa 3 1
    ∷ CodeLine 0x1012 0x18 13 0
    ∷ Public 0x2000 (codes "exit")
    ∷ []

-- the frames at an address in the small file's inlined body, from outside to inside
abbrev pub small_frames : List ShownFrame
small_frames =
    record { function = codes "main"; place = Some (record { file = codes "d:\\small program\\main.c"; line = 12 }) }
    ∷ record { function = codes "add(int, int)"; place = Some (record { file = codes "add.h"; line = 3 }) }
    ∷ []
