-- Code without an entry in the exception directory. By the rules of x64 it belongs to leaf functions, which don't move
-- the stack pointer; so the return address is where the stack pointer points.
use Rattle.std.specs.Prelude.{ℕ, ◌+◌, ◌-◌, ◌^◌, ◌==◌, ◌&&◌, Bool, true, not, nat_lt, nat_le, min, max, filter}
use Rattle.std.specs.Prelude.{List, [], ◌∷◌, ◌++◌, take, if◌then◌else◌}
use Rattle.std.specs.List.{flat_map, list_all}
use Rattle.pe_image.specs.Image.{Program, bytes_from, is_executable}
use Rattle.pe_image.specs.declared.exception_directory.FunctionEntry.{FunctionEntry}
use Rattle.pe_image.specs.declared.image.Section.{Section}
use Rattle.pe_unwind.specs.CfiText.{first_text}
use Rattle.pe_unwind.specs.Rules.{at_first, rules_of}
use Rattle.pe_unwind.specs.declared.leaf_code.CodeRun.{CodeRun}
use Rattle.pe_unwind.specs.declared.rules.Rules.{Rules}

-- whether an entry covers no address
abbrev pub is_empty : FunctionEntry → Bool
is_empty entry = nat_le entry.end entry.begin

-- whether an entry covers an address
abbrev pub covers : ℕ → FunctionEntry → Bool
covers rva entry = nat_le entry.begin rva && nat_lt rva entry.end

-- whether a run has an address
abbrev pub has : ℕ → CodeRun → Bool
has rva run = nat_le run.begin rva && nat_lt rva run.end

-- whether entries ascend from an address on: each begins at or after the end of the one before; empty entries don't
-- count
abbrev pub ascend : ℕ → List FunctionEntry → Bool
ascend reach [] = true
ascend reach (entry ∷ entries) =
    if is_empty entry then ascend reach entries else nat_le reach entry.begin && ascend entry.end entries

-- the run from an address up to another, if there is any address between them
abbrev pub run_between : ℕ → ℕ → List CodeRun
run_between from to = if nat_lt from to then record { begin = from; end = to } ∷ [] else []

-- the runs from an address up to another that no entry covers, by entries that ascend
abbrev pub uncovered : ℕ → ℕ → List FunctionEntry → List CodeRun
uncovered from to [] = run_between from to
uncovered from to (entry ∷ entries) =
    if is_empty entry then uncovered from to entries else
    run_between from (min entry.begin to) ++ uncovered (max from entry.end) to entries

-- the end of a section: in memory or in the file, whichever comes first, and within 32 bits
abbrev pub section_end : Section → ℕ
section_end section = min (section.rva + min section.size section.file_size) (2 ^ 32 - 1)

-- the runs of a section that no entry covers; none if the section isn't executable, or begins before the end of those
-- before it
abbrev pub section_runs : List FunctionEntry → ℕ → Section → List CodeRun
section_runs entries reach section =
    if is_executable section && nat_le reach section.rva then uncovered section.rva (section_end section) entries else []

-- the runs of sections that no entry covers, after sections that reach up to an address
abbrev pub runs_of : List FunctionEntry → ℕ → List Section → List CodeRun
runs_of entries reach [] = []
runs_of entries reach (section ∷ sections) =
    section_runs entries reach section ++ runs_of entries (max reach (section_end section)) sections

-- whether a byte is that of int3, which linkers put between functions
abbrev pub is_int3 : ℕ → Bool
is_int3 byte = byte == 0xcc

-- the bytes of a run
abbrev pub run_bytes : Program → CodeRun → List ℕ
run_bytes program run = take (run.end - run.begin) (bytes_from program run.begin)

-- whether a run is padding between functions: fewer than 16 bytes, and all of them int3
abbrev pub is_padding : Program → CodeRun → Bool
is_padding program run = nat_lt (run.end - run.begin) 16 && list_all is_int3 (run_bytes program run)

-- the code of leaf functions: the runs that no entry covers, without padding; none if the entries don't ascend
abbrev pub leaf_runs : Program → List FunctionEntry → List CodeRun
leaf_runs program entries =
    if ascend 0 entries
    then filter (λ run. not (is_padding program run)) (runs_of entries 0 program.sections) else []

-- the rules at each address of a leaf function: there is nothing to undo
abbrev pub leaf_rules : Rules
leaf_rules = rules_of at_first

-- the record of a run
abbrev pub run_text : CodeRun → List ℕ
run_text run = first_text run.begin (run.end - run.begin) leaf_rules

-- the records of leaf functions
abbrev pub leaf_text : Program → List FunctionEntry → List ℕ
leaf_text program entries = flat_map run_text (leaf_runs program entries)
