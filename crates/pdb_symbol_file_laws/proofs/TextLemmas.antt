-- What a reader finds in the text of a whole symbol file.
use Rattle.std.proofs.Common.{◌≡◌, ℕ, suc, ◌+◌, ◌<◌, ◌≤◌, ◌^◌, List, [], ◌∷◌, ◌++◌}
use Rattle.std.proofs.Common.{subst, arith, codes, length, map, flat_map, All, append_assoc}
use Rattle.std.specs.List.{AllByRecursion}
use Rattle.pdb_tables.specs.InOrder.{in_order}
use Rattle.pdb_tables.specs.declared.segment.Segment.{Segment}
use Rattle.pdb_breakpad.specs.RecordTypes.{FunctionRecords, InlineRecord, InlinedCall, Numbers, Span}
use Rattle.pdb_breakpad.specs.FunctionTexts.{function_head, function_text, inline_before, inline_line}
use Rattle.pdb_breakpad.specs.FunctionTexts.{inline_records_from, parameter_size}
use Rattle.pdb_breakpad.specs.FunctionTexts.{inline_lines, line_line, name_line}
use Rattle.pdb_breakpad.specs.NameRecords.{name_record, name_records}
use Rattle.pdb_breakpad.specs.ShownFrames.{own_name}
use Rattle.pdb_breakpad.specs.SymbolFile.{names_text}
use Rattle.pdb_breakpad.specs.WrittenRecords.{FitNumbers, FitTypes, FitsCall, FitsPlace, FitsSpan}
use Rattle.pdb_symbol_file_laws.specs.SymbolFileRecords.{function_read}
use Rattle.pdb_symbol_file_laws.specs.SymbolFileRecords.{inline_read, line_read, names_read, numbered, on_one_line}
use Rattle.pdb_symbol_file_laws.specs.SymbolTextReader.{SymbolLine, File, InlineOrigin, read_text}
use Rattle.pdb_symbol_file_laws.proofs.LineLemmas.{IsReadAs, both_read, none_read, whole_read}
use Rattle.pdb_symbol_file_laws.proofs.OrderLemmas.{in_order_all}
use Rattle.pdb_symbol_file_laws.proofs.RecordLemmas.{code_line_reads, file_reads, head_reads, inline_reads}
use Rattle.pdb_symbol_file_laws.proofs.RecordLemmas.{origin_reads}

-- what holds of all of a list holds of the first and of the others
pub all_of : {T : Type 0} (P : T → Type 0) (x : T) (xs : List T) → All P (x ∷ xs) → P x × All P xs
all_of P x xs all = (all 0 x (omega arith), λ k d below. all (suc k) d (omega (arith, below)))

-- it holds one by one
pub one_by_one : {T : Type 0} (P : T → Type 0) (xs : List T) → All P xs → AllByRecursion P xs
one_by_one P [] all = tt
one_by_one P (x ∷ xs) all = let parts = all_of P x xs all in (parts.0, one_by_one P xs parts.1)

-- texts one after the other say what each of them does, where each says one thing
each_read : {T : Type 0} (P : T → Type 0) (text : T → List ℕ) (said : T → SymbolLine)
    → ((x : T) → P x → IsReadAs (text x) (said x ∷ [])) → (xs : List T) → AllByRecursion P xs
    → IsReadAs (flat_map text xs) (map said xs)
each_read P text said reads [] all = none_read
each_read P text said reads (x ∷ xs) all = both_read (reads x all.0) (each_read P text said reads xs all.1)

-- or several
all_read : {T : Type 0} (P : T → Type 0) (text : T → List ℕ) (said : T → List SymbolLine)
    → ((x : T) → P x → IsReadAs (text x) (said x)) → (xs : List T) → AllByRecursion P xs
    → IsReadAs (flat_map text xs) (flat_map said xs)
all_read P text said reads [] all = none_read
all_read P text said reads (x ∷ xs) all = both_read (reads x all.0) (all_read P text said reads xs all.1)

-- the records of names are read as them
names_are : (start : List ℕ) (kind : ℕ → List ℕ → SymbolLine)
    → ((number : ℕ) (name : List ℕ) → number < 2 ^ 64
    → IsReadAs (name_record start number name) (kind number (on_one_line name) ∷ []))
    → (number : ℕ) (names : List (List ℕ)) → number + length names ≤ 2 ^ 64
    → IsReadAs (name_records start number names) (numbered kind number names)
names_are start kind reads number [] small = none_read
names_are start kind reads number (name ∷ names) small =
    both_read (reads number name (omega arith)) (names_are start kind reads (number + 1) names (omega arith))

-- an inlined call's record fits its types
abbrev FitsRecord : InlineRecord → Type 0
FitsRecord inlined = (inlined.level < 2 ^ 64) × FitsSpan FitsCall inlined.span

-- the records of a level fit their types in front of others that do
level_fits : (level : ℕ) (spans : List (Span InlinedCall)) (rest : List InlineRecord) → level < 2 ^ 64
    → AllByRecursion (FitsSpan FitsCall) spans → AllByRecursion FitsRecord rest
    → AllByRecursion FitsRecord (map (λ span. record { level = level; span = span }) spans ++ rest)
level_fits level [] rest small all others = others
level_fits level (span ∷ spans) rest small all others =
    ((small, all.0), level_fits level spans rest small all.1 others)

-- the records of all levels fit their types
levels_fit : (level : ℕ) (levels : List (List (Span InlinedCall))) → level + length levels ≤ 2 ^ 64
    → All (All (FitsSpan FitsCall)) levels → AllByRecursion FitsRecord (inline_records_from level levels)
levels_fit level [] small all = tt
levels_fit level (spans ∷ levels) small all =
    let parts = all_of (All (FitsSpan FitsCall)) spans levels all in
    level_fits level spans (inline_records_from (level + 1) levels) (omega arith)
    (one_by_one (FitsSpan FitsCall) spans parts.0) (levels_fit (level + 1) levels (omega arith) parts.1)

-- a function's records are read as them
function_reads : (parameters : List (Segment ℕ)) (records : FunctionRecords) → FitTypes parameters records
    → IsReadAs (function_text parameters records) (function_read records)
function_reads parameters records fits =
    let found = records.found in
    let size = parameter_size parameters records.start in
    subst (λ text. IsReadAs text (function_read records))
    (append_assoc (function_head size found.end_rva records.start records.last) (name_line (own_name found.frames))
    (inline_lines records.inlines ++ flat_map line_line records.lines))
    (both_read
    (head_reads size found.end_rva records.start records.last (own_name found.frames) fits.parameters_fit fits.start
    fits.last)
    (both_read
    (each_read FitsRecord inline_line inline_read (λ inlined all. inline_reads inlined all.0 all.1)
    (in_order inline_before (inline_records_from 0 records.inlines))
    (in_order_all FitsRecord inline_before (inline_records_from 0 records.inlines)
    (levels_fit 0 records.inlines (omega (arith, fits.levels)) fits.inlines)))
    (each_read (FitsSpan FitsPlace) line_line line_read code_line_reads records.lines
    (one_by_one (FitsSpan FitsPlace) records.lines fits.lines))))

-- the records that were written are read of a whole text
pub records_read : (numbers : Numbers) (parameters : List (Segment ℕ)) (functions : List FunctionRecords)
    → FitNumbers numbers → All (FitTypes parameters) functions
    → read_text (names_text numbers ++ flat_map (function_text parameters) functions)
    ≡ names_read numbers ++ flat_map function_read functions
records_read numbers parameters functions small fits =
    whole_read
    (both_read
    (both_read
    (names_are (codes "FILE ") (λ number name. File number name) file_reads 0 numbers.files (omega (arith, small.0)))
    (names_are (codes "INLINE_ORIGIN ") (λ number name. InlineOrigin number name) origin_reads 0 numbers.origins
    (omega (arith, small.1))))
    (all_read (FitTypes parameters) (function_text parameters) function_read (function_reads parameters) functions
    (one_by_one (FitTypes parameters) functions fits)))
