-- What a reader finds in the text of each record.
use Rattle.std.proofs.Common.{◌≡◌, ◌∙◌, ℕ, ◌<◌, ◌^◌, Bool, false, List, [], ◌∷◌, ◌++◌, codes, refl}
use Rattle.std.proofs.Common.{sym, ap, subst, append-nil, arith, decimal, Option, Some, None, if◌then◌else◌}
use Rattle.std.proofs.Common.{append_assoc}
use Rattle.pdb_breakpad.specs.RecordTypes.{InlineRecord, SourceLocation, Span}
use Rattle.pdb_breakpad.specs.FunctionTexts.{function_head, hexadecimal, inline_line, line_line, name_line}
use Rattle.pdb_breakpad.specs.FunctionTexts.{size_between}
use Rattle.pdb_breakpad.specs.NameRecords.{name_record}
use Rattle.pdb_breakpad.specs.WrittenRecords.{FitsCall, FitsPlace, FitsSpan}
use Rattle.pdb_symbol_file_laws.specs.SymbolFileRecords.{head_read, inline_read}
use Rattle.pdb_symbol_file_laws.specs.SymbolFileRecords.{line_read}
use Rattle.pdb_symbol_file_laws.specs.SymbolFileRecords.{on_one_line}
use Rattle.pdb_symbol_file_laws.specs.SymbolTextReader.{SymbolLine, File, InlineOrigin, Func, Public, Inline, CodeLine}
use Rattle.pdb_symbol_file_laws.specs.SymbolTextReader.{number_and_more, read_code_line, read_line}
use Rattle.pdb_symbol_file_laws.proofs.LineLemmas.{HasNone, IsLine, IsReadAs, line_end, line_reads, tested, with_word}
use Rattle.pdb_symbol_file_laws.proofs.NameLemmas.{name_is_line}
use Rattle.pdb_symbol_file_laws.proofs.WordLemmas.{decimal_ends, decimal_goes_on, decimal_has_none, hexadecimal_ends}
use Rattle.pdb_symbol_file_laws.proofs.WordLemmas.{hexadecimal_goes_on, hexadecimal_has_none, hexadecimal_is}
use Rattle.pdb_symbol_file_laws.proofs.WordLemmas.{no_beginning}

-- a size between addresses of 32 bits fits 64 bits
size_fits : (first last : ℕ) → last < 2 ^ 32 → size_between first last < 2 ^ 64
size_fits first last small = omega arith

-- a space has no line break
space : HasNone 10 (codes " ")
space = tested 10 (codes " ") refl

-- the record of a file is read as it
pub file_reads : (number : ℕ) (name : List ℕ) → number < 2 ^ 64
    → IsReadAs (name_record (codes "FILE ") number name) (File number (on_one_line name) ∷ [])
unfolding name_record read_line
file_reads number name small =
    line_reads
    (with_word (codes "FILE ") (tested 10 (codes "FILE ") refl)
    (with_word (decimal number) (decimal_has_none number small) (with_word (codes " ") space (name_is_line name))))
    (decimal_goes_on number (on_one_line name) (λ n rest. File n rest) small)

-- so is that of an inlined function's name
pub origin_reads : (number : ℕ) (name : List ℕ) → number < 2 ^ 64
    → IsReadAs (name_record (codes "INLINE_ORIGIN ") number name) (InlineOrigin number (on_one_line name) ∷ [])
unfolding name_record read_line
origin_reads number name small =
    line_reads
    (with_word (codes "INLINE_ORIGIN ") (tested 10 (codes "INLINE_ORIGIN ") refl)
    (with_word (decimal number) (decimal_has_none number small) (with_word (codes " ") space (name_is_line name))))
    (decimal_goes_on number (on_one_line name) (λ n rest. InlineOrigin n rest) small)

-- a hexadecimal number and a space in front of what ends a line
with_hexadecimal : (n : ℕ) {text line : List ℕ} → n < 2 ^ 64 → IsLine text line
    → IsLine (hexadecimal n ++ (codes " " ++ text)) (hexadecimal n ++ (codes " " ++ line))
with_hexadecimal n small ends =
    with_word (hexadecimal n) (hexadecimal_has_none n small) (with_word (codes " ") space ends)

-- the line of a function's record
func_line : (size start last : ℕ) (name : List ℕ) → size < 2 ^ 32 → start < 2 ^ 32 → last < 2 ^ 32
    → IsLine (codes "FUNC " ++ (hexadecimal start ++ (codes " " ++ (hexadecimal (size_between start last)
    ++ (codes " " ++ (hexadecimal size ++ (codes " " ++ name_line name)))))))
    (codes "FUNC " ++ (hexadecimal start ++ (codes " " ++ (hexadecimal (size_between start last)
    ++ (codes " " ++ (hexadecimal size ++ (codes " " ++ on_one_line name)))))))
func_line size start last name fits from to =
    with_word (codes "FUNC ") (tested 10 (codes "FUNC ") refl)
    (with_hexadecimal start (omega arith)
    (with_hexadecimal (size_between start last) (size_fits start last to)
    (with_hexadecimal size (omega arith) (name_is_line name))))

-- what the line of a function's record says
func_says : (size start last : ℕ) (name : List ℕ) → size < 2 ^ 32 → start < 2 ^ 32 → last < 2 ^ 32
    → read_line (codes "FUNC " ++ (hexadecimal start ++ (codes " " ++ (hexadecimal (size_between start last)
    ++ (codes " " ++ (hexadecimal size ++ (codes " " ++ name))))))) ≡ Func start (size_between start last) name
unfolding read_line
func_says size start last name fits from to =
    hexadecimal_goes_on start _ _ (omega arith)
    ∙ hexadecimal_goes_on (size_between start last) _ _ (size_fits start last to)
    ∙ hexadecimal_goes_on size name (λ parameters rest. Func start (size_between start last) rest) (omega arith)

-- the line of the record of a function whose end isn't known
public_line : (size start : ℕ) (name : List ℕ) → size < 2 ^ 32 → start < 2 ^ 32
    → IsLine (codes "PUBLIC " ++ (hexadecimal start ++ (codes " " ++ (hexadecimal size ++ (codes " "
    ++ name_line name)))))
    (codes "PUBLIC " ++ (hexadecimal start ++ (codes " " ++ (hexadecimal size ++ (codes " " ++ on_one_line name)))))
public_line size start name fits from =
    with_word (codes "PUBLIC ") (tested 10 (codes "PUBLIC ") refl)
    (with_hexadecimal start (omega arith) (with_hexadecimal size (omega arith) (name_is_line name)))

-- what the line of such a record says
public_says : (size start : ℕ) (name : List ℕ) → size < 2 ^ 32 → start < 2 ^ 32
    → read_line (codes "PUBLIC " ++ (hexadecimal start ++ (codes " " ++ (hexadecimal size ++ (codes " " ++ name)))))
    ≡ Public start name
unfolding read_line
public_says size start name fits from =
    hexadecimal_goes_on start _ _ (omega arith)
    ∙ hexadecimal_goes_on size name (λ parameters rest. Public start rest) (omega arith)

-- the text of a function's record, word by word
func_text : (size start last : ℕ) (rest : List ℕ)
    → function_head size (Some 0) start last ++ rest
    ≡ codes "FUNC " ++ (hexadecimal start ++ (codes " " ++ (hexadecimal (size_between start last)
    ++ (codes " " ++ (hexadecimal size ++ (codes " " ++ rest))))))
func_text size start last rest = simp append_assoc

-- so that of one whose end isn't known
public_text : (size start : ℕ) (rest : List ℕ)
    → function_head size None start 0 ++ rest
    ≡ codes "PUBLIC " ++ (hexadecimal start ++ (codes " " ++ (hexadecimal size ++ (codes " " ++ rest))))
public_text size start rest = simp append_assoc

-- the record of a function is read as it
pub head_reads : (size : ℕ) (end : Option ℕ) (start last : ℕ) (name : List ℕ) → size < 2 ^ 32 → start < 2 ^ 32
    → last < 2 ^ 32
    → IsReadAs (function_head size end start last ++ name_line name) (head_read end start last (on_one_line name) ∷ [])
head_reads size (Some end) start last name fits from to =
    subst (λ text. IsReadAs text (Func start (size_between start last) (on_one_line name) ∷ []))
    (sym (func_text size start last (name_line name)))
    (line_reads (func_line size start last name fits from to)
    (func_says size start last (on_one_line name) fits from to))
head_reads size None start last name fits from to =
    subst (λ text. IsReadAs text (Public start (on_one_line name) ∷ []))
    (sym (public_text size start (name_line name)))
    (line_reads (public_line size start name fits from) (public_says size start (on_one_line name) fits from))

-- what the line of the record of an inlined call says
inline_says : (level line file origin start last : ℕ) → level < 2 ^ 64 → line < 2 ^ 64 → file < 2 ^ 64
    → origin < 2 ^ 64 → start < 2 ^ 32 → last < 2 ^ 32
    → read_line (codes "INLINE " ++ (decimal level ++ (codes " " ++ (decimal line ++ (codes " " ++ (decimal file
    ++ (codes " " ++ (decimal origin ++ (codes " " ++ (hexadecimal start
    ++ (codes " " ++ hexadecimal (size_between start last))))))))))))
    ≡ Inline level line file origin start (size_between start last)
unfolding read_line
inline_says level line file origin start last a b c d from to =
    decimal_goes_on level _ _ a ∙ decimal_goes_on line _ _ b ∙ decimal_goes_on file _ _ c
    ∙ decimal_goes_on origin _ _ d ∙ hexadecimal_goes_on start _ _ (omega arith)
    ∙ hexadecimal_ends (size_between start last) _ (size_fits start last to)

-- the end of a line with a size
size_line : (start last : ℕ) → last < 2 ^ 32
    → IsLine (hexadecimal (size_between start last) ++ codes "\n") (hexadecimal (size_between start last))
size_line start last to =
    subst (λ line. IsLine (hexadecimal (size_between start last) ++ codes "\n") line)
    (append-nil (hexadecimal (size_between start last)))
    (with_word (hexadecimal (size_between start last))
    (hexadecimal_has_none (size_between start last) (size_fits start last to)) line_end)

-- a decimal number and a space in front of what ends a line
with_decimal : (n : ℕ) {text line : List ℕ} → n < 2 ^ 64 → IsLine text line
    → IsLine (decimal n ++ (codes " " ++ text)) (decimal n ++ (codes " " ++ line))
with_decimal n small ends = with_word (decimal n) (decimal_has_none n small) (with_word (codes " ") space ends)

-- the record of an inlined call is read as it
pub inline_reads : (inlined : InlineRecord) → inlined.level < 2 ^ 64 → FitsSpan FitsCall inlined.span
    → IsReadAs (inline_line inlined) (inline_read inlined ∷ [])
unfolding inline_line
inline_reads inlined level fits =
    let span = inlined.span in
    let line : span.content.place.line < 2 ^ 64 = omega (arith, fits.2.0.1) in
    let start : span.start < 2 ^ 64 = omega (arith, fits.0) in
    line_reads
    (with_word (codes "INLINE ") (tested 10 (codes "INLINE ") refl)
    (with_decimal inlined.level level (with_decimal span.content.place.line line
    (with_decimal span.content.place.file fits.2.0.0 (with_decimal span.content.origin fits.2.1
    (with_hexadecimal span.start start (size_line span.start span.last fits.1)))))))
    (inline_says inlined.level span.content.place.line span.content.place.file span.content.origin span.start span.last
    level line fits.2.0.0 fits.2.1 fits.0 fits.1)

-- a line of four numbers begins with none of the words of other records
code_line_is : (start : ℕ) (rest : List ℕ) → start < 2 ^ 32
    → read_line (hexadecimal start ++ (32 ∷ rest)) ≡ read_code_line (hexadecimal start ++ (32 ∷ rest))
unfolding read_line
code_line_is start rest from =
    let is = (hexadecimal_is start (omega arith)).0.1 in
    passed _ _ (no_beginning 16 (hexadecimal start) rest (codes "FILE") is (omega arith) refl)
    ∙ passed _ _ (no_beginning 16 (hexadecimal start) rest (codes "INLINE_ORIGIN") is (omega arith) refl)
    ∙ passed _ _ (no_beginning 16 (hexadecimal start) rest (codes "FUNC") is (omega arith) refl)
    ∙ passed _ _ (no_beginning 16 (hexadecimal start) rest (codes "PUBLIC") is (omega arith) refl)
    ∙ passed _ _ (no_beginning 16 (hexadecimal start) rest (codes "INLINE") is (omega arith) refl)
  where
    passed : {t : Bool} (a b : SymbolLine) → t ≡ false → (if t then a else b) ≡ b
    passed {t} a b e = ap (λ u. if u then a else b) e

-- what a line of four numbers says
code_line_says : (start last line file : ℕ) → start < 2 ^ 32 → last < 2 ^ 32 → line < 2 ^ 32 → file < 2 ^ 64
    → read_line (hexadecimal start ++ (codes " " ++ (hexadecimal (size_between start last)
    ++ (codes " " ++ (decimal line ++ (codes " " ++ decimal file))))))
    ≡ CodeLine start (size_between start last) line file
code_line_says start last line file from to a b =
    code_line_is start _ from ∙ hexadecimal_goes_on start _ _ (omega arith)
    ∙ hexadecimal_goes_on (size_between start last) _ _ (size_fits start last to)
    ∙ decimal_goes_on line _ _ (omega arith) ∙ decimal_ends file _ b

-- the end of a line with a file's number
file_line : (n : ℕ) → n < 2 ^ 64 → IsLine (decimal n ++ codes "\n") (decimal n)
file_line n small =
    subst (λ line. IsLine (decimal n ++ codes "\n") line) (append-nil (decimal n))
    (with_word (decimal n) (decimal_has_none n small) line_end)

-- the record of a line is read as it
pub code_line_reads : (span : Span SourceLocation) → FitsSpan FitsPlace span → IsReadAs (line_line span) (line_read span ∷ [])
unfolding line_line
code_line_reads span fits =
    line_reads
    (with_hexadecimal span.start (omega (arith, fits.0))
    (with_hexadecimal (size_between span.start span.last) (size_fits span.start span.last fits.1)
    (with_decimal span.content.line (omega (arith, fits.2.1)) (file_line span.content.file fits.2.0))))
    (code_line_says span.start span.last span.content.line span.content.file fits.0 fits.1 fits.2.1 fits.2.0)
