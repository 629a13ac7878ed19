-- The function that a reader finds over an address.
use Rattle.std.proofs.Common.{◌≡◌, ◌∙◌, ℕ, ◌+◌, ◌≤◌, Bool, true, false, not, nat_lt, ◌&&◌, List, [], ◌∷◌, ◌++◌}
use Rattle.std.proofs.Common.{refl, ap, arith, map, flat_map, Option, Some, None, if◌then◌else◌}
use Rattle.std.proofs.Common.{ltb-true, ltb-false, lt-ltb, le-ltb}
use Rattle.std.specs.List.{AllByRecursion}
use Rattle.pdb_breakpad.specs.RecordTypes.{FunctionRecords, InlineRecord, SourceLocation, Span}
use Rattle.pdb_breakpad.specs.FunctionTexts.{inline_before, inline_records_from, size_between}
use Rattle.pdb_breakpad.specs.ShownFrames.{own_name}
use Rattle.pdb_tables.specs.InOrder.{in_order}
use Rattle.pdb_symbol_file_laws.specs.RecordReader.{FunctionMatch, function_at, is_before_next, own_records, reaches}
use Rattle.pdb_symbol_file_laws.specs.SymbolFileRecords.{function_read, head_read, inline_read, line_read, on_one_line}
use Rattle.pdb_symbol_file_laws.specs.SymbolTextReader.{SymbolLine, Func, Public}

-- a record is none of a function itself
abbrev pub IsPart : SymbolLine → Type 0
IsPart (Func start size name) = ⊥
IsPart (Public start name) = ⊥
IsPart line = Unit {0}

-- records that are none of functions are passed over
pub passed : (address : ℕ) (parts lines : List SymbolLine) → AllByRecursion IsPart parts
    → function_at address (parts ++ lines) ≡ function_at address lines
passed address [] lines all = refl
passed address (Func start size name ∷ parts) lines all = absurd all.0
passed address (Public start name ∷ parts) lines all = absurd all.0
passed address (line ∷ parts) lines all = passed address parts lines all.1

-- so the next function after them is the next
next_behind : (address : ℕ) (parts lines : List SymbolLine) → AllByRecursion IsPart parts
    → is_before_next address (parts ++ lines) ≡ is_before_next address lines
next_behind address [] lines all = refl
next_behind address (Func start size name ∷ parts) lines all = absurd all.0
next_behind address (Public start name ∷ parts) lines all = absurd all.0
next_behind address (line ∷ parts) lines all = next_behind address parts lines all.1

-- they are a function's own, up to the next function
own_are : (parts lines : List SymbolLine) → AllByRecursion IsPart parts → own_records lines ≡ []
    → own_records (parts ++ lines) ≡ parts
own_are [] lines all none = none
own_are (Func start size name ∷ parts) lines all none = absurd all.0
own_are (Public start name ∷ parts) lines all none = absurd all.0
own_are (line ∷ parts) lines all none = ap (λ own. line ∷ own) (own_are parts lines all.1 none)

-- two lists of such records
pub both_parts : (xs ys : List SymbolLine) → AllByRecursion IsPart xs → AllByRecursion IsPart ys
    → AllByRecursion IsPart (xs ++ ys)
both_parts [] ys all others = others
both_parts (x ∷ xs) ys all others = (all.0, both_parts xs ys all.1 others)

-- the records of inlined calls and of lines are such records
inlines_are_parts : (inlines : List InlineRecord) → AllByRecursion IsPart (map inline_read inlines)
inlines_are_parts [] = tt
inlines_are_parts (inlined ∷ inlines) = (tt, inlines_are_parts inlines)

lines_are_parts : (spans : List (Span SourceLocation)) → AllByRecursion IsPart (map line_read spans)
lines_are_parts [] = tt
lines_are_parts (span ∷ spans) = (tt, lines_are_parts spans)

-- what belongs to a function
abbrev pub parts_of : FunctionRecords → List SymbolLine
parts_of records =
    map inline_read (in_order inline_before (inline_records_from 0 records.inlines)) ++ map line_read records.lines

-- it is none of a function itself
pub parts_are : (records : FunctionRecords) → AllByRecursion IsPart (parts_of records)
parts_are records =
    both_parts (map inline_read (in_order inline_before (inline_records_from 0 records.inlines)))
    (map line_read records.lines)
    (inlines_are_parts (in_order inline_before (inline_records_from 0 records.inlines))) (lines_are_parts records.lines)

-- functions begin with their own records
heads_first : (functions : List FunctionRecords) → own_records (flat_map function_read functions) ≡ []
heads_first [] = refl
heads_first (records ∷ functions) = by records.found.end_rva
  where
    by : (end : Option ℕ)
        → own_records (head_read end records.start records.last (on_one_line (own_name records.found.frames))
        ∷ (parts_of records ++ flat_map function_read functions)) ≡ []
    by (Some e) = refl
    by None = refl

-- whether an address lies before the first of these functions
abbrev pub lies_before : ℕ → List FunctionRecords → Bool
lies_before address [] = true
lies_before address (records ∷ functions) = nat_lt address records.start

-- the next function is the first of them
next_is : (address : ℕ) (functions : List FunctionRecords)
    → is_before_next address (flat_map function_read functions) ≡ lies_before address functions
next_is address [] = refl
next_is address (records ∷ functions) = by records.found.end_rva
  where
    by : (end : Option ℕ)
        → is_before_next address (head_read end records.start records.last (on_one_line (own_name records.found.frames))
        ∷ (parts_of records ++ flat_map function_read functions)) ≡ nat_lt address records.start
    by (Some e) = refl
    by None = refl

-- an address is after a last one exactly where it isn't below the next
below_next : (start last address : ℕ) → start ≤ last
    → nat_lt address (start + size_between start last) ≡ not (nat_lt last address)
below_next start last address order = by (nat_lt last address) refl
  where
    by : (t : Bool) → nat_lt last address ≡ t → nat_lt address (start + size_between start last) ≡ not t
    by true e = le-ltb address (start + size_between start last) (omega (arith, ltb-true last address e, order))
    by false e = lt-ltb address (start + size_between start last) (omega (arith, ltb-false last address e, order))

-- a size reaches as far as a span is over addresses
pub reaches_over : (start last address : ℕ) → start ≤ last
    → reaches start (size_between start last) address ≡ (not (nat_lt address start) && not (nat_lt last address))
reaches_over start last address order =
    ap (λ t. not (nat_lt address start) && t) (below_next start last address order)

-- a function as a reader finds it
abbrev pub found_of : FunctionRecords → FunctionMatch
found_of records =
    record { name = on_one_line (own_name records.found.frames); records = parts_of records }

-- what a reader finds after a function
abbrev pub behind : FunctionRecords → List FunctionRecords → List SymbolLine
behind records functions = parts_of records ++ flat_map function_read functions

-- what belongs to a function is what is read as its own
own_of : (records : FunctionRecords) (functions : List FunctionRecords)
    → own_records (behind records functions) ≡ parts_of records
own_of records functions =
    own_are (parts_of records) (flat_map function_read functions) (parts_are records) (heads_first functions)

-- whether a reader takes the function for one over an address
abbrev pub takes : Option ℕ → ℕ → FunctionRecords → List FunctionRecords → Bool
takes (Some end) address records functions =
    not (nat_lt address records.start) && not (nat_lt records.last address)
takes None address records functions = not (nat_lt address records.start) && lies_before address functions

-- what a reader finds of a function and those after it
pub one_found : (end : Option ℕ) (address : ℕ) (records : FunctionRecords) (functions : List FunctionRecords)
    → records.start ≤ records.last
    → function_at address (head_read end records.start records.last (on_one_line (own_name records.found.frames))
    ∷ behind records functions)
    ≡ (if takes end address records functions then Some (found_of records)
    else function_at address (flat_map function_read functions))
one_found (Some end) address records functions order =
    ap (λ t. if t then Some (record {
      name = on_one_line (own_name records.found.frames);
      records = own_records (behind records functions);
    }) else function_at address (behind records functions))
    (reaches_over records.start records.last address order)
    ∙ ap (λ own. if takes (Some end) address records functions
    then Some (record { name = on_one_line (own_name records.found.frames); records = own })
    else function_at address (behind records functions)) (own_of records functions)
    ∙ ap (λ others. if takes (Some end) address records functions then Some (found_of records) else others)
    (passed address (parts_of records) (flat_map function_read functions) (parts_are records))
one_found None address records functions order =
    ap (λ t. if not (nat_lt address records.start) && t
    then Some (record {
      name = on_one_line (own_name records.found.frames);
      records = own_records (behind records functions);
    }) else function_at address (behind records functions))
    (next_behind address (parts_of records) (flat_map function_read functions) (parts_are records)
    ∙ next_is address functions)
    ∙ ap (λ own. if takes None address records functions
    then Some (record { name = on_one_line (own_name records.found.frames); records = own })
    else function_at address (behind records functions)) (own_of records functions)
    ∙ ap (λ others. if takes None address records functions then Some (found_of records) else others)
    (passed address (parts_of records) (flat_map function_read functions) (parts_are records))
