-- The inlined calls that a reader finds over an address are those over it.
use Rattle.std.proofs.Common.{◌≡◌, ◌∙◌, ℕ, suc, zero, ◌+◌, ◌≤◌, ◌<◌, ◌==◌, Bool, true, false, ◌&&◌, List, [], ◌∷◌}
use Rattle.std.proofs.Common.{length, refl, ap, arith, map, find, All, Option, Some, None, option_map, eqb-true}
use Rattle.std.proofs.Common.{length-append}
use Rattle.std.proofs.lemmas.List.{length-map}
use Rattle.std.specs.List.{AllByRecursion}
use Rattle.pdb_tables.specs.InOrder.{in_order}
use Rattle.pdb_breakpad.specs.RecordTypes.{FunctionRecords, InlineRecord, InlinedCall, Span}
use Rattle.pdb_breakpad.specs.AddressSpans.{content_at, is_over}
use Rattle.pdb_breakpad.specs.FunctionTexts.{inline_before, inline_records_from}
use Rattle.pdb_breakpad.specs.InlineRecords.{call_at, calls_at, with_inner}
use Rattle.pdb_symbol_file_laws.specs.RecordReader.{and_inner, call_read, calls_read}
use Rattle.pdb_symbol_file_laws.specs.SymbolFileRecords.{inline_read, line_read}
use Rattle.pdb_symbol_file_laws.specs.SymbolTextReader.{SymbolLine}
use Rattle.pdb_breakpad.specs.AddressSpans.{Ascend}
use Rattle.pdb_breakpad.specs.WrittenRecords.{InlinesAscend}
use Rattle.pdb_symbol_file_laws.proofs.CallLookups.{IsOrdered, call_shown, content, first_call, is_at, level_found}
use Rattle.pdb_symbol_file_laws.proofs.CallLookups.{not_before, on_level}
use Rattle.pdb_symbol_file_laws.proofs.FunctionLookups.{parts_of}
use Rattle.pdb_symbol_file_laws.proofs.OrderLemmas.{Keeps, found_in_order, in_order_all, in_order_long}
use Rattle.pdb_symbol_file_laws.proofs.TextLemmas.{all_of, one_by_one}

-- a record that is of a level by its test is of it
of_level : (level k : ℕ) (t : Bool) → (level == k && t) ≡ true → level ≡ k
of_level level k t is = eqb-true level k (by (level == k) is)
  where
    by : (u : Bool) → (u && t) ≡ true → u ≡ true
    by true e = refl
    by false e = absurd (cc e)

-- records from a level on are of that level or a higher one
above : (bound level : ℕ) (levels : List (List (Span InlinedCall))) → bound < level
    → AllByRecursion (λ inlined. bound < inlined.level) (inline_records_from level levels)
above bound level [] below = tt
above bound level (spans ∷ levels) below = these spans (above bound (level + 1) levels (omega arith))
  where
    these : (spans : List (Span InlinedCall))
        → AllByRecursion (λ inlined. bound < inlined.level) (inline_records_from (level + 1) levels)
        → AllByRecursion (λ inlined. bound < inlined.level)
        (on_level level spans (inline_records_from (level + 1) levels))
    these [] rest = rest
    these (span ∷ spans) rest = (below, these spans rest)

-- a record of a span, and those of its level that begin no earlier and of higher levels
first_keeps : (address level k : ℕ) (span : Span InlinedCall) (spans : List (Span InlinedCall))
    (others : List InlineRecord) → AllByRecursion (λ later. span.start ≤ later.start) spans
    → AllByRecursion (λ inlined. level < inlined.level) others → (level == k && is_over address span) ≡ true
    → AllByRecursion (λ y. is_at address k y ≡ true → inline_before y (record { level = level; span = span }) ≡ false)
    (on_level level spans others)
first_keeps address level k span [] [] later higher is = tt
first_keeps address level k span [] (other ∷ others) later higher is = (
  λ other_is. absurd (omega (
    arith,
    higher.0,
    of_level level k (is_over address span) is,
    of_level other.level k (is_over address other.span) other_is,
  )),
  first_keeps address level k span [] others tt higher.1 is,
)
first_keeps address level k span (next ∷ spans) others later higher is = (
  λ next_is. not_before span.start next.start level later.0,
  first_keeps address level k span spans others later.1 higher is,
)

-- the records of a level whose spans ascend keep their order in front of those of higher levels
level_keeps : (address level k : ℕ) (spans : List (Span InlinedCall)) (others : List InlineRecord) → Ascend spans
    → AllByRecursion (λ inlined. level < inlined.level) others → Keeps (is_at address k) inline_before others
    → Keeps (is_at address k) inline_before (on_level level spans others)
level_keeps address level k [] others ascend higher keeps = keeps
level_keeps address level k (span ∷ spans) others ascend higher keeps = (
  first_keeps address level k span spans others
      (one_by_one (λ later. span.start ≤ later.start) spans ascend.1.0) higher,
  level_keeps address level k spans others ascend.1.1 higher keeps,
)

-- so do the records of all levels
levels_keep : (address level k : ℕ) (levels : List (List (Span InlinedCall))) → All Ascend levels
    → Keeps (is_at address k) inline_before (inline_records_from level levels)
levels_keep address level k [] ascend = tt
levels_keep address level k (spans ∷ levels) ascend =
    let parts = all_of Ascend spans levels ascend in
    level_keeps address level k spans (inline_records_from (level + 1) levels) parts.0
    (above level (level + 1) levels (omega arith)) (levels_keep address (level + 1) k levels parts.1)

-- no record of spans that ascend ends before it begins
level_ordered : (level : ℕ) (spans : List (Span InlinedCall)) (others : List InlineRecord) → Ascend spans
    → AllByRecursion IsOrdered others → AllByRecursion IsOrdered (on_level level spans others)
level_ordered level [] others ascend all = all
level_ordered level (span ∷ spans) others ascend all =
    (ascend.0, level_ordered level spans others ascend.1.1 all)

levels_ordered : (level : ℕ) (levels : List (List (Span InlinedCall))) → All Ascend levels
    → AllByRecursion IsOrdered (inline_records_from level levels)
levels_ordered level [] ascend = tt
levels_ordered level (spans ∷ levels) ascend =
    let parts = all_of Ascend spans levels ascend in
    level_ordered level spans (inline_records_from (level + 1) levels) parts.0
    (levels_ordered (level + 1) levels parts.1)

-- the inlined calls of a function, in the order in which they are written
abbrev written : FunctionRecords → List InlineRecord
written records = in_order inline_before (inline_records_from 0 records.inlines)

-- a reader finds the call of a level over an address
call_found : (all : List SymbolLine) (address i : ℕ) (records : FunctionRecords) → InlinesAscend records
    → call_read all address (0 + i) (parts_of records)
    ≡ option_map (call_shown all) (call_at address records.inlines i)
call_found all address i records ascend =
    first_call all address (0 + i) (written records) records.lines
    (in_order_all IsOrdered inline_before (inline_records_from 0 records.inlines)
    (levels_ordered 0 records.inlines ascend.inlines))
    ∙ ap (option_map (λ inlined. call_shown all (content inlined)))
    (found_in_order (is_at address (0 + i)) inline_before (inline_records_from 0 records.inlines)
    (levels_keep address 0 (0 + i) records.inlines ascend.inlines))
    ∙ twice (find (is_at address (0 + i)) (inline_records_from 0 records.inlines))
    ∙ ap (option_map (call_shown all)) (level_found address 0 i records.inlines)
  where
    twice : (found : Option InlineRecord) → option_map (λ inlined. call_shown all (content inlined)) found
        ≡ option_map (call_shown all) (option_map content found)
    twice None = refl
    twice (Some inlined) = refl

-- a reader finds the calls of all levels, if it goes far enough
calls_are : (all own : List SymbolLine) (address : ℕ) (levels : List (List (Span InlinedCall))) (most level : ℕ)
    → ((i : ℕ) → call_read all address (level + i) own ≡ option_map (call_shown all) (call_at address levels i))
    → length (calls_at address levels) ≤ most
    → calls_read all address own most level ≡ map (call_shown all) (calls_at address levels)
calls_are all own address [] zero level finds enough = refl
calls_are all own address [] (suc most) level finds enough =
    ap (λ call. and_inner call (calls_read all address own most (level + 1)))
    (ap (λ l. call_read all address l own) (none level) ∙ finds 0)
  where
    none : (n : ℕ) → n ≡ n + 0
    none n = omega arith
calls_are all own address (spans ∷ levels) most level finds enough =
    by most (content_at address spans) (ap (λ l. call_read all address l own) (none level) ∙ finds 0) enough
    (λ m few. calls_are all own address levels m (level + 1)
    (λ i. ap (λ l. call_read all address l own) (more level i) ∙ finds (suc i)) few)
  where
    none : (n : ℕ) → n ≡ n + 0
    none n = omega arith

    more : (a b : ℕ) → (a + 1) + b ≡ a + suc b
    more a b = omega arith

    by : (m : ℕ) (found : Option InlinedCall)
        → call_read all address level own ≡ option_map (call_shown all) found
        → length (with_inner found (calls_at address levels)) ≤ m
        → ((m : ℕ) → length (calls_at address levels) ≤ m
        → calls_read all address own m (level + 1) ≡ map (call_shown all) (calls_at address levels))
        → calls_read all address own m level ≡ map (call_shown all) (with_inner found (calls_at address levels))
    by zero None finds_it few rest = refl
    by (suc m) None finds_it few rest =
        ap (λ call. and_inner call (calls_read all address own m (level + 1))) finds_it
    by zero (Some call) finds_it few rest = absurd (omega (arith, few))
    by (suc m) (Some call) finds_it few rest =
        ap (λ found. and_inner found (calls_read all address own m (level + 1))) finds_it
        ∙ ap (λ inner. call_shown all call ∷ inner) (rest m (omega (arith, few)))

-- there are no more calls over an address than records of inlined calls
calls_few : (address level : ℕ) (levels : List (List (Span InlinedCall)))
    → length (calls_at address levels) ≤ length (inline_records_from level levels)
calls_few address level [] = omega arith
calls_few address level ([] ∷ levels) = omega arith
calls_few address level ((span ∷ spans) ∷ levels) =
    by (content_at address (span ∷ spans)) (calls_few address (level + 1) levels) (longer spans)
  where
    rest : List InlineRecord
    rest = inline_records_from (level + 1) levels

    longer : (spans : List (Span InlinedCall)) → length rest ≤ length (on_level level spans rest)
    longer [] = omega arith
    longer (span ∷ spans) = omega (arith, longer spans)

    by : (found : Option InlinedCall) → length (calls_at address levels) ≤ length rest
        → length rest ≤ length (on_level level spans rest)
        → length (with_inner found (calls_at address levels)) ≤ suc (length (on_level level spans rest))
    by None few long = omega arith
    by (Some call) few long = omega arith

-- a reader finds the inlined calls over an address
pub calls_found : (all : List SymbolLine) (address : ℕ) (records : FunctionRecords) → InlinesAscend records
    → calls_read all address (parts_of records) (length (parts_of records)) 0
    ≡ map (call_shown all) (calls_at address records.inlines)
calls_found all address records ascend =
    calls_are all (parts_of records) address records.inlines (length (parts_of records)) 0
    (λ i. call_found all address i records ascend)
    (omega (
      arith,
      length-append (map inline_read (written records)) (map line_read records.lines),
      length-map (written records) inline_read,
      in_order_long inline_before (inline_records_from 0 records.inlines),
      calls_few address 0 records.inlines,
    ))
