-- The inlined calls that a reader finds over an address.
use Rattle.std.proofs.Common.{◌≡◌, ◌∙◌, ℕ, suc, zero, ◌+◌, ◌≤◌, ◌<◌, ◌==◌, Bool, true, false, ◌&&◌, List}
use Rattle.std.proofs.Common.{[], ◌∷◌, ◌++◌, refl, ap, arith, map, find, Some, None}
use Rattle.std.proofs.Common.{option_map, if◌then◌else◌, ne_eqb, eq-eqb, le-ltb, cond}
use Rattle.std.specs.List.{AllByRecursion}
use Rattle.std.specs.Ordering.{is_lt, nat_cmp, ordering_then}
use Rattle.std.specs.declared.cmp.Ordering.TheVariants.{Less, Equal, Greater}
use Rattle.pdb_breakpad.specs.RecordTypes.{InlineRecord, InlinedCall, SourceLocation, Span}
use Rattle.pdb_breakpad.specs.AddressSpans.{content_at, is_over}
use Rattle.pdb_breakpad.specs.FunctionTexts.{inline_records_from}
use Rattle.pdb_breakpad.specs.InlineRecords.{call_at}
use Rattle.pdb_breakpad.specs.ShownFrames.{ShownCall, ShownPlace}
use Rattle.pdb_symbol_file_laws.specs.RecordReader.{call_read, file_named, origin_named}
use Rattle.pdb_symbol_file_laws.specs.SymbolFileRecords.{inline_read, line_read}
use Rattle.pdb_symbol_file_laws.specs.SymbolTextReader.{SymbolLine}
use Rattle.pdb_symbol_file_laws.proofs.FunctionLookups.{reaches_over}

-- an inlined call as a reader shows it, with names by all records
abbrev pub call_shown : List SymbolLine → InlinedCall → ShownCall
call_shown all call = record {
  place = record { file = file_named call.place.file all; line = call.place.line };
  function = origin_named call.origin all;
}

-- a place as a reader shows it
abbrev pub place_shown : List SymbolLine → SourceLocation → ShownPlace
place_shown all place = record { file = file_named place.file all; line = place.line }

-- whether the record of an inlined call is of a level and over an address
abbrev pub is_at : ℕ → ℕ → InlineRecord → Bool
is_at address level inlined = inlined.level == level && is_over address inlined.span

-- the record of an inlined call doesn't end before it begins
abbrev pub IsOrdered : InlineRecord → Type 0
IsOrdered inlined = inlined.span.start ≤ inlined.span.last

-- the content of an inlined call's record
abbrev pub content : InlineRecord → InlinedCall
content inlined = inlined.span.content

-- no record of a line is one of an inlined call
no_call : (all : List SymbolLine) (address level : ℕ) (spans : List (Span SourceLocation))
    → call_read all address level (map line_read spans) ≡ None
no_call all address level [] = refl
no_call all address level (span ∷ spans) = no_call all address level spans

-- a reader finds the first record of a level over an address
pub first_call : (all : List SymbolLine) (address level : ℕ) (inlines : List InlineRecord) (spans : List (Span SourceLocation))
    → AllByRecursion IsOrdered inlines
    → call_read all address level (map inline_read inlines ++ map line_read spans)
    ≡ option_map (λ inlined. call_shown all (content inlined)) (find (is_at address level) inlines)
first_call all address level [] spans order = no_call all address level spans
first_call all address level (inlined ∷ inlines) spans order =
    ap (λ t. if inlined.level == level && t then Some (call_shown all (content inlined))
    else call_read all address level (map inline_read inlines ++ map line_read spans))
    (reaches_over inlined.span.start inlined.span.last address order.0)
    ∙ by (is_at address level inlined) (first_call all address level inlines spans order.1)
  where
    by : (t : Bool) → call_read all address level (map inline_read inlines ++ map line_read spans)
        ≡ option_map (λ inlined. call_shown all (content inlined)) (find (is_at address level) inlines)
        → (if t then Some (call_shown all (content inlined))
        else call_read all address level (map inline_read inlines ++ map line_read spans))
        ≡ option_map (λ inlined. call_shown all (content inlined))
        (if t then Some inlined else find (is_at address level) inlines)
    by true rest = refl
    by false rest = rest

-- the record of an inlined call that begins later on the same level belongs after the other
pub not_before : (s t level : ℕ) → s ≤ t → is_lt (ordering_then (nat_cmp t s) (nat_cmp level level)) ≡ false
not_before s t level order =
    ap (λ x. is_lt (ordering_then (cond x Less (cond (t == s) Equal Greater)) (nat_cmp level level))) (le-ltb t s order)
    ∙ by (t == s)
  where
    same : (u : Bool) → is_lt (cond u Equal Greater) ≡ false
    same true = refl
    same false = refl

    by : (u : Bool) → is_lt (ordering_then (cond u Equal Greater) (nat_cmp level level)) ≡ false
    by true = ap (λ x. is_lt (cond x Less (cond (level == level) Equal Greater))) (le-ltb level level (omega arith))
        ∙ same (level == level)
    by false = refl

-- records of spans of a level, in front of others
abbrev pub on_level : ℕ → List (Span InlinedCall) → List InlineRecord → List InlineRecord
on_level level spans others = map (λ span. record { level = level; span = span }) spans ++ others

-- records of other levels are passed over
other_level : (address level k : ℕ) (spans : List (Span InlinedCall)) (others : List InlineRecord)
    → (level == k) ≡ false → find (is_at address k) (on_level level spans others) ≡ find (is_at address k) others
other_level address level k [] others other = refl
other_level address level k (span ∷ spans) others other =
    ap (λ t. if t && is_over address span then Some (record { level = level; span = span })
    else find (is_at address k) (on_level level spans others)) other
    ∙ other_level address level k spans others other

-- none of the records from a level on is of a lower level
none_below : (address k level : ℕ) (levels : List (List (Span InlinedCall))) → k < level
    → find (is_at address k) (inline_records_from level levels) ≡ None
none_below address k level [] below = refl
none_below address k level (spans ∷ levels) below =
    other_level address level k spans (inline_records_from (level + 1) levels) (ne_eqb level k (λ e. omega arith))
    ∙ none_below address k (level + 1) levels (omega arith)

-- of the records of a level the first over an address is that of the first span over it
same_level : (address level k : ℕ) (spans : List (Span InlinedCall)) (others : List InlineRecord)
    → (level == k) ≡ true → find (is_at address k) others ≡ None
    → option_map content (find (is_at address k) (on_level level spans others)) ≡ content_at address spans
same_level address level k [] others same none = ap (option_map content) none
same_level address level k (span ∷ spans) others same none =
    ap (λ t. option_map content (if t && is_over address span then Some (record { level = level; span = span })
    else find (is_at address k) (on_level level spans others))) same
    ∙ by (is_over address span) (same_level address level k spans others same none)
  where
    by : (t : Bool)
        → option_map content (find (is_at address k) (on_level level spans others)) ≡ content_at address spans
        → option_map content (if t then Some (record { level = level; span = span })
        else find (is_at address k) (on_level level spans others))
        ≡ option_map (λ s. s.content) (if t then Some span else find (is_over address) spans)
    by true rest = refl
    by false rest = rest

-- of the records of all levels the first of a level over an address is that of the call at that level
pub level_found : (address level i : ℕ) (levels : List (List (Span InlinedCall)))
    → option_map content (find (is_at address (level + i)) (inline_records_from level levels))
    ≡ call_at address levels i
level_found address level i [] = refl
level_found address level zero (spans ∷ levels) =
    same_level address level (level + 0) spans (inline_records_from (level + 1) levels)
    (eq-eqb level (level + 0) (omega arith)) (none_below address (level + 0) (level + 1) levels (omega arith))
level_found address level (suc i) (spans ∷ levels) =
    ap (option_map content) (other_level address level (level + suc i) spans (inline_records_from (level + 1) levels)
    (ne_eqb level (level + suc i) (λ e. omega arith)))
    ∙ ap (λ k. option_map content (find (is_at address k) (inline_records_from (level + 1) levels))) (more level i)
    ∙ level_found address (level + 1) i levels
  where
    more : (a b : ℕ) → a + suc b ≡ (a + 1) + b
    more a b = omega arith
