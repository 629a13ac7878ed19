-- What holds of the records that are written holds of what they were made of.
use Rattle.std.proofs.Common.{◌≡◌, ℕ, ◌+◌, Bool, true, false, List, [], ◌∷◌, ◌++◌, map, subst, if◌then◌else◌}
use Rattle.std.specs.List.{All, AllByRecursion}
use Rattle.std.proofs.lemmas.List.Elements.{All-cons, All-from_recursion, All-nil, recursion_from_All}
use Rattle.pdb_tables.specs.InOrder.{in_order, put}
use Rattle.pdb_breakpad.specs.declared.address_spans.Span.{Span}
use Rattle.pdb_breakpad.specs.declared.inline_records.InlinedCall.{InlinedCall}
use Rattle.pdb_breakpad.specs.declared.inline_records.InlineRecord.{InlineRecord}
use Rattle.pdb_breakpad.specs.FunctionTexts.{inline_records_from}

-- what holds of all of a list into which an element was put holds of the element and of the others
put_holds : {T : Type 0} (P : T → Type 0) (before : T → T → Bool) (x : T) (xs : List T)
    → AllByRecursion P (put before x xs) → P x × AllByRecursion P xs
put_holds P before x [] all = (all.0, tt)
put_holds {T} P before x (y ∷ ys) all = by (before y x) all (put_holds P before x ys)
  where
    by : (t : Bool) → AllByRecursion P (if t then y ∷ put before x ys else x ∷ y ∷ ys)
        → (AllByRecursion P (put before x ys) → P x × AllByRecursion P ys) → P x × AllByRecursion P (y ∷ ys)
    by true all rest = let others = rest all.1 in (others.0, (all.0, others.1))
    by false all rest = (all.0, all.1)

-- what holds of all of a list in order holds of all of it
order_holds : {T : Type 0} (P : T → Type 0) (before : T → T → Bool) (xs : List T)
    → AllByRecursion P (in_order before xs) → AllByRecursion P xs
order_holds P before [] all = tt
order_holds P before (x ∷ xs) all =
    let parts = put_holds P before x (in_order before xs) all in (parts.0, order_holds P before xs parts.1)

-- what holds of the records of a level and of others holds of its spans and of the others
level_holds : (P : Span InlinedCall → Type 0) (level : ℕ) (spans : List (Span InlinedCall)) (rest : List InlineRecord)
    → AllByRecursion (λ inlined. P inlined.span) (map (λ span. record { level = level; span = span }) spans ++ rest)
    → AllByRecursion P spans × AllByRecursion (λ inlined. P inlined.span) rest
level_holds P level [] rest all = (tt, all)
level_holds P level (span ∷ spans) rest all =
    let parts = level_holds P level spans rest all.1 in ((all.0, parts.0), parts.1)

-- what holds of the records of all levels holds of the spans of each
levels_hold : (P : Span InlinedCall → Type 0) (level : ℕ) (levels : List (List (Span InlinedCall)))
    → AllByRecursion (λ inlined. P inlined.span) (inline_records_from level levels) → All (All P) levels
levels_hold P level [] all = All-nil (All P)
levels_hold P level (spans ∷ levels) all =
    let parts = level_holds P level spans (inline_records_from (level + 1) levels) all in
    All-cons (All P) spans levels (All-from_recursion P spans parts.0) (levels_hold P (level + 1) levels parts.1)

-- what holds of the records in order holds of the spans of each level
pub spans_hold : (P : Span InlinedCall → Type 0) (before : InlineRecord → InlineRecord → Bool)
    (levels : List (List (Span InlinedCall))) (records sorted : List InlineRecord)
    → records ≡ inline_records_from 0 levels → sorted ≡ in_order before records
    → All (λ inlined. P inlined.span) sorted → All (All P) levels
spans_hold P before levels records sorted made ordered all =
    levels_hold P 0 levels
    (subst (AllByRecursion (λ inlined. P inlined.span)) made
    (order_holds (λ inlined. P inlined.span) before records
    (recursion_from_All (λ inlined. P inlined.span) (in_order before records)
    (subst (All (λ inlined. P inlined.span)) ordered all))))
