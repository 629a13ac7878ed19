-- Levels of inlined calls.
use Rattle.std.proofs.Common.{◌≡◌, ◌∙◌, ℕ, suc, ◌+◌, ◌≤◌, ◌<◌, List, [], ◌∷◌, ◌++◌, Option, Some, None, length}
use Rattle.std.proofs.Common.{slice_get, get_or, drop, map, refl, sym, ap, inl, inr, arith, add-one, drop-cons}
use Rattle.std.proofs.Common.{append_assoc}
use Rattle.std.specs.Option.{IfSome, option_and_then}
use Rattle.std.proofs.lemmas.Bool.{cases_lt}
use Rattle.std.proofs.lemmas.Option.{slice_get_past}
use Rattle.pdb_breakpad.specs.declared.address_spans.Span.{Span}
use Rattle.pdb_breakpad.specs.declared.inline_records.InlinedCall.{InlinedCall}
use Rattle.pdb_breakpad.specs.declared.inline_records.InlineRecord.{InlineRecord}
use Rattle.pdb_breakpad.specs.AddressSpans.{EndBefore, content_at}
use Rattle.pdb_breakpad.specs.FunctionTexts.{inline_records_from}
use Rattle.pdb_breakpad.specs.InlineRecords.{call_at, calls_at, with_inner, LevelEndsBefore}
use Rattle.pdb_breakpad.proofs.AddressSpanLemmas.{nothing_past}

-- a level whose calls end before a piece has none at its addresses
none_past : (a first : ℕ) (found : Option (List (Span InlinedCall))) → first ≤ a → IfSome found (EndBefore first)
    → option_and_then (content_at a) found ≡ None
none_past a first None from before = refl
none_past a first (Some spans) from before = nothing_past a first spans from before

-- where the levels up to the calls have these, and all others are as before and end before the piece, the calls are
-- these at each level
pub calls_at_all_levels : (a first count : ℕ) (old new : List (List (Span InlinedCall))) (calls : List InlinedCall)
    → first ≤ a → length calls ≤ count
    → ((level : ℕ) → level < count → call_at a new level ≡ slice_get calls level)
    → ((level : ℕ) → count ≤ level → slice_get new level ≡ slice_get old level)
    → ((level : ℕ) → LevelEndsBefore first old level)
    → (level : ℕ) → call_at a new level ≡ slice_get calls level
calls_at_all_levels a first count old new calls from all done rest before level =
    elim (cases_lt level count) [
      | inl below ↦ done level below
      | inr past ↦
          ap (option_and_then (content_at a)) (rest level past)
          ∙ none_past a first (slice_get old level) from (before level)
          ∙ sym (slice_get_past calls level (omega (arith, all, past)))
    ]

-- where each level has the call of a list, or none, the calls from outside to inside are this list
pub calls_of_levels : (address : ℕ) (levels : List (List (Span InlinedCall))) (calls : List InlinedCall)
    → ((level : ℕ) → call_at address levels level ≡ slice_get calls level) → calls_at address levels ≡ calls
calls_of_levels address [] [] is = refl
calls_of_levels address [] (call ∷ calls) is = let outermost = is 0 in cc
calls_of_levels address (spans ∷ levels) [] is =
    ap (λ first. with_inner first (calls_at address levels)) (is 0)
calls_of_levels address (spans ∷ levels) (call ∷ calls) is =
    ap (λ first. with_inner first (calls_at address levels)) (is 0)
    ∙ ap (λ inner. call ∷ inner) (calls_of_levels address levels calls (λ level. is (suc level)))

-- where each level has the same call in two lists of levels, so are the calls from outside to inside
pub same_calls : (address : ℕ) (new old : List (List (Span InlinedCall)))
    → ((level : ℕ) → call_at address new level ≡ call_at address old level)
    → calls_at address new ≡ calls_at address old
same_calls address [] [] is = refl
same_calls address [] (spans ∷ old) is =
    sym (ap (λ first. with_inner first (calls_at address old)) (sym (is 0)))
same_calls address (spans ∷ new) [] is = ap (λ first. with_inner first (calls_at address new)) (is 0)
same_calls address (spans ∷ new) (others ∷ old) is =
    ap (λ first. with_inner first (calls_at address new)) (is 0)
    ∙ ap (λ inner. with_inner (content_at address others) inner)
    (same_calls address new old (λ level. is (suc level)))

-- an empty list has nothing at any place
nothing_in_none : (level : ℕ) → slice_get {X = InlinedCall} [] level ≡ None
nothing_in_none level = slice_get_past [] level (omega arith)

-- where all levels end before a piece, there are no calls at its addresses
pub no_calls_past : (a first : ℕ) (levels : List (List (Span InlinedCall))) → first ≤ a
    → ((level : ℕ) → LevelEndsBefore first levels level) → calls_at a levels ≡ []
no_calls_past a first levels from before =
    calls_of_levels a levels []
    (λ level. none_past a first (slice_get levels level) from (before level) ∙ sym (nothing_in_none level))

-- what is known past all records
pub ruleset past = (no_calls_past, nothing_past)

-- the records so far, and those of the levels that are left, are all once those of the next level are added
pub one_level_more : (level : ℕ) (levels : List (List (Span InlinedCall))) (spans : List (Span InlinedCall))
    (records more all : List InlineRecord) → level < length levels → spans ≡ get_or levels level spans
    → more ≡ records ++ map (λ span. record { level = level; span = span }) spans
    → records ++ inline_records_from level (drop level levels) ≡ all
    → more ++ inline_records_from (level + 1) (drop (level + 1) levels) ≡ all
one_level_more level levels spans records more all below is pushed before =
    let next : drop level levels ≡ spans ∷ drop (level + 1) levels
    = rw (add-one, drop-cons levels level spans below) (ap (λ first. first ∷ drop (suc level) levels) (sym is)) in
    let own : List InlineRecord = map (λ span. record { level = level; span = span }) spans in
    ap (λ list. list ++ inline_records_from (level + 1) (drop (level + 1) levels)) pushed
    ∙ append_assoc records own (inline_records_from (level + 1) (drop (level + 1) levels))
    ∙ ap (λ rest. records ++ inline_records_from level rest) (sym next) ∙ before
