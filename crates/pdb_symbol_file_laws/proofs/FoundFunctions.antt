-- The function that a reader finds over an address is the one over it.
use Rattle.std.proofs.Common.{◌≡◌, ◌∙◌, ℕ, ◌+◌, ◌≤◌, Bool, true, false, not, nat_lt, ◌&&◌, List, [], ◌∷◌}
use Rattle.std.proofs.Common.{refl, ap, arith, flat_map, Option, Some, None, if◌then◌else◌}
use Rattle.std.proofs.Common.{ltb-false, lt-ltb, le-ltb}
use Rattle.pdb_breakpad.specs.RecordTypes.{FunctionRecords}
use Rattle.pdb_breakpad.specs.FunctionWalk.{StandBetween, function_over, is_over}
use Rattle.pdb_symbol_file_laws.proofs.FunctionLookups.{lies_before, found_of, one_found, takes}
use Rattle.pdb_symbol_file_laws.specs.RecordReader.{FunctionMatch, function_at}
use Rattle.pdb_symbol_file_laws.specs.SymbolFileRecords.{function_read}
use Rattle.pdb_symbol_file_laws.specs.TextAnswers.{NoneOpen, begins_by}

-- an address that a function is over lies from its start up to its last
over_means : (start last address : ℕ) → (not (nat_lt address start) && not (nat_lt last address)) ≡ true
    → (start ≤ address) × (address ≤ last)
over_means start last address is = by (nat_lt address start) (nat_lt last address) refl refl is
  where
    by : (t u : Bool) → nat_lt address start ≡ t → nat_lt last address ≡ u → (not t && not u) ≡ true
        → (start ≤ address) × (address ≤ last)
    by false false e f both = (ltb-false address start e, ltb-false last address f)
    by false true e f both = absurd (cc both)
    by true u e f both = absurd (cc both)

-- no test passes together with one that fails
and_false : (t : Bool) → (t && false) ≡ false
and_false true = refl
and_false false = refl

-- a function over an address stands after where all of them begin
begins_in : (address from to : ℕ) (functions : List FunctionRecords) (records : FunctionRecords)
    → StandBetween from to functions → function_over address functions ≡ Some records → from ≤ address
begins_in address from to [] records order found = absurd (cc found)
begins_in address from to (first ∷ functions) records order found =
    by (is_over address first) refl found (λ e. begins_in address (first.last + 1) to functions records order.1.1 e)
  where
    by : (t : Bool) → is_over address first ≡ t
        → (if t then Some first else function_over address functions) ≡ Some records
        → (function_over address functions ≡ Some records → first.last + 1 ≤ address) → from ≤ address
    by true e here rest = omega (arith, (over_means first.start first.last address e).0, order.0)
    by false e there rest = omega (arith, rest there, order.0, order.1.0)

-- a function over an address is taken for one
is_taken : (end : Option ℕ) (address to : ℕ) (first : FunctionRecords) (functions : List FunctionRecords)
    → StandBetween (first.last + 1) to functions → is_over address first ≡ true
    → takes end address first functions ≡ true
is_taken (Some end) address to first functions order over = over
is_taken None address to first [] order over =
    let facts = over_means first.start first.last address over in
    ap (λ t. not t && true) (le-ltb address first.start facts.0)
is_taken None address to first (second ∷ functions) order over =
    let facts = over_means first.start first.last address over in
    ap (λ t. not t && nat_lt address second.start) (le-ltb address first.start facts.0)
    ∙ lt-ltb address second.start (omega (arith, facts.1, order.0))

-- one in front of the function over an address isn't
is_not_taken : (end : Option ℕ) (address to : ℕ) (first records : FunctionRecords) (functions : List FunctionRecords)
    → StandBetween (first.last + 1) to functions → is_over address first ≡ false
    → function_over address functions ≡ Some records → takes end address first functions ≡ false
is_not_taken (Some end) address to first records functions order over found = over
is_not_taken None address to first records [] order over found = absurd (cc found)
is_not_taken None address to first records (second ∷ functions) order over found =
    ap (λ t. not (nat_lt address first.start) && t)
    (le-ltb address second.start
    (begins_in address second.start to (second ∷ functions) records (omega arith, order.1) found))
    ∙ and_false (not (nat_lt address first.start))

-- a reader finds the function over an address
pub function_found : (address from to : ℕ) (functions : List FunctionRecords) (records : FunctionRecords)
    → StandBetween from to functions → function_over address functions ≡ Some records
    → function_at address (flat_map function_read functions) ≡ Some (found_of records)
function_found address from to [] records order found = absurd (cc found)
function_found address from to (first ∷ functions) records order found =
    one_found first.found.end_rva address first functions order.1.0
    ∙ by (is_over address first) refl found
    (λ e. function_found address (first.last + 1) to functions records order.1.1 e)
  where
    others : Option FunctionMatch
    others = function_at address (flat_map function_read functions)

    by : (t : Bool) → is_over address first ≡ t
        → (if t then Some first else function_over address functions) ≡ Some records
        → (function_over address functions ≡ Some records → others ≡ Some (found_of records))
        → (if takes first.found.end_rva address first functions then Some (found_of first) else others)
        ≡ Some (found_of records)
    by true e here rest =
        ap (λ t. if t then Some (found_of first) else others)
        (is_taken first.found.end_rva address to first functions order.1.1 e)
        ∙ (let same : first ≡ records = cc here in ap (λ f. Some (found_of f)) same)
    by false e there rest =
        ap (λ t. if t then Some (found_of first) else others)
        (is_not_taken first.found.end_rva address to first records functions order.1.1 e there)
        ∙ rest there

-- whether an address lies before the first of some functions, or that begins there or before
first_or_not : (address : ℕ) (functions : List FunctionRecords) → begins_by address functions ≡ true
    → lies_before address functions ≡ false
first_or_not address [] begins = absurd (cc begins)
first_or_not address (first ∷ functions) begins = by (nat_lt address first.start) begins
  where
    by : (t : Bool) → not t ≡ true → t ≡ false
    by false e = refl
    by true e = absurd (cc e)

-- a function that isn't over an address isn't taken for one, if it isn't open there
is_passed : (end : Option ℕ) (address : ℕ) (first : FunctionRecords) (functions : List FunctionRecords)
    → is_over address first ≡ false → (end ≡ None → first.start ≤ address → begins_by address functions ≡ true)
    → takes end address first functions ≡ false
is_passed (Some end) address first functions over closed = over
is_passed None address first functions over closed = by (nat_lt address first.start) refl
  where
    by : (t : Bool) → nat_lt address first.start ≡ t → (not t && lies_before address functions) ≡ false
    by true e = refl
    by false e = first_or_not address functions (closed refl (ltb-false address first.start e))

-- a reader finds no function where none is over an address, and none is open
pub none_found : (address from to : ℕ) (functions : List FunctionRecords) → StandBetween from to functions
    → NoneOpen address functions → function_over address functions ≡ None
    → function_at address (flat_map function_read functions) ≡ None
none_found address from to [] order closed none = refl
none_found address from to (first ∷ functions) order closed none =
    one_found first.found.end_rva address first functions order.1.0
    ∙ by (is_over address first) refl none (none_found address (first.last + 1) to functions order.1.1 closed.1)
  where
    others : Option FunctionMatch
    others = function_at address (flat_map function_read functions)

    by : (t : Bool) → is_over address first ≡ t → (if t then Some first else function_over address functions) ≡ None
        → (function_over address functions ≡ None → others ≡ None)
        → (if takes first.found.end_rva address first functions then Some (found_of first) else others) ≡ None
    by true e here rest = absurd (cc here)
    by false e there rest =
        ap (λ t. if t then Some (found_of first) else others)
        (is_passed first.found.end_rva address first functions e closed.0) ∙ rest there
