-- What is asked for once the first line was passed.
use Rattle.std.proofs.Common.{◌≡◌, refl, ℕ, ◌+◌, ◌<◌, ◌≤◌, List, [], ◌∷◌, drop, length, arith, length-drop}
use Rattle.std.proofs.Common.{Option, Some, None}
use Rattle.std.proofs.lemmas.List.{drop-drop}
use Rattle.std.specs.Global.{Global}
use Rattle.std.specs.Prelude.{IfSome, String}
use Rattle.pdb_symbolizer_lib.specs.InputLines.{asked_in_turn, asked_lines}

-- what is asked for after the first of some lines
behind_first : (lines : List (String Global)) (rest : Option (List ℕ)) → 1 < length lines
    → IfSome (asked_in_turn lines rest) (λ all. asked_in_turn (drop 1 lines) rest ≡ Some (drop 1 all))
behind_first [] rest more = absurd (omega arith)
behind_first (line ∷ []) rest more = absurd (omega arith)
behind_first (line ∷ next ∷ lines) None more = tt
behind_first (line ∷ next ∷ lines) (Some bytes) more = refl

-- what is asked for after the last line that was read is what is read next
behind_last : (lines others : List (String Global)) (rest after : Option (List ℕ)) → length lines ≤ 1
    → IfSome rest (λ bytes. asked_in_turn others after ≡ Some (asked_lines bytes))
    → IfSome (asked_in_turn lines rest) (λ all. asked_in_turn others after ≡ Some (drop 1 all))
behind_last [] others None after few filled = tt
behind_last [] others (Some []) after few filled = filled
behind_last [] others (Some (byte ∷ bytes)) after few filled = tt
behind_last (line ∷ []) others None after few filled = tt
behind_last (line ∷ []) others (Some bytes) after few filled = filled
behind_last (line ∷ next ∷ lines) others rest after few filled = absurd (omega arith)

-- where a line is ready after the first, it is the next
pub passes_to_ready : (lines : List (String Global)) (place next : ℕ) (rest : Option (List ℕ)) → next ≡ place + 1
    → next < length lines
    → IfSome (asked_in_turn (drop place lines) rest) (λ all. asked_in_turn (drop next lines) rest ≡ Some (drop 1 all))
passes_to_ready lines place next rest is more =
    let two : 1 < length (drop place lines) = omega (arith, length-drop place lines) in
    rw (is, ← drop-drop 1 place lines) (behind_first (drop place lines) rest two)

-- where none is ready after the first, the lines that are read next are what is asked for
pub passes_to_read : (lines others : List (String Global)) (place : ℕ) (rest after : Option (List ℕ))
    → length lines ≤ place + 1 → IfSome rest (λ bytes. asked_in_turn others after ≡ Some (asked_lines bytes))
    → IfSome (asked_in_turn (drop place lines) rest) (λ all. asked_in_turn others after ≡ Some (drop 1 all))
passes_to_read lines others place rest after few filled =
    let one : length (drop place lines) ≤ 1 = omega (arith, length-drop place lines) in
    behind_last (drop place lines) others rest after one filled
