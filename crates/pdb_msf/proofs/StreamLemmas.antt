-- Stretches of a list that follow one another.
use Rattle.std.proofs.Common.{◌≡◌, ℕ, ◌+◌, ◌-◌, ◌≤◌, List, ◌++◌, take, drop, append_assoc, arith}
use Rattle.std.proofs.Math.Seq.{take-add}
use Rattle.std.proofs.lemmas.List.{drop-drop}

-- so many bytes of a file, and the block behind them, are these bytes with the block
pub run_longer : (start count size : ℕ) (file rest : List ℕ)
    → take count (drop start file) ++ (take size (drop (start + count) file) ++ rest)
    ≡ take (count + size) (drop start file) ++ rest
run_longer start count size file rest = simp (take-add, drop-drop, append_assoc)

-- bytes of a file that follow one another, and the block behind them, are these bytes with the block
pub grown : (from to size : ℕ) (file rest : List ℕ) → from ≤ to
    → take (to - from) (drop from file) ++ (take size (drop to file) ++ rest) ≡ take (to + size - from)
    (drop from file) ++ rest
grown from to size file rest below =
    let at : from + (to - from) ≡ to = omega arith in
    let more : to + size - from ≡ (to - from) + size = omega arith in
    rw more (rw at at (run_longer from (to - from) size file rest))
