-- The levels so far have the calls over the piece, and all others are as they were.
use Rattle.std.proofs.Common.{◌≡◌, ℕ, ◌+◌, ◌≤◌, ◌<◌, length, slice_get}
use Rattle.pdb_breakpad.specs.InlineRecords.{call_at, LevelEndsBefore}
use Rattle.pdb_breakpad.proofs.inline_records.InlineRecords.add.Given as goal

abbrev pub invariant-loop-level : goal.invariant-loop-level
invariant-loop-level l =
    (l.level ≤ length l.self)
    × ((a level : ℕ) → l.piece.first ≤ a → a ≤ l.piece.last → level < l.level
    → call_at a l.self level ≡ slice_get l.calls level)
    × ((level : ℕ) → l.level ≤ level → slice_get l.self level ≡ slice_get l.initial.self level)
    × ((a level : ℕ) → a < l.piece.first → call_at a l.self level ≡ call_at a l.initial.self level)
    × ((level : ℕ) → level < l.level → LevelEndsBefore (l.piece.last + 1) l.self level)
