-- The entries of all subsections are those that were made, and those of the ones that are left; the procedures are those of
-- all from there on.
use Rattle.std.proofs.Common.{◌≡◌, ◌≤◌, ℕ, ◌++◌, length}
use Rattle.pdb_codeview.specs.LineProgram.{entries_of}
use Rattle.pdb_codeview.specs.Places.{place, from_last}
use Rattle.pdb_codeview.proofs.line_program.entries_of.Given as goal

abbrev pub invariant-loop-rest : goal.invariant-loop-rest
invariant-loop-rest l = record {
  entries : entries_of l.procedures l.subsections ≡ l.entries.items ++ entries_of l.procedures l.rest;
  onward : (y : ℕ) → l.asked ≤ y
      → from_last (λ b. place b.start) y l.here ≡ from_last (λ b. place b.start) y l.procedures;
}

abbrev pub decreases-loop-rest : goal.decreases-loop-rest
decreases-loop-rest l = length l.rest
