-- What is written, and the records of the names that are left, are all that was to be written.
use Rattle.std.proofs.Common.{◌≡◌, ◌++◌, drop, string_bytes}
use Rattle.pdb_breakpad.specs.NameRecords.{keyword, name_records}
use Rattle.pdb_breakpad.proofs.record_numbers.NumberedNames.push_records.Given as goal

abbrev pub invariant-loop-number : goal.invariant-loop-number
invariant-loop-number l =
    string_bytes l.text ++ name_records (keyword l.kind) l.number (drop l.number l.self)
    ≡ string_bytes l.initial.text ++ name_records (keyword l.kind) 0 l.self
