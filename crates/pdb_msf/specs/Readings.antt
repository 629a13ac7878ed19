-- Lists that end early: the items that were read, and the fault that ended them.
use Rattle.std.specs.Prelude.{List, [], ◌++◌, Option, Some, None, Result, Ok, Err}
use Rattle.std.specs.Option.{option_or}
use Rattle.pdb_records.specs.Readings.{Read}
use Rattle.pdb_records.specs.declared.error.StreamError.{StreamError}

-- an empty list, with this fault
abbrev pub nothing_read : {A : Type 0} → Option StreamError → Read A
nothing_read fault = record { items = []; fault = fault }

-- these items, followed by a list with its fault
abbrev pub behind : {A : Type 0} → List A → Read A → Read A
behind items rest = record { items = items ++ rest.items; fault = rest.fault }

-- a list whose bytes end early with a fault: the list's own fault comes first
abbrev pub with_fault : {A : Type 0} → Option StreamError → Read A → Read A
with_fault fault list = record { items = list.items; fault = option_or list.fault fault }

-- the items if there is no fault, otherwise the fault
abbrev pub all_or_fault : {A : Type 0} → Option StreamError → List A → Result (List A) StreamError
all_or_fault None items = Ok items
all_or_fault (Some fault) items = Err fault

-- a list that counts as broken as soon as it has a fault
abbrev pub whole : {A : Type 0} → Read A → Result (List A) StreamError
whole list = all_or_fault list.fault list.items
