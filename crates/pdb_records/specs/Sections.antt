-- The headers of the sections.
use Rattle.std.specs.Prelude.{List, Option, Result, Ok, Err, Vec, option_map}
use Rattle.std.specs.declared.alloc.Global.{Global}
use Rattle.pdb_records.specs.declared.error.StreamError.{StreamError}
use Rattle.pdb_records.specs.declared.addresses.ImageSectionHeader.{ImageSectionHeader}

-- the stream's list, if it was read and holds one
abbrev pub listed : Result (Option (Vec ImageSectionHeader Global)) StreamError
    → Result (Option (List ImageSectionHeader)) StreamError
listed (Ok sections) = Ok (option_map (λ v. v.items) sections)
listed (Err fault) = Err fault
