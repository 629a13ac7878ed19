-- The records of a module's code, apart from its procedures.
use Rattle.std.specs.Prelude.{List, [], Result, Ok, fold}
use Rattle.std.specs.BTreeSet.{insert_key}
use Rattle.std.specs.Ordering.{nat_cmp}
use Rattle.std.specs.declared.cmp.Ordering.{Ordering}
use Rattle.pdb_records.specs.LinePrograms.{Lines}
use Rattle.pdb_records.specs.declared.ids.IdIndex.{IdIndex}
use Rattle.pdb_records.specs.declared.modules.Inlinee.{Inlinee}
use Rattle.pdb_records.specs.declared.modules.ModuleInfo.{ModuleInfo}
use Rattle.pdb_errors.specs.Outcomes.{and_then, streamed}
use Rattle.pdb_errors.specs.declared.error.Error.{Error}
use Rattle.pdb_frames.specs.Lines.{read_whole}
use Rattle.pdb_frames.specs.declared.extended_info.ExtendedModuleInfo.{ExtendedModuleInfo}

-- a module's line program, and the ids of the functions that are inlined in its code
pub record ExtendedInfo : Type 0 where
  pub line_program : Lines
  pub inlinees : List IdIndex

-- the model of `ExtendedModuleInfo`
abbrev pub extended_info_view : ExtendedModuleInfo → ExtendedInfo
extended_info_view e = record { line_program = e.line_program.now; inlinees = e.inlinees.keys }

-- the order of ids: by their numbers
abbrev pub id_cmp : IdIndex → IdIndex → Ordering
id_cmp a b = nat_cmp a.0 b.0

-- the ids of these functions, each once and in order
abbrev pub inlinee_ids : List Inlinee → List IdIndex
inlinee_ids inlinees = fold (λ ids inlinee. insert_key id_cmp ids inlinee.index) [] inlinees

-- the records of a module's code; an error for an unreadable line program, or for a fault of the list of inlinees
abbrev pub extended_info : ModuleInfo → Result ExtendedInfo Error
extended_info info =
    and_then (streamed info.line_program) (λ line_program.
    and_then (read_whole info.inlinees) (λ inlinees.
    Ok (record { line_program = line_program; inlinees = inlinee_ids inlinees })))
