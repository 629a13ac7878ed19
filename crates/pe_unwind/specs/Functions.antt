-- The functions of the exception directory, with their unwind infos and their code, and the rules at each offset.
use Rattle.std.specs.Prelude.{ℕ, ◌-◌, ◌==◌, ◌||◌, ◌&&◌, Bool, nat_le, nat_lt, List, drop, take, length}
use Rattle.std.specs.Prelude.{Option, None}
use Rattle.std.specs.Prelude.{Result, Ok, Err, is_none, is_ok, is_some, unwrap_or, if◌then◌else◌}
use Rattle.std.specs.Borrow.{Bor}
use Rattle.pe_image.specs.Image.{Program, bytes_from}
use Rattle.pe_image.specs.declared.exception_directory.FunctionEntry.{FunctionEntry}
use Rattle.pe_unwind.specs.Epilogues.{epilogue_rules}
use Rattle.pe_unwind.specs.UnwindErrors.{◌>>=◌}
use Rattle.pe_unwind.specs.ListedEpilogues.{listed_rules}
use Rattle.pe_unwind.specs.Rules.{Function, body_rules, prologue_offset}
use Rattle.pe_unwind.specs.UnwindInfo.{info_at, parents_of}
use Rattle.pe_unwind.specs.declared.unwind_errors.EntryError.{EntryError}
use Rattle.pe_unwind.specs.declared.unwind_errors.EntryError.TheVariants.{Empty, OutsideOfImage, Overlapping}
use Rattle.pe_unwind.specs.declared.rules.Rules.{Rules}

-- the code of a function. It must begin at or after the address up to which the functions before it reach, must not be
-- empty, and the image must have all its bytes
abbrev pub code_of : Program → ℕ → FunctionEntry → Result (List ℕ) EntryError
code_of program reach entry =
    if nat_le entry.end entry.begin then Err Empty else
    if nat_lt (length (bytes_from program entry.begin)) (entry.end - entry.begin) then Err OutsideOfImage else
    if nat_lt entry.begin reach then Err Overlapping else
    Ok (take (entry.end - entry.begin) (bytes_from program entry.begin))

-- the code in a result, as bytes
abbrev pub code_seen : Result (Bor (List ℕ)) EntryError → Result (List ℕ) EntryError
code_seen (Ok code) = Ok code.now
code_seen (Err refusal) = Err refusal

-- the unwind infos of a function: its own, and those to which it is chained
abbrev pub function_of : Program → FunctionEntry → Result Function EntryError
function_of program entry = do
  own ← info_at program entry.info
  parents ← parents_of program own.parent
  Ok (record { begin = entry.begin; end = entry.end; own = own; parents = parents })

-- whether an epilogue that isn't listed can be at an offset: after the prologue, and anywhere if the info is chained
abbrev pub may_leave : Function → ℕ → Bool
may_leave function offset = is_none (prologue_offset function.own offset) || is_some function.own.parent

-- the rules in an epilogue, by the function's code: an info of version 2 lists its epilogues, and those of version 1
-- are found in their code
abbrev pub epilogue_at : Function → List ℕ → ℕ → Option Rules
epilogue_at function code offset =
    if function.own.version == 2 then listed_rules function offset else
    if may_leave function offset then epilogue_rules function (drop offset code) else None

-- the rules at an offset of a function: those of its epilogue if it is in one, otherwise those of the unwind infos
unfoldable pub rule_at : Function → List ℕ → ℕ → Rules
rule_at function code offset =
    unwrap_or (epilogue_at function code offset) (body_rules function (prologue_offset function.own offset))

-- whether a function's rules at an offset are those of its body: the offset is after the prologue, and in no epilogue
abbrev pub is_plain : Function → List ℕ → ℕ → Bool
is_plain function code offset =
    is_none (prologue_offset function.own offset) && is_none (epilogue_at function code offset)

-- a function with its code
pub record FunctionCode : Type 0 where
  pub function : Function
  pub code : List ℕ

-- the function of an entry with its code, after functions that reach up to an address
abbrev pub function_at : Program → ℕ → FunctionEntry → Result FunctionCode EntryError
function_at program reach entry = do
  code ← code_of program reach entry
  function ← function_of program entry
  Ok (record { function = function; code = code })

-- the address up to which functions reach after an entry: the end of this one, if its code isn't refused
abbrev pub reach_behind : Program → ℕ → FunctionEntry → ℕ
reach_behind program reach entry = if is_ok (code_of program reach entry) then entry.end else reach
