-- Ids: the fields of each kind that is read. Offsets count from after the kind.
use Rattle.std.specs.Prelude.{ℕ, ◌==◌, nat_lt, List, [], drop, length, codes, Option, Some, None, Result, Ok, Err}
use Rattle.std.specs.Prelude.{if◌then◌else◌}
use Rattle.pdb_records.specs.declared.error.Error.{Error}
use Rattle.pdb_records.specs.declared.error.StreamError.{StreamError}
use Rattle.pdb_records.specs.declared.ids.IdData.{IdData}
use Rattle.pdb_records.specs.declared.ids.IdData.TheVariants as id
use Rattle.pdb_records.specs.declared.ids.IdIndex.{IdIndex}
use Rattle.pdb_records.specs.declared.types.ItemInformation.{ItemInformation}
use Rattle.pdb_msf.specs.declared.faults.TheConstants.{CUT}
use Rattle.pdb_msf.specs.Faults.{◌>>=◌}
use Rattle.pdb_msf.specs.NumberLists.{number}
use Rattle.pdb_msf.specs.Readings.{nothing_read}
use Rattle.pdb_tpi.specs.declared.id_leaves.IdKind.{IdKind}
use Rattle.pdb_tpi.specs.declared.id_leaves.IdKind.TheVariants as leaf
use Rattle.pdb_tpi.specs.Contents.{content_by}
use Rattle.pdb_tpi.specs.IndexLists.{index_list}
use Rattle.pdb_tpi.specs.ItemStreams.{ItemMeaning, stream_items}
use Rattle.pdb_tpi.specs.Leaves.{lf_buildinfo, lf_func_id, lf_mfunc_id, lf_string_id, lf_substr_list}
use Rattle.pdb_tpi.specs.Leaves.{lf_udt_mod_src_line, lf_udt_src_line}
use Rattle.pdb_tpi.specs.TypeNames.{name_in}

-- the kind of an id that has a name in the records, by its leaf
abbrev pub id_kind : ℕ → Option IdKind
id_kind number =
    if number == lf_func_id then Some leaf.Function else
    if number == lf_mfunc_id then Some leaf.MemberFunction else
    if number == lf_buildinfo then Some leaf.BuildInfo else
    if number == lf_substr_list then Some leaf.StringList else
    if number == lf_string_id then Some leaf.String else
    if number == lf_udt_src_line then Some leaf.UserDefinedTypeSource else
    if number == lf_udt_mod_src_line then Some leaf.UserDefinedTypeSource else
    None

-- an index that names a scope: 0 names none
abbrev pub optional_scope : ℕ → Option IdIndex
optional_scope index = if index == 0 then None else Some (record { 0 = index })

-- LF_FUNC_ID (lfFuncId): scopeId at 0, type at 4, and name at 8
unfoldable pub function : List ℕ → Result IdData StreamError
function bytes =
    if nat_lt (length bytes) 8 then Err CUT else
    (name_in (drop 8 bytes) >>= λ name. Ok (id.Function (record {
      scope = optional_scope (number bytes);
      function_type = record { 0 = number (drop 4 bytes) };
      name = name.0;
    })))

-- LF_MFUNC_ID (lfMFuncId): parentType at 0, type at 4, and name at 8
unfoldable pub member_function : List ℕ → Result IdData StreamError
member_function bytes =
    if nat_lt (length bytes) 8 then Err CUT else
    (name_in (drop 8 bytes) >>= λ name. Ok (id.MemberFunction (record {
      parent = record { 0 = number bytes };
      function_type = record { 0 = number (drop 4 bytes) };
      name = name.0;
    })))

-- LF_SUBSTR_LIST: count, and `count` indices
unfoldable pub string_list : List ℕ → Result IdData StreamError
string_list bytes = index_list bytes >>= λ substrings. Ok (id.StringList substrings)

-- LF_STRING_ID (lfStringId): name at 4, after the id of a list of strings
unfoldable pub string : List ℕ → Result IdData StreamError
string bytes =
    if nat_lt (length bytes) 4 then Err CUT else
    (name_in (drop 4 bytes) >>= λ name. Ok (id.String (record { name = name.0 })))

-- the content of a record whose kind has a name; for two kinds it is empty
abbrev pub data_of : IdKind → List ℕ → Result IdData StreamError
data_of leaf.Function bytes = function bytes
data_of leaf.MemberFunction bytes = member_function bytes
data_of leaf.StringList bytes = string_list bytes
data_of leaf.String bytes = string bytes
data_of leaf.BuildInfo bytes = Ok (id.Other (codes "BuildInfo"))
data_of leaf.UserDefinedTypeSource bytes = Ok (id.Other (codes "UserDefinedTypeSource"))

-- the content of an id record, by its kind and the bytes after it
unfoldable pub id_data : ℕ → List ℕ → Result IdData Error
id_data = content_by id_kind data_of

-- how records are read as ids
abbrev pub ids : ItemMeaning IdIndex IdData
ids = record { index = λ number. record { 0 = number }; content = id_data; first = [] }

-- a list without ids
abbrev pub no_ids : ItemInformation IdIndex IdData
no_ids = record { items = nothing_read None }

-- the ids of a stream; none for an empty stream
abbrev pub ids_of : List ℕ → Result (ItemInformation IdIndex IdData) StreamError
ids_of stream = if length stream == 0 then Ok no_ids else stream_items ids stream
