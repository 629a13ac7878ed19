-- Parses a JSON value as a request: jobs, each with the entries of its memory map and its stacks; or the first fault.
use Rattle.std.specs.Prelude.{ℕ, zero, ◌+◌, ℤ, pos, negsuc, List, [], ◌∷◌, Bool, ◌&&◌, ◌||◌, not, nat_lt, length, map}
use Rattle.std.specs.Prelude.{Option, Some, None, Result, Ok, Err, is_some, unwrap_or, decimal, codes, string_bytes}
use Rattle.std.specs.Prelude.{if◌then◌else◌}
use Rattle.std.specs.Str.{is_utf8}
use Rattle.serde_json.specs.Data.{Data, null, Items, no_items, item}
use Rattle.serde_json.specs.Find.{get}
use Rattle.serde_json.specs.Read.{read}
use Rattle.pdb_json_values.specs.RecordFault.{Fault, not_json, shape, read_inside, ◌>>=◌}
use Rattle.pdb_json_values.specs.JsonNumbers.{i64_of, u64_of}
use Rattle.pdb_json_values.specs.Values.{array_of, object_of, text_of, wanted}
use Rattle.pdb_symbolication.specs.declared.requests.FrameModule.{FrameModule}
use Rattle.pdb_symbolication.specs.declared.requests.FrameModule.TheVariants.{Unknown, At}
use Rattle.pdb_symbolication.specs.declared.requests.Job.{Job}
use Rattle.pdb_symbolication.specs.declared.requests.MemoryMapEntry.{MemoryMapEntry}
use Rattle.pdb_symbolication.specs.declared.requests.SymbolicationRequest.{SymbolicationRequest}
use Rattle.pdb_symbolication.specs.declared.requests.Stack.{Stack}
use Rattle.pdb_symbolication.specs.declared.requests.StackFrame.{StackFrame}

-- an entry of a memory map, by its texts
pub record EntryValue : Type 0 where
  pub name : List ℕ
  pub debug_id : List ℕ

-- a job: the entries of its memory map, and the frames of each stack
pub record JobValue : Type 0 where
  pub memory_map : List EntryValue
  pub stacks : List (List StackFrame)

-- the model of an entry of a memory map: its texts
abbrev pub entry_seen : MemoryMapEntry → EntryValue
entry_seen entry = record { name = string_bytes entry.name; debug_id = string_bytes entry.debug_id }

-- the model of a stack: its frames
abbrev pub stack_seen : Stack → List StackFrame
stack_seen stack = stack.frames.items

-- the model of a job: its entries and its frames
abbrev pub job_seen : Job → JobValue
job_seen job = record {
  memory_map = map entry_seen job.memory_map.items;
  stacks = map stack_seen job.stacks.items;
}

-- the model of a request: its jobs
abbrev pub request_seen : SymbolicationRequest → List JobValue
request_seen request = map job_seen request.jobs.items

-- whether an object has a member of this name, whatever its value
abbrev pub has : List ℕ → Data → Bool
has name d = is_some (get name d)

module _ {X : Type 0} where
  -- parses the member of an object with this name; an absent member is parsed as null
  abbrev pub member_of : List ℕ → (Data → Result X Fault) → Data → Result X Fault
  member_of name one d = read_inside name (one (unwrap_or (get name d) null))

  -- parses each element; `number` is that of the first
  abbrev pub elements_from : ℕ → (Data → Result X Fault) → Items → Result (List X) Fault
  elements_from number one no_items = Ok []
  elements_from number one (item d ds) = do
    x ← read_inside (decimal number) (one d)
    xs ← elements_from (number + 1) one ds
    Ok (x ∷ xs)

  -- parses each element of an array, numbered from 0
  abbrev pub elements_of : (Data → Result X Fault) → Data → Result (List X) Fault
  elements_of one d = do
    ds ← array_of d
    elements_from 0 one ds

-- the two elements of an array that has no others
abbrev pub two_of : Items → Option (Data × Data)
two_of (item first (item second no_items)) = Some (first, second)
two_of other = None

-- the elements of an array of two
unfoldable pub pair_of : List ℕ → Data → Result (Data × Data) Fault
pair_of sort d = do
  elements ← array_of d
  wanted sort (two_of elements)

-- an entry of a memory map: an array of two texts, the name and the debug id
unfoldable pub entry_of : Data → Result EntryValue Fault
entry_of d = do
  pair ← pair_of (codes "name and debug id") d
  name ← read_inside (decimal 0) (text_of pair.0)
  debug_id ← read_inside (decimal 1) (text_of pair.1)
  Ok (record { name = name; debug_id = debug_id })

-- the module of a frame by an index of the memory map, which has `count` entries; -1 means an unknown module
abbrev pub module_at : ℕ → ℤ → Option FrameModule
module_at count (pos index) = if nat_lt index count then Some (At index) else None
module_at count (negsuc zero) = Some Unknown
module_at count (negsuc below) = None

-- parses the module of a frame
unfoldable pub module_of : ℕ → Data → Result FrameModule Fault
module_of count d = do
  index ← i64_of d
  wanted (codes "index of memoryMap, or -1") (module_at count index)

-- parses a frame: an array of two numbers, the index of its module and a nonnegative offset there
unfoldable pub frame_of : ℕ → Data → Result StackFrame Fault
frame_of count d = do
  pair ← pair_of (codes "index of a module and offset") d
  one ← read_inside (decimal 0) (module_of count pair.0)
  offset ← read_inside (decimal 1) (u64_of pair.1)
  Ok (record { «module» = one; offset = offset })

-- a stack: an array of its frames
unfoldable pub stack_of : ℕ → Data → Result (List StackFrame) Fault
stack_of count d = elements_of (frame_of count) d

-- stacks, as an array of them
unfoldable pub stacks_of : ℕ → Data → Result (List (List StackFrame)) Fault
stacks_of count d = elements_of (stack_of count) d

-- a memory map: an array of its entries
unfoldable pub memory_map_of : Data → Result (List EntryValue) Fault
memory_map_of d = elements_of entry_of d

-- a job: an object whose members are its memory map and its stacks, which name entries of that
unfoldable pub job_of : Data → Result JobValue Fault
job_of d = do
  job ← object_of d
  entries ← member_of (codes "memoryMap") memory_map_of job
  stacks ← member_of (codes "stacks") (stacks_of (length entries)) job
  Ok (record { memory_map = entries; stacks = stacks })

-- jobs, as an array of them
unfoldable pub jobs_of : Data → Result (List JobValue) Fault
jobs_of d = elements_of job_of d

-- a request that is one job
unfoldable pub one_job : Data → Result (List JobValue) Fault
one_job d = do
  job ← job_of d
  Ok (job ∷ [])

-- whether an object is a job: it has one of the members of a job, and none with the name `jobs`
abbrev pub is_job : Data → Bool
is_job d = not (has (codes "jobs") d) && (has (codes "memoryMap") d || has (codes "stacks") d)

-- a request: an object with its jobs, or one job by itself
unfoldable pub request_of : Data → Result (List JobValue) Fault
request_of d = do
  request ← object_of d
  if is_job request then one_job request else member_of (codes "jobs") jobs_of request

-- parses an optional value as a request
abbrev pub request_in : Option Data → Result (List JobValue) Fault
request_in None = Err not_json
request_in (Some d) = request_of d

-- parses bytes as a request; they must be UTF-8 and a JSON text
unfoldable pub request_of_text : List ℕ → Result (List JobValue) Fault
request_of_text bytes = request_in (if is_utf8 bytes then read bytes else None)
