-- Which entries of a memory map are searched for, and at which offsets.
use Rattle.std.specs.Prelude.{◌≡◌, ℕ, ◌<◌, Bool, true, false, List, slice_get, vec_len, Some, ◌==◌, length}
use Rattle.std.specs.Prelude.{Contains, IsSome, Option, None, [], map, option_map, string_bytes, unwrap_or, ◌^◌, ◌⊎◌}
use Rattle.std.specs.Prelude.{◌++◌, codes, if◌then◌else◌}
use Rattle.std.specs.List.{list_any}
use Rattle.pdb_identity.specs.DebugIds.{compact_text, debug_id_of}
use Rattle.pdb_identity.specs.declared.debug_id.DebugId.{DebugId}
use Rattle.pdb_symbolication.specs.Findings.{search_of}
use Rattle.pdb_symbolication.specs.HarmlessNames.{is_harmless}
use Rattle.pdb_symbolication.specs.RequestAnswers.{job_searches}
use Rattle.pdb_symbolication.specs.declared.named_modules.Collector.{Collector}
use Rattle.pdb_symbolication.specs.declared.requests.FrameModule.{FrameModule}
use Rattle.pdb_symbolication.specs.declared.requests.FrameModule.TheVariants.{Unknown, At}
use Rattle.pdb_symbolication.specs.declared.requests.Job.{Job}
use Rattle.pdb_symbolication.specs.declared.requests.MemoryMapEntry.{MemoryMapEntry}
use Rattle.pdb_symbolication.specs.declared.requests.SymbolicationRequest.{SymbolicationRequest}
use Rattle.pdb_symbolication.specs.declared.requests.Stack.{Stack}
use Rattle.pdb_symbolication.specs.declared.requests.StackFrame.{StackFrame}
use Rattle.pdb_symbolication.specs.declared.wanted_modules.NamedModule.{NamedModule}
use Rattle.pdb_symbolication.specs.declared.wanted_modules.Search.{Search}
use Rattle.pdb_symbolication.specs.declared.wanted_modules.Search.TheVariants.{NotAsked, Impossible, Module}
use Rattle.pdb_symbolication.specs.declared.wanted_modules.WantedModule.{WantedModule}
use Rattle.pdb_symbolication.specs.declared.wanted_modules.WantedModules.{WantedModules}

-- whether a module is the entry at this index
abbrev pub is_entry : ℕ → FrameModule → Bool
is_entry index Unknown = false
is_entry index (At other) = other == index

-- whether a frame of the stack names the entry at this index
abbrev pub stack_names : ℕ → Stack → Bool
stack_names index stack = list_any (λ frame. is_entry index frame.module) stack.frames.items

-- whether a frame of the job names the entry at this index
abbrev pub job_names : ℕ → Job → Bool
job_names index job = list_any (stack_names index) job.stacks.items

-- whether a search is made
abbrev pub is_asked : Search → Bool
is_asked NotAsked = false
is_asked Impossible = true
is_asked (Module position) = true

-- each entry of a job's memory map has a search, which is made exactly where a frame of the job names the entry
pub record AsksFor (job : Job) (searches : List Search) : Type 0 where
  pub count : length searches ≡ vec_len job.memory_map
  pub asked : (index : ℕ) → index < vec_len job.memory_map
      → is_asked (search_of searches index) ≡ job_names index job

-- the identity by which a module is searched: its name and its debug id
abbrev pub Identity : Type 0
Identity = List ℕ × DebugId

-- the text of an identity: the name, a slash and the debug id
abbrev pub identity_text : Identity → List ℕ
identity_text identity = identity.0 ++ (codes "/" ++ compact_text identity.1)

-- the identity of an entry; none if its name isn't harmless or its debug id is malformed
abbrev pub identity_of : MemoryMapEntry → Option Identity
identity_of entry =
    if is_harmless (string_bytes entry.name)
    then option_map (λ id. (string_bytes entry.name, id)) (debug_id_of (string_bytes entry.debug_id)) else None

-- a search is impossible only if the entry has no identity; one that leads to a module leads to one with this identity
abbrev pub LeadsTo : List Identity → Option Identity → Search → Type 0
LeadsTo identities wanted NotAsked = Unit {0}
LeadsTo identities wanted Impossible = wanted ≡ None
LeadsTo identities wanted (Module position) = IsSome wanted × slice_get identities position ≡ wanted

-- each search leads to a module of its entry of the memory map, or is impossible there
abbrev pub LeadToEntries : List Identity → List MemoryMapEntry → List Search → Type 0
LeadToEntries identities entries searches = (index : ℕ) (entry : MemoryMapEntry) → slice_get entries index ≡ Some entry
    → LeadsTo identities (identity_of entry) (search_of searches index)

-- identities keep their positions
abbrev pub KeepsIdentities : List Identity → List Identity → Type 0
KeepsIdentities old new =
    (position : ℕ) (one : Identity) → slice_get old position ≡ Some one → slice_get new position ≡ Some one

-- the identities of modules
abbrev pub identities_of : List WantedModule → List Identity
identities_of modules = map (λ one. (string_bytes one.name, one.debug_id)) modules

-- the identity of a module that was collected
abbrev pub named_identity : NamedModule → Identity
named_identity one = (string_bytes one.name, one.debug_id)

-- the identities of the modules that were collected
abbrev pub identities_in : Collector → List Identity
identities_in collector = map named_identity collector.modules.items

-- the module at this position has this offset, if the offset fits 32 bits
abbrev pub HasOffset : List (List ℕ) → ℕ → ℕ → Type 0
HasOffset offsets position offset = offset < 2 ^ 32 → Contains (unwrap_or (slice_get offsets position) []) offset

-- a search is made, and if it leads to a module, that module has this offset
abbrev pub ServesSearch : List (List ℕ) → ℕ → Option Search → Type 0
ServesSearch offsets offset None = Unit {0}
ServesSearch offsets offset (Some NotAsked) = ⊥
ServesSearch offsets offset (Some Impossible) = Unit {0}
ServesSearch offsets offset (Some (Module position)) = HasOffset offsets position offset

-- a frame at this offset of this module is served: its module isn't known, or the search for its entry serves the offset
abbrev pub ServesPlace : List (List ℕ) → List Search → ℕ → FrameModule → Type 0
ServesPlace offsets searches offset Unknown = Unit {0}
ServesPlace offsets searches offset (At index) = ServesSearch offsets offset (slice_get searches index)

-- if the search for a frame's entry leads to a module, that module has the frame's offset
abbrev pub ServesFrame : List (List ℕ) → List Search → StackFrame → Type 0
ServesFrame offsets searches frame = ServesPlace offsets searches frame.offset frame.module

-- the searches serve each frame of a stack
abbrev pub ServesStack : List (List ℕ) → List Search → Stack → Type 0
ServesStack offsets searches stack = (number : ℕ) (frame : StackFrame)
    → slice_get stack.frames.items number ≡ Some frame → ServesFrame offsets searches frame

-- the searches serve each frame of a job
abbrev pub ServesJob : List (List ℕ) → List Search → Job → Type 0
ServesJob offsets searches job = (number : ℕ) (stack : Stack)
    → slice_get job.stacks.items number ≡ Some stack → ServesStack offsets searches stack

-- the module at this position has this offset
abbrev pub IsOffset : List (List ℕ) → ℕ → ℕ → Type 0
IsOffset offsets position offset = Contains (unwrap_or (slice_get offsets position) []) offset

-- one of the first `count` elements passes this test, which also takes the element's number
abbrev pub OneOfFirst : {X : Type 0} → ℕ → List X → (ℕ → X → Type 0) → Type 0
OneOfFirst {X} count elements Is = (number : ℕ) × (element : X) × number < count
    × slice_get elements number ≡ Some element × Is number element

-- the search for the entry that a frame names leads to the module at this position
abbrev pub LeadsPlace : List Search → ℕ → FrameModule → Type 0
LeadsPlace searches position Unknown = ⊥
LeadsPlace searches position (At index) = slice_get searches index ≡ Some (Module position)

-- a frame asks for this offset of the module at this position
abbrev pub FrameAsks : List Search → ℕ → ℕ → StackFrame → Type 0
FrameAsks searches position offset frame = frame.offset ≡ offset × LeadsPlace searches position frame.module

-- a frame of the stack asks for this offset of the module at this position
abbrev pub StackAsks : List Search → ℕ → ℕ → Stack → Type 0
StackAsks searches position offset stack =
    OneOfFirst (vec_len stack.frames) stack.frames.items (λ number frame. FrameAsks searches position offset frame)

-- a frame of the job asks for this offset of the module at this position
abbrev pub JobAsks : List Search → ℕ → ℕ → Job → Type 0
JobAsks searches position offset job =
    OneOfFirst (vec_len job.stacks) job.stacks.items (λ number stack. StackAsks searches position offset stack)

-- the new modules have no offsets that the old ones don't have
abbrev pub NoMore : List (List ℕ) → List (List ℕ) → Type 0
NoMore old new = (position offset : ℕ) → IsOffset new position offset → IsOffset old position offset

-- each offset of the new modules is one of the old modules, or is asked for
abbrev pub GainsOnly : List (List ℕ) → List (List ℕ) → (ℕ → ℕ → Type 0) → Type 0
GainsOnly old new Asked = (position offset : ℕ) → IsOffset new position offset
    → IsOffset old position offset ⊎ Asked position offset

-- a search that leads to a module still leads to it
abbrev pub KeepsModules : List Search → List Search → Type 0
KeepsModules old new = (index position : ℕ) → slice_get old index ≡ Some (Module position)
    → slice_get new index ≡ Some (Module position)

-- modules keep their offsets
abbrev pub KeepsOffsets : List (List ℕ) → List (List ℕ) → Type 0
KeepsOffsets old new = (position offset : ℕ) → HasOffset old position offset → HasOffset new position offset

-- the new searches serve each frame that the old ones serve
abbrev pub KeepsServed : List Search → List Search → Type 0
KeepsServed old new = (offsets : List (List ℕ)) (frame : StackFrame)
    → ServesFrame offsets old frame → ServesFrame offsets new frame

-- the offsets of modules
abbrev pub offsets_of : List WantedModule → List (List ℕ)
offsets_of modules = map (λ one. one.offsets.items) modules

-- the offsets of the modules that were collected
abbrev pub offsets_in : Collector → List (List ℕ)
offsets_in collector = map (λ one. one.offsets.items) collector.modules.items

-- each job of a request has its searches, which lead to modules with the names and debug ids of its entries and the
-- offsets of its frames. For each offset of a module, a frame of a job asks for that offset of that module
pub record AsksForEach (request : SymbolicationRequest) (wanted : WantedModules) : Type 0 where
  pub count : vec_len wanted.searches ≡ vec_len request.jobs
  pub each : (number : ℕ) (job : Job) → slice_get request.jobs.items number ≡ Some job
      → AsksFor job (job_searches wanted number)
  pub led : (number : ℕ) (job : Job) → slice_get request.jobs.items number ≡ Some job
      → LeadToEntries (identities_of wanted.modules.items) job.memory_map.items (job_searches wanted number)
  pub served : (number : ℕ) (job : Job) → slice_get request.jobs.items number ≡ Some job
      → ServesJob (offsets_of wanted.modules.items) (job_searches wanted number) job
  pub only : (position offset : ℕ) → IsOffset (offsets_of wanted.modules.items) position offset
      → OneOfFirst (vec_len request.jobs) request.jobs.items
      (λ number job. JobAsks (job_searches wanted number) position offset job)
