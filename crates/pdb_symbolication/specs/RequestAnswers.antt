-- The answer to a request of the symbolication API.
use Rattle.std.specs.Prelude.{ℕ, ◌+◌, List, [], ◌∷◌, ◌++◌, codes, map, position, slice_get, string_bytes}
use Rattle.std.specs.Prelude.{Option, Some, unwrap_or, ◌==◌}
use Rattle.std.specs.Fmt.{decimal}
use Rattle.std.specs.Option.{option_map_or}
use Rattle.pdb_symbolication.specs.Findings.{found_modules, search_of}
use Rattle.pdb_symbolication.specs.FrameTexts.{texts_of}
use Rattle.pdb_symbolication.specs.JsonObjects.{array, hexadecimal, member, object, separated}
use Rattle.pdb_symbolication.specs.JsonTexts.{quoted}
use Rattle.pdb_symbolication.specs.declared.frame_texts.FrameTexts.{FrameTexts}
use Rattle.pdb_symbolication.specs.declared.request_answers.JobAnswer.{JobAnswer}
use Rattle.pdb_symbolication.specs.declared.requests.FrameModule.{FrameModule}
use Rattle.pdb_symbolication.specs.declared.requests.FrameModule.TheVariants.{Unknown, At}
use Rattle.pdb_symbolication.specs.declared.requests.Job.{Job}
use Rattle.pdb_symbolication.specs.declared.requests.MemoryMapEntry.{MemoryMapEntry}
use Rattle.pdb_symbolication.specs.declared.requests.SymbolicationRequest.{SymbolicationRequest}
use Rattle.pdb_symbolication.specs.declared.requests.Stack.{Stack}
use Rattle.pdb_symbolication.specs.declared.requests.StackFrame.{StackFrame}
use Rattle.pdb_symbolication.specs.declared.wanted_modules.Search.{Search}
use Rattle.pdb_symbolication.specs.declared.wanted_modules.Search.TheVariants.{Module}
use Rattle.pdb_symbolication.specs.declared.wanted_modules.WantedModule.{WantedModule}
use Rattle.pdb_symbolication.specs.declared.wanted_modules.WantedModules.{WantedModules}

-- the parts of the answer to a job: the memory map, the search for each of its entries, the wanted modules, and the
-- texts of each module that was found
pub record Searched : Type 0 where
  pub memory_map : List MemoryMapEntry
  pub searches : List Search
  pub modules : List WantedModule
  pub found : List (Option FrameTexts)

-- the model of `JobAnswer`
abbrev pub searched_by : JobAnswer → Searched
searched_by answer = record {
  memory_map = answer.job.now.memory_map.items;
  searches = answer.searches.now;
  modules = answer.modules.now;
  found = answer.found.now;
}

-- the name of a frame's module, as the request has it
abbrev pub module_name : List MemoryMapEntry → FrameModule → List ℕ
module_name memory_map Unknown = codes "<unknown>"
module_name memory_map (At index) =
    option_map_or (λ entry. string_bytes entry.name) (slice_get memory_map index) (codes "<unknown>")

-- the text for an offset, which has the offset's position in the list; empty if the list doesn't have the offset
abbrev pub text_at : List ℕ → List (List ℕ) → ℕ → List ℕ
text_at offsets texts offset =
    option_map_or (λ number. unwrap_or (slice_get texts number) []) (position (λ at. at == offset) offsets) []

-- the text at an offset of a wanted module; empty if the module wasn't found
abbrev pub module_text : Option WantedModule → Option (Option FrameTexts) → ℕ → List ℕ
module_text (Some wanted) (Some (Some texts)) offset = text_at wanted.offsets.items (texts_of texts) offset
module_text wanted texts offset = []

-- the text at an offset of the module of a search
abbrev pub searched_text : Searched → Search → ℕ → List ℕ
searched_text searched (Module position) offset =
    module_text (slice_get searched.modules position) (slice_get searched.found position) offset
searched_text searched search offset = []

-- the members of what was found for a frame, after other members
abbrev pub known_text : Searched → FrameModule → ℕ → List ℕ
known_text searched Unknown offset = []
known_text searched (At index) offset = searched_text searched (search_of searched.searches index) offset

-- the members of a frame that need no search: its number in the stack, the name of its module, and its offset there
abbrev pub asked_members : List MemoryMapEntry → ℕ → StackFrame → List (List ℕ)
asked_members memory_map number frame =
    member (codes "frame") (decimal number)
    ∷ (member (codes "module") (quoted (module_name memory_map frame.module))
    ∷ (member (codes "module_offset") (hexadecimal frame.offset) ∷ []))

-- a frame: an object with the members that the request gives, and then those of what was found
abbrev pub frame_object : Searched → ℕ → StackFrame → List ℕ
frame_object searched number frame =
    codes "{" ++ (separated (asked_members searched.memory_map number frame)
    ++ (known_text searched frame.module frame.offset ++ codes "}"))

-- the objects of frames, numbered from `number` on
abbrev pub frame_objects : Searched → ℕ → List StackFrame → List (List ℕ)
frame_objects searched number [] = []
frame_objects searched number (frame ∷ frames) =
    frame_object searched number frame ∷ frame_objects searched (number + 1) frames

-- a stack: an array of its frames
abbrev pub stack_array : Searched → Stack → List ℕ
stack_array searched stack = array (frame_objects searched 0 stack.frames.items)

-- the text after the stacks of a job: which modules of its memory map were found
abbrev pub stacks_end : Searched → List ℕ
stacks_end searched = codes "],\"found_modules\":"
    ++ (found_modules searched.searches searched.found searched.memory_map ++ codes "}")

-- the answer to a job: its stacks, and which modules of its memory map were found
abbrev pub job_answer : Searched → List Stack → List ℕ
job_answer searched stacks = object (
    member (codes "stacks") (array (map (stack_array searched) stacks))
    ∷ (member (codes "found_modules") (found_modules searched.searches searched.found searched.memory_map) ∷ []))

-- the searches of the job with this number; none if there is no such job
abbrev pub job_searches : WantedModules → ℕ → List Search
job_searches wanted number = option_map_or (λ searches. searches.items) (slice_get wanted.searches.items number) []

-- the parts of the answer to the job with this number
abbrev pub searched_job : WantedModules → List (Option FrameTexts) → ℕ → Job → Searched
searched_job wanted found number job = record {
  memory_map = job.memory_map.items;
  searches = job_searches wanted number;
  modules = wanted.modules.items;
  found = found;
}

-- the answers to jobs, numbered from `number` on
abbrev pub job_answers : WantedModules → List (Option FrameTexts) → ℕ → List Job → List (List ℕ)
job_answers wanted found number [] = []
job_answers wanted found number (job ∷ jobs) =
    job_answer (searched_job wanted found number job) job.stacks.items ∷ job_answers wanted found (number + 1) jobs

-- the answer to a request: a line with an object that has the answer to each job, in their order
abbrev pub answer_text : SymbolicationRequest → WantedModules → List (Option FrameTexts) → List ℕ
answer_text request wanted found =
    object (member (codes "results") (array (job_answers wanted found 0 request.jobs.items)) ∷ []) ++ codes "\n"

-- the answer to a text that is no request: a line with an object that has an error message
abbrev pub error_text : List ℕ → List ℕ
error_text why = object (member (codes "error") (quoted why) ∷ []) ++ codes "\n"
