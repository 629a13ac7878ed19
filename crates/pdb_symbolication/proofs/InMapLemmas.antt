-- A request that is read has no frame outside the memory map of its job.
use Rattle.std.proofs.Common.{◌≡◌, ◌∙◌, ℕ, ◌+◌, List, [], ◌∷◌, length, map, refl, sym, ap, subst, arith, ℤ, pos, negsuc}
use Rattle.std.proofs.Common.{All, Option, Some, None, Result, Ok, Err, zero, suc, decimal, vec_len}
use Rattle.std.proofs.lemmas.Bool.Decides.{nat_tests}
use Rattle.std.specs.Prelude.{Bool, IfOk, codes, false, if◌then◌else◌, true}
use Rattle.serde_json.specs.Data.{Data, Items, no_items, item, null}
use Rattle.pdb_json_values.specs.declared.record_fault.RecordFault.{RecordFault}
use Rattle.pdb_json_values.specs.RecordFault.{Fault, AgreesBy, read_inside, ◌>>=◌}
use Rattle.pdb_json_values.specs.JsonNumbers.{i64_of, u64_of}
use Rattle.pdb_json_values.specs.Values.{array_of, object_of, wanted}
use Rattle.pdb_symbolication.specs.RequestValues.{EntryValue, JobValue, elements_from, entry_seen, frame_of, is_job}
use Rattle.pdb_symbolication.specs.RequestValues.{job_of}
use Rattle.pdb_symbolication.specs.RequestValues.{job_seen, jobs_of, member_of, memory_map_of, module_at, module_of}
use Rattle.pdb_symbolication.specs.RequestValues.{one_job}
use Rattle.pdb_symbolication.specs.RequestValues.{pair_of, request_of, request_seen, stack_of, stack_seen, stacks_of}
use Rattle.pdb_symbolication.specs.Requests.{IsOneOf, IsOver, NamesItsModules}
use Rattle.pdb_symbolication.specs.declared.requests.FrameModule.{FrameModule}
use Rattle.pdb_symbolication.specs.declared.requests.FrameModule.TheVariants.{Unknown, At}
use Rattle.pdb_symbolication.specs.declared.requests.Job.{Job}
use Rattle.pdb_symbolication.specs.declared.requests.MemoryMapEntry.{MemoryMapEntry}
use Rattle.pdb_symbolication.specs.declared.requests.SymbolicationRequest.{SymbolicationRequest}
use Rattle.pdb_symbolication.specs.declared.requests.Stack.{Stack}
use Rattle.pdb_symbolication.specs.declared.requests.StackFrame.{StackFrame}

-- what two steps read was read by the first, and then by the second
steps : {X Y : Type 0} (read : Result X Fault) (next : X → Result Y Fault) (y : Y) → (read >>= next) ≡ Ok y
    → (x : X) × (read ≡ Ok x) × (next x ≡ Ok y)
steps (Ok x) next y is = (x, refl, is)
steps (Err fault) next y is = absurd cc

ok_same : {X : Type 0} (x y : X) (read : Result X Fault) → read ≡ Ok x → read ≡ Ok y → x ≡ y
ok_same x y read one other = cc

outside : {X : Type 0} (name : List ℕ) (read : Result X Fault) (x : X) → read_inside name read ≡ Ok x → read ≡ Ok x
outside name (Ok y) x is = is
outside name (Err fault) x is = absurd cc

there : {X : Type 0} (sort : List ℕ) (found : Option X) (x : X) → wanted sort found ≡ Ok x → found ≡ Some x
there sort None x is = absurd cc
there sort (Some y) x is = cc

-- each element has this property
abbrev Each : {X : Type 0} → (X → Type 0) → List X → Type 0
Each Is [] = Unit {0}
Each Is (x ∷ xs) = Is x × Each Is xs

all_each : {X : Type 0} (Is : X → Type 0) (xs : List X) → Each Is xs → All Is xs
all_each Is [] each index other within = absurd (omega arith)
all_each Is (x ∷ xs) each zero other within = each.0
all_each Is (x ∷ xs) each (suc index) other within = all_each Is xs each.1 index other (omega arith)

-- what holds of each element that is read holds of all
all_of : {X : Type 0} (P : X → Type 0) (one : Data → Result X Fault) → ((d : Data) (x : X) → one d ≡ Ok x → P x)
    → (number : ℕ) (ds : Items) (xs : List X) → elements_from number one ds ≡ Ok xs → Each P xs
all_of {X} P one each number no_items xs is =
    subst (λ (list : List X). Each P list) (ok_same [] xs (elements_from number one no_items) refl is) tt
all_of {X} P one each number (item d ds) xs is =
    let first = steps (read_inside (decimal number) (one d)) _ xs is in
    let rest = steps (elements_from (number + 1) one ds) _ xs first.2 in
    subst (λ (list : List X). Each P list) (ok_same (first.0 ∷ rest.0) xs _ refl rest.2)
    (each d first.0 (outside (decimal number) (one d) first.0 first.1), all_of P one each (number + 1) ds rest.0 rest.1)

-- a module that an index stands for is one of so many, or isn't known
one_of_at : (count : ℕ) (index : ℤ) (found : FrameModule) → module_at count index ≡ Some found → IsOneOf count found
one_of_at count (negsuc zero) found is =
    let same : Unknown ≡ found = cc in subst (λ (m : FrameModule). IsOneOf count m) same tt
one_of_at count (negsuc (suc below)) found is = absurd cc
one_of_at count (pos index) Unknown is = tt
one_of_at count (pos index) (At other) is = grind (arith, nat_tests)

abbrev InMap : ℕ → List StackFrame → Type 0
InMap count frames = Each (λ frame. IsOneOf count frame.module) frames

module_in_map : (count : ℕ) (d : Data) (found : FrameModule) → module_of count d ≡ Ok found → IsOneOf count found
unfolding module_of
module_in_map count d found is =
    let index = steps (i64_of d) _ found is in
    one_of_at count index.0 found (there _ (module_at count index.0) found index.2)

frame_in_map : (count : ℕ) (d : Data) (frame : StackFrame) → frame_of count d ≡ Ok frame → IsOneOf count frame.module
unfolding frame_of
frame_in_map count d frame is =
    let pair = steps (pair_of (codes "index of a module and offset") d) _ frame is in
    let one = steps (read_inside (decimal 0) (module_of count pair.0.0)) _ frame pair.2 in
    let offset = steps (read_inside (decimal 1) (u64_of pair.0.1)) _ frame one.2 in
    subst (λ (f : StackFrame). IsOneOf count f.module)
    (ok_same (record { «module» = one.0; offset = offset.0 }) frame _ refl offset.2)
    (module_in_map count pair.0.0 one.0 (outside (decimal 0) (module_of count pair.0.0) one.0 one.1))

stack_in_map : (count : ℕ) (d : Data) (frames : List StackFrame) → stack_of count d ≡ Ok frames → InMap count frames
unfolding stack_of
stack_in_map count d frames is =
    let ds = steps (array_of d) _ frames is in
    all_of (λ (frame : StackFrame). IsOneOf count frame.module) (frame_of count) (frame_in_map count) 0 ds.0 frames ds.2

stacks_in_map : (count : ℕ) (d : Data) (stacks : List (List StackFrame)) → stacks_of count d ≡ Ok stacks
    → Each (InMap count) stacks
unfolding stacks_of
stacks_in_map count d stacks is =
    let ds = steps (array_of d) _ stacks is in
    all_of (InMap count) (stack_of count) (stack_in_map count) 0 ds.0 stacks ds.2

abbrev JobInMap : JobValue → Type 0
JobInMap job = Each (InMap (length job.memory_map)) job.stacks

job_in_map : (d : Data) (job : JobValue) → job_of d ≡ Ok job → JobInMap job
unfolding job_of
job_in_map d job is =
    let object = steps (object_of d) _ job is in
    let entries = steps (member_of (codes "memoryMap") memory_map_of object.0) _ job object.2 in
    let count = length entries.0 in
    let stacks = steps (member_of (codes "stacks") (stacks_of count) object.0) _ job entries.2 in
    subst JobInMap (ok_same (record { memory_map = entries.0; stacks = stacks.0 }) job _ refl stacks.2)
    (stacks_in_map count _ stacks.0 (outside (codes "stacks") _ stacks.0 stacks.1))

jobs_in_map : (d : Data) (jobs : List JobValue) → jobs_of d ≡ Ok jobs → Each JobInMap jobs
unfolding jobs_of
jobs_in_map d jobs is =
    let ds = steps (array_of d) _ jobs is in
    all_of JobInMap job_of job_in_map 0 ds.0 jobs ds.2

one_in_map : (d : Data) (jobs : List JobValue) → one_job d ≡ Ok jobs → Each JobInMap jobs
unfolding one_job
one_in_map d jobs is =
    let job = steps (job_of d) _ jobs is in
    subst (λ (all : List JobValue). Each JobInMap all) (ok_same (job.0 ∷ []) jobs _ refl job.2)
    (job_in_map d job.0 job.1, tt)

either_in_map : (test : Bool) (d : Data) (jobs : List JobValue)
    → (if test then one_job d else member_of (codes "jobs") jobs_of d) ≡ Ok jobs → Each JobInMap jobs
either_in_map true d jobs is = one_in_map d jobs is
either_in_map false d jobs is = jobs_in_map _ jobs (outside (codes "jobs") _ jobs is)

request_in_map : (d : Data) (jobs : List JobValue) → request_of d ≡ Ok jobs → Each JobInMap jobs
unfolding request_of
request_in_map d jobs is =
    let request = steps (object_of d) _ jobs is in
    either_in_map (is_job request.0) request.0 jobs request.2

-- the same of stacks and jobs as they are kept
stacks_kept : (count : ℕ) (stacks : List Stack) → Each (InMap count) (map stack_seen stacks)
    → Each (IsOver count) stacks
stacks_kept count [] in_map = tt
stacks_kept count (stack ∷ stacks) in_map = (
  all_each (λ (frame : StackFrame). IsOneOf count frame.module) stack.frames.items in_map.0,
  stacks_kept count stacks in_map.1,
)

entries_length : (entries : List MemoryMapEntry) → length (map entry_seen entries) ≡ length entries
entries_length [] = refl
entries_length (entry ∷ entries) = ap suc (entries_length entries)

job_kept : (job : Job) → JobInMap (job_seen job) → NamesItsModules job
job_kept job in_map =
    all_each (IsOver (vec_len job.memory_map)) job.stacks.items
    (stacks_kept (vec_len job.memory_map) job.stacks.items
    (subst (λ (count : ℕ). Each (InMap count) (map stack_seen job.stacks.items))
    (entries_length job.memory_map.items ∙ sym job.memory_map.ok.0) in_map))

jobs_kept : (jobs : List Job) → Each JobInMap (map job_seen jobs) → Each NamesItsModules jobs
jobs_kept [] in_map = tt
jobs_kept (job ∷ jobs) in_map = (job_kept job in_map.0, jobs_kept jobs in_map.1)

-- each frame of a request that is read names an entry of the memory map, or a module that isn't known
pub names_modules : (result : Result SymbolicationRequest RecordFault) (d : Data) → AgreesBy request_seen result (request_of d)
    → IfOk result (λ request. All NamesItsModules request.jobs.items)
names_modules (Ok request) d is =
    all_each NamesItsModules request.jobs.items
    (jobs_kept request.jobs.items (request_in_map d (request_seen request) is))
names_modules (Err fault) d is = tt
