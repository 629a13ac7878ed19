-- Requests and what they say, worked out by hand.
use Rattle.std.proofs.Common.{◌≡◌, [], ◌∷◌, refl, codes, Ok, Err}
use Rattle.std.specs.Fmt.{digits}
use Rattle.std.specs.Str.{chars, is_utf8}
use Rattle.std.specs.Prelude.{⊤}
use Rattle.serde_json.proofs.OnLiterals.{serde_json_on_literals}
use Rattle.pdb_json_values.specs.RecordFault.{not_json, out_of_range, shape}
use Rattle.pdb_json_values.specs.JsonNumbers.{i64_of, u64_of}
use Rattle.pdb_json_values.specs.Values.{array_of, text_of}
use Rattle.pdb_symbolication.specs.RequestValues.{entry_of, frame_of, job_of, jobs_of, memory_map_of, module_of}
use Rattle.pdb_symbolication.specs.RequestValues.{one_job}
use Rattle.pdb_symbolication.specs.RequestValues.{pair_of, request_of, request_of_text, stack_of, stacks_of}
use Rattle.pdb_symbolication.specs.declared.requests.FrameModule.TheVariants.{Unknown, At}

-- the definitions of requests, which the examples compute
unfoldable stacks : ⊤
unfolding stacks_of stack_of frame_of pair_of module_of i64_of u64_of array_of digits
stacks = tt

unfoldable texts : ⊤
unfolding is_utf8 chars serde_json_on_literals
texts = tt

unfoldable requests : ⊤
unfolding texts stacks request_of_text request_of jobs_of one_job job_of memory_map_of entry_of text_of
requests = tt

-- one job by itself, with two stacks
pub two_stacks : request_of_text (codes "{\"memoryMap\":[[\"a.pdb\",\"0A1\"]],\"stacks\":[[[0,16],[-1,7]],[]]}")
    ≡ Ok (record {
      memory_map = record { name = codes "a.pdb"; debug_id = codes "0A1" } ∷ [];
      stacks = (record { «module» = At 0; offset = 16 } ∷ (record { «module» = Unknown; offset = 7 } ∷ [])) ∷ ([] ∷ []);
    } ∷ [])
unfolding requests
two_stacks = refl

-- the third frame of the second stack is in a module that the memory map doesn't have
pub no_such_module : request_of_text
    (codes "{\"jobs\":[{\"memoryMap\":[],\"stacks\":[[],[[-1,0],[-1,1],[0,2]]]}]}")
    ≡ Err (shape (codes "/jobs/0/stacks/1/2/0") (codes "index of memoryMap, or -1"))
unfolding requests
no_such_module = refl

-- an offset below 0
pub negative_offset : request_of_text (codes "{\"memoryMap\":[],\"stacks\":[[[-1,-1]]]}")
    ≡ Err (out_of_range (codes "/stacks/0/0/1"))
unfolding requests
negative_offset = refl

-- an object without members of a job has no jobs
pub no_jobs : request_of_text (codes "{}") ≡ Err (shape (codes "/jobs") (codes "array"))
unfolding requests
no_jobs = refl

-- what is no JSON text
pub no_text : request_of_text (codes "jobs") ≡ Err not_json
unfolding requests
no_text = refl
