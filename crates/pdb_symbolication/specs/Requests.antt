-- Frames of a request, whose modules are entries of their job's memory map.
use Rattle.std.specs.Prelude.{ℕ, ◌<◌, All, vec_len}
use Rattle.pdb_symbolication.specs.declared.requests.FrameModule.{FrameModule}
use Rattle.pdb_symbolication.specs.declared.requests.FrameModule.TheVariants.{Unknown, At}
use Rattle.pdb_symbolication.specs.declared.requests.Stack.{Stack}
use Rattle.pdb_symbolication.specs.declared.requests.Job.{Job}

-- a module is unknown or one of the first `count`
abbrev pub IsOneOf : ℕ → FrameModule → Type 0
IsOneOf count Unknown = Unit {0}
IsOneOf count (At index) = index < count

-- each frame of the stack has a module that is unknown or one of the first `count`
abbrev pub IsOver : ℕ → Stack → Type 0
IsOver count stack = All (λ frame. IsOneOf count frame.module) stack.frames.items

-- each frame of the job has a module that is unknown or an entry of the memory map
abbrev pub NamesItsModules : Job → Type 0
NamesItsModules job = All (IsOver (vec_len job.memory_map)) job.stacks.items
