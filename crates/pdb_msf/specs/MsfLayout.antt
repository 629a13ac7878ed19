-- The layout of a file that is read range by range: where its streams are.
use Rattle.std.specs.Prelude.{◌≡◌, ◌≢◌, ℕ, zero, suc, ◌+◌, List, [], ◌∷◌, drop, length}
use Rattle.std.specs.Prelude.{Option, Some, None, Result, Ok, Err}
use Rattle.std.specs.Global.{Vec}
use Rattle.pdb_records.specs.declared.error.StreamError.{StreamError}
use Rattle.pdb_msf.specs.declared.container_error.ContainerError.{ContainerError}
use Rattle.pdb_msf.specs.declared.container_error.ContainerError.TheVariants as file
use Rattle.pdb_msf.specs.declared.faults.Fault.{Fault}
use Rattle.pdb_msf.specs.declared.source_error.OpenError.{OpenError}
use Rattle.pdb_msf.specs.declared.source_error.OpenError.TheVariants as opened
use Rattle.pdb_msf.specs.declared.source_error.SourceError.{SourceError}
use Rattle.pdb_msf.specs.declared.source_error.SourceError.TheVariants as source
use Rattle.pdb_msf.specs.Faults.{◌>>=◌, fault_of}
use Rattle.pdb_msf.specs.Msf.{Msf, over}
use Rattle.pdb_msf.specs.NumberLists.{listed}
use Rattle.pdb_msf.specs.Streams.{stream_inside}

-- the layout of a file: its length, its block size, the bytes of its directory, and the sizes of its streams
pub record MappedFile : Type 0 where
  pub file_length : ℕ
  pub block_size : ℕ
  pub directory : List ℕ
  pub sizes : List ℕ

-- these bytes as a container with the directory of this layout
abbrev pub with_bytes : List ℕ → MappedFile → Msf
with_bytes file mapped = over file mapped.block_size mapped.directory mapped.sizes

-- a claim about the file, if the source has a model of its bytes and these have this length
abbrev pub IfFile : Option (List ℕ) → ℕ → (List ℕ → Type 0) → Type 0
IfFile None file_length holds = Unit {0}
IfFile (Some file) file_length holds = length file ≡ file_length → holds file

-- the bytes of a part as a list, or why the part is broken
abbrev pub bytes_read : Result (Vec ℕ) StreamError → Result (List ℕ) StreamError
bytes_read (Ok bytes) = Ok bytes.items
bytes_read (Err error) = Err error

-- the given error wraps this fault of the file
abbrev pub GivesRefusal : ContainerError → OpenError → Type 0
GivesRefusal fault given = given ≡ opened.Container fault

-- the given error for a fault in the directory: the file is cut short, or memory ran out
abbrev pub GivesOpenFault : Fault → OpenError → Type 0
GivesOpenFault fault given = given ≡ opened.Container (fault_of fault)

-- the error of opening for an error of the source: an unreadable range, or an allocation failure
abbrev pub open_error : SourceError → OpenError
open_error source.Unreadable = opened.Unreadable
open_error source.OutOfMemory = opened.Container file.OutOfMemory

-- the given error is the one for this error of the source
abbrev pub GivesSourceFault : SourceError → OpenError → Type 0
GivesSourceFault fault given = given ≡ open_error fault

-- a refused file has the defined fault, except after an allocation failure or an unreadable range
abbrev pub Refuses : {Y : Type 0} → OpenError → Result Y ContainerError → Type 0
Refuses (opened.Container fault) defined = fault ≢ file.OutOfMemory → defined ≡ Err fault
Refuses opened.Unreadable defined = Unit {0}

-- reading has the defined result: the value as `seen` shows it, or the file's fault, unless reading itself failed
abbrev pub Reads : {X Y : Type 0} → (X → Y) → Result X OpenError → Result Y ContainerError → Type 0
Reads seen (Ok answer) defined = defined ≡ Ok (seen answer)
Reads seen (Err fault) defined = Refuses fault defined

-- an excerpt belongs to this file: it has the file's stream sizes, its block size, and a directory of the same length
abbrev pub IsSubsetOf : Msf → MappedFile → Type 0
IsSubsetOf excerpt mapped =
    (excerpt.sizes ≡ mapped.sizes) × (excerpt.block_size ≡ mapped.block_size)
    × (length excerpt.directory ≡ length mapped.directory)

-- `count` consecutive numbers from `first` on
abbrev pub following : ℕ → ℕ → List ℕ
following first zero = []
following first (suc count) = first ∷ following (first + 1) count

-- the bytes of a stream of this size: the directory has the numbers of its `count` blocks at this place
abbrev pub stream_at : ℕ → List ℕ → List ℕ → ℕ → ℕ → ℕ → Result (List ℕ) StreamError
stream_at block_size file directory place count size =
    listed count (drop place directory) >>= stream_inside block_size file size
