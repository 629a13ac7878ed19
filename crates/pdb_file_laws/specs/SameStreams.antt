-- When two files have the same streams.
use Rattle.std.specs.Prelude.{◌≡◌, ℕ, ◌+◌, ◌*◌, ◌≤◌, ◌==◌, List, [], ◌∷◌, All, length, Option, Some, None, Ok}
use Rattle.std.specs.Prelude.{if◌then◌else◌}
use Rattle.std.specs.Option.{option_or}
use Rattle.pdb_msf.specs.Msf.{Msf, size_of, stream_blocks, stream_of}
use Rattle.pdb_msf.specs.Streams.{block}
use Rattle.pdb_codeview.specs.Places.{place}
use Rattle.pdb_dbi.specs.declared.debug_header.DebugHeader.{DebugHeader}
use Rattle.pdb_dbi.specs.declared.module_substream.ModuleStream.{ModuleStream}
use Rattle.pdb_dbi.specs.ModuleSubstream.{module_streams}
use Rattle.pdb_container.specs.DebugRecords.{debug_header, symbol_stream}
use Rattle.pdb_container.specs.FunctionsByStart.{FunctionStart, any_function}
use Rattle.pdb_container.specs.ModulePlaces.{bytes_read, modules_read}
use Rattle.pdb_container.specs.UnnamedCode.{CodeOfModule, code_from}

-- two containers have the same streams, with the same sizes and bytes, in files of one length
pub record HoldSame (a b : Msf) : Type 0 where
  pub room : length a.file ≡ length b.file
  pub sizes : a.sizes ≡ b.sizes
  pub streams : (number : ℕ) → stream_of a number ≡ stream_of b number

-- two containers, of files of one length, have the same directory, and the same bytes in each block of a stream
pub record ShareBlocks (a b : Msf) : Type 0 where
  pub room : length a.file ≡ length b.file
  pub block_size : a.block_size ≡ b.block_size
  pub directory : a.directory ≡ b.directory
  pub sizes : a.sizes ≡ b.sizes
  pub blocks : (number size : ℕ) (numbers : List ℕ) → size_of a number ≡ Ok size
      → stream_blocks a number size ≡ Ok numbers
      → All (λ x. block a.block_size a.file x ≡ block a.block_size b.file x) numbers

-- two containers have the same streams, in files of any lengths
pub record SameStreams (a b : Msf) : Type 0 where
  pub sizes : a.sizes ≡ b.sizes
  pub streams : (number : ℕ) → stream_of a number ≡ stream_of b number

-- the size of the streams of modules together; the number 65535 means no stream
abbrev pub module_bytes : Msf → List ModuleStream → ℕ
module_bytes msf [] = 0
module_bytes msf (place ∷ places) =
    (if place.stream == 65535 then 0 else bytes_read msf place.stream) + module_bytes msf places

-- the size of a function's name, if there is a function
abbrev pub name_length : Option FunctionStart → ℕ
name_length None = 0
name_length (Some function) = length function.name

-- the size of all names that code gets from functions, by the functions at places
abbrev pub name_bytes : (ℕ → Option FunctionStart) → List CodeOfModule → ℕ
name_bytes function_there [] = 0
name_bytes function_there (code ∷ codes) =
    name_length (option_or code.own (function_there (place code.code.parent_offset)))
    + name_bytes function_there codes

-- a file is long enough for its debug information: no shorter than the streams of its modules together, and no shorter
-- than the names that nameless code gets from functions
pub record HasRoom (msf : Msf) (front : DebugHeader) : Type 0 where
  pub modules : module_bytes msf (module_streams front.modules) ≤ length msf.file
  pub names : name_bytes
      (any_function (modules_read msf (module_streams front.modules)) (symbol_stream msf front.global_symbols))
      (code_from 0 (modules_read msf (module_streams front.modules))) ≤ length msf.file

-- a file is long enough if it has debug information
abbrev pub IsLongEnough : Msf → Type 0
IsLongEnough msf = (front : DebugHeader) → debug_header msf ≡ Ok front → HasRoom msf front

-- a file has each block of its streams completely
abbrev pub IsWhole : Msf → Type 0
IsWhole msf = (number size : ℕ) (numbers : List ℕ) → size_of msf number ≡ Ok size
    → stream_blocks msf number size ≡ Ok numbers
    → All (λ x. x * msf.block_size + msf.block_size ≤ length msf.file) numbers
