-- Functions that get the name of their symbol if they have no other.
use Rattle.std.specs.Prelude.{ℕ, List, [], ◌∷◌, Option, option_map, option_and_then, Result, Ok, Err}
use Rattle.std.specs.Option.{option_or}
use Rattle.pdb_records.specs.Provided.{ProviderInfos}
use Rattle.pdb_errors.specs.declared.error.Error.{Error}
use Rattle.pdb_frames.specs.Frame.{FrameInfo, FramesInfo}
use Rattle.pdb_function_info.specs.Function.{FunctionInfo}
use Rattle.pdb_function_info.specs.NameTexts.{symbol_name}
use Rattle.pdb_addr2line.specs.ContextInputs.{ContextInputs, ContextState}
use Rattle.pdb_addr2line.specs.Lookups.{found_at, function_at, frames_answered}

-- the name of the symbol of the function at an address
abbrev pub symbol_name_at : {P : Type 0} → (P → ProviderInfos) → ContextInputs P → ℕ → Option (List ℕ)
symbol_name_at info s address = option_and_then symbol_name (found_at info s address)

-- a function, which gets this name if it has none
abbrev pub named_function : Option (List ℕ) → FunctionInfo → FunctionInfo
named_function name f = record f { name = option_or f.name name }

-- a frame, which gets this name if it has none
abbrev pub named_frame : Option (List ℕ) → FrameInfo → FrameInfo
named_frame name f = record f { function = option_or f.function name }

-- frames, the last of which gets this name if it has none
abbrev pub named_last : Option (List ℕ) → List FrameInfo → List FrameInfo
named_last name [] = []
named_last name (f ∷ []) = named_frame name f ∷ []
named_last name (f ∷ next ∷ rest) = f ∷ named_last name (next ∷ rest)

-- the frames of a function, which gets this name if it has none
abbrev pub named_frames : Option (List ℕ) → FramesInfo → FramesInfo
named_frames name f = record f { frames = named_last name f.frames }

-- the function at an address; without a name it gets that of its symbol
abbrev pub named_function_at : {P : Type 0} → (P → ProviderInfos) → ContextInputs P → ℕ → Option FunctionInfo
named_function_at info s address = option_map (named_function (symbol_name_at info s address)) (function_at info s address)

-- an answer of frames, whose function gets this name if it has none
abbrev pub named_answer : Option (List ℕ) → Result (Option FramesInfo) Error → Result (Option FramesInfo) Error
named_answer name (Ok found) = Ok (option_map (named_frames name) found)
named_answer name (Err error) = Err error

-- the answer for the frames at an address; a function without a name gets that of its symbol
abbrev pub named_frames_answered : {P : Type 0} → (P → ProviderInfos) → ContextState P → ℕ
    → Result (Option FramesInfo) Error
named_frames_answered info c address =
    named_answer (symbol_name_at info c.inputs address) (frames_answered info c address)
