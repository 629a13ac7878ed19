-- The frames info of a function, taken apart.
use Rattle.std.proofs.Common.{◌≡◌, ℕ, List, [], refl}
use Rattle.std.specs.Prelude.{Option, Some, None, Result, Ok, Err, reverse, option_map, option_and_then}
use Rattle.std.specs.Option.{option_map_or}
use Rattle.pdb_records.specs.Addresses.{rva, internal_offset}
use Rattle.pdb_records.specs.declared.addresses.PdbInternalSectionOffset.{PdbInternalSectionOffset}
use Rattle.pdb_records.specs.declared.addresses.Rva.{Rva}
use Rattle.pdb_records.specs.declared.ids.IdIndex.{IdIndex}
use Rattle.pdb_records.specs.declared.modules.ModuleInfo.{ModuleInfo}
use Rattle.pdb_errors.specs.Outcomes.{and_then}
use Rattle.pdb_records.specs.Provided.{ProviderInfos}
use Rattle.pdb_errors.specs.declared.error.Error.{Error}
use Rattle.pdb_functions.specs.GlobalFunctions.{GlobalFunction}
use Rattle.pdb_functions.specs.FunctionMatches.{FunctionMatch, function_module, function_start}
use Rattle.pdb_frames.specs.Frame.{FrameInfo, FramesInfo}
use Rattle.pdb_frames.specs.CodeLocations.{code_location}
use Rattle.pdb_addr2line.specs.FrameLaws.{EndIn}
use Rattle.pdb_function_info.specs.Frames.{Strings, own_frame, inlined_frames, function_frames, function_size}
use Rattle.pdb_function_info.specs.Function.{sum_in_32_bits}
use Rattle.pdb_addr2line.specs.Lookups.{found_at, frames_of, frames_at, records_of}
use Rattle.pdb_function_info.specs.NameTexts.{function_name, id_name}
use Rattle.pdb_addr2line.specs.ContextInputs.{ContextInputs, global_functions_of}

-- where what follows an answer succeeds, the answer did
pub and_then-ok : {A B E : Type 0} (r : Result A E) (next : A → Result B E) (b : B) → and_then r next ≡ Ok b
    → (a : A) × (r ≡ Ok a) × (next a ≡ Ok b)
and_then-ok (Ok a) next b is = (a, refl, is)
and_then-ok (Err e) next b is = absurd cc

-- where there is an image, there is what it is the image of
pub map-some : {A B : Type 0} (f : A → B) (o : Option A) (b : B) → option_map f o ≡ Some b
    → (a : A) × (o ≡ Some a) × (f a ≡ b)
map-some f (Some a) b is = (a, refl, cc)
map-some f None b is = absurd cc

-- where what follows is there, what it follows is
pub and_then-some : {A B : Type 0} (f : A → Option B) (o : Option A) (b : B) → option_and_then f o ≡ Some b
    → (a : A) × (o ≡ Some a) × (f a ≡ Some b)
and_then-some f (Some a) b is = (a, refl, is)
and_then-some f None b is = absurd cc

-- the frames of a function that was found
abbrev pub found_frames : {P : Type 0} → (P → ProviderInfos) → ContextInputs P → ℕ → FunctionMatch
    → Result (List FrameInfo) Error
found_frames info s x found =
    function_frames s.strings (id_name info s.type_inputs (function_module found))
    (function_name info s.type_inputs (global_functions_of s) found) (records_of info s found) found x

-- the frames info with these frames of a function that starts here
abbrev pub frames_info_with : List GlobalFunction → FunctionMatch → Rva → List FrameInfo → FramesInfo
frames_info_with globals found start frames = record {
  start_rva = start.0;
  end_rva = option_and_then (sum_in_32_bits start.0) (function_size globals found);
  frames = frames;
}

-- the frames info of a function, by where it starts and by its frames
pub record AreFramesOf {P : Type 0} (info : P → ProviderInfos) (s : ContextInputs P) (x : ℕ) (found : FunctionMatch)
    (frames_info : FramesInfo) : Type 0 where
  pub start : Rva
  pub starts : rva s.address_map (function_start found) ≡ Some start
  pub frames : found_frames info s x found ≡ Ok frames_info.frames
  pub start_rva : frames_info.start_rva ≡ start.0
  pub end_rva : frames_info.end_rva ≡ option_and_then (sum_in_32_bits start.0)
      (function_size (global_functions_of s) found)

-- the frames info of a function has a start and frames
are_frames_of : {P : Type 0} (info : P → ProviderInfos) (s : ContextInputs P) (x : ℕ) (found : FunctionMatch)
    (frames_info : FramesInfo)
    → frames_of info s x found ≡ Ok (Some frames_info) → AreFramesOf info s x found frames_info
are_frames_of {P = P} info s x found frames_info answered =
    by_start (rva s.address_map (function_start found)) refl answered where
      by_start : (start : Option Rva) → rva s.address_map (function_start found) ≡ start
          → option_map_or (λ here. and_then (found_frames info s x found)
          (λ list. Ok (Some (frames_info_with (global_functions_of s) found here list)))) start (Ok None)
          ≡ Ok (Some frames_info)
          → AreFramesOf info s x found frames_info
      by_start None starts none = absurd cc
      by_start (Some start) starts answer =
          let here = and_then-ok (found_frames info s x found) _ (Some frames_info) answer in
          let same : frames_info_with (global_functions_of s) found start here.0 ≡ frames_info = cc in
          rw (← same)
          (record { start = start; starts = starts; frames = here.1; start_rva = refl; end_rva = refl })

-- the frames info over an address is that of the function over it, at the address's offset
pub frames_info_at : {P : Type 0} (info : P → ProviderInfos) (s : ContextInputs P) (address : ℕ)
    (section_offset : PdbInternalSectionOffset)
    (found : FunctionMatch) (frames_info : FramesInfo)
    → internal_offset s.address_map (record { 0 = address }) ≡ Some section_offset
    → found_at info s address ≡ Some found
    → frames_at info s address ≡ Ok (Some frames_info) → AreFramesOf info s section_offset.offset found frames_info
frames_info_at info s address section_offset found frames_info lies over answered =
    let there = rw lies at over in
    are_frames_of info s section_offset.offset found frames_info (rw (lies, there) at answered)

-- the frames of a function end in the one that has its name
pub end_in_own : (strings : Strings) (name_of : IdIndex → Option (List ℕ)) (name : Option (List ℕ))
    (records : Option ModuleInfo) (found : FunctionMatch) (x : ℕ) (frames : List FrameInfo)
    → function_frames strings name_of name records found x ≡ Ok frames → EndIn frames name
end_in_own strings name_of name None found x frames are =
    let alone : FrameInfo = record { function = name; file = None; line = None } in
    record { inner = []; own = alone; split = cc; named = refl }
end_in_own strings name_of name (Some info) found x frames are =
    let here = and_then-ok (code_location info found x) _ frames are in
    record {
      inner = reverse (inlined_frames strings here.0.line_program name_of here.0.stack);
      own = own_frame strings name here.0.line_program here.0.row;
      split = cc;
      named = refl;
    }

-- the frames info over an address is that at some offset
pub frames_info_somewhere : {P : Type 0} (info : P → ProviderInfos) (s : ContextInputs P) (address : ℕ)
    (found : FunctionMatch) (frames_info : FramesInfo) → found_at info s address ≡ Some found
    → frames_at info s address ≡ Ok (Some frames_info) → (x : ℕ) × AreFramesOf info s x found frames_info
frames_info_somewhere {P = P} info s address found frames_info over answered =
    by_section_offset (internal_offset s.address_map (record { 0 = address })) refl
  where
    by_section_offset : (section_offset : Option PdbInternalSectionOffset)
        → internal_offset s.address_map (record { 0 = address }) ≡ section_offset
        → (x : ℕ) × AreFramesOf info s x found frames_info
    by_section_offset None lies = let none = rw lies at answered in absurd cc
    by_section_offset (Some section_offset) lies =
        (section_offset.offset, frames_info_at info s address section_offset found frames_info lies over answered)

-- the frames over an address end in the one that has the name of the function over it
pub ended_in_name : {P : Type 0} (info : P → ProviderInfos) (s : ContextInputs P) (address : ℕ)
    (found : FunctionMatch) (frames_info : FramesInfo) → found_at info s address ≡ Some found
    → frames_at info s address ≡ Ok (Some frames_info)
    → EndIn frames_info.frames (function_name info s.type_inputs (global_functions_of s) found)
ended_in_name info s address found frames_info over answered =
    let somewhere = frames_info_somewhere info s address found frames_info over answered in
    end_in_own s.strings (id_name info s.type_inputs (function_module found))
    (function_name info s.type_inputs (global_functions_of s) found) (records_of info s found) found somewhere.0
    frames_info.frames somewhere.1.frames
