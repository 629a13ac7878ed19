-- Frames and functions that go by the names of their symbols.
use Rattle.std.proofs.Common.{◌≡◌, ◌∙◌, ℕ, List, [], ◌∷◌, ◌++◌, length, refl, ap, sym}
use Rattle.std.specs.Prelude.{Option, Some, Result, Ok, Err, String, option_map, string_bytes}
use Rattle.std.specs.declared.alloc.Global.{Global}
use Rattle.std.specs.Option.{option_or}
use Rattle.pdb_errors.specs.declared.error.Error.{Error}
use Rattle.pdb_frames.specs.CodeParts.{CodeParts}
use Rattle.pdb_frames.specs.Frame.{FrameInfo, FramesInfo}
use Rattle.pdb_frames.specs.declared.code_parts.CodePart.{CodePart}
use Rattle.pdb_addr2line.specs.Lookups.{answered_refusal, failed_by_refusal}
use Rattle.pdb_function_info.specs.Function.{FunctionInfo, function_view}
use Rattle.pdb_function_info.specs.declared.function.Function.{Function}
use Rattle.pdb_addr2line.specs.NamedFunctions.{named_answer, named_frame, named_frames, named_function, named_last}

-- the last of some frames is named, and those before it stay
pub last_is_named : (name : Option (List ℕ)) (front : List FrameInfo) (last : FrameInfo)
    → named_last name (front ++ last ∷ []) ≡ front ++ named_frame name last ∷ []
last_is_named name [] last = refl
last_is_named name (f ∷ []) last = refl
last_is_named name (f ∷ next ∷ rest) last = ap (λ frames. f ∷ frames) (last_is_named name (next ∷ rest) last)

-- where an answer is no refusal, no more parts failed
pub none_refused : {A : Type 0} (failed : CodeParts) (part : Option CodePart) (r : Result A Error) (answer : A)
    → answered_refusal failed part r ≡ Ok answer → failed_by_refusal failed part r ≡ failed
none_refused failed part (Ok given) answer is = refl
none_refused failed part (Err e) answer is = absurd cc

-- no frames have no last one
pub none_is_named : (name : Option (List ℕ)) (frames rest : List FrameInfo) → frames ≡ rest ++ [] → length frames ≡ 0
    → rest ≡ named_last name frames
none_is_named name [] [] is none = refl
none_is_named name [] (f ∷ rest) is none = absurd cc
none_is_named name (f ∷ frames) rest is none = absurd cc

-- a function that was found goes by its symbol's name where it has no other
pub function_is_named : (found : Function) (name : Option (String Global)) (symbol : Option (List ℕ)) (at : Option FunctionInfo)
    → option_map string_bytes name ≡ option_or (option_map string_bytes found.name) symbol
    → option_map function_view (Some found) ≡ at
    → Some (function_view (record found { name = name })) ≡ option_map (named_function symbol) at
function_is_named found name symbol at named is =
    ap (λ (n : Option (List ℕ)). Some (record { start_rva = found.start_rva; end_rva = found.end_rva; name = n })) named
    ∙ ap (option_map (named_function symbol)) is

-- frames that are answered are those that are answered without that name, and named
pub frames_are_named : (symbol : Option (List ℕ)) (answered : Result (Option FramesInfo) Error)
    (found named : FramesInfo) → answered ≡ Ok (Some found) → named ≡ named_frames symbol found
    → named_answer symbol answered ≡ Ok (Some named)
frames_are_named symbol answered found named is names =
    ap (named_answer symbol) is ∙ ap (λ (f : FramesInfo). Ok (Some f)) (sym names)
