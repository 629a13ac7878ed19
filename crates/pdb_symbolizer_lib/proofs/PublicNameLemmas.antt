-- Frames of which the last goes by a public name.
use Rattle.std.proofs.Common.{◌≡◌, ◌∙◌, ℕ, List, [], ◌∷◌, ◌++◌, Option, length, refl, ap, sym}
use Rattle.pdb_frames.specs.Frame.{FrameInfo}
use Rattle.pdb_symbolizer_lib.specs.PublicNames.{decorated_frame, decorated_last}

-- the last of some frames goes by this name, and those before it stay
last_is_decorated : (name : Option (List ℕ)) (front : List FrameInfo) (last : FrameInfo)
    → front ++ decorated_frame name last ∷ [] ≡ decorated_last name (front ++ last ∷ [])
last_is_decorated name [] last = refl
last_is_decorated name (f ∷ []) last = refl
last_is_decorated name (f ∷ next ∷ rest) last = ap (λ frames. f ∷ frames) (last_is_decorated name (next ∷ rest) last)

-- frames from which the last was taken, and put back under this name, are those of which the last goes by it
pub put_back_is_decorated : (name : Option (List ℕ)) (frames front put_back : List FrameInfo) (last named : FrameInfo)
    → frames ≡ front ++ last ∷ [] → named ≡ decorated_frame name last → put_back ≡ front ++ named ∷ []
    → put_back ≡ decorated_last name frames
put_back_is_decorated name frames front put_back last named taken names put =
    put ∙ ap (λ f. front ++ f ∷ []) names ∙ last_is_decorated name front last ∙ ap (decorated_last name) (sym taken)

-- no frames have no last one
pub none_is_decorated : (name : Option (List ℕ)) (frames rest : List FrameInfo) → frames ≡ rest ++ []
    → length frames ≡ 0 → rest ≡ decorated_last name frames
none_is_decorated name [] [] is none = refl
none_is_decorated name [] (f ∷ rest) is none = absurd cc
none_is_decorated name (f ∷ frames) rest is none = absurd cc
