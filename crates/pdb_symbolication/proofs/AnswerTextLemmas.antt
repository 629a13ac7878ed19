-- Texts of answers, part by part, as they are written.
use Rattle.std.proofs.Common.{◌≡◌, ap, ℕ, List, [], ◌∷◌, ◌++◌, append_assoc, append-nil, codes}
use Rattle.pdb_symbolication.specs.JsonObjects.{member, object, separated}

regrouped : (a b c d e f : List ℕ) → (a ++ b) ++ (c ++ (d ++ (e ++ f))) ≡ (a ++ (b ++ (c ++ (d ++ (e ++ []))))) ++ f
regrouped a b c d e f = simp (append_assoc, append-nil)

-- a frame: its number, its module, its offset there, and what was found
pub frame_parts : (number name offset known : List ℕ)
    → (codes "{\"frame\":" ++ (number ++ codes ",\"module\":")) ++ (name ++ (codes ",\"module_offset\":" ++ (offset
    ++ (known ++ codes "}"))))
    ≡ codes "{" ++ (separated (member (codes "frame") number ∷ (member (codes "module") name
    ∷ (member (codes "module_offset") offset ∷ []))) ++ (known ++ codes "}"))
frame_parts number name offset known = ap (λ (text : List ℕ). codes "{\"frame\":" ++ text)
    (regrouped number (codes ",\"module\":") name (codes ",\"module_offset\":") offset (known ++ codes "}"))

-- an answer: the answers to its jobs, between what stands before and after them
pub answer_parts : (jobs : List ℕ)
    → codes "{\"results\":[" ++ (jobs ++ codes "]}\n")
    ≡ (codes "{" ++ ((member (codes "results") (codes "[" ++ (jobs ++ codes "]")) ++ []) ++ codes "}")) ++ codes "\n"
answer_parts jobs = simp (append_assoc, append-nil)

-- the answer to a job: its stacks, and which modules were found
pub job_parts : (stacks modules : List ℕ)
    → codes "{\"stacks\":[" ++ (stacks ++ (codes "],\"found_modules\":" ++ (modules ++ codes "}")))
    ≡ object (member (codes "stacks") (codes "[" ++ (stacks ++ codes "]"))
    ∷ (member (codes "found_modules") modules ∷ []))
job_parts stacks modules = simp (append_assoc, append-nil)
