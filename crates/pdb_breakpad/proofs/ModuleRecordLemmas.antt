-- Lines that are written part by part.
use Rattle.std.proofs.Common.{◌≡◌, ◌∙◌, ℕ, List, [], ◌++◌, ap, append_assoc}

-- a line of a word and three more, with a text after each word but the last
pub module_joined : (old t1 t2 t3 t4 t5 new word machine space debug_id name end : List ℕ)
    → t1 ≡ old ++ word → t2 ≡ t1 ++ machine → t3 ≡ t2 ++ space → t4 ≡ t3 ++ debug_id → t5 ≡ t4 ++ space
    → new ≡ t5 ++ (name ++ end)
    → new ≡ old ++ ((word ++ (machine ++ (space ++ (debug_id ++ (space ++ name))))) ++ end)
module_joined old t1 t2 t3 t4 t5 new word machine space debug_id name end e1 e2 e3 e4 e5 last =
    last
    ∙ ap (λ t. t ++ (name ++ end))
    (e5 ∙ ap (λ t. t ++ space)
    (e4 ∙ ap (λ t. t ++ debug_id) (e3 ∙ ap (λ t. t ++ space) (e2 ∙ ap (λ t. t ++ machine) e1))))
    ∙ simp append_assoc

-- a line of a word and two more
pub program_joined : (old t1 t2 t3 new word code_id space name end : List ℕ)
    → t1 ≡ old ++ word → t2 ≡ t1 ++ code_id → t3 ≡ t2 ++ space → new ≡ t3 ++ (name ++ end)
    → new ≡ old ++ ((word ++ (code_id ++ (space ++ name))) ++ end)
program_joined old t1 t2 t3 new word code_id space name end e1 e2 e3 last =
    last
    ∙ ap (λ t. t ++ (name ++ end)) (e3 ∙ ap (λ t. t ++ space) (e2 ∙ ap (λ t. t ++ code_id) e1))
    ∙ simp append_assoc

-- a text that begins with a line, and goes on with others
pub lines_joined : (empty first whole line end others : List ℕ)
    → empty ≡ [] → first ≡ empty ++ (line ++ end) → whole ≡ first ++ others → whole ≡ line ++ (end ++ others)
lines_joined empty first whole line end others none begun more =
    more ∙ ap (λ t. t ++ others) (begun ∙ ap (λ t. t ++ (line ++ end)) none) ∙ append_assoc line end others
