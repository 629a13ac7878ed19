-- What symbols show of procedures: each looks at the last one that those before it showed.
use Rattle.std.proofs.Common.{◌≡◌, ◌∙◌, ℕ, ◌+◌, length, List, [], ◌∷◌, ◌++◌, Option, Some, None, refl, sym, ap}
use Rattle.std.proofs.Common.{append_assoc, arith}
use Rattle.std.specs.Prelude.{option_to_list}
use Rattle.std.proofs.lemmas.List.{append-nil}
use Rattle.pdb_records.specs.declared.error.StreamError.{StreamError}
use Rattle.pdb_records.specs.declared.modules.ModuleInfo.{ModuleInfo}
use Rattle.pdb_records.specs.declared.symbols.Symbol.{Symbol}
use Rattle.pdb_functions.specs.Procedures.{ModuleProcedure, procedure_at, last_counted, procedures_from}
use Rattle.pdb_functions.specs.Procedures.{info_procedures}
use Rattle.pdb_functions.specs.LookupLaws.{last_procedure}

-- where a list has a procedure, its last one counts whatever came before
last_there : (a b : Option ModuleProcedure) (p : ModuleProcedure) (ps : List ModuleProcedure)
    → last_counted a (last_procedure (p ∷ ps)) ≡ last_counted b (last_procedure (p ∷ ps))
last_there a b p [] = refl
last_there a b p (q ∷ qs) = last_there a b q qs

-- the last procedure that counts, after one more and others, is the last of all of them
last_of_all : (last one : Option ModuleProcedure) (ps : List ModuleProcedure)
    → last_counted (last_counted last one) (last_procedure ps) ≡ last_counted last
    (last_procedure (option_to_list one ++ ps))
last_of_all last None ps = refl
last_of_all last (Some p) [] = refl
last_of_all last (Some p) (q ∷ qs) = last_there (Some p) last q qs

-- one more symbol looks at the last procedure of those before it
pub behind_last : (at : ℕ) (last : Option ModuleProcedure) (symbols : List Symbol) (symbol : Symbol)
    → procedures_from at last (symbols ++ symbol ∷ []) ≡ procedures_from at last symbols ++ option_to_list
    (procedure_at (at + length symbols) (last_counted last (last_procedure (procedures_from at last symbols))) symbol)
behind_last at last [] symbol = append-nil (option_to_list (procedure_at at last symbol)) ∙ ap
    (λ k. option_to_list (procedure_at k last symbol)) (let e : at ≡ at + length {A = Symbol} [] = omega arith in e)
behind_last at last (x ∷ xs) symbol =
    first (procedure_at at last x) (behind_last (at + 1) (last_counted last (procedure_at at last x)) xs symbol) where
      first : (one : Option ModuleProcedure)
          → procedures_from (at + 1) (last_counted last one) (xs ++ symbol ∷ []) ≡ procedures_from (at + 1)
          (last_counted last one) xs ++ option_to_list
          (procedure_at ((at + 1) + length xs)
          (last_counted (last_counted last one)
          (last_procedure (procedures_from (at + 1) (last_counted last one) xs))) symbol)
          → option_to_list one ++ procedures_from (at + 1) (last_counted last one) (xs ++ symbol ∷ []) ≡
          (option_to_list one ++ procedures_from (at + 1) (last_counted last one) xs) ++ option_to_list
          (procedure_at (at + length (x ∷ xs))
          (last_counted last (last_procedure
          (option_to_list one ++ procedures_from (at + 1) (last_counted last one) xs))) symbol)
      first one rest =
          let ps = procedures_from (at + 1) (last_counted last one) xs in
          let same_last = last_of_all last one ps in
          let same_position : (at + 1) + length xs ≡ at + length (x ∷ xs) = omega arith in
          ap (λ (zs : List ModuleProcedure). option_to_list one ++ zs)
          (rest ∙ ap (λ l. ps ++ option_to_list (procedure_at ((at + 1) + length xs) l symbol)) same_last ∙ ap
          (λ k. ps ++ option_to_list (procedure_at k
          (last_counted last (last_procedure (option_to_list one ++ ps))) symbol)) same_position)
          ∙ sym (append_assoc (option_to_list one) ps
          (option_to_list (procedure_at (at + length (x ∷ xs))
          (last_counted last (last_procedure (option_to_list one ++ ps))) symbol)))

-- a procedure that may be there, after none, is itself
last_counted_alone : (one : Option ModuleProcedure) → last_counted None one ≡ one
last_counted_alone None = refl
last_counted_alone (Some p) = refl

-- of all the symbols of a module, each looks at the last procedure of those before it
pub behind_last_of_all : (symbols : List Symbol) (symbol : Symbol)
    → procedures_from 0 None (symbols ++ symbol ∷ []) ≡ procedures_from 0 None symbols ++ option_to_list
    (procedure_at (length symbols) (last_procedure (procedures_from 0 None symbols)) symbol)
behind_last_of_all symbols symbol =
    behind_last 0 None symbols symbol
    ∙ ap (λ l. procedures_from 0 None symbols ++ option_to_list (procedure_at (0 + length symbols) l symbol))
    (last_counted_alone (last_procedure (procedures_from 0 None symbols)))
    ∙ ap (λ k. procedures_from 0 None symbols ++ option_to_list
    (procedure_at k (last_procedure (procedures_from 0 None symbols)) symbol))
    (let e : 0 + length symbols ≡ length symbols = omega arith in e)

-- a fault after a module's symbols leaves no procedure
pub none_with_fault : (info : ModuleInfo) (fault : StreamError) → info.symbols.fault ≡ Some fault
    → info_procedures info ≡ []
none_with_fault info fault is = rw (is, info_procedures) refl
