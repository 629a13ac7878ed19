-- A list of functions, start by start.
use Rattle.std.proofs.Common.{◌≡◌, ◌∙◌, ℕ, ◌+◌, ◌<◌, ◌≤◌, List, [], ◌∷◌, ◌++◌, length, take, drop, get_or, refl, sym}
use Rattle.std.proofs.Common.{ap, subst, append_assoc, append-nil, arith, zero, suc}
use Rattle.std.specs.Prelude.{Result, Ok, Err, IfErr}
use Rattle.std.specs.Result.{IsErrAnd}
use Rattle.std.proofs.Math.Seq.{take-append_seam}
use Rattle.std.proofs.lemmas.List.{length-append, take_more, take-append-drop}
use Rattle.std.proofs.lemmas.List.Elements.{filter_map-append}
use Rattle.pdb_records.specs.Provided.{ProviderInfos}
use Rattle.pdb_errors.specs.declared.error.Error.{Error}
use Rattle.pdb_errors.specs.declared.error.Error.TheVariants.{OutOfMemory}
use Rattle.pdb_function_info.specs.Function.{FunctionInfo}
use Rattle.pdb_addr2line.specs.FunctionIter.{functions_at}
use Rattle.pdb_addr2line.specs.Lookups.{function_at}
use Rattle.pdb_addr2line.specs.ContextInputs.{ContextInputs}
use Rattle.pdb_report_lib.specs.declared.reports.ReportFault.{ReportFault}
use Rattle.pdb_report_lib.specs.declared.reports.ReportFault.TheVariants.{Lookup, Write}
use Rattle.pdb_report_lib.specs.PrintedLines.{list_line, list_text}
use Rattle.pdb_report_lib.specs.Reports.{EndsAmidList, EndsListEarly}
use Rattle.pdb_report_lib.specs.Sinks.{SinkState, Takes}
use Rattle.pdb_report_lib.proofs.ReportLemmas.{takes_none, takes_more}

-- the lines of two lists of functions are those of the one and those of the other
list_text-append : (xs ys : List FunctionInfo) → list_text (xs ++ ys) ≡ list_text xs ++ list_text ys
list_text-append [] ys = refl
list_text-append (x ∷ xs) ys =
    ap (λ rest. list_line x ++ rest) (list_text-append xs ys) ∙ sym
    (append_assoc (list_line x) (list_text xs) (list_text ys))

-- the line of the function over one start more
pub takes_one_listed : {P : Type 0} (info : P → ProviderInfos) (s : ContextInputs P) (starts : List ℕ) (i : ℕ)
    (before between after : SinkState)
    → i < length starts
    → Takes before between (list_text (functions_at info s (take i starts)))
    → Takes between after (list_text (functions_at info s (get_or starts i 0 ∷ [])))
    → Takes before after (list_text (functions_at info s (take (i + 1) starts)))
takes_one_listed info s starts i before between after below taken next =
    let front = functions_at info s (take i starts) in
    let last = functions_at info s (get_or starts i 0 ∷ []) in
    let more : functions_at info s (take (i + 1) starts) ≡ front ++ last =
    ap (functions_at info s) (take_more starts i 0 below) ∙ filter_map-append (function_at info s) (take i starts)
    (get_or starts i 0 ∷ []) in
    let whole : list_text (functions_at info s (take (i + 1) starts)) ≡ list_text front ++ list_text last =
    ap list_text more ∙ list_text-append front last in
    subst (λ text. Takes before after text) (sym whole)
    (takes_more before between after (list_text front) (list_text last) taken next)

-- nothing is the first part of nothing
take_nothing : (n : ℕ) → take {A = FunctionInfo} n [] ≡ []
take_nothing zero = refl
take_nothing (suc n) = refl

-- a list that ends early before its first line
pub ends_unlisted : (functions : List FunctionInfo) (state : SinkState) (error : Error) → error ≡ OutOfMemory
    → EndsListEarly functions state state (Lookup error)
ends_unlisted functions state error memory =
    record { done = 0; within = omega arith; memory = memory; taken = takes_none state }

-- a list that ends early at a start ends amid the functions
pub ends_listed : {P : Type 0} (info : P → ProviderInfos) (s : ContextInputs P) (starts : List ℕ) (i : ℕ)
    (before between after : SinkState)
    → Takes before between (list_text (functions_at info s (take i starts)))
    → (fault : ReportFault) → EndsListEarly [] between after fault
    → EndsListEarly (functions_at info s starts) before after fault
ends_listed info s starts i before between after taken Write refused = refused
ends_listed info s starts i before between after taken (Lookup error) early =
    let front = functions_at info s (take i starts) in
    let rest = functions_at info s (drop i starts) in
    let split : front ++ rest ≡ functions_at info s starts =
    sym (filter_map-append (function_at info s) (take i starts) (drop i starts)) ∙ ap (functions_at info s)
    (take-append-drop i starts) in
    let size : length (front ++ rest) ≡ length front + length rest = length-append front rest in
    let within : length front ≤ length (front ++ rest) = omega (arith, size) in
    let seam : take (length front) (front ++ rest) ≡ front = take-append_seam front rest in
    let nothing : take early.done [] ≡ [] = take_nothing early.done in
    let last : Takes between after [] = subst (λ fs. Takes between after (list_text fs)) nothing early.taken in
    let both : Takes before after (list_text front ++ []) =
    takes_more before between after (list_text front) [] taken last in
    let held : Takes before after (list_text front) =
    subst (λ text. Takes before after text) (append-nil (list_text front)) both in
    let ended : EndsAmidList (front ++ rest) before after error = record {
      done = length front;
      within = within;
      memory = early.memory;
      taken = subst (λ fs. Takes before after (list_text fs)) (sym seam) held;
    } in
    subst (λ fs. EndsAmidList fs before after error) split ended

-- a call that had no memory for the line of a function
pub unwritten : {A : Type 0} (r : Result A ReportFault) (state : SinkState)
    → IsErrAnd r (λ fault. fault ≡ Lookup OutOfMemory)
    → IfErr r (EndsListEarly [] state state)
unwritten (Ok done) state is = tt
unwritten (Err fault) state is =
    subst (EndsListEarly [] state state) (sym is) (ends_unlisted [] state OutOfMemory refl)
