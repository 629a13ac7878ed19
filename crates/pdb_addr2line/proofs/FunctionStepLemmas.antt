-- The functions of a program, answered one by one.
use Rattle.std.proofs.Common.{◌≡◌, ◌∙◌, ℕ, true, false, List, [], ◌∷◌, ◌++◌, refl, sym, ap, append_assoc, MatchResult}
use Rattle.std.proofs.Common.{OnOk, OnErr}
use Rattle.std.specs.Prelude.{Option, Some, None, Result, Ok, Err, option_map}
use Rattle.std.specs.Option.{is_some}
use Rattle.std.specs.Result.{result_transpose}
use Rattle.std.proofs.lemmas.List.Elements.{filter_map-append}
use Rattle.std.proofs.lemmas.List.Sums.{fold-append}
use Rattle.pdb_errors.specs.declared.error.Error.{Error}
use Rattle.pdb_errors.specs.declared.error.Error.TheVariants.{OutOfMemory}
use Rattle.pdb_records.specs.Provided.{ProviderInfos}
use Rattle.pdb_function_info.specs.declared.function.Function.{Function}
use Rattle.pdb_function_info.specs.Function.{function_view}
use Rattle.pdb_addr2line.specs.FunctionIter.{after_function, OnlyGainsBroken}
use Rattle.pdb_addr2line.specs.FunctionSteps.{Passes, Continues}
use Rattle.pdb_addr2line.specs.Lookups.{function_at}
use Rattle.pdb_addr2line.specs.ContextInputs.{ContextState}
use Rattle.pdb_addr2line.proofs.FunctionLemmas.{inputs_stay}

-- a context's inputs stay while addresses are passed
passing_stays : {P : Type 0} {info : P → ProviderInfos} {before after : ContextState P} {all passed left : List ℕ}
    → Passes info before after all passed left → after.inputs ≡ before.inputs
passing_stays {info = info} {before = before} {passed = passed} passes =
    ap (λ c. c.inputs) passes.state ∙ inputs_stay info before passed

-- one address more is passed
passes_more : {P : Type 0} {info : P → ProviderInfos} {before between after : ContextState P}
    {all passed left : List ℕ} {address : ℕ}
    → Passes info before between all passed (address ∷ left)
    → function_at info before.inputs address ≡ None → after ≡ after_function info between address
    → Passes info before after all (passed ++ address ∷ []) left
passes_more {info = info} {before = before} {between = between} {passed = passed} {left = left}
    {address = address} passes nothing state =
    record {
      split = passes.split ∙ sym (append_assoc passed (address ∷ []) left);
      none = rw (filter_map-append (function_at info before.inputs) passed (address ∷ []), passes.none, nothing) refl;
      state = rw (state, passes.state) (sym (fold-append (after_function info) before passed (address ∷ [])));
    }

-- an address that nothing is answered for is passed
pub passed_here : {P : Type 0} (info : P → ProviderInfos) (before between after : ContextState P)
    (all passed rest left : List ℕ) (address : ℕ)
    (found : Result (Option Function) Error)
    → Passes info before between all passed rest → rest ≡ address ∷ left
    → MatchResult found (λ f. option_map function_view f ≡ function_at info between.inputs address)
    (λ e. e ≡ OutOfMemory)
    → OnOk found (after ≡ after_function info between address)
    → is_some (result_transpose found) ≡ false
    → Passes info before after all (passed ++ address ∷ []) left
passed_here info before between after all passed rest left address (Ok None) passes first answer state nothing =
    let none : function_at info before.inputs address ≡ None =
    ap (λ s. function_at info s address) (sym (passing_stays passes)) ∙ sym answer in
    passes_more (rw first at passes) none state
passed_here info before between after all passed rest left address _ passes first answer state nothing = absurd (cc)

-- what is answered for an address is answered next
pub answered_here : {P : Type 0} (info : P → ProviderInfos) (before between after : ContextState P)
    (all passed rest left : List ℕ) (address : ℕ)
    (found : Result (Option Function) Error)
    → Passes info before between all passed rest → rest ≡ address ∷ left
    → MatchResult found (λ f. option_map function_view f ≡ function_at info between.inputs address)
    (λ e. e ≡ OutOfMemory)
    → OnOk found (after ≡ after_function info between address)
    → OnErr found (OnlyGainsBroken info between after)
    → is_some (result_transpose found) ≡ true
    → Continues info before after all left (result_transpose found)
answered_here info before between after all passed rest left address
    (Ok None) passes first answer state interrupted something = absurd (cc)
answered_here info before between after all passed rest left address
    (Ok (Some f)) passes first answer state interrupted something =
    record {
      passed = passed;
      address = address;
      between = between;
      passes = rw first at passes;
      function = ap (λ s. function_at info s address) (sym (passing_stays passes)) ∙ sym answer;
      state = state;
    }
answered_here info before between after all passed rest left address
    (Err e) passes first answer state interrupted something =
    record {
      passed = passed;
      address = address;
      between = between;
      passes = rw first at passes;
      memory = answer;
      interrupted = interrupted;
    }
