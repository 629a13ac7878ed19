-- Steps of the iterator over the functions of a program.
use Rattle.std.specs.Prelude.{◌≡◌, ℕ, List, [], ◌∷◌, ◌++◌, Option, Some, None, Result, Ok, Err}
use Rattle.std.specs.Vec.Iter.{into_iter_items}
use Rattle.pdb_errors.specs.declared.error.Error.{Error}
use Rattle.pdb_errors.specs.declared.error.Error.TheVariants.{OutOfMemory}
use Rattle.pdb_records.specs.Provided.{ProviderInfos}
use Rattle.pdb_function_info.specs.declared.function.Function.{Function}
use Rattle.pdb_addr2line.specs.declared.function_iter.FunctionIter.{FunctionIter}
use Rattle.pdb_function_info.specs.Function.{FunctionInfo, function_view}
use Rattle.pdb_addr2line.specs.FunctionIter.{functions_at, after_function, after_functions, OnlyGainsBroken}
use Rattle.pdb_addr2line.specs.Lookups.{function_at}
use Rattle.pdb_addr2line.specs.ContextInputs.{ContextState}

-- the addresses that an iterator hasn't tried yet
abbrev pub untried : {P : Type 0} → FunctionIter P → List ℕ
untried it = into_iter_items it.untried

-- the context that an iterator uses
abbrev pub lender : {P : Type 0} → FunctionIter P → ContextState P
lender it = it.context.now

-- the iterator skips addresses without a function, and others are left; the context found no function at those
pub record Passes {P : Type 0} (info : P → ProviderInfos) (before after : ContextState P) (all passed left : List ℕ)
    : Type 0 where
  pub split : all ≡ passed ++ left
  pub none : functions_at info before.inputs passed ≡ []
  pub state : after ≡ after_functions info before passed

-- after skipped addresses, the context found a function at the next one
pub record Finds {P : Type 0} (info : P → ProviderInfos) (before after : ContextState P) (all left : List ℕ)
    (found : FunctionInfo) : Type 0 where
  pub passed : List ℕ
  pub address : ℕ
  pub between : ContextState P
  pub passes : Passes info before between all passed (address ∷ left)
  pub function : function_at info before.inputs address ≡ Some found
  pub state : after ≡ after_function info between address

-- after skipped addresses, the context had an allocation failure at the next one
pub record Fails {P : Type 0} (info : P → ProviderInfos) (before after : ContextState P) (all left : List ℕ)
    (error : Error)
    : Type 0 where
  pub passed : List ℕ
  pub address : ℕ
  pub between : ContextState P
  pub passes : Passes info before between all passed (address ∷ left)
  pub memory : error ≡ OutOfMemory
  pub interrupted : OnlyGainsBroken info between after

-- the next answer for untried addresses, and the addresses left after it: the first function, or an allocation failure;
-- `None` if no address has a function
abbrev pub Continues : {P : Type 0} → (P → ProviderInfos) → ContextState P → ContextState P → List ℕ → List ℕ
    → Option (Result Function Error) → Type 0
Continues info before after all left (Some (Ok function)) = Finds info before after all left (function_view function)
Continues info before after all left (Some (Err error)) = Fails info before after all left error
Continues info before after all left None = (left ≡ []) × Passes info before after all all left

-- the next answer of an iterator, which keeps the context that it uses
pub record ContinuesNext {P : Type 0} (info : P → ProviderInfos) (before : FunctionIter P)
    (answer : Option (Result Function Error))
    (after : FunctionIter P) : Type 0 where
  pub same_reference : after.context.ghost_name ≡ before.context.ghost_name
  pub matches : Continues info (lender before) (lender after) (untried before) (untried after) answer
