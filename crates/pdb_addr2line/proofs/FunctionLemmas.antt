-- The functions of a program, one after the other.
use Rattle.std.proofs.Common.{zero, suc, ◌≡◌, ℕ, ◌+◌, ◌<◌, List, [], ◌∷◌, ◌++◌, length, take, get_or, refl, subst}
use Rattle.std.specs.Prelude.{Result, Ok, Err, OnErr}
use Rattle.std.proofs.lemmas.List.{take_more}
use Rattle.std.proofs.lemmas.List.Elements.{filter_map-append}
use Rattle.std.proofs.lemmas.List.Sums.{fold-append}
use Rattle.pdb_records.specs.Provided.{ProviderInfos}
use Rattle.pdb_addr2line.specs.FunctionIter.{functions_at, after_function, after_functions, OnlyGainsBroken, IsCutShort}
use Rattle.pdb_addr2line.specs.Lookups.{function_at}
use Rattle.pdb_addr2line.specs.ContextInputs.{ContextInputs, ContextState}

-- answering functions leaves a context's inputs unchanged
pub inputs_stay : {P : Type 0} (info : P → ProviderInfos) (c : ContextState P) (addresses : List ℕ)
    → (after_functions info c addresses).inputs ≡ c.inputs
inputs_stay info c [] = refl
inputs_stay info c (address ∷ addresses) = inputs_stay info (after_function info c address) addresses

-- a context once it answered the function over one address more
pub after_one_more : {P : Type 0} (info : P → ProviderInfos) (c between after : ContextState P) (addresses : List ℕ)
    (i : ℕ) → i < length addresses
    → between ≡ after_functions info c (take i addresses)
    → after ≡ after_function info between (get_or addresses i 0)
    → after ≡ after_functions info c (take (i + 1) addresses)
after_one_more info c between after addresses i below first next =
    rw (take_more addresses i 0 below, fold-append (after_function info) c (take i addresses) _, ← first) next

-- the functions over one address more
pub functions_one_more : {P : Type 0} (info : P → ProviderInfos) (s : ContextInputs P) (addresses : List ℕ) (i : ℕ)
    → i < length addresses
    → functions_at info s (take (i + 1) addresses)
    ≡ functions_at info s (take i addresses) ++ functions_at info s (get_or addresses i 0 ∷ [])
functions_one_more info s addresses i below = rw (take_more addresses i 0 below)
    (filter_map-append (function_at info s) (take i addresses) (get_or addresses i 0 ∷ []))

-- nothing is the beginning of nothing
take_nil : (n : ℕ) → take {A = ℕ} n [] ≡ []
take_nil zero = refl
take_nil (suc n) = refl

-- cut short at one address, after others
pub cut_short_later : {P : Type 0} (info : P → ProviderInfos) (c between after : ContextState P) (addresses : List ℕ)
    (i : ℕ) → i < length addresses
    → between ≡ after_functions info c (take i addresses)
    → IsCutShort info between after (get_or addresses i 0 ∷ [])
    → IsCutShort info c after addresses
cut_short_later {P = P} info c between after addresses i below first cut = by_done cut.done cut.interrupted where
  address : ℕ
  address = get_or addresses i 0

  by_done : (done : ℕ) → OnlyGainsBroken info (after_functions info between (take done (address ∷ []))) after
      → IsCutShort info c after addresses
  by_done zero interrupted = record { done = i; interrupted = rw first at interrupted }
  by_done (suc n) interrupted =
      let one : OnlyGainsBroken info (after_function info between address) after =
      subst (λ xs. OnlyGainsBroken info (after_functions info between (address ∷ xs)) after) (take_nil n) interrupted in
      let state = after_one_more info c between (after_function info between address) addresses i below first refl in
      record { done = i + 1; interrupted = rw state at one }

-- what holds anyway holds on an error
pub on_error : {A E : Type 0} (r : Result A E) {fact : Type 0} → fact → OnErr r fact
on_error (Ok a) fact = tt
on_error (Err e) fact = fact
