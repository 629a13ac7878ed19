-- The list of covered runs, of which the last ones are the top.
use Rattle.std.proofs.Common.{◌≡◌, ◌∙◌, ℕ, suc, ◌-◌, ◌<◌, ◌≤◌, Bool, ◌||◌, ◌&&◌, List, [], ◌∷◌, ◌++◌, Some}
use Rattle.std.proofs.Common.{length, take, refl, sym, arith, drop-cons}
use Rattle.std.specs.List.{slice_get}
use Rattle.std.specs.Prelude.{nat_lt}
use Rattle.std.proofs.lemmas.Bool.Decides.{nat_tests}
use Rattle.std.proofs.lemmas.List.{drop_all, reverse-append, take-append-drop}
use Rattle.std.proofs.lemmas.Option.{get_or_from_slice_get, slice_get_within}
use Rattle.pdb_tables.specs.RangeSet.{is_within, has}
use Rattle.pdb_tables.proofs.HasLemmas.{has-append}
use Rattle.pdb_inline.specs.declared.missing_rows.CoveredRun.{CoveredRun}
use Rattle.pdb_inline.specs.CoveredRuns.{is_on_stack}

-- a list whose last element is known is what is before it, and that element
pub ends_with : {A : Type 0} (xs : List A) (n : ℕ) (x : A) → n ≡ length xs → slice_get xs (n - 1) ≡ Some x
    → xs ≡ take (n - 1) xs ++ x ∷ []
ends_with xs n x len last =
    let within : n - 1 < length xs = slice_get_within xs (n - 1) x last in
    sym (take-append-drop (n - 1) xs)
    ∙ rw (
      drop-cons xs (n - 1) x within,
      get_or_from_slice_get xs (n - 1) x x last,
      drop_all (suc (n - 1)) xs (omega arith),
    )

-- a run that is pushed is the top
pub is_on_stack-push : (depth : ℕ) (runs : List CoveredRun) (run : CoveredRun) (x : ℕ)
    → is_on_stack depth (runs ++ run ∷ []) x ≡
    (nat_lt depth run.depth && (is_within run.start run.end x || is_on_stack depth runs x))
is_on_stack-push depth runs run x = rw (reverse-append runs (run ∷ [])) refl

-- the top run goes from the stack to those that are taken
pub take_top : (depth d x : ℕ) (before : Bool) (taken : List (ℕ × ℕ)) (stack rest : List CoveredRun) (run : CoveredRun)
    → before ≡ (has taken x || is_on_stack d stack x) → stack ≡ rest ++ run ∷ [] → d ≤ depth → depth < run.depth
    → before ≡ (has (taken ++ (run.start, run.end) ∷ []) x || is_on_stack d rest x)
take_top depth d x before taken stack rest run was is below deeper =
    was ∙ rw (is, is_on_stack-push d rest run x, has-append taken ((run.start, run.end) ∷ []) x)
    (grind (arith, nat_tests))
