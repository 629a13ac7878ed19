-- Pops, one by one.
use Rattle.std.proofs.Common.{◌≡◌, ℕ, zero, suc, ◌+◌, ◌-◌, ◌<◌, List, drop, Option, Some, None, refl, ap, ◌∙◌, arith}
use Rattle.pe_unwind.specs.Epilogues.{first_pop, first_pops, pop_undone, pops_by, pops_rest, pops_undone}
use Rattle.pe_unwind.specs.Epilogues.{rest_by}
use Rattle.pe_unwind.specs.declared.epilogues.Pop.{Pop}
use Rattle.pe_unwind.specs.declared.rules.Unwound.{Unwound}

-- before any pop all are left
pub all_pops : (code : List ℕ) (u : Unwound) → first_pops code u ≡ pops_undone 16 code u
unfolding first_pops
all_pops code u = refl

-- with the next pop undone, what is left is what those behind it do
pub one_pop_more : (counter : ℕ) (code : List ℕ) (u : Unwound) (pop : Pop) → counter < 16
    → first_pop code ≡ Some pop
    → pops_undone (16 - counter) code u ≡ pops_undone (16 - (counter + 1)) (drop pop.size code) (pop_undone pop u)
one_pop_more counter code u pop some is =
    let more : 16 - counter ≡ suc (16 - (counter + 1)) = omega arith in
    let read : pops_undone (suc (16 - (counter + 1))) code u
    ≡ pops_undone (16 - (counter + 1)) (drop pop.size code) (pop_undone pop u)
    = ap (pops_by (pops_undone (16 - (counter + 1))) code u) is in
    ap (λ n. pops_undone n code u) more ∙ read

-- where no pop is next, no more are undone
pub no_pop_more : (count : ℕ) (code : List ℕ) (u : Unwound) → first_pop code ≡ None
    → pops_undone count code u ≡ (u, code)
no_pop_more zero code u is = refl
no_pop_more (suc count) code u is = ap (pops_by (pops_undone count) code u) is

-- where as many are undone as may be, no more are
pub pops_end : (counter : ℕ) (code : List ℕ) (u : Unwound) → 16 - counter ≡ 0
    → pops_undone (16 - counter) code u ≡ (u, code)
pops_end counter code u end = ap (λ n. pops_undone n code u) end

-- what is behind pops doesn't depend on what they do
pub pops_undone-rest : (count : ℕ) (code : List ℕ) (u : Unwound) → (pops_undone count code u).1 ≡ pops_rest count code
pops_undone-rest zero code u = refl
pops_undone-rest (suc count) code u =
    by_pop (first_pop code) (λ pop. pops_undone-rest count (drop pop.size code) (pop_undone pop u))
  where
    by_pop : (found : Option Pop)
        → ((pop : Pop) → (pops_undone count (drop pop.size code) (pop_undone pop u)).1
        ≡ pops_rest count (drop pop.size code))
        → (pops_by (pops_undone count) code u found).1 ≡ rest_by (pops_rest count) code found
    by_pop None others = refl
    by_pop (Some pop) others = others pop

-- what is behind the pops that code begins with
pub first_pops-rest : (code : List ℕ) (u : Unwound) → (first_pops code u).1 ≡ pops_rest 16 code
unfolding first_pops
first_pops-rest code u = pops_undone-rest 16 code u

-- with the next pop passed, what is left is what is behind those that follow it
pub one_pop_passed : (counter : ℕ) (code : List ℕ) (pop : Pop) → counter < 16 → first_pop code ≡ Some pop
    → pops_rest (16 - counter) code ≡ pops_rest (16 - (counter + 1)) (drop pop.size code)
one_pop_passed counter code pop some is =
    let more : 16 - counter ≡ suc (16 - (counter + 1)) = omega arith in
    let read : pops_rest (suc (16 - (counter + 1))) code ≡ pops_rest (16 - (counter + 1)) (drop pop.size code)
    = ap (rest_by (pops_rest (16 - (counter + 1))) code) is in
    ap (λ n. pops_rest n code) more ∙ read

-- where no pop is next, all is behind them
pub no_pop_passed : (count : ℕ) (code : List ℕ) → first_pop code ≡ None → pops_rest count code ≡ code
no_pop_passed zero code is = refl
no_pop_passed (suc count) code is = ap (rest_by (pops_rest count) code) is
