-- Texts that are expanded step by step, and the fields of a line one by one.
use Rattle.std.proofs.Common.{◌≡◌, ◌∙◌, sym, ℕ, zero, suc, ◌+◌, ◌-◌, ◌<◌, ◌≤◌, List, [], ◌∷◌, length, refl, arith}
use Rattle.std.proofs.Common.{true, false, subst}
use Rattle.std.proofs.lemmas.Bool.Decides.{nat_tests}
use Rattle.std.specs.Prelude.{Option, None, Some, Result, Ok, Err, nat_lt, option_and_then}
use Rattle.pdb_source_urls.specs.Expansion.{Found, Given, Gives, Smaller, Value, expand, expand_from, field, found_seen}
use Rattle.pdb_source_urls.specs.Expansion.{next, value_seen}
use Rattle.pdb_source_urls.specs.TextCuts.{cut_at}
use Rattle.pdb_source_urls.specs.declared.expansion.ExpandError.{ExpandError}
use Rattle.pdb_source_urls.specs.declared.expansion.ExpandError.TheVariants.{NoValue, OutOfMemory}
use Rattle.pdb_source_urls.specs.declared.expansion.Expanded.{Expanded}
use Rattle.std.specs.Result.{IsErrAnd}

-- a field, by what follows the first one
pub field_more : (before index : ℕ) (rest : List ℕ) (cut : List ℕ × List ℕ) → index < before
    → cut_at 42 rest ≡ Some cut → field (before - (index + 1)) cut.1 ≡ field (before - index) rest
field_more before index rest cut below is =
    let more : before - index ≡ suc (before - (index + 1)) = omega arith in
    rw (more, is) refl

-- a text that isn't too long, where values may nest at all
pub expand_is : (depth : ℕ) (g : Given) (text : List ℕ) (used : ℕ) → 0 < depth → length text ≤ 4096
    → expand depth g text used
    ≡ expand_from (expand (depth - 1) g) g (length text) text (record { text = []; used = used })
unfolding expand
expand_is zero g text used some short = absurd (omega arith)
expand_is (suc depth) g text used some short =
    let lower : suc depth - 1 ≡ depth = omega arith in
    let fits : nat_lt 4096 (length text) ≡ false = grind (arith, nat_tests) in
    rw (fits, lower) refl

-- where values may not nest, or in a text that is too long, nothing is expanded
pub expand_none : (g : Given) (text : List ℕ) (used : ℕ) → expand 0 g text used ≡ None
unfolding expand
expand_none g text used = refl

pub expand_long : (depth : ℕ) (g : Given) (text : List ℕ) (used : ℕ) → 4096 < length text
    → expand depth g text used ≡ None
unfolding expand
expand_long zero g text used long = refl
expand_long (suc depth) g text used long =
    let over : nat_lt 4096 (length text) ≡ true = grind (arith, nat_tests) in
    rw over refl

module _ (smaller : Smaller) (g : Given) where
  -- the next step
  pub from_next : (count step byte : ℕ) (rest others : List ℕ) (done : Value) → step < count → rest ≡ byte ∷ others
      → expand_from smaller g (count - step) rest done ≡ option_and_then
      (λ part. expand_from smaller g (count - (step + 1)) part.rest part.value) (next smaller g byte others done)
  from_next count step byte rest others done below is =
      let more : count - step ≡ suc (count - (step + 1)) = omega arith in
      rw (more, is) refl

  -- no step is left
  pub from_end : (count step : ℕ) (rest : List ℕ) (done : Value) → count ≤ step
      → expand_from smaller g (count - step) rest done ≡ Some done
  from_end count step rest done over = let none : count - step ≡ 0 = omega arith in rw none refl

  -- nothing is left
  pub from_nothing : (steps : ℕ) (rest : List ℕ) (done : Value) → length rest ≡ 0
      → expand_from smaller g steps rest done ≡ Some done
  from_nothing zero rest done none = refl
  from_nothing (suc steps) [] done none = refl
  from_nothing (suc steps) (byte ∷ rest) done none = absurd (omega (arith, none))

  -- a step leaves what the text is expanded to
  pub step_kept : (count step byte : ℕ) (rest others : List ℕ) (done : Value) (part : Found) (whole : Option Value)
      → step < count → rest ≡ byte ∷ others → expand_from smaller g (count - step) rest done ≡ whole
      → next smaller g byte others done ≡ Some part
      → expand_from smaller g (count - (step + 1)) part.rest part.value ≡ whole
  step_kept count step byte rest others done part whole below is was found =
      sym (rw found at (from_next count step byte rest others done below is)) ∙ was

  -- where a step fails, the text isn't expanded
  pub step_fails : (count step byte : ℕ) (rest others : List ℕ) (done : Value) (error : ExpandError)
      (whole : Option Value) → step < count → rest ≡ byte ∷ others
      → expand_from smaller g (count - step) rest done ≡ whole
      → Gives found_seen (Err error) (next smaller g byte others done) → Gives value_seen (Err error) whole
  step_fails count step byte rest others done NoValue whole below is was fails =
      sym was ∙ rw fails at (from_next count step byte rest others done below is)
  step_fails count step byte rest others done OutOfMemory whole below is was fails = tt

-- a failure is passed on
pub passed_on : (result : Result Expanded ExpandError) (error : ExpandError) (whole : Option Value)
    → IsErrAnd result (λ given. given ≡ error) → Gives value_seen (Err error) whole → Gives value_seen result whole
passed_on (Ok x) error whole is fails = absurd is
passed_on (Err given) error whole is fails =
    subst (λ (same : ExpandError). Gives value_seen (Err same) whole) (sym is) fails
