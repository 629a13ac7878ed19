-- Sets of indices, by their numbers.
use Rattle.std.proofs.Common.{◌≡◌, ◌∙◌, ℕ, ◌+◌, ◌<◌, Bool, true, false, cond, eqb, List, [], ◌∷◌, ◌++◌, length, drop}
use Rattle.std.proofs.Common.{get_or, refl, ap, arith}
use Rattle.std.specs.Prelude.{◌||◌}
use Rattle.std.specs.Ordering.{nat_cmp, is_eq}
use Rattle.std.specs.BTreeSet.{BTreeSet, Updates}
use Rattle.std.proofs.lemmas.Bool.{cases_eq}
use Rattle.std.proofs.lemmas.Bool.Decides.{nat_tests}
use Rattle.std.proofs.lemmas.List.{drop_more}
use Rattle.std.proofs.lemmas.List.Folds.{list_any-append}
use Rattle.pdb_records.specs.declared.types.TypeIndex.{TypeIndex}
use Rattle.pdb_type_texts.specs.Seen.{has, holds, base}

-- two numbers tie where they are equal
at_number : (k q : ℕ) → is_eq (nat_cmp k q) ≡ eqb q k
at_number k q = grind (arith, cases_eq q k)

-- what a set has that was given one index, or from which one was taken
has-updated : (old new : BTreeSet TypeIndex) (index : TypeIndex) (b : Bool)
    → Updates (λ a b. nat_cmp a.0 b.0) old new index b → (q : ℕ) → has new q ≡ cond (eqb q index.0) b (has old q)
has-updated old new index b updates q = updates.0 (record { 0 = q }) ∙ ap (λ t. cond t b (has old q))
    (at_number index.0 q)

-- a set with one more index has that besides
pub has-added : (old new : BTreeSet TypeIndex) (index : TypeIndex)
    → Updates (λ a b. nat_cmp a.0 b.0) old new index true → (q : ℕ) → has new q ≡ (has old q || eqb q index.0)
has-added old new index updates q = grind (arith, nat_tests, has-updated old new index true updates q)

-- what stood before a level stays where the level puts in an index that was not there
pub base-added : (old new : BTreeSet TypeIndex) (inserted more : List TypeIndex) (index : TypeIndex)
    → more ≡ inserted ++ (index ∷ []) → has old index.0 ≡ false → Updates (λ a b. nat_cmp a.0 b.0) old new index true
    → (q : ℕ) → base new more q ≡ base old inserted q
base-added old new inserted more index pushed absent updates q =
    rw (pushed, list_any-append (λ x. eqb q x.0) inserted (index ∷ []), has-updated old new index true updates q)
    (grind (arith, nat_tests, absent))

-- what stands without the rest stays where the next of the rest is taken out
pub base-removed : (old new : BTreeSet TypeIndex) (indices : List TypeIndex) (i : ℕ) (index other : TypeIndex)
    → i < length indices → index ≡ get_or indices i other → Updates (λ a b. nat_cmp a.0 b.0) old new index false
    → (q : ℕ) → base new (drop (i + 1) indices) q ≡ base old (drop i indices) q
base-removed old new indices i index other within is updates q =
    let held : holds (drop i indices) q ≡ (eqb q index.0 || holds (drop (i + 1) indices) q) =
    rw (drop_more indices i other within, ← is) refl in
    rw (has-updated old new index false updates q, held) (grind (arith, nat_tests))
