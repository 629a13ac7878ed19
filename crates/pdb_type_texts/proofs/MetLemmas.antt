-- Which parts of the records printing meets broken doesn't depend on those that failed before, so that what was printed
-- once adds none again.
use Rattle.std.proofs.Common.{arith, ◌≡◌, ◌∙◌, List, [], ◌∷◌, ◌++◌, refl, sym, ap}
use Rattle.std.specs.Prelude.{Option, Some, None}
use Rattle.std.specs.List.{AllByRecursion}
use Rattle.std.specs.Ordering.{ordering_reverse}
use Rattle.std.specs.declared.cmp.Ordering.TheVariants.{Less, Equal, Greater}
use Rattle.std.proofs.lemmas.Cmp.{ranked, nat_cmp_total}
use Rattle.pdb_types.specs.declared.read_error.Part.{Part}
use Rattle.pdb_types.specs.declared.read_error.Part.TheVariants.{Imports, Exports}
use Rattle.pdb_types.specs.FailedParts.{Parts, part_cmp, with_part}
use Rattle.pdb_type_texts.specs.BrokenParts.{with_parts, Settled}
use Rattle.pdb_type_texts.specs.Documents.{PrintError, Document, Text, Seq, Buffered, Catch, Fail, Ask, Met, run}
use Rattle.pdb_type_texts.proofs.AlikeLemmas.{alike-runs}

-- ---- the order of parts

-- parts that compare equal are equal
part_exact : (p q : Part) → part_cmp p q ≡ Equal → p ≡ q
part_exact (Imports a) (Imports b) tie = ap Imports (ranked a b Equal (sym tie))
part_exact (Exports a) (Exports b) tie = ap Exports (ranked a b Equal (sym tie))
part_exact _ _ tie = cc

-- the other way round they compare the other way round
part_turned : (p q : Part) → part_cmp p q ≡ ordering_reverse (part_cmp q p)
part_turned (Imports a) (Imports b) = nat_cmp_total.antisymm a b
part_turned (Exports a) (Exports b) = nat_cmp_total.antisymm a b
part_turned _ _ = refl

-- what is before a part that is before another is before that
part_chain : (p q r : Part) → part_cmp p q ≡ Less → part_cmp q r ≡ Less → part_cmp p r ≡ Less
part_chain (Imports a) (Imports b) (Imports c) before then = nat_cmp_total.trans a b c before then
part_chain (Exports a) (Exports b) (Exports c) before then = nat_cmp_total.trans a b c before then
part_chain (Imports a) q (Exports c) before then = refl
part_chain _ _ _ before then = cc

-- ---- failed parts, and more

-- a part and then a later one are put among others as the other way round
in_turn : (failed : Parts) (p q : Part) → part_cmp p q ≡ Less → part_cmp q p ≡ Greater
    → with_part (with_part failed p) q ≡ with_part (with_part failed q) p
in_turn [] p q before after = simp (before, after)
in_turn (x ∷ xs) p q before after = grind (arith, in_turn xs p q before after, part_chain p q x before, part_exact q x)

-- it doesn't matter which of two parts failed first
pub with_part-commutes : (failed : Parts) (p q : Part)
    → with_part (with_part failed p) q ≡ with_part (with_part failed q) p
with_part-commutes failed p q = grind (arith, in_turn failed p q, in_turn failed q p, part_exact p q, part_turned q p)

-- a part that compares equal to another is put where that is
part_itself : (p : Part) → part_cmp p p ≡ Equal
part_itself p = grind (arith, part_turned p p)

-- a part that failed and fails again is there once
pub with_part-twice : (failed : Parts) (p : Part) → with_part (with_part failed p) p ≡ with_part failed p
with_part-twice [] p = simp (part_itself p)
with_part-twice (x ∷ xs) p = grind (arith, part_itself p, with_part-twice xs p)

-- more parts, and then more
pub with_parts-append : (failed : Parts) (first second : List Part)
    → with_parts (with_parts failed first) second ≡ with_parts failed (first ++ second)
with_parts-append failed [] second = refl
with_parts-append failed (part ∷ first) second = with_parts-append (with_part failed part) first second

-- a part is among those that failed
abbrev IsIn : Parts → Part → Type 0
IsIn failed p = with_part failed p ≡ failed

-- it stays there as more fail
in_more : (failed : Parts) (added : List Part) (p : Part) → IsIn failed p → IsIn (with_parts failed added) p
in_more failed [] p held = held
in_more failed (q ∷ added) p held =
    in_more (with_part failed q) added p (with_part-commutes failed q p ∙ ap (λ f. with_part f q) held)

-- and so do all of some
all_in_more : (failed : Parts) (added ps : List Part) → AllByRecursion (IsIn failed) ps
    → AllByRecursion (IsIn (with_parts failed added)) ps
all_in_more failed added [] held = tt
all_in_more failed added (p ∷ ps) held = (in_more failed added p held.0, all_in_more failed added ps held.1)

-- parts that were added are there
all_in : (failed : Parts) (ps : List Part) → AllByRecursion (IsIn (with_parts failed ps)) ps
all_in failed [] = tt
all_in failed (p ∷ ps) = (in_more (with_part failed p) ps p (with_part-twice failed p), all_in (with_part failed p) ps)

-- parts that are there add none
none_added : (failed : Parts) (ps : List Part) → AllByRecursion (IsIn failed) ps → with_parts failed ps ≡ failed
none_added failed [] held = refl
none_added failed (p ∷ ps) held = ap (λ f. with_parts f ps) held.0 ∙ none_added failed ps held.1

-- ---- the parts that a document meets

-- the parts that one document meets, and another unless it fails
abbrev met_then : Option PrintError → List Part → List Part → List Part
met_then (Some failure) first second = first
met_then None first second = first ++ second

-- the parts of the records that printing a document meets broken, in turn
abbrev met : Document → List Part
met (Text t) = []
met (Seq a b) = met_then (run a []).fault (met a) (met b)
met (Buffered a u v) = met a
met (Catch a) = met a
met (Fail e) = []
met (Ask part e) = part ∷ []
met (Met part) = part ∷ []

-- printing a document adds the parts that it meets
run-met : (d : Document) (failed : Parts) → (run d failed).failed ≡ with_parts failed (met d)
run-met (Seq a b) failed =
    grind (arith, run-met a failed, run-met b, (alike-runs a failed []).fault, with_parts-append failed (met a) (met b))
run-met (Buffered a u v) failed = grind (arith, run-met a failed)
run-met (Catch a) failed = grind (arith, run-met a failed)
run-met _ failed = refl

-- ---- what was printed once

-- what was printed adds no part when it is printed again
pub settled-printed : (d : Document) (failed : Parts) → Settled (run d) (run d failed).failed
settled-printed d failed =
    let more = run-met d failed in
    run-met d (run d failed).failed ∙ rw more (none_added (with_parts failed (met d)) (met d) (all_in failed (met d)))

-- what adds no part adds none after others failed
pub settled-more : (d : Document) (failed : Parts) (added : List Part) → Settled (run d) failed
    → Settled (run d) (with_parts failed added)
settled-more d failed added settled =
    let held = rw (sym (run-met d failed) ∙ settled) at (all_in failed (met d)) in
    run-met d (with_parts failed added) ∙ none_added (with_parts failed added) (met d)
    (all_in_more failed added (met d) held)
