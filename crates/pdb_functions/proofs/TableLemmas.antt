-- What tables of segments find is what is defined.
use Rattle.std.proofs.Common.{◌≡◌, ◌∙◌, ℕ, Bool, true, false, cond, List, [], ◌∷◌, map, Option, Some, None, refl, sym, ap, arith}
use Rattle.std.specs.Prelude.{option_map, option_and_then, IfSome, zero, suc}
use Rattle.std.specs.Option.{option_or, option_map_or}
use Rattle.std.specs.List.{slice_get}
use Rattle.std.proofs.lemmas.Bool.Decides.{nat_tests}
use Rattle.pdb_records.specs.declared.addresses.PdbInternalSectionOffset.{PdbInternalSectionOffset}
use Rattle.pdb_tables.specs.Pick.{pick}
use Rattle.pdb_tables.proofs.PickLemmas.{map-pick}
use Rattle.pdb_functions.specs.declared.procedures.ProcedureSymbolFunction.{ProcedureSymbolFunction}
use Rattle.pdb_tables.specs.Last.{last_over}
use Rattle.pdb_functions.specs.Procedures.{module_procedure}
use Rattle.pdb_functions.specs.Spans.{procedure_covers}
use Rattle.pdb_functions.specs.Starts.{is_before, StartsAscend}
use Rattle.pdb_functions.proofs.SectionOffsetLemmas.{climbs_in_section, is_before_test}
use Rattle.pdb_tables.proofs.LastLemmas.{pick-last, last_over-or}

-- where the position of a span is painted over another, that span is at the one that shows
pub painted_position : {T : Type 0} (spans : List T) (position : ℕ) (span : T) (over : Bool) (before : Option ℕ)
    → slice_get spans position ≡ Some span
    → option_and_then (slice_get spans) (cond over (Some position) before)
    ≡ cond over (Some span) (option_and_then (slice_get spans) before)
painted_position spans position span true before got = got
painted_position spans position span false before got = refl

-- of procedures that ascend the last one over a section offset starts last
pub last_procedure : (section_offset : PdbInternalSectionOffset) (ps : List ProcedureSymbolFunction)
    → StartsAscend (λ p. p.offset) ps
    → option_map module_procedure (last_over (λ p. procedure_covers section_offset (module_procedure p)) None ps)
    ≡ pick (procedure_covers section_offset) (λ p. p.offset.offset) (map module_procedure ps)
last_procedure section_offset ps up =
    let over = λ (p : ProcedureSymbolFunction). procedure_covers section_offset (module_procedure p) in
    let climbs = climbs_in_section over (λ p. p.offset) section_offset.section within ps up in
    ap (λ o. option_map module_procedure o) (sym (pick-last over (λ p. p.offset.offset) ps climbs))
    ∙ map-pick module_procedure (procedure_covers section_offset) (λ p. p.offset.offset) ps
  where
    within : (p : ProcedureSymbolFunction) → procedure_covers section_offset (module_procedure p) ≡ true
        → p.offset.section ≡ section_offset.section
    within p covers = grind (arith, nat_tests)

-- what starts after a section offset doesn't lie over it, nor does what follows it
none_covers_behind : (section_offset : PdbInternalSectionOffset) (before : Option ProcedureSymbolFunction)
    (p : ProcedureSymbolFunction) (ps : List ProcedureSymbolFunction)
    → is_before section_offset p.offset ≡ true → StartsAscend (λ q. q.offset) (p ∷ ps)
    → last_over (λ q. procedure_covers section_offset (module_procedure q)) before (p ∷ ps) ≡ before
none_covers_behind section_offset before p [] behind up =
    let h = rw (is_before_test section_offset p.offset) at behind in
    let fails : procedure_covers section_offset (module_procedure p) ≡ false = grind (arith, nat_tests) in
    rw fails refl
none_covers_behind section_offset before p (q ∷ qs) behind up =
    let h = rw (is_before_test section_offset p.offset) at behind in
    let k = rw (is_before_test p.offset q.offset) at up.0.0 in
    let fails : procedure_covers section_offset (module_procedure p) ≡ false = grind (arith, nat_tests) in
    let next : is_before section_offset q.offset ≡ true =
    rw (is_before_test section_offset q.offset) (grind (arith, nat_tests)) in
    rw fails (none_covers_behind section_offset before q qs next up.1)

-- of procedures that ascend one over a section offset is the last where the next one starts after it
pub last_at_position : (section_offset : PdbInternalSectionOffset) (ps : List ProcedureSymbolFunction) (position : ℕ)
    (p : ProcedureSymbolFunction) → StartsAscend (λ q. q.offset) ps → slice_get ps position ≡ Some p
    → procedure_covers section_offset (module_procedure p) ≡ true
    → IfSome (slice_get ps (suc position)) (λ q. is_before section_offset q.offset ≡ true)
    → Some p ≡ last_over (λ q. procedure_covers section_offset (module_procedure q)) None ps
last_at_position section_offset [] position p up got covers next = cc
last_at_position section_offset (x ∷ xs) zero p up got covers next =
    let over = λ (q : ProcedureSymbolFunction). procedure_covers section_offset (module_procedure q) in
    let same : Some x ≡ Some p = got in
    first xs up next ∙ ap (λ t. last_over over (cond t (Some x) None) xs)
    (sym (ap (λ o. option_map_or over o false) same ∙ covers))
  where
    first : (ys : List ProcedureSymbolFunction) → StartsAscend (λ q. q.offset) (x ∷ ys)
        → IfSome (slice_get ys 0) (λ q. is_before section_offset q.offset ≡ true)
        → Some p ≡ last_over (λ q. procedure_covers section_offset (module_procedure q)) (Some x) ys
    first [] up next = sym got
    first (y ∷ ys) up next = sym (none_covers_behind section_offset (Some x) y ys next up.1 ∙ got)
last_at_position section_offset (x ∷ xs) (suc position) p up got covers next =
    let over = λ (q : ProcedureSymbolFunction). procedure_covers section_offset (module_procedure q) in
    sym (last_over-or over (cond (over x) (Some x) None) xs
    ∙ ap (λ o. option_or o (cond (over x) (Some x) None))
    (sym (last_at_position section_offset xs position p up.1 got covers next)))
