-- A plan unfolds to one document.
use Rattle.std.proofs.Common.{◌≡◌, ◌^◌, ℕ, ◌<◌, true, List, [], refl, ap}
use Rattle.std.specs.Prelude.{Some, Ok}
use Rattle.pdb_records.specs.Readings.{Read}
use Rattle.pdb_records.specs.declared.types.Item.{Item}
use Rattle.pdb_records.specs.declared.types.TypeIndex.{TypeIndex}
use Rattle.pdb_records.specs.declared.types.TypeData.{TypeData}
use Rattle.pdb_records.specs.declared.ids.IdIndex.{IdIndex}
use Rattle.pdb_records.specs.declared.ids.IdData.{IdData}
use Rattle.pdb_types.specs.declared.flags.TypeFormatterFlags.{TypeFormatterFlags}
use Rattle.pdb_errors.specs.declared.error.Error.TheVariants.{CircularTypeDefinition}
use Rattle.pdb_errors.specs.Errors.{Plain}
use Rattle.pdb_types.specs.FailedParts.{Parts}
use Rattle.pdb_types.specs.TypeInputs.{LinkInputs, TypeInputs, link_inputs}
use Rattle.pdb_records.specs.Provided.{ProviderInfos}
use Rattle.pdb_types.proofs.ReadingLemmas.{reading-below}
use Rattle.pdb_type_texts.specs.Documents.{Document, OfError, run}
use Rattle.pdb_type_texts.specs.Documents as document
use Rattle.pdb_type_texts.specs.PrintInputs.{PrintInputs, type_at, id_at, print_inputs_of, formatter_inputs}
use Rattle.pdb_type_texts.specs.Plans.{Index, Id, Plan, Later, is_among}
use Rattle.pdb_type_texts.specs.Rules.{rule}
use Rattle.pdb_type_texts.specs.Unfolding.{Unfolds, done, later, seq, buffered, catch, Runs}
use Rattle.pdb_type_texts.proofs.RuleLemmas.{IsBelow}

-- two documents that a plan unfolds to are one
pub unfolds_once : {w : PrintInputs} {p : Plan} {a b : Document} → Unfolds w p a → Unfolds w p b → a ≡ b
unfolds_once done done = refl
unfolds_once (later x) (later y) = unfolds_once x y
unfolds_once (seq x y) (seq x' y') = cc (unfolds_once x x', unfolds_once y y')
unfolds_once (buffered x) (buffered y) = cc (unfolds_once x y)
unfolds_once (catch x) (catch y) = cc (unfolds_once x y)

-- only indices of 32 bits lead to types
type_at-below : (link_inputs : LinkInputs) (types : Read (Item TypeIndex TypeData)) (module_index i : ℕ)
    (type : TypeData) → type_at link_inputs types module_index i ≡ Ok type → i < 2 ^ 32
unfolding type_at
type_at-below link_inputs types module_index i type found =
    reading-below (λ index. index.0) link_inputs types module_index i (λ read. Ok read.1) type found

-- only indices of 32 bits lead to ids
id_at-below : (link_inputs : LinkInputs) (ids : Read (Item IdIndex IdData)) (module_index i : ℕ) (id : IdData)
    → id_at link_inputs ids module_index i ≡ Ok id → i < 2 ^ 32
unfolding id_at
id_at-below link_inputs ids module_index i id found = reading-below (λ index. index.0) link_inputs ids module_index i
    (λ read. Ok read.1) id found

-- only indices of 32 bits lead to types and to ids
pub print_inputs-below : (link_inputs : LinkInputs) (types : Read (Item TypeIndex TypeData))
    (ids : Read (Item IdIndex IdData)) (pointer : ℕ) (flags : TypeFormatterFlags) (module_index : ℕ)
    → IsBelow (2 ^ 32) (print_inputs_of link_inputs types ids pointer flags module_index)
print_inputs-below link_inputs types ids pointer flags module_index =
    record { types = type_at-below link_inputs types module_index; ids = id_at-below link_inputs ids module_index }

-- the same, for the print inputs of a formatter
pub formatter-below : {P : Type 0} (info : P → ProviderInfos) (s : TypeInputs P) (module_index : ℕ)
    → IsBelow (2 ^ 32) (formatter_inputs info s module_index)
formatter-below info s module_index =
    print_inputs-below (link_inputs info s) s.types s.ids s.pointer_size s.flags module_index

-- an index that is printed while it is open has the document of that error
pub inside-circular : (w : PrintInputs) (inside : List ℕ) (index : ℕ) (type : TypeData) → w.read index ≡ Ok type
    → is_among index inside ≡ true
    → Unfolds w (Later inside (Index index)) (document.Fail (OfError (Plain (CircularTypeDefinition index))))
inside-circular w inside index type found open_already = later (rw (found, open_already) done)

-- printing it does nothing but fail
pub inside-refused : (w : PrintInputs) (inside : List ℕ) (index : ℕ) (type : TypeData) → w.read index ≡ Ok type
    → is_among index inside ≡ true → (failed : Parts)
    → Runs w (Later inside (Index index)) failed
    (record { text = []; fault = Some (OfError (Plain (CircularTypeDefinition index))); failed = failed })
inside-refused w inside index type found open_already failed d unfolds =
    ap (λ (e : Document). run e failed) (unfolds_once unfolds (inside-circular w inside index type found open_already))

-- an id that was met before does nothing but fail, and isn't read
pub scope-refused : (w : PrintInputs) (inside met : List ℕ) (index : ℕ) → is_among index met ≡ true → (failed : Parts)
    → Runs w (Later inside (Id met index)) failed
    (record { text = []; fault = Some (OfError (Plain (CircularTypeDefinition index))); failed = failed })
scope-refused w inside met index among failed d unfolds =
    let fail : Document = document.Fail (OfError (Plain (CircularTypeDefinition index))) in
    let fails : Unfolds w (rule w inside (Id met index)) fail = rw among done in
    ap (λ (e : Document). run e failed) (unfolds_once unfolds (later fails))
