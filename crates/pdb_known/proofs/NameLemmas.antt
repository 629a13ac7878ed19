-- Names over a part of the records and over the whole.
use Rattle.std.proofs.Common.{◌≡◌, ℕ, List, [], true, ap}
use Rattle.std.specs.Option.{option_or, option_map_or}
use Rattle.pdb_records.specs.Names.{lossy}
use Rattle.pdb_records.specs.declared.ids.IdIndex.{IdIndex}
use Rattle.pdb_records.specs.Provided.{ProviderInfos}
use Rattle.pdb_types.specs.FailedParts.{Parts}
use Rattle.pdb_types.specs.TypeInputs.{TypeInputs}
use Rattle.pdb_type_texts.specs.Documents.{Run, run, Document}
use Rattle.pdb_type_texts.specs.Printed.{signature_run, id_run}
use Rattle.pdb_type_texts.specs.PrintInputs.{formatter_inputs}
use Rattle.pdb_functions.specs.GlobalFunctions.{GlobalFunction}
use Rattle.pdb_functions.specs.Procedures.{ModuleProcedure}
use Rattle.pdb_function_info.specs.NameTexts.{procedure_name, failed_by_name, id_name, failed_by_id, decorated_instead}
use Rattle.pdb_function_info.specs.NameTexts.{text_of_run}
use Rattle.pdb_part_laws.specs.Asked.{Indices}
use Rattle.pdb_part_laws.proofs.SameDocuments.{signatures_agree, ids_agree}
use Rattle.pdb_known.specs.SameEntries.{HasSameEntries, IsClosedFor}
use Rattle.pdb_known.proofs.EntryLemmas.{inputs_agree, inputs_closed}

-- two formatters that have the same entries at indices of sets that are closed
module _ {P : Type 0} (at : Indices) (info : P → ProviderInfos) (part whole : TypeInputs P) (module_index : ℕ)
    (same : HasSameEntries at info part whole module_index) (closed : IsClosedFor at info part module_index) where
  -- the printing of a signature
  pub signature_run_same : (name : List ℕ) (index : ℕ) (failed : Parts) → at.types index ≡ true
      → signature_run info part module_index name index failed
      ≡ signature_run info whole module_index name index failed
  signature_run_same name index failed is =
      ap (λ (document : Document). run document failed)
      (signatures_agree (formatter_inputs info part module_index) (formatter_inputs info whole module_index) at
      (inputs_agree at info part whole module_index same closed) (inputs_closed at info part module_index closed)
      name index is)

  -- the printing of an id
  pub id_run_same : (index : ℕ) (failed : Parts) → at.ids index ≡ true
      → id_run info part module_index index failed ≡ id_run info whole module_index index failed
  id_run_same index failed is =
      ap (λ (document : Document). run document failed)
      (ids_agree (formatter_inputs info part module_index) (formatter_inputs info whole module_index) at
      (inputs_agree at info part whole module_index same closed) (inputs_closed at info part module_index closed)
      index is)

  -- the name of a procedure
  pub procedure_name_same : (globals : List GlobalFunction) (p : ModuleProcedure) → at.types p.type_index.0 ≡ true
      → procedure_name info part globals module_index p ≡ procedure_name info whole globals module_index p
  procedure_name_same globals p is =
      ap (λ (r : Run). option_or (decorated_instead globals p) (text_of_run r))
      (signature_run_same (lossy p.name) p.type_index.0 [] is)

  -- the parts that failed by it
  pub failed_by_name_same : (globals : List GlobalFunction) (p : ModuleProcedure) (failed : Parts)
      → at.types p.type_index.0 ≡ true
      → failed_by_name info part globals module_index p failed ≡ failed_by_name info whole globals module_index p failed
  failed_by_name_same globals p failed is =
      ap (λ (r : Run). option_map_or (λ name. failed) (decorated_instead globals p) r.failed)
      (signature_run_same (lossy p.name) p.type_index.0 failed is)

  -- the name of an inlined function
  pub id_name_same : (id : IdIndex) → at.ids id.0 ≡ true
      → id_name info part module_index id ≡ id_name info whole module_index id
  id_name_same id is = ap text_of_run (id_run_same id.0 [] is)

  -- the parts that failed by it
  pub failed_by_id_same : (id : IdIndex) (failed : Parts) → at.ids id.0 ≡ true
      → failed_by_id info part module_index id failed ≡ failed_by_id info whole module_index id failed
  failed_by_id_same id failed is = ap (λ (r : Run). r.failed) (id_run_same id.0 failed is)
