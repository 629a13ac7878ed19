-- Types and ids that were read are like those of the file.
use Rattle.std.proofs.Common.{◌≡◌, ◌∙◌, ℕ, Bool, true, List, Option, Some, IfSome, Ok, length, drop, refl, sym, ap}
use Rattle.std.proofs.Common.{◌++◌, take, append-nil, arith}
use Rattle.std.proofs.Common.{subst}
use Rattle.std.proofs.lemmas.List.{drop_all, length-map, take_all}
use Rattle.std.specs.Prelude.{slice_get}
use Rattle.std.specs.BTreeSet.{BTreeSet}
use Rattle.std.specs.Global.{Vec}
use Rattle.pdb_records.specs.declared.ids.IdData.{IdData}
use Rattle.pdb_records.specs.declared.ids.IdIndex.{IdIndex}
use Rattle.pdb_records.specs.declared.types.ItemInformation.{ItemInformation}
use Rattle.pdb_records.specs.declared.types.TypeData.{TypeData}
use Rattle.pdb_records.specs.declared.types.TypeIndex.{TypeIndex}
use Rattle.pdb_msf.specs.StreamBlocks.{BlockList, said_in}
use Rattle.pdb_tpi.proofs.SaidLemmas.{of_said}
use Rattle.pdb_tpi.specs.IdLeaves.{ids}
use Rattle.pdb_tpi.specs.ItemStreams.{TypeList, list_items}
use Rattle.pdb_tpi.specs.RecordWindows.{records_in}
use Rattle.pdb_tpi.specs.TypePlaces.{list_at}
use Rattle.pdb_tpi.specs.TypeRecords.{first_record}
use Rattle.pdb_tpi.specs.TypeLeaves.{types}
use Rattle.pdb_tpi.specs.declared.type_places.TypePlaces.{TypePlaces}
use Rattle.pdb_known.specs.Known.{AreAlike, AreDefinedAlike}
use Rattle.pdb_session.proofs.MarkedLemmas.{alike_where_marked, defined_where_marked}
use Rattle.pdb_session.specs.Definitions.{AreMarked, AreNamed}
use Rattle.pdb_session.specs.FileParts.{HasItemsAt, ItemsOrFault}
use Rattle.pdb_session.specs.MarkedItems.{AreSettled, marked_items}

-- what holds of the stream that a source says, where this says the file
pub of_stream : (known : Option (List ℕ)) (file stream : List ℕ) (blocks : BlockList) (holds : List ℕ → Type 0)
    → known ≡ Some file → said_in (Some file) blocks ≡ Some stream → IfSome (said_in known blocks) holds → holds stream
of_stream known file stream blocks holds is said held =
    of_said (said_in known blocks) holds stream (ap (λ k. said_in k blocks) is ∙ said) held

-- what a list becomes whose elements were lent, where as many came back
pub written_back : {A : Type 0} (items old new : List A) (count : ℕ) → length old ≡ count → old ≡ items
    → length new ≡ length old → take count (new ++ drop (length new) items) ≡ new
written_back items old new count counted lent same =
    ap (λ rest. take count (new ++ rest)) (drop_all (length new) items (omega (arith, same, ap length lent)))
    ∙ ap (take count) (append-nil new)
    ∙ take_all count new (omega (arith, same, counted))

-- there are as many records as places
pub count_of_places : (places : TypePlaces) (stream : List ℕ)
    → length places.starts.items ≡ length (list_at places stream).records
count_of_places places stream =
    sym (length-map places.starts.items (λ start. first_record (drop start (records_in places.records stream))))

-- sizes are settled where all definitions of some names are marked, and all that are forward references go by these
settled : (names : BTreeSet (Vec ℕ)) (list : TypeList) (marks sizes : List Bool) → AreMarked names list marks
    → ((position : ℕ) → slice_get sizes position ≡ Some true → slice_get marks position ≡ Some true)
    → AreNamed names list sizes → AreSettled list marks sizes
settled names list marks sizes defined marked named = record {
  marked = marked;
  defined = λ position item name set is goes_by other definition found defines.
      defined name (named position item name set is goes_by) other definition found defines;
}

-- types that were read are like those of the file
pub types_read : (names : BTreeSet (Vec ℕ)) (file : List ℕ) (places : TypePlaces)
    (whole : ItemsOrFault TypeIndex TypeData) (has : HasItemsAt types file places whole)
    (marks sizes : List Bool) (information : ItemInformation TypeIndex TypeData)
    → length marks ≡ length places.starts.items → length sizes ≡ length marks
    → AreMarked names (list_at places has.stream) marks
    → ((position : ℕ) → slice_get sizes position ≡ Some true → slice_get marks position ≡ Some true)
    → AreNamed names (list_at places has.stream) sizes
    → information ≡ marked_items types (list_at places has.stream) marks
    → AreAlike (λ i. i.0) (record { first = places.first; read = marks }) (Ok information) whole
    × AreDefinedAlike (record { first = places.first; read = sizes }) (Ok information) whole
types_read names file places whole has marks sizes information long same defined marked named are =
    let list : TypeList = list_at places has.stream in
    let count : length marks ≡ length list.records = long ∙ count_of_places places has.stream in
    subst (λ w. AreAlike (λ i. i.0) (record { first = places.first; read = marks }) (Ok information) w
    × AreDefinedAlike (record { first = places.first; read = sizes }) (Ok information) w) (sym has.items)
    (subst (λ read. AreAlike (λ i. i.0) (record { first = places.first; read = marks }) (Ok read)
    (Ok (list_items types list))
    × AreDefinedAlike (record { first = places.first; read = sizes }) (Ok read) (Ok (list_items types list))) (sym are) (
      alike_where_marked (λ i. i.0) types (λ n. refl) list marks count,
      defined_where_marked list marks sizes count (same ∙ count) (settled names list marks sizes defined marked named),
    ))

-- so are ids
pub ids_read : (file : List ℕ) (places : TypePlaces) (whole : ItemsOrFault IdIndex IdData)
    (has : HasItemsAt ids file places whole) (marks : List Bool) (information : ItemInformation IdIndex IdData)
    → length marks ≡ length places.starts.items → information ≡ marked_items ids (list_at places has.stream) marks
    → AreAlike (λ i. i.0) (record { first = places.first; read = marks }) (Ok information) whole
ids_read file places whole has marks information long are =
    let list : TypeList = list_at places has.stream in
    subst (λ w. AreAlike (λ i. i.0) (record { first = places.first; read = marks }) (Ok information) w) (sym has.items)
    (subst (λ read. AreAlike (λ i. i.0) (record { first = places.first; read = marks }) (Ok read)
    (Ok (list_items ids list))) (sym are)
    (alike_where_marked (λ i. i.0) ids (λ n. refl) list marks (long ∙ count_of_places places has.stream)))
