-- The lists of types and of ids of a file, whose records stay in it.
use Rattle.std.proofs.Common.{◌≡◌, ◌∙◌, ℕ, ◌==◌, List, length, true, false, cond, Option, Some, None, IfSome, IfOk}
use Rattle.std.proofs.Common.{Ok, Err, refl, sym, ap, subst, arith}
use Rattle.std.proofs.lemmas.Grind.{common_steps}
use Rattle.std.specs.Prelude.{Result}
use Rattle.pdb_records.specs.declared.error.StreamError.{StreamError}
use Rattle.pdb_msf.specs.Faults.{◌>>=◌}
use Rattle.pdb_msf.specs.Msf.{Msf, stream_of}
use Rattle.pdb_msf.specs.StreamBlocks.{BlockList, blocks_read, said_in, stream_in}
use Rattle.pdb_msf.specs.declared.source_error.SourceError.{SourceError}
use Rattle.pdb_tpi.proofs.SaidLemmas.{of_said}
use Rattle.pdb_tpi.specs.IdLeaves.{ids, no_ids}
use Rattle.pdb_tpi.specs.ItemStreams.{ItemMeaning, TypeList, list_items, stream_items, type_list}
use Rattle.pdb_tpi.specs.TypePlaces.{IsListIn}
use Rattle.pdb_tpi.specs.TypeLeaves.{types}
use Rattle.pdb_tpi.specs.declared.type_places.TypePlaces.{TypePlaces}
use Rattle.pdb_container.specs.Info.{features}
use Rattle.pdb_container.specs.TypeRecords.{id_information, ids_in, type_information}
use Rattle.pdb_session.specs.FileParts.{HasItems, HasListAt, HasPlaces, listed_in}

-- a source that says a file says each stream of it
said_whole : (file : List ℕ) (blocks : BlockList) → length file ≡ blocks.file_length
    → said_in (Some file) blocks ≡ Some (stream_in file blocks)
said_whole file blocks long =
    let whole : (length file == blocks.file_length) ≡ true = grind (arith, common_steps) in
    ap (λ t. cond t (Some (stream_in file blocks)) None) whole

-- a list whose places were read is the one that the stream has
pub has_places : (file : List ℕ) (blocks : BlockList) (places : TypePlaces) → length file ≡ blocks.file_length
    → places.records.blocks ≡ blocks → IfSome (said_in (Some file) blocks) (λ stream. IsListIn stream (Ok places))
    → HasListAt file places (type_list (stream_in file blocks))
has_places file blocks places long same said =
    let list = of_said _ (λ stream. IsListIn stream (Ok places)) (stream_in file blocks) (said_whole file blocks long)
    said in
    record {
      stream = stream_in file blocks;
      said = subst (λ b. said_in (Some file) b ≡ Some (stream_in file blocks)) (sym same)
          (said_whole file blocks long);
      lies = list.1;
      list = list.0;
    }

-- or it can't be read
pub has_no_places : (file : List ℕ) (blocks : BlockList) (fault : StreamError) → length file ≡ blocks.file_length
    → IfSome (said_in (Some file) blocks) (λ stream. IsListIn stream (Err fault))
    → type_list (stream_in file blocks) ≡ Err fault
has_no_places file blocks fault long said =
    of_said _ (λ stream. IsListIn stream (Err fault)) (stream_in file blocks) (said_whole file blocks long) said

-- a list that is had is one of items
has_listed : {I D : Type 0} (meaning : ItemMeaning I D) (file : List ℕ) (list : Result (Option TypePlaces) StreamError)
    (whole : Result TypeList StreamError) → HasPlaces file list whole
    → HasItems meaning file list (whole >>= λ list. Ok (list_items meaning list))
has_listed {D = D} meaning file (Ok (Some places)) whole has = record {
  stream = has.stream;
  said = has.said;
  lies = has.lies;
  items = ap (λ (list : Result TypeList StreamError). list >>= λ list. Ok (list_items meaning list)) has.list;
}
has_listed meaning file (Ok None) whole has = absurd has
has_listed meaning file (Err fault) whole has =
    ap (λ (list : Result TypeList StreamError). list >>= λ list. Ok (list_items meaning list)) has

-- the items of a stream are those of its list
items_of_stream : {I D : Type 0} (meaning : ItemMeaning I D) (stream : Result (List ℕ) StreamError)
    → ((stream >>= type_list) >>= λ list. Ok (list_items meaning list)) ≡ (stream >>= stream_items meaning)
items_of_stream meaning (Ok stream) = refl
items_of_stream meaning (Err fault) = refl

-- so a file has the types whose places were read
pub has_types : (msf : Msf) (file : List ℕ) (blocks : Result BlockList StreamError)
    (list : Result (Option TypePlaces) StreamError) → stream_of msf 2 ≡ blocks_read file blocks
    → HasPlaces file list (listed_in file blocks)
    → HasItems types file list (type_information msf)
unfolding type_information
has_types msf file blocks list found has =
    subst (HasItems types file list)
    (items_of_stream types (blocks_read file blocks)
    ∙ sym (ap (λ (stream : Result (List ℕ) StreamError). stream >>= stream_items types) found))
    (has_listed types file list (blocks_read file blocks >>= type_list) has)

-- it has no ids where its stream of ids has no bytes
pub no_ids_in : (file : List ℕ) (blocks : BlockList) → length file ≡ blocks.file_length
    → ((known : Option (List ℕ)) → IfSome (said_in known blocks) (λ stream. length stream ≡ 0))
    → ids_in (Ok (stream_in file blocks)) ≡ Ok no_ids
no_ids_in file blocks long none =
    let sized : length (stream_in file blocks) ≡ 0 =
    of_said _ (λ stream. length stream ≡ 0) (stream_in file blocks) (said_whole file blocks long) (none (Some file)) in
    let any : (length (stream_in file blocks) == 0) ≡ true = grind (arith, common_steps) in
    ap (λ t. cond t (Ok no_ids) (stream_items ids (stream_in file blocks))) any

-- and those whose places were read where it has bytes
pub some_ids_in : (file : List ℕ) (blocks : BlockList) (size : ℕ) (list : Result (Option TypePlaces) StreamError)
    → length file ≡ blocks.file_length
    → ((known : Option (List ℕ)) → IfSome (said_in known blocks) (λ stream. length stream ≡ size)) → (size ≡ 0 → ⊥)
    → HasPlaces file list (type_list (stream_in file blocks))
    → HasItems ids file list (ids_in (Ok (stream_in file blocks)))
some_ids_in file blocks size list long some any has =
    let sized : length (stream_in file blocks) ≡ size =
    of_said _ (λ stream. length stream ≡ size) (stream_in file blocks) (said_whole file blocks long) (some (Some file)) in
    let not_empty : (length (stream_in file blocks) == 0) ≡ false = grind (arith, common_steps) in
    subst (HasItems ids file list)
    (sym (ap (λ t. cond t (Ok no_ids) (stream_items ids (stream_in file blocks))) not_empty))
    (has_listed ids file list (type_list (stream_in file blocks)) has)

-- so a file has the ids whose places were read, where it lists that it has ids
pub has_ids : (msf : Msf) (file : List ℕ) (blocks : Result BlockList StreamError)
    (list : Result (Option TypePlaces) StreamError) → (features (stream_of msf 1)).ids ≡ true
    → stream_of msf 4 ≡ blocks_read file blocks → HasItems ids file list (ids_in (blocks_read file blocks))
    → HasItems ids file list (id_information msf)
unfolding id_information
has_ids msf file blocks list listed found has =
    subst (HasItems ids file list)
    (sym (ap (λ t. cond t (ids_in (stream_of msf 4)) (Ok no_ids)) listed ∙ ap ids_in found)) has

-- and none where it doesn't
pub has_no_ids : (msf : Msf) → (features (stream_of msf 1)).ids ≡ false → id_information msf ≡ Ok no_ids
unfolding id_information
has_no_ids msf none = ap (λ t. cond t (ids_in (stream_of msf 4)) (Ok no_ids)) none

-- the blocks of a stream of a file of this length are of a file of this length
pub same_length : (file : List ℕ) (file_length : ℕ) (blocks : Result BlockList StreamError) → length file ≡ file_length
    → IfOk blocks (λ blocks. blocks.file_length ≡ file_length) → IfOk blocks (λ blocks. length file ≡ blocks.file_length)
same_length file file_length (Ok blocks) long same = long ∙ sym same
same_length file file_length (Err fault) long same = tt

-- the ids of a stream that has bytes, by its list
pub ids_by_list : (known : Option (List ℕ)) (blocks : BlockList) (size : ℕ)
    (result : Result (Result (Option TypePlaces) StreamError) SourceError)
    → ((known : Option (List ℕ)) → IfSome (said_in known blocks) (λ stream. length stream ≡ size)) → (size ≡ 0 → ⊥)
    → IfOk result (λ list. IfSome known (λ file. length file ≡ blocks.file_length
    → HasPlaces file list (listed_in file (Ok blocks))))
    → IfOk result (λ list. IfSome known (λ file. length file ≡ blocks.file_length
    → HasItems ids file list (ids_in (blocks_read file (Ok blocks)))))
ids_by_list known blocks size (Err fault) some any has = tt
ids_by_list None blocks size (Ok list) some any has = tt
ids_by_list (Some file) blocks size (Ok list) some any has =
    λ long. some_ids_in file blocks size list long some any (has long)
