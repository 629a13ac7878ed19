-- Tables of symbols, and ids in memory.
use Rattle.std.proofs.Common.{◌≡◌, ◌∙◌, ℕ, ◌==◌, List, length, true, false, cond, Option, Some, None, IfSome, Ok, Err}
use Rattle.std.proofs.Common.{refl, sym, ap, arith}
use Rattle.std.proofs.lemmas.Grind.{common_steps}
use Rattle.std.specs.Prelude.{Result}
use Rattle.pdb_records.specs.declared.error.StreamError.{StreamError}
use Rattle.pdb_records.specs.declared.ids.IdData.{IdData}
use Rattle.pdb_records.specs.declared.ids.IdIndex.{IdIndex}
use Rattle.pdb_records.specs.declared.symbols.SymbolTable.{SymbolTable}
use Rattle.pdb_records.specs.declared.types.ItemInformation.{ItemInformation}
use Rattle.pdb_msf.specs.Msf.{Msf, stream_of}
use Rattle.pdb_msf.specs.StreamBlocks.{BlockList, said_in, stream_in}
use Rattle.pdb_tpi.proofs.SaidLemmas.{of_said}
use Rattle.pdb_tpi.specs.IdLeaves.{ids, ids_of, no_ids}
use Rattle.pdb_tpi.specs.ItemStreams.{stream_items}
use Rattle.pdb_container.specs.DebugRecords.{tabled}
use Rattle.pdb_container.specs.Info.{features}
use Rattle.pdb_container.specs.PdbFile.{table_of}
use Rattle.pdb_container.specs.TypeRecords.{id_information, ids_in}

-- a table is one of its symbols
pub table_of_tabled : (table : Result SymbolTable StreamError) → table_of (tabled table) ≡ table
table_of_tabled (Ok table) = refl
table_of_tabled (Err fault) = refl

-- the ids of a stream in a file in memory that has bytes, by its blocks
pub ids_read : (msf : Msf) (file : List ℕ) (blocks : BlockList) (size : ℕ)
    (items : Result (ItemInformation IdIndex IdData) StreamError) → (features (stream_of msf 1)).ids ≡ true
    → file ≡ msf.file → stream_of msf 4 ≡ Ok (stream_in msf.file blocks) → blocks.file_length ≡ length msf.file
    → ((known : Option (List ℕ)) → IfSome (said_in known blocks) (λ stream. length stream ≡ size)) → (size ≡ 0 → ⊥)
    → IfSome (said_in (Some file) blocks) (λ stream. items ≡ stream_items ids stream) → id_information msf ≡ items
unfolding id_information
ids_read msf file blocks size items listed same found there long some read =
    let whole : (length file == blocks.file_length) ≡ true = grind (arith, common_steps) in
    let said : said_in (Some file) blocks ≡ Some (stream_in file blocks)
    = ap (λ t. cond t (Some (stream_in file blocks)) None) whole in
    let sized : length (stream_in file blocks) ≡ size = of_said _ _ (stream_in file blocks) said (long (Some file)) in
    let any : (length (stream_in file blocks) == 0) ≡ false = grind (arith, common_steps) in
    ap (λ t. cond t (ids_in (stream_of msf 4)) (Ok no_ids)) listed ∙ ap ids_in found
    ∙ ap (λ f. ids_of (stream_in f blocks)) (sym same)
    ∙ ap (λ t. cond t (Ok no_ids) (stream_items ids (stream_in file blocks))) any
    ∙ sym (of_said _ _ (stream_in file blocks) said read)
