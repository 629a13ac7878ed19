-- The chunks between those of functions before it and those of functions after it are those of the function.
use Rattle.std.proofs.Common.{◌-◌, ◌∙◌, ℕ, rules, nat_lt, nat_le, List, take, drop, length, ap, arith}
use Rattle.std.proofs.lemmas.List.Sorted.{IsNonDecreasingBy-drop, IsNonDecreasingBy-take, IsPartitionPoint-from_clause}
use Rattle.std.proofs.lemmas.List.Sorted.{IsPartitionedBy-leb, IsPartitionedBy-ltb}
use Rattle.pdb_codeview.specs.declared.chunks.Chunk.{Chunk}
use Rattle.pdb_codeview.specs.Chunks.{chunks_at}
use Rattle.pdb_codeview.specs.Places.{place}
use Rattle.pdb_codeview.proofs.ChunkLemmas.{between_rest, rest_is}
use Rattle.pdb_codeview.proofs.chunks.chunks_at.Goals as goal

pub returns : goal.returns
returns c =
    let function_of : Chunk → ℕ = λ chunk. place chunk.function in
    let chunks : List Chunk = c.args.chunks.now in
    let first : ℕ = c.partition_point-first.result in
    let rest : List Chunk = take (length chunks - first) (drop first chunks) in
    let front = IsPartitionPoint-from_clause (λ chunk. nat_lt (function_of chunk) c.place-wanted.result) _ _
    c.partition_point-first.ensures.partitioned
    (IsPartitionedBy-ltb function_of chunks c.place-wanted.result c.requires) (λ a r q k. search rules) in
    let behind = IsPartitionPoint-from_clause (λ chunk. nat_le (function_of chunk) c.place-wanted.result) _ _
    c.partition_point-count.ensures.partitioned
    (IsPartitionedBy-leb function_of rest c.place-wanted.result
    (IsNonDecreasingBy-take function_of (length chunks - first) (drop first chunks)
    (IsNonDecreasingBy-drop function_of first chunks c.requires))) (λ a r q k. search rules) in
    between_rest function_of c.place-wanted.result chunks rest first c.partition_point-count.result
    (rest_is chunks first) c.partition_point-first.ensures.bound (λ k d less. front.0 k d (omega arith) less)
    (λ k d more inside. front.1 k d more inside) c.partition_point-count.ensures.bound
    (λ k d less. behind.0 k d (omega arith) less) (λ k d more inside. behind.1 k d more inside)
    ∙ ap (λ n. chunks_at n chunks) c.place-wanted.ensures.answer
