-- The first slash is where the text is split.
use Rattle.std.proofs.Common.{◌∙◌, arith}
use Rattle.pdb_identity.proofs.DebugIdLemmas.{with_slash, without_slash}
use Rattle.pdb_identity.proofs.debug_id.DebugId.parse.Goals as goal

pub returns-in-Some : goal.returns-in-Some
returns-in-Some c =
    let split = c.in-Some.ensures.byte (omega arith) (λ w o finds. finds) in
    record {
      answer = c.id_of_parts.ensures
          ∙ with_slash c.args.text.now c.in-Some.guid.now c.in-Some.age.now split.0 split.1 split.2;
    }

pub returns-in-None : goal.returns-in-None
returns-in-None c =
    let all = c.in-None.ensures.byte (omega arith) (λ w o finds. finds) in
    record { answer = without_slash c.args.text.now c.compact_id.result c.compact_id.ensures all }
