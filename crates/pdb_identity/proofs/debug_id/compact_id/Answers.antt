-- A text whose first 32 bytes are no characters has no digits after them.
use Rattle.std.proofs.Common.{◌≡◌, ◌∙◌, sym, true, false}
use Rattle.pdb_identity.proofs.DebugIdLemmas.{cut_character}
use Rattle.pdb_identity.proofs.debug_id.compact_id.Goals as goal

pub returns-in_err-guid : goal.returns-in_err-guid
returns-in_err-guid c =
    c.from_residual.ensures
    ∙ sym (cut_character c.args.text.now (λ boundary.
    let bad : false ≡ true = c.in_err-guid.ensures.variant.1 boundary in absurd cc))
