-- By the place that was found, or since no offset has more than 32 bits.
use Rattle.std.proofs.Common.{◌≡◌, ◌∙◌, ℕ, subst, sym, arith}
use Rattle.std.specs.List.{position}
use Rattle.std.specs.Prelude.{◌==◌}
use Rattle.pdb_symbolication.proofs.PlaceLemmas.{number_searched, position_none}
use Rattle.pdb_symbolication.proofs.wanted_modules.number_in.Goals as goal

pub returns-in-Ok : goal.returns-in-Ok
returns-in-Ok c =
    let offsets = c.args.offsets.now in
    let searched = c.binary_search.ensures.position in
    let found = number_searched offsets c.in-Ok.offset c.binary_search.result c.requires searched in
    subst (λ (offset : ℕ). c.ok.result ≡ position (λ at. at == offset) offsets) c.in-Ok.ensures.1
    (c.ok.ensures.value ∙ found)

pub returns-in-Err : goal.returns-in-Err
returns-in-Err c =
    sym (position_none c.args.offsets.now c.args.offset
    (λ k within same. c.in-Err.ensures (omega (arith, c.type_inv.offsets k))))
