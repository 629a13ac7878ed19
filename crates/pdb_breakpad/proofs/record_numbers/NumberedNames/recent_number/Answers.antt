-- The number is that of the name, since the text at the number is this name.
use Rattle.std.proofs.Common.{◌≡◌, ◌∙◌, ◌<◌, ap, arith, get_or, length, slice_get, string_bytes, subst, sym}
use Rattle.std.specs.Prelude.{Some}
use Rattle.std.proofs.lemmas.Bool.Decides.{nat_tests}
use Rattle.std.proofs.lemmas.Option.{slice_get-get_or}
use Rattle.std.proofs.lemmas.Slice.Eq.{bytes_eq-Decides}
use Rattle.pdb_breakpad.proofs.NumberLemmas.{name_at}
use Rattle.pdb_breakpad.proofs.record_numbers.NumberedNames.recent_number.Goals as goal

pub returns-then-eq : goal.returns-then-eq
returns-then-eq c =
    let number = c.in_ok-number.field-0.now in
    let known = c.in_ok-known.known.now in
    let listed = c.deref-2.result.now in
    let below : number < length listed = grind (arith, nat_tests, c.in_ok-known.ensures.lookup.0) in
    let there : slice_get c.self.inside.names.items number ≡ Some known
    = subst (λ list. slice_get list number ≡ Some known) c.deref-2.ensures.value
    (slice_get-get_or listed number known below ∙ ap Some (sym c.in_ok-known.ensures.lookup.1)) in
    let same : string_bytes known ≡ c.args.name.now
    = sym c.as_str.ensures.value ∙ (bytes_eq-Decides c.as_str.result.now c.args.name.now).0 (sym c.if-eq.ensures) in
    subst (λ names. slice_get names number ≡ Some c.args.name.now) c.self.view_is
    (name_at c.self.inside.names.items number known c.args.name.now there same)
