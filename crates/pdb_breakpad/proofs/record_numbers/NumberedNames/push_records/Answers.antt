-- One name more.
use Rattle.std.proofs.Common.{◌≡◌, ◌∙◌, ◌<◌, [], ap, arith, get_or, length, map, string_bytes, subst, sym}
use Rattle.std.proofs.lemmas.List.{get_or-map, length-map}
use Rattle.pdb_breakpad.specs.NameRecords.{keyword}
use Rattle.pdb_breakpad.proofs.NumberLemmas.{one_name_more}
use Rattle.pdb_breakpad.proofs.record_numbers.NumberedNames.push_records.Goals as goal

pub loop-number-preserved : goal.loop-number-preserved
loop-number-preserved c =
    let items = c.self.inside.names.items in
    let below : c.loop-number.number < length items
    = omega (arith, ap length c.deref-name-items.ensures.value, c.loop-number-test.true) in
    let listed : get_or (map string_bytes items) c.loop-number.number [] ≡ c.as_str.result.now
    = get_or-map string_bytes items c.loop-number.number c.name-item.result [] below
    ∙ ap string_bytes (ap (λ list. get_or list c.loop-number.number c.name-item.result)
    (sym c.deref-name-items.ensures.value) ∙ sym c.name-item.is)
    ∙ sym c.as_str.ensures.value in
    one_name_more (keyword c.args.kind) c.loop-number.number c.args.self.now c.as_str.result.now
    (string_bytes c.loop-number.text) (string_bytes c.push_record.new.text) _
    (omega (arith, below, length-map items string_bytes, ap length c.self.view_is))
    (subst (λ names. get_or names c.loop-number.number [] ≡ c.as_str.result.now) c.self.view_is listed)
    c.in_ok-push_record.ensures c.loop-number.invariant
