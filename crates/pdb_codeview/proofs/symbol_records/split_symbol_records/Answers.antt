-- The symbols are the records but for fillers.
use Rattle.std.proofs.Common.{◌≡◌, rules}
use Rattle.std.proofs.lemmas.List.Elements.{filter_from_retain}
use Rattle.std.specs.List.{filter}
use Rattle.std.specs.Prelude.{not}
use Rattle.pdb_codeview.proofs.SymbolRecordLemmas.{symbols_ascend, symbols_kept}
use Rattle.pdb_codeview.specs.SymbolRecords.{is_filler}
use Rattle.pdb_codeview.proofs.symbol_records.split_symbol_records.Goals as goal

pub returns-clause-answer : goal.returns-clause-answer
returns-clause-answer c =
    let kept : c.retain.new.self.items ≡ filter (λ read. not (is_filler read)) c.push_items.new.items.items
    = filter_from_retain _ (λ read. not (is_filler read)) (λ p x b q is. search rules) _ _ _ c.retain.ensures.filtered in
    symbols_kept c.args.front c.args.bytes.now c.new-items.result.items c.push_items.new.items.items
    c.retain.new.self.items c.in_ok-fault.fault c.new-items.ensures.items c.in_ok-fault.ensures.state
    c.in_ok-fault.ensures.answer kept

pub returns-clause-ascending : goal.returns-clause-ascending
returns-clause-ascending c =
    symbols_ascend c.args.front c.args.bytes.now (record { items = c.retain.new.self.items; fault = c.in_ok-fault.fault })
    (returns-clause-answer c)
