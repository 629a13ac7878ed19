-- By the place where the plus sign stands last.
use Rattle.std.proofs.Common.{◌∙◌, ap, List, ℕ, eqb, arith}
use Rattle.std.specs.List.{before_last, after_last}
use Rattle.pdb_answer_printer.specs.declared.printer_options.Digits.TheVariants.{ByPrefix}
use Rattle.pdb_answer_printer.specs.InputNumbers.{address_of}
use Rattle.pdb_answer_printer.specs.InputLineParser.{symbol_by}
use Rattle.pdb_answer_printer.proofs.LastByteLemmas.{after_last_at, before_last_at, before_last_none}
use Rattle.pdb_answer_printer.proofs.input_words.symbol_of.Goals as goal

pub returns-in-Some : goal.returns-in-Some
returns-in-Some c =
    let word = c.args.word.now in
    let cases = c.in-Some.ensures.cases in
    let front = cases.3 ∙ before_last_at 43 word cases.0 cases.1 (omega arith) (omega arith) cases.2 in
    let offset = cases.4 ∙ after_last_at 43 word cases.0 cases.1 (omega arith) (omega arith) cases.2 in
    c.symbol_by.ensures
    ∙ ap (λ (text : List ℕ). symbol_by text (address_of c.in-Some.offset.now ByPrefix) word) front
    ∙ ap (λ (text : List ℕ). symbol_by (before_last (λ (byte : ℕ). eqb byte 43) word) (address_of text ByPrefix) word)
    offset

pub returns-in-None : goal.returns-in-None
returns-in-None c =
    let word = c.args.word.now in
    let offset = address_of (after_last (λ (byte : ℕ). eqb byte 43) word) ByPrefix in
    ap (λ (text : List ℕ). symbol_by text offset word) (before_last_none 43 word (omega arith) c.in-None.ensures.cases)
