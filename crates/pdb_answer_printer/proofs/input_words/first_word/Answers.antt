-- As the first step over words says.
use Rattle.std.proofs.Common.{◌∙◌, sym, subst, List, ℕ}
use Rattle.std.specs.Char.{is_not_whitespace}
use Rattle.std.specs.Str.{NoCharPasses}
use Rattle.pdb_answer_printer.proofs.WordLemmas.{word_after_gap, no_word}
use Rattle.pdb_answer_printer.proofs.input_words.first_word.Goals as goal

pub returns-in-Some : goal.returns-in-Some
returns-in-Some c =
    let steps = c.in-Some.ensures.steps in
    word_after_gap c.args.text.now steps.0 c.in-Some.word.now _ steps.5.0 c.utf8.text
    (sym c.split_whitespace.ensures.rest ∙ steps.1) steps.2 steps.3 steps.4 steps.5.1

pub returns-in-None : goal.returns-in-None
returns-in-None c =
    let none : List ℕ → Type 0 = λ text. NoCharPasses is_not_whitespace text in
    no_word c.args.text.now c.utf8.text (subst none c.split_whitespace.ensures.rest c.in-None.ensures.steps.1)
