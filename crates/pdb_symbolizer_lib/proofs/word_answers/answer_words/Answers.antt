-- The words are answered over the file, once what they ask for is read.
use Rattle.std.proofs.Common.{◌≡◌, ◌∙◌, ap, map, subst, sym, true}
use Rattle.std.specs.List.{filter_map}
use Rattle.pdb_session.specs.FileParts.{IsPartOfFile}
use Rattle.pdb_session.specs.Session.{needs_none}
use Rattle.pdb_symbolizer_lib.specs.AnsweredRequests.{AnswersText, AreFramesAt, asked_address}
use Rattle.pdb_symbolizer_input.specs.NameOptions.{flags_of}
use Rattle.pdb_symbolizer_lib.specs.AnswersInOrder.{AnswersInOrder, words_text}
use Rattle.pdb_symbolizer_lib.specs.FileRuns.{AnswersOfFile}
use Rattle.pdb_symbolizer_lib.proofs.AnsweredTextLemmas.{part_of_same}
use Rattle.pdb_symbolizer_lib.proofs.FileAnswerLemmas.{none_of_words, words_of_file}
use Rattle.pdb_symbolizer_lib.proofs.WordAnswerLemmas.{words_end_early}
use Rattle.pdb_symbolizer_lib.proofs.word_answers.answer_words.Goals as goal

pub returns-in_err-addresses-clause-answer : goal.returns-in_err-addresses-clause-answer
returns-in_err-addresses-clause-answer g c =
    let questions = c.args.questions.now in
    let style = questions.options.now.printer.style in
    let words = map (λ word. word.now) questions.options.now.addresses.items in
    let answers = AnswersOfFile questions c.args.input.now.session in
    let held = g.W.Output.contents c.args.out.now in
    words_end_early answers style words held held c.from_residual.result c.from_residual.ensures.0
    (none_of_words answers style words held)

pub returns-in_err-read_for-clause-answer : goal.returns-in_err-read_for-clause-answer
returns-in_err-read_for-clause-answer g c =
    let questions = c.args.questions.now in
    let style = questions.options.now.printer.style in
    let words = map (λ word. word.now) questions.options.now.addresses.items in
    let answers = AnswersOfFile questions c.args.input.now.session in
    let held = g.W.Output.contents c.args.out.now in
    words_end_early answers style words held held c.from_residual-in_err-read_for.result
    c.from_residual-in_err-read_for.ensures.0 (none_of_words answers style words held)

pub returns-in_err-data-clause-answer : goal.returns-in_err-data-clause-answer
returns-in_err-data-clause-answer g c =
    let questions = c.args.questions.now in
    let style = questions.options.now.printer.style in
    let words = map (λ word. word.now) questions.options.now.addresses.items in
    let answers = AnswersOfFile questions c.args.input.now.session in
    let held = g.W.Output.contents c.args.out.now in
    words_end_early answers style words held held c.from_residual-in_err-data.result
    c.from_residual-in_err-data.ensures.0 (none_of_words answers style words held)

pub returns-in_err-context-clause-answer : goal.returns-in_err-context-clause-answer
returns-in_err-context-clause-answer g c =
    let questions = c.args.questions.now in
    let style = questions.options.now.printer.style in
    let words = map (λ word. word.now) questions.options.now.addresses.items in
    let answers = AnswersOfFile questions c.args.input.now.session in
    let held = g.W.Output.contents c.args.out.now in
    words_end_early answers style words held held c.from_residual-in_err-context.result
    c.from_residual-in_err-context.ensures.0 (none_of_words answers style words held)

pub returns-clause-answer : goal.returns-clause-answer
returns-clause-answer g c =
    let questions = c.args.questions.now in
    let style = questions.options.now.printer.style in
    let words = map (λ word. word.now) questions.options.now.addresses.items in
    let first = c.args.input.now.session in
    let here = c.read_for.new.self.session in
    let flags = flags_of questions.options.now.printer.names in
    let known = c.in_ok-context.context.known in
    let part : IsPartOfFile known first.bytes first.file_length
    = part_of_same first here known c.read_for.ensures.file
    (subst (λ known. IsPartOfFile known here.bytes here.file_length) (sym c.in_ok-context.ensures.known)
    c.in_ok-data.ensures.file) in
    let read : known ≡ here.known = c.in_ok-context.ensures.known ∙ c.in_ok-data.ensures.answer in
    let asked : c.deref.result.now ≡ filter_map (asked_address questions) words
    = c.deref.ensures.value ∙ (c.in_ok-addresses.ensures
    ∙ ap (λ items. filter_map (asked_address questions) (map (λ word. word.now) items)) c.as_slice-words.ensures.value) in
    let enough : needs_none known (filter_map (asked_address questions) words) ≡ true
    = subst (λ addresses. needs_none known addresses ≡ true) asked
    (subst (λ known. needs_none known c.deref.result.now ≡ true) (sym read) c.in_ok-read_for.ensures.enough) in
    let same : c.in_ok-context.context.flags ≡ flags = c.in_ok-context.ensures.flags ∙ c.flags.ensures in
    let old = g.W.Output.contents c.args.out.now in
    let new = g.W.Output.contents c.write_words.new.out in
    words_of_file first known flags questions style words old new c.write_words.result enough part
    (subst (λ flags. AnswersInOrder (AnswersText questions (AreFramesAt known flags)) (words_text style) words
    c.write_words.result old new) same
    (subst (λ items. AnswersInOrder (AnswersText questions (AreFramesAt known c.in_ok-context.context.flags))
    (words_text style) (map (λ word. word.now) items) c.write_words.result old new) c.as_slice-words.ensures.value
    c.write_words.ensures.answer))
