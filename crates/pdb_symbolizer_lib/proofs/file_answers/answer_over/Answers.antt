-- Words are answered, or lines where there are none.
use Rattle.std.proofs.Common.{◌∙◌, ap, map, inl, length, subst, sym}
use Rattle.std.specs.Prelude.{◌==◌}
use Rattle.pdb_symbolizer_lib.specs.AnswersInOrder.{AnswersInOrder, words_text}
use Rattle.pdb_symbolizer_lib.specs.FileRuns.{AnswersOfFile, AskOf}
use Rattle.pdb_symbolizer_lib.specs.PublicNames.{function_name, known_name}
use Rattle.pdb_symbolizer_lib.proofs.RunLemmas.{is_empty_list, is_some_list, lines_are_asked, words_are_asked}
use Rattle.pdb_symbolizer_lib.proofs.file_answers.answer_over.Goals as goal

pub returns-in_ok-queue-clause-answer : goal.returns-in_ok-queue-clause-answer
returns-in_ok-queue-clause-answer g c =
    let questions = c.new-questions.result in
    let options = c.args.options.now in
    let session = c.args.input.now.session in
    let urls = c.args.urls.now in
    let as_given : AskOf options c.args.path.now urls c.args.input.now.image_base session.known.records questions
    = record {
      given = c.new-questions.ensures.options;
      named = c.new-questions.ensures.file;
      urls = c.new-questions.ensures.source_urls;
      loaded = c.new-questions.ensures.image_base;
      names = λ start. ap (λ names. known_name names start) c.new-questions.ensures.names
          ∙ (c.in_ok-names.ensures.functions start
          ∙ ap (λ records. function_name options records start) c.records.ensures);
    } in
    let none = is_empty_list options.addresses.items
    (ap (λ items. length items == 0) (sym c.as_slice-words.ensures.value)
    ∙ (sym c.is_empty.ensures ∙ c.if-is_empty.true)) in
    inl (
      questions,
      (
        as_given,
        lines_are_asked options.addresses.items questions session
            (g.T.Read.remaining c.args.lines) c.in_ok-queue.queue c.answer_input.result (g.W.Output.contents c.args.out.now)
            (g.W.Output.contents c.answer_input.new.out) none c.in_ok-queue.ensures.answer c.answer_input.ensures.answer,
      ),
    )

pub returns-else-is_empty-clause-answer : goal.returns-else-is_empty-clause-answer
returns-else-is_empty-clause-answer g c =
    let questions = c.new-questions.result in
    let options = c.args.options.now in
    let session = c.args.input.now.session in
    let urls = c.args.urls.now in
    let as_given : AskOf options c.args.path.now urls c.args.input.now.image_base session.known.records questions
    = record {
      given = c.new-questions.ensures.options;
      named = c.new-questions.ensures.file;
      urls = c.new-questions.ensures.source_urls;
      loaded = c.new-questions.ensures.image_base;
      names = λ start. ap (λ names. known_name names start) c.new-questions.ensures.names
          ∙ (c.in_ok-names.ensures.functions start
          ∙ ap (λ records. function_name options records start) c.records.ensures);
    } in
    let some = is_some_list options.addresses.items
    (ap (λ items. length items == 0) (sym c.as_slice-words.ensures.value)
    ∙ (sym c.is_empty.ensures ∙ c.if-is_empty.false)) in
    let old = g.W.Output.contents c.args.out.now in
    let new = g.W.Output.contents c.answer_words.new.out in
    inl (
      questions,
      (
        as_given,
        words_are_asked options.addresses.items questions session
            (g.T.Read.remaining c.args.lines) c.answer_words.result old new some
            (subst (λ options. AnswersInOrder (AnswersOfFile questions session)
            (words_text questions.options.now.printer.style) (map (λ word. word.now) options.addresses.items)
            c.answer_words.result old new) c.new-questions.ensures.options c.answer_words.ensures.answer),
      ),
    )
