-- The addresses so far, and those of the words that are left, are those of all words.
use Rattle.std.proofs.Common.{◌≡◌, ◌++◌, drop, map}
use Rattle.std.specs.List.{filter_map}
use Rattle.pdb_symbolizer_lib.specs.AnsweredRequests.{asked_address}
use Rattle.pdb_symbolizer_lib.proofs.word_answers.addresses_of_words.Given as goal

abbrev pub invariant-loop-word : goal.invariant-loop-word
invariant-loop-word l =
    l.addresses.items ++ filter_map (asked_address l.questions) (map (λ word. word.now) (drop l.word-index l.words))
    ≡ filter_map (asked_address l.questions) (map (λ word. word.now) l.words)
