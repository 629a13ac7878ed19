-- As `strip_prefix` says.
use Rattle.pdb_answer_printer.proofs.PrefixLemmas.{after_prefix_stripped}
use Rattle.pdb_answer_printer.proofs.input_numbers.after_prefix.Goals as goal

pub returns : goal.returns
returns c = after_prefix_stripped c.args.front.now c.args.text.now c.strip_prefix.result c.strip_prefix.ensures.cases
