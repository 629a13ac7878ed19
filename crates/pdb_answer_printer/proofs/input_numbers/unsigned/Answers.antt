-- As `from_str_radix` reads digits without a plus.
use Rattle.std.proofs.Common.{◌∙◌}
use Rattle.pdb_answer_printer.proofs.NumeralLemmas.{no_plus, number_parsed}
use Rattle.pdb_answer_printer.proofs.input_numbers.unsigned.Goals as goal

pub returns : goal.returns
unfolding lib.Utf8.encode
returns c =
    let plain = no_plus c.args.digits.now c.if-starts_with.ensures.cases in
    c.ok.ensures.value
    ∙ number_parsed c.args.radix c.args.digits.now c.from_str_radix.result plain c.from_str_radix.ensures.value
