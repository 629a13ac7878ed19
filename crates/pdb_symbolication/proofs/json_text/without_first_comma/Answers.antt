-- By the text that follows the comma.
use Rattle.std.proofs.Common.{None, arith}
use Rattle.std.proofs.lemmas.Str.Pattern.{strip_prefix_char}
use Rattle.pdb_symbolication.proofs.JsonLemmas.{after_comma}
use Rattle.pdb_symbolication.proofs.json_text.without_first_comma.Goals as goal

pub returns-in-None : goal.returns-in-None
returns-in-None c =
    let lacks = strip_prefix_char 44 c.args.values.now None c.in-None.ensures.cases (omega arith) in
    λ each same. after_comma each c.args.values.now None lacks same
