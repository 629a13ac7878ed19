use Rattle.std.proofs.Common.{◌∙◌}
use Rattle.pdb_type_texts.proofs.NamespaceLemmas.{hash-parsed}
use Rattle.pdb_type_texts.proofs.namespaces.is_hash.Goals as goal

pub returns : goal.returns
returns c = c.is_ok.ensures.value ∙ hash-parsed c.args.text.now _ c.from_str_radix.ensures.value
