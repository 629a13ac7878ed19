use Rattle.std.proofs.Common.{rules, refl}
use Rattle.pdb_function_info.proofs.cached_texts.CachedTexts.text_at.Goals as goal

pub returns-then-equals : goal.returns-then-equals
returns-then-equals g c = record {
  entry = c.in_ok-cached.cached.now;
  stands = search rules;
  keyed = c.equals.ensures c.if-equals.true;
  is = refl;
}
