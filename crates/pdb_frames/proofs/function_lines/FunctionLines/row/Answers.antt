use Rattle.std.proofs.Common.{rules, ◌∙◌}
use Rattle.pdb_frames.proofs.GivesLemmas.{gives_same}
use Rattle.pdb_frames.proofs.function_lines.FunctionLines.row.Goals as goal

pub returns-in-Some-clause-answer : goal.returns-in-Some-clause-answer
returns-in-Some-clause-answer g c =
    let rows = c.in-Some.ensures.fits g.records c.requires.1.0 c.args.line_program.now in
    gives_same _ _ (c.row.ensures ∙ rw c.function_key-key.ensures at rows c.requires.1.1 c.args.offset)

pub returns-in_err-insert-clause-is_cache : goal.returns-in_err-insert-clause-is_cache
returns-in_err-insert-clause-is_cache g c = c.insert.ensures.fits g.records c.requires.1.0 (search rules)

pub returns-clause-is_cache : goal.returns-clause-is_cache
returns-clause-is_cache g c = c.insert.ensures.fits g.records c.requires.1.0 (search rules)
