-- At the end all characters are written.
use Rattle.std.proofs.Common.{◌≡◌, ◌∙◌, sym, arith}
use Rattle.std.proofs.lemmas.Iterator.{YieldsList-from_chars}
use Rattle.std.proofs.lemmas.Iterator.Consumers.{YieldsList-end}
use Rattle.std.proofs.lemmas.List.{map-id}
use Rattle.std.proofs.lemmas.Grind.{common_steps}
use Rattle.std.specs.Str.{chars}
use Rattle.pdb_breakpad.proofs.name_text.push_line_text.Goals as goal

pub returns : goal.returns
returns c =
    let end = YieldsList-end (YieldsList-from_chars c.args.part.now c.utf8.part cc) c.loop-character.yielded _
    c.loop-character.yielded_by _ _ c.in-None.is c.next.ensures.steps in
    let all : c.loop-character.yielded ≡ chars c.args.part.now = sym (map-id c.loop-character.yielded) ∙ end.0 in
    grind (arith, common_steps, all)
