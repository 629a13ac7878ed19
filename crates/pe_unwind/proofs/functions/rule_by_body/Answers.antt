-- Where an offset has the rules of the body, they are at hand.
use Rattle.std.proofs.Common.{sym, ◌∙◌}
use Rattle.pe_unwind.proofs.LineLemmas.{plain_rule}
use Rattle.pe_unwind.proofs.functions.rule_by_body.Goals as goal

pub returns-then-is_plain : goal.returns-then-is_plain
returns-then-is_plain c =
    c.requires.body
    ∙ sym (plain_rule c.args.function.now c.args.code.now c.args.offset (sym c.if-is_plain.ensures))
