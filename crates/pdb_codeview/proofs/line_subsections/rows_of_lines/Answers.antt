-- The rows that stay are those of lines.
use Rattle.std.proofs.Common.{rules}
use Rattle.std.proofs.lemmas.List.Elements.{filter_from_retain}
use Rattle.std.specs.Prelude.{not}
use Rattle.pdb_codeview.specs.LineSubsections.{is_no_line}
use Rattle.pdb_codeview.proofs.line_subsections.rows_of_lines.Goals as goal

pub returns : goal.returns
returns c =
    filter_from_retain _ (λ row. not (is_no_line row.line_start)) (λ p x b q is. search rules) _ _ _
    c.retain.ensures.filtered
