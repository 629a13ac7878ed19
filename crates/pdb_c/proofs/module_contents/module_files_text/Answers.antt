use Rattle.std.proofs.Common.{◌∙◌, Ok, ap, map, string_bytes, sym}
use Rattle.pdb_errors.specs.Outcomes.{and_then}
use Rattle.pdb_c.specs.ModuleContents.{names_text}
use Rattle.pdb_c.specs.CallError.{refusal_of, refusal_of_fault}
use Rattle.pdb_c.specs.ReportTexts.{with_refusal}
use Rattle.pdb_c.proofs.TextLemmas.{fault_shown, matches}
use Rattle.pdb_c.proofs.module_contents.module_files_text.Goals as goal

pub returns-in_err-names : goal.returns-in_err-names
returns-in_err-names c =
    let fault = c.in_err-names.field-0.0 in
    matches _ _ (refusal_of_fault fault) _ c.from_residual.ensures.1 (λ other.
    ap (λ read. and_then read (λ names. Ok (names_text names))) (fault_shown fault _ c.in_err-names.ensures other))

pub returns : goal.returns
returns c =
    ap (λ read. and_then (with_refusal refusal_of read) (λ names. Ok (names_text names))) c.in_ok-names.ensures
    ∙ ap Ok (sym (c.in_ok-names_text.ensures
    ∙ ap (λ names. names_text (map string_bytes names)) c.deref.ensures.value))
