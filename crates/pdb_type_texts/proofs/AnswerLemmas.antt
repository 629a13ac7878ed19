-- What calls that print answer.
use Rattle.std.proofs.Common.{◌≡◌, ℕ, List, refl, sym, ap, ◌∙◌}
use Rattle.std.specs.Prelude.{Some, option_map}
use Rattle.pdb_errors.specs.declared.error.Error.{Error}
use Rattle.pdb_errors.specs.Errors.{error_view}
use Rattle.pdb_types.specs.FailedParts.{Parts}
use Rattle.pdb_type_texts.specs.declared.print_error.PrintError as code
use Rattle.pdb_type_texts.specs.declared.print_error.PrintError.TheVariants as code_failure
use Rattle.pdb_type_texts.specs.PrintedTexts.{FailsWith}
use Rattle.pdb_type_texts.specs.Documents.{Run, failure_error}
use Rattle.pdb_type_texts.specs.Progress.{failure_of, error_of}

-- a failure is answered by its error
error_view_of_failure : (failure : code.PrintError) → failure_error (failure_of failure) ≡ error_view (error_of failure)
error_view_of_failure (code_failure.TypeNotFound index) = refl
error_view_of_failure (code_failure.OfError e) = refl

-- a run that failed fails with the error of its failure
pub fails_with : (failure : code.PrintError) (r : Run) (text : List ℕ) (failed : Parts) (e : Error)
    → r ≡ record { text = text; fault = Some (failure_of failure); failed = failed } → e ≡ error_of failure
    → FailsWith r e failed
fails_with failure r text failed e ran is = record {
  error = ap (λ (x : Run). option_map failure_error x.fault) ran ∙ ap Some
      (error_view_of_failure failure ∙ ap error_view (sym is));
  failed = ap (λ (x : Run). x.failed) ran;
}
