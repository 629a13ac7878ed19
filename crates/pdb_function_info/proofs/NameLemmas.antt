-- From a signature that was printed after parts of the records had failed to the one where none had.
use Rattle.std.proofs.Common.{◌≡◌, ◌∙◌, ℕ, List, [], sym, ap, refl}
use Rattle.std.specs.Prelude.{Option, Some, None, option_map}
use Rattle.pdb_errors.specs.Errors.{ErrorView}
use Rattle.pdb_types.specs.FailedParts.{Parts}
use Rattle.pdb_type_texts.specs.Documents.{PrintError, failure_error, Document, run}
use Rattle.pdb_type_texts.specs.Printed.{AlikeFault}
use Rattle.pdb_type_texts.proofs.AlikeLemmas.{alike-runs}
use Rattle.pdb_function_info.specs.NameTexts.{faultless, text_of_run}

-- faults that are alike leave the same text
alike-faultless : (f g : Option PrintError) (text : List ℕ) → AlikeFault f g → faultless f text ≡ faultless g text
alike-faultless None None text alike = refl
alike-faultless (Some e) (Some e') text alike = refl
alike-faultless None (Some e) text alike = absurd alike
alike-faultless (Some e) None text alike = absurd alike

-- a document has the same text, if it has one, whatever failed before
pub same-text : (d : Document) (failed failed' : Parts) → text_of_run (run d failed) ≡ text_of_run (run d failed')
same-text d failed failed' =
    let alike = alike-runs d failed failed' in
    let first : text_of_run (run d failed) ≡ faultless (run d failed').fault (run d failed).text =
    alike-faultless (run d failed).fault (run d failed').fault (run d failed).text alike.fault in
    first ∙ ap (faultless (run d failed').fault) alike.text

-- a text that was printed is that of the document
pub printed-text : (d : Document) (failed after : Parts) (text : List ℕ)
    → run d failed ≡ record { text = text; fault = None; failed = after } → Some text ≡ text_of_run (run d [])
printed-text d failed after text is = ap text_of_run (sym is) ∙ same-text d failed []

-- a fault leaves no text
no-text : (fault : Option PrintError) (text : List ℕ) (e : ErrorView)
    → option_map failure_error fault ≡ Some e → None ≡ faultless fault text
no-text None text e is = cc
no-text (Some failure) text e is = refl

-- a document that could not be printed has no text
pub refused-text : (d : Document) (failed : Parts) (e : ErrorView)
    → option_map failure_error (run d failed).fault ≡ Some e → None ≡ text_of_run (run d [])
refused-text d failed e is = no-text (run d failed).fault (run d failed).text e is ∙ same-text d failed []
