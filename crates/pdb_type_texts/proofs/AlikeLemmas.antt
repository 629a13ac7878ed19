-- Which parts of the records failed before changes neither the text nor whether printing succeeds.
use Rattle.std.proofs.Common.{◌≡◌, ℕ, List, refl}
use Rattle.std.specs.Prelude.{Option, Some, None}
use Rattle.pdb_types.specs.FailedParts.{Parts}
use Rattle.pdb_type_texts.specs.Documents.{PrintError, TypeNotFound, OfError, Document, Text, Seq, Buffered, Catch, Fail}
use Rattle.pdb_type_texts.specs.Documents.{Ask, Met, Run, run, then_by, buffered_by, caught_by}
use Rattle.pdb_type_texts.specs.Printed.{AlikeFault, AlikeRuns}

-- a run is like itself
alike-self : (fault : Option PrintError) → AlikeFault fault fault
alike-self None = tt
alike-self (Some (TypeNotFound i)) = refl
alike-self (Some (OfError e)) = tt

-- one run after another
alike-then : (f f' : Option PrintError) (a a' : Run) (next next' : Parts → Run) → f ≡ a.fault → f' ≡ a'.fault
    → a.text ≡ a'.text → AlikeFault f f' → ((p p' : Parts) → AlikeRuns (next p) (next' p'))
    → AlikeRuns (then_by f a next) (then_by f' a' next')
alike-then None None a a' next next' is is' text alike each =
    let rest = each a.failed a'.failed in
    record { text = rw (text, rest.text) refl; fault = rest.fault }
alike-then (Some (TypeNotFound i)) (Some (TypeNotFound j)) a a' next next' is is' text alike each =
    record { text = text; fault = rw (← is, ← is') alike }
alike-then (Some (OfError e)) (Some (OfError e')) a a' next next' is is' text alike each =
    record { text = text; fault = rw (← is, ← is') tt }
alike-then _ _ a a' next next' is is' text alike each = absurd alike

-- a text that is held back
alike-buffered : (f f' : Option PrintError) (a a' : Run) (u v : List ℕ) → f ≡ a.fault → f' ≡ a'.fault → a.text ≡ a'.text
    → AlikeFault f f' → AlikeRuns (buffered_by f a u v) (buffered_by f' a' u v)
alike-buffered None None a a' u v is is' text alike = record { text = rw text refl; fault = tt }
alike-buffered (Some (TypeNotFound i)) (Some (TypeNotFound j)) a a' u v is is' text alike =
    record { text = refl; fault = rw (← is, ← is') alike }
alike-buffered (Some (OfError e)) (Some (OfError e')) a a' u v is is' text alike =
    record { text = refl; fault = rw (← is, ← is') tt }
alike-buffered _ _ a a' u v is is' text alike = absurd alike

-- a note in place of a failure
alike-caught : (f f' : Option PrintError) (a a' : Run) → f ≡ a.fault → f' ≡ a'.fault → a.text ≡ a'.text → AlikeFault f f'
    → AlikeRuns (caught_by f a) (caught_by f' a')
alike-caught None None a a' is is' text alike = record { text = text; fault = rw (← is, ← is') tt }
alike-caught (Some (TypeNotFound i)) (Some (TypeNotFound j)) a a' is is' text alike =
    record { text = rw (text, alike) refl; fault = tt }
alike-caught (Some (OfError e)) (Some (OfError e')) a a' is is' text alike =
    record { text = text; fault = rw (← is, ← is') tt }
alike-caught _ _ a a' is is' text alike = absurd alike

-- a document does alike, whatever failed before
pub alike-runs : (d : Document) (failed failed' : Parts) → AlikeRuns (run d failed) (run d failed')
alike-runs (Text t) failed failed' = record { text = refl; fault = tt }
alike-runs (Seq a b) failed failed' =
    let first = alike-runs a failed failed' in
    alike-then (run a failed).fault (run a failed').fault (run a failed) (run a failed') (run b)
    (run b) refl refl first.text first.fault (λ p p'. alike-runs b p p')
alike-runs (Buffered a u v) failed failed' =
    let inner = alike-runs a failed failed' in
    alike-buffered (run a failed).fault (run a failed').fault (run a failed)
    (run a failed') u v refl refl inner.text inner.fault
alike-runs (Catch a) failed failed' =
    let inner = alike-runs a failed failed' in
    alike-caught (run a failed).fault (run a failed').fault (run a failed)
    (run a failed') refl refl inner.text inner.fault
alike-runs (Fail e) failed failed' = record { text = refl; fault = alike-self (Some e) }
alike-runs (Ask part e) failed failed' = record { text = refl; fault = tt }
alike-runs (Met part) failed failed' = record { text = refl; fault = tt }
