-- What one turn of printing does.
use Rattle.std.proofs.Common.{◌≡◌, ℕ, ◌+◌, ◌≤◌, true, false, List, [], ◌∷◌, ◌++◌, refl, ◌∙◌, arith}
use Rattle.std.specs.Prelude.{Option, Some, None, Result, Ok, Err}
use Rattle.std.proofs.lemmas.List.{append-nil}
use Rattle.pdb_records.specs.declared.types.TypeData.{TypeData}
use Rattle.pdb_errors.specs.declared.error.Error.TheVariants.{CircularTypeDefinition}
use Rattle.pdb_types.specs.declared.read_error.Part.{Part}
use Rattle.pdb_errors.specs.Errors.{Plain}
use Rattle.pdb_types.specs.FailedParts.{Parts, with_met}
use Rattle.pdb_types.specs.ReadError.{ReadErrorView}
use Rattle.pdb_type_texts.specs.declared.tasks.Pending.TheVariants.{Close, EndCatch}
use Rattle.pdb_type_texts.specs.Documents.{PrintError, OfError, Document, Run, run, then_by}
use Rattle.pdb_type_texts.specs.Documents as document
use Rattle.pdb_type_texts.specs.PrintInputs.{PrintInputs}
use Rattle.pdb_type_texts.specs.Plans.{Task, Index, OfType, Elements, Id, Plan, Done, Later, is_among, on_read}
use Rattle.pdb_type_texts.specs.Plans.{opening, refusal, note_or_refusal, met_before}
use Rattle.pdb_type_texts.specs.Ids.{id_by_kind}
use Rattle.pdb_type_texts.specs.Rules.{rule, by_kind, element}
use Rattle.std.specs.BTreeSet.{insert_key}
use Rattle.std.specs.Ordering.{nat_cmp}
use Rattle.pdb_records.specs.declared.ids.IdData.{IdData}
use Rattle.pdb_type_texts.specs.Progress.{Stage, with_step, with_text, with_failure, open_in, alone, OpensAlone}
use Rattle.pdb_type_texts.specs.Progress.{stage_run}
use Rattle.pdb_type_printer.specs.PendingPlans.{PendingPlan, Then, plans, Advances, AdvancesClosing, Stands}
use Rattle.pdb_type_printer.specs.PendingPlans.{StandsHere, IsEntered, IsEnteredAlone}
use Rattle.pdb_type_printer.proofs.GoesLemmas.{goes_then, goes_fewer, goes_later, goes_seq, goes_done, goes_catch}

-- stages with one text and one failure are runs alike
pub same_run : (old new : Stage) (f : Parts) → new.text ≡ old.text → new.failure ≡ old.failure
    → stage_run new f ≡ stage_run old f
same_run old new f text failure = rw (text, failure) refl

-- a plan that stands among the steps is settled so far
pub advances_stands : (w : PrintInputs) (n : ℕ) (p : Plan) (old new : Stage) → Stands w n p old new → (f : Parts)
    → Advances w p n old f new f
advances_stands w n p old new stands f =
    rw (same_run old new f stands.text stands.failure) (stands.goes (stage_run old f))

-- a plan that stands here is settled so far
pub advances_here : (w : PrintInputs) (p : Plan) (old new : Stage) → StandsHere w p old new → (f : Parts)
    → Advances w p 0 old f new f
advances_here w p old new stands f =
    rw (same_run old new f stands.text stands.failure) (stands.goes (stage_run old f) refl)

-- fewer steps are claimed to be done
pub advances_fewer : (w : PrintInputs) (p : Plan) (m n : ℕ) (old new : Stage) (f f' : Parts) → n ≤ m
    → Advances w p m old f new f' → Advances w p n old f new f'
advances_fewer w p m n old new f f' less goes = goes_fewer n less goes

-- a task is settled as far as the plan of its rule is
pub advances_later : (w : PrintInputs) (inside : List ℕ) (task : Task) (p : Plan) (n : ℕ) (old new : Stage)
    (f f' : Parts) → rule w inside task ≡ p → Advances w p n old f new f'
    → Advances w (Later inside task) (2 + n) old f new f'
advances_later w inside task p n old new f f' is goes =
    goes_then (goes_later w inside task (plans w old.steps) (stage_run old f)) (rw is goes)

-- a document is printed
pub advances_done : (w : PrintInputs) (d : Document) (old new : Stage) (f f' : Parts) → old.failure ≡ None
    → new.steps ≡ old.steps → stage_run new f' ≡ then_by None (stage_run old f) (run d)
    → Advances w (Done d) 1 old f new f'
advances_done w d old new f f' no_failure steps is = rw steps
    (goes_done w d (plans w old.steps) (stage_run old f) (stage_run new f') (rw no_failure is))

-- the plan of an index that opens and is read
opening-is : (w : PrintInputs) (inside : List ℕ) (index : ℕ) (next : List ℕ → TypeData → Plan)
    (r : Result TypeData ReadErrorView) → is_among index inside ≡ false → w.read index ≡ r
    → opening w inside index next ≡ on_read r (next (index ∷ inside))
opening-is w inside index next r absent is = rw (absent, is) refl

-- an index that opens and can't be read
pub entered_read_error : (w : PrintInputs) (index : ℕ) (read_error_view : ReadErrorView) (old mid new : Stage)
    (f f' : Parts) → old.failure ≡ None → is_among index (open_in old.steps) ≡ false
    → mid ≡ with_step (Close index) old → w.read index ≡ Err read_error_view → new.steps ≡ mid.steps
    → stage_run new f' ≡ then_by None (stage_run mid f) (run (refusal read_error_view))
    → (next : List ℕ → TypeData → Plan) → Advances w (opening w (open_in old.steps) index next) 0 old f new f'
entered_read_error w index read_error_view old mid new f f' no_failure absent entered read_error steps is next =
    let done = goes_done w (refusal read_error_view) (plans w old.steps) (stage_run old f) (stage_run new f')
    (rw no_failure (rw entered at is)) in
    rw (opening-is w (open_in old.steps) index next (Err read_error_view) absent read_error, steps, entered) (record {
      ends = done.ends;
      falls = λ cost counts. let a = done.falls cost counts in omega arith;
    })

-- a task whose index opens, and what follows it is settled so far
pub turned_entered : (w : PrintInputs) (task : Task) (index : ℕ) (next : List ℕ → TypeData → Plan) (type : TypeData)
    (old mid new : Stage) (f f' f'' : Parts)
    → rule w (open_in old.steps) task ≡ opening w (open_in old.steps) index next → IsEntered w index old f mid f' type
    → Advances w (next (open_in mid.steps) type) 0 mid f' new f''
    → Advances w (Later (open_in old.steps) task) 1 old f new f''
turned_entered w task index next type old mid new f f' f'' is entered advances =
    let inside : List ℕ = open_in old.steps in
    let settled = rw (entered.stage, entered.parts) at advances in
    let plan = is ∙ opening-is w inside index next (Ok type) entered.absent entered.read in
    let first = goes_later w inside task (plans w old.steps) (stage_run old f) in
    record {
      ends = λ end ends. first.ends end (rw plan (settled.ends end ends));
      falls = λ cost counts.
          let a = settled.falls cost counts in
          let b = rw plan at (counts.later inside task) in
          omega arith;
    }

-- a task whose index opens, and what follows it stands here
pub turned_some : (w : PrintInputs) (task : Task) (index : ℕ) (next : List ℕ → TypeData → Plan) (type : TypeData)
    (old mid new : Stage) (f f' : Parts) → rule w (open_in old.steps) task ≡ opening w (open_in old.steps) index next
    → IsEntered w index old f mid f' type → StandsHere w (next (open_in mid.steps) type) mid new
    → Advances w (Later (open_in old.steps) task) 1 old f new f'
turned_some w task index next type old mid new f f' is entered stands =
    turned_entered w task index next type old mid new f f' f' is entered
    (advances_here w (next (open_in mid.steps) type) mid new stands f')

-- a task whose index opens, and printing fails
pub turned_none : (w : PrintInputs) (task : Task) (index : ℕ) (next : List ℕ → TypeData → Plan) (old new : Stage)
    (f f' : Parts) → rule w (open_in old.steps) task ≡ opening w (open_in old.steps) index next
    → Advances w (opening w (open_in old.steps) index next) 0 old f new f'
    → Advances w (Later (open_in old.steps) task) 1 old f new f'
turned_none w task index next old new f f' is advances =
    advances_fewer w (Later (open_in old.steps) task) 2 1 old new f f' (omega arith)
    (advances_later w (open_in old.steps) task (opening w (open_in old.steps) index next) 0 old new f f' is advances)

-- a type is printed, and a note may follow it
pub turned_type : (w : PrintInputs) (type : TypeData) (old mid new : Stage) (f : Parts) → old.failure ≡ None
    → mid ≡ with_step EndCatch old → Stands w 0 (by_kind w (open_in mid.steps) type) mid new
    → Advances w (Later (open_in old.steps) (OfType type)) 1 old f new f
turned_type w type old mid new f no_failure caught stands =
    let inside : List ℕ = open_in old.steps in
    let q : Plan = by_kind w inside type in
    let settled = advances_stands w 0 q (with_step EndCatch old) new (rw caught at stands) f in
    goes_fewer 1 (omega arith) (goes_then (goes_later w inside (OfType type) (plans w old.steps) (stage_run old f))
    (goes_then (goes_catch w q (plans w old.steps) (stage_run old f) no_failure) settled))

-- printing fails: nothing is written, and what is to be done stays
pub failed_run : (failure : PrintError) (old new : Stage) (f : Parts) → new ≡ with_failure failure old
    → (new.steps ≡ old.steps) × (stage_run new f ≡ record { text = old.text ++ []; fault = Some failure; failed = f })
failed_run failure old new f is = (rw is refl, rw (is, append-nil old.text) refl)

-- a text is written, and what is to be done stays
pub written_run : (t : List ℕ) (old new : Stage) (f : Parts) → old.failure ≡ None → new ≡ with_text t old
    → (new.steps ≡ old.steps) × (stage_run new f ≡ then_by None (stage_run old f) (run (document.Text t)))
written_run t old new f no_failure is = (rw is refl, rw (is, no_failure) refl)

-- a task that is one document is printed
pub turned_done : (w : PrintInputs) (task : Task) (d : Document) (old new : Stage) (f f' : Parts)
    → rule w (open_in old.steps) task ≡ Done d → old.failure ≡ None → new.steps ≡ old.steps
    → stage_run new f' ≡ then_by None (stage_run old f) (run d)
    → Advances w (Later (open_in old.steps) task) 1 old f new f'
turned_done w task d old new f f' plan no_failure steps ran =
    advances_fewer w (Later (open_in old.steps) task) 3 1 old new f f' (omega arith)
    (advances_later w (open_in old.steps) task (Done d) 1 old new f f' plan
    (advances_done w d old new f f' no_failure steps ran))

-- the type of an index that can't be read is noted, or printing fails
pub index_noted : (w : PrintInputs) (index : ℕ) (read_error_view : ReadErrorView) (old new : Stage) (f f' : Parts)
    → w.read index ≡ Err read_error_view → old.failure ≡ None → new.steps ≡ old.steps
    → stage_run new f' ≡ then_by None (stage_run old f) (run (note_or_refusal read_error_view))
    → Advances w (Later (open_in old.steps) (Index index)) 1 old f new f'
index_noted w index read_error_view old new f f' read_error no_failure steps ran =
    turned_done w (Index index) (note_or_refusal read_error_view) old new f f' (rw read_error refl) no_failure steps ran

-- a part that was met broken is remembered, and a plan stands then
pub advances_met : (w : PrintInputs) (met : Option Part) (q : Plan) (old new : Stage) (f f' : Parts)
    → old.failure ≡ None → f' ≡ with_met f met → Stands w 0 q old new → Advances w (met_before met q) 0 old f new f'
advances_met w None q old new f f' no_failure is stands = rw is (advances_stands w 0 q old new stands f)
advances_met w (Some part) q old new f f' no_failure is stands =
    let k : List PendingPlan = plans w old.steps in
    let remembered : stage_run old f' ≡ then_by old.failure (stage_run old f) (run (document.Met part)) =
    rw (is, no_failure, append-nil old.text) refl in
    let met = goes_done w (document.Met part) (Then q ∷ k) (stage_run old f) (stage_run old f') remembered in
    goes_fewer 0 (omega arith) (goes_then (goes_seq w (Done (document.Met part)) q k (stage_run old f))
    (goes_then met (advances_stands w 0 q old new stands f')))

-- what is needed can't be read, and printing failed for it
pub advances_refused : {A : Type 0} (w : PrintInputs) (r : Result A ReadErrorView) (next : A → Plan)
    (read_error_view : ReadErrorView) (old new : Stage) (f f' : Parts) → r ≡ Err read_error_view → old.failure ≡ None
    → new.steps ≡ old.steps → stage_run new f' ≡ then_by None (stage_run old f) (run (refusal read_error_view))
    → Advances w (on_read r next) 1 old f new f'
advances_refused w r next read_error_view old new f f' is no_failure steps ran =
    rw is (advances_done w (refusal read_error_view) old new f f' no_failure steps ran)

-- printing fails
pub advances_failed : (w : PrintInputs) (failure : PrintError) (old new : Stage) (f : Parts) → old.failure ≡ None
    → new ≡ with_failure failure old → Advances w (Done (document.Fail failure)) 1 old f new f
advances_failed w failure old new f no_failure is = let ran = failed_run failure old new f is in
    advances_done w (document.Fail failure) old new f f no_failure ran.0 ran.1

-- an element of an array that is one already is circular
pub elements_circular : (w : PrintInputs) (elements levels : List ℕ) (next : ℕ) (old new : Stage) (f : Parts)
    → is_among next elements ≡ true → old.failure ≡ None
    → new ≡ with_failure (OfError (Plain (CircularTypeDefinition next))) old
    → Advances w (Later (open_in old.steps) (Elements elements levels next)) 1 old f new f
elements_circular w elements levels next old new f among no_failure is =
    let ran = failed_run (OfError (Plain (CircularTypeDefinition next))) old new f is in
    turned_done w (Elements elements levels next) (document.Fail (OfError (Plain (CircularTypeDefinition next))))
    old new f f (rw among refl) no_failure ran.0 ran.1

-- an element of an array that is none yet is read, and what follows it is settled so far
pub elements_read : (w : PrintInputs) (elements levels : List ℕ) (next : ℕ) (old new : Stage) (f f' : Parts)
    → is_among next elements ≡ false
    → Advances w (on_read (w.read next) (element w (open_in old.steps) elements levels next)) 0 old f new f'
    → Advances w (Later (open_in old.steps) (Elements elements levels next)) 1 old f new f'
elements_read w elements levels next old new f f' absent advances =
    let inside : List ℕ = open_in old.steps in
    advances_fewer w (Later inside (Elements elements levels next)) 2 1 old new f f' (omega arith)
    (advances_later w inside (Elements elements levels next) _ 0 old new f f' (rw absent refl) advances)

-- what follows what was read is settled so far
pub advances_read : {A : Type 0} (w : PrintInputs) (n : ℕ) (r : Result A ReadErrorView) (answer : A) (next : A → Plan)
    (old new : Stage) (f f' : Parts) → r ≡ Ok answer → Advances w (next answer) n old f new f'
    → Advances w (on_read r next) n old f new f'
advances_read w n r answer next old new f f' is advances = rw is advances

-- an id that was met before is circular
pub id_circular : (w : PrintInputs) (met : List ℕ) (index : ℕ) (old new : Stage) (f : Parts)
    → is_among index met ≡ true → old.failure ≡ None
    → new ≡ with_failure (OfError (Plain (CircularTypeDefinition index))) old
    → Advances w (Later (open_in old.steps) (Id met index)) 1 old f new f
id_circular w met index old new f among no_failure is =
    let ran = failed_run (OfError (Plain (CircularTypeDefinition index))) old new f is in
    turned_done w (Id met index) (document.Fail (OfError (Plain (CircularTypeDefinition index))))
    old new f f (rw among refl) no_failure ran.0 ran.1

-- an id that can't be read is noted, or printing fails
pub id_noted : (w : PrintInputs) (met : List ℕ) (index : ℕ) (read_error_view : ReadErrorView) (old new : Stage)
    (f f' : Parts) → is_among index met ≡ false → w.read_id index ≡ Err read_error_view → old.failure ≡ None
    → new.steps ≡ old.steps → stage_run new f' ≡ then_by None (stage_run old f)
    (run (note_or_refusal read_error_view)) → Advances w (Later (open_in old.steps) (Id met index)) 1 old f new f'
id_noted w met index read_error_view old new f f' absent read_error no_failure steps ran =
    turned_done w (Id met index) (note_or_refusal read_error_view) old new f f' (rw (absent, read_error) refl)
    no_failure steps ran

-- an id that was read is settled as far as its kind is
pub id_read : (w : PrintInputs) (met : List ℕ) (index : ℕ) (content : IdData) (old new : Stage) (f f' : Parts)
    → is_among index met ≡ false → w.read_id index ≡ Ok content
    → AdvancesClosing w (id_by_kind w (insert_key nat_cmp met index) content) old f new f'
    → Advances w (Later (open_in old.steps) (Id met index)) 1 old f new f'
id_read w met index content old new f f' absent read settled =
    let inside : List ℕ = open_in old.steps in
    let plan : rule w inside (Id met index) ≡ id_by_kind w (insert_key nat_cmp met index) content =
    rw (absent, read) refl in
    let first = goes_later w inside (Id met index) (plans w old.steps) (stage_run old f) in
    record {
      ends = λ end ends. first.ends end (rw plan (settled.ends end ends));
      falls = λ cost counts.
          let a = settled.falls cost counts in
          let b = rw plan at (counts.later inside (Id met index)) in
          omega arith;
    }

-- what is settled so far leaves no step more
pub closing_advances : (w : PrintInputs) (n : ℕ) (p : Plan) (old new : Stage) (f f' : Parts)
    → Advances w p n old f new f' → AdvancesClosing w p old f new f'
closing_advances w n p old new f f' advances = record {
  ends = advances.ends;
  falls = λ cost counts. let a = advances.falls cost counts in omega arith;
}

-- what is settled in an id leaves its end
pub alone_advances : (w : PrintInputs) (index : Option ℕ) (next : List ℕ → Plan) (old mid new : Stage) (f f' : Parts)
    → OpensAlone index old mid → Advances w (next (open_in mid.steps)) 0 mid f new f'
    → AdvancesClosing w (next (alone index)) old f new f'
alone_advances w index next old mid new f f' opens advances = rw opens.1 at advances

-- what follows the type that an id was entered with is settled so far
pub alone_entered : (w : PrintInputs) (index : ℕ) (next : List ℕ → TypeData → Plan) (type : TypeData)
    (old mid new : Stage) (f f' : Parts) → IsEnteredAlone w index old f mid f' type
    → Advances w (next (open_in mid.steps) type) 0 mid f' new f'
    → AdvancesClosing w (on_read (w.read index) (next (index ∷ []))) old f new f'
alone_entered w index next type old mid new f f' entered advances = rw (entered.read, ← entered.parts)
    (alone_advances w (Some index) (λ inside. next inside type) old mid new f' f' entered.opens advances)
