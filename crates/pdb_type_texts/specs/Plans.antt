-- Plans: what is to be printed, as far as one rule settles it.
use Rattle.std.specs.Prelude.{ℕ, ◌==◌, Bool, List, ◌∷◌, Option, Some, None, Result, Ok, Err, if◌then◌else◌}
use Rattle.std.specs.List.{list_any}
use Rattle.pdb_records.specs.declared.error.Error.TheVariants.{UnimplementedTypeKind}
use Rattle.pdb_records.specs.declared.types.MemberFunctionType.{MemberFunctionType}
use Rattle.pdb_records.specs.declared.types.TypeData.{TypeData}
use Rattle.pdb_errors.specs.declared.error.Error.TheVariants.{PdbError, CircularTypeDefinition}
use Rattle.pdb_types.specs.declared.read_error.Part.{Part}
use Rattle.pdb_errors.specs.Errors.{ErrorView, Plain}
use Rattle.pdb_types.specs.ReadError.{ReadErrorView, Missing, Unimplemented, Refused, Broken}
use Rattle.pdb_type_texts.specs.Documents.{Document, TypeNotFound, OfError}
use Rattle.pdb_type_texts.specs.Documents as document
use Rattle.pdb_type_texts.specs.declared.tasks.MethodForm.{MethodForm}
use Rattle.pdb_type_texts.specs.Attributes.{Attribute}
use Rattle.pdb_type_texts.specs.PrintInputs.{PrintInputs}
use Rattle.pdb_type_texts.specs.Wording.{missing_text, unimplemented_text}

-- a task that is still to be printed
pub data Task : Type 0 where
  -- the type of an index
  Index : ℕ → Task
  -- this type
  OfType : TypeData → Task
  -- the arguments of a method in this form, in parentheses
  MethodArguments : MemberFunctionType → MethodForm → Task
  -- a chain of pointers, the last first, that points to the type of an index
  Chain : List Attribute → ℕ → Task
  -- a chain of pointers whose last one points to a modifier of the type of an index
  BehindModifier : List Attribute → ℕ → Task
  -- the type of an index, constant or not
  Modified : Bool → ℕ → Task
  -- an array: the indices of its elements so far, in order, the sizes of its levels so far, and the index of its next
  -- element
  Elements : List ℕ → List ℕ → ℕ → Task
  -- the id of an index, which is a scope of these ids, in order
  Id : List ℕ → ℕ → Task

-- a plan: what is printed, as far as one rule determines it
pub data Plan : Type 0 where
  -- this document
  Done : Document → Plan
  -- the plan by the rule of a task, while these indices are open
  Later : List ℕ → Task → Plan
  -- one plan, and then another
  Seq : Plan → Plan → Plan
  -- a plan whose text is buffered, and one of two texts after it
  Buffered : Plan → List ℕ → List ℕ → Plan
  -- a plan, with a note if it fails because of a missing type
  Catch : Plan → Plan

-- one plan, and then another
infixr 20 ◌▸◌
abbrev pub ◌▸◌ : Plan → Plan → Plan
first ▸ second = Seq first second

-- this text
abbrev pub written : List ℕ → Plan
written text = Done (document.Text text)

-- this error
abbrev pub failing : ErrorView → Plan
failing e = Done (document.Fail (OfError e))

-- the error for an index that opens inside itself
abbrev pub circular : ℕ → Plan
circular index = failing (Plain (CircularTypeDefinition index))

-- whether an index is in a list
abbrev pub is_among : ℕ → List ℕ → Bool
is_among index indices = list_any (λ other. index == other) indices

-- the failure for something needed that can't be read
abbrev pub refusal : ReadErrorView → Document
refusal (Missing index) = document.Fail (TypeNotFound index)
refusal (Unimplemented kind) = document.Fail (OfError (Plain (PdbError (UnimplementedTypeKind kind))))
refusal (Refused e) = document.Fail (OfError e)
refusal (Broken part e) = document.Ask part e

-- the text for something printed in place that can't be read: a note if it is missing or of an unknown kind, otherwise
-- the failure
abbrev pub note_or_refusal : ReadErrorView → Document
note_or_refusal (Missing index) = document.Text (missing_text index)
note_or_refusal (Unimplemented kind) = document.Text (unimplemented_text kind)
note_or_refusal (Refused e) = document.Fail (OfError e)
note_or_refusal (Broken part e) = document.Ask part e

-- the plan after something needed was read, or its failure
abbrev pub on_read : {A : Type 0} → Result A ReadErrorView → (A → Plan) → Plan
on_read (Ok answer) next = next answer
on_read (Err read_error_view) next = Done (refusal read_error_view)

-- the plan after something printed in place was read, or its note or failure
abbrev pub on_printed : {A : Type 0} → Result A ReadErrorView → (A → Plan) → Plan
on_printed (Ok answer) next = next answer
on_printed (Err read_error_view) next = Done (note_or_refusal read_error_view)

-- the plan inside an index that opens; an error if it is open already
abbrev pub opened : List ℕ → ℕ → Plan → Plan
opened inside index within = if is_among index inside then circular index else within

-- the plan inside an index that opens and whose type is read; the type is needed
abbrev pub opening : PrintInputs → List ℕ → ℕ → (List ℕ → TypeData → Plan) → Plan
opening w inside index next = opened inside index (on_read (w.read index) (next (index ∷ inside)))

-- a part of the records that was found broken on the way, and then a plan
abbrev pub met_before : Option Part → Plan → Plan
met_before None plan = plan
met_before (Some part) plan = Done (document.Met part) ▸ plan
