-- What one rule gives fails for nothing but some errors, and for an index that its task repeats.
use Rattle.std.proofs.Common.{◌≡◌, ℕ, Bool, true, false, cond, List, [], ◌∷◌, Option, Some, None, Ok, Err, Result}
use Rattle.std.proofs.Common.{subst}
use Rattle.std.specs.Prelude.{⊤, ◌||◌, ◌==◌, codes}
use Rattle.pdb_records.specs.declared.ids.IdData.{IdData}
use Rattle.pdb_records.specs.declared.ids.IdData.TheVariants as id
use Rattle.pdb_records.specs.declared.ids.FunctionId.{FunctionId}
use Rattle.pdb_records.specs.declared.ids.MemberFunctionId.{MemberFunctionId}
use Rattle.pdb_records.specs.declared.ids.IdIndex.{IdIndex}
use Rattle.pdb_records.specs.declared.types.MemberFunctionType.{MemberFunctionType}
use Rattle.pdb_records.specs.declared.types.TypeIndex.{TypeIndex}
use Rattle.pdb_records.specs.declared.types.TypeData.{TypeData}
use Rattle.pdb_records.specs.declared.types.TypeData.TheVariants.{Primitive, Class, MemberFunction, Procedure, Pointer}
use Rattle.pdb_records.specs.declared.types.TypeData.TheVariants.{Array, Union, Enumeration, Enumerate, Modifier}
use Rattle.pdb_records.specs.declared.types.TypeData.TheVariants.{ArgumentList, Other}
use Rattle.pdb_errors.specs.declared.error.Error.TheVariants.{PdbError, ArgumentTypeNotArgumentList}
use Rattle.pdb_errors.specs.declared.error.Error.TheVariants.{MemberFunctionIdIsNotMemberFunctionType}
use Rattle.pdb_errors.specs.declared.error.Error.TheVariants.{FunctionIdIsNotProcedureType}
use Rattle.pdb_records.specs.declared.error.Error.TheVariants.{UnimplementedTypeKind}
use Rattle.pdb_types.specs.declared.read_error.Part.{Part}
use Rattle.pdb_types.specs.declared.read_error.Part.TheVariants.{Imports, Exports}
use Rattle.pdb_errors.specs.Errors.{ErrorView, Plain}
use Rattle.pdb_types.specs.FailedParts.{Parts, has_failed, unsuccessful, part_error}
use Rattle.pdb_errors.specs.Outcomes.{and_then}
use Rattle.pdb_types.specs.ReadError.{ReadErrorView, Missing, Unimplemented, Refused, Broken}
use Rattle.pdb_type_texts.specs.declared.attributes.Attribute.{Attribute}
use Rattle.pdb_type_texts.specs.declared.attributes.Predecessor.TheVariants.{Opening}
use Rattle.pdb_type_texts.specs.declared.tasks.MethodForm.{MethodForm}
use Rattle.pdb_type_texts.specs.Attributes.{attributes_text}
use Rattle.pdb_type_texts.specs.Documents.{Document, TypeNotFound, OfError, run}
use Rattle.pdb_type_texts.specs.Documents as document
use Rattle.pdb_type_texts.specs.FlagTests.{without_arguments, without_return_type}
use Rattle.pdb_type_texts.specs.Wording.{comma, function_name, dimensions_text}
use Rattle.pdb_type_texts.specs.Functions.{unless_left_out, returned, further_types, types_between, function_arguments}
use Rattle.pdb_type_texts.specs.Ids.{method_id, scope, function_id, id_by_kind}
use Rattle.pdb_type_texts.specs.Methods.{plain_this, this_by_target, this_by_type, this_of, arguments_behind}
use Rattle.pdb_type_texts.specs.Methods.{method_list, on_list}
use Rattle.pdb_type_texts.specs.Plans.{Index, OfType, Plan, Done, Later, Seq, Buffered, Catch, ◌▸◌, written}
use Rattle.pdb_type_texts.specs.Plans.{refusal, note_or_refusal, on_read, on_printed, met_before}
use Rattle.pdb_type_texts.specs.Rules.{chain_end, behind_modifier, behind_pointer, element, modified, by_kind}
use Rattle.pdb_type_texts.specs.Signatures.{signature_by_type, signature}
use Rattle.pdb_type_texts.specs.PrintInputs.{PrintInputs}
use Rattle.pdb_laws.proofs.ReadLemmas.{HasReadErrors, IsGoodReadError, IsGoodReading, AreGoodPrintInputs, reads_then}

-- besides errors of reading, these of the types of functions are among them
pub record HasPrintErrors (Good : ErrorView → Type 0) : Type 0 where
  pub reading : HasReadErrors Good
  pub no_list : Good (Plain ArgumentTypeNotArgumentList)
  pub no_method : Good (Plain MemberFunctionIdIsNotMemberFunctionType)
  pub no_procedure : Good (Plain FunctionIdIsNotProcedureType)

-- a document fails for nothing but these errors, or for a missing type
abbrev pub IsGoodDocument : (ErrorView → Type 0) → Document → Type 0
IsGoodDocument Good d = (failed : Parts) (e : ErrorView) → (run d failed).fault ≡ Some (OfError e) → Good e

-- no document that a plan has already fails for another error
abbrev pub IsGoodPlan : (ErrorView → Type 0) → Plan → Type 0
IsGoodPlan Good (Done d) = IsGoodDocument Good d
IsGoodPlan Good (Later inside task) = ⊤
IsGoodPlan Good (Seq p q) = IsGoodPlan Good p × IsGoodPlan Good q
IsGoodPlan Good (Buffered p after_sigil after_other) = IsGoodPlan Good p
IsGoodPlan Good (Catch p) = IsGoodPlan Good p

-- where these errors are among some
module _ (Good : ErrorView → Type 0) (has : HasPrintErrors Good) where
  -- a text
  pub good_text : (text : List ℕ) → IsGoodPlan Good (written text)
  good_text text = λ failed e is. absurd (cc)

  -- an error that is one of these
  good_error : (error_view : ErrorView) → Good error_view → IsGoodDocument Good (document.Fail (OfError error_view))
  good_error error_view good = λ failed e is. let same : error_view ≡ e = cc in subst Good same good

  -- a part of the records
  good_ask : (part : Part) (error_view : ErrorView)
      → Good error_view → IsGoodDocument Good (document.Ask part error_view)
  good_ask part error_view good = λ failed e is. let same : part_error failed part error_view ≡ e = cc in
      subst Good same (by_test (has_failed failed part)) where
        before : (p : Part) → Good (unsuccessful p)
        before (Imports module_index) = has.reading.imports_failed
        before (Exports module_index) = has.reading.exports_failed

        by_test : (t : Bool) → Good (cond t (unsuccessful part) error_view)
        by_test true = before part
        by_test false = good

  -- why something can't be read
  good_refusal : (read_error_view : ReadErrorView)
      → IsGoodReadError Good read_error_view → IsGoodDocument Good (refusal read_error_view)
  good_refusal (Missing index) good = λ failed e is. absurd (cc)
  good_refusal (Unimplemented kind) good = good_error (Plain (PdbError (UnimplementedTypeKind kind)))
      (has.reading.of_records (UnimplementedTypeKind kind))
  good_refusal (Refused e) good = good_error e good
  good_refusal (Broken part e) good = good_ask part e good

  -- why what is printed where it stands can't be read
  pub good_note : (read_error_view : ReadErrorView)
      → IsGoodReadError Good read_error_view → IsGoodDocument Good (note_or_refusal read_error_view)
  good_note (Missing index) good = λ failed e is. absurd (cc)
  good_note (Unimplemented kind) good = λ failed e is. absurd (cc)
  good_note (Refused e) good = good_error e good
  good_note (Broken part e) good = good_ask part e good

  -- what follows what is needed
  pub good_on_read : {A : Type 0} (r : Result A ReadErrorView) (next : A → Plan) → IsGoodReading Good r
      → ((answer : A) → IsGoodPlan Good (next answer)) → IsGoodPlan Good (on_read r next)
  good_on_read (Ok answer) next reads plans = plans answer
  good_on_read (Err read_error_view) next reads plans = good_refusal read_error_view reads

  -- what follows what is printed where it stands
  pub good_on_printed : {A : Type 0} (r : Result A ReadErrorView) (next : A → Plan) → IsGoodReading Good r
      → ((answer : A) → IsGoodPlan Good (next answer)) → IsGoodPlan Good (on_printed r next)
  good_on_printed (Ok answer) next reads plans = plans answer
  good_on_printed (Err read_error_view) next reads plans = good_note read_error_view reads

  -- what a function returns
  pub good_returned : (inside : List ℕ) (index : Option TypeIndex) → IsGoodPlan Good (returned inside index)
  good_returned inside None = good_text []
  good_returned inside (Some index) = (tt, good_text (codes " "))

  -- further types
  good_further : (separator inside : List ℕ) (list : List TypeIndex)
      → IsGoodPlan Good (further_types separator inside list)
  good_further separator inside [] = good_text []
  good_further separator inside (next ∷ rest) =
      (good_text separator, (tt, good_further separator inside rest))

  -- types between separators
  pub good_between : (separator inside : List ℕ) (list : List TypeIndex) → IsGoodPlan Good (types_between separator inside list)
  good_between separator inside [] = good_text []
  good_between separator inside (next ∷ rest) = (tt, good_further separator inside rest)

  -- a function's arguments
  pub good_arguments : (w : PrintInputs) (inside : List ℕ) (list : TypeIndex) → IsGoodPlan Good (function_arguments w inside list)
  good_arguments w inside list = by_test (without_arguments w.flags) where
    by_test : (t : Bool) → IsGoodPlan Good
        (cond t (written []) (written (codes "(") ▸ Later inside (Index list.0) ▸ written (codes ")")))
    by_test true = good_text []
    by_test false = (good_text (codes "("), (tt, good_text (codes ")")))

  -- the end of a chain of pointers
  good_chain_end : (w : PrintInputs) (attributes : List Attribute) (inside : List ℕ) (type : TypeData)
      → IsGoodPlan Good (chain_end w attributes inside type)
  good_chain_end w attributes inside (MemberFunction m) = (
    good_returned inside (unless_left_out m.is_constructor (Some m.return_type)),
    (
      good_text (codes "("),
      (tt, (good_text (attributes_text w.flags Opening attributes), (good_text (codes ")"), tt))),
    ),
  )
  good_chain_end w attributes inside (Procedure p) = (
    good_returned inside (unless_left_out p.is_constructor p.return_type),
    (
      good_text (codes "("),
      (
        good_text (attributes_text w.flags Opening attributes),
        (good_text (codes ")("), (tt, good_text (codes ")"))),
      ),
    ),
  )
  good_chain_end w attributes inside other = tt

  -- what follows a modifier in a chain of pointers
  pub good_behind_modifier : (w : PrintInputs) (attributes : List Attribute) (inside : List ℕ) (type : TypeData)
      → IsGoodPlan Good (behind_modifier w attributes inside type)
  good_behind_modifier w attributes inside (Pointer p) = tt
  good_behind_modifier w attributes inside other = good_chain_end w attributes inside other

  -- what follows a pointer in a chain of pointers
  pub good_behind_pointer : (w : PrintInputs) (attributes : List Attribute) (inside : List ℕ) (type : TypeData)
      → IsGoodPlan Good (behind_pointer w attributes inside type)
  good_behind_pointer w attributes inside (Pointer p) = tt
  good_behind_pointer w attributes inside (Modifier m) = tt
  good_behind_pointer w attributes inside other = good_chain_end w attributes inside other

  -- an element of an array
  pub good_element : (w : PrintInputs) (inside elements levels : List ℕ) (index : ℕ) (type : TypeData)
      → IsGoodPlan Good (element w inside elements levels index type)
  good_element w inside elements levels index (Array a) = tt
  good_element w inside elements levels index other =
      by_met (w.size index).met (Later inside (OfType other) ▸ written (dimensions_text levels (w.size index).size))
      (tt, good_text []) where
        by_met : (met : Option Part) (p : Plan) → IsGoodPlan Good p → IsGoodPlan Good (met_before met p)
        by_met None p plan = plan
        by_met (Some part) p plan = ((λ failed e is. absurd (cc)), plan)

  -- the target of a modifier
  pub good_modified : (w : PrintInputs) (constant : Bool) (inside : List ℕ) (type : TypeData)
      → IsGoodPlan Good (modified w constant inside type)
  good_modified w constant inside (Pointer p) = tt
  good_modified w constant inside (Primitive p) = good_text []
  good_modified w constant inside other = (good_text [], tt)

  -- a type, by its kind
  pub good_kind : (w : PrintInputs) (inside : List ℕ) (type : TypeData) → IsGoodPlan Good (by_kind w inside type)
  good_kind w inside (Primitive p) = good_text []
  good_kind w inside (Class c) = good_text []
  good_kind w inside (Union u) = good_text []
  good_kind w inside (Enumeration e) = good_text []
  good_kind w inside (Enumerate e) = good_text []
  good_kind w inside (MemberFunction m) = (
    good_returned inside
        (unless_left_out (m.is_constructor || without_return_type w.flags) (Some m.return_type)),
    (good_text (codes "()"), tt),
  )
  good_kind w inside (Procedure p) = (
    good_returned inside (unless_left_out (p.is_constructor || without_return_type w.flags) p.return_type),
    (good_text (codes "()("), tt),
  )
  good_kind w inside (ArgumentList list) = good_between (comma w.flags) inside list
  good_kind w inside (Pointer p) = tt
  good_kind w inside (Array a) = tt
  good_kind w inside (Modifier m) = tt
  good_kind w inside (Other kind) = good_text []

  -- what a method's `this` shows
  good_this : (w : PrintInputs) → AreGoodPrintInputs Good w
      → (class : TypeIndex) (this : Option TypeIndex) → IsGoodReading Good (this_of w class this)
  good_this w reads class None = tt
  good_this w reads class (Some this) = reads_then Good (w.read this.0) (this_by_type w class this)
      (reads.types this.0) by_type where
        by_target : (p : TypeIndex) (t : Bool) → IsGoodReading Good (cond t (Ok (plain_this false))
            (and_then (w.read p.0) (λ target. Ok (this_by_target class this target))))
        by_target p true = tt
        by_target p false = reads_then Good (w.read p.0) (λ target. Ok (this_by_target class this target))
            (reads.types p.0)
            (λ target. tt)

        by_type : (type : TypeData) → IsGoodReading Good (this_by_type w class this type)
        by_type (Pointer p) = by_target p.underlying_type (p.underlying_type.0 == class.0)
        by_type other = tt

  -- a method's list of arguments
  pub good_on_list : (w : PrintInputs) → AreGoodPrintInputs Good w
      → (m : MemberFunctionType) (form : MethodForm) (inside : List ℕ) (type : TypeData)
      → IsGoodPlan Good (on_list w m form inside type)
  good_on_list w reads m form inside (ArgumentList list) =
      good_on_read (this_of w m.class_type m.this_pointer_type) (method_list w inside form list)
      (good_this w reads m.class_type m.this_pointer_type)
      (λ this. (
        good_text (codes "("),
        (good_between (comma w.flags) inside (arguments_behind this.argument list), good_text []),
      ))
  good_on_list w reads m form inside other =
      good_error (Plain ArgumentTypeNotArgumentList) has.no_list

  -- the scope of a function
  good_scope : (met inside : List ℕ) (index : Option IdIndex) → IsGoodPlan Good (scope met inside index)
  good_scope met inside None = good_text []
  good_scope met inside (Some index) = (tt, good_text (codes "::"))

  -- a function of a class
  good_method_id : (w : PrintInputs) (method : MemberFunctionId) (inside : List ℕ) (type : TypeData)
      → IsGoodPlan Good (method_id w method inside type)
  good_method_id w method inside (MemberFunction m) = (
    good_text [],
    (
      good_returned inside
          (unless_left_out (m.is_constructor || without_return_type w.flags) (Some m.return_type)),
      (tt, (good_text (codes "::"), (good_text [], tt))),
    ),
  )
  good_method_id w method inside other =
      good_error (Plain MemberFunctionIdIsNotMemberFunctionType) has.no_method

  -- a function of no class
  good_function_id : (w : PrintInputs) (met : List ℕ) (function : FunctionId) (inside : List ℕ) (type : TypeData)
      → IsGoodPlan Good (function_id w met function inside type)
  good_function_id w met function inside (Procedure p) = (
    good_returned inside (unless_left_out (p.is_constructor || without_return_type w.flags) p.return_type),
    (
      good_scope met inside function.scope,
      (good_text [], good_arguments w inside p.argument_list),
    ),
  )
  good_function_id w met function inside other =
      good_error (Plain FunctionIdIsNotProcedureType) has.no_procedure

  -- an id, by its kind
  pub good_id : (w : PrintInputs) → AreGoodPrintInputs Good w
      → (met : List ℕ) (content : IdData) → IsGoodPlan Good (id_by_kind w met content)
  good_id w reads met (id.MemberFunction method) =
      good_on_read (w.read method.function_type.0) (method_id w method (method.function_type.0 ∷ []))
      (reads.types method.function_type.0) (good_method_id w method (method.function_type.0 ∷ []))
  good_id w reads met (id.Function function) = good_on_read (w.read function.function_type.0)
      (function_id w met function (function.function_type.0 ∷ [])) (reads.types function.function_type.0)
      (good_function_id w met function (function.function_type.0 ∷ []))
  good_id w reads met (id.String string) = good_text []
  good_id w reads met (id.StringList substrings) =
      (good_text [], (good_between (codes "\" \"") [] substrings, good_text []))
  good_id w reads met (id.Other kind) = good_text []

  -- the signature of a function
  pub good_signature : (w : PrintInputs) → AreGoodPrintInputs Good w
      → (name : List ℕ) (index : ℕ) → IsGoodPlan Good (signature w name index)
  good_signature w reads name index = by_test (index == 0) where
    by_type : (inside : List ℕ) (type : TypeData) → IsGoodPlan Good (signature_by_type w name inside type)
    by_type inside (MemberFunction m) = (
      good_text [],
      (
        good_returned inside
            (unless_left_out (m.is_constructor || without_return_type w.flags) (Some m.return_type)),
        (good_text [], tt),
      ),
    )
    by_type inside (Procedure p) = (
      good_returned inside (unless_left_out (p.is_constructor || without_return_type w.flags) p.return_type),
      (good_text [], good_arguments w inside p.argument_list),
    )
    by_type inside other = good_text name

    by_test : (t : Bool) → IsGoodPlan Good
        (cond t (written (function_name name)) (on_read (w.read index) (signature_by_type w name (index ∷ []))))
    by_test true = good_text []
    by_test false = good_on_read (w.read index) (signature_by_type w name (index ∷ [])) (reads.types index)
        (by_type (index ∷ []))
