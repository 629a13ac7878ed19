-- The rule of a task gives the same plan over two print inputs that agree, and it asks only for indices of the sets.
use Rattle.std.proofs.Common.{◌≡◌, ℕ, Bool, true, false, cond, List, [], ◌∷◌, Option, Some, None, Ok, Err, Result}
use Rattle.std.proofs.Common.{refl, ap, subst}
use Rattle.std.specs.Prelude.{◌||◌, ◌==◌, codes}
use Rattle.std.specs.BTreeSet.{insert_key}
use Rattle.std.specs.Ordering.{nat_cmp}
use Rattle.pdb_records.specs.declared.ids.IdData.{IdData}
use Rattle.pdb_records.specs.declared.ids.IdData.TheVariants as id
use Rattle.pdb_records.specs.declared.ids.FunctionId.{FunctionId}
use Rattle.pdb_records.specs.declared.ids.MemberFunctionId.{MemberFunctionId}
use Rattle.pdb_records.specs.declared.types.MemberFunctionType.{MemberFunctionType}
use Rattle.pdb_records.specs.declared.types.TypeIndex.{TypeIndex}
use Rattle.pdb_records.specs.declared.types.TypeData.{TypeData}
use Rattle.pdb_records.specs.declared.types.TypeData.TheVariants.{Primitive, Class, MemberFunction, Procedure, Pointer}
use Rattle.pdb_records.specs.declared.types.TypeData.TheVariants.{Array, Union, Enumeration, Enumerate, Modifier}
use Rattle.pdb_records.specs.declared.types.TypeData.TheVariants.{ArgumentList, Other}
use Rattle.pdb_errors.specs.Outcomes.{and_then}
use Rattle.pdb_types.specs.declared.type_sizes.TypeSize.{TypeSize}
use Rattle.pdb_types.specs.ReadError.{ReadErrorView}
use Rattle.pdb_type_texts.specs.declared.attributes.Attribute.{Attribute}
use Rattle.pdb_type_texts.specs.declared.tasks.MethodForm.{MethodForm}
use Rattle.pdb_type_texts.specs.FlagTests.{without_arguments, without_return_type}
use Rattle.pdb_type_texts.specs.Wording.{comma, function_name, dimensions_text}
use Rattle.pdb_type_texts.specs.Ids.{method_id, function_id, id_by_kind}
use Rattle.pdb_type_texts.specs.Methods.{plain_this, this_by_target, this_by_type, this_of, arguments_behind}
use Rattle.pdb_type_texts.specs.Methods.{method_list, on_list, method_arguments}
use Rattle.pdb_type_texts.specs.Plans.{Task, Index, OfType, MethodArguments, Chain, BehindModifier, Modified, Elements}
use Rattle.pdb_type_texts.specs.Plans.{Id, Plan, Later, Catch, ◌▸◌, written, circular, is_among}
use Rattle.pdb_type_texts.specs.Plans.{on_read, on_printed, opened, opening, met_before}
use Rattle.pdb_type_texts.specs.Rules.{chain_end, behind_modifier, behind_pointer, element, modified, by_kind, rule}
use Rattle.pdb_type_texts.specs.Signatures.{signature_by_type, signature}
use Rattle.pdb_type_texts.specs.PrintInputs.{PrintInputs}
use Rattle.pdb_part_laws.specs.Asked.{Indices, AgreeAt, IsClosedAt, TypeAsksAt, IdAsksAt, TaskAsksAt, AsksAt}
use Rattle.pdb_part_laws.specs.Asked.{alone, AreTypesIn}
use Rattle.pdb_part_laws.proofs.AskedLemmas.{asks_returned, asks_between, asks_arguments, asks_scope, asks_met}
use Rattle.pdb_part_laws.proofs.AskedLemmas.{asks_opened, GivesIn, gives_this}

-- two plans are one, and it asks only for indices of the sets
pub record IsSame (at : Indices) (p q : Plan) : Type 0 where
  pub one : p ≡ q
  pub asks : AsksAt at p

-- the second of these print inputs, with the flags of the first
abbrev pub with_flags_of : PrintInputs → PrintInputs → PrintInputs
with_flags_of w other =
    record { read = other.read; size = other.size; read_id = other.read_id; flags = w.flags }

-- a plan is itself
plain : {at : Indices} {p : Plan} → AsksAt at p → IsSame at p p
plain asks = record { one = refl; asks = asks }

-- what follows what is needed
same_on_read : {A : Type 0} (at : Indices) (r r' : Result A ReadErrorView) (next next' : A → Plan) → r ≡ r'
    → ((answer : A) → r ≡ Ok answer → IsSame at (next answer) (next' answer))
    → IsSame at (on_read r next) (on_read r' next')
same_on_read {A = A} at r r' next next' e plans =
    subst (λ x. IsSame at (on_read r next) (on_read x next')) e (by_read r plans) where
      by_read : (x : Result A ReadErrorView) → ((answer : A) → x ≡ Ok answer → IsSame at (next answer) (next' answer))
          → IsSame at (on_read x next) (on_read x next')
      by_read (Ok answer) same = same answer refl
      by_read (Err error) same = plain tt

-- what follows what is printed where it stands
same_on_printed : {A : Type 0} (at : Indices) (r r' : Result A ReadErrorView) (next next' : A → Plan) → r ≡ r'
    → ((answer : A) → r ≡ Ok answer → IsSame at (next answer) (next' answer))
    → IsSame at (on_printed r next) (on_printed r' next')
same_on_printed {A = A} at r r' next next' e plans =
    subst (λ x. IsSame at (on_printed r next) (on_printed x next')) e (by_read r plans) where
      by_read : (x : Result A ReadErrorView) → ((answer : A) → x ≡ Ok answer → IsSame at (next answer) (next' answer))
          → IsSame at (on_printed x next) (on_printed x next')
      by_read (Ok answer) same = same answer refl
      by_read (Err error) same = plain tt

-- one reading after another
same_then : {A B : Type 0} (r r' : Result A ReadErrorView) (next next' : A → Result B ReadErrorView) → r ≡ r'
    → ((answer : A) → r ≡ Ok answer → next answer ≡ next' answer) → and_then r next ≡ and_then r' next'
same_then {A = A} r r' next next' e answers =
    subst (λ x. and_then r next ≡ and_then x next') e (by_read r answers) where
      by_read : (x : Result A ReadErrorView) → ((answer : A) → x ≡ Ok answer → next answer ≡ next' answer)
          → and_then x next ≡ and_then x next'
      by_read (Ok answer) same = same answer refl
      by_read (Err error) same = refl

-- two print inputs that agree, where the first leads to no index outside the sets
module _ (at : Indices) (w other : PrintInputs) (agree : AgreeAt at w other) (closed : IsClosedAt at w) where
  -- the second, with the flags of the first
  abbrev v : PrintInputs
  v = with_flags_of w other

  -- a type that is read and needed
  same_read : (index : ℕ) (next next' : TypeData → Plan) → at.types index ≡ true
      → ((content : TypeData) → TypeAsksAt at content → IsSame at (next content) (next' content))
      → IsSame at (on_read (w.read index) next) (on_read (v.read index) next')
  same_read index next next' asked plans =
      same_on_read at (w.read index) (v.read index) next next' (agree.types index asked)
      (λ content is. plans content (closed.types index content asked is))

  -- an index that opens
  same_opening : (inside : List ℕ) (index : ℕ) (next next' : List ℕ → TypeData → Plan) → at.types index ≡ true
      → ((content : TypeData) → TypeAsksAt at content
      → IsSame at (next (index ∷ inside) content) (next' (index ∷ inside) content))
      → IsSame at (opening w inside index next) (opening v inside index next')
  same_opening inside index next next' asked plans = by_test (is_among index inside) where
    by_test : (t : Bool) → IsSame at
        (cond t (circular index) (on_read (w.read index) (next (index ∷ inside))))
        (cond t (circular index) (on_read (v.read index) (next' (index ∷ inside))))
    by_test true = plain tt
    by_test false = same_read index (next (index ∷ inside)) (next' (index ∷ inside)) asked plans

  -- the end of a chain of pointers
  same_chain_end : (attributes : List Attribute) (inside : List ℕ) (content : TypeData) → TypeAsksAt at content
      → IsSame at (chain_end w attributes inside content) (chain_end v attributes inside content)
  same_chain_end attributes inside (MemberFunction m) asked = plain (
    asks_returned at inside m.is_constructor (Some m.return_type) (asked.types.0, tt),
    (tt, (asked.types.1.0, (tt, (tt, asked.types.1.1)))),
  )
  same_chain_end attributes inside (Procedure p) asked = plain (
    asks_returned at inside p.is_constructor p.return_type asked.types.1,
    (tt, (tt, (tt, (asked.types.0, tt)))),
  )
  same_chain_end attributes inside other asked = plain asked

  -- what follows a modifier in a chain of pointers
  same_behind_modifier : (attributes : List Attribute) (inside : List ℕ) (content : TypeData) → TypeAsksAt at content
      → IsSame at (behind_modifier w attributes inside content) (behind_modifier v attributes inside content)
  same_behind_modifier attributes inside (Pointer p) asked = plain asked.types.0
  same_behind_modifier attributes inside other asked = same_chain_end attributes inside other asked

  -- what follows a pointer in a chain of pointers
  same_behind_pointer : (attributes : List Attribute) (inside : List ℕ) (content : TypeData) → TypeAsksAt at content
      → IsSame at (behind_pointer w attributes inside content) (behind_pointer v attributes inside content)
  same_behind_pointer attributes inside (Pointer p) asked = plain asked.types.0
  same_behind_pointer attributes inside (Modifier m) asked = plain asked.types.0
  same_behind_pointer attributes inside other asked = same_chain_end attributes inside other asked

  -- an element of an array
  same_element : (inside elements levels : List ℕ) (index : ℕ) → at.sizes index ≡ true
      → (content : TypeData) → TypeAsksAt at content
      → IsSame at (element w inside elements levels index content) (element v inside elements levels index content)
  same_element inside elements levels index size (Array a) asked = plain (asked.types.0, asked.sizes.0)
  same_element inside elements levels index size other asked =
      let Base : TypeSize → Plan = λ s. met_before s.met
      (Later inside (OfType other) ▸ written (dimensions_text levels s.size)) in
      subst (λ s. IsSame at (Base (w.size index)) (Base s)) (agree.sizes index size)
      (plain (asks_met at (w.size index).met
      (Later inside (OfType other) ▸ written (dimensions_text levels (w.size index).size)) (asked, tt)))

  -- the target of a modifier
  same_modified : (constant : Bool) (inside : List ℕ) (content : TypeData) → TypeAsksAt at content
      → IsSame at (modified w constant inside content) (modified v constant inside content)
  same_modified constant inside (Pointer p) asked = plain asked.types.0
  same_modified constant inside (Primitive p) asked = plain tt
  same_modified constant inside other asked = plain (tt, asked)

  -- a type, by its kind
  same_kind : (inside : List ℕ) (content : TypeData) → TypeAsksAt at content
      → IsSame at (by_kind w inside content) (by_kind v inside content)
  same_kind inside (Primitive p) asked = plain tt
  same_kind inside (Class c) asked = plain tt
  same_kind inside (Union u) asked = plain tt
  same_kind inside (Enumeration e) asked = plain tt
  same_kind inside (Enumerate e) asked = plain tt
  same_kind inside (MemberFunction m) asked = plain (
    asks_returned at inside (m.is_constructor || without_return_type w.flags) (Some m.return_type)
        (asked.types.0, tt),
    (tt, asked.types.1.1),
  )
  same_kind inside (Procedure p) asked = plain (
    asks_returned at inside (p.is_constructor || without_return_type w.flags) p.return_type asked.types.1,
    (tt, asked.types.0),
  )
  same_kind inside (ArgumentList list) asked = plain (asks_between at (comma w.flags) inside list asked.types)
  same_kind inside (Pointer p) asked = plain asked.types.0
  same_kind inside (Array a) asked = plain (asked.types.0, asked.sizes.0)
  same_kind inside (Modifier m) asked = plain asked.types.0
  same_kind inside (Other kind) asked = plain tt

  -- what a method's `this` shows
  same_this : (class : TypeIndex) (this : Option TypeIndex) → AreTypesIn at.types (alone this)
      → this_of w class this ≡ this_of v class this
  same_this class None asked = refl
  same_this class (Some this) asked = same_then (w.read this.0) (v.read this.0)
      (this_by_type w class this) (this_by_type v class this) (agree.types this.0 asked.0)
      (λ content is. by_type content (closed.types this.0 content asked.0 is)) where
        by_target : (target : TypeIndex) → at.types target.0 ≡ true → (t : Bool)
            → cond t (Ok (plain_this false))
            (and_then (w.read target.0) (λ content. Ok (this_by_target class this content)))
            ≡ cond t (Ok (plain_this false))
            (and_then (v.read target.0) (λ content. Ok (this_by_target class this content)))
        by_target target among true = refl
        by_target target among false =
            ap (λ r. and_then r (λ content. Ok (this_by_target class this content))) (agree.types target.0 among)

        by_type : (content : TypeData) → TypeAsksAt at content
            → this_by_type w class this content ≡ this_by_type v class this content
        by_type (Pointer p) behind =
            by_target p.underlying_type behind.types.0 (p.underlying_type.0 == class.0)
        by_type other behind = refl

  -- a method's list of arguments, after `this` where that is an argument
  same_list : (m : MemberFunctionType) (form : MethodForm) (inside : List ℕ) (list : List TypeIndex)
      → AreTypesIn at.types list → AreTypesIn at.types (alone m.this_pointer_type)
      → IsSame at (on_read (this_of w m.class_type m.this_pointer_type) (method_list w inside form list))
      (on_read (this_of v m.class_type m.this_pointer_type) (method_list v inside form list))
  same_list m form inside list asked this_asked =
      same_on_read at (this_of w m.class_type m.this_pointer_type) (this_of v m.class_type m.this_pointer_type)
      (method_list w inside form list) (method_list v inside form list)
      (same_this m.class_type m.this_pointer_type this_asked)
      (λ this is. plain (
        tt,
        (
          asks_between at (comma w.flags) inside (arguments_behind this.argument list)
              (by_argument this.argument
              (subst (GivesIn at) is (gives_this at w m.class_type m.this_pointer_type this_asked))),
          tt,
        ),
      ))
    where
      by_argument : (argument : Option TypeIndex) → AreTypesIn at.types (alone argument)
          → AreTypesIn at.types (arguments_behind argument list)
      by_argument None argument_asked = asked
      by_argument (Some argument) argument_asked = (argument_asked.0, asked)

  -- what follows the type of a method's list of arguments
  same_on_list : (m : MemberFunctionType) (form : MethodForm) (inside : List ℕ)
      → AreTypesIn at.types (alone m.this_pointer_type) → (content : TypeData) → TypeAsksAt at content
      → IsSame at (on_list w m form inside content) (on_list v m form inside content)
  same_on_list m form inside this_asked (ArgumentList list) asked =
      same_list m form inside list asked.types this_asked
  same_on_list m form inside this_asked other asked = plain tt

  -- a method's arguments
  same_method_arguments : (inside : List ℕ) (m : MemberFunctionType) (form : MethodForm)
      → AreTypesIn at.types (m.argument_list ∷ alone m.this_pointer_type)
      → IsSame at (method_arguments w inside m form) (method_arguments v inside m form)
  same_method_arguments inside m form asked = by_flag (without_arguments w.flags) where
    by_flag : (t : Bool) → IsSame at
        (cond t (written []) (opening w inside m.argument_list.0 (on_list w m form)))
        (cond t (written []) (opening v inside m.argument_list.0 (on_list v m form)))
    by_flag true = plain tt
    by_flag false = same_opening inside m.argument_list.0 (on_list w m form) (on_list v m form) asked.0
        (same_on_list m form (m.argument_list.0 ∷ inside) asked.1)

  -- a function of a class
  same_method_id : (method : MemberFunctionId) (inside : List ℕ) → at.types method.parent.0 ≡ true
      → (content : TypeData) → TypeAsksAt at content
      → IsSame at (method_id w method inside content) (method_id v method inside content)
  same_method_id method inside parent (MemberFunction m) asked = plain (
    tt,
    (
      asks_returned at inside (m.is_constructor || without_return_type w.flags) (Some m.return_type)
          (asked.types.0, tt),
      (parent, (tt, (tt, asked.types.1.1))),
    ),
  )
  same_method_id method inside parent other asked = plain tt

  -- a function of no class
  same_function_id : (met : List ℕ) (function : FunctionId) (inside : List ℕ) → IdAsksAt at (id.Function function)
      → (content : TypeData) → TypeAsksAt at content
      → IsSame at (function_id w met function inside content) (function_id v met function inside content)
  same_function_id met function inside id_asked (Procedure p) asked = plain (
    asks_returned at inside (p.is_constructor || without_return_type w.flags) p.return_type asked.types.1,
    (
      asks_scope at met inside function.scope id_asked.ids,
      (tt, asks_arguments at w inside p.argument_list asked.types.0),
    ),
  )
  same_function_id met function inside id_asked other asked = plain tt

  -- an id, by its kind
  same_id : (met : List ℕ) (content : IdData) → IdAsksAt at content
      → IsSame at (id_by_kind w met content) (id_by_kind v met content)
  same_id met (id.MemberFunction method) asked =
      same_read method.function_type.0
      (method_id w method (method.function_type.0 ∷ [])) (method_id v method (method.function_type.0 ∷ []))
      asked.types.0 (same_method_id method (method.function_type.0 ∷ []) asked.types.1.0)
  same_id met (id.Function function) asked =
      same_read function.function_type.0
      (function_id w met function (function.function_type.0 ∷ []))
      (function_id v met function (function.function_type.0 ∷ []))
      asked.types.0 (same_function_id met function (function.function_type.0 ∷ []) asked)
  same_id met (id.String string) asked = plain tt
  same_id met (id.StringList substrings) asked =
      plain (tt, (asks_between at (codes "\" \"") [] substrings asked.types, tt))
  same_id met (id.Other kind) asked = plain tt

  -- the signature of a function
  pub same_signature : (name : List ℕ) (index : ℕ) → at.types index ≡ true
      → IsSame at (signature w name index) (signature v name index)
  same_signature name index asked = by_test (index == 0) where
    by_type : (inside : List ℕ) (content : TypeData) → TypeAsksAt at content
        → IsSame at (signature_by_type w name inside content) (signature_by_type v name inside content)
    by_type inside (MemberFunction m) behind = plain (
      tt,
      (
        asks_returned at inside (m.is_constructor || without_return_type w.flags) (Some m.return_type)
            (behind.types.0, tt),
        (tt, behind.types.1.1),
      ),
    )
    by_type inside (Procedure p) behind = plain (
      asks_returned at inside (p.is_constructor || without_return_type w.flags) p.return_type behind.types.1,
      (tt, asks_arguments at w inside p.argument_list behind.types.0),
    )
    by_type inside other behind = plain tt

    by_test : (t : Bool) → IsSame at
        (cond t (written (function_name name)) (on_read (w.read index) (signature_by_type w name (index ∷ []))))
        (cond t (written (function_name name)) (on_read (v.read index) (signature_by_type v name (index ∷ []))))
    by_test true = plain tt
    by_test false = same_read index (signature_by_type w name (index ∷ [])) (signature_by_type v name (index ∷ []))
        asked (by_type (index ∷ []))

  -- the rule of a task
  pub same_rule : (inside : List ℕ) (task : Task) → TaskAsksAt at task
      → IsSame at (rule w inside task) (rule v inside task)
  same_rule inside (Index index) asked =
      same_on_printed at (w.read index) (v.read index)
      (λ content. opened inside index (Later (index ∷ inside) (OfType content)))
      (λ content. opened inside index (Later (index ∷ inside) (OfType content))) (agree.types index asked)
      (λ content is. plain (asks_opened at inside index (Later (index ∷ inside) (OfType content))
      (closed.types index content asked is)))
  same_rule inside (OfType content) asked =
      let same = same_kind inside content asked in
      record { one = ap (λ (p : Plan). Catch p) same.one; asks = same.asks }
  same_rule inside (MethodArguments m form) asked = same_method_arguments inside m form asked
  same_rule inside (Chain attributes target) asked =
      same_opening inside target (behind_pointer w attributes) (behind_pointer v attributes) asked
      (same_behind_pointer attributes (target ∷ inside))
  same_rule inside (BehindModifier attributes target) asked =
      same_opening inside target (behind_modifier w attributes) (behind_modifier v attributes) asked
      (same_behind_modifier attributes (target ∷ inside))
  same_rule inside (Modified constant target) asked =
      same_opening inside target (modified w constant) (modified v constant) asked
      (same_modified constant (target ∷ inside))
  same_rule inside (Elements elements levels next) asked = by_test (is_among next elements) where
    by_test : (t : Bool) → IsSame at
        (cond t (circular next) (on_read (w.read next) (element w inside elements levels next)))
        (cond t (circular next) (on_read (v.read next) (element v inside elements levels next)))
    by_test true = plain tt
    by_test false = same_read next (element w inside elements levels next) (element v inside elements levels next)
        asked.0 (same_element inside elements levels next asked.1)
  same_rule inside (Id met index) asked = by_test (is_among index met) where
    by_test : (t : Bool) → IsSame at
        (cond t (circular index) (on_printed (w.read_id index) (id_by_kind w (insert_key nat_cmp met index))))
        (cond t (circular index) (on_printed (v.read_id index) (id_by_kind v (insert_key nat_cmp met index))))
    by_test true = plain tt
    by_test false = same_on_printed at (w.read_id index) (v.read_id index)
        (id_by_kind w (insert_key nat_cmp met index)) (id_by_kind v (insert_key nat_cmp met index))
        (agree.ids index asked)
        (λ content is. same_id (insert_key nat_cmp met index) content (closed.ids index content asked is))
