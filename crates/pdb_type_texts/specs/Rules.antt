-- The rules for printing types and ids, each of them one step deep. The list `inside` has the indices of types that are
-- open.
use Rattle.std.specs.Prelude.{ℕ, ◌++◌, Bool, false, List, [], ◌∷◌, Some, codes, if◌then◌else◌}
use Rattle.std.specs.BTreeSet.{insert_key}
use Rattle.std.specs.Ordering.{nat_cmp}
use Rattle.pdb_records.specs.declared.types.MemberFunctionType.{MemberFunctionType}
use Rattle.pdb_records.specs.declared.types.ProcedureType.{ProcedureType}
use Rattle.pdb_records.specs.declared.types.TypeData.{TypeData}
use Rattle.pdb_records.specs.declared.types.TypeData.TheVariants.{Primitive, Class, MemberFunction, Procedure}
use Rattle.pdb_records.specs.declared.types.TypeData.TheVariants.{Pointer, Array, Union, Enumeration}
use Rattle.pdb_records.specs.declared.types.TypeData.TheVariants.{Enumerate, Modifier, ArgumentList, Other}
use Rattle.pdb_type_texts.specs.declared.attributes.Predecessor.TheVariants.{Opening, Sigil, Text}
use Rattle.pdb_type_texts.specs.declared.tasks.MethodForm.TheVariants.{TypeName}
use Rattle.pdb_type_texts.specs.PrimitiveNames.{primitive_text}
use Rattle.pdb_type_texts.specs.Attributes.{Attribute, attribute_of, with_target, attributes_text}
use Rattle.pdb_type_texts.specs.Wording.{unhandled_text, class_word, declared_text, dimensions_text}
use Rattle.pdb_type_texts.specs.PrintInputs.{PrintInputs}
use Rattle.pdb_type_texts.specs.Plans.{Task, Index, OfType, MethodArguments, Chain, BehindModifier}
use Rattle.pdb_type_texts.specs.Plans.{Modified, Elements, Id, Plan, Later, Buffered, Catch, ◌▸◌, written}
use Rattle.pdb_type_texts.specs.Plans.{circular, is_among, on_read, on_printed, opened, opening, met_before}
use Rattle.pdb_type_texts.specs.Functions.{unless_left_out, returned, returned_if_wanted, list_of_arguments}
use Rattle.pdb_type_texts.specs.Methods.{method_arguments}
use Rattle.pdb_type_texts.specs.Ids.{id_by_kind}

-- a pointer to a method: its return type, the class and the pointers in parentheses, and its arguments
abbrev pub pointers_to_method : PrintInputs → List Attribute → List ℕ → MemberFunctionType → Plan
pointers_to_method w attributes inside m =
    returned inside (unless_left_out m.is_constructor (Some m.return_type))
    ▸ written (codes "(")
    ▸ Later inside (Index m.class_type.0)
    ▸ written (attributes_text w.flags Opening attributes)
    ▸ written (codes ")")
    ▸ Later inside (MethodArguments m TypeName)

-- a pointer to a function: its return type, the pointers in parentheses, and its arguments in parentheses
abbrev pub pointers_to_function : PrintInputs → List Attribute → List ℕ → ProcedureType → Plan
pointers_to_function w attributes inside p =
    returned inside (unless_left_out p.is_constructor p.return_type)
    ▸ written (codes "(")
    ▸ written (attributes_text w.flags Opening attributes)
    ▸ written (codes ")(")
    ▸ Later inside (Index p.argument_list.0)
    ▸ written (codes ")")

-- the end of a chain of pointers: functions are printed around the pointers, and any other type before them
abbrev pub chain_end : PrintInputs → List Attribute → List ℕ → TypeData → Plan
chain_end w attributes inside (MemberFunction m) = pointers_to_method w attributes inside m
chain_end w attributes inside (Procedure p) = pointers_to_function w attributes inside p
chain_end w attributes inside other =
    Buffered (Later inside (OfType other))
    (attributes_text w.flags Sigil attributes)
    (attributes_text w.flags Text attributes)

-- the plan after a modifier in a chain of pointers: a pointer continues the chain, anything else ends it
abbrev pub behind_modifier : PrintInputs → List Attribute → List ℕ → TypeData → Plan
behind_modifier w attributes inside (Pointer p) =
    Later inside (Chain (attribute_of p false ∷ attributes) p.underlying_type.0)
behind_modifier w attributes inside other = chain_end w attributes inside other

-- the plan after a pointer in a chain of pointers: a pointer or a modifier continues the chain, anything else ends it
abbrev pub behind_pointer : PrintInputs → List Attribute → List ℕ → TypeData → Plan
behind_pointer w attributes inside (Pointer p) =
    Later inside (Chain (attribute_of p false ∷ attributes) p.underlying_type.0)
behind_pointer w attributes inside (Modifier m) =
    Later inside (BehindModifier (with_target m.constant attributes) m.underlying_type.0)
behind_pointer w attributes inside other = chain_end w attributes inside other

-- the plan for an element of an array: an array adds one more level; anything else is the base, whose size is read
-- before it is printed
abbrev pub element : PrintInputs → List ℕ → List ℕ → List ℕ → ℕ → TypeData → Plan
element w inside elements levels index (Array a) =
    Later inside (Elements (insert_key nat_cmp elements index) (levels ++ a.first ∷ []) a.element_type.0)
element w inside elements levels index other =
    met_before (w.size index).met
    (Later inside (OfType other) ▸ written (dimensions_text levels (w.size index).size))

-- the target of a modifier, constant or not
abbrev pub modified : PrintInputs → Bool → List ℕ → TypeData → Plan
modified w constant inside (Pointer p) = Later inside (Chain (attribute_of p constant ∷ []) p.underlying_type.0)
modified w constant inside (Primitive p) = written (primitive_text w.flags p constant)
modified w constant inside other = written (if constant then codes "const " else []) ▸ Later inside (OfType other)

-- a type, by its kind
abbrev pub by_kind : PrintInputs → List ℕ → TypeData → Plan
by_kind w inside (Primitive p) = written (primitive_text w.flags p false)
by_kind w inside (Class c) = written (declared_text w.flags (class_word c.class_kind) c.name)
by_kind w inside (Union u) = written (declared_text w.flags (codes "union ") u.name)
by_kind w inside (Enumeration e) = written (declared_text w.flags (codes "enum ") e.name)
by_kind w inside (Enumerate e) = written (declared_text w.flags (codes "enum class ") e.name)
by_kind w inside (MemberFunction m) =
    returned_if_wanted w inside m.is_constructor (Some m.return_type)
    ▸ written (codes "()")
    ▸ Later inside (MethodArguments m TypeName)
by_kind w inside (Procedure p) =
    returned_if_wanted w inside p.is_constructor p.return_type
    ▸ written (codes "()(")
    ▸ Later inside (Index p.argument_list.0)
by_kind w inside (ArgumentList list) = list_of_arguments w inside list
by_kind w inside (Pointer p) = Later inside (Chain (attribute_of p false ∷ []) p.underlying_type.0)
by_kind w inside (Array a) = Later inside (Elements [] (a.first ∷ []) a.element_type.0)
by_kind w inside (Modifier m) = Later inside (Modified m.constant m.underlying_type.0)
by_kind w inside (Other kind) = written (unhandled_text kind)

-- the plan by the rule of a task
abbrev pub rule : PrintInputs → List ℕ → Task → Plan
rule w inside (Index index) =
    on_printed (w.read index) (λ type. opened inside index (Later (index ∷ inside) (OfType type)))
rule w inside (OfType type) = Catch (by_kind w inside type)
rule w inside (MethodArguments m form) = method_arguments w inside m form
rule w inside (Chain attributes target) = opening w inside target (behind_pointer w attributes)
rule w inside (BehindModifier attributes target) = opening w inside target (behind_modifier w attributes)
rule w inside (Modified constant target) = opening w inside target (modified w constant)
rule w inside (Elements elements levels next) =
    if is_among next elements then circular next else on_read (w.read next) (element w inside elements levels next)
rule w inside (Id met index) =
    if is_among index met then circular index
    else on_printed (w.read_id index) (id_by_kind w (insert_key nat_cmp met index))
