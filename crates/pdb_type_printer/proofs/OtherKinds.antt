-- What the rules say of types of other kinds than those that they distinguish.
use Rattle.std.proofs.Common.{◌≡◌, ℕ, Bool, List, [], refl}
use Rattle.std.specs.Prelude.{codes, if◌then◌else◌}
use Rattle.pdb_records.specs.declared.types.TypeIndex.{TypeIndex}
use Rattle.pdb_records.specs.declared.types.PrimitiveType.{PrimitiveType}
use Rattle.pdb_records.specs.declared.types.MemberFunctionType.{MemberFunctionType}
use Rattle.pdb_records.specs.declared.types.ProcedureType.{ProcedureType}
use Rattle.pdb_records.specs.declared.types.PointerType.{PointerType}
use Rattle.pdb_records.specs.declared.types.ModifierType.{ModifierType}
use Rattle.pdb_records.specs.declared.types.TypeData.{TypeData}
use Rattle.pdb_records.specs.declared.types.TypeData.TheVariants.{Primitive, MemberFunction, Procedure, Pointer}
use Rattle.pdb_records.specs.declared.types.TypeData.TheVariants.{Modifier, ArgumentList}
use Rattle.pdb_errors.specs.declared.error.Error.TheVariants.{ArgumentTypeNotArgumentList}
use Rattle.pdb_errors.specs.declared.error.Error.TheVariants.{MemberFunctionIdIsNotMemberFunctionType}
use Rattle.pdb_errors.specs.declared.error.Error.TheVariants.{FunctionIdIsNotProcedureType}
use Rattle.pdb_errors.specs.Errors.{Plain}
use Rattle.pdb_records.specs.declared.ids.MemberFunctionId.{MemberFunctionId}
use Rattle.pdb_records.specs.declared.ids.FunctionId.{FunctionId}
use Rattle.pdb_type_texts.specs.Ids.{method_id, function_id}
use Rattle.pdb_type_texts.specs.declared.attributes.Attribute.{Attribute}
use Rattle.pdb_type_texts.specs.declared.tasks.MethodForm.{MethodForm}
use Rattle.pdb_type_texts.specs.declared.attributes.Predecessor.TheVariants.{Sigil, Text}
use Rattle.pdb_type_texts.specs.Attributes.{attributes_text}
use Rattle.pdb_type_texts.specs.PrintInputs.{PrintInputs}
use Rattle.pdb_type_texts.specs.Plans.{OfType, Later, Buffered, ◌▸◌, written, failing}
use Rattle.pdb_type_texts.specs.Rules.{chain_end, behind_modifier, behind_pointer, modified}
use Rattle.pdb_type_texts.specs.Methods.{on_list}

-- any other type than a function ends a chain of pointers before them
pub chain_end-other : (w : PrintInputs) (attributes : List Attribute) (inside : List ℕ) (type : TypeData)
    → ((x : MemberFunctionType) → type ≡ MemberFunction x → ⊥) → ((x : ProcedureType) → type ≡ Procedure x → ⊥)
    → chain_end w attributes inside type ≡ Buffered (Later inside (OfType type))
    (attributes_text w.flags Sigil attributes) (attributes_text w.flags Text attributes)
chain_end-other w attributes inside (MemberFunction x) not0 not1 = absurd (not0 x refl)
chain_end-other w attributes inside (Procedure x) not0 not1 = absurd (not1 x refl)
chain_end-other w attributes inside _ not0 not1 = refl

-- any other type than a pointer ends a chain after a modifier
pub behind_modifier-other : (w : PrintInputs) (attributes : List Attribute) (inside : List ℕ) (type : TypeData)
    → ((x : PointerType) → type ≡ Pointer x → ⊥)
    → behind_modifier w attributes inside type ≡ chain_end w attributes inside type
behind_modifier-other w attributes inside (Pointer x) not0 = absurd (not0 x refl)
behind_modifier-other w attributes inside _ not0 = refl

-- any other type than a pointer or a modifier ends a chain after a pointer
pub behind_pointer-other : (w : PrintInputs) (attributes : List Attribute) (inside : List ℕ) (type : TypeData)
    → ((x : PointerType) → type ≡ Pointer x → ⊥) → ((x : ModifierType) → type ≡ Modifier x → ⊥)
    → behind_pointer w attributes inside type ≡ chain_end w attributes inside type
behind_pointer-other w attributes inside (Pointer x) not0 not1 = absurd (not0 x refl)
behind_pointer-other w attributes inside (Modifier x) not0 not1 = absurd (not1 x refl)
behind_pointer-other w attributes inside _ not0 not1 = refl

-- any other type than a pointer or one that the compiler brings has `const` before it
pub modified-other : (w : PrintInputs) (constant : Bool) (inside : List ℕ) (type : TypeData)
    → ((x : PointerType) → type ≡ Pointer x → ⊥) → ((x : PrimitiveType) → type ≡ Primitive x → ⊥)
    → modified w constant inside type ≡ written (if constant then codes "const " else []) ▸ Later inside (OfType type)
modified-other w constant inside (Primitive x) not0 not1 = absurd (not1 x refl)
modified-other w constant inside (Pointer x) not0 not1 = absurd (not0 x refl)
modified-other w constant inside _ not0 not1 = refl

-- any other type than a list of arguments is none
pub on_list-other : (w : PrintInputs) (m : MemberFunctionType) (form : MethodForm) (inside : List ℕ)
    (type : TypeData) → ((x : List TypeIndex) → type ≡ ArgumentList x → ⊥)
    → on_list w m form inside type ≡ failing (Plain ArgumentTypeNotArgumentList)
on_list-other w m form inside (ArgumentList x) not0 = absurd (not0 x refl)
on_list-other w m form inside _ not0 = refl

-- a function of a class has a method's type
pub method_id-other : (w : PrintInputs) (method : MemberFunctionId) (inside : List ℕ) (type : TypeData)
    → ((x : MemberFunctionType) → type ≡ MemberFunction x → ⊥)
    → method_id w method inside type ≡ failing (Plain MemberFunctionIdIsNotMemberFunctionType)
method_id-other w method inside (MemberFunction x) not0 = absurd (not0 x refl)
method_id-other w method inside _ not0 = refl

-- a function of no class has a procedure's type
pub function_id-other : (w : PrintInputs) (met : List ℕ) (function : FunctionId) (inside : List ℕ) (type : TypeData)
    → ((x : ProcedureType) → type ≡ Procedure x → ⊥)
    → function_id w met function inside type ≡ failing (Plain FunctionIdIsNotProcedureType)
function_id-other w met function inside (Procedure x) not0 = absurd (not0 x refl)
function_id-other w met function inside _ not0 = refl
