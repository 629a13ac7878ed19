-- The machine values of a handle, and what it owns. Assumes `Logic`.
use Rattle.std.proofs.Common.{◌≡◌, ℕ, List, [], ◌∷◌, ◌++◌, refl, ap, ◌∙◌, subst}
use mathlib.Core.Bool.{Bool, true, false, ◌&&◌}
use lib.Dec.{T}
use seplogic.Ra.Ura.{Ura}
use mir.Syntax.{impl, tnil, dnil}
use mir.Raw.{raw as bare}
use mir.Val.{Val, vstruct, vcons, vnil, of_list, has_ty, WT}
use base.Logic.{SProp, ent, guard, via, snd∗, never, fst∗, guard_i}
use base.Fraction.{full_share}
use base.Fml.{Fml, flft}
use contract.Monad.{fact_use}
use types.Logic.{Logic, sem}
use types.Kit.{Item, Goal, Seq, Step, step, given, learn, ‵, ◌⊛◌, ◌$◌, move, drop, fsplit, fsplit3, fjoin, fpick}
use types.Kit.{fpack, feq_i}
use types.Kit.{feq_l, use1, split}
use denote.RattleType.{RattleType, Valss}
use denote.Builtin.{RawPtr}
use denote.Memory.{lone}
use denote.RawPtr.{Ptr, block_ptr, null_ptr, ptr_val, in_a_block, Testable, lies_at}
use denote.Steps.{nothing, only}
use types.Match.{live}
use denote.Param.{layout}
use denote.Param.Laws.{Laws}
use denote.Struct.Struct.{within}
use denote.Struct.Owning.{shape, to}
use Rattle.core.specs.declared.result.Result.TheVariants.{Ok, Err}
use Rattle.core.specs.contracts.result.Result as RS
use Rattle.core.proofs.alloc.Calls.{Al, handle_tells}
use Rattle.core.proofs.cell.Inside.{Good}
use Rattle.core.proofs.atomic.Steps.{Ptr-Good}
use Rattle.std.specs.Prelude.{Option, None, Some}
use Rattle.std.specs.declared.alloc.Global.{Global}
use Rattle.std.specs.contracts.alloc.Global as heap
use Rattle.std.proofs.alloc.Global.TheLaws as heap_laws
use Rattle.std.specs.contracts.impls.GlobalAllocator.TheImpl.{ghosts}
use Rattle.std.proofs.GlobalToken.{dealloc_token-Testable}
use Rattle.std_alloc.specs.Box.Ownership.{box_owns}
use Rattle.pdb_records.specs.Records.{Records}
use Rattle.pdb_addr2line.specs.ContextInputs.{ContextState}
use Rattle.pdb_c.specs.Handles.{HeldContext, lends_records, owns_context, holds_for, holds}
use Rattle.pdb_c.specs.contracts.handle.Handle as handle
use Rattle.pdb_c.proofs.LooseValues.{Loose}

abbrev pub Z : RattleType
Z = heap.the_row

abbrev pub LZ : Laws Z
LZ = heap_laws.the_row_laws

abbrev al : Al
al = record { row = Z; laws = LZ; g = ghosts; d = impl [] tnil dnil; drops = impl [] tnil dnil }

abbrev pub Handle : RattleType
Handle = handle.the_row

-- a box as its pointer
abbrev pub LooseAt : RattleType → RattleType
LooseAt R = Loose R Z LZ ghosts

-- two pointers and the allocator
abbrev pub three : Val → Val → Val → Val
three u v w = vstruct (vcons u (vcons v (vcons w vnil)))

ptr_good : (p : Ptr) → T (has_ty (layout RawPtr) (ptr_val p)) × WT (ptr_val p)
ptr_good (block_ptr b o) = (tt, tt)
ptr_good null_ptr = (tt, (Ptr-Good null_ptr).1)

all_three : (x y z : Bool) → T x → T y → T z → T (x && (y && (z && true)))
all_three true true true s t u = tt
all_three true true false s t u = absurd u
all_three true false z s t u = absurd t
all_three false y z s t u = absurd s

pub handle_good : (p q : Ptr) (h : Val) → Good (layout Z) h → Good (layout Handle) (three (ptr_val p) (ptr_val q) h)
handle_good p q h fits = (
  all_three _ _ (has_ty (layout Z) h) (ptr_good p).0 (ptr_good q).0 fits.0,
  ((ptr_good p).1, ((ptr_good q).1, (fits.1, tt))),
)

module _ {M : Type 1} {𝓤 : Ura M} (𝓛 : Logic 𝓤) (a : Global) (R : RattleType) where
  abbrev pub boxed : Ptr → R.Denot → Fml
  boxed p x = box_owns (ghosts.dealloc_token a) R p x

  abbrev right : Ptr → SProp 𝓤
  right p = sem 𝓛 (ghosts.dealloc_token a (bare (lone R.mir)) p)

  -- whoever may free the block of a pointer may compare the pointer with null
  pub tested : (p : Ptr) (x : R.Denot) → ent 𝓤 (sem 𝓛 (boxed p x)) (guard 𝓤 (Testable p) (sem 𝓛 (boxed p x)))
  tested p x =
      fact_use 𝓤 (Testable p)
      (via 𝓤 _ (snd∗ 𝓤 (sem 𝓛 (lies_at R full_share p x)) (right p))
      (dealloc_token-Testable 𝓛 a (bare (lone R.mir)) p)) (guard_i 𝓤 (Testable p) (sem 𝓛 (boxed p x)))

  -- nothing is boxed at null
  pub none_at_null : (x : R.Denot) → ent 𝓤 (sem 𝓛 (boxed null_ptr x)) (never 𝓤)
  none_at_null x = fst∗ 𝓤 (never 𝓤) (right null_ptr)

module _ {M : Type 1} {𝓤 : Ura M} {𝓛 : Logic 𝓤} {K : Type 0} {Γ : List (Item 𝓤)} {G : Goal 𝓤 𝓛.H} where
  -- the handle of the allocator is had twice
  pub again : K → (a : Global) (h : Val) → Step K 𝓛 (‵ (Z.own_val a (h ∷ [])) ∷ ‵ (Z.own_val a (h ∷ [])) ∷ Γ) G
      (‵ (Z.own_val a (h ∷ [])) ∷ Γ) G
  again t a h = step (λ s. use1 𝓛 (‵ (Z.own_val a (h ∷ [])) ⊛ ‵ (Z.own_val a (h ∷ [])))
      ((heap_laws.the_row_copy.copies M 𝓤 𝓛).twice a (h ∷ [])) $ split t $ s)

  -- a handle that is taken apart
  pub handle_out : K → (d : Handle.Denot) (vs : List Val)
      → ((h : Val) → vs ≡ three (ptr_val d.records) (ptr_val d.context) h ∷ [] → Good (layout Z) h
      → Seq K 𝓛 (‵ (holds d.alloc d.records d.context d.held) ∷ ‵ (Z.own_val d.alloc (h ∷ [])) ∷ Γ) G)
      → Seq K 𝓛 (‵ (Handle.own_val d vs) ∷ Γ) G
  handle_out t d vs k =
      fsplit t $ fpick t (λ vss. fsplit t $ feq_l t (λ ev. fsplit t $ feq_l t (λ er. fsplit t $
      feq_l t (λ ec. fsplit t $
      handle_tells al t d.alloc vss.1.1.0 (λ h ea fits. move t (1 ∷ []) $ drop t $ move t (1 ∷ []) $
      k h (subst (λ (ws : List Val).
      vs ≡ vstruct (of_list (ptr_val d.records ∷ (ptr_val d.context ∷ (ws ++ [])))) ∷ []) ea
      (subst (λ (ps : List Val). vs ≡ vstruct (of_list (ptr_val d.records ∷ (ps ++ (vss.1.1.0 ++ [])))) ∷ []) ec
      (subst (λ (ps : List Val). vs ≡ vstruct (of_list (ps ++ (vss.1.0 ++ (vss.1.1.0 ++ [])))) ∷ []) er ev))) fits)))))

  -- a handle that is put together
  pub handle_in : K → (p q : Ptr) (h : Val) (a : Global) (o : Option (ContextState Records))
      → let d : Handle.Denot = record { records = p; context = q; alloc = a; held = o } in
      Step K 𝓛 (‵ (Handle.own_val d (three (ptr_val p) (ptr_val q) h ∷ [])) ∷ Γ) G
      (‵ (holds a p q o) ∷ ‵ (Z.own_val a (h ∷ [])) ∷ Γ) G
  handle_in t p q h a o = step (λ s.
      let v : Val = three (ptr_val p) (ptr_val q) h in
      let d : Handle.Denot = record { records = p; context = q; alloc = a; held = o } in
      nothing t $ move t (2 ∷ 0 ∷ []) $ fjoin t $ feq_i t (List Val) (ptr_val q ∷ []) (ptr_val q ∷ []) refl $
      fjoin t $ feq_i t (List Val) (ptr_val p ∷ []) (ptr_val p ∷ []) refl $
      fjoin t $ feq_i t (List Val) (v ∷ []) (v ∷ []) refl $ fjoin t $
      fpack t (Valss (RawPtr ∷ RawPtr ∷ Z ∷ [])) (within (shape handle.the_type) (to handle.the_type d) (v ∷ []))
      (ptr_val p ∷ [], (ptr_val q ∷ [], (h ∷ [], tt))) $ fjoin t $ s)

  -- by whether a handle holds a context
  pub either_held : K → (a : Global) (p q : Ptr) (o : Option (ContextState Records))
      → (q ≡ null_ptr → o ≡ None → Seq K 𝓛 Γ G)
      → ((b n : ℕ) (x : ContextState Records) (held : ℕ × Records) → q ≡ block_ptr b n → o ≡ Some x
      → Testable (block_ptr b n)
      → Seq K 𝓛 (‵ (owns_context a (block_ptr b n) held.0 x) ∷ ‵ (flft (held.0 ∷ []) full_share)
      ∷ ‵ (lends_records a p held.0 held.1) ∷ Γ) G)
      → Seq K 𝓛 (‵ (holds a p q o) ∷ Γ) G
  either_held t a p q None closed opened = feq_l t (λ e. closed e refl)
  either_held t a p q (Some x) closed opened =
      fpick t (λ held. fsplit3 t $ move t (2 ∷ []) $
      in_a_block t q (λ r. owns_context a r held.0 x) (none_at_null 𝓛 a (HeldContext held.0) x) (λ b n e.
      use1 𝓛 (given (Testable (block_ptr b n)) (‵ (owns_context a (block_ptr b n) held.0 x)))
      (tested 𝓛 a (HeldContext held.0) (block_ptr b n) x) $
      learn t (λ u. opened b n x held e refl u)))

  -- a handle's context, its lifetime and its records are put together
  pub held_in : K → (a : Global) (p q : Ptr) (x : ContextState Records) (lifetime : ℕ) (records : Records)
      → Step K 𝓛 (‵ (holds a p q (Some x)) ∷ Γ) G
      (‵ (owns_context a q lifetime x) ∷ ‵ (flft (lifetime ∷ []) full_share)
      ∷ ‵ (lends_records a p lifetime records) ∷ Γ) G
  held_in t a p q x lifetime records = step (λ s. move t (2 ∷ 0 ∷ []) $ fjoin t $ move t (1 ∷ 0 ∷ []) $ fjoin t $
      fpack t (ℕ × Records) (holds_for a p q x) (lifetime, records) $ s)

module _ (R E : RattleType) {M : Type 1} {𝓤 : Ura M} {𝓛 : Logic 𝓤} {K : Type 0} {Γ : List (Item 𝓤)}
    {G : Goal 𝓤 𝓛.H} where
  -- by whether a result is an answer or an error
  pub either_result : K → (r : (RS.the_row R E).Denot) (u : Val)
      → ((x : R.Denot) (vs : List Val) → r ≡ Ok x → u ≡ live 0 (of_list (vs ++ []))
      → Seq K 𝓛 (‵ (R.own_val x vs) ∷ Γ) G)
      → ((e : E.Denot) (vs : List Val) → r ≡ Err e → u ≡ live 1 (of_list (vs ++ []))
      → Seq K 𝓛 (‵ (E.own_val e vs) ∷ Γ) G)
      → Seq K 𝓛 (‵ ((RS.the_row R E).own_val r (u ∷ [])) ∷ Γ) G
  either_result t (Ok x) u answer error =
      fpick t (λ us. fsplit t $ feq_l t (λ e. fpick t (λ vss. fsplit t $ feq_l t (λ e'. fsplit t $ move t (1 ∷ []) $
      drop t $ answer x vss.0 refl (ap only e ∙ ap (λ (ws : List Val). live 0 (of_list ws)) e')))))
  either_result t (Err x) u answer error =
      fpick t (λ us. fsplit t $ feq_l t (λ e. fpick t (λ vss. fsplit t $ feq_l t (λ e'. fsplit t $ move t (1 ∷ []) $
      drop t $ error x vss.0 refl (ap only e ∙ ap (λ (ws : List Val). live 1 (of_list ws)) e')))))
