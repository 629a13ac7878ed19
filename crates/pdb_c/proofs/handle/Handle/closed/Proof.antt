-- `closed` puts two null pointers beside the allocator.
use Rattle.std.proofs.Common.{◌≡◌, List, [], ◌∷◌, ◌++◌, refl, sym, subst}
use mir.Val.{Val}
use base.Logic.{SProp, ent, emp, id⊢}
use base.Fml.{ftrue}
use prog.Wp.{WpFn}
use types.Kit.{‵, raw, ◌⊛◌, ◌$◌, ◌∵◌, !, qed, by, move, drop, split, fsplit, fjoin, suffices, use0, rewrite}
use types.Kit.{feq_i}
use types.Run.{lit, no_more, and_then, returns, enter}
use types.ByLocal.{alloc_all, pass_all, free_all, look_at, get, sets}
use types.Part.{agg}
use contract.Monad.{fact, fact_i}
use contract.Running.{tables}
use denote.Exit.{yes}
use denote.RattleType.{owns}
use denote.RawPtr.{Ptr, null_ptr, ptr_val}
use denote.Signature.{types_at, plain}
use denote.Steps.{nothing}
use denote.Param.{layout}
use denote.Triple.Walked.{Stays, stay_dropped, walk_of, Goes-dropped}
use Rattle.core.proofs.cell.Inside.{one}
use Rattle.std.specs.Prelude.{None}
use Rattle.std.proofs.raw_atomic.Walks.{proved_at, leaves}
use Rattle.pdb_c.proofs.HandleValues.{Z, LZ, three, handle_good, handle_in}
use Rattle.pdb_c.specs.contracts.handle.Handle.closed.{ended, clauses}
use Rattle.pdb_c.specs.contracts.handle.Handle.closed.Key.{name as #self}
use Rattle.pdb_c.proofs.handle.Handle.closed.Statement.{statement}
use Rattle.pdb_c.proofs.handle.Handle.closed.Code as code

pub closed_spec : {M : Type 1} → statement M
closed_spec 𝓤 𝓛 𝓜 𝓡 wired =
    let H = 𝓛.H in
    let 𝓣 = tables 𝓤 H 𝓜 𝓡 𝓡.env in
    let En = ended in
    let c = clauses 𝓛 𝓜.mem 𝓡.returns in
    let fn = code.function in
    let hs : Stays En.signature.params (yes, tt) = (stay_dropped (plain (λ _. Z)) yes, tt) in
    proved_at 𝓛 En hs c 𝓜 𝓡 (Goes-dropped 𝓛 0 (plain (λ _. Z)) yes (λ κs x f. refl), tt) #self fn
    (code.unfolded 𝓤 H 𝓜 𝓡 wired) (λ z are.
    let κs = z.0.0 in
    let qs = z.0.1 in
    let a = z.0.3.0 in
    let Post : Val → SProp 𝓤 = (walk_of 𝓛 En hs c).post z in
    let Run : List Val → SProp 𝓤 = λ ws. WpFn 𝓤 H 𝓣.C 𝓣.Λ fn ws Post in
    let toks = ‵ ftrue in
    let v = one (layout Z) z.0.4.0 ((LZ.lawful 𝓛).typed a z.0.4.0 are.0) in
    let h = v.0 in
    let w : Val = three (ptr_val null_ptr) (ptr_val null_ptr) h in
    qed 𝓛 ((toks ⊛ ‵ (owns (types_at En.signature.params κs) z.0.3 z.0.4)) ∷ raw ((c κs z.0.3).requires z.1) ∷ [])
    ∵ split ! $ move ! (1 ∷ []) $ fsplit ! $
    rewrite ! 0 (λ (us : List Val). ‵ (Z.own_val a us)) v.1 refl $
    suffices ! (Run (h ∷ [])) (subst (λ (us : List Val). ent 𝓤 (Run (h ∷ [])) (Run us)) (sym (λ i. v.1 i ++ []))
    (id⊢ 𝓤 (Run (h ∷ [])))) $
    enter ! 𝓣.C 𝓣.Λ fn (h ∷ []) Post $ alloc_all ! (λ l. pass_all ! refl (v.2, tt) $
    sets ! (agg ! (and_then ! (lit ! tt) (and_then ! (lit ! tt) (and_then ! (get ! refl) (no_more !))))) refl
    (handle_good null_ptr null_ptr h v.2) $
    feq_i ! Ptr null_ptr null_ptr refl $ handle_in ! null_ptr null_ptr h a None $
    use0 𝓛 (raw (fact 𝓤 (None ≡ None))) (fact_i 𝓤 _ (emp 𝓤) refl) $ nothing ! $ nothing ! $ fjoin ! $
    returns ! (look_at ! 0 refl) $ free_all ! refl $ move ! (4 ∷ 0 ∷ 2 ∷ 1 ∷ []) $ move ! (4 ∷ []) $ drop ! $
    move ! (4 ∷ []) $ drop ! $
    by ! (leaves 𝓛 En hs c z w (record { records = null_ptr; context = null_ptr; alloc = a; held = None }) (tt, tt)
    (tt, tt))))
