-- `into_records` compares the pointer with null, gives the context back, and ends its lifetime.
use Rattle.std.proofs.Common.{◌≡◌, List, [], ◌∷◌, ◌++◌, refl, sym, ap, ◌∙◌, subst, lit<}
use mir.Val.{Val, vptr, vcons, vnil}
use base.Logic.{SProp, ent, id⊢}
use base.Fraction.{full_share}
use base.Fml.{ftrue, flft}
use prog.Wp.{WpFn}
use types.Kit.{keep, drop, ‵, raw, ◌⊛◌, some, later, at_ret, ◌$◌, ◌∵◌, !, qed, by, move, split, join, fsplit, fjoin}
use types.Kit.{suffices}
use types.Kit.{use0, use1, pick, await, feq_l}
use types.Run.{stop, fld, lit, of_opd, bin, no_more, and_then, first, branches, exec, returns, enter}
use types.ByLocal.{alloc_all, pass_all, free_all, look_at, get, get_in, sets, sets_last, lands_as, env, is}
use types.Part.{agg, sub, whole}
use types.Match.{live}
use types.Tokens.{lft_end, lent_back}
use contract.Running.{tables}
use denote.Builtin.{unit}
use denote.Exit.{yes}
use denote.RattleType.{RattleType, owns}
use denote.Signature.{types_at, type_at, plain}
use denote.RawPtr.{Ptr, block_ptr, null_ptr, ptr_val, tests_null, in_a_block}
use denote.Steps.{nothing, only}
use denote.Param.{layout}
use denote.Triple.Call.{calls_at}
use denote.Triple.Clauses.{Lasts, lasts}
use denote.Triple.Spec.{triple_of}
use denote.Triple.Walked.{Stays, stay_dropped, walk_of, Goes-dropped}
use Rattle.core.proofs.alloc.Shapes.{after}
use Rattle.core.proofs.atomic.Steps.{fm, Ptr-Good}
use Rattle.core.proofs.cell.Inside.{Good}
use Rattle.core.proofs.option.Made.{Some-of, none_of}
use Rattle.std.specs.Prelude.{None, Some}
use Rattle.std.specs.contracts.impls.GlobalAllocator.TheImpl.{ghosts}
use Rattle.std_alloc.specs.Box.Ownership.{box_owns}
use Rattle.std_alloc.proofs.ResultValues.{and_tt}
use Rattle.std.proofs.raw_atomic.Walks.{proved_at, leaves}
use Rattle.pdb_c.specs.Handles.{HeldRecords, HeldContext}
use Rattle.pdb_c.proofs.LooseValues.{both, loose_good, loose_in}
use Rattle.pdb_c.proofs.HandleValues.{Z, LZ, Handle, LooseAt, three, handle_good, handle_out}
use Rattle.pdb_c.proofs.HandleValues.{either_held, again, none_at_null}
use Rattle.pdb_c.specs.contracts.contexts.give_back as callee
use Rattle.pdb_c.proofs.contexts.give_back.Met.{met}
use Rattle.pdb_c.specs.contracts.handle.Handle.into_records.{ended, clauses}
use Rattle.pdb_c.specs.contracts.handle.Handle.into_records.Key.{name as #self}
use Rattle.pdb_c.proofs.handle.Handle.into_records.Statement.{statement}
use Rattle.pdb_c.proofs.handle.Handle.into_records.Code as code

pub into_records_spec : {M : Type 1} → statement M
into_records_spec 𝓤 𝓛 𝓜 𝓡 wired =
    let H = 𝓛.H in
    let 𝓣 = tables 𝓤 H 𝓜 𝓡 𝓡.env in
    let En = ended in
    let c = clauses 𝓛 𝓜.mem 𝓡.returns in
    let fn = code.function in
    let hs : Stays En.signature.params (yes, tt) = (stay_dropped (plain (λ _. Handle)) yes, tt) in
    proved_at 𝓛 En hs c 𝓜 𝓡 (Goes-dropped 𝓛 0 (plain (λ _. Handle)) yes (λ κs x f. refl), tt) #self fn
    (code.unfolded 𝓤 H 𝓜 𝓡 wired) (λ z are.
    let κs = z.0.0 in
    let d = z.0.3.0 in
    let a = d.alloc in
    let p = d.records in
    let Post : Val → SProp 𝓤 = (walk_of 𝓛 En hs c).post z in
    let Run : List Val → SProp 𝓤 = λ ws. WpFn 𝓤 H 𝓣.C 𝓣.Λ fn ws Post in
    let Out : RattleType = type_at En.signature.result κs in
    qed 𝓛 ((‵ ftrue ⊛ ‵ (owns (types_at En.signature.params κs) z.0.3 z.0.4)) ∷ raw ((c κs z.0.3).requires z.1) ∷ [])
    ∵ split ! $ move ! (1 ∷ []) $ fsplit ! $ handle_out ! d z.0.4.0 (λ h ws fits. either_held ! a p d.context d.held
    (λ at_block closed. let w : Val = three (ptr_val p) (ptr_val null_ptr) h in
    let says : z.0.4.0 ≡ w ∷ [] = ws ∙ ap (λ (q : Ptr). three (ptr_val p) (ptr_val q) h ∷ []) at_block in
    suffices ! (Run (w ∷ [])) (subst (λ (us : List Val). ent 𝓤 (Run (w ∷ [])) (Run us)) (sym (λ i. says i ++ []))
    (id⊢ 𝓤 (Run (w ∷ [])))) $
    enter ! 𝓣.C 𝓣.Λ fn (w ∷ []) Post $ alloc_all ! (λ l. pass_all ! refl (handle_good p null_ptr h fits, tt) $
    let Ev = env fn.locals l in
    sets ! (of_opd ! (get_in ! (fld ! refl (stop !)) (sub ! 0 refl (whole !)))) refl (Ptr-Good p) $
    sets ! (of_opd ! (get_in ! (fld ! refl (stop !)) (sub ! 1 refl (whole !)))) refl (Ptr-Good null_ptr) $
    sets ! (of_opd ! (get_in ! (fld ! refl (stop !)) (sub ! 2 refl (whole !)))) refl fits $
    sets ! (bin ! (get ! refl) (lit ! tt) tt) refl (tt, tt) $ first ! $ branches ! (get ! refl)
    (λ _. sets_last ! (agg ! (and_then ! (lit ! tt) (no_more !))) refl (tt, (record { fits = lit< tt }, tt)) $
    exec ! 𝓣.C 𝓣.Λ Ev (after 5 fn.body) (at_ret Ev Post) $
    sets ! (of_opd ! (get ! refl)) refl (tt, (record { fits = lit< tt }, tt)) $
    use0 𝓛 (‵ (Out.own_val None (live 0 vnil ∷ []))) (none_of 𝓛 (LooseAt HeldRecords)) $
    nothing ! $ nothing ! $ nothing ! $ fjoin ! $
    returns ! (look_at ! 0 refl) $ free_all ! refl $ keep ! (1 ∷ 0 ∷ 2 ∷ 4 ∷ []) $
    by ! (leaves 𝓛 En hs c z (live 0 vnil) None (tt, tt) (tt, tt))) (λ wrong. absurd wrong)))
    (λ b o x held at_block one t. let w : Val = three (ptr_val p) (vptr b o) h in
    let says : z.0.4.0 ≡ w ∷ [] = ws ∙ ap (λ (q : Ptr). three (ptr_val p) (ptr_val q) h ∷ []) at_block in
    let ν = held.0 ∷ [] in
    let context : (LooseAt (HeldContext held.0)).Denot = record { at = block_ptr b o; alloc = a; value = x } in
    let typed = loose_good (HeldContext held.0) Z LZ ghosts b o h fits in
    let k = triple_of 𝓛 callee.signature (callee.spec 𝓛 𝓜.mem 𝓡.returns) in
    let y : k.Ghost = (((ν, tt), (full_share, tt), tt, (context, tt), (both (vptr b o) h ∷ [], tt)), tt) in
    suffices ! (Run (w ∷ [])) (subst (λ (us : List Val). ent 𝓤 (Run (w ∷ [])) (Run us)) (sym (λ i. says i ++ []))
    (id⊢ 𝓤 (Run (w ∷ [])))) $
    enter ! 𝓣.C 𝓣.Λ fn (w ∷ []) Post $ alloc_all ! (λ l. pass_all ! refl (handle_good p (block_ptr b o) h fits, tt) $
    let Ev = env fn.locals l in
    sets ! (of_opd ! (get_in ! (fld ! refl (stop !)) (sub ! 0 refl (whole !)))) refl (Ptr-Good p) $
    sets ! (of_opd ! (get_in ! (fld ! refl (stop !)) (sub ! 1 refl (whole !)))) refl (tt, tt) $
    sets ! (of_opd ! (get_in ! (fld ! refl (stop !)) (sub ! 2 refl (whole !)))) refl fits $
    sets ! (bin ! (get ! refl) (lit ! tt) (tests_null (block_ptr b o) t)) refl (tt, tt) $ first ! $
    branches ! (get ! refl) (λ wrong. absurd wrong)
    (λ _. sets ! (of_opd ! (get ! refl)) refl (tt, tt) $
    sets ! (agg ! (and_then ! (get ! refl) (and_then ! (get ! refl) (no_more !)))) refl typed $
    -- [the context; its lifetime; the records; the allocator]
    move ! (3 ∷ []) $ again ! a h $ move ! (2 ∷ 0 ∷ []) $ loose_in (HeldContext held.0) Z LZ ghosts ! b o h a x $
    nothing ! $ move ! (1 ∷ 0 ∷ []) $ fjoin ! $ move ! (2 ∷ []) $ nothing ! $ move ! (1 ∷ 0 ∷ []) $ join ! $ join ! $
    nothing ! $ move ! (1 ∷ 0 ∷ []) $ join ! $ use1 𝓛 (raw (k.pre y)) (id⊢ 𝓤 _) $
    calls_at ! (fm 𝓛 𝓜 𝓡) k (met 𝓤 𝓛 𝓜 𝓡 (code.calls-pdb_c::contexts::give_back 𝓡.env wired)) y
    (and_then ! (get ! refl) (no_more !)) (λ u.
    use1 𝓛 (later (some (λ (r : Unit {0}). ((‵ (flft ν full_share) ⊛ ‵ ftrue) ⊛ ‵ (unit.own_val r (u ∷ []))) ⊛ some
    (λ (ls : Lasts callee.ended (ν, tt) y.0.3). ‵ (lasts callee.ended (ν, tt) y.0.3 ls) ⊛ ‵ ftrue))))
    (id⊢ 𝓤 (k.post y u)) $ await ! tt $ pick ! (λ r. split ! $ move ! (1 ∷ []) $ pick ! (λ _. drop ! $
    split ! $ split ! $ move ! (2 ∷ []) $ feq_l ! (λ is_unit. lands_as ! (ap only is_unit) refl (tt, tt) $
    -- [its lifetime; nothing; the allocator; the records]
    lft_end ! tt $ move ! (3 ∷ []) $ fsplit ! $ move ! (2 ∷ 0 ∷ []) $ lent_back ! tt $ fjoin ! $
    in_a_block ! p (λ q. box_owns (ghosts.dealloc_token a) HeldRecords q held.1)
    (none_at_null 𝓛 a HeldRecords held.1) (λ b' o' e'.
    let records : (LooseAt HeldRecords).Denot = record { at = block_ptr b' o'; alloc = a; value = held.1 } in
    let typed' = loose_good HeldRecords Z LZ ghosts b' o' h fits in
    let v₁ : Val = live 1 (vcons (both (vptr b' o') h) vnil) in
    let good : Good (layout Out) v₁ = (and_tt _ typed'.0, (record { fits = lit< tt }, (typed'.1, tt))) in
    sets ! (is ! (of_opd ! (get ! refl)) (ap ptr_val e')) refl (tt, tt) $
    sets ! (agg ! (and_then ! (get ! refl) (and_then ! (get ! refl) (no_more !)))) refl typed' $
    sets_last ! (agg ! (and_then ! (lit ! tt) (and_then ! (get ! refl) (no_more !)))) refl good $
    exec ! 𝓣.C 𝓣.Λ Ev (after 5 fn.body) (at_ret Ev Post) $ sets ! (of_opd ! (get ! refl)) refl good $
    move ! (0 ∷ 2 ∷ []) $ loose_in HeldRecords Z LZ ghosts ! b' o' h a held.1 $
    use1 𝓛 (‵ (Out.own_val (Some records) (v₁ ∷ []))) (Some-of 𝓛 (LooseAt HeldRecords) records (both (vptr b' o') h)) $
    nothing ! $ nothing ! $ fjoin ! $
    returns ! (look_at ! 0 refl) $ free_all ! refl $ keep ! (2 ∷ 0 ∷ 1 ∷ 3 ∷ []) $
    by ! (leaves 𝓛 En hs c z v₁ (Some records) (tt, tt) (tt, tt))))))))))))
