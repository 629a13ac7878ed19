-- `over` lends the records for a new lifetime, and makes a context over them.
use Rattle.std.proofs.Common.{◌≡◌, List, [], ◌∷◌, ◌++◌, refl, sym, ap, ◌∙◌, subst, lit<}
use mir.Syntax.{named, impl, tnil, dnil}
use mir.Val.{Val, vptr, vcons, vnil, of_list}
use base.Logic.{SProp, ent, emp, id⊢}
use base.Fraction.{full_share}
use base.Fml.{ftrue, flft, flent, Incl-refl}
use prog.Wp.{WpFn, Wp, after_seq, at_return}
use types.Kit.{keep, drop, ‵, raw, ◌⊛◌, some, later, at_ret, any_q, ◌$◌, ◌∵◌, !, qed, by, move, split, join, fsplit}
use types.Kit.{fjoin}
use types.Kit.{use0, use1, use2, pick, await, suffices}
use types.Run.{stop, fld, lit, addr, of_opd, no_more, and_then, first, blocks, switches_on, exec, returns, enter}
use types.ByLocal.{alloc_all, pass_all, free_all, look_at, get, get_in, get_tag, through, sets, sets_last, lands_as}
use types.ByLocal.{env}
use types.Part.{agg, sub, whole}
use types.Match.{live, vrt, in_variant}
use types.Tokens.{lft_new, lft_end, lent_back}
use contract.BorrowLft.{⊑_static}
use contract.Monad.{fact, fact_i}
use contract.Running.{tables}
use denote.Exit.{no}
use denote.RattleType.{RattleType, owns}
use denote.Lend.{lends_shr}
use denote.Ref.{ShrRef, Bor}
use denote.Signature.{types_at, type_at, plain, static_lft}
use denote.RawPtr.{block_ptr, lies_at}
use denote.Steps.{nothing, only, heard}
use denote.Param.{layout}
use denote.Triple.Call.{calls_at}
use denote.Triple.Clauses.{Lasts, lasts}
use denote.Triple.Spec.{triple_of}
use denote.Triple.Walked.{Stays, stay_dropped, walk_of}
use Rattle.core.proofs.alloc.Calls.{Al, Goes-blank, handle_tells}
use Rattle.core.proofs.alloc.Shapes.{after, head, arm_body}
use Rattle.core.proofs.atomic.Steps.{fm}
use Rattle.core.proofs.cell.Inside.{Good}
use Rattle.core.proofs.result.Made.{Ok-of, Err-of}
use Rattle.std.specs.Prelude.{◌≢◌, Some, Ok, Err}
use Rattle.pdb_c.specs.declared.call_error.CallError.TheVariants.{OutOfMemory}
use Rattle.std.specs.contracts.impls.GlobalAllocator.TheImpl.{ghosts}
use Rattle.std_alloc.proofs.ResultValues.{and_tt}
use Rattle.std.proofs.raw_atomic.Walks.{proved_at, leaves}
use Rattle.pdb_addr2line.proofs.context_data.ContextPdbData.TheLaws as records_laws
use Rattle.pdb_c.specs.ReportTexts.{Agrees}
use Rattle.pdb_c.specs.Openings.{context_over, held_by}
use Rattle.pdb_c.specs.Handles.{HeldRecords, HeldContext}
use Rattle.pdb_c.specs.contracts.call_error.CallError.{the_row as CallError}
use Rattle.pdb_c.proofs.call_error.CallError.TheLaws as refusal_laws
use Rattle.pdb_c.proofs.LooseValues.{both, loose_good, loose_in, loose_out}
use Rattle.pdb_c.proofs.HandleValues.{Z, LZ, Handle, LooseAt, three, handle_good, handle_in, held_in, again}
use Rattle.pdb_c.proofs.HandleValues.{either_result}
use Rattle.pdb_c.specs.contracts.contexts.context_over as made
use Rattle.pdb_c.proofs.contexts.context_over.Met as made_met
use Rattle.pdb_c.specs.contracts.contexts.refuse as refused
use Rattle.pdb_c.proofs.contexts.refuse.Met as refused_met
use Rattle.pdb_c.specs.contracts.handle.Handle.over.{ended, clauses}
use Rattle.pdb_c.specs.contracts.handle.Handle.over.Key.{name as #self}
use Rattle.pdb_c.proofs.handle.Handle.over.Statement.{statement}
use Rattle.pdb_c.proofs.handle.Handle.over.Code as code

abbrev refusal_al : Al
refusal_al = record {
  row = CallError;
  laws = refusal_laws.the_row_laws;
  g = record { dealloc_token = λ a σ p. ftrue };
  d = impl [] tnil dnil;
  drops = impl [] tnil dnil;
}

pub over_spec : {M : Type 1} → statement M
over_spec 𝓤 𝓛 𝓜 𝓡 wired =
    let H = 𝓛.H in
    let 𝓣 = tables 𝓤 H 𝓜 𝓡 𝓡.env in
    let En = ended in
    let c = clauses 𝓛 𝓜.mem 𝓡.returns in
    let fn = code.function in
    let hs : Stays En.signature.params (no, tt) = (stay_dropped (plain (λ _. LooseAt HeldRecords)) no, tt) in
    proved_at 𝓛 En hs c 𝓜 𝓡 (Goes-blank 𝓛 0 (plain (λ _. LooseAt HeldRecords)) no (λ κs x f. tt), tt) #self fn
    (code.unfolded 𝓤 H 𝓜 𝓡 wired) (λ z are.
    let κs = z.0.0 in
    let d = z.0.3.0 in
    let a = d.alloc in
    let x = d.value in
    let Post : Val → SProp 𝓤 = (walk_of 𝓛 En hs c).post z in
    let Run : List Val → SProp 𝓤 = λ ws. WpFn 𝓤 H 𝓣.C 𝓣.Λ fn ws Post in
    let Out : RattleType = type_at En.signature.result κs in
    qed 𝓛 ((‵ ftrue ⊛ ‵ (owns (types_at En.signature.params κs) z.0.3 z.0.4)) ∷ raw ((c κs z.0.3).requires z.1) ∷ [])
    ∵ split ! $ move ! (1 ∷ []) $ fsplit ! $ loose_out HeldRecords Z LZ ghosts ! d z.0.4.0 (λ b o h e ws fits.
    let w : Val = both (vptr b o) h in let typed = loose_good HeldRecords Z LZ ghosts b o h fits in
    suffices ! (Run (w ∷ [])) (subst (λ (us : List Val). ent 𝓤 (Run (w ∷ [])) (Run us)) (sym (λ i. ws i ++ []))
    (id⊢ 𝓤 (Run (w ∷ [])))) $
    enter ! 𝓣.C 𝓣.Λ fn (w ∷ []) Post $ alloc_all ! (λ l. pass_all ! refl (typed, tt) $
    let Ev = env fn.locals l in
    let Then = any_q (after_seq 𝓤 H (Wp 𝓤 H 𝓣.C 𝓣.Λ Ev (after 7 fn.body) (at_return 𝓤 H Ev Post))
    (at_return 𝓤 H Ev Post)) in
    sets ! (of_opd ! (get_in ! (fld ! refl (stop !)) (sub ! 0 refl (whole !)))) refl (tt, tt) $
    sets ! (of_opd ! (get_in ! (fld ! refl (stop !)) (sub ! 1 refl (whole !)))) refl fits $
    sets ! (of_opd ! (get ! refl)) refl fits $
    first ! $ blocks ! $ sets_last ! (addr ! (through ! refl (stop !))) refl (tt, tt) $
    exec ! 𝓣.C 𝓣.Λ Ev (after 4 fn.body) (at_ret Ev Post) $
    sets ! (of_opd ! (get ! refl)) refl (tt, tt) $
    lft_new ! tt (λ α. let κ = α ∷ [] in
    let s : Bor HeldRecords.Denot = record { ref_ptr = (b, o); now = x } in
    move ! (1 ∷ []) $ fsplit ! $ move ! (0 ∷ 2 ∷ []) $
    use2 𝓛 (later ((‵ ((ShrRef (named 0) κ HeldRecords).own_val s (vptr b o ∷ []))
    ⊛ ‵ (flent κ (lies_at HeldRecords full_share (block_ptr b o) x))) ⊛ ‵ (flft κ full_share)))
    (lends_shr 𝓛 HeldRecords (named 0) κ full_share x b o HeldRecords.lives
    ((records_laws.the_row_laws static_lft).shares 𝓛 x) ((κ, full_share) ∷ []) (⊑_static κ) (Incl-refl κ)) $
    await ! tt $ split ! $ split ! $
    -- [the reference; the lender's part; the token; the right to free; the allocator]
    move ! (1 ∷ 3 ∷ []) $ fjoin ! $ move ! (3 ∷ []) $ again ! a h $
    let k = triple_of 𝓛 made.signature (made.spec 𝓛 𝓜.mem 𝓡.returns) in
    let y : k.Ghost = (((κ, tt), (full_share, tt), tt, (a, (s, tt)), (h ∷ [], (vptr b o ∷ [], tt))), tt) in
    let Answer : RattleType = type_at made.signature.result (κ, tt) in
    let Told : Answer.Denot → Type 0 = λ r.
    Agrees (λ (l : (LooseAt (HeldContext α)).Denot). l.value) r (context_over x) in
    move ! (3 ∷ []) $ nothing ! $ move ! (1 ∷ 0 ∷ []) $ fjoin ! $ move ! (1 ∷ 0 ∷ []) $ fjoin ! $
    move ! (3 ∷ []) $ nothing ! $ move ! (1 ∷ 0 ∷ []) $ join ! $ join ! $
    nothing ! $ move ! (1 ∷ 0 ∷ []) $ join ! $ use1 𝓛 (raw (k.pre y)) (id⊢ 𝓤 _) $
    calls_at ! (fm 𝓛 𝓜 𝓡) k (made_met.met 𝓤 𝓛 𝓜 𝓡 (code.calls-pdb_c::contexts::context_over 𝓡.env wired)) y
    (and_then ! (get ! refl) (and_then ! (get ! refl) (no_more !))) (λ u.
    use1 𝓛 (later (some (λ (r : Answer.Denot). ((‵ (flft κ full_share) ⊛ ‵ ftrue) ⊛ ‵ (Answer.own_val r (u ∷ [])))
    ⊛ some
    (λ (ls : Lasts made.ended (κ, tt) y.0.3). ‵ (lasts made.ended (κ, tt) y.0.3 ls) ⊛ raw (fact 𝓤 (Told r))))))
    (id⊢ 𝓤 (k.post y u)) $ await ! tt $ pick ! (λ r. split ! $ move ! (1 ∷ []) $ pick ! (λ _. split ! $ drop ! $
    heard ! (Told r) (λ told. split ! $ split ! $ move ! (2 ∷ []) $
    -- [the result; the token; nothing; the allocator; the records lent]
    either_result (LooseAt (HeldContext α)) CallError ! r u
    (λ context vs answered says. loose_out (HeldContext α) Z LZ ghosts ! context vs (λ b' o' h' e' us fits'.
    let v : Val = both (vptr b' o') h' in let typed' = loose_good (HeldContext α) Z LZ ghosts b' o' h' fits' in
    let handle : Handle.Denot =
    record { records = block_ptr b o; context = block_ptr b' o'; alloc = a; held = Some context.value } in
    let fine = handle_good (block_ptr b o) (block_ptr b' o') h' fits' in
    let w₁ : Val = three (vptr b o) (vptr b' o') h' in let v₁ : Val = live 0 (vcons w₁ vnil) in
    let good : Good (layout Out) v₁ = (and_tt _ fine.0, (record { fits = lit< tt }, (fine.1, tt))) in
    let is_made : context_over x ≡ Ok context.value = subst Told answered told in
    lands_as ! (says ∙ ap (λ (ws : List Val). live 0 (of_list (ws ++ []))) us) refl
    (and_tt _ typed'.0, (record { fits = lit< tt }, (typed'.1, tt))) $
    first ! $ switches_on ! (get_tag ! (vrt ! refl (fld ! refl (stop !))) (whole !)) $
    exec ! 𝓣.C 𝓣.Λ Ev (arm_body 0 (head (after 6 fn.body))) Then $
    sets ! (of_opd ! (get_in ! (vrt ! refl (fld ! refl (fld ! refl (stop !))))
    (sub ! 0 refl (in_variant ! 0 0 refl refl (whole !))))) refl (tt, tt) $
    sets ! (of_opd ! (get_in ! (vrt ! refl (fld ! refl (fld ! refl (stop !))))
    (sub ! 1 refl (in_variant ! 0 0 refl refl (whole !))))) refl fits' $
    sets ! (of_opd ! (get ! refl)) refl (tt, tt) $ sets ! (of_opd ! (get ! refl)) refl (tt, tt) $
    sets ! (of_opd ! (get ! refl)) refl (tt, tt) $ sets ! (of_opd ! (get ! refl)) refl (tt, tt) $
    sets ! (of_opd ! (get ! refl)) refl fits' $
    sets ! (agg ! (and_then ! (get ! refl) (and_then ! (get ! refl) (and_then ! (get ! refl) (no_more !))))) refl fine $
    sets_last ! (agg ! (and_then ! (lit ! tt) (and_then ! (get ! refl) (no_more !)))) refl good $
    exec ! 𝓣.C 𝓣.Λ Ev (after 7 fn.body) (at_ret Ev Post) $ sets ! (of_opd ! (get ! refl)) refl good $
    -- [the context; its allocator; the token; nothing; the allocator; the records lent]
    move ! (0 ∷ 2 ∷ 5 ∷ []) $ held_in ! a (block_ptr b o) (block_ptr b' o') context.value α x $
    handle_in ! (block_ptr b o) (block_ptr b' o') h' a (Some context.value) $
    use1 𝓛 (‵ (Out.own_val (Ok handle) (v₁ ∷ []))) (Ok-of 𝓛 Handle CallError handle w₁) $
    use0 𝓛 (raw (fact 𝓤 (held_by (context_over x) ≡ Ok (Some context.value))))
    (fact_i 𝓤 _ (emp 𝓤) (ap held_by is_made)) $ nothing ! $ nothing ! $ fjoin ! $
    returns ! (look_at ! 0 refl) $ free_all ! refl $ keep ! (3 ∷ 0 ∷ 2 ∷ 1 ∷ []) $
    by ! (leaves 𝓛 En hs c z v₁ (Ok handle) (tt, tt) (tt, tt))))
    (λ refusal vs failed says. handle_tells refusal_al ! refusal vs (λ v us good.
    let k₁ = triple_of 𝓛 refused.signature (refused.spec 𝓛 𝓜.mem 𝓡.returns) in
    let loose : (LooseAt HeldRecords).Denot = record { at = block_ptr b o; alloc = a; value = x } in
    let y₁ : k₁.Ghost = ((tt, tt, tt, (loose, (refusal, tt)), (w ∷ [], (v ∷ [], tt))), tt) in
    lands_as ! (says ∙ ap (λ (ws : List Val). live 1 (of_list (ws ++ []))) us) refl
    (and_tt _ good.0, (record { fits = lit< tt }, (good.1, tt))) $
    first ! $ switches_on ! (get_tag ! (vrt ! refl (fld ! refl (stop !))) (whole !)) $
    exec ! 𝓣.C 𝓣.Λ Ev (arm_body 1 (head (after 6 fn.body))) Then $
    sets ! (of_opd ! (get_in ! (vrt ! refl (fld ! refl (stop !))) (in_variant ! 1 0 refl refl (whole !)))) refl good $
    sets ! (of_opd ! (get ! refl)) refl (tt, tt) $ sets ! (of_opd ! (get ! refl)) refl fits $
    sets ! (agg ! (and_then ! (get ! refl) (and_then ! (get ! refl) (no_more !)))) refl typed $
    sets ! (of_opd ! (get ! refl)) refl good $
    -- [the refusal; the token; nothing; the allocator; the records lent]
    move ! (1 ∷ []) $ lft_end ! tt $ move ! (4 ∷ []) $ fsplit ! $ move ! (2 ∷ 0 ∷ []) $ lent_back ! tt $ fjoin ! $
    move ! (0 ∷ 3 ∷ []) $ loose_in HeldRecords Z LZ ghosts ! b o h a x $
    move ! (1 ∷ []) $ nothing ! $ move ! (1 ∷ 0 ∷ []) $ fjoin ! $ move ! (1 ∷ 0 ∷ []) $ fjoin ! $ nothing ! $ join ! $
    nothing ! $ move ! (1 ∷ 0 ∷ []) $ join ! $ use1 𝓛 (raw (k₁.pre y₁)) (id⊢ 𝓤 _) $
    calls_at ! (fm 𝓛 𝓜 𝓡) k₁ (refused_met.met 𝓤 𝓛 𝓜 𝓡 (code.calls-pdb_c::contexts::refuse 𝓡.env wired)) y₁
    (and_then ! (get ! refl) (and_then ! (get ! refl) (no_more !))) (λ u₁.
    use1 𝓛 (later (some (λ (r₁ : CallError.Denot). (‵ ftrue ⊛ ‵ (CallError.own_val r₁ (u₁ ∷ []))) ⊛ some
    (λ (ls : Lasts refused.ended tt y₁.0.3). ‵ (lasts refused.ended tt y₁.0.3 ls) ⊛ raw (fact 𝓤 (r₁ ≡ refusal))))))
    (id⊢ 𝓤 (k₁.post y₁ u₁)) $ await ! tt $ pick ! (λ r₁. split ! $ move ! (1 ∷ []) $ pick ! (λ _. split ! $ drop ! $
    heard ! (r₁ ≡ refusal) (λ same. split ! $ move ! (1 ∷ []) $
    handle_tells refusal_al ! r₁ (u₁ ∷ []) (λ v₁ us₁ good₁.
    let w₁ : Val = live 1 (vcons v₁ vnil) in
    let fine : Good (layout Out) w₁ = (and_tt _ good₁.0, (record { fits = lit< tt }, (good₁.1, tt))) in
    lands_as ! (ap only us₁) refl good₁ $
    sets_last ! (agg ! (and_then ! (lit ! tt) (and_then ! (get ! refl) (no_more !)))) refl fine $
    exec ! 𝓣.C 𝓣.Λ Ev (after 7 fn.body) (at_ret Ev Post) $ sets ! (of_opd ! (get ! refl)) refl fine $
    use1 𝓛 (‵ (Out.own_val (Err r₁) (w₁ ∷ []))) (Err-of 𝓛 Handle CallError r₁ v₁) $
    use0 𝓛 (raw (fact 𝓤 (r₁ ≢ OutOfMemory → held_by (context_over x) ≡ Err r₁)))
    (fact_i 𝓤 _ (emp 𝓤) (λ other. subst (λ q. held_by (context_over x) ≡ Err q) (sym same)
    (ap held_by (subst Told failed told (subst (λ q. q ≢ OutOfMemory) same other))))) $ nothing ! $ nothing ! $
    fjoin ! $
    returns ! (look_at ! 0 refl) $ free_all ! refl $ keep ! (3 ∷ 0 ∷ 2 ∷ 1 ∷ []) $
    by ! (leaves 𝓛 En hs c z w₁ (Err r₁) (tt, tt) (tt, tt)))))))))))))))))
