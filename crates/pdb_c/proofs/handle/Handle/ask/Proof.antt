-- `ask` lends the context for the call alone.
use Rattle.std.proofs.Common.{List, [], ◌∷◌, ◌++◌, refl, sym, ap, ◌∙◌, subst, lit<}
use mir.Syntax.{named, impl, tnil, dnil, assign, place, rv_opd, copy}
use mir.Val.{Val, vptr, vcons, vnil}
use base.Logic.{SProp, ent, emp, id⊢}
use base.Fraction.{full_share}
use base.Share
use base.Fml.{GName, ftrue, flft, fdead, flent}
use prog.Wp.{WpFn, Wp, after_seq, at_return}
use types.Kit.{keep, drop, ‵, raw, ◌⊛◌, some, later, at_ret, any_q, ◌$◌, ◌∵◌, !, qed, by, move, split, split3, join}
use types.Kit.{fsplit}
use types.Kit.{fsplit3, fjoin, fjoin3, feq_i, feq_l, use0, use1, use2, use3, pick, await, rewrite, suffices}
use types.Run.{stop, fld, lit, addr, load, of_opd, bin, no_more, and_then, first, blocks, branches, exec, returns}
use types.Run.{enter}
use types.ByLocal.{alloc_all, pass_all, free_all, look_at, get, through, sets, sets_last, lands_as, env}
use types.Part.{agg, sub, whole, look_in}
use types.Match.{live}
use types.SemTy.{Body as BorrowBody}
use types.Tokens.{lft_new, lft_end}
use contract.BorrowLft.{meet_⊑_left, meet_⊑_right}
use contract.Monad.{fact, fact_i}
use contract.Running.{tables}
use denote.Exit.{yes}
use denote.RattleType.{RattleType, owns}
use denote.Lend.{lends_ref, ref_back}
use denote.Memory.{mem, cell_at}
use denote.Ref.{MutRef, MutBor, NamedLft}
use contract.Lifetimes.{Lfts}
use denote.Signature.{types_at, type_at, plain, named_lft}
use denote.RawPtr.{Ptr, block_ptr, null_ptr, ptr_val, tests_null, lies_at}
use denote.Steps.{nothing, only, heard, opens, closes}
use denote.Param.{layout}
use denote.Triple.Call.{calls_at}
use denote.Triple.Clauses.{Lasts, lasts}
use denote.Triple.Spec.{triple_of}
use denote.Triple.Walked.{Stays, stay_ref, stay_dropped, walk_of, Goes-ref, Goes-dropped}
use Rattle.core.proofs.alloc.Calls.{Al, handle_tells}
use Rattle.core.proofs.alloc.Shapes.{after}
use Rattle.core.proofs.atomic.Steps.{fm, Ptr-Good}
use Rattle.core.proofs.cell.Inside.{Good}
use Rattle.core.proofs.option.Made.{Some-of, none_of}
use Rattle.core.proofs.result.Result.TheLaws.{the_row_laws as result_laws}
use Rattle.std.specs.Prelude.{None, Some}
use Rattle.std.specs.contracts.impls.GlobalAllocator.TheImpl.{ghosts}
use Rattle.std_alloc.proofs.ResultValues.{and_tt}
use Rattle.std.proofs.raw_atomic.Walks.{proved_at, leaves}
use Rattle.pdb_addr2line.specs.ContextInputs.{ContextState}
use Rattle.pdb_records.specs.Records.{Records}
use Rattle.pdb_c.specs.FoundFrames.{shown_view}
use Rattle.pdb_c.specs.ReportTexts.{Agrees}
use Rattle.pdb_c.specs.Questions.{AnswersHeld, LeavesHeld, IsLeftBy}
use Rattle.pdb_c.specs.Questions as questions
use Rattle.pdb_c.specs.Handles.{HeldContext}
use Rattle.pdb_c.specs.contracts.found_frames.FoundFrames.{the_row as Found}
use Rattle.pdb_c.proofs.found_frames.FoundFrames.TheLaws as found_laws
use Rattle.pdb_c.specs.contracts.call_error.CallError.{the_row as CallError}
use Rattle.pdb_c.proofs.call_error.CallError.TheLaws as refusal_laws
use Rattle.pdb_c.specs.contracts.found_frames.Question.{the_row as question_row}
use Rattle.pdb_c.proofs.found_frames.Question.TheLaws as question_laws
use Rattle.pdb_c.proofs.HandleValues.{Z, LZ, Handle, three, handle_in, handle_out, held_in, either_held}
use Rattle.pdb_c.specs.contracts.answer_buffers.answer_in as callee
use Rattle.pdb_c.proofs.answer_buffers.answer_in.Met.{met}
use Rattle.pdb_c.specs.contracts.handle.Handle.ask.{ended, clauses}
use Rattle.pdb_c.specs.contracts.handle.Handle.ask.Key.{name as #self}
use Rattle.pdb_c.proofs.handle.Handle.ask.Statement.{statement}
use Rattle.pdb_c.proofs.handle.Handle.ask.Code as code

abbrev al : Al
al = record { row = Z; laws = LZ; g = ghosts; d = impl [] tnil dnil; drops = impl [] tnil dnil }

abbrev question_al : NamedLft → Al
question_al at = record {
  row = question_row at;
  laws = question_laws.the_row_laws at;
  g = record { dealloc_token = λ a σ p. ftrue };
  d = impl [] tnil dnil;
  drops = impl [] tnil dnil;
}

abbrev Reply : RattleType
Reply = type_at callee.signature.result ([], ([], ([], tt)))

abbrev reply_al : Al
reply_al = record {
  row = Reply;
  laws = result_laws Found CallError found_laws.the_row_laws refusal_laws.the_row_laws;
  g = record { dealloc_token = λ a σ p. ftrue };
  d = impl [] tnil dnil;
  drops = impl [] tnil dnil;
}

pub ask_spec : {M : Type 1} → statement M
ask_spec 𝓤 𝓛 𝓜 𝓡 wired =
    let H = 𝓛.H in
    let 𝓣 = tables 𝓤 H 𝓜 𝓡 𝓡.env in
    let En = ended in
    let c = clauses 𝓛 𝓜.mem 𝓡.returns in
    let fn = code.function in
    let Question : Lfts 2 → RattleType = λ κs. question_row (named_lft 2 1 tt κs) in
    let hs : Stays En.signature.params En.kept = (
      stay_ref (0 ∷ []) tt (plain (λ _. Handle)),
      (stay_dropped (plain (λ _. Z)) yes, (stay_dropped (plain Question) yes, tt)),
    ) in
    proved_at 𝓛 En hs c 𝓜 𝓡 (
      Goes-ref 𝓛 2 0 tt (plain (λ _. Handle)),
      (
        Goes-dropped 𝓛 2 (plain (λ _. Z)) yes (λ κs x f. refl),
        (Goes-dropped 𝓛 2 (plain Question) yes (λ κs x f. refl), tt),
      ),
    ) #self fn
    (code.unfolded 𝓤 H 𝓜 𝓡 wired) (λ z are.
    let κs = z.0.0 in
    let asks = κs.1.0 in let share = z.0.1.1.0 in
    let ref = z.0.3.0 in
    let b = ref.ref_ptr.0 in
    let o = ref.ref_ptr.1 in
    let d = ref.now in
    let a = z.0.3.1.0 in
    let question = z.0.3.1.1.0 in
    let Post : Val → SProp 𝓤 = (walk_of 𝓛 En hs c).post z in
    let Run : List Val → SProp 𝓤 = λ ws. WpFn 𝓤 H 𝓣.C 𝓣.Λ fn ws Post in
    let Out : RattleType = type_at En.signature.result κs in
    qed 𝓛 (((‵ (flft κs.0 z.0.1.0) ⊛ ‵ (flft asks share) ⊛ ‵ ftrue)
    ⊛ ‵ (owns (types_at En.signature.params κs) z.0.3 z.0.4))
    ∷ raw ((c κs z.0.3).requires z.1) ∷ []) ∵
    split ! $ move ! (1 ∷ []) $ fsplit ! $ fsplit3 ! $ feq_l ! (λ es. move ! (2 ∷ []) $ fsplit ! $
    handle_tells al ! a z.0.4.1.0 (λ ha ea fa. move ! (1 ∷ []) $ fsplit ! $
    handle_tells (question_al (named_lft 2 1 tt κs)) ! question z.0.4.1.1.0 (λ hq eq fq. move ! (5 ∷ []) $ split3 ! $
    move ! (6 ∷ 7 ∷ 0 ∷ 5 ∷ 3 ∷ 1 ∷ []) $
    suffices ! (Run (vptr b o ∷ ha ∷ hq ∷ [])) (subst (λ (us : List Val). ent 𝓤 (Run (vptr b o ∷ ha ∷ hq ∷ []))
    (Run us))
    (sym (λ i. es i ++ (ea i ++ (eq i ++ [])))) (id⊢ 𝓤 (Run (vptr b o ∷ ha ∷ hq ∷ [])))) $
    enter ! 𝓣.C 𝓣.Λ fn (vptr b o ∷ ha ∷ hq ∷ []) Post $ alloc_all ! (λ l. pass_all ! refl ((tt, tt), (fa, (fq, tt))) $
    let Ev = env fn.locals l in
    let Then = any_q (after_seq 𝓤 H (Wp 𝓤 H 𝓣.C 𝓣.Λ Ev (after 4 fn.body) (at_return 𝓤 H Ev Post))
    (at_return 𝓤 H Ev Post)) in
    let Cell = λ (ws : List Val). ‵ (cell_at full_share Handle.mir ws b o) in
    opens ! tt Handle b o (λ us. move ! (1 ∷ []) $ handle_out ! d us (λ h ws fits.
    either_held ! d.alloc d.records d.context d.held
    (λ at_null closed.
    rewrite ! 1 Cell (ws ∙ ap (λ (q : Ptr). three (ptr_val d.records) (ptr_val q) h ∷ []) at_null) refl $
    let d₁ : Handle.Denot = record { records = d.records; context = null_ptr; alloc = d.alloc; held = None } in
    let w : Val = three (ptr_val d.records) (ptr_val null_ptr) h in
    sets ! (of_opd ! (load ! (through ! refl (fld ! refl (stop !))) (look_in ! 1 (sub ! 1 refl (whole !))))) refl
    (Ptr-Good null_ptr) $
    sets ! (of_opd ! (get ! refl)) refl (Ptr-Good null_ptr) $
    sets ! (bin ! (get ! refl) (lit ! tt) tt) refl (tt, tt) $ first ! $ branches ! (get ! refl)
    (λ _. sets_last ! (agg ! (and_then ! (lit ! tt) (no_more !))) refl (tt, (record { fits = lit< tt }, tt)) $
    exec ! 𝓣.C 𝓣.Λ Ev (after 4 fn.body) (at_ret Ev Post) $
    sets ! (of_opd ! (get ! refl)) refl (tt, (record { fits = lit< tt }, tt)) $
    feq_i ! Ptr null_ptr null_ptr refl $ handle_in ! d.records null_ptr h d.alloc None $ move ! (1 ∷ 0 ∷ []) $
    closes ! tt Handle d₁ (w ∷ []) b o $
    feq_i ! (List Val) z.0.4.0 (vptr b o ∷ []) es $ fjoin3 ! $
    -- [the handle; the token; ..]
    nothing ! $ nothing ! $ fjoin ! $ nothing ! $ fjoin ! $ move ! (1 ∷ 0 ∷ []) $ fjoin ! $
    move ! (4 ∷ []) $ nothing ! $ move ! (1 ∷ 0 ∷ []) $ join ! $ move ! (2 ∷ 0 ∷ []) $ join ! $
    use0 𝓛 (‵ (Out.own_val None (live 0 vnil ∷ []))) (none_of 𝓛 Reply) $
    use0 𝓛 (raw (fact 𝓤 (LeavesHeld None d.held question None))) (fact_i 𝓤 _ (emp 𝓤) (sym closed)) $
    use0 𝓛 (raw (fact 𝓤 (AnswersHeld None d.held question))) (fact_i 𝓤 _ (emp 𝓤)
    (subst (λ q. AnswersHeld None q question) (sym closed) tt)) $ join ! $
    returns ! (look_at ! 0 refl) $ free_all ! refl $ keep ! (2 ∷ 3 ∷ 1 ∷ 0 ∷ []) $
    by ! (leaves 𝓛 En hs c z (live 0 vnil) None (d₁, (tt, (tt, tt))) (tt, (tt, (tt, tt))))) (λ wrong. absurd wrong))
    (λ cb co x held at_block one t.
    rewrite ! 4 Cell (ws ∙ ap (λ (q : Ptr). three (ptr_val d.records) (ptr_val q) h ∷ []) at_block) refl $
    let w : Val = three (ptr_val d.records) (vptr cb co) h in
    let α = held.0 in
    let Ctx = HeldContext α in
    sets ! (of_opd ! (load ! (through ! refl (fld ! refl (stop !)))
    (look_in ! 4 (sub ! 1 refl (whole !))))) refl (tt, tt) $
    sets ! (of_opd ! (get ! refl)) refl (tt, tt) $
    sets ! (bin ! (get ! refl) (lit ! tt) (tests_null (block_ptr cb co) t)) refl (tt, tt) $ first ! $
    branches ! (get ! refl) (λ wrong. absurd wrong)
    (λ _. first ! $ blocks ! $ sets ! (addr ! (through ! refl (stop !))) refl (tt, tt) $
    sets ! (of_opd ! (get ! refl)) refl fq $
    -- [the context; its lifetime; the records lent; the handle's allocator; its cell; the open borrow, in three; ..]
    fsplit ! $ lft_new ! tt (λ ν. let κ = ν ∷ α ∷ [] in
    move ! (1 ∷ []) $
    use1 𝓛 (later (some (λ (δ : GName).
    ‵ ((MutRef (named 0) κ Ctx).own_val (record { ref_ptr = (cb, co); ghost_name = δ; now = x }) (vptr cb co ∷ []))
    ⊛ ‵ (flent κ (BorrowBody (mem Ctx) cb co δ))))) (lends_ref 𝓛 Ctx (named 0) κ x cb co) $ await ! tt $
    pick ! (λ δ. split ! $
    -- [the loan; the lender's part; the new token; the right to free; the lifetime; the records lent; ..]
    move ! (2 ∷ []) $ use1 𝓛 (‵ (flft (ν ∷ []) (Share.left full_share)) ⊛ ‵ (flft (ν ∷ []) (Share.right full_share)))
    (𝓛.lfts.lft_split (ν ∷ []) full_share) $ split ! $ move ! (5 ∷ []) $
    use1 𝓛 (‵ (flft (α ∷ []) (Share.left full_share)) ⊛ ‵ (flft (α ∷ []) (Share.right full_share)))
    (𝓛.lfts.lft_split (α ∷ []) full_share) $ split ! $
    -- [the lifetime's halves; the new token's halves; the loan; the lender's part; the right to free; ..]
    move ! (2 ∷ 0 ∷ []) $ use2 𝓛 (‵ (flft κ (Share.left full_share)))
    (𝓛.lfts.lft_meet (ν ∷ []) (α ∷ []) (Share.left full_share)) $
    -- [the token of both; the lifetime's half; the new token's half; the loan; the lender's part; ..]
    let m : MutBor Ctx.Denot = record { ref_ptr = (cb, co); ghost_name = δ; now = x } in
    let k = triple_of 𝓛 callee.signature (callee.spec 𝓛 𝓜.mem 𝓡.returns) in
    let y : k.Ghost = (
      (
        (κ, (α ∷ [], (asks, tt))),
        (Share.left full_share, (Share.right full_share, (share, tt))),
        (meet_⊑_right (ν ∷ []) (α ∷ []), tt),
        (a, (m, (question, tt))),
        (ha ∷ [], (vptr cb co ∷ [], (hq ∷ [], tt))),
      ),
      tt,
    ) in
    move ! (14 ∷ []) $ nothing ! $ move ! (1 ∷ 0 ∷ []) $ join ! $ move ! (2 ∷ 0 ∷ []) $ join ! $
    move ! (1 ∷ 0 ∷ []) $ join ! $
    -- [the tokens; the new token's half; the loan; the lender's part; the right to free; ..]
    move ! (12 ∷ []) $ nothing ! $ move ! (1 ∷ 0 ∷ []) $ fjoin ! $ move ! (3 ∷ 0 ∷ []) $ fjoin ! $
    move ! (11 ∷ 0 ∷ []) $ fjoin ! $ move ! (1 ∷ 0 ∷ []) $ join ! $ nothing ! $ move ! (1 ∷ 0 ∷ []) $ join ! $
    use1 𝓛 (raw (k.pre y)) (id⊢ 𝓤 _) $
    calls_at ! (fm 𝓛 𝓜 𝓡) k (met 𝓤 𝓛 𝓜 𝓡 (code.calls-pdb_c::answer_buffers::answer_in 𝓡.env wired)) y
    (and_then ! (get ! refl) (and_then ! (get ! refl) (and_then ! (get ! refl) (no_more !)))) (λ u.
    let Told : Reply.Denot → Type 0 = λ r. Agrees shown_view r (questions.answer_in x question) in
    let Left : Reply.Denot → ContextState Records → Type 0 = λ r x'. IsLeftBy r x question x' in
    use1 𝓛 (later (some (λ (r : Reply.Denot).
    ((‵ (flft κ (Share.left full_share)) ⊛ ‵ (flft (α ∷ []) (Share.right full_share)) ⊛ ‵ (flft asks share) ⊛ ‵ ftrue)
    ⊛ ‵ (Reply.own_val r (u ∷ []))) ⊛ some (λ (ls : Lasts callee.ended y.0.0 y.0.3).
    ‵ (lasts callee.ended y.0.0 y.0.3 ls) ⊛ (raw (fact 𝓤 (Told r)) ⊛ raw (fact 𝓤 (Left r ls.1.0)))))))
    (id⊢ 𝓤 (k.post y u)) $ await ! tt $ pick ! (λ r. split ! $ move ! (1 ∷ []) $ pick ! (λ ls. split ! $
    let x' = ls.1.0 in
    fsplit ! $ drop ! $ fsplit ! $ fsplit ! $ move ! (1 ∷ 2 ∷ []) $ drop ! $ drop ! $ move ! (1 ∷ []) $ split ! $
    heard ! (Told r) (λ told. heard ! (Left r x') (λ leaves_it. move ! (1 ∷ []) $ split ! $ split3 ! $
    use1 𝓛 (‵ (flft (ν ∷ []) (Share.left full_share)) ⊛ ‵ (flft (α ∷ []) (Share.left full_share)))
    (𝓛.lfts.lft_unmeet (ν ∷ []) (α ∷ []) (Share.left full_share)) $ split ! $ move ! (1 ∷ 2 ∷ []) $
    use2 𝓛 (‵ (flft (α ∷ []) full_share)) (𝓛.lfts.lft_join (α ∷ []) full_share) $ move ! (1 ∷ 5 ∷ []) $
    use2 𝓛 (‵ (flft (ν ∷ []) full_share)) (𝓛.lfts.lft_join (ν ∷ []) full_share) $ lft_end ! tt $
    use1 𝓛 (‵ (fdead κ)) (𝓛.lfts.dead-incl κ (ν ∷ []) (meet_⊑_left (ν ∷ []) (α ∷ []))) $
    -- [the loan is over; the lifetime; nothing; the answer; the last context; the lender's part; the right to free; ..]
    move ! (0 ∷ 5 ∷ 4 ∷ []) $ use3 𝓛 (later (‵ (lies_at Ctx full_share (block_ptr cb co) x')))
    (ref_back 𝓛 Ctx κ δ x' cb co) $
    await ! tt $ move ! (0 ∷ 4 ∷ []) $ fjoin ! $ move ! (3 ∷ []) $
    handle_tells reply_al ! r (u ∷ []) (λ v is_v fv.
    let d₁ : Handle.Denot = record {
      records = d.records;
      context = block_ptr cb co;
      alloc = d.alloc;
      held =
          Some x';
    } in
    let v₁ : Val = live 1 (vcons v vnil) in
    let good : Good (layout Out) v₁ = (and_tt _ fv.0, (record { fits = lit< tt }, (fv.1, tt))) in
    lands_as ! (ap only is_v) refl fv $
    sets_last ! (agg ! (and_then ! (lit ! tt) (and_then ! (get ! refl) (no_more !)))) refl good $
    exec ! 𝓣.C 𝓣.Λ Ev (assign (place 7 []) (rv_opd (copy (place 8 [])))) Then $
    sets_last ! (of_opd ! (get ! refl)) refl good $
    exec ! 𝓣.C 𝓣.Λ Ev (after 4 fn.body) (at_ret Ev Post) $ sets ! (of_opd ! (get ! refl)) refl good $
    use1 𝓛 (‵ (Out.own_val (Some r) (v₁ ∷ []))) (Some-of 𝓛 Reply r v) $
    -- [the answer; the context; the lifetime; nothing; the records lent; the handle's allocator; its cell; ..]
    move ! (1 ∷ 2 ∷ 4 ∷ []) $ held_in ! d.alloc d.records (block_ptr cb co) x' α held.1 $ move ! (0 ∷ 3 ∷ []) $
    handle_in ! d.records (block_ptr cb co) h d.alloc (Some x') $ move ! (3 ∷ 0 ∷ 4 ∷ 5 ∷ 6 ∷ []) $
    closes ! tt Handle d₁ (w ∷ []) b o $
    feq_i ! (List Val) z.0.4.0 (vptr b o ∷ []) es $ fjoin3 ! $
    nothing ! $ nothing ! $ fjoin ! $ nothing ! $ fjoin ! $ move ! (1 ∷ 0 ∷ []) $ fjoin ! $
    move ! (1 ∷ 3 ∷ []) $ join ! $
    use0 𝓛 (raw (fact 𝓤 (LeavesHeld (Some r) d.held question (Some x')))) (fact_i 𝓤 _ (emp 𝓤)
    (subst (λ q. LeavesHeld (Some r) q question (Some x')) (sym one) leaves_it)) $
    use0 𝓛 (raw (fact 𝓤 (AnswersHeld (Some r) d.held question))) (fact_i 𝓤 _ (emp 𝓤)
    (subst (λ q. AnswersHeld (Some r) q question) (sym one) told)) $ join ! $
    returns ! (look_at ! 0 refl) $ free_all ! refl $ keep ! (1 ∷ 2 ∷ 3 ∷ 0 ∷ []) $
    by ! (leaves 𝓛 En hs c z v₁ (Some r) (d₁, (tt, (tt, tt))) (tt, (tt, (tt, tt)))))))))))))))))))))
