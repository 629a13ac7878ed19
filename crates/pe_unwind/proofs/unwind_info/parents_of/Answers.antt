-- One parent more, a parent that is refused, and too many.
use Rattle.std.proofs.Common.{◌≡◌, ◌-◌, ◌∙◌, ap, sym, arith}
use Rattle.std.proofs.lemmas.Result.{err_from_is_err_and}
use Rattle.pe_unwind.proofs.ListLemmas.{fails_onward, one_parent_more, refused_parent, too_many_parents, unread_parents}
use Rattle.pe_unwind.specs.UnwindErrors.{behind}
use Rattle.pe_unwind.specs.UnwindInfo.{info_at, parents_of, parents_up_to}
use Rattle.pe_unwind.proofs.unwind_info.parents_of.Goals as goal

pub loop-init : goal.loop-init
loop-init c =
    unread_parents c.args.image.now c.args.parent
    ∙ ap (λ infos. behind infos (parents_up_to 32 c.args.image.now c.args.parent)) (sym c.new-parents.ensures.items)

pub loop-preserved : goal.loop-preserved
loop-preserved c =
    let was = rw c.in-Some.is at c.loop.invariant in
    let more = one_parent_more c.args.image.now 32 c.loop.counter c.in-Some.rva c.in_ok-info.info _ _ _ c.loop-test.true
    c.in_ok-info.ensures.answer c.in_ok-push.ensures.items was in
    rw (ap (λ info. info.parent) c.info.view_is) more

pub returns-in_err-info : goal.returns-in_err-info
returns-in_err-info c =
    let was = rw c.in-Some.is at c.loop.invariant in
    let p = err_from_is_err_and c.from_residual.result c.from_residual.ensures.1 in
    rw (p.1, p.2) (record {
      answer = fails_onward c.in_err-info.field-0.0 (info_at c.args.image.now c.in-Some.rva)
          (parents_of c.args.image.now c.args.parent)
          (λ refusal is. refused_parent c.args.image.now 32 c.loop.counter c.in-Some.rva refusal _ c.loop.parents.items
          c.loop-test.true is was) c.in_err-info.ensures.answer;
    })

pub returns-then-is_some : goal.returns-then-is_some
returns-then-is_some c =
    let end : 32 - c.loop.counter ≡ 0 = omega arith in
    record {
      answer = too_many_parents c.args.image.now c.loop.next _ c.loop.parents.items (sym c.if-is_some.ensures)
          (c.loop.invariant
          ∙ ap (λ n. behind c.loop.parents.items (parents_up_to n c.args.image.now c.loop.next)) end);
    }
