use Rattle.std.proofs.Common.{◌≡◌, ◌∙◌, ◌^◌, zero, suc, refl, sym, true, false, arith}
use Rattle.std.specs.BTreeSet.{contains}
use Rattle.std.specs.Ordering.{nat_cmp}
use Rattle.std.proofs.lemmas.Bool.{not-true, not-false}
use Rattle.pdb_types.specs.TypeInputs.{link_inputs}
use Rattle.pdb_types.specs.TypeSizes.{no_size, step, size_of}
use Rattle.pdb_types.specs.SizeLaws.{Leads}
use Rattle.pdb_types.proofs.ChainLemmas.{step-below, type_size-at_end}
use Rattle.pdb_types.proofs.FreeNumbers.{free_lt}
use Rattle.pdb_types.proofs.PassedLemmas.{type_size-leads, type_size-back, leads_more, passed_alike, with_one}
use Rattle.pdb_types.proofs.type_inputs.TypeInputs.chain_size.Goals as goal

pub returns-in-Some-clause-answer : goal.returns-in-Some-clause-answer
returns-in-Some-clause-answer g c =
    let inputs = c.args.self.now in
    let info = g.P.ModuleProvider.info in
    let found = c.in-Some.ensures.fits (size_of info inputs) c.chain.invariant.state.is_cache.sizes in
    sym (type_size-leads (link_inputs info inputs) inputs.types inputs.pointer_size c.args.module_index c.args.index.0
    c.chain.index.0 c.chain.invariant.led.0 c.chain.invariant.led.1 ∙ found)

pub returns-in-Some-clause-passed : goal.returns-in-Some-clause-passed
returns-in-Some-clause-passed g c =
    let found = c.in-Some.ensures.fits (size_of g.P.ModuleProvider.info c.args.self.now)
    c.chain.invariant.state.is_cache.sizes in
    passed_alike _ _ _ _ c.chain.index.0 _ c.chain.passed found c.chain.invariant.passed

pub returns-then-not-branch-clause-answer : goal.returns-then-not-branch-clause-answer
returns-then-not-branch-clause-answer g c =
    let inputs = c.args.self.now in
    let link = link_inputs g.P.ModuleProvider.info inputs in
    let here : contains nat_cmp c.chain.passed c.chain.index.0 ≡ true =
    not-false _ (sym c.in_ok-insert.ensures.added ∙ c.if-not-branch.true) in
    let back = c.chain.invariant.passed c.chain.index.0 here in
    sym (type_size-leads link inputs.types inputs.pointer_size c.args.module_index c.args.index.0 c.chain.index.0
    c.chain.invariant.led.0 c.chain.invariant.led.1
    ∙ type_size-back link inputs.types inputs.pointer_size c.args.module_index c.chain.index.0 back.0 back.1)

pub returns-then-not-branch-clause-passed : goal.returns-then-not-branch-clause-passed
returns-then-not-branch-clause-passed g c =
    let inputs = c.args.self.now in
    let info = g.P.ModuleProvider.info in
    let here : contains nat_cmp c.chain.passed c.chain.index.0 ≡ true =
    not-false _ (sym c.in_ok-insert.ensures.added ∙ c.if-not-branch.true) in
    let back = c.chain.invariant.passed c.chain.index.0 here in
    let none = type_size-back (link_inputs info inputs) inputs.types inputs.pointer_size c.args.module_index
    c.chain.index.0 back.0 back.1 in
    with_one (λ other. size_of info inputs c.args.module_index other ≡ no_size) c.chain.passed c.insert.new.self
    c.chain.index.0 c.in_ok-insert.ensures.updates none
    (passed_alike _ _ _ _ c.chain.index.0 _ c.chain.passed none c.chain.invariant.passed)

pub returns-in-Ended-clause-answer : goal.returns-in-Ended-clause-answer
returns-in-Ended-clause-answer g c =
    let inputs = c.args.self.now in
    let link = link_inputs g.P.ModuleProvider.info inputs in
    let ended = type_size-at_end link inputs.types inputs.pointer_size c.args.module_index c.chain.index.0 zero
    c.in-Ended.size
    (sym c.in_ok-size.ensures.answer ∙ c.in-Ended.is) in
    sym (type_size-leads link inputs.types inputs.pointer_size c.args.module_index c.args.index.0 c.chain.index.0
    c.chain.invariant.led.0 c.chain.invariant.led.1 ∙ ended)

pub returns-in-Ended-clause-passed : goal.returns-in-Ended-clause-passed
returns-in-Ended-clause-passed g c =
    let inputs = c.args.self.now in
    let info = g.P.ModuleProvider.info in
    let ended = type_size-at_end (link_inputs info inputs) inputs.types inputs.pointer_size c.args.module_index
    c.chain.index.0 zero c.in-Ended.size (sym c.in_ok-size.ensures.answer ∙ c.in-Ended.is) in
    with_one (λ other. size_of info inputs c.args.module_index other ≡ c.in-Ended.size) c.chain.passed c.insert.new.self
    c.chain.index.0 c.in_ok-insert.ensures.updates ended
    (passed_alike _ _ _ _ c.chain.index.0 _ c.chain.passed ended c.chain.invariant.passed)

pub chain-smaller : goal.chain-smaller
chain-smaller g c =
    let absent : contains nat_cmp c.chain.passed c.chain.index.0 ≡ false =
    not-true _ (sym c.in_ok-insert.ensures.added ∙ c.if-not-branch.false) in
    let below = step-below (link_inputs g.P.ModuleProvider.info c.args.self.now) c.args.self.now.types
    c.args.self.now.pointer_size c.args.module_index c.chain.index.0 c.in-Next.next
    (sym c.in_ok-size.ensures.answer ∙ c.in-Next.is) in
    free_lt (2 ^ 32) c.chain.index.0 (contains nat_cmp c.chain.passed)
    (contains nat_cmp c.insert.new.self) below absent c.in_ok-insert.ensures.updates.1
    (λ q there. grind (arith, c.in_ok-insert.ensures.updates.0 q))

pub chain-preserved : goal.chain-preserved
chain-preserved g c =
    let inputs = c.args.self.now in
    let next = step (link_inputs g.P.ModuleProvider.info inputs) inputs.types inputs.pointer_size c.args.module_index in
    let on = sym c.in_ok-size.ensures.answer ∙ c.in-Next.is in
    record {
      state = record {
        is_cache = c.step.ensures.state.is_cache;
        failed =
            c.step.ensures.state.failed ∙ c.chain.invariant.state.failed;
      };
      led = (
        suc c.chain.invariant.led.0,
        leads_more next c.chain.invariant.led.0 c.args.index.0 c.chain.index.0 c.in-Next.next c.chain.invariant.led.1
            on,
      );
      passed = with_one (λ other. (steps : _) × Leads next (suc steps) other c.in-Next.next.0) c.chain.passed
          c.insert.new.self c.chain.index.0 c.in_ok-insert.ensures.updates (zero, (c.in-Next.next, on, refl))
          (λ other there. let led = c.chain.invariant.passed other there in
          (suc led.0, leads_more next (suc led.0) other c.chain.index.0 c.in-Next.next led.1 on));
    }
