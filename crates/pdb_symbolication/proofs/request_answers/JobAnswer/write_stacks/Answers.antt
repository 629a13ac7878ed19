-- A stack more, with the comma before it.
use Rattle.std.proofs.Common.{◌≡◌, ℕ, ◌+◌, ◌<◌, List, ◌++◌, drop, get_or, length, map, Option}
use Rattle.std.specs.Prelude.{◌==◌}
use Rattle.pdb_symbolication.specs.JsonObjects.{comma_before}
use Rattle.pdb_symbolication.specs.RequestAnswers.{searched_by, stack_array}
use Rattle.pdb_symbolication.specs.declared.request_answers.JobAnswer.{JobAnswer}
use Rattle.pdb_symbolication.specs.declared.requests.Stack.{Stack}
use Rattle.pdb_symbolication.proofs.JsonLemmas.{left, map_next}
use Rattle.pdb_symbolication.proofs.WriteLemmas.{Goes, fails_amid, goes_amid, goes_as, goes_on}
use Rattle.pdb_symbolication.proofs.request_answers.JobAnswer.write_stacks.Goals as goal

-- what is left after the stack of this number
rest_of : JobAnswer → ℕ → List ℕ
rest_of answer number = left (number + 1 == 0)
    (map (stack_array (searched_by answer)) (drop (number + 1) answer.job.now.stacks.items))

-- the comma before a stack, it and what follows are left
stack_next : (answer : JobAnswer) (number : ℕ) (stack : Stack) {known after : Option (List ℕ)} {text : List ℕ}
    → number < length answer.job.now.stacks.items → stack ≡ get_or answer.job.now.stacks.items number stack
    → Goes known after
    (left (number == 0) (map (stack_array (searched_by answer)) (drop number answer.job.now.stacks.items))) text
    → Goes known after
    (comma_before (number == 0) ++ (stack_array (searched_by answer) stack ++ rest_of answer number)) text
unfolding rest_of
stack_next answer number stack within is goes =
    goes_as (map_next (stack_array (searched_by answer)) answer.job.now.stacks.items number stack within is) goes

pub returns-in_err-write_comma : goal.returns-in_err-write_comma
returns-in_err-write_comma g c =
    let answer = c.args.self in
    let number = c.loop-number.number in
    let stack = c.stack-item.result in
    let is = rw c.deref-stack-items.ensures.value at c.stack-item.is in
    let within = rw c.deref-stack-items.ensures.value at c.loop-number-test.true in
    fails_amid c.from_residual.result c.from_residual.ensures.0
    (goes_amid (comma_before (number == 0)) (stack_array (searched_by answer) stack ++ rest_of answer number)
    (stack_next answer number stack within is c.loop-number.invariant)
    c.in_err-write_comma.ensures)

pub returns-in_err-write_stack : goal.returns-in_err-write_stack
returns-in_err-write_stack g c =
    let answer = c.args.self in
    let number = c.loop-number.number in
    let stack = c.stack-item.result in
    let is = rw c.deref-stack-items.ensures.value at c.stack-item.is in
    let within = rw c.deref-stack-items.ensures.value at c.loop-number-test.true in
    fails_amid c.from_residual-in_err-write_stack.result c.from_residual-in_err-write_stack.ensures.0
    (goes_amid (stack_array (searched_by answer) stack) (rest_of answer number)
    (goes_on (g.W.Write.contents c.write_comma.new.out) (comma_before (number == 0))
    (stack_array (searched_by answer) stack ++ rest_of answer number)
    (stack_next answer number stack within is c.loop-number.invariant)
    c.in_ok-write_comma.ensures)
    c.in_err-write_stack.ensures)

pub loop-number-preserved : goal.loop-number-preserved
unfolding rest_of
loop-number-preserved g c =
    let answer = c.args.self in
    let number = c.loop-number.number in
    let stack = c.stack-item.result in
    let is = rw c.deref-stack-items.ensures.value at c.stack-item.is in
    let within = rw c.deref-stack-items.ensures.value at c.loop-number-test.true in
    goes_on (g.W.Write.contents c.write_stack.new.out) (stack_array (searched_by answer) stack) (rest_of answer number)
    (goes_on (g.W.Write.contents c.write_comma.new.out) (comma_before (number == 0))
    (stack_array (searched_by answer) stack ++ rest_of answer number)
    (stack_next answer number stack within is c.loop-number.invariant)
    c.in_ok-write_comma.ensures)
    c.in_ok-write_stack.ensures
