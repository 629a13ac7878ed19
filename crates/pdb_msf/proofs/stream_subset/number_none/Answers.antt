-- What was filled numbers no block.
use Rattle.std.proofs.Common.{◌≡◌, ℕ, ◌-◌, List, length, arith, rules}
use Rattle.std.proofs.lemmas.List.{places}
use borrow.Rule.Slice.PartMut.{put_mid}
use Rattle.pdb_msf.proofs.HeldLemmas.{filled_none}
use Rattle.pdb_msf.proofs.stream_subset.number_none.Goals as goal

pub returns-then-front-directory-clause-none : goal.returns-then-front-directory-clause-none
returns-then-front-directory-clause-none c = λ place behind room.
    let before : List ℕ = c.args.directory.now in
    let front : ℕ = c.saturating_add-front.result in
    let same : length (put_mid front (length before - front) before c.fill.new.self) ≡ length before
    = search (rules, places) in
    filled_none front place before c.fill.new.self (omega arith) (c.fill.ensures.after (λ y is. is)) (omega arith)
    (omega (arith, same, room))
