-- A list of calls, call by call.
use Rattle.std.proofs.Common.{◌≡◌, ◌∙◌, ℕ, ◌+◌, ◌<◌, List, [], ◌∷◌, ◌++◌, length, take, drop, get_or, sym, ap}
use Rattle.std.proofs.Common.{refl, append_assoc}
use Rattle.std.proofs.lemmas.List.{take_more, take-append-drop, map-append}
use Rattle.pdb_records.specs.Provided.{ProviderInfos}
use Rattle.pdb_addr2line.specs.Calls.{AnswerView, answer_view, Appends, StopsEarly, answer_to, answers_to, after_call}
use Rattle.pdb_addr2line.specs.Calls.{after_calls}
use Rattle.pdb_addr2line.specs.declared.calls.Answer.{Answer}
use Rattle.pdb_addr2line.specs.declared.calls.Call.{Call}
use Rattle.pdb_addr2line.specs.declared.calls.Call.TheVariants.{FindFunction}
use Rattle.pdb_addr2line.specs.FunctionIter.{OnlyGainsBroken}
use Rattle.pdb_addr2line.specs.ContextInputs.{ContextState}

-- calls that are made one after the other are made together
after_both : {P : Type 0} (info : P → ProviderInfos) (c : ContextState P) (calls more : List Call)
    → after_calls info c (calls ++ more) ≡ after_calls info (after_calls info c calls) more
after_both info c [] more = refl
after_both info c (call ∷ calls) more = after_both info (after_call info c call) calls more

-- and so are their answers
answers_of_both : {P : Type 0} (info : P → ProviderInfos) (c : ContextState P) (calls more : List Call)
    → answers_to info c (calls ++ more) ≡ answers_to info c calls ++ answers_to info (after_calls info c calls) more
answers_of_both info c [] more = refl
answers_of_both info c (call ∷ calls) more =
    ap (λ answers. answer_to info c call ∷ answers) (answers_of_both info (after_call info c call) calls more)

-- a list that is longer by answers, and then by more, is longer by all
appends_more : (before between after : List Answer) (first second : List AnswerView)
    → Appends before between first → Appends between after second → Appends before after (first ++ second)
appends_more before between after first second one two = record {
  appended = one.appended ++ two.appended;
  is = rw (two.is, one.is) (append_assoc before one.appended two.appended);
  shown = rw (map-append answer_view one.appended two.appended, one.shown, two.shown) refl;
}

-- a context once one call more is made
pub after_one_call_more : {P : Type 0} (info : P → ProviderInfos) (c between after : ContextState P)
    (calls : List Call) (i : ℕ)
    → i < length calls → between ≡ after_calls info c (take i calls)
    → after ≡ after_call info between (get_or calls i (FindFunction 0))
    → after ≡ after_calls info c (take (i + 1) calls)
after_one_call_more info c between after calls i below so_far next =
    rw (take_more calls i (FindFunction 0) below, after_both info c (take i calls) _, ← so_far) next

-- the answers once one call more is made
pub answers_one_more : {P : Type 0} (info : P → ProviderInfos) (c between : ContextState P) (calls : List Call) (i : ℕ)
    (before answers after : List Answer) → i < length calls → between ≡ after_calls info c (take i calls)
    → Appends before answers (answers_to info c (take i calls))
    → Appends answers after (answer_to info between (get_or calls i (FindFunction 0)) ∷ [])
    → Appends before after (answers_to info c (take (i + 1) calls))
answers_one_more info c between calls i before answers after below so_far first next =
    rw (take_more calls i (FindFunction 0) below, answers_of_both info c (take i calls) _)
    (appends_more before answers after _ _ first (rw so_far at next))

-- the calls so far, the next one, and those after it are all
split_at : (calls : List Call) (i : ℕ) → i < length calls
    → calls ≡ take i calls ++ get_or calls i (FindFunction 0) ∷ drop (i + 1) calls
split_at calls i below =
    let call = get_or calls i (FindFunction 0) in
    sym (take-append-drop (i + 1) calls)
    ∙ ap (λ first. first ++ drop (i + 1) calls) (take_more calls i (FindFunction 0) below)
    ∙ append_assoc (take i calls) (call ∷ []) (drop (i + 1) calls)

-- where the next call counts as not made, the calls before it are answered, and no other
pub stops_here : {P : Type 0} (info : P → ProviderInfos) (c between after : ContextState P) (calls : List Call) (i : ℕ)
    (before answers last : List Answer) → i < length calls → between ≡ after_calls info c (take i calls)
    → Appends before answers (answers_to info c (take i calls)) → last ≡ answers → OnlyGainsBroken info between after
    → StopsEarly info c calls before last after
stops_here info c between after calls i before answers last below so_far answered same gains = record {
  made = take i calls;
  unmade = get_or calls i (FindFunction 0);
  rest = drop (i + 1) calls;
  split = split_at calls i below;
  answered = rw same answered;
  unmade_gains = rw so_far at gains;
}
