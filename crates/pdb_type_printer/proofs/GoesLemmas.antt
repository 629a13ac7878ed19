-- How what is still to be done goes on.
use Rattle.std.proofs.Common.{◌≡◌, ℕ, ◌+◌, ◌<◌, ◌≤◌, List, ◌∷◌, ◌++◌, true, length, refl, subst, arith, append_assoc}
use Rattle.std.specs.Prelude.{Option, Some, None, is_some}
use Rattle.std.proofs.Math.Seq.{take-append_seam, drop-append_seam, take-length}
use Rattle.std.proofs.lemmas.List.{append-nil}
use Rattle.pdb_types.specs.FailedParts.{Parts}
use Rattle.pdb_type_texts.specs.Documents.{PrintError, Document, Run, run, then_by, buffered_by, caught_by, ends_in_sigil}
use Rattle.pdb_type_texts.specs.Documents as document
use Rattle.pdb_type_texts.specs.Wording.{missing_text}
use Rattle.pdb_type_texts.specs.PrintInputs.{PrintInputs}
use Rattle.pdb_type_texts.specs.Plans.{Task, Plan, Done, Later, Seq, Buffered, Catch}
use Rattle.pdb_type_texts.specs.Rules.{rule}
use Rattle.pdb_type_texts.specs.Unfolding.{Unfolds, done, later, seq, buffered, catch}
use Rattle.pdb_type_texts.specs.Progress.{released_by}
use Rattle.pdb_type_printer.specs.PendingPlans.{PendingPlan, Then, Closing, Caught, HeldBack, Ends, Counts, Goes}

-- nothing changes
pub goes_on : {w : PrintInputs} {k : List PendingPlan} {c : Run} → Goes w 0 k c k c
goes_on = record { ends = λ end ends. ends; falls = λ cost counts. omega arith }

-- one change after another
pub goes_then : {w : PrintInputs} {m n : ℕ} {k k' k'' : List PendingPlan} {c c' c'' : Run} → Goes w m k c k' c'
    → Goes w n k' c' k'' c'' → Goes w (m + n) k c k'' c''
goes_then first second = record {
  ends = λ end ends. first.ends end (second.ends end ends);
  falls = λ cost counts. let a = first.falls cost counts in let b = second.falls cost counts in omega arith;
}

-- fewer steps are claimed to be done
pub goes_fewer : {w : PrintInputs} {m : ℕ} {k k' : List PendingPlan} {c c' : Run} (n : ℕ) → n ≤ m → Goes w m k c k' c'
    → Goes w n k c k' c'
goes_fewer n less goes = record {
  ends = goes.ends;
  falls = λ cost counts. let a = goes.falls cost counts in omega arith;
}

-- what a task unfolds to is what the plan of its rule does
later-inside : {w : PrintInputs} {inside : List ℕ} {task : Task} {d : Document} → Unfolds w (Later inside task) d
    → Unfolds w (rule w inside task) d
later-inside (later u) = u

-- a task becomes the plan of its rule
pub goes_later : (w : PrintInputs) (inside : List ℕ) (task : Task) (k : List PendingPlan) (c : Run)
    → Goes w 2 (Then (Later inside task) ∷ k) c (Then (rule w inside task) ∷ k) c
goes_later w inside task k c = record {
  ends = λ end ends d unfolds. ends d (later-inside unfolds);
  falls = λ cost counts. let a = counts.later inside task in omega arith;
}

-- a run with a text before it
abbrev behind : List ℕ → Run → Run
behind text r = record { text = text ++ r.text; fault = r.fault; failed = r.failed }

-- a text, and then one run after another
then-inner : (text : List ℕ) (g : Option PrintError) (r : Run) (next : Parts → Run)
    → behind text (then_by g r next) ≡ then_by g (behind text r) next
then-inner text None r next = rw append_assoc refl
then-inner text (Some e) r next = refl

-- one document after another is printed one after the other
then-seq : (f : Option PrintError) (c : Run) (a b : Document) → f ≡ c.fault
    → then_by f c (run (document.Seq a b)) ≡ then_by (then_by f c (run a)).fault (then_by f c (run a)) (run b)
then-seq None c a b is = then-inner c.text (run a c.failed).fault (run a c.failed) (run b)
then-seq (Some e) c a b is = rw (← is) refl

-- the documents of two plans in a row
seq-ends : (w : PrintInputs) (p q : Plan) (k : List PendingPlan) (c end : Run)
    → ((a : Document) → Unfolds w p a → (b : Document) → Unfolds w q b
    → Ends w k (then_by (then_by c.fault c (run a)).fault (then_by c.fault c (run a)) (run b)) end) → (d : Document)
    → Unfolds w (Seq p q) d → Ends w k (then_by c.fault c (run d)) end
seq-ends w p q k c end ends d (seq {a = a} {b = b} x y) =
    rw (then-seq c.fault c a b refl) (ends a x b y)

-- a plan of two becomes the two in a row
pub goes_seq : (w : PrintInputs) (p q : Plan) (k : List PendingPlan) (c : Run)
    → Goes w 1 (Then (Seq p q) ∷ k) c (Then p ∷ Then q ∷ k) c
goes_seq w p q k c = record {
  ends = λ end ends. seq-ends w p q k c end ends;
  falls = λ cost counts. let a = counts.seq p q in omega arith;
}

-- a text, and then one that is held back
buffered-inner : (text : List ℕ) (g : Option PrintError) (r : Run) (u v : List ℕ)
    → behind text (buffered_by g r u v) ≡ released_by g (behind text r) (length text) u v
buffered-inner text None r u v = rw (drop-append_seam text r.text, append_assoc) refl
buffered-inner text (Some e) r u v = rw (append-nil text, take-append_seam text r.text) refl

-- a document that is held back is printed, and then released
then-buffered : (f : Option PrintError) (c : Run) (a : Document) (u v : List ℕ) → f ≡ c.fault
    → then_by f c (run (document.Buffered a u v)) ≡ released_by (then_by f c (run a)).fault (then_by f c (run a))
    (length c.text) u v
then-buffered None c a u v is = buffered-inner c.text (run a c.failed).fault (run a c.failed) u v
then-buffered (Some e) c a u v is = rw (← is, take-length c.text) refl

-- the document of a plan that is held back
buffered-ends : (w : PrintInputs) (p : Plan) (u v : List ℕ) (k : List PendingPlan) (c end : Run)
    → ((a : Document) → Unfolds w p a
    → Ends w k (released_by (then_by c.fault c (run a)).fault (then_by c.fault c (run a)) (length c.text) u v) end)
    → (d : Document) → Unfolds w (Buffered p u v) d → Ends w k (then_by c.fault c (run d)) end
buffered-ends w p u v k c end ends d (buffered {a = a} x) =
    rw (then-buffered c.fault c a u v refl) (ends a x)

-- a plan that is held back is printed from here on, and then released
pub goes_buffered : (w : PrintInputs) (p : Plan) (u v : List ℕ) (k : List PendingPlan) (c : Run) (mark : ℕ)
    → mark ≡ length c.text → Goes w 0 (Then (Buffered p u v) ∷ k) c (Then p ∷ HeldBack mark u v ∷ k) c
goes_buffered w p u v k c mark is = rw is (record {
  ends = λ end ends. buffered-ends w p u v k c end ends;
  falls = λ cost counts. let a = counts.buffered p u v in omega arith;
})

-- a text, and then one that a note may follow
caught-inner : (text : List ℕ) (g : Option PrintError) (r : Run)
    → behind text (caught_by g r) ≡ caught_by g (behind text r)
caught-inner text (Some (document.TypeNotFound i)) r = rw (append_assoc text r.text (missing_text i)) refl
caught-inner text _ r = refl

-- a document that a note may follow is printed, and then the note
then-caught : (c : Run) (a : Document) → c.fault ≡ None
    → then_by c.fault c (run (document.Catch a)) ≡ caught_by (then_by c.fault c (run a)).fault
    (then_by c.fault c (run a))
then-caught c a is = rw is (caught-inner c.text (run a c.failed).fault (run a c.failed))

-- the document of a plan that a note may follow
catch-ends : (w : PrintInputs) (p : Plan) (k : List PendingPlan) (c end : Run) → c.fault ≡ None
    → ((a : Document) → Unfolds w p a
    → Ends w k (caught_by (then_by c.fault c (run a)).fault (then_by c.fault c (run a))) end) → (d : Document)
    → Unfolds w (Catch p) d → Ends w k (then_by c.fault c (run d)) end
catch-ends w p k c end none ends d (catch {a = a} x) =
    rw (then-caught c a none) (ends a x)

-- a plan that a note may follow is printed, and then the note
pub goes_catch : (w : PrintInputs) (p : Plan) (k : List PendingPlan) (c : Run) → c.fault ≡ None
    → Goes w 0 (Then (Catch p) ∷ k) c (Then p ∷ Caught ∷ k) c
goes_catch w p k c none = record {
  ends = λ end ends. catch-ends w p k c end none ends;
  falls = λ cost counts. let a = counts.catch p in omega arith;
}

-- the document of a plan that is one
done-ends : (w : PrintInputs) (d : Document) (k : List PendingPlan) (c end : Run)
    → Ends w k (then_by c.fault c (run d)) end → (d' : Document) → Unfolds w (Done d) d'
    → Ends w k (then_by c.fault c (run d')) end
done-ends w d k c end ends d' done = ends

-- a document is printed
pub goes_done : (w : PrintInputs) (d : Document) (k : List PendingPlan) (c c' : Run) → c' ≡ then_by c.fault c (run d)
    → Goes w 1 (Then (Done d) ∷ k) c k c'
goes_done w d k c c' is = record {
  ends = λ end ends. done-ends w d k c end (rw is at ends);
  falls = λ cost counts. let a = counts.done d in omega arith;
}

-- each plan takes a step
pub cost-positive : (w : PrintInputs) (cost : Plan → ℕ) → Counts w cost → (p : Plan) → 0 < cost p
cost-positive w cost counts (Done d) = let a = counts.done d in omega arith
cost-positive w cost counts (Later inside task) = let a = counts.later inside task in omega arith
cost-positive w cost counts (Seq p q) = let a = counts.seq p q in omega arith
cost-positive w cost counts (Buffered p u v) = let a = counts.buffered p u v in omega arith
cost-positive w cost counts (Catch p) = let a = counts.catch p in omega arith

-- nothing follows a run that failed
passed : (f : Option PrintError) (c : Run) (next : Parts → Run) → is_some f ≡ true → c ≡ then_by f c next
passed (Some e) c next failed = refl
passed None c next failed = cc

-- where printing failed, a plan is passed over
pub goes_over : (w : PrintInputs) (p : Plan) (k : List PendingPlan) (c : Run) → is_some c.fault ≡ true
    → Goes w 1 (Then p ∷ k) c k c
goes_over w p k c failed = record {
  ends = λ end ends d unfolds. subst (λ (r : Run). Ends w k r end) (passed c.fault c (run d) failed) ends;
  falls = λ cost counts. let a = cost-positive w cost counts p in omega arith;
}

-- what ends is done with
pub goes_closing : (w : PrintInputs) (k : List PendingPlan) (c : Run) → Goes w 1 (Closing ∷ k) c k c
goes_closing w k c = record { ends = λ end ends. ends; falls = λ cost counts. omega arith }

-- a note follows where a type was missing
pub goes_caught : (w : PrintInputs) (k : List PendingPlan) (c c' : Run) → c' ≡ caught_by c.fault c
    → Goes w 1 (Caught ∷ k) c k c'
goes_caught w k c c' is = rw is (record { ends = λ end ends. ends; falls = λ cost counts. omega arith })

-- pointers follow their target, or nothing of it stays
pub goes_held_back : (w : PrintInputs) (mark : ℕ) (u v : List ℕ) (k : List PendingPlan) (c c' : Run)
    → c' ≡ released_by c.fault c mark u v → Goes w 1 (HeldBack mark u v ∷ k) c k c'
goes_held_back w mark u v k c c' is =
    rw is (record { ends = λ end ends. ends; falls = λ cost counts. omega arith })
