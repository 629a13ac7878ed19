-- Offsets of modules, which are kept while more frames are added.
use Rattle.std.proofs.Common.{◌≡◌, ◌≢◌, ◌∙◌, refl, ap, sym, subst, ℕ, zero, suc, List, [], ◌∷◌, ◌++◌, ◌<◌, ◌+◌, arith}
use Rattle.std.proofs.Common.{Result, Ok, Err, length, Some, None, Option, Bool, true, false}
use Rattle.std.proofs.Math.ListN.{set}
use Rattle.std.proofs.lemmas.Bool.Decides.{nat_tests}
use Rattle.std.specs.Prelude.{◌==◌, Contains, OnOk, unwrap_or}
use Rattle.std.specs.List.{slice_get}
use Rattle.pdb_symbolication.specs.WantedModules.{KeepsOffsets, KeepsServed, ServesFrame, ServesPlace}
use Rattle.pdb_symbolication.specs.WantedModules.{ServesJob, ServesSearch, ServesStack, is_asked}
use Rattle.pdb_symbolication.specs.declared.requests.FrameModule.{FrameModule}
use Rattle.pdb_symbolication.specs.declared.requests.FrameModule.TheVariants.{Unknown, At}
use Rattle.pdb_symbolication.specs.declared.requests.Job.{Job}
use Rattle.pdb_symbolication.specs.declared.requests.Stack.{Stack}
use Rattle.pdb_symbolication.specs.declared.requests.StackFrame.{StackFrame}
use Rattle.pdb_symbolication.specs.declared.wanted_modules.Search.{Search}
use Rattle.pdb_symbolication.specs.declared.wanted_modules.Search.TheVariants.{NotAsked, Impossible, Module}
use Rattle.pdb_symbolication.proofs.NameLemmas.{slice_get-set_same, slice_get-set_other}

-- where modules keep their offsets, a search serves what it did
more_search : (old new : List (List ℕ)) (offset : ℕ) (search : Option Search) → KeepsOffsets old new
    → ServesSearch old offset search → ServesSearch new offset search
more_search old new offset None kept served = tt
more_search old new offset (Some NotAsked) kept served = served
more_search old new offset (Some Impossible) kept served = tt
more_search old new offset (Some (Module position)) kept served = kept position offset served

more_place : (old new : List (List ℕ)) (searches : List Search) (offset : ℕ) (place : FrameModule)
    → KeepsOffsets old new → ServesPlace old searches offset place → ServesPlace new searches offset place
more_place old new searches offset Unknown kept served = tt
more_place old new searches offset (At index) kept served =
    more_search old new offset (slice_get searches index) kept served

-- a frame that was served is served
pub more_frame : (old new : List (List ℕ)) (before after : List Search) (frame : StackFrame) → KeepsOffsets old new
    → KeepsServed before after → ServesFrame old before frame → ServesFrame new after frame
more_frame old new before after frame kept still served =
    still new frame (more_place old new before frame.offset frame.module kept served)

-- a search that is made once stays
same_search : (offsets : List (List ℕ)) (offset : ℕ) (before made : Search) → (is_asked before ≡ true → made ≡ before)
    → ServesSearch offsets offset (Some before) → ServesSearch offsets offset (Some made)
same_search offsets offset NotAsked made same served = absurd served
same_search offsets offset Impossible made same served =
    subst (λ (search : Search). ServesSearch offsets offset (Some search)) (sym (same refl)) served
same_search offsets offset (Module position) made same served =
    subst (λ (search : Search). ServesSearch offsets offset (Some search)) (sym (same refl)) served

set_search : (offsets : List (List ℕ)) (offset : ℕ) (searches : List Search) (index other : ℕ) (before made : Search)
    (at : Bool) → (other == index) ≡ at → index < length searches → slice_get searches index ≡ Some before
    → (is_asked before ≡ true → made ≡ before) → ServesSearch offsets offset (slice_get searches other)
    → ServesSearch offsets offset (slice_get (set searches index made) other)
set_search offsets offset searches index other before made true at within was same served =
    let here : other ≡ index = grind (arith, nat_tests) in
    subst (λ (place : ℕ). ServesSearch offsets offset (slice_get (set searches index made) place)) (sym here)
    (subst (λ (search : Option Search). ServesSearch offsets offset search)
    (sym (slice_get-set_same searches index made within))
    (same_search offsets offset before made same
    (subst (λ (search : Option Search). ServesSearch offsets offset search) was
    (subst (λ (place : ℕ). ServesSearch offsets offset (slice_get searches place)) here served))))
set_search offsets offset searches index other before made false at within was same served =
    let differs : other ≢ index = grind (arith, nat_tests) in
    subst (λ (search : Option Search). ServesSearch offsets offset search)
    (sym (slice_get-set_other searches index other made differs)) served

set_place : (offsets : List (List ℕ)) (offset : ℕ) (searches : List Search) (index : ℕ) (before made : Search)
    (place : FrameModule) → index < length searches → slice_get searches index ≡ Some before
    → (is_asked before ≡ true → made ≡ before) → ServesPlace offsets searches offset place
    → ServesPlace offsets (set searches index made) offset place
set_place offsets offset searches index before made Unknown within was same served = tt
set_place offsets offset searches index before made (At other) within was same served =
    set_search offsets offset searches index other before made (other == index) refl within was same served

-- a search is written where it was made already, or where none was
pub still_set : (searches : List Search) (index : ℕ) (before made : Search) → index < length searches
    → slice_get searches index ≡ Some before → (is_asked before ≡ true → made ≡ before)
    → KeepsServed searches (set searches index made)
still_set searches index before made within was same offsets frame served =
    set_place offsets frame.offset searches index before made frame.module within was same served

-- a frame is served by the search that is written for its entry
pub frame_set : (offsets : List (List ℕ)) (searches : List Search) (index : ℕ) (made : Search) (frame : StackFrame)
    → index < length searches → frame.module ≡ At index → ServesSearch offsets frame.offset (Some made)
    → ServesFrame offsets (set searches index made) frame
frame_set offsets searches index made frame within at served =
    subst (λ (place : FrameModule). ServesPlace offsets (set searches index made) frame.offset place) (sym at)
    (subst (λ (search : Option Search). ServesSearch offsets frame.offset search)
    (sym (slice_get-set_same searches index made within)) served)

-- a frame of an entry that isn't there needs no search
pub frame_past : (offsets : List (List ℕ)) (searches : List Search) (index : ℕ) (frame : StackFrame)
    → frame.module ≡ At index → slice_get searches index ≡ None → ServesFrame offsets searches frame
frame_past offsets searches index frame at past =
    subst (λ (place : FrameModule). ServesPlace offsets searches frame.offset place) (sym at)
    (subst (λ (search : Option Search). ServesSearch offsets frame.offset search) (sym past) tt)

-- a search that is made, and leads to no module, serves each offset
pub no_module : (offsets : List (List ℕ)) (offset : ℕ) (made : Search) → is_asked made ≡ true
    → ((position : ℕ) → made ≢ Module position) → ServesSearch offsets offset (Some made)
no_module offsets offset NotAsked asked none = absurd (cc)
no_module offsets offset Impossible asked none = tt
no_module offsets offset (Module position) asked none = absurd (none position refl)

some_inj : {X : Type 0} {one other : X} → Some one ≡ Some other → one ≡ other
some_inj {X} {one} {other} same = cc

next_or_before : {X : Type 0} (P Q : ℕ → X → Type 0) (xs : List X) (count : ℕ) (next : X)
    → slice_get xs count ≡ Some next → ((number : ℕ) (x : X) → number < count → P number x → Q number x)
    → ((number : ℕ) (x : X) → number < count → slice_get xs number ≡ Some x → P number x)
    → Q count next → (number : ℕ) (x : X) (at : Bool) → (number == count) ≡ at → number < count + 1
    → slice_get xs number ≡ Some x → Q number x
next_or_before {X} P Q xs count next here more so_far last number x true at within is =
    let same : number ≡ count = grind (arith, nat_tests) in
    let which : next ≡ x = some_inj (sym here ∙ (ap (slice_get xs) (sym same) ∙ is)) in
    subst (λ (place : ℕ). Q place x) (sym same) (subst (λ (one : X). Q count one) which last)
next_or_before P Q xs count next here more so_far last number x false at within is =
    let differs : number ≢ count = grind (arith, nat_tests) in
    let before : number < count = omega (arith, differs, within) in
    more number x before (so_far number x before is)

-- what holds of the elements so far, and of the next, holds of one element more
pub and_next : {X : Type 0} (P Q : ℕ → X → Type 0) (xs : List X) (count : ℕ) (next : X)
    → slice_get xs count ≡ Some next → ((number : ℕ) (x : X) → number < count → P number x → Q number x)
    → ((number : ℕ) (x : X) → number < count → slice_get xs number ≡ Some x → P number x)
    → Q count next → (number : ℕ) (x : X) → number < count + 1 → slice_get xs number ≡ Some x → Q number x
and_next P Q xs count next here more so_far last number x within is =
    next_or_before P Q xs count next here more so_far last number x (number == count) refl within is

-- the offsets of a module in the midst of others are kept
pub amid : (modules : List (List ℕ)) (old new : List ℕ) (others : List (List ℕ))
    → ((offset : ℕ) → Contains old offset → Contains new offset)
    → KeepsOffsets (modules ++ old ∷ others) (modules ++ new ∷ others)
amid [] old new others kept zero offset has = λ small. kept offset (has small)
amid [] old new others kept (suc position) offset has = has
amid (first ∷ modules) old new others kept zero offset has = has
amid (first ∷ modules) old new others kept (suc position) offset has =
    amid modules old new others kept position offset has

-- the offsets of a module are replaced by more
pub set_more : (modules : List (List ℕ)) (position : ℕ) (old new : List ℕ) → slice_get modules position ≡ Some old
    → ((offset : ℕ) → Contains old offset → Contains new offset) → KeepsOffsets modules (set modules position new)
set_more [] at old new here kept position offset has = has
set_more (first ∷ modules) zero old new here kept zero offset has =
    λ small. kept offset (subst (λ (offsets : List ℕ). Contains offsets offset) (some_inj here) (has small))
set_more (first ∷ modules) zero old new here kept (suc position) offset has = has
set_more (first ∷ modules) (suc at) old new here kept zero offset has = has
set_more (first ∷ modules) (suc at) old new here kept (suc position) offset has =
    set_more modules at old new here kept position offset has

-- the offsets that are written are those of the module there
pub set_has : (modules : List (List ℕ)) (position : ℕ) (old new : List ℕ) (offset : ℕ)
    → slice_get modules position ≡ Some old → Contains new offset
    → Contains (unwrap_or (slice_get (set modules position new) position) []) offset
set_has [] position old new offset here has = absurd (cc)
set_has (first ∷ modules) zero old new offset here has = has
set_has (first ∷ modules) (suc position) old new offset here has = set_has modules position old new offset here has

-- a stack that was served is served
pub more_stack : (old new : List (List ℕ)) (before after : List Search) (stack : Stack) → KeepsOffsets old new
    → KeepsServed before after → ServesStack old before stack → ServesStack new after stack
more_stack old new before after stack kept still served number frame is =
    more_frame old new before after frame kept still (served number frame is)

-- a job that was served is served
pub more_job : (old new : List (List ℕ)) (searches : List Search) (job : Job) → KeepsOffsets old new
    → ServesJob old searches job → ServesJob new searches job
more_job old new searches job kept served number stack is =
    more_stack old new searches searches stack kept (λ offsets frame same. same) (served number stack is)

-- what a step that succeeded did is used
pub onwards : {E : Type 0} (result : Result (Unit {0}) E) {P Q : Type 0} → (P → Q) → OnOk result P → OnOk result Q
onwards (Ok done) next fact = next fact
onwards (Err fault) next fact = tt

-- an element that was there is there before one that was added, which is the last
pub slice_get-before : {X : Type 0} (xs ys : List X) (number : ℕ) → number < length xs
    → slice_get (xs ++ ys) number ≡ slice_get xs number
slice_get-before [] ys number within = absurd (omega arith)
slice_get-before (first ∷ xs) ys zero within = refl
slice_get-before (first ∷ xs) ys (suc number) within = slice_get-before xs ys number (omega arith)

pub slice_get-last : {X : Type 0} (xs : List X) (x : X) (number : ℕ) → length xs ≡ number
    → slice_get (xs ++ x ∷ []) number ≡ Some x
slice_get-last [] x number at = rw (sym at) refl
slice_get-last (first ∷ xs) x number at = rw (sym at) (slice_get-last xs x (length xs) refl)
