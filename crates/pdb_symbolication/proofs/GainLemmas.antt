-- Offsets that modules gain are those for which frames ask.
use Rattle.std.proofs.Common.{◌≡◌, ◌≢◌, ◌∙◌, ◌⊎◌, inl, inr, refl, ap, sym, subst, ℕ, zero, suc, List, [], ◌∷◌, ◌++◌}
use Rattle.std.proofs.Common.{◌<◌, ◌+◌, arith, length, Some, Bool, true, false}
use Rattle.std.proofs.Math.ListN.{set}
use Rattle.std.proofs.lemmas.Bool.Decides.{nat_tests}
use Rattle.std.specs.Prelude.{◌==◌, Contains}
use Rattle.std.specs.List.{slice_get}
use Rattle.pdb_symbolication.specs.WantedModules.{FrameAsks, GainsOnly, IsOffset, KeepsModules, LeadsPlace, NoMore}
use Rattle.pdb_symbolication.specs.WantedModules.{OneOfFirst, StackAsks, is_asked}
use Rattle.pdb_symbolication.specs.declared.requests.FrameModule.{FrameModule}
use Rattle.pdb_symbolication.specs.declared.requests.FrameModule.TheVariants.{Unknown, At}
use Rattle.pdb_symbolication.specs.declared.requests.Stack.{Stack}
use Rattle.pdb_symbolication.specs.declared.requests.StackFrame.{StackFrame}
use Rattle.pdb_symbolication.specs.declared.wanted_modules.Search.{Search}
use Rattle.pdb_symbolication.specs.declared.wanted_modules.Search.TheVariants.{Module}
use Rattle.pdb_symbolication.proofs.NameLemmas.{slice_get-set_same, slice_get-set_other}

pub either_way : {A B C D : Type 0} → A ⊎ B → (A → C ⊎ D) → (B → D) → C ⊎ D
either_way (inl one) first second = first one
either_way (inr other) first second = inr (second other)

some_list : {one other : List ℕ} → Some one ≡ Some other → one ≡ other
some_list {one} {other} same = cc

-- modules with one more, which has no offsets
pub no_more_fresh : (offsets : List (List ℕ)) → NoMore offsets (offsets ++ [] ∷ [])
no_more_fresh [] zero offset has = has
no_more_fresh [] (suc position) offset has = has
no_more_fresh (first ∷ offsets) zero offset has = has
no_more_fresh (first ∷ offsets) (suc position) offset has = no_more_fresh offsets position offset has

-- a module in the midst of others has no more offsets
pub no_more_amid : (modules : List (List ℕ)) (old new : List ℕ) (others : List (List ℕ))
    → ((offset : ℕ) → Contains new offset → Contains old offset)
    → NoMore (modules ++ old ∷ others) (modules ++ new ∷ others)
no_more_amid [] old new others only zero offset has = only offset has
no_more_amid [] old new others only (suc position) offset has = has
no_more_amid (first ∷ modules) old new others only zero offset has = has
no_more_amid (first ∷ modules) old new others only (suc position) offset has =
    no_more_amid modules old new others only position offset has

-- the module at a position gains at most one offset
pub set_gains : (modules : List (List ℕ)) (position : ℕ) (old new : List ℕ) (offset : ℕ)
    → slice_get modules position ≡ Some old → ((other : ℕ) → Contains new other → Contains old other ⊎ other ≡ offset)
    → GainsOnly modules (set modules position new) (λ (at one : ℕ). at ≡ position × one ≡ offset)
set_gains [] position old new offset here only at one has = absurd (cc)
set_gains (first ∷ modules) zero old new offset here only zero one has =
    either_way (only one has)
    (λ was. inl (subst (λ (offsets : List ℕ). Contains offsets one) (sym (some_list here)) was))
    (λ same. (refl, same))
set_gains (first ∷ modules) zero old new offset here only (suc at) one has = inl has
set_gains (first ∷ modules) (suc position) old new offset here only zero one has = inl has
set_gains (first ∷ modules) (suc position) old new offset here only (suc at) one has =
    either_way (set_gains modules position old new offset here only at one has) (λ was. inl was)
    (λ both. (ap suc both.0, both.1))

some_search : {one other : Search} → Some one ≡ Some other → one ≡ other
some_search {one} {other} same = cc

led_by_place : (searches : List Search) (index other position : ℕ) (before made : Search) (at : Bool)
    → (other == index) ≡ at → index < length searches → slice_get searches index ≡ Some before
    → (is_asked before ≡ true → made ≡ before) → slice_get searches other ≡ Some (Module position)
    → slice_get (set searches index made) other ≡ Some (Module position)
led_by_place searches index other position before made true at within was same led =
    let here : other ≡ index = grind (arith, nat_tests) in
    let is : before ≡ Module position = some_search (sym was ∙ (ap (slice_get searches) (sym here) ∙ led)) in
    let asked : is_asked before ≡ true = ap is_asked is in
    ap (slice_get (set searches index made)) here
    ∙ (slice_get-set_same searches index made within ∙ ap Some (same asked ∙ is))
led_by_place searches index other position before made false at within was same led =
    let differs : other ≢ index = grind (arith, nat_tests) in
    slice_get-set_other searches index other made differs ∙ led

-- a search is written where it was made already, or where none was
pub still_led_set : (searches : List Search) (index : ℕ) (before made : Search) → index < length searches
    → slice_get searches index ≡ Some before → (is_asked before ≡ true → made ≡ before)
    → KeepsModules searches (set searches index made)
still_led_set searches index before made within was same other position led =
    led_by_place searches index other position before made (other == index) refl within was same led

-- a frame asks for its offset of the module to which the search leads that is written for its entry
pub asks_set : (searches : List Search) (index position offset : ℕ) (made : Search) (frame : StackFrame)
    → index < length searches → frame.module ≡ At index → made ≡ Module position → frame.offset ≡ offset
    → FrameAsks (set searches index made) position offset frame
asks_set searches index position offset made frame within at is same = (
  same,
  subst (λ (place : FrameModule). LeadsPlace (set searches index made) position place) (sym at)
      (slice_get-set_same searches index made within ∙ ap Some is),
)

still_leads : (old new : List Search) (position : ℕ) (place : FrameModule) → KeepsModules old new
    → LeadsPlace old position place → LeadsPlace new position place
still_leads old new position Unknown kept led = led
still_leads old new position (At index) kept led = kept index position led

-- a frame asks for what it did
pub still_asks : (old new : List Search) (position offset : ℕ) (frame : StackFrame) → KeepsModules old new
    → FrameAsks old position offset frame → FrameAsks new position offset frame
still_asks old new position offset frame kept asks =
    (asks.0, still_leads old new position frame.module kept asks.1)

-- a test that one of the elements so far passes is passed by one of the elements with the next one
pub one_of_more : {X : Type 0} (Was Is : ℕ → X → Type 0) (elements : List X) (count : ℕ)
    → ((number : ℕ) (x : X) → number < count → Was number x → Is number x)
    → OneOfFirst count elements Was → OneOfFirst (count + 1) elements Is
one_of_more Was Is elements count more found =
    (found.0, found.1, omega (arith, found.2), found.3, more found.0 found.1 found.2 found.4)

-- the same, with as many elements
pub one_of_same : {X : Type 0} (Was Is : ℕ → X → Type 0) (elements : List X) (count : ℕ)
    → ((number : ℕ) (x : X) → Was number x → Is number x)
    → OneOfFirst count elements Was → OneOfFirst count elements Is
one_of_same Was Is elements count more found =
    (found.0, found.1, found.2, found.3, more found.0 found.1 found.4)

-- a stack asks for what it did
pub stack_still_asks : (old new : List Search) (position offset : ℕ) (stack : Stack) → KeepsModules old new
    → StackAsks old position offset stack → StackAsks new position offset stack
stack_still_asks old new position offset stack kept =
    one_of_same (λ (number : ℕ) (frame : StackFrame). FrameAsks old position offset frame)
    (λ (number : ℕ) (frame : StackFrame). FrameAsks new position offset frame) stack.frames.items stack.frames.len
    (λ number frame asks. still_asks old new position offset frame kept asks)

-- if the elements so far and the next one ask for all that is gained, then so do the elements with the next one
pub gains_next : {X : Type 0} (first old new : List (List ℕ)) (Was Is : ℕ → ℕ → ℕ → X → Type 0) (elements : List X)
    (count : ℕ) (next : X) → slice_get elements count ≡ Some next
    → ((position offset number : ℕ) (x : X) → number < count → Was position offset number x
    → Is position offset number x)
    → GainsOnly first old (λ (position offset : ℕ). OneOfFirst count elements (Was position offset))
    → GainsOnly old new (λ (position offset : ℕ). Is position offset count next)
    → GainsOnly first new (λ (position offset : ℕ). OneOfFirst (count + 1) elements (Is position offset))
gains_next first old new Was Is elements count next here more so_far gained position offset has =
    either_way (gained position offset has)
    (λ was. either_way (so_far position offset was) (λ at. inl at)
    (one_of_more (Was position offset) (Is position offset) elements count (more position offset)))
    (λ asks. (count, next, omega arith, here, asks))

-- where there were no modules, all their offsets are asked for
pub asked_of_none : {A : Type 0} (position offset : ℕ) → IsOffset [] position offset ⊎ A → A
asked_of_none position offset (inl has) = absurd (omega (arith, has.1))
asked_of_none position offset (inr asked) = asked
