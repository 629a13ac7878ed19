-- Names after which one more stands.
use Rattle.std.proofs.Common.{◌≡◌, ◌∙◌, ◌<◌, ◌+◌, ℕ, zero, suc, Bool, true, false, cond, List, [], ◌∷◌, ◌++◌, length}
use Rattle.std.proofs.Common.{slice_get, get_or, drop, Option, Some, refl, sym, ap, arith, add-one, append_assoc, drop-cons}
use Rattle.std.specs.Prelude.{String, map, string_bytes}
use Rattle.std.specs.BTreeMap.{BTreeMap, get_by_text}
use Rattle.std.specs.Bool.{Decides}
use Rattle.std.specs.Str.{bytes_eq}
use Rattle.std.proofs.lemmas.Option.{slice_get-get_or, slice_get_within}
use Rattle.std.proofs.lemmas.Slice.Eq.{bytes_eq-Decides}
use Rattle.pdb_breakpad.specs.NameRecords.{name_record, name_records}
use Rattle.pdb_breakpad.specs.RecordNumbers.{KeepsNames, KnowsNumbers}

-- the names before it keep their numbers
pub keeps_pushed : (names more : List (List ℕ)) → KeepsNames names (names ++ more)
keeps_pushed [] more number name is = cc
keeps_pushed (first ∷ names) more zero name is = is
keeps_pushed (first ∷ names) more (suc number) name is = keeps_pushed names more number name is

-- the next number is its own
pub next_is_pushed : (names : List (List ℕ)) (name : List ℕ)
    → slice_get (names ++ name ∷ []) (length names) ≡ Some name
next_is_pushed [] name = refl
next_is_pushed (first ∷ names) name = next_is_pushed names name

-- the next number is that of the name that was put
pub numbered_last : (names : List (List ℕ)) (name : List ℕ) (next : ℕ) → next ≡ length names
    → slice_get (names ++ name ∷ []) next ≡ Some name
numbered_last names name next count = ap (slice_get (names ++ name ∷ [])) count ∙ next_is_pushed names name

-- a table still has the numbers, with one more name that it doesn't know
pub knows_pushed : {Y : Type 0} (numbers : BTreeMap (String Y) ℕ) (names more : List (List ℕ))
    → KnowsNumbers numbers names → KnowsNumbers numbers (names ++ more)
knows_pushed numbers names more knows name number is = keeps_pushed names more number name (knows name number is)

-- what is asked for is the name that was put, with the next number, or one from before
put_or_before : (same : Bool) (names : List (List ℕ)) (name asked : List ℕ) (next number : ℕ) (before : Option ℕ)
    → Decides same (name ≡ asked) → slice_get names next ≡ Some name
    → (before ≡ Some number → slice_get names number ≡ Some asked)
    → cond same (Some next) before ≡ Some number → slice_get names number ≡ Some asked
put_or_before true names name asked next number before equal at known is =
    let found : next ≡ number = cc in
    sym (ap (slice_get names) found) ∙ at ∙ ap Some (equal.0 refl)
put_or_before false names name asked next number before other at known is = known is

-- a table in which a name was put with the next number has the numbers of all names and of this one
pub knows_put : {Y : Type 0} (old new : BTreeMap (String Y) ℕ) (names : List (List ℕ)) (name : List ℕ) (next : ℕ)
    → KnowsNumbers old names → next ≡ length names
    → ((asked : List ℕ) → get_by_text new asked ≡ cond (bytes_eq name asked) (Some next) (get_by_text old asked))
    → KnowsNumbers new (names ++ name ∷ [])
knows_put old new names name next knows count put asked number is =
    let at : slice_get (names ++ name ∷ []) next ≡ Some name = numbered_last names name next count in
    put_or_before (bytes_eq name asked) (names ++ name ∷ []) name asked next number (get_by_text old asked)
    (bytes_eq-Decides name asked) at (knows_pushed old names (name ∷ []) knows asked number) (sym (put asked) ∙ is)

-- what is known of a table in which a name is put
pub ruleset numbered = (keeps_pushed, numbered_last, knows_pushed, knows_put)

-- what is written, and the records of the names that are left, are all once the record of the next name is written
pub one_name_more : (start : List ℕ) (number : ℕ) (names : List (List ℕ)) (name text more all : List ℕ)
    → number < length names → get_or names number [] ≡ name → more ≡ text ++ name_record start number name
    → text ++ name_records start number (drop number names) ≡ all
    → more ++ name_records start (number + 1) (drop (number + 1) names) ≡ all
one_name_more start number names name text more all below is pushed before =
    let next : drop number names ≡ name ∷ drop (number + 1) names
    = rw (add-one, drop-cons names number [] below) (ap (λ first. first ∷ drop (suc number) names) is) in
    ap (λ written. written ++ name_records start (number + 1) (drop (number + 1) names)) pushed
    ∙ append_assoc text (name_record start number name) (name_records start (number + 1) (drop (number + 1) names))
    ∙ ap (λ rest. text ++ name_records start number rest) (sym next) ∙ before

-- the name at a position of some texts, by the text that stands there
pub name_at : {Y : Type 0} (names : List (String Y)) (number : ℕ) (known : String Y) (name : List ℕ)
    → slice_get names number ≡ Some known → string_bytes known ≡ name
    → slice_get (map string_bytes names) number ≡ Some name
name_at [] number known name there is = absurd (cc)
name_at (first ∷ names) zero known name there is =
    let same : first ≡ known = cc in ap Some (ap string_bytes same ∙ is)
name_at (first ∷ names) (suc number) known name there is = name_at names number known name there is
