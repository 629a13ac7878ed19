-- Writes one after the other, of which each is a part of a text.
use Rattle.std.proofs.Common.{◌≡◌, ◌∙◌, ap, sym, refl, subst, ℕ, List, [], ◌++◌, append_assoc, append-nil}
use Rattle.std.proofs.Common.{Option, Result, Ok, Err, take, drop, take-append-drop}
use Rattle.std.proofs.KnownBytes.{Appends-nil, Appends-trans, Appends-kept}
use Rattle.std.specs.Io.KnownBytes.{Appends, Keeps}
use Rattle.std.specs.Prelude.{IsErr}
use Rattle.pdb_symbolication.specs.Writes.{AppendsBeginning, Writes}

-- of a text all is written but what is left
pub record Goes (known after : Option (List ℕ)) (left text : List ℕ) : Type 0 where
  pub written : List ℕ
  pub whole : written ++ left ≡ text
  pub held : Appends known after written

-- at first all is left
pub goes_first : (known : Option (List ℕ)) (text : List ℕ) → Goes known known text text
goes_first known text = record { written = []; whole = refl; held = Appends-nil known }

-- what is left is written otherwise
pub goes_as : {known after : Option (List ℕ)} {left other text : List ℕ} → left ≡ other → Goes known after left text
    → Goes known after other text
goes_as {known} {after} {left} {other} {text} same goes =
    subst (λ (rest : List ℕ). Goes known after rest text) same goes

-- a part of what is left is written
pub goes_on : {known middle : Option (List ℕ)} {text : List ℕ} (after : Option (List ℕ)) (part left : List ℕ)
    → Goes known middle (part ++ left) text → Appends middle after part → Goes known after left text
goes_on {known} {middle} {text} after part left goes more = record {
  written = goes.written ++ part;
  whole = append_assoc goes.written part left ∙ goes.whole;
  held = Appends-trans known middle after goes.written part goes.held more;
}

-- what is held stays
pub goes_kept : {known middle : Option (List ℕ)} {left text : List ℕ} (after : Option (List ℕ))
    → Goes known middle left text → Keeps middle after → Goes known after left text
goes_kept {known} {middle} {left} {text} after goes same = record {
  written = goes.written;
  whole = goes.whole;
  held = Appends-kept known middle after goes.written goes.held same;
}

-- nothing is left
pub goes_last : {known after : Option (List ℕ)} {text : List ℕ} → Goes known after [] text → Appends known after text
goes_last {known} {after} {text} goes =
    subst (λ (bytes : List ℕ). Appends known after bytes) (sym (append-nil goes.written) ∙ goes.whole) goes.held

-- it ends before all is written
pub goes_no_more : {known after : Option (List ℕ)} {left text : List ℕ} → Goes known after left text
    → AppendsBeginning known after text
goes_no_more {known} {after} {left} {text} goes =
    record { written = goes.written; left = left; whole = goes.whole; held = goes.held }

-- it ends amid a part of what is left
pub goes_amid : {known middle after : Option (List ℕ)} {text : List ℕ} (part left : List ℕ)
    → Goes known middle (part ++ left) text → AppendsBeginning middle after part → AppendsBeginning known after text
goes_amid {known} {middle} {after} {text} part left goes amid =
    let joined = ap (λ (bytes : List ℕ). bytes ++ left) amid.whole in
    let inner = sym (append_assoc amid.written amid.left left) ∙ joined in
    record {
      written = goes.written ++ amid.written;
      left = amid.left ++ left;
      whole = append_assoc goes.written amid.written (amid.left ++ left)
          ∙ (ap (λ (bytes : List ℕ). goes.written ++ bytes) inner ∙ goes.whole);
      held = Appends-trans known middle after goes.written amid.written goes.held amid.held;
    }

-- the last part is written, or not whole
pub goes_end : {A E : Type 0} (result : Result A E) {known middle : Option (List ℕ)} {text : List ℕ}
    (after : Option (List ℕ)) (part : List ℕ) → Goes known middle part text → Writes middle after result part
    → Writes known after result text
goes_end (Ok done) after part goes written =
    goes_last (goes_on after part [] (goes_as (sym (append-nil part)) goes) written)
goes_end (Err fault) after part goes written = goes_amid part [] (goes_as (sym (append-nil part)) goes) written

-- bytes that are left, of which so many are written
pub goes_count : {known middle : Option (List ℕ)} {left text : List ℕ} (after : Option (List ℕ)) (count : ℕ)
    → Goes known middle left text → Appends middle after (take count left) → Goes known after (drop count left) text
goes_count {known} {middle} {left} {text} after count goes more =
    goes_on after (take count left) (drop count left) (goes_as (sym (take-append-drop count left)) goes) more

-- nothing is left, and the writer hands on what it holds back
pub goes_flushed : {A E : Type 0} (result : Result A E) {known middle : Option (List ℕ)} {text : List ℕ}
    (after : Option (List ℕ)) → Goes known middle [] text → Keeps middle after → Writes known after result text
goes_flushed (Ok done) after goes same = goes_last (goes_kept after goes same)
goes_flushed (Err fault) after goes same = goes_no_more (goes_kept after goes same)

-- a call that failed amid a text
pub fails_amid : {A E : Type 0} (result : Result A E) {known after : Option (List ℕ)} {text : List ℕ} → IsErr result
    → AppendsBeginning known after text → Writes known after result text
fails_amid (Ok done) failed amid = absurd (cc)
fails_amid (Err fault) failed amid = amid
