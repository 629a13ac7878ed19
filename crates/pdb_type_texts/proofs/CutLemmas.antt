-- Where a text may be cut, it may be cut when more text follows.
use Rattle.std.proofs.Common.{◌≡◌, ℕ, zero, suc, true, List, [], ◌∷◌, ◌++◌, length, take, drop}
use Rattle.std.proofs.Common.{sym, ap, ◌∙◌, arith, append_assoc, length-append}
use Rattle.std.proofs.lemmas.Bool.{and_parts}
use Rattle.std.specs.Str.{IsUtf8, all_scalars}
use Rattle.std.specs.String.Boundary.{IsSplitPoint}
use Rattle.std.proofs.lemmas.List.{take-append-le, take-append-drop}
use Rattle.std.proofs.lemmas.Grind.{common_steps}
use Rattle.std.proofs.lemmas.Str.{IsCharBoundary-start, IsUtf8-string_bytes, IsUtf8-drop, encode_same, length-encode}
use Rattle.std.proofs.lemmas.Str.{len_utf8_bounds}
use Rattle.std.specs.Prelude.{String, string_bytes, encode_utf8_all}
use Rattle.pdb_type_texts.specs.Progress.{MayBeCut}

-- where a text may be cut, it may be cut with more text after it
pub split-appended : (a t : List ℕ) → IsUtf8 t → (m : ℕ) → IsSplitPoint a m → IsSplitPoint (a ++ t) m
split-appended a t u m split = (
  omega (arith, split.0, length-append a t),
  λ positive within high.
      grind (arith, common_steps, split.1 positive, (IsCharBoundary-start t u).1),
)

-- the same for places of which each is in the text before the one ahead of it
pub may_be_cut-appended : (a t : List ℕ) → IsUtf8 t → (marks : List ℕ) → MayBeCut a marks → MayBeCut (a ++ t) marks
may_be_cut-appended a t u [] cut = tt
may_be_cut-appended a t u (mark ∷ earlier) cut =
    (split-appended a t u mark cut.0, rw (take-append-le mark a t cut.0.0) cut.1)

-- what follows characters in characters is characters
behind-encoded : (cs ds t : List ℕ) → all_scalars ds ≡ true → encode_utf8_all cs ++ t ≡ encode_utf8_all ds → IsUtf8 t
behind-encoded [] ds t scalars is = (ds, (scalars, sym is))
behind-encoded (c ∷ cs) [] t scalars is =
    absurd (omega (arith, simp length-append at (ap length is), length-encode c, (len_utf8_bounds c).0))
behind-encoded (c ∷ cs) (d ∷ ds) t scalars is =
    let rest = (encode_same c d (encode_utf8_all cs ++ t) (encode_utf8_all ds) (rw append_assoc at is)).1 in
    behind-encoded cs ds t (and_parts _ _ scalars).1 rest

-- what follows text in a text is text
pub behind-utf8 : (a t : List ℕ) → IsUtf8 a → IsUtf8 (a ++ t) → IsUtf8 t
behind-utf8 a t (cs, u) (ds, v) = behind-encoded cs ds t v.0 (ap (λ x. x ++ t) u.1 ∙ sym v.1)

-- a string that had more written to it may be cut where it could be cut before
pub may_be_cut-written : {A : Type 0} (s t : String A) (more : List ℕ) → string_bytes t ≡ string_bytes s ++ more
    → (marks : List ℕ) → MayBeCut (string_bytes s) marks → MayBeCut (string_bytes t) marks
may_be_cut-written s t more is marks cut =
    let text = behind-utf8 (string_bytes s) more (IsUtf8-string_bytes s) (rw is at (IsUtf8-string_bytes t)) in
    rw is (may_be_cut-appended (string_bytes s) more text marks cut)

-- what follows a place where a text may be cut is text
drop-utf8 : (bs : List ℕ) (mark : ℕ) → IsUtf8 bs → IsSplitPoint bs mark → IsUtf8 (drop mark bs)
drop-utf8 bs zero u split = u
drop-utf8 bs (suc mark) u split = IsUtf8-drop bs (suc mark) u (split.0, split.1 (omega arith))

-- a string may be cut where what stands before one of these places may be cut
pub may_be_cut-behind : {A : Type 0} (s : String A) (mark : ℕ) (marks : List ℕ) → IsSplitPoint (string_bytes s) mark
    → MayBeCut (take mark (string_bytes s)) marks → MayBeCut (string_bytes s) marks
may_be_cut-behind s mark marks split cut =
    rw take-append-drop at (may_be_cut-appended (take mark (string_bytes s)) (drop mark (string_bytes s))
    (drop-utf8 (string_bytes s) mark (IsUtf8-string_bytes s) split) marks cut)
