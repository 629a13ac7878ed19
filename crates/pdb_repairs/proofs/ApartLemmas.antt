-- Where no claims of two modules overlap, each byte of a claim counts for its module.
use Rattle.std.proofs.Common.{◌≡◌, ◌∙◌, ℕ, suc, ◌+◌, ◌<◌, ◌≤◌, ◌⊎◌, inl, inr, Bool, true, false, cond, List, [], ◌∷◌}
use Rattle.std.proofs.Common.{fold, Option, Some, None, length, refl, sym, ap, subst, arith}
use Rattle.std.specs.Prelude.{◌&&◌, ◌||◌, ◌==◌, nat_lt, not, count_by}
use Rattle.std.specs.List.{AllByRecursion, filter, filter_map, list_all, list_any, cons_option}
use Rattle.std.proofs.lemmas.Bool.Decides.{nat_tests}
use Rattle.std.proofs.lemmas.Cmp.{nat_cmp_total}
use Rattle.std.proofs.lemmas.List.Sorted.{ranks_by}
use Rattle.std.proofs.lemmas.List.Sums.{length-filter}
use Rattle.pdb_records.specs.declared.addresses.ImageSectionHeader.{ImageSectionHeader}
use Rattle.pdb_records.specs.declared.debug_information.SectionContribution.{SectionContribution}
use Rattle.pdb_tables.specs.InOrder.{in_order, put}
use Rattle.pdb_tables.proofs.NumberLemmas.{cases_lt, less_test}
use Rattle.pdb_tables.proofs.SortLemmas.{Rises, rises_in_order}
use Rattle.pdb_repairs.specs.Claims.{claim_of, claims_of, counts, greater_over, has_byte, is_greater, is_retained}
use Rattle.pdb_repairs.specs.Claims.{is_same_module, owner, owns, owns_all, size_of}
use Rattle.pdb_repairs.specs.Overlaps.{is_earlier, may_lose, overlaps}
use Rattle.pdb_repairs.specs.declared.claims.Claim.{Claim}
use Rattle.pdb_repairs.proofs.IntervalLemmas.{same_itself}
use Rattle.pdb_repairs.proofs.OwnerLemmas.{module_index_of}
use Rattle.pdb_repairs.proofs.OwnsLemmas.{all_in_range}

-- two claims that have a byte in common are of one module
pub record Agree (a b : Claim) : Type 0 where
  pub same : (byte : ℕ) → has_byte byte a ≡ true → has_byte byte b ≡ true → a.module_index ≡ b.module_index

-- a byte of a claim lies from its start up to its end
pub byte_within : (byte : ℕ) (c : Claim) → has_byte byte c ≡ true → (c.start ≤ byte) × (byte < c.end)
byte_within byte c has = (grind (arith, nat_tests), grind (arith, nat_tests))

-- what is known of a claim that doesn't overlap: it is of the module that reaches past its start, and the others don't
-- overlap
pub record Passed (reach module_index : ℕ) (c : Claim) (cs : List Claim) : Type 0 where
  pub same : c.start < reach → c.module_index ≡ module_index
  pub rest : ((reach < c.end) × (overlaps c.end c.module_index cs ≡ false))
      ⊎ ((c.end ≤ reach) × (overlaps reach module_index cs ≡ false))

passed : (reach module_index : ℕ) (c : Claim) (cs : List Claim)
    → overlaps reach module_index (c ∷ cs) ≡ false → Passed reach module_index c cs
passed reach m c cs none = by_start (cases_lt c.start reach) (c.module_index == m) refl where
  Rest : Type 0
  Rest = ((reach < c.end) × (overlaps c.end c.module_index cs ≡ false))
      ⊎ ((c.end ≤ reach) × (overlaps reach m cs ≡ false))

  next : Bool → Bool
  next b = cond b (overlaps c.end c.module_index cs) (overlaps reach m cs)

  by_end : ((nat_lt reach c.end ≡ true) × (reach < c.end)) ⊎ ((nat_lt reach c.end ≡ false) × (c.end ≤ reach))
      → next (nat_lt reach c.end) ≡ false → Rest
  by_end (inl past) none = inl (past.1, subst (λ b. next b ≡ false) past.0 none)
  by_end (inr within) none = inr (within.1, subst (λ b. next b ≡ false) within.0 none)

  none_at : (b t : Bool) → nat_lt c.start reach ≡ b → (c.module_index == m) ≡ t
      → (b && not t || next (nat_lt reach c.end)) ≡ false
  none_at b t under same =
      subst (λ b. (b && not t || next (nat_lt reach c.end)) ≡ false) under
      (subst (λ t. (nat_lt c.start reach && not t || next (nat_lt reach c.end)) ≡ false) same none)

  by_start : ((nat_lt c.start reach ≡ true) × (c.start < reach)) ⊎ ((nat_lt c.start reach ≡ false) × (reach ≤ c.start))
      → (t : Bool) → (c.module_index == m) ≡ t → Passed reach m c cs
  by_start (inl under) true same = record {
    same = λ _. grind (arith, nat_tests);
    rest = by_end (cases_lt reach c.end) (none_at true true under.0 same);
  }
  by_start (inl under) false other = let h = none_at true false under.0 other in absurd (cc)
  by_start (inr over) t is = record {
    same = λ under. absurd (omega (arith, over.1, under));
    rest = by_end (cases_lt reach c.end) (none_at false t over.0 is);
  }

-- what comes after a claim in order begins no earlier
starts_after : (c : Claim) (cs : List Claim) → AllByRecursion (λ y. is_earlier y c ≡ false) cs
    → AllByRecursion (λ y. c.start ≤ y.start) cs
starts_after c [] all = tt
starts_after c (d ∷ cs) all =
    let h : nat_lt d.start c.start ≡ false = sym (less_test d.start c.start) ∙ all.0 in
    (grind (arith, nat_tests), starts_after c cs all.1)

-- a claim that ends no later than the reach, and is of the module that reaches past a bound if it ends past it, agrees
-- with all claims from that bound on
agrees_after : (a : Claim) (reach module_index bound : ℕ) (cs : List Claim) → Rises is_earlier cs
    → AllByRecursion (λ y. bound ≤ y.start) cs → overlaps reach module_index cs ≡ false → a.end ≤ reach
    → (bound < a.end → a.module_index ≡ module_index) → AllByRecursion (Agree a) cs
agrees_after a reach m bound [] rises all none ends is = tt
agrees_after a reach m bound (c ∷ cs) rises all none ends is =
    let p = passed reach m c cs none in
    let begins : bound ≤ c.start = all.0 in
    let later = starts_after c cs rises.0 in (
      record {
        same = λ byte in_a in_c.
            let wa = byte_within byte a in_a in
            let wc = byte_within byte c in_c in
            is (omega (arith, wa.1, wc.0)) ∙ sym (p.same (omega (arith, wa.1, wc.0)));
      },
      elim p.rest [
        | inl past ↦
            agrees_after a c.end c.module_index c.start cs rises.1 later past.1 (omega (arith, past.0))
            (λ ends_later. is (omega (arith, ends_later)) ∙ sym (p.same (omega (arith, ends_later))))
        | inr within ↦
            agrees_after a reach m c.start cs rises.1 later within.1 ends (λ ends_later. is (omega (arith, ends_later)))
      ],
    )

-- each claim agrees with all that come after it
abbrev pub Pairs : List Claim → Type 0
Pairs [] = Unit {0}
Pairs (c ∷ cs) = AllByRecursion (Agree c) cs × Pairs cs

-- claims in order that don't overlap agree
pairs_agree : (reach module_index : ℕ) (cs : List Claim) → Rises is_earlier cs
    → overlaps reach module_index cs ≡ false → Pairs cs
pairs_agree reach m [] rises none = tt
pairs_agree reach m (c ∷ cs) rises none =
    let p = passed reach m c cs none in
    let later = starts_after c cs rises.0 in
    elim p.rest [
      | inl past ↦ (
        agrees_after c c.end c.module_index c.start cs rises.1 later past.1 (omega arith) (λ _. refl),
        pairs_agree c.end c.module_index cs rises.1 past.1,
      )
      | inr within ↦ (
        agrees_after c reach m c.start cs rises.1 later within.1 within.0
            (λ bytes. p.same (omega (arith, bytes, within.0))),
        pairs_agree reach m cs rises.1 within.1,
      )
    ]

-- two that agree do so the other way round
agree_back : (a b : Claim) → Agree a b → Agree b a
agree_back a b agree = record { same = λ byte in_b in_a. sym (agree.same byte in_a in_b) }

-- each claim agrees with one more
with_first : (c : Claim) (ds cs : List Claim) → AllByRecursion (Agree c) cs
    → AllByRecursion (λ a. AllByRecursion (Agree a) ds) cs
    → AllByRecursion (λ a. AllByRecursion (Agree a) (c ∷ ds)) cs
with_first c ds [] agree all = tt
with_first c ds (d ∷ cs) agree all =
    ((agree_back c d agree.0, all.0), with_first c ds cs agree.1 all.1)

-- each claim agrees with all
all_agree : (cs : List Claim) → Pairs cs → AllByRecursion (λ a. AllByRecursion (Agree a) cs) cs
all_agree [] pairs = tt
all_agree (c ∷ cs) pairs =
    ((record { same = λ byte _ _. refl }, pairs.0), with_first c cs cs pairs.0 (all_agree cs pairs.1))

-- what follows from what holds of each holds of each
all_weaker : {T : Type 0} (P Q : T → Type 0) (xs : List T) → ((x : T) → P x → Q x) → AllByRecursion P xs
    → AllByRecursion Q xs
all_weaker P Q [] step all = tt
all_weaker P Q (x ∷ xs) step all = (step x all.0, all_weaker P Q xs step all.1)

-- what holds of all after an element was put in holds of it and of the others
all_of_put : {T : Type 0} (before : T → T → Bool) (P : T → Type 0) (x : T) (ys : List T)
    → AllByRecursion P (put before x ys) → P x × AllByRecursion P ys
all_of_put before P x [] all = (all.0, tt)
all_of_put {T = T} before P x (y ∷ ys) all = by_test (before y x) (all_of_put before P x ys) all where
  by_test : (t : Bool) → (AllByRecursion P (put before x ys) → P x × AllByRecursion P ys)
      → AllByRecursion P (cond t (y ∷ put before x ys) (x ∷ y ∷ ys)) → P x × AllByRecursion P (y ∷ ys)
  by_test true rest all = let r = rest all.1 in (r.0, (all.0, r.1))
  by_test false rest all = all

-- what holds of all elements in order holds of all
all_of_order : {T : Type 0} (before : T → T → Bool) (P : T → Type 0) (xs : List T)
    → AllByRecursion P (in_order before xs) → AllByRecursion P xs
all_of_order before P [] all = tt
all_of_order before P (x ∷ xs) all =
    let r = all_of_put before P x (in_order before xs) all in (r.0, all_of_order before P xs r.1)

-- claims agree that don't overlap in order
claims_agree : (claims : List Claim) → overlaps 0 0 (in_order is_earlier claims) ≡ false
    → AllByRecursion (λ a. AllByRecursion (Agree a) claims) claims
claims_agree claims none =
    let sorted : List Claim = in_order is_earlier claims in
    let start : Claim → ℕ = λ claim. claim.start in
    let rises : Rises is_earlier sorted = rises_in_order (ranks_by nat_cmp_total start) claims in
    let all = all_agree sorted (pairs_agree 0 0 sorted rises none) in
    all_of_order is_earlier (λ a. AllByRecursion (Agree a) claims) claims
    (all_weaker (λ a. AllByRecursion (Agree a) sorted) (λ a. AllByRecursion (Agree a) claims) sorted
    (λ a agree. all_of_order is_earlier (Agree a) claims agree) all)

-- where all claims over a byte are of one module, as the greatest ahead is, the greatest is
stays_of_module : (byte m : ℕ) (before : Option Claim) (cs : List Claim)
    → AllByRecursion (λ w. has_byte byte w ≡ true → w.module_index ≡ m) cs → module_index_of before ≡ Some m
    → module_index_of (fold (greater_over byte) before cs) ≡ Some m
stays_of_module byte m before [] all is = is
stays_of_module byte m before (c ∷ cs) all is =
    stays_of_module byte m (greater_over byte before c) cs all.1 (by_byte (has_byte byte c) refl (is_greater before c))
  where
    by_byte : (t : Bool) → has_byte byte c ≡ t → (u : Bool)
        → module_index_of (cond (t && u) (Some c) before) ≡ Some m
    by_byte true has true = ap Some (all.0 has)
    by_byte true has false = is
    by_byte false has u = is

-- where all claims over a byte are of one module, and there is one, the byte counts for that module
owner_of_any : (byte m : ℕ) (cs : List Claim)
    → AllByRecursion (λ w. has_byte byte w ≡ true → w.module_index ≡ m) cs → list_any (has_byte byte) cs ≡ true
    → owner cs byte ≡ Some m
owner_of_any byte m [] all any = absurd (cc)
owner_of_any byte m (c ∷ cs) all any = by_byte (has_byte byte c) refl any (owner_of_any byte m cs all.1) where
  by_byte : (t : Bool) → has_byte byte c ≡ t → (t || list_any (has_byte byte) cs) ≡ true
      → (list_any (has_byte byte) cs ≡ true → module_index_of (fold (greater_over byte) None cs) ≡ Some m)
      → module_index_of (fold (greater_over byte) (cond (t && true) (Some c) None) cs) ≡ Some m
  by_byte true has any rest = stays_of_module byte m (Some c) cs all.1 (ap Some (all.0 has))
  by_byte false has any rest = rest any

-- a byte of one of the claims is a byte of any
any_of_each : (claims cs : List Claim)
    → ((byte : ℕ) → list_any (has_byte byte) cs ≡ true → list_any (has_byte byte) claims ≡ true)
    → AllByRecursion (λ c. (byte : ℕ) → has_byte byte c ≡ true → list_any (has_byte byte) claims ≡ true) cs
any_of_each claims [] within = tt
any_of_each claims (c ∷ cs) within = (
  λ byte has. within byte (ap (λ t. t || list_any (has_byte byte) cs) has),
  any_of_each claims cs (λ byte any. within byte (either (has_byte byte c) (list_any (has_byte byte) cs) any)),
)
  where
    either : (a b : Bool) → b ≡ true → (a || b) ≡ true
    either true b is = refl
    either false b is = is

-- a claim that agrees with all owns all its bytes
owns_own : (claims : List Claim) (c : Claim) → AllByRecursion (Agree c) claims
    → ((byte : ℕ) → has_byte byte c ≡ true → list_any (has_byte byte) claims ≡ true)
    → owns_all claims c ≡ true
unfolding owns_all
owns_own claims c agree any =
    all_in_range (λ x. is_same_module (owner claims x) (Some c.module_index)) c.start (size_of c) own
  where
    own : (x : ℕ) → c.start ≤ x → x < c.start + size_of c
        → is_same_module (owner claims x) (Some c.module_index) ≡ true
    own x low high =
        let below : x < c.end = omega (arith, low, high) in
        let has : has_byte x c ≡ true = grind (arith, nat_tests) in
        ap (λ o. is_same_module o (Some c.module_index))
        (owner_of_any x c.module_index claims
        (all_weaker (Agree c) (λ w. has_byte x w ≡ true → w.module_index ≡ c.module_index) claims
        (λ w one in_w. sym (one.same x has in_w)) agree) (any x has))
        ∙ same_itself (Some c.module_index)

-- claims that agree with all own all their bytes
all_own : (claims cs : List Claim) → AllByRecursion (λ a. AllByRecursion (Agree a) claims) cs
    → AllByRecursion (λ c. (byte : ℕ) → has_byte byte c ≡ true → list_any (has_byte byte) claims ≡ true) cs
    → AllByRecursion (λ c. owns_all claims c ≡ true) cs
all_own claims [] agree any = tt
all_own claims (c ∷ cs) agree any = (owns_own claims c agree.0 any.0, all_own claims cs agree.1 any.1)

-- what a list gives where it may give nothing is no longer
shorter : {A B : Type 0} (h : A → Option B) (xs : List A) → length (filter_map h xs) ≤ length xs
shorter h [] = omega arith
shorter {A = A} {B = B} h (x ∷ xs) = by_value (h x) (shorter h xs) where
  by_value : (o : Option B) → length (filter_map h xs) ≤ length xs
      → length (cons_option o (filter_map h xs)) ≤ suc (length xs)
  by_value None rest = omega (arith, rest)
  by_value (Some y) rest = omega (arith, rest)

-- of contributions that count, as many as have claims, each is kept whose claim owns all its bytes
all_kept : (sections : List ImageSectionHeader) (claims : List Claim) (cs : List SectionContribution)
    → length (filter (counts sections) cs) ≤ length (claims_of sections cs)
    → AllByRecursion (λ c. owns_all claims c ≡ true) (claims_of sections cs)
    → list_all (is_retained sections claims) cs ≡ true
all_kept sections claims [] few own = refl
all_kept sections claims (c ∷ cs) few own = by_test (counts sections c) few own (all_kept sections claims cs) where
  Few : List SectionContribution → Type 0
  Few ds = length ds ≤ length (filter_map claim_of ds)

  Own : List SectionContribution → Type 0
  Own ds = AllByRecursion (λ c. owns_all claims c ≡ true) (filter_map claim_of ds)

  Rest : Type 0
  Rest = Few (filter (counts sections) cs) → Own (filter (counts sections) cs)
      → list_all (is_retained sections claims) cs ≡ true

  by_claim : (o : Option Claim)
      → suc (length (filter (counts sections) cs)) ≤ length (cons_option o (claims_of sections cs))
      → AllByRecursion (λ c. owns_all claims c ≡ true) (cons_option o (claims_of sections cs)) → Rest
      → (owns claims o && list_all (is_retained sections claims) cs) ≡ true
  by_claim None few own rest = absurd (omega (arith, few, shorter claim_of (filter (counts sections) cs)))
  by_claim (Some k) few own rest =
      rw own.0 (rest (omega (arith, few)) own.1)

  by_test : (t : Bool) → Few (cond t (c ∷ filter (counts sections) cs) (filter (counts sections) cs))
      → Own (cond t (c ∷ filter (counts sections) cs) (filter (counts sections) cs)) → Rest
      → ((not t || owns claims (claim_of c)) && list_all (is_retained sections claims) cs) ≡ true
  by_test true few own rest = by_claim (claim_of c) few own rest
  by_test false few own rest = rest few own

-- of two tests that don't pass either the first doesn't
first_fails : (a b : Bool) → (a || b) ≡ false → a ≡ false
first_fails true b is = absurd (cc)
first_fails false b is = refl

-- of two tests that don't pass either the second doesn't
second_fails : (a b : Bool) → (a || b) ≡ false → b ≡ false
second_fails true b is = absurd (cc)
second_fails false b is = is

-- what isn't more is no more
few_from_test : (a b : ℕ) → nat_lt a b ≡ false → b ≤ a
few_from_test a b is = grind (arith, nat_tests)

-- where claims don't overlap, and each contribution that counts has one, all contributions are kept
pub nothing_is_lost : (sections : List ImageSectionHeader) (cs : List SectionContribution)
    → may_lose sections cs (claims_of sections cs) ≡ false
    → list_all (is_retained sections (claims_of sections cs)) cs ≡ true
nothing_is_lost sections cs none =
    let claims : List Claim = claims_of sections cs in
    let many : Bool = nat_lt (length claims) (count_by (counts sections) cs) in
    let apart : Bool = overlaps 0 0 (in_order is_earlier claims) in
    let few : count_by (counts sections) cs ≤ length claims =
    few_from_test (length claims) (count_by (counts sections) cs) (first_fails many apart none) in
    all_kept sections claims cs (omega (arith, few, length-filter (counts sections) cs))
    (all_own claims claims (claims_agree claims (second_fails many apart none))
    (any_of_each claims claims (λ byte any. any)))
