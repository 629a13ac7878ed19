-- Print inputs that agree, where a part of the records has the entries of the whole.
use Rattle.std.proofs.Common.{◌≡◌, ◌∙◌, ℕ, Bool, true, false, cond, Option, Some, None, Ok, Err, Result}
use Rattle.std.proofs.Common.{refl, ap, sym, subst}
use Rattle.std.specs.Prelude.{option_and_then}
use Rattle.pdb_records.specs.Readings.{Read}
use Rattle.pdb_records.specs.declared.types.Item.{Item}
use Rattle.pdb_records.specs.declared.types.TypeIndex.{TypeIndex}
use Rattle.pdb_records.specs.declared.types.TypeData.{TypeData}
use Rattle.pdb_records.specs.declared.ids.IdIndex.{IdIndex}
use Rattle.pdb_records.specs.declared.ids.IdData.{IdData}
use Rattle.pdb_errors.specs.Outcomes.{and_then}
use Rattle.pdb_records.specs.Provided.{ProviderInfos}
use Rattle.pdb_types.specs.ForwardReferences.{Aggregate, aggregate, size_behind, forward_size}
use Rattle.pdb_types.specs.ItemReading.{entry, reading}
use Rattle.pdb_types.specs.ReadError.{ReadErrorView}
use Rattle.pdb_types.specs.Resolution.{resolved}
use Rattle.pdb_types.specs.SizeLaws.{Leads}
use Rattle.pdb_types.specs.Sizes.{underneath}
use Rattle.pdb_types.specs.TypeInputs.{TypeInputs, LinkInputs, link_inputs}
use Rattle.pdb_types.specs.TypeSizes.{read_type, size_elsewhere, step, step_after, step_from, type_size}
use Rattle.pdb_types.proofs.ForwardLemmas.{forward_size-read}
use Rattle.pdb_type_texts.specs.PrintInputs.{type_at, id_at, formatter_inputs}
use Rattle.pdb_part_laws.specs.Asked.{Indices, AgreeAt, IsClosedAt, AreTypesIn, alone}
use Rattle.pdb_part_laws.specs.Chains.{AgreeOn, IsClosed}
use Rattle.pdb_part_laws.proofs.ChainLemmas.{sizes_agree}
use Rattle.pdb_known.specs.SameEntries.{IsSameEntry, HasSameEntries, IsClosedFor}
use Rattle.pdb_known.proofs.ReadingLemmas.{reading_same, reading_read, IsReadAs}

-- the type of an index
type_same : (link : LinkInputs) (types : Read (Item TypeIndex TypeData)) (other_link : LinkInputs)
    (others : Read (Item TypeIndex TypeData)) (module_index index : ℕ)
    → IsSameEntry (λ i. i.0) link types other_link others module_index index
    → type_at link types module_index index ≡ type_at other_link others module_index index
unfolding type_at
type_same link types other_link others module_index index same =
    ap (λ (r : Result (ℕ × TypeData) ReadErrorView). and_then r (λ read. Ok read.1))
    (reading_same (λ i. i.0) link types other_link others module_index index same)

-- the id of an index
id_same : (link : LinkInputs) (ids : Read (Item IdIndex IdData)) (other_link : LinkInputs)
    (others : Read (Item IdIndex IdData)) (module_index index : ℕ)
    → IsSameEntry (λ i. i.0) link ids other_link others module_index index
    → id_at link ids module_index index ≡ id_at other_link others module_index index
unfolding id_at
id_same link ids other_link others module_index index same =
    ap (λ (r : Result (ℕ × IdData) ReadErrorView). and_then r (λ read. Ok read.1))
    (reading_same (λ i. i.0) link ids other_link others module_index index same)

-- the size of a forward reference's definition after an entry that both have
elsewhere_same : (types others : Read (Item TypeIndex TypeData)) (number : ℕ) (content : TypeData)
    → entry (λ i. i.0) types number ≡ Ok content → entry (λ i. i.0) others number ≡ Ok content
    → forward_size number types.items ≡ forward_size number others.items
    → option_and_then (size_elsewhere number types.items) (aggregate content)
    ≡ option_and_then (size_elsewhere number others.items) (aggregate content)
elsewhere_same types others number content here there sizes = by_aggregate (aggregate content) refl where
  by_test : (a : Aggregate) → aggregate content ≡ Some a → (t : Bool) → a.forward_reference ≡ t
      → cond t (size_behind number a.name types.items) None ≡ cond t (size_behind number a.name others.items) None
  by_test a is true refers =
      sym (forward_size-read types number content a here is refers)
      ∙ sizes
      ∙ forward_size-read others number content a there is refers
  by_test a is false refers = refl

  by_aggregate : (a : Option Aggregate) → aggregate content ≡ a
      → option_and_then (size_elsewhere number types.items) a ≡ option_and_then (size_elsewhere number others.items) a
  by_aggregate None is = refl
  by_aggregate (Some a) is = by_test a is a.forward_reference refl

-- what follows an index in a chain
step_same : (link : LinkInputs) (types : Read (Item TypeIndex TypeData)) (other_link : LinkInputs)
    (others : Read (Item TypeIndex TypeData)) (pointer module_index index : ℕ)
    → IsSameEntry (λ i. i.0) link types other_link others module_index index
    → ((number : ℕ) → resolved link module_index index ≡ Ok number
    → forward_size number types.items ≡ forward_size number others.items)
    → step link types pointer module_index index ≡ step other_link others pointer module_index index
step_same link types other_link others pointer module_index index same definitions =
    by_read (read_type link types module_index index) refl
    ∙ ap (step_after pointer others.items)
    (reading_same (λ i. i.0) link types other_link others module_index index same)
  where
    by_underneath : (number : ℕ) (content : TypeData)
        → option_and_then (size_elsewhere number types.items) (aggregate content)
        ≡ option_and_then (size_elsewhere number others.items) (aggregate content) → (next : Option TypeIndex)
        → step_from pointer types.items (number, content) next ≡ step_from pointer others.items (number, content) next
    by_underneath number content size None =
        rw size refl
    by_underneath number content size (Some next) = refl

    by_read : (read : Result (ℕ × TypeData) ReadErrorView) → read_type link types module_index index ≡ read
        → step_after pointer types.items read ≡ step_after pointer others.items read
    by_read (Err error) is = refl
    by_read (Ok (number, content)) is =
        let was : IsReadAs (λ i. i.0) link types module_index index number content =
        reading_read (λ i. i.0) link types module_index index number content is in
        by_underneath number content (elsewhere_same types others number content was.has
        (sym (same.has number was.stands_for) ∙ was.has) (definitions number was.stands_for)) (underneath content)

-- an index that a chain goes on to
next_in : (is_in : ℕ → Bool) (link : LinkInputs) (types : Read (Item TypeIndex TypeData))
    (pointer module_index index further : ℕ)
    → ((number : ℕ) (content : TypeData) → resolved link module_index index ≡ Ok number
    → entry (λ i. i.0) types number ≡ Ok content → AreTypesIn is_in (alone (underneath content)))
    → Leads (step link types pointer module_index) 1 index further → is_in further ≡ true
next_in is_in link types pointer module_index index further asks =
    by_read (read_type link types module_index index) refl where
      by_underneath : (number : ℕ) (content : TypeData) (next : Option TypeIndex) → AreTypesIn is_in (alone next)
          → Leads (λ i. step_from pointer types.items (number, content) next) 1 index further → is_in further ≡ true
      by_underneath number content None asked (to, goes_on, ends) = cc
      by_underneath number content (Some next) asked (to, goes_on, ends) =
          let same : next ≡ to = cc in
          subst (λ (n : ℕ). is_in n ≡ true) (ap (λ (t : TypeIndex). t.0) same ∙ ends) asked.0

      by_read : (read : Result (ℕ × TypeData) ReadErrorView) → read_type link types module_index index ≡ read
          → Leads (λ i. step_after pointer types.items read) 1 index further → is_in further ≡ true
      by_read (Err error) is (to, goes_on, ends) = cc
      by_read (Ok (number, content)) is leads =
          let was : IsReadAs (λ i. i.0) link types module_index index number content =
          reading_read (λ i. i.0) link types module_index index number content is in
          by_underneath number content (underneath content) (asks number content was.stands_for was.has) leads

-- the print inputs agree
pub inputs_agree : {P : Type 0} (at : Indices) (info : P → ProviderInfos) (part whole : TypeInputs P)
    (module_index : ℕ) → HasSameEntries at info part whole module_index → IsClosedFor at info part module_index
    → AgreeAt at (formatter_inputs info part module_index) (formatter_inputs info whole module_index)
inputs_agree at info part whole module_index same closed = record {
  flags = same.flags;
  types = λ index is. type_same (link_inputs info part) part.types (link_inputs info whole) whole.types module_index
      index (same.types index is);
  sizes = λ index is. sizes_agree (link_inputs info part) (link_inputs info whole) part.types whole.types
      part.pointer_size module_index at.sizes agrees stays index is
      ∙ ap (λ pointer. type_size (link_inputs info whole) whole.types pointer module_index index) same.pointer_size;
  ids = λ index is. id_same (link_inputs info part) part.ids (link_inputs info whole) whole.ids module_index
      index (same.ids index is);
}
  where
    agrees : AgreeOn at.sizes (link_inputs info part) part.types (link_inputs info whole) whole.types part.pointer_size
        module_index
    agrees index is = step_same (link_inputs info part) part.types (link_inputs info whole) whole.types
        part.pointer_size module_index index (same.sizes index is) (λ number. same.definitions index number is)

    stays : IsClosed at.sizes (link_inputs info part) part.types part.pointer_size module_index
    stays index further is leads =
        next_in at.sizes (link_inputs info part) part.types part.pointer_size module_index index further
        (λ number content. closed.sizes index number content is) leads

-- a type that was read
type_read : (link : LinkInputs) (types : Read (Item TypeIndex TypeData)) (module_index index : ℕ) (content : TypeData)
    → type_at link types module_index index ≡ Ok content
    → (number : ℕ) × IsReadAs (λ i. i.0) link types module_index index number content
unfolding type_at
type_read link types module_index index content =
    by_read (read_type link types module_index index) refl where
      by_read : (read : Result (ℕ × TypeData) ReadErrorView) → read_type link types module_index index ≡ read
          → and_then read (λ r. Ok r.1) ≡ Ok content
          → (number : ℕ) × IsReadAs (λ i. i.0) link types module_index index number content
      by_read (Err error) is e = cc
      by_read (Ok (number, c)) is e =
          let same : c ≡ content = cc in
          (number, reading_read (λ i. i.0) link types module_index index number content (rw (← same) is))

-- an id that was read
id_read : (link : LinkInputs) (ids : Read (Item IdIndex IdData)) (module_index index : ℕ) (content : IdData)
    → id_at link ids module_index index ≡ Ok content
    → (number : ℕ) × IsReadAs (λ i. i.0) link ids module_index index number content
unfolding id_at
id_read link ids module_index index content =
    by_read (reading (λ i. i.0) link ids module_index index) refl where
      by_read : (read : Result (ℕ × IdData) ReadErrorView) → reading (λ i. i.0) link ids module_index index ≡ read
          → and_then read (λ r. Ok r.1) ≡ Ok content
          → (number : ℕ) × IsReadAs (λ i. i.0) link ids module_index index number content
      by_read (Err error) is e = cc
      by_read (Ok (number, c)) is e =
          let same : c ≡ content = cc in
          (number, reading_read (λ i. i.0) link ids module_index index number content (rw (← same) is))

-- and the print inputs over the part lead to no index outside the sets
pub inputs_closed : {P : Type 0} (at : Indices) (info : P → ProviderInfos) (part : TypeInputs P)
    (module_index : ℕ) → IsClosedFor at info part module_index
    → IsClosedAt at (formatter_inputs info part module_index)
inputs_closed at info part module_index closed = record {
  types = λ index content is read.
      let (number, was) = type_read (link_inputs info part) part.types module_index index content read in
      closed.types index number content is was.stands_for was.has;
  ids = λ index content is read.
      let (number, was) = id_read (link_inputs info part) part.ids module_index index content read in
      closed.ids index number content is was.stands_for was.has;
}
