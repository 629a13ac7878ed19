-- Worked examples of the info stream and of the string table, by bytes written by hand.
use Rattle.std.proofs.Common.{◌≡◌, ℕ, List, [], ◌∷◌, ◌++◌, refl, Ok, Err, true, false}
use Rattle.std.specs.Prelude.{codes}
use Rattle.std.proofs.Math.ListN.{replicate}
use Rattle.pdb_msf.specs.declared.faults.TheConstants.{CUT, NO_STREAM, UNKNOWN_VERSION}
use Rattle.pdb_container.specs.Info.{features, features_in, named_stream_number, named_stream, version}
use Rattle.pdb_msf.specs.ItemLists.{all_items}
use Rattle.pdb_container.specs.NameStream.{string_table_in}

-- a number below 256, as four bytes
abbrev small : ℕ → List ℕ
small number = number ∷ 0 ∷ 0 ∷ 0 ∷ []

-- the name of the string table, and another one, each with its zero
abbrev names_name : List ℕ
names_name = codes "/names" ++ 0 ∷ []

abbrev link_name : List ℕ
link_name = codes "/LinkInfo" ++ 0 ∷ []

-- an info stream of the version 20000404 that names the stream 7 `/names`, and lists these features
abbrev info_with : List ℕ → List ℕ
info_with listed =
    148 ∷ 46 ∷ 49 ∷ 1 ∷ [] ++ replicate 24 0 ++ small 7 ++ names_name ++ small 1 ++ small 2 ++ small 1 ++ small 2
    ++ small 0 ++ small 0 ++ small 7 ++ listed

its_version : version (Ok (info_with [])) ≡ 20000404
its_version = refl

the_name : named_stream names_name (Ok (info_with [])) ≡ Ok 7
unfolding named_stream_number
the_name = refl

another_name : named_stream link_name (Ok (info_with [])) ≡ Err NO_STREAM
unfolding named_stream_number
another_name = refl

cut_before_the_pairs : named_stream names_name (Ok (small 0)) ≡ Err CUT
unfolding named_stream_number
cut_before_the_pairs = refl

-- the numbers of the features: 20091201, 20140508, and the letters MINI
abbrev first_with_ids : List ℕ
first_with_ids = 65 ∷ 145 ∷ 50 ∷ 1 ∷ []

abbrev has_ids : List ℕ
has_ids = 220 ∷ 81 ∷ 51 ∷ 1 ∷ []

abbrev mini : List ℕ
mini = codes "MINI"

nothing_listed : features (Ok (info_with [])) ≡ record { ids = false; names_only = false }
unfolding features_in
nothing_listed = refl

ids_listed : features (Ok (info_with has_ids)) ≡ record { ids = true; names_only = false }
unfolding features_in
ids_listed = refl

names_listed : features (Ok (info_with mini)) ≡ record { ids = false; names_only = true }
unfolding features_in
names_listed = refl

both_listed : features (Ok (info_with (has_ids ++ mini))) ≡ record { ids = true; names_only = true }
unfolding features_in
both_listed = refl

-- after 20091201 nothing is listed
ended_by : features (Ok (info_with (first_with_ids ++ mini))) ≡ record { ids = true; names_only = false }
unfolding features_in
ended_by = refl

-- a string table of an empty text and `ab`, with the version 1 of its hashes
abbrev two_texts : List ℕ
two_texts = 254 ∷ 239 ∷ 254 ∷ 239 ∷ [] ++ small 1 ++ small 4 ++ 0 ∷ [] ++ codes "ab" ++ 0 ∷ []

its_texts : string_table_in two_texts
    ≡ Ok ((record { 0 = 0 }, []) ∷ (record { 0 = 1 }, codes "ab") ∷ [])
unfolding string_table_in all_items
its_texts = refl

-- the last text has no zero after it
cut_text : string_table_in (254 ∷ 239 ∷ 254 ∷ 239 ∷ [] ++ small 1 ++ small 2 ++ codes "ab") ≡ Err CUT
unfolding string_table_in all_items
cut_text = refl

another_signature : string_table_in (small 1 ++ small 1 ++ small 0) ≡ Err UNKNOWN_VERSION
unfolding string_table_in
another_signature = refl
