use Rattle.std.proofs.Common.{ap, inl, inr}
use Rattle.pdb_records.specs.Records.{Records}
use Rattle.pdb_addr2line.specs.ContextInputs.{ContextInputs}
use Rattle.pdb_addr2line.specs.Lookups.{function_at, frames_at, blamed_at, failed_after, failed_after_frames}
use Rattle.pdb_addr2line.specs.NamedFunctions.{symbol_name_at}
use Rattle.pdb_known.specs.Known.{infos_of}
use Rattle.pdb_known.proofs.AnswerLemmas.{function_at_same, symbol_name_at_same, frames_at_same, blamed_at_same}
use Rattle.pdb_known.proofs.FailedLemmas.{failed_after_same, failed_after_frames_same}
use Rattle.pdb_known.proofs.KnownLemmas.{same_or_known}
use Rattle.pdb_known.proofs.known_answers.what_is_known_answers_as_all.Goals as goal

pub returns : goal.returns
returns c = record {
  functions = λ flags known whole part inputs address is_part closed part_is inputs_is has.
      elim (same_or_known flags known whole part inputs address is_part closed part_is inputs_is has) [
        | inl same ↦ ap (λ (i : ContextInputs Records). function_at infos_of i address) same
        | inr at_address ↦ function_at_same infos_of part inputs address at_address
      ];
  names = λ flags known whole part inputs address is_part closed part_is inputs_is has.
      elim (same_or_known flags known whole part inputs address is_part closed part_is inputs_is has) [
        | inl same ↦ ap (λ (i : ContextInputs Records). symbol_name_at infos_of i address) same
        | inr at_address ↦ symbol_name_at_same infos_of part inputs address at_address
      ];
  frames = λ flags known whole part inputs address is_part closed part_is inputs_is has.
      elim (same_or_known flags known whole part inputs address is_part closed part_is inputs_is has) [
        | inl same ↦ ap (λ (i : ContextInputs Records). frames_at infos_of i address) same
        | inr at_address ↦ frames_at_same infos_of part inputs address at_address
      ];
  blame = λ flags known whole part inputs address is_part closed part_is inputs_is has.
      elim (same_or_known flags known whole part inputs address is_part closed part_is inputs_is has) [
        | inl same ↦ ap (λ (i : ContextInputs Records). blamed_at infos_of i address) same
        | inr at_address ↦ blamed_at_same infos_of part inputs address at_address
      ];
  failed = λ flags known whole part inputs address is_part closed part_is inputs_is has failed.
      elim (same_or_known flags known whole part inputs address is_part closed part_is inputs_is has) [
        | inl same ↦ ap (λ (i : ContextInputs Records). failed_after infos_of i address failed) same
        | inr at_address ↦ failed_after_same infos_of part inputs address at_address failed
      ];
  failed_by_frames = λ flags known whole part inputs address is_part closed part_is inputs_is has failed.
      elim (same_or_known flags known whole part inputs address is_part closed part_is inputs_is has) [
        | inl same ↦ ap (λ (i : ContextInputs Records). failed_after_frames infos_of i address failed) same
        | inr at_address ↦ failed_after_frames_same infos_of part inputs address at_address failed
      ];
}
