use Rattle.std.proofs.Common.{◌≡◌, ◌<◌, ◌++◌, length, string_bytes}
use Rattle.wide_text.specs.ParamWords.{items_text, list_text}
use Rattle.wide_text.proofs.param_words.write_list.Given as goal

abbrev pub invariant-loop-rest : goal.invariant-loop-rest
invariant-loop-rest l = record {
  way : string_bytes l.text ++ items_text (length l.rest) l.kind l.mark l.rest ≡ string_bytes l.initial.text ++ list_text l.kind l.octets;
  ascii : l.mark < 128;
}

abbrev pub decreases-loop-rest : goal.decreases-loop-rest
decreases-loop-rest l = length l.rest
