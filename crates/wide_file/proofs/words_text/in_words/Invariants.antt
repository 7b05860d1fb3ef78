use Rattle.std.proofs.Common.{◌≡◌, ◌++◌, [], length, string_bytes}
use Rattle.master_file.specs.Records.{records_of}
use Rattle.wide_file.specs.WordsText.{words_text}
use Rattle.wide_file.proofs.words_text.in_words.Given as goal

abbrev pub invariant-loop-words : goal.invariant-loop-words
invariant-loop-words l = record {
  words : string_bytes l.words ++ words_text l.records.rrs ≡ words_text (records_of [] l.text).rrs;
  fault : l.records.fault ≡ (records_of [] l.text).fault;
}

abbrev pub decreases-loop-words : goal.decreases-loop-words
decreases-loop-words l = length l.records.rrs
