-- A zone's text in words (RFC 1035, 5.1).
use Rattle.std.specs.Prelude.{ℕ, List, [], ◌∷◌, ◌++◌, codes, decimal}
use Rattle.dns_name.specs.Text.{text_of}
use Rattle.dns_rdata.specs.Record.{Record}
use Rattle.master_file.specs.ZoneText.{record_in}
use Rattle.master_file.specs.declared.record_entry.RecordEntry.{RecordEntry}
use Rattle.record_text.specs.Text.{text_of_words}
use Rattle.wide_text.specs.Words.{wide_type_word, wide_words}

-- a record's line in words: its owner, its TTL in decimal, the class, the type and the data, a space between, and an LF
abbrev pub words_line : Record → List ℕ
words_line r =
    text_of r.owner ++ 32 ∷ decimal r.ttl ++ 32 ∷ codes "IN" ++ 32 ∷ wide_type_word r.rtype ++ text_of_words (wide_words r.rtype r.rdata) ++ 10 ∷ []

-- records in words, a line each
abbrev pub words_text : List RecordEntry → List ℕ
words_text [] = []
words_text (rr ∷ rrs) = words_line (record_in rr) ++ words_text rrs
