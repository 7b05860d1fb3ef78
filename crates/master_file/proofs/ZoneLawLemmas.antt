-- What is written of a zone is read as an entry for each record.
use Rattle.std.proofs.Common.{◌≡◌, ℕ, true, ◌==◌, List, [], ◌∷◌, ◌++◌, map, filter, flat_map, codes, decimal, All, refl, ap, ◌∙◌, arith}
use Rattle.std.proofs.lemmas.List.{append_assoc}
use Rattle.std.proofs.lemmas.List.Elements.{All-head, All-tail, All-filter, All-append}
use Rattle.dns_name.specs.Text.{text_of}
use Rattle.dns_rdata.specs.Record.{Record, IsLawful}
use Rattle.zone_tree.specs.Zone.{soa_of}
use Rattle.zone_lexing.specs.Spelling.{spell, spell_line, spell_more, are_spelt}
use Rattle.record_text.specs.Text.{words_of, text_of_words}
use Rattle.zone_lexing.specs.Word.{Written}
use Rattle.zone_lexing.specs.Word.Written.{Plain, Quoted, Unclosed}
use Rattle.record_text.specs.Mnemonics.{type_word}
use Rattle.master_file.specs.WrittenZone.{record_line, is_other, soa_first, line_words}
use Rattle.record_text.proofs.SpeltLemmas.{AreSpelt, first_spelt, name_spelt, decimal_spelt, type_spelt, words_spelt}

-- a record's line is its words with a space between
more_words : (words : List Written) → text_of_words words ++ 10 ∷ [] ≡ spell_more words
more_words [] = refl
more_words (Plain text ∷ words) = append_assoc (32 ∷ text) (text_of_words words) (10 ∷ []) ∙ ap (λ (os : List ℕ). 32 ∷ text ++ os) (more_words words)
more_words (Quoted text ∷ words) = append_assoc (32 ∷ 34 ∷ text ++ 34 ∷ []) (text_of_words words) (10 ∷ []) ∙ ap (λ (os : List ℕ). (32 ∷ 34 ∷ text ++ 34 ∷ []) ++ os) (more_words words)
more_words (Unclosed ∷ words) = ap (λ (os : List ℕ). 32 ∷ os) (more_words words)

joined : (a b i t words end : List ℕ) → a ++ b ++ i ++ t ++ words ++ end ≡ a ++ (b ++ (i ++ (t ++ (words ++ end))))
joined a b i t words end =
    append_assoc (a ++ b ++ i ++ t) words end ∙ append_assoc (a ++ b ++ i) t (words ++ end) ∙ append_assoc (a ++ b) i (t ++ (words ++ end)) ∙ append_assoc a b (i ++ (t ++ (words ++ end)))

pub line_is : (r : Record) → record_line r ≡ spell_line (line_words r)
line_is r =
    joined (text_of r.owner) (32 ∷ decimal r.ttl) (32 ∷ codes "IN") (32 ∷ type_word r.rtype) (text_of_words (words_of r.rtype r.rdata)) (10 ∷ [])
    ∙ ap (λ (os : List ℕ). text_of r.owner ++ (32 ∷ decimal r.ttl ++ (32 ∷ codes "IN" ++ (32 ∷ type_word r.rtype ++ os)))) (more_words (words_of r.rtype r.rdata))

pub lines_are : (rs : List Record) → flat_map record_line rs ≡ spell (map line_words rs)
lines_are [] = refl
lines_are (r ∷ rs) = ap (λ (os : List ℕ). os ++ flat_map record_line rs) (line_is r) ∙ ap (λ (os : List ℕ). spell_line (line_words r) ++ os) (lines_are rs)

line_spelt : (r : Record) → IsLawful r → AreSpelt (line_words r)
line_spelt r h =
    let lasts = h.lasts in
    first_spelt (Plain (text_of r.owner)) (Plain (decimal r.ttl) ∷ Plain (codes "IN") ∷ Plain (type_word r.rtype) ∷ words_of r.rtype r.rdata) (name_spelt r.owner)
    (first_spelt (Plain (decimal r.ttl)) (Plain (codes "IN") ∷ Plain (type_word r.rtype) ∷ words_of r.rtype r.rdata) (decimal_spelt r.ttl (omega arith))
    (first_spelt (Plain (codes "IN")) (Plain (type_word r.rtype) ∷ words_of r.rtype r.rdata) refl
    (first_spelt (Plain (type_word r.rtype)) (words_of r.rtype r.rdata) (type_spelt r.rtype) (words_spelt r.rtype r.rdata h.octets))))

more_spelt : (words : List Written) (lines : List (List Written)) → AreSpelt words → are_spelt lines ≡ true → are_spelt (words ∷ lines) ≡ true
more_spelt words lines e h = rw (e, h) refl

pub lines_spelt : (rs : List Record) → All IsLawful rs → are_spelt (map line_words rs) ≡ true
lines_spelt [] h = refl
lines_spelt (r ∷ rs) h = more_spelt (line_words r) (map line_words rs) (line_spelt r (All-head IsLawful r rs h)) (lines_spelt rs (All-tail IsLawful r rs h))

pub each_first : (P : Record → Type 0) (zone : List Record) → All P zone → All P (soa_first zone)
each_first P zone h = All-append P (soa_of zone) (filter is_other zone) (All-filter (λ (r : Record). r.rtype == 6) P zone h) (All-filter is_other P zone h)
