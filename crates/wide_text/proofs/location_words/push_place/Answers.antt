use Rattle.std.proofs.Common.{◌≡◌, ◌++◌, ◌∷◌, [], ap, map, codes, get_or, List, ℕ, String, Global, ◌∙◌}
use Rattle.wide_text.specs.LocationWords.{altitude_text, angle_words, number_at, place_words, size_text}
use Rattle.wide_text.specs.Private.{plain_word}
use Rattle.wide_text.proofs.FieldLemmas.{on_ok_weaker}
use Rattle.wide_text.proofs.LocationLemmas.{put_six}
use Rattle.wide_text.proofs.location_words.push_place.Goals as goal
use Rattle.zone_lexing.specs.Word.{Written}
use Rattle.zone_lexing.specs.Word.Written.{Plain}

abbrev seen : List (String Global) → List Written
seen words = map plain_word words

pub returns : goal.returns
returns c =
    let octets = c.args.octets.now in
    let old = seen c.args.words.now.items in
    let first = seen c.push_angle.new.words.items in
    let second = seen c.push_angle-2.new.words.items in
    let third = seen c.push_text.new.words.items in
    let fourth = seen c.push_text-2.new.words.items in
    let fifth = seen c.push_text-3.new.words.items in
    let sixth = seen c.push_text-4.new.words.items in
    let north = angle_words (codes "N") (codes "S") (number_at 4 octets) in
    let east = angle_words (codes "E") (codes "W") (number_at 8 octets) in
    let with : List Written → List ℕ → List Written = λ words text. words ++ Plain text ∷ [] in
    on_ok_weaker c.push_text-4.result (sixth ≡ fifth ++ plain_word c.in_ok-size_text-3.field-0 ∷ []) (sixth ≡ old ++ place_words octets)
    (λ last.
    put_six old north east (Plain (altitude_text (number_at 12 octets)) ∷ []) (Plain (size_text (get_or octets 1 0)) ∷ []) (Plain (size_text (get_or octets 2 0)) ∷ []) (Plain (size_text (get_or octets 3 0)) ∷ [])
    first second third fourth fifth sixth
    (c.in_ok-push_angle.ensures ∙ ap (λ (n : ℕ). old ++ angle_words (codes "N") (codes "S") n) c.number_of.ensures)
    (c.in_ok-push_angle-2.ensures ∙ ap (λ (n : ℕ). first ++ angle_words (codes "E") (codes "W") n) c.number_of-2.ensures)
    (c.in_ok-push_text.ensures ∙ ap (with second) (c.in_ok-altitude_text.ensures ∙ ap altitude_text c.number_of-3.ensures))
    (c.in_ok-push_text-2.ensures ∙ ap (with third) c.in_ok-size_text.ensures)
    (c.in_ok-push_text-3.ensures ∙ ap (with fourth) c.in_ok-size_text-2.ensures)
    (last ∙ ap (with fifth) c.in_ok-size_text-3.ensures))
    c.push_text-4.ensures
