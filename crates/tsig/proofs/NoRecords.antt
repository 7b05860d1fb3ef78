-- A message without records has no TSIG.
use Rattle.std.proofs.Common.{◌≡◌, ℕ, ◌||◌, List, Option, Some, None, option_and_then, refl, ap, ◌∙◌}
use Rattle.dns_message.specs.Message.{number_at}
use Rattle.dns_message.specs.Reads.{records_at, questions_at}
use Rattle.dns_message.specs.Tsig.{has_tsig, additional_place, place_in}
use Rattle.dns_message.specs.declared.query.Question.{Question}
use Rattle.dns_message.specs.declared.tsig.Place.{Place}
use Rattle.tsig.specs.Keys.{SharedKey}
use Rattle.tsig.specs.Verification.{by_place}
use Rattle.tsig.specs.declared.verifying.Verification.TheVariants.{Unsigned}

-- where the TSIG of a message stands, by how many records its sections have
abbrev place_by : List ℕ → ℕ → ℕ → ℕ → Option (List Question × ℕ) → Option Place
place_by msg answers authorities additional found =
    option_and_then (λ questions.
    option_and_then (λ answer.
    option_and_then (λ authority.
    additional_place msg additional authority.1 (has_tsig answer.0 || has_tsig authority.0))
    (records_at authorities msg answer.1))
    (records_at answers msg questions.1))
    found

none_by : (keys : List SharedKey) (now : ℕ) (msg : List ℕ) (found : Option (List Question × ℕ)) → by_place keys now msg (place_by msg 0 0 0 found) ≡ Unsigned
unfolding records_at has_tsig
none_by keys now msg None = refl
none_by keys now msg (Some found) = refl

pub unsigned_at_once : (keys : List SharedKey) (now : ℕ) (msg : List ℕ) → number_at msg 6 ≡ 0 → number_at msg 8 ≡ 0 → number_at msg 10 ≡ 0 → by_place keys now msg (place_in msg) ≡ Unsigned
unsigned_at_once keys now msg answers authorities additional =
    let found = questions_at (number_at msg 4) msg 12 in
    ap (λ n. by_place keys now msg (place_by msg n (number_at msg 8) (number_at msg 10) found)) answers
    ∙ ap (λ n. by_place keys now msg (place_by msg 0 n (number_at msg 10) found)) authorities
    ∙ ap (λ n. by_place keys now msg (place_by msg 0 0 n found)) additional
    ∙ none_by keys now msg found
