-- The update that messages are read as is a value.
use Rattle.std.proofs.Common.{◌≡◌, ℕ, List, [], ◌∷◌, Option, None, Some, refl, ap, ◌∙◌}
use Rattle.std.specs.Prelude.{option_and_then}
use Rattle.dns_message.specs.Request.{reads}
use Rattle.dns_message.specs.declared.query.Parsed.{Parsed}
use Rattle.dns_message.specs.declared.query.Parsed.TheVariants.{Update as Says, Silent, Fault, BadOpt, Query, NoMemory}
use Rattle.dns_message.specs.declared.update.Update.{Update}
use Rattle.journal.specs.Batch.{Messages}
use Rattle.update_messages.specs.Joined.{joined, AreParts, IsRead}
use Rattle.update_batches.specs.ReadAs.{update_said, part_before, parts_in, read_as}

parts_from : (messages : Messages) (parts : List Update) → AreParts messages parts → parts_in messages ≡ Some parts
parts_from [] [] are = refl
parts_from [] (part ∷ parts) are = absurd are
parts_from (message ∷ messages) [] are = absurd are
parts_from (message ∷ messages) (part ∷ parts) are =
    ap (λ said. option_and_then (part_before (parts_in messages)) (update_said said)) are.0 ∙ ap (λ others. part_before others part) (parts_from messages parts are.1)

pub read_from : (messages : Messages) (update : Update) → IsRead messages update → read_as messages ≡ Some update
read_from messages update is = ap (λ parts. option_and_then joined parts) (parts_from messages is.parts is.are_parts) ∙ is.is

-- what is said is an update
abbrev Said : Parsed → Option Update → Type 0
Said said None = Unit {0}
Said said (Some part) = said ≡ Says part

said_is : (said : Parsed) → Said said (update_said said)
said_is (Says update) = refl
said_is Silent = tt
said_is (Fault head code) = tt
said_is (BadOpt head question code dnssec) = tt
said_is (Query query) = tt
said_is (NoMemory head) = tt

-- messages have these parts, if any
abbrev Have : Messages → Option (List Update) → Type 0
Have messages None = Unit {0}
Have messages (Some parts) = AreParts messages parts

have_before : (message : List ℕ) (messages : Messages) (said : Option Update) (others : Option (List Update)) → Said (reads message) said → Have messages others
    → Have (message ∷ messages) (option_and_then (part_before others) said)
have_before message messages None others is have = tt
have_before message messages (Some part) None is have = tt
have_before message messages (Some part) (Some parts) is have = (is, have)

parts_have : (messages : Messages) → Have messages (parts_in messages)
parts_have [] = tt
parts_have (message ∷ messages) = have_before message messages (update_said (reads message)) (parts_in messages) (said_is (reads message)) (parts_have messages)

is_read : (messages : Messages) (update : Update) (parts : Option (List Update)) → Have messages parts → option_and_then joined parts ≡ Some update → IsRead messages update
is_read messages update None have e = absurd (cc e)
is_read messages update (Some parts) have e = record { parts = parts; are_parts = have; is = e }

pub read_is : (messages : Messages) (update : Update) → read_as messages ≡ Some update → IsRead messages update
read_is messages update e = is_read messages update (parts_in messages) (parts_have messages) e
