-- Scripts: steps as lines of text, and how the replies are printed (own).
use Rattle.std.specs.Prelude.{◌≡◌, ℕ, ◌+◌, Bool, ◌&&◌, ◌||◌, ◌==◌, nat_le, List, [], ◌∷◌, ◌++◌, length, bytes_eq, codes, decimal, Option, Some, None, Result, Ok, Err, if◌then◌else◌}
use Rattle.std.specs.List.{list_all, slice_split}
use Rattle.std.specs.Option.{option_map}
use Rattle.hex.specs.declared.error.FromHexError.{FromHexError}
use Rattle.hex.specs.Hex.{decode_of, encode_lower}
use Rattle.dns_rdata.specs.Record.{Record}
use Rattle.world_run.specs.declared.step.Answer.{Answer}
use Rattle.world_run.specs.declared.step.Answer.TheVariants.{Owner, Left, Buried, Faded, Nothing, Reply, Silent, Messages}
use Rattle.world_run.specs.declared.step.Call.{Call}
use Rattle.world_run.specs.declared.step.Call.TheVariants.{Load, Drop, Copy, Weak, Fade, Up, Ask, Transfer, Update}
use Rattle.world_run.specs.declared.step.WorldReply.{WorldReply}
use Rattle.world_run.specs.declared.step.WorldReply.TheVariants.{Answered, Begun, Step, Last, NotEnabled}
use Rattle.world_run.specs.declared.step.WorldStep.{WorldStep}
use Rattle.world_run.specs.declared.step.WorldStep.TheVariants.{Whole, Begin, Next}
use Rattle.commands.specs.declared.script.ScriptFault.{ScriptFault}
use Rattle.commands.specs.declared.script.ScriptFault.TheVariants.{Bad, Device}
use Rattle.commands.specs.declared.script.ScriptCall.{ScriptCall}
use Rattle.commands.specs.declared.script.ScriptCall.TheVariants as call
use Rattle.commands.specs.declared.script.ScriptStep.{ScriptStep}
use Rattle.commands.specs.declared.script.ScriptStep.TheVariants as script
use Rattle.commands.specs.Lines.{MOST_OCTETS, input_lines, spaced}
use Rattle.world_run.specs.Words.{step_words}
use Rattle.world_run.specs.World.{replies_of}

-- the words of a line, separated by single spaces; two adjacent spaces enclose an empty word
abbrev pub words_of : List ℕ → List (List ℕ)
words_of line = slice_split (λ octet. octet == 32) line

-- whether an octet is a lower-case letter or a digit
abbrev pub is_name_octet : ℕ → Bool
is_name_octet octet = nat_le 97 octet && nat_le octet 122 || nat_le 48 octet && nat_le octet 57

-- whether a word is the name of an owner or of a call under way: 1 to 8 lower-case letters and digits
unfoldable pub is_name : List ℕ → Bool
is_name word = nat_le 1 (length word) && nat_le (length word) 8 && list_all is_name_octet word

-- a request of 1 to 65,535 octets; none if a word is not hexadecimal of that many octets
abbrev pub request_in : Result (List ℕ) FromHexError → Option (List ℕ)
request_in (Ok octets) = if nat_le 1 (length octets) && nat_le (length octets) MOST_OCTETS then Some octets else None
request_in (Err fault) = None

-- a request sent to a strong owner
abbrev pub asking : List ℕ → Option (List ℕ) → Option Call
asking name None = None
asking name (Some request) = Some (Ask name request)

-- a transfer request for a strong owner's version
abbrev pub transferring : List ℕ → Option (List ℕ) → Option Call
transferring name None = None
transferring name (Some request) = Some (Transfer name request)

-- an update that is sent
abbrev pub updating : Option (List ℕ) → Option Call
updating None = None
updating (Some request) = Some (Update request)

-- the call that two words form, `load NAME`, `drop NAME`, `fade NAME` or `update HEX`; none for any other words
abbrev pub call_of_two : List ℕ → List ℕ → Option Call
call_of_two word rest =
    if bytes_eq word (codes "load") && is_name rest then Some (Load rest)
    else if bytes_eq word (codes "drop") && is_name rest then Some (Drop rest)
    else if bytes_eq word (codes "fade") && is_name rest then Some (Fade rest)
    else if bytes_eq word (codes "update") then updating (request_in (decode_of rest))
    else None

-- the call on two names that a word stands for, `copy`, `weak` or `up`; none for any other word
abbrev pub call_of_names : List ℕ → List ℕ → List ℕ → Option Call
call_of_names word one other =
    if bytes_eq word (codes "copy") then Some (Copy one other)
    else if bytes_eq word (codes "weak") then Some (Weak one other)
    else if bytes_eq word (codes "up") then Some (Up one other)
    else None

-- the call that three words form, `ask NAME HEX`, `ixfr NAME HEX`, or one on two names; none for any other words
abbrev pub call_of_three : List ℕ → List ℕ → List ℕ → Option Call
call_of_three word name digits =
    if bytes_eq word (codes "ask") && is_name name then asking name (request_in (decode_of digits))
    else if bytes_eq word (codes "ixfr") && is_name name then transferring name (request_in (decode_of digits))
    else if is_name name && is_name digits then call_of_names word name digits
    else None

-- the call that words form, two words or three; none for any others
unfoldable pub call_in : List (List ℕ) → Option Call
call_in (word ∷ rest ∷ []) = call_of_two word rest
call_in (word ∷ name ∷ digits ∷ []) = call_of_three word name digits
call_in words = None

-- the step that words form: a call with all its steps, `begin NAME` and a call, or `next NAME`; none for any others
unfoldable pub step_in : List (List ℕ) → Option WorldStep
step_in (word ∷ name ∷ []) =
    if bytes_eq word (codes "next") && is_name name then Some (Next name)
    else option_map Whole (call_in (word ∷ name ∷ []))
step_in (word ∷ name ∷ third ∷ more) =
    if bytes_eq word (codes "begin") && is_name name then option_map (Begin name) (call_in (third ∷ more))
    else option_map Whole (call_in (word ∷ name ∷ third ∷ more))
step_in words = None

-- the step on a line; none if the line is not a step
abbrev pub step_of : List ℕ → Option WorldStep
step_of line = step_in (words_of line)

-- a line's step before those of the lines after it, or the number of the first line that is not a step
abbrev pub onto_steps : ℕ → Option WorldStep → Result (List WorldStep) ℕ → Result (List WorldStep) ℕ
onto_steps number None steps = Err number
onto_steps number (Some step) (Ok steps) = Ok (step ∷ steps)
onto_steps number (Some step) (Err line) = Err line

-- the steps of lines numbered from this number on, or the number of the first line that is not a step
abbrev pub steps_from : ℕ → List (List ℕ) → Result (List WorldStep) ℕ
steps_from number [] = Ok []
steps_from number (line ∷ lines) = onto_steps number (step_of line) (steps_from (number + 1) lines)

-- the steps of a script, or the number of its first line that is not a step, counted from 1
unfoldable pub script_of : List ℕ → Result (List WorldStep) ℕ
script_of input = steps_from 1 (input_lines input)

-- a call of a script in the form that `world_run` takes
abbrev pub called_by : ScriptCall → Call
called_by (call.Load name) = Load name.items
called_by (call.Drop name) = Drop name.items
called_by (call.Copy given name) = Copy given.items name.items
called_by (call.Weak given name) = Weak given.items name.items
called_by (call.Fade name) = Fade name.items
called_by (call.Up weak name) = Up weak.items name.items
called_by (call.Ask name request) = Ask name.items request.items
called_by (call.Transfer name request) = Transfer name.items request.items
called_by (call.Update request) = Update request.items

-- a step of a script in the form that `world_run` takes
abbrev pub said_by : ScriptStep → WorldStep
said_by (script.Whole call) = Whole (called_by call)
said_by (script.Begin name call) = Begin name.items (called_by call)
said_by (script.Next name) = Next name.items

-- a fact about the line of a script that is not a step
abbrev pub AtBad : ScriptFault → (ℕ → Type 0) → Type 0
AtBad (Bad line) fact = fact line
AtBad (Device fault) fact = Unit

-- how the result of a call is printed
abbrev pub printed_answer : Answer → List ℕ
printed_answer (Owner name number) = name ++ 32 ∷ decimal number
printed_answer Left = codes "left"
printed_answer (Buried number) = codes "buried " ++ decimal number
printed_answer Faded = codes "ok"
printed_answer Nothing = codes "none"
printed_answer (Reply octets) = encode_lower octets
printed_answer Silent = codes "-"
printed_answer (Messages messages) = spaced messages

-- how the reply to a line is printed
abbrev pub printed : WorldReply → List ℕ
printed (Answered answer) = printed_answer answer
printed Begun = codes "ok"
printed (Step name) = step_words name
printed (Last name answer) = step_words name ++ 32 ∷ printed_answer answer
printed NotEnabled = codes "not enabled"

-- how replies are printed, one per line
abbrev pub printed_lines : List WorldReply → List ℕ
printed_lines [] = []
printed_lines (given ∷ replies) = (printed given ++ 10 ∷ []) ++ printed_lines replies

-- how the replies to lines are printed; empty if one of the lines exceeds the limit
abbrev pub printed_replies : Option (List WorldReply) → List ℕ
printed_replies None = []
printed_replies (Some replies) = printed_lines replies

-- what is printed for the lines of a script, with `keep` versions kept in addition to the newest and a window of `window` entries; empty if a line is
-- not a step
abbrev pub output_of_steps : List Record → ℕ → ℕ → Result (List WorldStep) ℕ → List ℕ
output_of_steps zone keep window (Ok lines) = printed_replies (replies_of zone keep window lines)
output_of_steps zone keep window (Err line) = []

-- the lines of a script exceed the limit
abbrev pub IsPastLimit : List Record → ℕ → ℕ → Result (List WorldStep) ℕ → Type 0
IsPastLimit zone keep window (Ok lines) = replies_of zone keep window lines ≡ None
IsPastLimit zone keep window (Err line) = ⊥

-- what is printed for a script that is played from a zone on, with `keep` versions kept in addition to the newest and a window of `window` entries
abbrev pub script_output : List Record → ℕ → ℕ → List ℕ → List ℕ
script_output zone keep window input = output_of_steps zone keep window (script_of input)
