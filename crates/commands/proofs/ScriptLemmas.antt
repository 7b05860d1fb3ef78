-- Lemmas on scripts and on what is printed of the replies.
use Rattle.std.proofs.Common.{◌≡◌, ℕ, ◌+◌, ◌<◌, ◌≤◌, List, [], ◌∷◌, ◌++◌, length, map, drop, Option, Some, None, Result, Ok, Err, IfSome, IfErr, refl, sym, ap, ◌∙◌, subst, arith, append_assoc, append-nil, codes}
use Rattle.std.specs.Io.BufRead.{take_through, drop_through, strip_last}
use Rattle.std.specs.Io.KnownBytes.{Appends}
use Rattle.std.proofs.Common.{get_or}
use Rattle.std.proofs.lemmas.List.{drop_more, drop_all, map-append}
use Rattle.commands.proofs.LinesLemmas.{input_lines-first, IsWritten, Appends-twice, ReadsFirstLine}
use Rattle.commands.specs.Lines.{input_lines, Begins, spaced_behind}
use Rattle.hex.specs.Hex.{encode_lower}
use Rattle.commands.specs.Script.{step_of, onto_steps, steps_from, script_of, said_by, printed, printed_lines, printed_replies, output_of_steps, script_output, IsPastLimit}
use Rattle.dns_rdata.specs.Record.{Record}
use Rattle.commands.specs.Fault.{AtDevice, AtLimit}
use Rattle.commands.specs.declared.script_fault.StepsFault.{StepsFault}
use Rattle.commands.specs.declared.script_fault.StepsFault.TheVariants.{Script, World, Device}
use Rattle.world_run.specs.World.{replies_of}
use Rattle.world_run.specs.declared.fault.WorldFault.{WorldFault}
use Rattle.world_run.specs.declared.fault.WorldFault.TheVariants.{NoMemory, Limit}
use Rattle.world_run.specs.declared.step.WorldStep.{WorldStep}
use Rattle.commands.specs.declared.script.ScriptStep.{ScriptStep}
use Rattle.world_run.specs.declared.step.WorldReply.{WorldReply}

-- steps in front of others, or of a line that says none
abbrev pub behind_steps : List WorldStep → Result (List WorldStep) ℕ → Result (List WorldStep) ℕ
behind_steps done (Ok steps) = Ok (done ++ steps)
behind_steps done (Err line) = Err line

-- the steps so far, of a script of which the rest is left: with the rest's they are the whole script's
pub record IsOnTheWayThroughScript (input : List ℕ) (left : Option (List ℕ)) (done : List WorldStep) (number : ℕ) : Type 0 where
  pub rest : List ℕ
  pub is_left : left ≡ Some rest
  pub whole : behind_steps done (steps_from number (input_lines rest)) ≡ script_of input

behind_none : (steps : Result (List WorldStep) ℕ) → behind_steps [] steps ≡ steps
behind_none (Ok steps) = refl
behind_none (Err line) = refl

-- nothing is read yet
pub IsOnTheWayThroughScript-start : (input : List ℕ) (left : Option (List ℕ)) (steps : List ScriptStep) → left ≡ Some input → steps ≡ [] → IsOnTheWayThroughScript input left (map said_by steps) 1
unfolding script_of
IsOnTheWayThroughScript-start input left steps is none = record {
  rest = input;
  is_left = is;
  whole = ap (λ xs. behind_steps (map said_by xs) (steps_from 1 (input_lines input))) none ∙ behind_none (steps_from 1 (input_lines input));
}

-- the steps of what is left, by its first line
steps_from-first : (number : ℕ) (rest cleared line : List ℕ) → cleared ≡ [] → line ≡ cleared ++ take_through 10 rest → 0 < length line
    → steps_from number (input_lines rest) ≡ onto_steps number (step_of (strip_last 10 line)) (steps_from (number + 1) (input_lines (drop_through 10 rest)))
steps_from-first number [] cleared line none more some =
    let e : length line ≡ 0 = ap length more ∙ ap (λ xs. length (xs ++ [])) none in absurd (omega (arith, e))
steps_from-first number (c ∷ cs) cleared line none more some =
    let is : line ≡ take_through 10 (c ∷ cs) = more ∙ ap (λ xs. xs ++ take_through 10 (c ∷ cs)) none in
    ap (steps_from number) (input_lines-first c cs) ∙ ap (λ xs. onto_steps number (step_of (strip_last 10 xs)) (steps_from (number + 1) (input_lines (drop_through 10 (c ∷ cs))))) (sym is)

-- a line that says no step is the first such line of the script
pub bad_line : (input : List ℕ) (left after : Option (List ℕ)) (cleared line : List ℕ) (done : List WorldStep) (number : ℕ) → IsOnTheWayThroughScript input left done number
    → ReadsFirstLine left after cleared line → step_of (strip_last 10 line) ≡ None → script_of input ≡ Err number
bad_line input left after cleared line done number way reads is =
    let read : ReadsFirstLine (Some way.rest) after cleared line = rw way.is_left at reads in
    sym way.whole ∙ ap (behind_steps done) (steps_from-first number way.rest cleared line read.none read.more read.some ∙ ap (λ step. onto_steps number step (steps_from (number + 1) (input_lines (drop_through 10 way.rest)))) is)

behind_one_more : (done : List WorldStep) (step : WorldStep) (number : ℕ) (steps : Result (List WorldStep) ℕ) → behind_steps (done ++ step ∷ []) steps ≡ behind_steps done (onto_steps number (Some step) steps)
behind_one_more done step number (Ok steps) = ap Ok (append_assoc done (step ∷ []) steps)
behind_one_more done step number (Err line) = refl

-- a line that says a step is one step more
pub IsOnTheWayThroughScript-line : (input : List ℕ) (left after : Option (List ℕ)) (cleared line : List ℕ) (done : List WorldStep) (step : WorldStep) (number : ℕ) → IsOnTheWayThroughScript input left done number
    → ReadsFirstLine left after cleared line → step_of (strip_last 10 line) ≡ Some step → IsOnTheWayThroughScript input after (done ++ step ∷ []) (number + 1)
IsOnTheWayThroughScript-line input left after cleared line done step number way reads is =
    let read : ReadsFirstLine (Some way.rest) after cleared line = rw way.is_left at reads in
    let others : Result (List WorldStep) ℕ = steps_from (number + 1) (input_lines (drop_through 10 way.rest)) in
    record {
      rest = drop_through 10 way.rest;
      is_left = read.taken;
      whole = behind_one_more done step number others ∙ ap (behind_steps done) (ap (λ said. onto_steps number said others) (sym is) ∙ sym (steps_from-first number way.rest cleared line read.none read.more read.some)) ∙ way.whole;
    }

-- the line that is printed of a reply, as it is put together
pub line_printed : (given : WorldReply) (cleared put shown : List ℕ) → cleared ≡ [] → put ≡ cleared ++ (printed given ++ 10 ∷ []) → shown ≡ put → shown ≡ printed given ++ 10 ∷ []
line_printed given cleared put shown none is_put is_shown = is_shown ∙ is_put ∙ ap (λ xs. xs ++ (printed given ++ 10 ∷ [])) none

-- the lines that are left, by their first
pub printed_lines-first : (replies : List WorldReply) (at : ℕ) (given : WorldReply) → at < length replies → given ≡ get_or replies at given → {line : List ℕ} → line ≡ printed given ++ 10 ∷ []
    → printed_lines (drop at replies) ≡ line ++ printed_lines (drop (at + 1) replies)
printed_lines-first replies at given in_replies is_given is_line =
    ap printed_lines (drop_more replies at given in_replies ∙ ap (λ x. x ∷ drop (at + 1) replies) (sym is_given))
    ∙ ap (λ xs. xs ++ printed_lines (drop (at + 1) replies)) (sym is_line)

-- a line more is written
pub IsWritten-line : (before between after : Option (List ℕ)) (octets rest line others : List ℕ) → IsWritten before between octets rest → rest ≡ line ++ others → Appends between after line → IsWritten before after octets others
IsWritten-line before between after octets rest line others is parts more = record {
  done = is.done ++ line;
  grown = Appends-twice before between after is.done line is.grown more;
  whole = append_assoc is.done line others ∙ ap (λ xs. is.done ++ xs) (sym parts) ∙ is.whole;
}

-- a beginning of a line is written
pub Begins-part : (before between after : Option (List ℕ)) (octets rest line others : List ℕ) → IsWritten before between octets rest → rest ≡ line ++ others → Begins between after line → Begins before after octets
Begins-part before between after octets rest line others is parts begins = record {
  done = is.done ++ begins.done;
  rest = begins.rest ++ others;
  grown = Appends-twice before between after is.done begins.done is.grown begins.grown;
  whole = append_assoc is.done begins.done (begins.rest ++ others) ∙ ap (λ xs. is.done ++ xs) (sym (append_assoc begins.done begins.rest others) ∙ ap (λ xs. xs ++ others) begins.whole ∙ sym parts) ∙ is.whole;
}

-- one step more
pub map-one_more : (steps longer : List ScriptStep) (step : ScriptStep) → longer ≡ steps ++ step ∷ [] → map said_by longer ≡ map said_by steps ++ said_by step ∷ []
map-one_more steps longer step is = ap (map said_by) is ∙ map-append said_by steps (step ∷ [])

-- a fact at the limit, of a fault of the world
pub at_limit : (fault : WorldFault) (fact : Type 0) → (fault ≡ Limit → fact) → AtLimit (World fault) fact
at_limit NoMemory fact there = tt
at_limit Limit fact there = there refl

pub AtLimit-each : (fault : StepsFault) (fact other : Type 0) → (fact → other) → AtLimit fault fact → AtLimit fault other
AtLimit-each (Script line) fact other so at = tt
AtLimit-each (World NoMemory) fact other so at = tt
AtLimit-each (World Limit) fact other so at = so at
AtLimit-each (Device fault) fact other so at = tt

-- a script that is read passes the limit where its lines do
pub past_limit : (left : Option (List ℕ)) (zone : List Record) (keep window : ℕ) (steps played : List ScriptStep) → IfSome left (λ input. script_of input ≡ Ok (map said_by steps)) → played ≡ steps → IsPastLimit zone keep window (Ok (map said_by played)) → IfSome left (λ input. IsPastLimit zone keep window (script_of input))
past_limit None zone keep window steps played read is past = tt
past_limit (Some input) zone keep window steps played read is past = rw read (rw (sym is) past)

output_is : (zone : List Record) (keep window : ℕ) (input : List ℕ) (lines : List WorldStep) (replies : List WorldReply) → script_of input ≡ Ok lines → replies_of zone keep window lines ≡ Some replies → printed_lines replies ≡ script_output zone keep window input
output_is zone keep window input lines replies read reported = sym (ap (output_of_steps zone keep window) read ∙ ap printed_replies reported)

-- what is written of the replies is the script's output
pub written_out : (left : Option (List ℕ)) (zone : List Record) (keep window : ℕ) (steps played : List ScriptStep) (replies shown : List WorldReply) (before after : Option (List ℕ)) → IfSome left (λ input. script_of input ≡ Ok (map said_by steps)) → played ≡ steps
    → replies_of zone keep window (map said_by played) ≡ Some replies → shown ≡ replies → Appends before after (printed_lines shown) → IfSome left (λ input. Appends before after (script_output zone keep window input))
written_out None zone keep window steps played replies shown before after read is reported same written = tt
written_out (Some input) zone keep window steps played replies shown before after read is reported same written =
    let lines : script_of input ≡ Ok (map said_by played) = read ∙ ap (λ (s : List ScriptStep). Ok (map said_by s)) (sym is) in
    subst (λ octets. Appends before after octets) (ap printed_lines same ∙ output_is zone keep window input (map said_by played) replies lines reported) written

pub begun_out : (left : Option (List ℕ)) (zone : List Record) (keep window : ℕ) (steps played : List ScriptStep) (replies shown : List WorldReply) (before after : Option (List ℕ)) → IfSome left (λ input. script_of input ≡ Ok (map said_by steps)) → played ≡ steps
    → replies_of zone keep window (map said_by played) ≡ Some replies → shown ≡ replies → Begins before after (printed_lines shown) → IfSome left (λ input. Begins before after (script_output zone keep window input))
begun_out None zone keep window steps played replies shown before after read is reported same written = tt
begun_out (Some input) zone keep window steps played replies shown before after read is reported same written =
    let lines : script_of input ≡ Ok (map said_by played) = read ∙ ap (λ (s : List ScriptStep). Ok (map said_by s)) (sym is) in
    subst (λ octets. Begins before after octets) (ap printed_lines same ∙ output_is zone keep window input (map said_by played) replies lines reported) written

at_device : (fault : StepsFault) (fact : Type 0) → fact → AtDevice fault fact
at_device (Script line) fact there = tt
at_device (World fault) fact there = tt
at_device (Device fault) fact there = there

-- a fact at a device's fault
pub IfErr-at_device : {X : Type 0} (result : Result X StepsFault) (fact : Type 0) → fact → IfErr result (λ fault. AtDevice fault fact)
IfErr-at_device (Ok x) fact there = tt
IfErr-at_device (Err fault) fact there = at_device fault fact there

-- one message more is added, behind a space
pub spaced_more : (messages : List (List ℕ)) (at : ℕ) (message : List ℕ) → at < length messages → message ≡ get_or messages at message → (line between after : List ℕ) → between ≡ line ++ codes " " → after ≡ between ++ encode_lower message
    → (all : List ℕ) → line ++ spaced_behind (drop at messages) ≡ all → after ++ spaced_behind (drop (at + 1) messages) ≡ all
spaced_more messages at message within is line between after space digits all before =
    let parts : spaced_behind (drop at messages) ≡ (codes " " ++ encode_lower message) ++ spaced_behind (drop (at + 1) messages) = ap spaced_behind (drop_more messages at message within ∙ ap (λ x. x ∷ drop (at + 1) messages) (sym is)) in
    let grown : after ≡ line ++ (codes " " ++ encode_lower message) = digits ∙ ap (λ xs. xs ++ encode_lower message) space ∙ append_assoc line (codes " ") (encode_lower message) in
    ap (λ xs. xs ++ spaced_behind (drop (at + 1) messages)) grown
    ∙ append_assoc line (codes " " ++ encode_lower message) (spaced_behind (drop (at + 1) messages)) ∙ ap (λ xs. line ++ xs) (sym parts) ∙ before

-- all messages are added
pub spaced_end : (messages : List (List ℕ)) (at : ℕ) → length messages ≤ at → (line all : List ℕ) → line ++ spaced_behind (drop at messages) ≡ all → line ≡ all
spaced_end messages at past line all before =
    sym (append-nil line) ∙ ap (λ xs. line ++ spaced_behind xs) (sym (drop_all at messages past)) ∙ before
