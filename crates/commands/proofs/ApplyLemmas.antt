-- Lemmas on the messages of a transfer, a line each, and on what is printed behind it.
use Rattle.std.proofs.Common.{◌≡◌, ℕ, Bool, OnOk, ◌<◌, List, [], ◌∷◌, ◌++◌, append_assoc, length, map, Option, Some, None, IfSome, Result, Ok, Err, IsOk, IfOk, IfErr, ◌⊎◌, inl, inr, refl, sym, ap, ◌∙◌, subst, arith}
use Rattle.std.specs.Global.{Vec}
use Rattle.std.specs.Io.BufRead.{take_through, drop_through, strip_last}
use Rattle.std.proofs.lemmas.List.{append-nil}
use Rattle.std.specs.Io.KnownBytes.{Appends}
use Rattle.dns_rdata.specs.Record.{Record}
use Rattle.master_file.specs.WrittenZone.{zone_text}
use Rattle.transfer_core.specs.declared.fault.TransferFault.{TransferFault}
use Rattle.transfer_core.specs.declared.fault.TransferFault.TheVariants.{NoMemory}
use Rattle.transfer_core.specs.Take.{take}
use Rattle.transfer_in.specs.Taking.{records_of_messages}
use Rattle.commands.specs.declared.command.Command.{Command}
use Rattle.commands.specs.declared.command.Command.TheVariants.{Answer, Check, Apply, Steps}
use Rattle.commands.specs.declared.fault.Fault.{Fault}
use Rattle.commands.specs.declared.fault.Fault.TheVariants.{Zone, Transfer}
use Rattle.commands.specs.Run.{TellsIn, TellsLarge, TellsRoot}
use Rattle.notify.specs.declared.large.Large.{Large}
use Rattle.master_file.specs.declared.fault.FileFault.{FileFault}
use Rattle.commands.specs.Apply.{message_on, messages_on, taken, text_of, taken_text, IsOfTransfer}
use Rattle.commands.specs.Lines.{input_lines, Begins}
use Rattle.commands.proofs.LinesLemmas.{input_lines-first, take_through-some}
use Rattle.commands.proofs.PartsLemmas.{Begins-unwritten}
use Rattle.commands.proofs.LinesLemmas.{ReadsFirstLine}

-- the octets of messages
abbrev pub octets_of : List (Vec ℕ) → List (List ℕ)
octets_of messages = map (λ (message : Vec ℕ). message.items) messages

octets_of-more : (messages : List (Vec ℕ)) (message : Vec ℕ) → octets_of (messages ++ message ∷ []) ≡ octets_of messages ++ message.items ∷ []
octets_of-more [] message = refl
octets_of-more (m ∷ messages) message = ap (λ (l : List (List ℕ)). m.items ∷ l) (octets_of-more messages message)

-- the messages so far, of an input of which the rest is left: with the rest's they are all
pub record IsOnTheWayThroughMessages (input : List ℕ) (left : Option (List ℕ)) (done : List (List ℕ)) : Type 0 where
  pub rest : List ℕ
  pub is_left : left ≡ Some rest
  pub whole : done ++ map message_on (input_lines rest) ≡ map message_on (input_lines input)

pub messages-start : (input : List ℕ) (left : Option (List ℕ)) (messages : List (Vec ℕ)) → left ≡ Some input → messages ≡ [] → IsOnTheWayThroughMessages input left (octets_of messages)
messages-start input left messages is none = record {
  rest = input;
  is_left = is;
  whole = ap (λ (l : List (Vec ℕ)). octets_of l ++ map message_on (input_lines input)) none;
}

lines_of-first : (rest cleared line : List ℕ) → cleared ≡ [] → line ≡ cleared ++ take_through 10 rest → 0 < length line → input_lines rest ≡ strip_last 10 line ∷ input_lines (drop_through 10 rest)
lines_of-first [] cleared line none more some =
    let e : length line ≡ 0 = ap length more ∙ ap (λ (xs : List ℕ). length (xs ++ [])) none in absurd (omega (arith, e))
lines_of-first (c ∷ cs) cleared line none more some =
    let is : line ≡ take_through 10 (c ∷ cs) = more ∙ ap (λ (xs : List ℕ). xs ++ take_through 10 (c ∷ cs)) none in
    input_lines-first c cs ∙ ap (λ (xs : List ℕ). strip_last 10 xs ∷ input_lines (drop_through 10 (c ∷ cs))) (sym is)

-- a line more
pub messages-line : (input : List ℕ) (left after : Option (List ℕ)) (cleared line : List ℕ) (messages longer : List (Vec ℕ)) (message : Vec ℕ) → IsOnTheWayThroughMessages input left (octets_of messages) → ReadsFirstLine left after cleared line
    → message.items ≡ message_on (strip_last 10 line) → longer ≡ messages ++ message ∷ [] → IsOnTheWayThroughMessages input after (octets_of longer)
messages-line input left after cleared line messages longer message way read is made =
    let more : line ≡ cleared ++ take_through 10 way.rest = subst (λ o. IfSome o (λ rest. line ≡ cleared ++ take_through 10 rest)) way.is_left read.more in
    let taken : after ≡ Some (drop_through 10 way.rest) = subst (λ o. IfSome o (λ rest. after ≡ Some (drop_through 10 rest))) way.is_left read.taken in
    let behind = map message_on (input_lines (drop_through 10 way.rest)) in
    record {
      rest = drop_through 10 way.rest;
      is_left = taken;
      whole =
          ap (λ (l : List (List ℕ)). l ++ behind) (ap octets_of made ∙ octets_of-more messages message ∙ ap (λ (m : List ℕ). octets_of messages ++ m ∷ []) is)
          ∙ append_assoc (octets_of messages) (message_on (strip_last 10 line) ∷ []) behind
          ∙ ap (λ (l : List (List ℕ)). octets_of messages ++ map message_on l) (sym (lines_of-first way.rest cleared line read.none more read.some))
          ∙ way.whole;
    }

nothing_left : (rest cleared line : List ℕ) → cleared ≡ [] → line ≡ cleared ++ take_through 10 rest → length line ≡ 0 → input_lines rest ≡ []
nothing_left [] cleared line none more zero = refl
nothing_left (c ∷ cs) cleared line none more zero =
    let first = take_through-some c cs in
    let is : line ≡ first.0 ∷ first.1 = more ∙ ap (λ (xs : List ℕ). xs ++ take_through 10 (c ∷ cs)) none ∙ first.2 in
    absurd (omega (arith, zero, ap length is))

-- no line more
pub messages-end : (input : List ℕ) (left : Option (List ℕ)) (cleared line : List ℕ) (messages : List (Vec ℕ)) → IsOnTheWayThroughMessages input left (octets_of messages) → cleared ≡ [] → IfSome left (λ rest. line ≡ cleared ++ take_through 10 rest) → length line ≡ 0 → octets_of messages ≡ messages_on input
unfolding messages_on
messages-end input left cleared line messages way none read zero =
    let more : line ≡ cleared ++ take_through 10 way.rest = subst (λ o. IfSome o (λ rest. line ≡ cleared ++ take_through 10 rest)) way.is_left read in
    sym (append-nil (octets_of messages)) ∙ ap (λ (l : List (List ℕ)). octets_of messages ++ map message_on l) (sym (nothing_left way.rest cleared line none more zero)) ∙ way.whole

-- what the messages that were read make of a zone
pub taken_is : (left : Option (List ℕ)) (zone : List Record) (messages seen : List (Vec ℕ)) (outcome : Result (List Record) TransferFault) → seen ≡ messages → IfSome left (λ input. octets_of messages ≡ messages_on input)
    → take zone (records_of_messages (octets_of seen)) ≡ outcome → IfSome left (λ input. taken zone input ≡ outcome)
unfolding taken
taken_is None zone messages seen outcome is read reported = tt
taken_is (Some input) zone messages seen outcome is read reported = ap (λ (l : List (List ℕ)). take zone (records_of_messages l)) (sym (ap octets_of is ∙ read)) ∙ reported

pub taken_fault : (left : Option (List ℕ)) (zone : List Record) (messages seen : List (Vec ℕ)) (fault : TransferFault) → seen ≡ messages → IfSome left (λ input. octets_of messages ≡ messages_on input)
    → (fault ≡ NoMemory) ⊎ (take zone (records_of_messages (octets_of seen)) ≡ Err fault) → IfSome left (λ input. IsOfTransfer (taken zone input) (Transfer fault))
taken_fault None zone messages seen fault is read reported = tt
taken_fault (Some input) zone messages seen fault is read (inl e) = inl e
taken_fault (Some input) zone messages seen fault is read (inr e) = inr (taken_is (Some input) zone messages seen (Err fault) is read e)

module _ (left : Option (List ℕ)) (zone next : List Record) (before after : Option (List ℕ)) where
  pub text_taken : IfSome left (λ input. taken zone input ≡ Ok next) → Appends before after (zone_text next) → IfSome left (λ input. Appends before after (taken_text zone input))
  text_taken is written = by left is
    where
      by : (o : Option (List ℕ)) → IfSome o (λ input. taken zone input ≡ Ok next) → IfSome o (λ input. Appends before after (taken_text zone input))
      by None e = tt
      by (Some input) e = subst (λ (outcome : Result (List Record) TransferFault). Appends before after (text_of outcome)) (sym e) written

  pub text_begun : IfSome left (λ input. taken zone input ≡ Ok next) → Begins before after (zone_text next) → IfSome left (λ input. Begins before after (taken_text zone input))
  text_begun is written = by left is
    where
      by : (o : Option (List ℕ)) → IfSome o (λ input. taken zone input ≡ Ok next) → IfSome o (λ input. Begins before after (taken_text zone input))
      by None e = tt
      by (Some input) e = subst (λ (outcome : Result (List Record) TransferFault). Begins before after (text_of outcome)) (sym e) written

pub told_taken : (left : Option (List ℕ)) (zone next : List Record) → IfSome left (λ input. taken zone input ≡ Ok next) → IfSome left (λ input. IsOk (taken zone input))
told_taken None zone next e = tt
told_taken (Some input) zone next e = subst (λ (outcome : Result (List Record) TransferFault). IsOk outcome) (sym e) refl

pub unbegun : (left : Option (List ℕ)) (zone : List Record) (before : Option (List ℕ)) → IfSome left (λ input. Begins before before (taken_text zone input))
unbegun None zone before = tt
unbegun (Some input) zone before = Begins-unwritten before (taken_text zone input)

-- what is told over what was read of a zone's text, of the text
tells_zone : (command : Command) (zone : List Record) (input : List ℕ) (fault : FileFault) → TellsIn command zone input (Err (Zone fault))
tells_zone (Answer source origin transport) zone input fault = tt
tells_zone (Check source origin) zone input fault = tt
tells_zone (Apply source origin) zone input fault = tt
tells_zone (Steps source origin keep window) zone input fault = tt

pub tells_by_zone : (left : Option (List ℕ)) (command : Command) (read outcome : Result (List Record) FileFault) (reported : Result (Unit {0}) Fault) → IfOk read (λ zone. outcome ≡ Ok zone) → IfErr read (λ fault. reported ≡ Err (Zone fault))
    → IfOk read (λ zone. IfSome left (λ input. TellsIn command zone input reported)) → IfSome left (λ input. IfOk outcome (λ zone. TellsIn command zone input reported))
tells_by_zone None command read outcome reported is refused tells = tt
tells_by_zone (Some input) command (Ok zone) outcome reported is refused tells = subst (λ (o : Result (List Record) FileFault). IfOk o (λ z. TellsIn command z input reported)) (sym is) tells
tells_by_zone (Some input) command (Err fault) outcome reported is refused tells = by outcome
  where
    by : (o : Result (List Record) FileFault) → IfOk o (λ zone. TellsIn command zone input reported)
    by (Ok zone) = subst (λ (t : Result (Unit {0}) Fault). TellsIn command zone input t) (sym refused) (tells_zone command zone input fault)
    by (Err e) = tt

-- what is told of the apex of what was read is told of the text's, where the command is done
pub tells_root : (read outcome : Result (List Record) FileFault) (reported : Result (Unit {0}) Fault) (at_root : Bool) → IfOk read (λ zone. outcome ≡ Ok zone) → IfErr read (λ fault. reported ≡ Err (Zone fault)) → TellsRoot read at_root
    → OnOk reported (TellsRoot outcome at_root)
tells_root (Ok zone) outcome (Ok done) at_root is refused root = subst (λ (o : Result (List Record) FileFault). TellsRoot o at_root) (sym is) root
tells_root (Ok zone) outcome (Err fault) at_root is refused root = tt
tells_root (Err fault) outcome reported at_root is refused root = subst (λ (t : Result (Unit {0}) Fault). OnOk t (TellsRoot outcome at_root)) (sym refused) tt

-- and so is what it has more of than stock secondaries take
pub tells_large : (command : Command) (read outcome : Result (List Record) FileFault) (reported : Result (Unit {0}) Fault) (large : Option Large) → IfOk read (λ zone. outcome ≡ Ok zone) → IfErr read (λ fault. reported ≡ Err (Zone fault))
    → TellsLarge command read large → OnOk reported (TellsLarge command outcome large)
tells_large command (Ok zone) outcome (Ok done) large is refused tells = subst (λ (o : Result (List Record) FileFault). TellsLarge command o large) (sym is) tells
tells_large command (Ok zone) outcome (Err fault) large is refused tells = tt
tells_large command (Err fault) outcome reported large is refused tells = subst (λ (t : Result (Unit {0}) Fault). OnOk t (TellsLarge command outcome large)) (sym refused) tt
