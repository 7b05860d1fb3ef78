-- Lemmas on the lines of requests, each of which is answered in turn.
use Rattle.std.proofs.Common.{◌≡◌, ℕ, ◌<◌, ◌≤◌, Bool, true, false, List, [], ◌∷◌, ◌++◌, length, Option, Some, None, Result, Ok, Err, refl, sym, ap, ◌∙◌, arith, append_assoc, map, subst, IfSome, MatchBool, append-nil}
use Rattle.std.specs.Io.BufRead.{take_through, drop_through, strip_last, first_piece, DropsThrough}
use Rattle.std.specs.Io.KnownBytes.{Appends}
use Rattle.std.proofs.lemmas.Bool.{le-leb, lt-leb, cond-true, cond-false}
use Rattle.hex.specs.declared.error.FromHexError.{FromHexError}
use Rattle.hex.specs.Hex.{decode_of}
use Rattle.serve_core.specs.declared.transport.Transport.{Transport}
use Rattle.commands.specs.Lines.{Begins, MOST_OCTETS}
use Rattle.commands.proofs.LinesLemmas.{input_lines-first, Appends-twice, Appends-none}
use Rattle.serve_core.specs.Served.{Want}
use Rattle.commands.specs.Answers.{TakesLine, BeginsToAnswer, Answers, asked_by, request_on, line_for, lines_for, past_behind, output_behind}
use Rattle.commands.specs.Versions.{Past, Keeping, Holds}

-- what is no hexadecimal of so many octets is no request
asked_by-refused : (r : Result (List ℕ) FromHexError) → ((octets : List ℕ) → r ≡ Ok octets → MOST_OCTETS < length octets) → asked_by r ≡ None
asked_by-refused (Err fault) long = refl
asked_by-refused (Ok octets) long = cond-false _ _ _ (lt-leb _ _ (long octets refl))

-- a line that is no hexadecimal of so many octets has no request
pub request_on-refused : (line : List ℕ) → ((octets : List ℕ) → decode_of line ≡ Ok octets → MOST_OCTETS < length octets) → request_on line ≡ None
unfolding request_on
request_on-refused line long = asked_by-refused (decode_of line) long

-- a line that is hexadecimal of so many octets has them as its request
pub request_on-octets : (line octets : List ℕ) → decode_of line ≡ Ok octets → length octets ≤ MOST_OCTETS → request_on line ≡ Some octets
unfolding request_on
request_on-octets line octets e short = ap asked_by e ∙ cond-true _ _ _ (le-leb _ _ short)

-- the output so far, for an input of which the rest is left, and the versions that it leaves, of which the newest are kept: behind these
-- the rest's output completes the whole, wherever memory is wanted from here on
pub record IsOnTheWay (transport : Transport) (past : Past) (kept : Keeping) (input : List ℕ) (left written_before written_after : Option (List ℕ)) : Type 0 where
  pub now : Past
  pub holds : Holds now kept
  pub rest : List ℕ
  pub done : List ℕ
  pub wants : List Want
  pub is_left : left ≡ Some rest
  pub grown : Appends written_before written_after done
  pub whole : (later : List Want) → done ++ output_behind transport later now rest ≡ output_behind transport (wants ++ later) past input

-- the output for what is left is the line for its first line, and then the output for what follows that, by the versions behind it
output_behind-first : (transport : Transport) (want : Want) (later : List Want) (past : Past) (rest : List ℕ) → 0 < length rest
    → output_behind transport (want ∷ later) past rest
    ≡ (line_for transport want past (request_on (first_piece 10 rest)) ++ 10 ∷ []) ++ output_behind transport later (past_behind transport want past (request_on (first_piece 10 rest))) (drop_through 10 rest)
output_behind-first transport want later past [] some = absurd (omega arith)
output_behind-first transport want later past (c ∷ cs) some = ap (λ lines. lines_for transport (want ∷ later) past (map request_on lines)) (input_lines-first c cs)

-- nothing is taken yet
pub IsOnTheWay-start : (transport : Transport) (past : Past) (kept : Keeping) (input : List ℕ) (left before : Option (List ℕ)) → Holds past kept → left ≡ Some input → IsOnTheWay transport past kept input left before before
IsOnTheWay-start transport past kept input left before holds is =
    record { now = past; holds = holds; rest = input; done = []; wants = []; is_left = is; grown = Appends-none before; whole = λ later. refl }

-- what a turn of the loop does: it takes a line and answers it, or nothing is left and nothing is written
abbrev pub TurnOf : Transport → Past → Keeping → Option (List ℕ) → Option (List ℕ) → Option (List ℕ) → Option (List ℕ) → Bool → Type 0
TurnOf transport now behind left rest_left between after more =
    IfSome left (λ rest. MatchBool more (TakesLine transport now behind rest rest_left between after) ((rest ≡ []) × (after ≡ between)))

-- one more line is taken and answered
pub IsOnTheWay-line : (transport : Transport) (past : Past) (kept behind : Keeping) (input : List ℕ) (left rest_left before between after : Option (List ℕ)) (more : Bool) → IsOnTheWay transport past kept input left before between
    → more ≡ true → ((now : Past) → Holds now kept → TurnOf transport now behind left rest_left between after more) → IsOnTheWay transport past behind input rest_left before after
IsOnTheWay-line transport past kept behind input left rest_left before between after more way is_more turns =
    let turn = turns way.now way.holds in
    let line : TakesLine transport way.now behind way.rest rest_left between after = rw (way.is_left, is_more) at turn in
    record {
      now = past_behind transport line.want way.now (request_on (first_piece 10 way.rest));
      holds = line.goes_on;
      rest = drop_through 10 way.rest;
      done = way.done ++ (line_for transport line.want way.now (request_on (first_piece 10 way.rest)) ++ 10 ∷ []);
      wants = way.wants ++ line.want ∷ [];
      is_left = line.taken;
      grown = Appends-twice before between after _ _ way.grown line.line;
      whole = λ later.
          append_assoc way.done _ _
          ∙ ap (λ out. way.done ++ out) (sym (output_behind-first transport line.want later way.now way.rest line.some))
          ∙ way.whole (line.want ∷ later)
          ∙ ap (λ wants. output_behind transport wants past input) (sym (append_assoc way.wants (line.want ∷ []) later));
    }

-- where nothing is left, the whole output was written
pub IsOnTheWay-end : (transport : Transport) (past : Past) (kept behind : Keeping) (input : List ℕ) (left rest_left before between after : Option (List ℕ)) (more : Bool) → IsOnTheWay transport past kept input left before between
    → more ≡ false → ((now : Past) → Holds now kept → TurnOf transport now behind left rest_left between after more) → Answers transport past input before after
IsOnTheWay-end transport past kept behind input left rest_left before between after more way is_end turns =
    let turn = turns way.now way.holds in
    let end : (way.rest ≡ []) × (after ≡ between) = rw (way.is_left, is_end) at turn in
    let all : way.done ≡ output_behind transport (way.wants ++ []) past input = sym (append-nil way.done) ∙ ap (λ rest. way.done ++ output_behind transport [] way.now rest) (sym end.0) ∙ way.whole [] in
    (way.wants ++ [], subst (λ out. Appends before after out) all (subst (λ held. Appends before held way.done) (sym end.1) way.grown))

-- at an error in the middle of a line a beginning of the output for what is left is written
pub Begins-line : (transport : Transport) (want : Want) (past : Past) (rest : List ℕ) (before after : Option (List ℕ)) → 0 < length rest
    → Begins before after (line_for transport want past (request_on (first_piece 10 rest)) ++ 10 ∷ []) → BeginsToAnswer transport past rest before after
Begins-line transport want past rest before after some begins =
    let behind : List ℕ = output_behind transport [] (past_behind transport want past (request_on (first_piece 10 rest))) (drop_through 10 rest) in (
      want ∷ [],
      record {
        done = begins.done;
        rest = begins.rest ++ behind;
        grown = begins.grown;
        whole = sym (append_assoc begins.done begins.rest behind) ∙ ap (λ line. line ++ behind) begins.whole ∙ sym (output_behind-first transport want [] past rest some);
      },
    )

-- and then a beginning of the whole output
pub Begins-on_the_way : (transport : Transport) (past : Past) (kept : Keeping) (input : List ℕ) (left before between after : Option (List ℕ)) → IsOnTheWay transport past kept input left before between
    → ((now : Past) → Holds now kept → IfSome left (λ rest. BeginsToAnswer transport now rest between after)) → BeginsToAnswer transport past input before after
Begins-on_the_way transport past kept input left before between after way each =
    let begins = each way.now way.holds in
    let last : BeginsToAnswer transport way.now way.rest between after = rw way.is_left at begins in (
      way.wants ++ last.0,
      record {
        done = way.done ++ last.1.done;
        rest = last.1.rest;
        grown = Appends-twice before between after way.done last.1.done way.grown last.1.grown;
        whole = append_assoc way.done last.1.done last.1.rest ∙ ap (λ out. way.done ++ out) last.1.whole ∙ way.whole last.0;
      },
    )

-- where nothing is read, nothing is written, which is a beginning of the output
pub Begins-none : (transport : Transport) (past : Past) (input : List ℕ) (before : Option (List ℕ)) → BeginsToAnswer transport past input before before
Begins-none transport past input before = ([], record { done = []; rest = output_behind transport [] past input; grown = Appends-none before; whole = refl })

-- where the loop ends early, a beginning of the output is written
pub Begins-early : (transport : Transport) (past : Past) (kept : Keeping) (input : List ℕ) (left before after : Option (List ℕ)) → IsOnTheWay transport past kept input left before after → BeginsToAnswer transport past input before after
Begins-early transport past kept input left before after way = (way.wants ++ [], record { done = way.done; rest = output_behind transport [] way.now way.rest; grown = way.grown; whole = way.whole [] })

-- the same from what was read of a line
pub Begins-read : (transport : Transport) (want : Want) (past : Past) (left : Option (List ℕ)) (cleared line : List ℕ) (before after : Option (List ℕ)) → cleared ≡ []
    → IfSome left (λ rest. line ≡ cleared ++ take_through 10 rest) → 0 < length line
    → Begins before after (line_for transport want past (request_on (strip_last 10 line)) ++ 10 ∷ []) → IfSome left (λ rest. BeginsToAnswer transport past rest before after)
Begins-read transport want past None cleared line before after none read some begins = tt
Begins-read transport want past (Some []) cleared line before after none read some begins =
    let e : length line ≡ 0 = ap length read ∙ ap (λ xs. length (xs ++ [])) none in absurd (omega (arith, e))
Begins-read transport want past (Some (c ∷ cs)) cleared line before after none read some begins =
    let is : line ≡ take_through 10 (c ∷ cs) = read ∙ ap (λ xs. xs ++ take_through 10 (c ∷ cs)) none in
    Begins-line transport want past (c ∷ cs) before after (omega arith)
    (subst (λ taken. Begins before after (line_for transport want past (request_on (strip_last 10 taken)) ++ 10 ∷ [])) is begins)

-- what was read of a line, and written for it, are its turn
pub TakesLine-read : (transport : Transport) (want : Want) (past : Past) (kept : Keeping) (left rest_left : Option (List ℕ)) (cleared line : List ℕ) (before after : Option (List ℕ)) → cleared ≡ []
    → IfSome left (λ rest. line ≡ cleared ++ take_through 10 rest) → DropsThrough left rest_left 10 → 0 < length line
    → Appends before after (line_for transport want past (request_on (strip_last 10 line)) ++ 10 ∷ []) → Holds (past_behind transport want past (request_on (strip_last 10 line))) kept
    → IfSome left (λ rest. TakesLine transport past kept rest rest_left before after)
TakesLine-read transport want past kept None rest_left cleared line before after none read drops some written holds = tt
TakesLine-read transport want past kept (Some []) rest_left cleared line before after none read drops some written holds =
    let e : length line ≡ 0 = ap length read ∙ ap (λ xs. length (xs ++ [])) none in absurd (omega (arith, e))
TakesLine-read transport want past kept (Some (c ∷ cs)) rest_left cleared line before after none read drops some written holds =
    let is : line ≡ take_through 10 (c ∷ cs) = read ∙ ap (λ xs. xs ++ take_through 10 (c ∷ cs)) none in
    record {
      want = want;
      some = omega arith;
      taken = drops;
      line = subst (λ taken. Appends before after (line_for transport want past (request_on (strip_last 10 taken)) ++ 10 ∷ [])) is written;
      goes_on = subst (λ taken. Holds (past_behind transport want past (request_on (strip_last 10 taken))) kept) is holds;
    }
