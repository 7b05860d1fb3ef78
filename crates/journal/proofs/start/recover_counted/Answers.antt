use Rattle.std.proofs.Common.{◌≡◌, ◌<◌, ◌^◌, ℕ, List, length, map, Bor, refl, subst, sym, ◌∙◌, arith, rules, Bool, true, false, if◌then◌else◌}
use Rattle.std.proofs.lemmas.List.{length-map}
use Rattle.std.proofs.lemmas.Result.{err_from_is_err_and}
use Rattle.journal.specs.declared.tails.Tail.{Tail}
use Rattle.journal.specs.declared.tails.Tail.TheVariants.{Blank, Torn}
use Rattle.journal.specs.Frame.{frames_of}
use Rattle.journal.specs.Tail.{IsTail}
use Rattle.journal.specs.Head.{head_of, IsText}
use Rattle.journal.specs.Recovered.{AreBatches, IsRefusedBatch}
use Rattle.journal.specs.Batch.{Messages}
use Rattle.journal.proofs.StartLemmas.{requests_now, read_long, damaged_from, no_batch_from, recovered_from}
use Rattle.journal.proofs.TailLemmas.{shown_within}
use Rattle.journal.proofs.start.recover_counted.Goals as goal
use Rattle.journal.proofs.start.recover_counted.Goals.{in-Blank, in-Torn}

pub overflow_add-result : goal.overflow_add-result
overflow_add-result c =
    let head = c.in_ok-head.ensures.read in
    let few = read_long c.args.journal.now (head_of c.in_ok-head.head) c.in_ok-head.behind.now (frames_of c.in_ok-head.salt 0 (map (λ (b : Bor (List ℕ)). b.now) c.in_ok-bodies.bodies.items)) c.in_ok-bodies.rest.now head.2 (c.in_ok-bodies.ensures).read.spelt in
    let within = shown_within c.in_ok-head.salt c.len-number.result c.in-Later.place c.in_ok-bodies.rest.now (c.in-Later.ensures).tail.0 in
    let fits : length c.args.journal.now < 2 ^ 64 = search rules in
    omega (arith, few, within, fits)

pub returns-in-Later-clause-refused : goal.returns-in-Later-clause-refused
returns-in-Later-clause-refused c =
    let head = c.in_ok-head.ensures.read in
    let bodies : List (List ℕ) = map (λ (b : Bor (List ℕ)). b.now) c.in_ok-bodies.bodies.items in
    let count : c.len-number.result ≡ length c.in_ok-bodies.bodies.items = omega (arith, c.len-number.ensures, c.in_ok-bodies.bodies.ok.0) in
    let same : IsText c.in_ok-head.head.text c.args.text.now = search rules in
    damaged_from c.args.text.now c.args.journal.now c.in_ok-head.head c.in_ok-head.salt c.in_ok-head.behind.now bodies c.in_ok-bodies.rest.now c.len-number.result _ c.in-Later.place
    head.0 head.1 head.2 c.in_ok-bodies.ensures.read same (count ∙ sym (length-map c.in_ok-bodies.bodies.items (λ (b : Bor (List ℕ)). b.now))) refl
    (subst (λ (t : Tail). IsTail c.in_ok-head.salt c.len-number.result c.in_ok-bodies.rest.now t) c.in-Later.is c.tail_of.ensures.tail)

pub returns-clause-recovered : goal.returns-clause-recovered
returns-clause-recovered c =
    let head = c.in_ok-head.ensures.read in
    let bodies : List (List ℕ) = map (λ (b : Bor (List ℕ)). b.now) c.in_ok-bodies.bodies.items in
    let updates : List Messages = requests_now c.in_ok-updates.updates.items in
    let count : c.len-number.result ≡ length c.in_ok-bodies.bodies.items = omega (arith, c.len-number.ensures, c.in_ok-bodies.bodies.ok.0) in
    let same : IsText c.in_ok-head.head.text c.args.text.now = search rules in
    let all = (c.in_ok-updates.ensures).ok in
    let are : AreBatches bodies all.0 = subst (λ (xs : List (Bor (List ℕ))). AreBatches (map (λ (b : Bor (List ℕ)). b.now) xs) all.0) c.deref.ensures.value all.1 in
    let says : Tail → Type 0 = λ t. IsTail c.in_ok-head.salt c.len-number.result c.in_ok-bodies.rest.now t in
    let reported : (torn : Bool) → c.match-tail_of.torn ≡ torn → says (if torn then Torn else Blank) → says (if c.match-tail_of.torn then Torn else Blank) =
    λ torn e is. subst (λ (b : Bool). says (if b then Torn else Blank)) (sym e) is in
    let tail : says (if c.match-tail_of.torn then Torn else Blank) = elim c.match-tail_of.branch [
      | in-Blank w ↦ reported false w.torn-is (subst says w.in-Blank.is c.tail_of.ensures.tail)
      | in-Torn w ↦ reported true w.torn-is (subst says w.in-Torn.is c.tail_of.ensures.tail)
    ] in (
      head.1,
      recovered_from c.args.text.now c.args.journal.now c.in_ok-head.head c.in_ok-head.salt c.in_ok-head.behind.now bodies c.in_ok-bodies.rest.now all.0 updates
          c.len-number.result _ c.match-tail_of.torn head.0 head.1 head.2 c.in_ok-bodies.ensures.read same are all.2
          (count ∙ sym (length-map c.in_ok-bodies.bodies.items (λ (b : Bor (List ℕ)). b.now))) refl tail,
    )

pub returns-in_err-updates-clause-refused : goal.returns-in_err-updates-clause-refused
returns-in_err-updates-clause-refused c =
    let head = c.in_ok-head.ensures.read in
    let bodies : List (List ℕ) = map (λ (b : Bor (List ℕ)). b.now) c.in_ok-bodies.bodies.items in
    let count : c.len-number.result ≡ length c.in_ok-bodies.bodies.items = omega (arith, c.len-number.ensures, c.in_ok-bodies.bodies.ok.0) in
    let same : IsText c.in_ok-head.head.text c.args.text.now = search rules in
    let says : Tail → Type 0 = λ t. IsTail c.in_ok-head.salt c.len-number.result c.in_ok-bodies.rest.now t in
    let reported : (torn : Bool) → c.match-tail_of.torn ≡ torn → says (if torn then Torn else Blank) → says (if c.match-tail_of.torn then Torn else Blank) =
    λ torn e is. subst (λ (b : Bool). says (if b then Torn else Blank)) (sym e) is in
    let tail : says (if c.match-tail_of.torn then Torn else Blank) = elim c.match-tail_of.branch [
      | in-Blank w ↦ reported false w.torn-is (subst says w.in-Blank.is c.tail_of.ensures.tail)
      | in-Torn w ↦ reported true w.torn-is (subst says w.in-Torn.is c.tail_of.ensures.tail)
    ] in
    let why = subst (λ (xs : List (Bor (List ℕ))). IsRefusedBatch (map (λ (b : Bor (List ℕ)). b.now) xs) c.in_err-updates.field-0.0) c.deref.ensures.value (c.in_err-updates.ensures).refused in
    let p = err_from_is_err_and c.from_residual-in_err-updates.result c.from_residual-in_err-updates.ensures.1 in
    rw p.1 (rw p.2 (no_batch_from c.args.text.now c.args.journal.now c.in_ok-head.head c.in_ok-head.salt c.in_ok-head.behind.now bodies c.in_ok-bodies.rest.now
    c.len-number.result c.match-tail_of.torn c.in_err-updates.field-0.0 head.0 head.1 head.2 c.in_ok-bodies.ensures.read same
    (count ∙ sym (length-map c.in_ok-bodies.bodies.items (λ (b : Bor (List ℕ)). b.now))) tail why))
