-- Messages of which each has as many records of a list as fit.
use Rattle.std.proofs.Common.{◌≡◌, ◌≢◌, Bool, ℕ, ◌+◌, ◌-◌, ◌<◌, ◌≤◌, true, false, List, [], ◌∷◌, ◌++◌, length, take, drop, Option, Some, None, IsSome, refl, sym, ap, subst, ◌∙◌, arith, length-append, append_assoc}
use Rattle.std.proofs.Math.Path.{fun_ext}
use Rattle.std.proofs.lemmas.Bool.{le-leb, lt-leb, leb-true}
use Rattle.std.proofs.lemmas.List.{append-nil, length-take-le, take_at, drop_at, take-append-drop, take-append-le, take-take}
use Rattle.dns_rdata.specs.Record.{Record}
use Rattle.dns_rdata.specs.declared.numbers.Rcode.TheVariants.{NoError}
use Rattle.wire_names.specs.Table.{Table, IsTable}
use Rattle.wire_names.specs.Entry.{Entry}
use Rattle.wire_names.specs.Written.{IsOverwritten}
use Rattle.wire_names.proofs.OverwrittenLemmas.{length_stays, octets_are}
use Rattle.dns_message.specs.Answers.{answers, filled, StopsTaking, PutsFirst, StopsBehind, Fills, placed, IsFull, HasBody}
use Rattle.dns_message.specs.Encoding.{Encoding, these, before, each}
use Rattle.dns_message.specs.Encoded.{WritesParts, WritesEncoding}
use Rattle.dns_message.specs.Octets.{questions, question_octets, record_octets, sections_octets, counts_in, header_octets, reply_octets, fits}
use Rattle.dns_message.specs.Opt.{opt_part, opt_count}
use Rattle.dns_message.specs.declared.edns.Opt.{Opt}
use Rattle.dns_message.specs.declared.query.Head.{Head}
use Rattle.dns_message.specs.declared.query.Question.{Question}
use Rattle.dns_message.proofs.EncodedLemmas.{table_at, WritesEncoding-then, WritesEncoding-nothing, each-one, each-append}
use Rattle.dns_message.proofs.OctetsLemmas.{length-before, records_fill}

-- with nothing behind it
behind-nothing : (p : Encoding) → before p (these []) ≡ p
unfolding before these
behind-nothing p = fun_ext (λ (table : Table). fun_ext (λ (at : ℕ). ap (λ octets. (octets, (p table at).1)) (append-nil (p table at).0)))

-- one record behind others
each-last : (front : List Record) (r : Record) → before (each record_octets front) (record_octets r) ≡ each record_octets (front ++ r ∷ [])
each-last front r = ap (before (each record_octets front)) (sym (each-one record_octets r)) ∙ sym (each-append record_octets front (r ∷ []))

-- records are written one behind another: these are in front, and those are left
pub record Filling (all left : List Record) (was out : List ℕ) (first : ℕ) (own : List Entry) (at count : ℕ) (positions : List Entry) : Type 0 where
  pub front : List Record
  pub parts : all ≡ front ++ left
  pub counted : count ≡ length front
  pub written : WritesEncoding (each record_octets front) was out first own positions (Some at)

pub Filling-start : (all : List Record) (out : List ℕ) (first : ℕ) (own : List Entry) → first ≤ length out → IsTable (take first out) own → Filling all all out out first own first 0 own
unfolding each
Filling-start all out first own within table = record { front = []; parts = refl; counted = refl; written = WritesEncoding-nothing out first own within table }

pub Filling-more : (all left : List Record) (was out later : List ℕ) (first : ℕ) (own : List Entry) (at count : ℕ) (s t : List Entry) (next : ℕ) → Filling all left was out first own at count s → PutsFirst left out later at s t (Some next) → Filling all (drop 1 left) was later first own next (count + 1) t
Filling-more all [] was out later first own at count s t next f put = cc (put.0)
Filling-more all (r ∷ rs) was out later first own at count s t next f put = record {
  front = f.front ++ r ∷ [];
  parts = f.parts ∙ sym (append_assoc f.front (r ∷ []) rs);
  counted = omega (arith, f.counted, length-append f.front (r ∷ []));
  written =
      subst (λ p. WritesEncoding p was later first own t (Some next)) (each-last f.front r)
      (WritesEncoding-then (each record_octets f.front) (record_octets r) was out later first at own s t (Some next) f.written put);
}

-- there are no more of them than octets
pub Filling-few : (all left : List Record) (was out : List ℕ) (first : ℕ) (own : List Entry) (at count : ℕ) (s : List Entry) → Filling all left was out first own at count s → count ≤ length was
Filling-few all left was out first own at count s f =
    let within = f.written.octets.within in
    let next_is = f.written.octets.next_is in
    omega (arith, f.counted, records_fill f.front (table_at was first own) first)

pub Filling-within : (all left : List Record) (was out : List ℕ) (first : ℕ) (own : List Entry) (at count : ℕ) (s : List Entry) → Filling all left was out first own at count s → at ≤ length out
Filling-within all left was out first own at count s f =
    omega (arith, f.written.octets.within, length_stays was out first _ at f.written.octets)

-- one record more is fewer left
pub fewer_left : (left : List Record) (out later : List ℕ) (at : ℕ) (s t : List Entry) (next : ℕ) → PutsFirst left out later at s t (Some next) → length (drop 1 left) < length left
fewer_left [] out later at s t next put = cc (put.0)
fewer_left (r ∷ rs) out later at s t next put = omega arith

-- the first that is left isn't written: none is, or it doesn't fit
pub Filling-end : (all left : List Record) (was out later : List ℕ) (first : ℕ) (own : List Entry) (at count : ℕ) (s t : List Entry) → Filling all left was out first own at count s → PutsFirst left out later at s t None → Fills all left was later first own at count
Filling-end all [] was out later first own at count s t f put = record {
  front = f.front;
  parts = f.parts;
  counted = f.counted;
  whole = out;
  after = s;
  written = f.written;
  same = put.1;
  stops = tt;
}
Filling-end all (r ∷ rs) was out later first own at count s t f put = record {
  front = f.front;
  parts = f.parts;
  counted = f.counted;
  whole = out;
  after = s;
  written = f.written;
  same = put.front;
  stops =
      subst (λ p. WritesEncoding p was later first own own None) (each-last f.front r)
      (WritesEncoding-then (each record_octets f.front) (record_octets r) was out later first at own s t None f.written put);
}

-- an OPT is short
pub opt_short : (opt : Option Opt) → length (opt_part NoError opt) ≤ 11
opt_short None = omega arith
opt_short (Some opt) = omega arith

-- what fits is written
pub put_some : (p : Encoding) (a b : List ℕ) (at : ℕ) (s t : List Entry) (r : Option ℕ) → WritesEncoding p a b at s t r → at + length (p (table_at a at s) at).0 ≤ length a → IsSome r
put_some p a b at s t None w fits = let short = w.short in absurd (omega arith)
put_some p a b at s t (Some n) w fits = refl

-- the octets of a message of answers
pub answers_octets : (head : Head) (question : Option Question) (opt : Option Opt) (records : List Record) → reply_octets (answers head question opt records) ≡ header_octets (answers head question opt records) (counts_in (answers head question opt records)) ++ ((placed question records [] 12).0 ++ opt_part NoError opt)
unfolding sections_octets each before these
answers_octets head question opt records =
    let m = answers head question opt records in
    let asked = each question_octets (questions question) [] 12 in
    let rest = (each record_octets records asked.1 (12 + length asked.0)).0 in
    ap (λ (t : List ℕ). header_octets m (counts_in m) ++ t) (sym (append_assoc asked.0 rest (opt_part NoError opt)))

pub length-answers : (head : Head) (question : Option Question) (opt : Option Opt) (records : List Record) → length (reply_octets (answers head question opt records)) ≡ 12 + length (placed question records [] 12).0 + length (opt_part NoError opt)
length-answers head question opt records =
    let m = answers head question opt records in
    let body = (placed question records [] 12).0 in
    omega (arith, ap length (answers_octets head question opt records), length-append (header_octets m (counts_in m)) (body ++ opt_part NoError opt), length-append body (opt_part NoError opt))

-- more records take more octets
more_placed : (question : Option Question) (front back : List Record) → length (placed question front [] 12).0 ≤ length (placed question (front ++ back) [] 12).0
more_placed question front back =
    let asked = each question_octets (questions question) in
    let one = length-before asked (each record_octets front) [] 12 in
    let two = length-before asked (each record_octets (front ++ back)) [] 12 in
    let table = (asked [] 12).1 in
    let at = 12 + length (asked [] 12).0 in
    let split : length (each record_octets (front ++ back) table at).0 ≡ length (before (each record_octets front) (each record_octets back) table at).0 = ap (λ (e : Encoding). length (e table at).0) (each-append record_octets front back) in
    let both = length-before (each record_octets front) (each record_octets back) table at in
    omega arith

-- where a message fits, one of the records at its front does
pub fits_front : (head : Head) (question : Option Question) (opt : Option Opt) (limit : ℕ) (front back : List Record) → fits (answers head question opt (front ++ back)) limit ≡ true → fits (answers head question opt front) limit ≡ true
fits_front head question opt limit front back h =
    le-leb _ _ (omega (arith, leb-true _ _ h, length-answers head question opt front, length-answers head question opt (front ++ back), more_placed question front back))

-- what holds of the records that are taken where the next one fits, and where it doesn't
by_next : (P : List Record × List Record → Type 0) (head : Head) (question : Option Question) (opt : Option Opt) (limit : ℕ) (front : List Record) (r : Record) (rs : List Record) (b : Bool) → fits (answers head question opt (front ++ r ∷ [])) limit ≡ b → (b ≡ true → P (filled head question opt limit (front ++ r ∷ []) rs)) → (b ≡ false → P (front, r ∷ rs)) → P (filled head question opt limit front (r ∷ rs))
by_next P head question opt limit front r rs true e more stop = rw e (more refl)
by_next P head question opt limit front r rs false e more stop = rw e (stop refl)

pub filled_all : (head : Head) (question : Option Question) (opt : Option Opt) (limit : ℕ) (front list : List Record) → (filled head question opt limit front list).0 ++ (filled head question opt limit front list).1 ≡ front ++ list
filled_all head question opt limit front [] = refl
filled_all head question opt limit front (r ∷ rs) =
    by_next (λ p. p.0 ++ p.1 ≡ front ++ r ∷ rs) head question opt limit front r rs (fits (answers head question opt (front ++ r ∷ [])) limit) refl
    (λ e. filled_all head question opt limit (front ++ r ∷ []) rs ∙ append_assoc front (r ∷ []) rs)
    (λ e. refl)

pub filled_fits : (head : Head) (question : Option Question) (opt : Option Opt) (limit : ℕ) (front list : List Record) → (front ≢ [] → fits (answers head question opt front) limit ≡ true) → (filled head question opt limit front list).0 ≢ [] → fits (answers head question opt (filled head question opt limit front list).0) limit ≡ true
filled_fits head question opt limit front [] h = h
filled_fits head question opt limit front (r ∷ rs) h =
    by_next (λ p. p.0 ≢ [] → fits (answers head question opt p.0) limit ≡ true) head question opt limit front r rs (fits (answers head question opt (front ++ r ∷ [])) limit) refl
    (λ e. filled_fits head question opt limit (front ++ r ∷ []) rs (λ some. e))
    (λ e. h)

pub filled_stops : (head : Head) (question : Option Question) (opt : Option Opt) (limit : ℕ) (front list : List Record) → StopsTaking head question opt limit (filled head question opt limit front list).0 (filled head question opt limit front list).1
filled_stops head question opt limit front [] = tt
filled_stops head question opt limit front (r ∷ rs) =
    by_next (λ p. StopsTaking head question opt limit p.0 p.1) head question opt limit front r rs (fits (answers head question opt (front ++ r ∷ [])) limit) refl
    (λ e. filled_stops head question opt limit (front ++ r ∷ []) rs)
    (λ e. e)

pub filled_is : (head : Head) (question : Option Question) (opt : Option Opt) (limit : ℕ) (done front left : List Record) → fits (answers head question opt (done ++ front)) limit ≡ true → StopsTaking head question opt limit (done ++ front) left → filled head question opt limit done (front ++ left) ≡ (done ++ front, left)
filled_is head question opt limit done [] [] h stops = ap (λ (t : List Record). (t, [])) (sym (append-nil done))
filled_is head question opt limit done [] (r ∷ rs) h stops =
    let same = append-nil done in
    let no : fits (answers head question opt (done ++ r ∷ [])) limit ≡ false = ap (λ (t : List Record). fits (answers head question opt (t ++ r ∷ [])) limit) (sym same) ∙ stops in
    rw no (ap (λ (t : List Record). (t, r ∷ rs)) (sym same))
filled_is head question opt limit done (x ∷ xs) left h stops =
    let same : (done ++ x ∷ []) ++ xs ≡ done ++ x ∷ xs = append_assoc done (x ∷ []) xs in
    let whole : fits (answers head question opt ((done ++ x ∷ []) ++ xs)) limit ≡ true = ap (λ (t : List Record). fits (answers head question opt t) limit) same ∙ h in
    let yes = fits_front head question opt limit (done ++ x ∷ []) xs whole in
    let stopped = subst (λ (t : List Record). StopsTaking head question opt limit t left) (sym same) stops in
    rw yes (filled_is head question opt limit (done ++ x ∷ []) xs left whole stopped ∙ ap (λ (t : List Record). (t, left)) same)

-- one more record doesn't fit into a buffer, so that the message with it is longer than the buffer with the OPT's octets
is_full : (question : Option Question) (opt : Option Opt) (front left : List Record) (was one two : List ℕ) (start limit : ℕ) (names : List Entry) → limit ≡ length was + length (opt_part NoError opt) → WritesEncoding (each question_octets (questions question)) was one 12 [] names (Some start) → StopsBehind front left one two start names → IsFull question opt front left limit
is_full question opt front [] was one two start limit names size w stops = tt
is_full question opt front (r ∷ rs) was one two start limit names size w stops =
    let stopped = WritesEncoding-then (each question_octets (questions question)) (each record_octets (front ++ r ∷ [])) was one two 12 start [] names names None w stops in
    let short = stopped.short in
    omega arith

stops_taking : (head : Head) (question : Option Question) (opt : Option Opt) (front left : List Record) (limit : ℕ) → limit ≤ 65535 → IsFull question opt front left limit → StopsTaking head question opt limit front left
stops_taking head question opt front [] limit most full = tt
stops_taking head question opt front (r ∷ rs) limit most full = lt-leb _ _ (omega (arith, length-answers head question opt (front ++ r ∷ [])))

-- a header of twelve octets was written where there is room for it
header_put : (header two three : List ℕ) (r : Option ℕ) → length header ≡ 12 → 12 ≤ length two → WritesParts two three 0 header r → three ≡ header ++ drop 12 two
header_put header two three None size room put = let short = put.short in absurd (omega arith)
header_put header two three (Some n) size room put =
    let next_is = put.next_is in
    let place : n ≡ 12 = omega arith in
    put.new_is ∙ ap (λ (k : ℕ). header ++ drop k two) place

-- what stands behind the front of a buffer stays where the front is another of the same length
front_set : (old header x two three : List ℕ) (at : ℕ) → length old ≡ 12 → length header ≡ 12 → at ≡ 12 + length x → take at two ≡ old ++ x → three ≡ header ++ drop 12 two → take at three ≡ header ++ x
front_set old header x two three at size size_new place front set =
    let back = drop at two in
    let whole : two ≡ old ++ (x ++ back) = sym (take-append-drop at two) ∙ ap (λ (t : List ℕ). t ++ back) front ∙ append_assoc old x back in
    let behind : drop 12 two ≡ x ++ back = ap (drop 12) whole ∙ drop_at old (x ++ back) 12 size in
    let both : length (header ++ x) ≡ at = omega (arith, length-append header x) in
    ap (take at) (set ∙ ap (λ (t : List ℕ). header ++ t) behind ∙ sym (append_assoc header x back))
    ∙ take_at (header ++ x) back at both

-- the front of what stands in front
front_of_room : (room : ℕ) (old : List ℕ) → 12 ≤ room → take 12 (take room old) ≡ take 12 old
front_of_room room old least = take-take 12 room old least

-- the question and the records were written into the room that the OPT leaves
pub body_put : (question : Option Question) (opt : Option Opt) (all left : List Record) (old one two : List ℕ) (names : List Entry) (start at count size room : ℕ) → size ≡ length (opt_part NoError opt) → room ≡ length old - size → 12 + size ≤ length old → length two ≡ room → WritesEncoding (each question_octets (questions question)) (take room old) one 12 [] names (Some start) → Fills all left one two start names at count → HasBody question opt all left old (two ++ drop room old) at count
body_put question opt all left old one two names start at count size room size_is room_is least same_length w f =
    let asked = each question_octets (questions question) in
    let was = take room old in
    let x = (placed question f.front [] 12).0 in
    let whole_room : length was ≡ room = length-take-le room old (omega arith) in
    let written : WritesEncoding (placed question f.front) was f.whole 12 [] f.after (Some at) = WritesEncoding-then asked (each record_octets f.front) was one f.whole 12 start [] names f.after (Some at) w f.written in
    let next_is : at ≡ 12 + length x = written.octets.next_is in
    let within : at ≤ length was = written.octets.within in
    record {
      front = f.front;
      parts = f.parts;
      counted = f.counted;
      next_is = next_is;
      octets =
          take-append-le at two (drop room old) (omega arith)
          ∙ f.same
          ∙ octets_are was f.whole 12 x at written.octets
          ∙ ap (λ (t : List ℕ). t ++ x) (front_of_room room old (omega arith));
      room = omega arith;
      full = is_full question opt f.front left was one two start (length old) names (omega arith) w f.stops;
    }

-- a message of answers was written: as many records as fit, and so many are told; the others are left
pub record HasWritten (head : Head) (question : Option Question) (opt : Option Opt) (limit : ℕ) (all left : List Record) (out : List ℕ) (size count : ℕ) : Type 0 where
  pub octets : take size out ≡ reply_octets (answers head question opt (filled head question opt limit [] all).0)
  pub rest : left ≡ (filled head question opt limit [] all).1
  pub reported : count ≡ length (filled head question opt limit [] all).0
  pub most : size ≤ limit

pub wrote : (head : Head) (question : Option Question) (opt : Option Opt) (all left : List Record) (old one two three : List ℕ) (at next count : ℕ) (counts : List ℕ) (r : Option ℕ) → 512 ≤ length old → length old ≤ 65535 → length one ≡ length old → HasBody question opt all left old one at count → IsOverwritten one two at (opt_part NoError opt) next → counts ≡ length (questions question) ∷ count ∷ 0 ∷ opt_count opt ∷ [] → WritesParts two three 0 (header_octets (answers head question opt []) counts) r → HasWritten head question opt (length old) all left three next count
wrote head question opt all left old one two three at next count counts r least most same_length b w counts_are put =
    let x = (placed question b.front [] 12).0 in
    let last = opt_part NoError opt in
    let m = answers head question opt b.front in
    let size : length (reply_octets m) ≡ 12 + length x + length last = length-answers head question opt b.front in
    let next_is : next ≡ at + length last = w.next_is in
    let placed_is : at ≡ 12 + length x = b.next_is in
    let room : at + length last ≤ length old = b.room in
    let stays : length two ≡ length one = length_stays one two at last next w in
    let yes : fits m (length old) ≡ true = le-leb _ _ (omega arith) in
    let stops = stops_taking head question opt b.front left (length old) most b.full in
    let taken : filled head question opt (length old) [] all ≡ (b.front, left) = ap (filled head question opt (length old) []) b.parts ∙ filled_is head question opt (length old) [] b.front left yes stops in
    let front : take next two ≡ take 12 old ++ (x ++ last) =
    octets_are one two at last next w ∙ ap (λ (t : List ℕ). t ++ last) b.octets ∙ append_assoc (take 12 old) x last in
    let header = header_octets (answers head question opt []) counts in
    let header_size : length header ≡ 12 = ap (λ (cs : List ℕ). length (header_octets (answers head question opt []) cs)) counts_are in
    let set = header_put header two three r header_size (omega arith) put in
    let octets : take next three ≡ header ++ (x ++ last) = front_set (take 12 old) header (x ++ last) two three next (length-take-le 12 old (omega arith)) header_size (omega (arith, length-append x last)) front set in
    let counted : counts ≡ counts_in m =
    counts_are
    ∙ ap (λ (n : ℕ). length (questions question) ∷ n ∷ 0 ∷ opt_count opt ∷ []) b.counted
    ∙ ap (λ (n : ℕ). length (questions question) ∷ length b.front ∷ 0 ∷ n ∷ []) (omega arith) in
    record {
      octets =
          octets
          ∙ ap (λ (cs : List ℕ). header_octets m cs ++ (x ++ last)) counted
          ∙ sym (answers_octets head question opt b.front)
          ∙ ap (λ (p : List Record × List Record). reply_octets (answers head question opt p.0)) (sym taken);
      rest = ap (λ (p : List Record × List Record). p.1) (sym taken);
      reported = b.counted ∙ ap (λ (p : List Record × List Record). length p.0) (sym taken);
      most = omega arith;
    }
