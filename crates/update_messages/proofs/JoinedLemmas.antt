-- How a request's messages are read as an update.
use Rattle.std.proofs.Common.{◌≡◌, ℕ, zero, suc, ◌<◌, ◌≤◌, ◌+◌, List, [], ◌∷◌, ◌++◌, Some, length, take, map, flat_map, get_or, refl, sym, ap, ◌∙◌, subst, append-nil, append_assoc, arith, Bor}
use Rattle.std.specs.Prelude.{Option, None, Result, MatchOption, IfOk}
use Rattle.std.proofs.lemmas.Result.{IfOk-weaker}
use Rattle.std.proofs.lemmas.List.{length-map, get_or-map, take_more, take_all, map_push}
use Rattle.std.proofs.lemmas.List.Concat.{flat_map-append}
use Rattle.dns_rdata.specs.Raw.{RawRecord}
use Rattle.dns_message.specs.Request.{reads}
use Rattle.dns_message.specs.declared.query.Parsed.TheVariants.{Update as Asks}
use Rattle.dns_message.specs.declared.update.Update.{Update}
use Rattle.journal.specs.Batch.{Messages}
use Rattle.update_messages.specs.Joined.{joined, AreParts, IsRead}

asks_one : (update other : Update) → Asks update ≡ Asks other → update ≡ other
asks_one update other e = cc

some_one : (update other : Update) → Some update ≡ Some other → update ≡ other
some_one update other e = cc

both : (x y : Update) (xs ys : List Update) → x ≡ y → xs ≡ ys → x ∷ xs ≡ y ∷ ys
both x y xs ys p q = cc

-- messages have their parts in one way
pub parts_once : (messages : Messages) (parts others : List Update) → AreParts messages parts → AreParts messages others → parts ≡ others
parts_once [] [] [] one two = refl
parts_once [] [] (other ∷ others) one two = absurd two
parts_once [] (part ∷ parts) others one two = absurd one
parts_once (message ∷ messages) [] others one two = absurd one
parts_once (message ∷ messages) (part ∷ parts) [] one two = absurd two
parts_once (message ∷ messages) (part ∷ parts) (other ∷ others) one two =
    both part other parts others (asks_one part other (sym one.0 ∙ two.0)) (parts_once messages parts others one.1 two.1)

-- so a request is read as one update
pub read_once : (messages : Messages) (update other : Update) → IsRead messages update → IsRead messages other → update ≡ other
read_once messages update other one two =
    some_one update other (sym one.is ∙ (ap joined (parts_once messages one.parts two.parts one.are_parts two.are_parts) ∙ two.is))

-- an update that is one part is that part
alone : (update : Update) → joined (update ∷ []) ≡ Some update
alone update = ap (λ records. Some (record update { updates = records })) (append-nil update.updates)

pub one_read : (message : List ℕ) (update : Update) → reads message ≡ Asks update → IsRead (message ∷ []) update
one_read message update e = record { parts = update ∷ []; are_parts = (e, tt); is = alone update }

pub read_alone : (message : List ℕ) (update : Update) → IsRead (message ∷ []) update → reads message ≡ Asks update
read_alone message update is = read_part is.parts is.are_parts is.is
  where
    read_part : (parts : List Update) → AreParts (message ∷ []) parts → joined parts ≡ Some update → reads message ≡ Asks update
    read_part [] are e = absurd are
    read_part (part ∷ []) are e = are.0 ∙ ap Asks (some_one part update (sym (alone part) ∙ e))
    read_part (part ∷ (other ∷ parts)) are e = absurd are.1

parts_push : (messages : Messages) (parts : List Update) (message : List ℕ) (part : Update) → AreParts messages parts → reads message ≡ Asks part
    → AreParts (messages ++ message ∷ []) (parts ++ part ∷ [])
parts_push [] [] message part are e = (e, tt)
parts_push [] (other ∷ parts) message part are e = absurd are
parts_push (first ∷ messages) [] message part are e = absurd are
parts_push (first ∷ messages) (other ∷ parts) message part are e = (are.0, parts_push messages parts message part are.1 e)

-- messages are read as parts so far, with the records of a first part and of these
pub record PartsSoFar (messages : Messages) (first records : List RawRecord) : Type 0 where
  pub parts : List Update
  pub are_parts : AreParts messages parts
  pub spelt : records ≡ first ++ flat_map (λ part. part.updates) parts

pub no_parts_yet : (first : List RawRecord) → PartsSoFar [] first first
no_parts_yet first = record { parts = []; are_parts = tt; spelt = sym (append-nil first) }

pub one_more_part : (messages all : Messages) (first records more : List RawRecord) (message : List ℕ) (part : Update)
    → PartsSoFar messages first records → reads message ≡ Asks part → all ≡ messages ++ message ∷ [] → more ≡ records ++ part.updates → PartsSoFar all first more
one_more_part messages all first records more message part so_far e is_all is_more = record {
  parts = so_far.parts ++ part ∷ [];
  are_parts = subst (λ (ms : Messages). AreParts ms (so_far.parts ++ part ∷ [])) (sym is_all) (parts_push messages so_far.parts message part so_far.are_parts e);
  spelt = is_more ∙ (ap (λ (o : List RawRecord). o ++ part.updates) so_far.spelt
      ∙ (append_assoc first (flat_map (λ p. p.updates) so_far.parts) part.updates
      ∙ ap (λ (o : List RawRecord). first ++ o) (sym (flat_map-append (λ (p : Update). p.updates) so_far.parts (part ∷ [])
      ∙ ap (λ (o : List RawRecord). flat_map (λ p. p.updates) so_far.parts ++ o) (append-nil part.updates)))));
}

-- messages that are parts are each read as an update
pub part_at : (messages : Messages) (parts : List Update) (k : ℕ) → AreParts messages parts → k < length messages → (update : Update) × (reads (get_or messages k []) ≡ Asks update)
part_at [] parts k are within = absurd (omega (arith, within))
part_at (message ∷ messages) [] k are within = absurd are
part_at (message ∷ messages) (part ∷ parts) zero are within = (part, are.0)
part_at (message ∷ messages) (part ∷ parts) (suc k) are within = part_at messages parts k are.1 (omega (arith, within))

-- the same of lent messages
abbrev pub now_of : List (Bor (List ℕ)) → Messages
now_of lent = map (λ (b : Bor (List ℕ)). b.now) lent

pub no_parts : (lent : List (Bor (List ℕ))) (k : ℕ) (d : Bor (List ℕ)) → k < length lent → ((update : Update) → reads (get_or lent k d).now ≡ Asks update → ⊥)
    → (parts : List Update) → AreParts (now_of lent) parts → ⊥
no_parts lent k d within none parts are =
    let one = part_at (now_of lent) parts k are (omega (arith, within, length-map lent (λ (b : Bor (List ℕ)). b.now))) in
    none one.0 (ap reads (sym (get_or-map (λ (b : Bor (List ℕ)). b.now) lent k d [] within)) ∙ one.1)

pub lent_part : (lent : List (Bor (List ℕ))) (k : ℕ) (d : Bor (List ℕ)) (first records more : List RawRecord) (part : Update)
    → PartsSoFar (now_of (take k lent)) first records → k < length lent → reads (get_or lent k d).now ≡ Asks part → more ≡ records ++ part.updates
    → PartsSoFar (now_of (take (k + 1) lent)) first more
lent_part lent k d first records more part so_far within e is_more =
    one_more_part (now_of (take k lent)) (now_of (take (k + 1) lent)) first records more (get_or lent k d).now part so_far e
    (ap now_of (take_more lent k d within) ∙ map_push (λ (b : Bor (List ℕ)). b.now) (take k lent) (get_or lent k d)) is_more

pub all_parts : (lent : List (Bor (List ℕ))) (k : ℕ) (first records : List RawRecord) → PartsSoFar (now_of (take k lent)) first records → length lent ≤ k
    → PartsSoFar (now_of lent) first records
all_parts lent k first records so_far end = subst (λ (ls : List (Bor (List ℕ))). PartsSoFar (now_of ls) first records) (take_all k lent end) so_far

-- what is said of an option that is something, or nothing
pub told_some : {X : Type 0} (found : Option X) (x : X) (P : Type 0) (Q : X → Type 0) → found ≡ Some x → MatchOption found P Q → Q x
told_some found x P Q e reported = subst (λ o. MatchOption o P Q) e reported

pub told_none : {X : Type 0} (found : Option X) (P : Type 0) (Q : X → Type 0) → found ≡ None → MatchOption found P Q → P
told_none found P Q e reported = subst (λ o. MatchOption o P Q) e reported

-- a request whose first message is read as an update is read by what the further ones are read as
pub request_read : (first : List ℕ) (more : Messages) (update : Update) (found : Option Update) → reads first ≡ Asks update
    → MatchOption found ((parts : List Update) → AreParts more parts → ⊥)
    (λ whole. (parts : List Update) × AreParts more parts × (whole ≡ record update { updates = update.updates ++ flat_map (λ part. part.updates) parts }))
    → MatchOption found ((whole : Update) → IsRead (first ∷ more) whole → ⊥) (λ whole. IsRead (first ∷ more) whole)
request_read first more update None e none = λ whole is. refuted is.parts is.are_parts
  where
    refuted : (parts : List Update) → AreParts (first ∷ more) parts → ⊥
    refuted [] are = are
    refuted (part ∷ parts) are = none parts are.1
request_read first more update (Some whole) e found = record { parts = update ∷ found.0; are_parts = (e, found.1); is = ap Some (sym found.2) }

-- the same of a lent request
pub lent_told : {E : Type 0} (lent more : List (Bor (List ℕ))) (first : Bor (List ℕ)) (update : Update) (r : Result (Option Update) E) → lent ≡ first ∷ more → reads first.now ≡ Asks update
    → IfOk r (λ found. MatchOption found ((parts : List Update) → AreParts (now_of more) parts → ⊥)
    (λ whole. (parts : List Update) × AreParts (now_of more) parts × (whole ≡ record update { updates = update.updates ++ flat_map (λ part. part.updates) parts })))
    → IfOk r (λ found. MatchOption found ((whole : Update) → IsRead (now_of lent) whole → ⊥) (λ whole. IsRead (now_of lent) whole))
lent_told lent more first update r split e told =
    subst (λ (ls : List (Bor (List ℕ))). IfOk r (λ found. MatchOption found ((whole : Update) → IsRead (now_of ls) whole → ⊥) (λ whole. IsRead (now_of ls) whole))) (sym split)
    (IfOk-weaker r (λ found. MatchOption found ((parts : List Update) → AreParts (now_of more) parts → ⊥)
    (λ whole. (parts : List Update) × AreParts (now_of more) parts × (whole ≡ record update { updates = update.updates ++ flat_map (λ part. part.updates) parts })))
    (λ found. MatchOption found ((whole : Update) → IsRead (first.now ∷ now_of more) whole → ⊥) (λ whole. IsRead (first.now ∷ now_of more) whole))
    (λ found told. request_read first.now (now_of more) update found e told) told)
