-- What stays told when octets move, and what an end leaves.
use Rattle.std.proofs.Common.{◌≡◌, ◌≢◌, ◌⊎◌, inl, inr, refl, ℕ, List, [], ◌++◌, Option, None, Some, take, drop, sym, ap, ◌∙◌, subst, append_assoc, append-nil, take-append-drop}
use Rattle.requests.specs.Octets.{Gives, Takes, IsAtEnd, IsTorn, frames_of}
use Rattle.requests.specs.declared.stream_end.StreamEnd.{StreamEnd}
use Rattle.requests.specs.declared.stream_end.StreamEnd.TheVariants.{Clean, Torn, Device, Spent, NoMemory}
use Rattle.tcp_connections.specs.Kept.{Kept, due, told_by, nothing_kept, IsWaiting}
use Rattle.tcp_connections.specs.StreamOctets.{Stays, Writes, EndsTold, EndCounted}

pub stays_itself : (a : Option (List ℕ × List ℕ)) → Stays a a
stays_itself None = tt
stays_itself (Some o) = refl

pub stays_more : (a b c : Option (List ℕ × List ℕ)) → Stays a b → Stays b c → Stays a c
stays_more None b c first then = tt
stays_more (Some o) b c first then = subst (λ m. Stays m c) first then

-- what is held and what is to be written is as it was
pub stays_kept : (k m : Kept) (a : Option (List ℕ × List ℕ)) → m.held ≡ k.held → due m ≡ due k → Stays (told_by k a) (told_by m a)
stays_kept k m None held owed = tt
stays_kept k m (Some o) held owed = ap (λ l. Some (l ++ o.0, o.1 ++ due m)) held ∙ ap (λ l. Some (k.held ++ o.0, o.1 ++ l)) owed

-- nothing is kept yet
pub stays_fresh : (k : Kept) (a : Option (List ℕ × List ℕ)) → k ≡ nothing_kept → Stays a (told_by k a)
stays_fresh k None fresh = tt
stays_fresh k (Some o) fresh = ap (λ (m : Kept). told_by m (Some o)) fresh ∙ ap (λ l. Some (o.0, l)) (append-nil o.1)

-- octets that were read are held
pub stays_read : (k m : Kept) (xs : List ℕ) (a b : Option (List ℕ × List ℕ)) → Gives a b xs → m ≡ record k { held = k.held ++ xs } → Stays (told_by k a) (told_by m b)
stays_read k m xs None b gives same = tt
stays_read k m xs (Some o) b gives same =
    ap (λ (n : Kept). told_by n b) same
    ∙ ap (λ p. told_by (record k { held = k.held ++ xs }) p) gives.2
    ∙ ap (λ l. Some (l, o.1 ++ due k)) (append_assoc k.held xs gives.0 ∙ ap (λ l. k.held ++ l) (sym gives.1))

-- a read that fails moves nothing
pub stays_unread : (k : Kept) (a b : Option (List ℕ × List ℕ)) → Gives a b [] → Stays (told_by k a) (told_by k b)
stays_unread k None b gives = tt
stays_unread k (Some o) b gives = ap (λ p. told_by k p) gives.2 ∙ ap (λ l. Some (k.held ++ l, o.1 ++ due k)) (sym gives.1)

-- octets that are written are ready no more
pub stays_written : (k m : Kept) (n count more : ℕ) (a b : Option (List ℕ × List ℕ)) → Takes a b (take n k.ready) → m ≡ record k { ready = drop n k.ready; passed = count; taken = more } → Stays (told_by k a) (told_by m b)
stays_written k m n count more None b takes same = tt
stays_written k m n count more (Some o) b takes same =
    let t = take n k.ready in
    let d = drop n k.ready in
    let f = frames_of k.later in
    let moved : (o.1 ++ t) ++ (d ++ f) ≡ o.1 ++ (k.ready ++ f) =
    append_assoc o.1 t (d ++ f) ∙ ap (λ l. o.1 ++ l) (sym (append_assoc t d f) ∙ ap (λ l. l ++ f) (take-append-drop n k.ready)) in
    ap (λ (p : Kept). told_by p b) same
    ∙ ap (λ p. told_by (record k { ready = d; passed = count; taken = more }) p) takes
    ∙ ap (λ l. Some (k.held ++ o.0, l)) moved

-- a write that fails moves nothing
pub stays_unwritten : (k : Kept) (a b : Option (List ℕ × List ℕ)) → Takes a b [] → Stays (told_by k a) (told_by k b)
stays_unwritten k None b takes = tt
stays_unwritten k (Some o) b takes = ap (λ p. told_by k p) takes ∙ ap (λ l. Some (k.held ++ o.0, l ++ due k)) (append-nil o.1)

pub writes_itself : (a : Option (List ℕ × List ℕ)) → Writes a a
writes_itself None = tt
writes_itself (Some o) = (o.0, [], ap (λ l. Some (o.0, l)) (sym (append-nil o.1)))

pub writes_more : (a b c : Option (List ℕ × List ℕ)) → Writes a b → Writes b c → Writes a c
writes_more None b c first then = tt
writes_more (Some o) b c first then =
    let second = subst (λ m. Writes m c) first.2 then in
    (second.0, first.1 ++ second.1, second.2 ∙ ap (λ l. Some (second.0, l)) (append_assoc o.1 first.1 second.1))

pub writes_taken : (a b : Option (List ℕ × List ℕ)) (xs : List ℕ) → Takes a b xs → Writes a b
writes_taken None b xs takes = tt
writes_taken (Some o) b xs takes = (o.0, xs, takes)

pub writes_given : (a b : Option (List ℕ × List ℕ)) (xs : List ℕ) → Gives a b xs → Writes a b
writes_given None b xs gives = tt
writes_given (Some o) b xs gives = (gives.0, [], gives.2 ∙ ap (λ l. Some (gives.0, l)) (sym (append-nil o.1)))

-- what is kept is lost, and what was written is a beginning
pub ends_here : (k : Kept) (a : Option (List ℕ × List ℕ)) → EndsTold Device (told_by k a) a
ends_here k None = tt
ends_here k (Some o) = (o.0, o.1, due k, refl, refl)

-- the same where no version is loaded, or there is no memory, and nothing has failed
pub ends_lacking : (end : StreamEnd) (k : Kept) (a : Option (List ℕ × List ℕ)) → (end ≡ Spent) ⊎ (end ≡ NoMemory) → EndsTold end (told_by k a) a
ends_lacking end k a (inl is) = subst (λ (e : StreamEnd). EndsTold e (told_by k a) a) (sym is) (ends_here k a)
ends_lacking end k a (inr is) = subst (λ (e : StreamEnd). EndsTold e (told_by k a) a) (sym is) (ends_here k a)

pub counted_lacking : (end : StreamEnd) (faults : ℕ) → (end ≡ Spent) ⊎ (end ≡ NoMemory) → EndCounted end faults faults
counted_lacking end faults (inl is) = subst (λ (e : StreamEnd). EndCounted e faults faults) (sym is) refl
counted_lacking end faults (inr is) = subst (λ (e : StreamEnd). EndCounted e faults faults) (sym is) refl

-- octets that were read are lost
pub ends_read : (k : Kept) (xs : List ℕ) (a b : Option (List ℕ × List ℕ)) → Gives a b xs → EndsTold Device (told_by k a) b
ends_read k xs None b gives = tt
ends_read k xs (Some o) b gives = (gives.0, o.1, due k, refl, gives.2)

nothing_told : (end : StreamEnd) (c : Option (List ℕ × List ℕ)) → EndsTold end None c
nothing_told Clean c = tt
nothing_told Torn c = tt
nothing_told Device c = tt
nothing_told Spent c = tt
nothing_told NoMemory c = tt

pub ends_stay : (end : StreamEnd) (a b c : Option (List ℕ × List ℕ)) → Stays a b → EndsTold end b c → EndsTold end a c
ends_stay end None b c stays ends = nothing_told end c
ends_stay end (Some o) b c stays ends = subst (λ m. EndsTold end m c) stays ends

waits_due : (k : Kept) → IsWaiting k → due k ≡ []
waits_due k waits = ap (λ l. l ++ frames_of k.later) waits.ready ∙ ap (λ l. frames_of l) waits.later

-- a stream ends in front of a frame
pub ends_clean : (k : Kept) (n : ℕ) (buf : List ℕ) (a b : Option (List ℕ × List ℕ)) → n ≡ 0 → IsWaiting k → k.held ≡ [] → Gives a b (take n buf) → IsAtEnd b → EndsTold Clean (told_by k a) b
ends_clean k n buf None b nothing_read waits empty gives at_end = tt
ends_clean k n buf (Some o) b nothing_read waits empty gives at_end =
    let nothing : gives.0 ≡ [] = subst IsAtEnd gives.2 at_end in
    let left : o.0 ≡ [] = gives.1 ∙ ap (λ (m : ℕ). take m buf ++ gives.0) nothing_read ∙ nothing in
    let all : o.1 ++ due k ≡ o.1 = ap (λ l. o.1 ++ l) (waits_due k waits) ∙ append-nil o.1 in
    (ap (λ l. l ++ o.0) empty ∙ left, gives.2 ∙ ap (λ l. Some (l, o.1)) nothing ∙ ap (λ l. Some ([], l)) (sym all))

-- a stream ends inside a frame
pub ends_torn : (k : Kept) (n : ℕ) (buf : List ℕ) (a b : Option (List ℕ × List ℕ)) → n ≡ 0 → IsWaiting k → k.held ≢ [] → Gives a b (take n buf) → IsAtEnd b → EndsTold Torn (told_by k a) b
ends_torn k n buf None b nothing_read waits some gives at_end = tt
ends_torn k n buf (Some o) b nothing_read waits some gives at_end =
    let nothing : gives.0 ≡ [] = subst IsAtEnd gives.2 at_end in
    let left : o.0 ≡ [] = gives.1 ∙ ap (λ (m : ℕ). take m buf ++ gives.0) nothing_read ∙ nothing in
    let all : o.1 ++ due k ≡ o.1 = ap (λ l. o.1 ++ l) (waits_due k waits) ∙ append-nil o.1 in
    let held : k.held ++ o.0 ≡ k.held = ap (λ l. k.held ++ l) left ∙ append-nil k.held in
    let is_torn : IsTorn k.held = (some, waits.part) in
    (subst IsTorn (sym held) is_torn, gives.2 ∙ ap (λ l. Some (l, o.1)) nothing ∙ ap (λ l. Some ([], l)) (sym all))
