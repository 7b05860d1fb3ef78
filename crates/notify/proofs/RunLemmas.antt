-- A run of the machine is a course of each secondary.
use Rattle.std.proofs.Common.{◌≡◌, Bool, ℕ, ◌+◌, ◌-◌, ◌^◌, ◌≤◌, true, false, List, [], ◌∷◌, ◌++◌, map, take, Option, None, Some, refl, sym, ap, subst, ◌∙◌, arith}
use Rattle.std.proofs.lemmas.Bool.Decides.{nat_tests}
use Rattle.std.specs.Prelude.{◌==◌, min, if◌then◌else◌}
use Rattle.std.specs.List.{AllByRecursion}
use Rattle.std.specs.declared.net.socket_addr.SocketAddr.{SocketAddr}
use Rattle.dns_name.specs.Name.{Name}
use Rattle.dns_rdata.specs.Record.{Record}
use Rattle.notify.specs.Course.{Sending, sending_of, Course, begins as starts, passes, reported, silent, answered}
use Rattle.notify.specs.Notified.{Notified, untold, shown}
use Rattle.notify.specs.Notify.{notify_octets}
use Rattle.notify.specs.Copies.{told_first, told_again, next_notify, is_due, falls_silent, as_silent, as_notified, is_answered_by, as_answered}
use Rattle.notify.specs.Turns.{IsFirst, TurnsAs, GoesOn, IsAnsweredBy, Hears}
use Rattle.notify.specs.Runs.{Posted, posted, Run, begins, shows, goes, hears, AreDistinct, IsSentTo, none, its, others, IsNotify, AreNotifies, TakesCourse}
use Rattle.notify.specs.declared.due.Due.{Due}
use Rattle.notify.specs.declared.due.Due.TheVariants.{Send, Silent}
use Rattle.notify.specs.declared.due.Heard.{Heard}
use Rattle.notify.specs.declared.secondary.Secondary.{Secondary}
use Rattle.notify.specs.declared.secondary.Telling.{Telling}

-- a secondary's address
abbrev address_of : Secondary → SocketAddr
address_of s = s.address

-- what went to another address stays
other_own : (a : SocketAddr) (post : Posted) (sent own : List Posted) → (post.to ≡ a → ⊥) → IsSentTo a (post ∷ sent) own → IsSentTo a sent own
other_own a post sent own other (its to rest) = absurd (other to)
other_own a post sent own other (others away rest) = rest

-- what went to an address is in front of what went there before
its_own : (a : SocketAddr) (post : Posted) (sent own : List Posted) → post.to ≡ a → IsSentTo a (post ∷ sent) own → (before : List Posted) × (own ≡ post ∷ before) × IsSentTo a sent before
its_own a post sent own to (its {own = before} there rest) = (before, refl, rest)
its_own a post sent own to (others away rest) = absurd (away to)

-- nothing went to any where nothing was sent
none_own : (a : SocketAddr) (own : List Posted) → IsSentTo a [] own → own ≡ []
none_own a own none = refl

starts_course : (a : SocketAddr) (time : ℕ) → TakesCourse [] time (untold a)
starts_course a time own is = ([], subst (λ (posts : List Posted). AreNotifies posts []) (sym (none_own a own is)) tt, starts a refl refl)

start_courses : (addresses : List SocketAddr) → AllByRecursion (TakesCourse [] 0) (map untold addresses)
start_courses [] = tt
start_courses (a ∷ addresses) = (starts_course a 0, start_courses addresses)

start_addresses : (addresses : List SocketAddr) → map address_of (map untold addresses) ≡ addresses
start_addresses [] = refl
start_addresses (a ∷ addresses) = ap (λ (more : List SocketAddr). a ∷ more) (start_addresses addresses)

-- time passes
passes_course : (sent : List Posted) (time later : ℕ) (s : Secondary) → time ≤ later → TakesCourse sent time s → TakesCourse sent later s
passes_course sent time later s passed course own is = let c = course own is in (c.0, c.1, passes c.2 passed)

passes_courses : (sent : List Posted) (time later : ℕ) (ss : List Secondary) → time ≤ later → AllByRecursion (TakesCourse sent time) ss → AllByRecursion (TakesCourse sent later) ss
passes_courses sent time later [] passed courses = tt
passes_courses sent time later (s ∷ ss) passed courses = (passes_course sent time later s passed courses.0, passes_courses sent time later ss passed courses.1)

-- what goes to another one leaves a course as it is
other_course : (post : Posted) (sent : List Posted) (time : ℕ) (s : Secondary) → (post.to ≡ s.address → ⊥) → TakesCourse sent time s → TakesCourse (post ∷ sent) time s
other_course post sent time s other course own is = course own (other_own s.address post sent own other is)

-- the version that is told next is the one that is served
next_number : (number id time : ℕ) (tell : Option Telling) → number ≡ (next_notify number id time tell).number
next_number number id time None = refl
next_number number id time (Some t) = same (t.number == number) refl
  where
    same : (b : Bool) → (t.number == number) ≡ b → number ≡ (if b then told_again time t else told_first number id time).number
    same true is = grind (arith, nat_tests)
    same false is = refl

-- a NOTIFY goes on with a course
told_course : (number id : ℕ) (zone : List Record) (post : Posted) (sent : List Posted) (time : ℕ) (s : Secondary) → is_due time number s ≡ true → falls_silent s ≡ false
    → post.to ≡ s.address → post.octets ≡ notify_octets (next_notify number id time s.telling).id post.zone → post.number ≡ number → post.time ≡ time
    → TakesCourse sent time s → TakesCourse (post ∷ sent) time (as_notified (next_notify number id time s.telling) s)
told_course number id zone post sent time s due falls to octets numbered timed course own is =
    let parts = its_own s.address post sent own to is in
    let c = course parts.0 parts.2 in
    let next : Telling = next_notify number id time s.telling in
    let sending : Sending = sending_of next time in
    let notify : IsNotify post sending = record { octets = octets; number = numbered ∙ next_number number id time s.telling; time = timed } in
    (sending ∷ c.0, subst (λ (posts : List Posted). AreNotifies posts (sending ∷ c.0)) (sym parts.1) (notify, c.1), reported number id c.2 due falls refl refl)

silent_course : (number : ℕ) (sent : List Posted) (time : ℕ) (s : Secondary) → is_due time number s ≡ true → falls_silent s ≡ true → TakesCourse sent time s → TakesCourse sent time (as_silent s)
silent_course number sent time s due falls course own is = let c = course own is in (c.0, c.1, silent number c.2 due falls refl)

answered_course : (apex : Name) (octets : List ℕ) (sent : List Posted) (time : ℕ) (s : Secondary) → is_answered_by apex octets s ≡ true → TakesCourse sent time s → TakesCourse sent time (as_answered s)
answered_course apex octets sent time s heard course own is = let c = course own is in (c.0, c.1, answered apex octets c.2 heard refl)

-- a fact of all is one of each
picked : (R : SocketAddr → Type 0) (front : List Secondary) (s : Secondary) (back : List Secondary) → AllByRecursion R (map address_of (front ++ s ∷ back)) → R s.address
picked R [] s back all = all.0
picked R (x ∷ front) s back all = picked R front s back all.1

away_from : (P Q : Secondary → Type 0) (a : SocketAddr) → ((o : Secondary) → (a ≡ o.address → ⊥) → P o → Q o) → (ss : List Secondary)
    → AllByRecursion (λ other. a ≡ other → ⊥) (map address_of ss) → AllByRecursion P ss → AllByRecursion Q ss
away_from P Q a goes_over [] away ps = tt
away_from P Q a goes_over (o ∷ ss) away ps = (goes_over o away.0 ps.0, away_from P Q a goes_over ss away.1 ps.1)

-- one of a list changes, and all others are at other addresses
replaced : (P Q : Secondary → Type 0) (front : List Secondary) (s later : Secondary) (back : List Secondary) → ((o : Secondary) → (s.address ≡ o.address → ⊥) → P o → Q o) → (P s → Q later)
    → AreDistinct (map address_of (front ++ s ∷ back)) → AllByRecursion P (front ++ s ∷ back) → AllByRecursion Q (front ++ later ∷ back)
replaced P Q [] s later back goes_over turns distinct ps = (turns ps.0, away_from P Q s.address goes_over back distinct.0 ps.1)
replaced P Q (x ∷ front) s later back goes_over turns distinct ps =
    let away : x.address ≡ s.address → ⊥ = picked (λ other. x.address ≡ other → ⊥) front s back distinct.0 in
    (goes_over x (λ same. away (sym same)) ps.0, replaced P Q front s later back goes_over turns distinct.1 ps.1)

-- and stays at its own
same_addresses : (front : List Secondary) (s later : Secondary) (back : List Secondary) → later.address ≡ s.address → map address_of (front ++ later ∷ back) ≡ map address_of (front ++ s ∷ back)
same_addresses [] s later back same = ap (λ (a : SocketAddr). a ∷ map address_of back) same
same_addresses (x ∷ front) s later back same = ap (λ (more : List SocketAddr). x.address ∷ more) (same_addresses front s later back same)

-- what holds in a run: the addresses are those that were given, each secondary's course is taken, and time is a number of 64 bits
pub record Courses (addresses : List SocketAddr) (sent : List Posted) (n : Notified) : Type 0 where
  pub addresses_are : map address_of n.secondaries ≡ addresses
  pub courses : AllByRecursion (TakesCourse sent n.time) n.secondaries
  pub bound : n.time ≤ 2 ^ 64 - 1

-- one secondary changes
one_changes : (addresses : List SocketAddr) (sent more : List Posted) (old new : Notified) (front : List Secondary) (s later : Secondary) (back : List Secondary) → AreDistinct addresses → Courses addresses sent old
    → old.secondaries ≡ front ++ s ∷ back → later.address ≡ s.address → ((o : Secondary) → (s.address ≡ o.address → ⊥) → TakesCourse sent old.time o → TakesCourse more old.time o)
    → (TakesCourse sent old.time s → TakesCourse more old.time later) → new ≡ record old { secondaries = front ++ later ∷ back } → Courses addresses more new
one_changes addresses sent more old new front s later back distinct known parts same others_stay turns is =
    let there : map address_of (front ++ s ∷ back) ≡ addresses = ap (map address_of) (sym parts) ∙ known.addresses_are in
    let before : AllByRecursion (TakesCourse sent old.time) (front ++ s ∷ back) = subst (AllByRecursion (TakesCourse sent old.time)) parts known.courses in
    subst (Courses addresses more) (sym is) (record {
      addresses_are = same_addresses front s later back same ∙ there;
      courses = replaced (TakesCourse sent old.time) (TakesCourse more old.time) front s later back others_stay turns (subst AreDistinct (sym there) distinct) before;
      bound = known.bound;
    })

-- what becomes of a course by equal things
course_as : (sent : List Posted) (time : ℕ) (s later : Secondary) → later ≡ s → TakesCourse sent time s → TakesCourse sent time later
course_as sent time s later is course = subst (TakesCourse sent time) (sym is) course

goes_known : (addresses : List SocketAddr) (sent more : List Posted) (old new : Notified) (number id : ℕ) (zone : List Record) (due : Option Due) (out : List ℕ) → AreDistinct addresses → Courses addresses sent old
    → GoesOn number id zone old due out new → more ≡ posted number zone old.time due out sent → Courses addresses more new
goes_known addresses sent more old new number id zone None out distinct known (nothing, is) posts =
    subst (λ (m : List Posted). Courses addresses m new) (sym posts) (subst (Courses addresses sent) (sym is) known)
goes_known addresses sent more old new number id zone (Some (Silent to)) out distinct known (front, s, back, later, first, turns, is) posts =
    subst (λ (m : List Posted). Courses addresses m new) (sym posts)
    (one_changes addresses sent sent old new front s later back distinct known first.parts (ap address_of turns.2) (λ o other course. course)
    (λ course. course_as sent old.time (as_silent s) later turns.2 (silent_course number sent old.time s first.passes turns.0 course)) is)
goes_known addresses sent more old new number id zone (Some (Send to len)) out distinct known (front, s, back, later, first, turns, is) posts =
    let post : Posted = record { to = to; octets = take len out; number = number; zone = zone; time = old.time } in
    let next : Telling = next_notify number id old.time s.telling in
    subst (λ (m : List Posted). Courses addresses m new) (sym posts)
    (one_changes addresses sent (post ∷ sent) old new front s later back distinct known first.parts (ap address_of turns.4)
    (λ o other course. other_course post sent old.time o (λ same. other (sym turns.1 ∙ same)) course)
    (λ course. course_as (post ∷ sent) old.time (as_notified next s) later turns.4 (told_course number id zone post sent old.time s first.passes turns.0 turns.1 turns.2 refl refl course)) is)

hears_known : (addresses : List SocketAddr) (sent : List Posted) (old new : Notified) (apex : Name) (from : SocketAddr) (octets : List ℕ) (heard : Option Heard) → AreDistinct addresses → Courses addresses sent old
    → Hears apex from octets old heard new → Courses addresses sent new
hears_known addresses sent old new apex from octets None distinct known (nothing, is) = subst (Courses addresses sent) (sym is) known
hears_known addresses sent old new apex from octets (Some heard) distinct known (front, s, back, first, said, is) =
    one_changes addresses sent sent old new front s (as_answered s) back distinct known first.parts refl (λ o other course. course) (answered_course apex octets sent old.time s first.passes.1) is

later_time : (time now clock : ℕ) → time ≤ 2 ^ 64 - 1 → time ≤ min (time + (now - clock)) (2 ^ 64 - 1)
later_time time now clock bound = omega arith

within_time : (time : ℕ) → min time (2 ^ 64 - 1) ≤ 2 ^ 64 - 1
within_time time = omega arith

run_known : (addresses : List SocketAddr) (sent : List Posted) (n : Notified) → AreDistinct addresses → Run addresses sent n → Courses addresses sent n
run_known addresses sent n distinct (begins clock posts is) =
    subst (λ (m : List Posted). Courses addresses m n) (sym posts) (subst (Courses addresses []) (sym is)
    (record { addresses_are = start_addresses addresses; courses = start_courses addresses; bound = omega arith }))
run_known addresses sent n distinct (shows {old = old} now run is) =
    let known = run_known addresses sent old distinct run in
    subst (Courses addresses sent) (sym is) (record {
      addresses_are = known.addresses_are;
      courses = passes_courses sent old.time (shown now old).time old.secondaries (later_time old.time now old.clock known.bound) known.courses;
      bound = within_time (old.time + (now - old.clock));
    })
run_known addresses sent n distinct (goes {sent = before} {old = old} number id zone due out run goes_on posts) =
    goes_known addresses before sent old n number id zone due out distinct (run_known addresses before old distinct run) goes_on posts
run_known addresses sent n distinct (hears {old = old} apex from octets heard run heard_so) =
    hears_known addresses sent old n apex from octets heard distinct (run_known addresses sent old distinct run) heard_so

pub run_courses : (addresses : List SocketAddr) (sent : List Posted) (n : Notified) → AreDistinct addresses → Run addresses sent n → AllByRecursion (TakesCourse sent n.time) n.secondaries
run_courses addresses sent n distinct run = (run_known addresses sent n distinct run).courses

pub run_addresses : (addresses : List SocketAddr) (sent : List Posted) (n : Notified) → AreDistinct addresses → Run addresses sent n → map (λ s. s.address) n.secondaries ≡ addresses
run_addresses addresses sent n distinct run = (run_known addresses sent n distinct run).addresses_are
