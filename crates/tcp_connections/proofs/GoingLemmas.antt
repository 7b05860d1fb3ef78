-- What was answered still is when a connection goes on, and where it ends.
use Rattle.std.proofs.Common.{◌≡◌, ◌≢◌, refl, ℕ, List, [], ◌++◌, Option, None, Some, IfSome, Result, Ok, Err, IfOk, OnErr, sym, ap, ◌∙◌, subst, append_assoc}
use Rattle.dns_message.specs.Frame.{frame_of}
use Rattle.requests.specs.Octets.{frames_of}
use Rattle.tcp_connections.specs.Served.{Knowledge, Extends, Served, EndsAs}
use Rattle.tcp_connections.specs.Exchange.{Exchange}
use Rattle.tcp_connections.proofs.TurnLemmas.{extends_more, served_more, known_first}
use Rattle.requests.specs.declared.stream_end.StreamEnd.{StreamEnd}
use Rattle.requests.specs.declared.stream_end.StreamEnd.TheVariants.{Clean, Torn, Device, Spent, NoMemory}
use Rattle.tcp_connections.specs.Kept.{Kept, due, told_by}
use Rattle.tcp_connections.specs.declared.step.Step.{Step}
use Rattle.tcp_connections.specs.declared.step.Step.TheVariants.{More, Done, Full, Blocked, Later}
use Rattle.tcp_connections.specs.StreamOctets.{Stays, Writes, EndsTold}
use Rattle.tcp_connections.specs.Going.{Known, Goes, Keeps, PartlyTold, Ends, Stops}

abbrev written_of : Option (List ℕ × List ℕ) → List ℕ
written_of None = []
written_of (Some p) = p.1

module _ {T : Type 0} (IsReply : Knowledge T → Knowledge T → List ℕ → List (List ℕ) → Type 0) where
  served_seen : (start seen later : Knowledge T) (old new : List ℕ × List ℕ) → Served IsReply start old seen new → Extends later seen → Served IsReply start old later new
  served_seen start seen later old new s grows = record {
    requests = s.requests;
    octets = s.octets;
    last = s.last;
    answers = s.answers;
    grown = extends_more s.last seen later s.grown grows;
    input = s.input;
    output = s.output;
  }

  known_stays : (start seen : Knowledge T) (old a b : Option (List ℕ × List ℕ)) → Stays a b → Known IsReply start old seen a → Known IsReply start old seen b
  known_stays start seen None a b stays known = tt
  known_stays start seen (Some o) a b stays known = (known.0, subst (λ m. Stays m b) known.1 stays, known.2)

  known_seen : (start seen later : Knowledge T) (old a : Option (List ℕ × List ℕ)) → Extends later seen → Known IsReply start old seen a → Known IsReply start old later a
  known_seen start seen later None a grows known = tt
  known_seen start seen later (Some o) a grows known = (known.0, known.1, served_seen start seen later o known.0 known.2 grows)

  -- one request more is answered
  known_turn : (start seen later : Knowledge T) (old octets : Option (List ℕ × List ℕ)) (k m : Kept) → Exchange IsReply seen (k.held, due k) later (m.held, due m) → Known IsReply start old seen (told_by k octets) → Known IsReply start old later (told_by m octets)
  known_turn start seen later None octets k m t known = tt
  known_turn start seen later (Some o) None k m t known = absurd (let none : ⊥ = cc (known.1) in none)
  known_turn start seen later (Some o) (Some p) k m t known =
      let mid : List ℕ × List ℕ = (k.held ++ p.0, p.1 ++ due k) in
      let same : known.0 ≡ mid = cc (known.1) in
      let served : Served IsReply start o seen mid = subst (λ n. Served IsReply start o seen n) same known.2 in
      let next : List ℕ × List ℕ = (m.held ++ p.0, p.1 ++ due m) in
      let made : Exchange IsReply seen mid later next = record {
        request = t.request;
        messages = t.messages;
        grows = t.grows;
        reply = t.reply;
        input = ap (λ l. l ++ p.0) t.input ∙ append_assoc (frame_of t.request) m.held p.0;
        output = ap (λ l. p.1 ++ l) t.output ∙ sym (append_assoc p.1 (due k) (frames_of t.messages));
      } in
      (next, refl, served_more IsReply start seen later o mid next served made)

  pub goes_itself : (seen : Knowledge T) (a : Option (List ℕ × List ℕ)) → Goes IsReply seen a seen a
  goes_itself seen a = λ start old known. known

  pub goes_more : (seen mid later : Knowledge T) (a b c : Option (List ℕ × List ℕ)) → Goes IsReply seen a mid b → Goes IsReply mid b later c → Goes IsReply seen a later c
  goes_more seen mid later a b c first then = λ start old known. then start old (first start old known)

  pub goes_stays : (seen : Knowledge T) (a b : Option (List ℕ × List ℕ)) → Stays a b → Goes IsReply seen a seen b
  goes_stays seen a b stays = λ start old known. known_stays start seen old a b stays known

  -- more is known, and nothing else is done
  pub goes_seen : (seen later : Knowledge T) (a : Option (List ℕ × List ℕ)) → Extends later seen → Goes IsReply seen a later a
  goes_seen seen later a grows = λ start old known. known_seen start seen later old a grows known

  pub keeps_itself : (seen : Knowledge T) (k : Kept) → Keeps IsReply seen k seen k
  keeps_itself seen k = λ octets start old known. known

  pub keeps_more : (seen mid later : Knowledge T) (k m n : Kept) → Keeps IsReply seen k mid m → Keeps IsReply mid m later n → Keeps IsReply seen k later n
  keeps_more seen mid later k m n first then = λ octets start old known. then octets start old (first octets start old known)

  pub keeps_turn : (seen later : Knowledge T) (k m : Kept) → Exchange IsReply seen (k.held, due k) later (m.held, due m) → Keeps IsReply seen k later m
  keeps_turn seen later k m t = λ octets start old known. known_turn start seen later old octets k m t known

  pub keeps_same : (seen later : Knowledge T) (k m : Kept) → Extends later seen → m ≡ k → Keeps IsReply seen k later m
  keeps_same seen later k m grows same = λ octets start old known.
      subst (λ (n : Kept). Known IsReply start old later (told_by n octets)) (sym same) (known_seen start seen later old (told_by k octets) grows known)

  -- a request is answered, or nothing changes
  pub keeps_step : (seen later : Knowledge T) (k m : Kept) (result : Result Step StreamEnd) → Extends later seen → (result ≡ Ok More → Exchange IsReply seen (k.held, due k) later (m.held, due m)) → IfOk result (λ step. step ≢ More → m ≡ k) → OnErr result (m ≡ k) → Keeps IsReply seen k later m
  keeps_step seen later k m (Ok More) grows made same ended = keeps_turn seen later k m (made refl)
  keeps_step seen later k m (Ok Done) grows made same ended = keeps_same seen later k m grows (same (λ is. cc))
  keeps_step seen later k m (Ok Full) grows made same ended = keeps_same seen later k m grows (same (λ is. cc))
  keeps_step seen later k m (Ok Blocked) grows made same ended = keeps_same seen later k m grows (same (λ is. cc))
  keeps_step seen later k m (Ok Later) grows made same ended = keeps_same seen later k m grows (same (λ is. cc))
  keeps_step seen later k m (Err end) grows made same ended = keeps_same seen later k m grows ended

  partly : (start seen : Knowledge T) (o p : List ℕ × List ℕ) (new : Option (List ℕ × List ℕ)) → Known IsReply start (Some o) seen (Some p) → EndsTold Device (Some p) new → PartlyTold IsReply start o seen new
  partly start seen o p new known ends =
      let same : known.0 ≡ p = cc (known.1) in
      record {
        left = ends.0;
        front = ends.1;
        back = ends.2;
        whole = p;
        served = subst (λ n. Served IsReply start o seen n) same known.2;
        written = ends.3;
        now = ends.4;
      }

  ends_known : (end : StreamEnd) (start seen : Knowledge T) (o : List ℕ × List ℕ) (reported new : Option (List ℕ × List ℕ)) → Known IsReply start (Some o) seen reported → EndsTold end reported new → Ends IsReply end start o seen new
  ends_known end start seen o None new known ends = absurd (let none : ⊥ = cc (known.1) in none)
  ends_known Clean start seen o (Some p) new known ends =
      let same : known.0 ≡ p = cc (known.1) in
      let served : Served IsReply start o seen p = subst (λ n. Served IsReply start o seen n) same known.2 in
      (p.1, ends.1, subst (λ l. Served IsReply start o seen (l, p.1)) ends.0 served)
  ends_known Torn start seen o (Some p) new known ends =
      let same : known.0 ≡ p = cc (known.1) in
      let served : Served IsReply start o seen p = subst (λ n. Served IsReply start o seen n) same known.2 in
      (p.0, p.1, ends.1, ends.0, served)
  ends_known Device start seen o (Some p) new known ends = partly start seen o p new known ends
  ends_known Spent start seen o (Some p) new known ends = partly start seen o p new known ends
  ends_known NoMemory start seen o (Some p) new known ends = partly start seen o p new known ends

  ends_if : (end : StreamEnd) (start seen : Knowledge T) (old reported new : Option (List ℕ × List ℕ)) → Known IsReply start old seen reported → EndsTold end reported new → IfSome old (λ o. Ends IsReply end start o seen new)
  ends_if end start seen None reported new known ends = tt
  ends_if end start seen (Some o) reported new known ends = ends_known end start seen o reported new known ends

  pub stops_told : (end : StreamEnd) (seen later : Knowledge T) (a b new : Option (List ℕ × List ℕ)) → Goes IsReply seen a later b → EndsTold end b new → Stops IsReply end seen a later new
  stops_told end seen later a b new goes ends = λ start old known. ends_if end start later old b new (goes start old known) ends

  pub stops_more : (end : StreamEnd) (seen mid later : Knowledge T) (a b new : Option (List ℕ × List ℕ)) → Goes IsReply seen a mid b → Stops IsReply end mid b later new → Stops IsReply end seen a later new
  stops_more end seen mid later a b new goes stops = λ start old known. stops start old (goes start old known)

  whole : (start seen : Knowledge T) (o : List ℕ × List ℕ) (new : Option (List ℕ × List ℕ)) → Writes (Some o) new → PartlyTold IsReply start o seen new → EndsAs IsReply Device start o seen new
  whole start seen o new writes p =
      let front : p.front ≡ o.1 ++ writes.1 = ap (λ (m : Option (List ℕ × List ℕ)). written_of m) (sym p.now ∙ writes.2) in
      record {
        left = p.left;
        front = writes.1;
        back = p.back;
        whole = p.whole;
        served = p.served;
        written = p.written ∙ ap (λ l. l ++ p.back) front;
        now = p.now ∙ ap (λ l. Some (p.left, l)) front;
      }

  ends_whole : (end : StreamEnd) (start seen : Knowledge T) (o : List ℕ × List ℕ) (new : Option (List ℕ × List ℕ)) → Writes (Some o) new → Ends IsReply end start o seen new → EndsAs IsReply end start o seen new
  ends_whole Clean start seen o new writes ends = ends
  ends_whole Torn start seen o new writes ends = ends
  ends_whole Device start seen o new writes ends = whole start seen o new writes ends
  ends_whole Spent start seen o new writes ends = whole start seen o new writes ends
  ends_whole NoMemory start seen o new writes ends = whole start seen o new writes ends

  -- what was written stays in front, so that an end from a stream's beginning is one of the whole stream
  pub stream_ends : (end : StreamEnd) (seen later : Knowledge T) (a new : Option (List ℕ × List ℕ)) → Stops IsReply end seen a later new → Writes a new → IfSome a (λ o. EndsAs IsReply end seen o later new)
  stream_ends end seen later None new stops writes = tt
  stream_ends end seen later (Some o) new stops writes = ends_whole end seen later o new writes (stops seen (Some o) (known_first IsReply seen (Some o)))
