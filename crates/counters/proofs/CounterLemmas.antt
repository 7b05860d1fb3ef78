-- No two counters have the same place: each stands at its own place in a list of all.
use Rattle.std.proofs.Common.{◌≡◌, ◌≢◌, refl, sym, ap, ◌∙◌, ℕ, List, [], ◌∷◌, ◌++◌, map, Some, slice_get, get_or, get_or-set_other}
use Rattle.counters.specs.declared.counter.Counter.{Counter}
use Rattle.counters.specs.declared.counter.Counter.TheVariants.{Request, Opcode, Question, Reply, Truncated, Dropped, ReceivedOctets, SentOctets, Update, UpdateChanged, UpdateRefused, Transfer, ConnectionOpened, ConnectionEnded, StoreBatch, StoreUpdate, StoreCompaction}
use Rattle.counters.specs.declared.opcode.Opcode.TheVariants as opcode
use Rattle.counters.specs.declared.qtype.Qtype.TheVariants as qtype
use Rattle.counters.specs.declared.rcode.Rcode.TheVariants as rcode
use Rattle.counters.specs.declared.transport.Transport.TheVariants as transport
use Rattle.counters.specs.declared.address_family.AddressFamily.TheVariants as address_family
use Rattle.counters.specs.declared.refusal.Refusal.TheVariants as refusal
use Rattle.counters.specs.declared.transfer.Transfer.TheVariants as transfer
use Rattle.counters.specs.declared.connection_end.ConnectionEnd.TheVariants as connection_end
use Rattle.counters.specs.Opcodes.{all_opcodes}
use Rattle.counters.specs.Qtypes.{all_qtypes}
use Rattle.counters.specs.Rcodes.{all_rcodes}
use Rattle.counters.specs.Refusals.{all_refusals}
use Rattle.counters.specs.Transfers.{all_transfers}
use Rattle.counters.specs.ConnectionEnds.{all_connection_ends}
use Rattle.counters.specs.Counter.{counter_index, CountersDiffer}
use Rattle.counters.specs.Sums.{both, more_at}
use Rattle.counters.specs.Counters.{number_of}

-- all, in the order of their places
abbrev pub all_counters : List Counter
all_counters = (Request transport.Udp address_family.V4 ∷ (Request transport.Udp address_family.V6 ∷ (Request transport.Tcp address_family.V4 ∷ (Request transport.Tcp address_family.V6 ∷ [])))) ++ (map Opcode all_opcodes ++ (map Question all_qtypes ++ (map Reply all_rcodes ++ ((Truncated ∷ []) ++ ((Dropped ∷ []) ++ ((ReceivedOctets ∷ []) ++ ((SentOctets ∷ []) ++ (map Update all_rcodes ++ ((UpdateChanged ∷ []) ++ (map UpdateRefused all_refusals ++ (map Transfer all_transfers ++ ((ConnectionOpened ∷ []) ++ (map ConnectionEnded all_connection_ends ++ ((StoreBatch ∷ []) ++ ((StoreUpdate ∷ []) ++ ((StoreCompaction ∷ [])))))))))))))))))

-- each stands at its own place
stands : (c : Counter) → slice_get all_counters (counter_index c) ≡ Some c
stands (Request transport.Udp address_family.V4) = refl
stands (Request transport.Udp address_family.V6) = refl
stands (Request transport.Tcp address_family.V4) = refl
stands (Request transport.Tcp address_family.V6) = refl
stands (Opcode opcode.Query) = refl
stands (Opcode opcode.Iquery) = refl
stands (Opcode opcode.Status) = refl
stands (Opcode opcode.Notify) = refl
stands (Opcode opcode.Update) = refl
stands (Opcode opcode.Dso) = refl
stands (Opcode opcode.Other) = refl
stands (Question qtype.A) = refl
stands (Question qtype.Ns) = refl
stands (Question qtype.Cname) = refl
stands (Question qtype.Soa) = refl
stands (Question qtype.Ptr) = refl
stands (Question qtype.Mx) = refl
stands (Question qtype.Txt) = refl
stands (Question qtype.Aaaa) = refl
stands (Question qtype.Srv) = refl
stands (Question qtype.Naptr) = refl
stands (Question qtype.Ds) = refl
stands (Question qtype.Sshfp) = refl
stands (Question qtype.Dnskey) = refl
stands (Question qtype.Tlsa) = refl
stands (Question qtype.Svcb) = refl
stands (Question qtype.Https) = refl
stands (Question qtype.Ixfr) = refl
stands (Question qtype.Axfr) = refl
stands (Question qtype.Any) = refl
stands (Question qtype.Caa) = refl
stands (Question qtype.Other) = refl
stands (Reply rcode.NoError) = refl
stands (Reply rcode.FormErr) = refl
stands (Reply rcode.ServFail) = refl
stands (Reply rcode.NxDomain) = refl
stands (Reply rcode.NotImp) = refl
stands (Reply rcode.Refused) = refl
stands (Reply rcode.YxDomain) = refl
stands (Reply rcode.YxRrset) = refl
stands (Reply rcode.NxRrset) = refl
stands (Reply rcode.NotAuth) = refl
stands (Reply rcode.NotZone) = refl
stands (Reply rcode.BadVers) = refl
stands (Reply rcode.Other) = refl
stands Truncated = refl
stands Dropped = refl
stands ReceivedOctets = refl
stands SentOctets = refl
stands (Update rcode.NoError) = refl
stands (Update rcode.FormErr) = refl
stands (Update rcode.ServFail) = refl
stands (Update rcode.NxDomain) = refl
stands (Update rcode.NotImp) = refl
stands (Update rcode.Refused) = refl
stands (Update rcode.YxDomain) = refl
stands (Update rcode.YxRrset) = refl
stands (Update rcode.NxRrset) = refl
stands (Update rcode.NotAuth) = refl
stands (Update rcode.NotZone) = refl
stands (Update rcode.BadVers) = refl
stands (Update rcode.Other) = refl
stands UpdateChanged = refl
stands (UpdateRefused refusal.Permission) = refl
stands (UpdateRefused refusal.Signature) = refl
stands (UpdateRefused refusal.Prerequisite) = refl
stands (UpdateRefused refusal.Form) = refl
stands (UpdateRefused refusal.Failure) = refl
stands (Transfer transfer.Axfr) = refl
stands (Transfer transfer.AxfrRefused) = refl
stands (Transfer transfer.Ixfr) = refl
stands (Transfer transfer.IxfrFull) = refl
stands (Transfer transfer.IxfrCurrent) = refl
stands (Transfer transfer.IxfrRefused) = refl
stands ConnectionOpened = refl
stands (ConnectionEnded connection_end.Done) = refl
stands (ConnectionEnded connection_end.Idle) = refl
stands (ConnectionEnded connection_end.Limit) = refl
stands (ConnectionEnded connection_end.Fault) = refl
stands StoreBatch = refl
stands StoreUpdate = refl
stands StoreCompaction = refl

same_some : (a b : Counter) → Some a ≡ Some b → a ≡ b
same_some a b e = cc

pub differ : CountersDiffer
differ a b e = same_some a b (sym (stands a) ∙ (ap (slice_get all_counters) e ∙ stands b))

-- where one number goes up, the others stay
pub others_stay : (a b : Counter) (more : ℕ) (numbers : List ℕ) → b ≢ a → number_of b (more_at (counter_index a) more numbers) ≡ number_of b numbers
others_stay a b more numbers other = get_or-set_other numbers (counter_index a) (counter_index b) (both (number_of a numbers) more) 0 (λ e. other (differ b a e))
