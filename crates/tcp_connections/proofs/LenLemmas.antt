-- How many connections there are, and how many have ended.
use Rattle.std.proofs.Common.{◌≡◌, ◌≢◌, refl, ℕ, ◌+◌, sym, ap, subst, Option, None, Some, OnSome, is_some, cond, arith}
use Rattle.std.proofs.lemmas.List.Sums.{sum_by-set}
use Rattle.slab.specs.Slab.{Slab, get, with_value, ContainsKey, slab_len}
use Rattle.slab.proofs.SlabLemmas.{ContainsKey-within}
use Rattle.requests.specs.declared.stream_end.StreamEnd.{StreamEnd}
use Rattle.tcp_connections.specs.declared.waiting.Waiting.{Waiting}
use Rattle.tcp_connections.specs.declared.waiting.Waiting.TheVariants.{Answer}
use Rattle.tcp_connections.specs.Ends.{one_more, one_late, one_slow, Counts, none, one, late, slow, AreCounted}
use Rattle.tcp_connections.specs.declared.ends.Ends.{Ends}

-- what holds where there is a value
pub where_some : {L P : Type 0} (result : Option L) (value : L) → result ≡ Some value → OnSome result P → P
where_some (Some other) value is holds = holds
where_some None value is holds = absurd (let none : ⊥ = cc (is) in none)

-- as many as before a write through one of them
pub len_kept : {L : Type 0} (s : Slab L) (key : ℕ) (old value : L) → Some old ≡ get s key → ContainsKey s key → slab_len (with_value s key value) ≡ slab_len s
len_kept {L} s key old value found present =
    let moved = sum_by-set (λ (o : Option L). cond (is_some o) 1 0) s.slots key (Some value) None (ContainsKey-within s key present) in
    let one : ◌≡◌ {A = ℕ} (cond (is_some (get s key)) 1 0) 1 = ap (λ (o : Option L). cond (is_some o) 1 0) (sym found) in
    omega (arith, moved, one)

-- so many, and so many more
pub counts_more : (a b c : Ends) (front back both : ℕ) → Counts a front b → Counts b back c → both ≡ front + back → Counts a both c
counts_more a b c front back both first none same = subst (λ (n : ℕ). Counts a n b) (omega (arith, same)) first
counts_more a b c front back both first (one {number = number} {ends = ends} end before up is) same = one end (counts_more a b ends front number (front + number) first before refl) (omega (arith, same, up)) is
counts_more a b c front back both first (late {number = number} {ends = ends} awaited waits before up is) same = late awaited waits (counts_more a b ends front number (front + number) first before refl) (omega (arith, same, up)) is
counts_more a b c front back both first (slow {number = number} {ends = ends} before up is) same = slow (counts_more a b ends front number (front + number) first before refl) (omega (arith, same, up)) is

-- connections that have ended, and more that have
pub counted_then : (old mid new : Ends) (before between left : ℕ) → AreCounted old mid before between → AreCounted mid new between left → AreCounted old new before left
counted_then old mid new before between left first second =
    (first.0 + second.0, counts_more old mid new first.0 second.0 (first.0 + second.0) first.1 second.1 refl, omega (arith, first.2, second.2))

-- none has ended
pub counted_none : (ends : Ends) (before left : ℕ) → left ≡ before → AreCounted ends ends before left
counted_none ends before left same = (0, none, omega (arith, same))

-- one has ended
pub counted_one : (ends new : Ends) (before left : ℕ) (end : StreamEnd) → new ≡ one_more end ends → left + 1 ≡ before → AreCounted ends new before left
counted_one ends new before left end is same = (1, one end none refl is, same)

-- one is over
pub counted_late : (ends new : Ends) (before left : ℕ) (awaited : Waiting) → awaited ≢ Answer → new ≡ one_late awaited ends → left + 1 ≡ before → AreCounted ends new before left
counted_late ends new before left awaited waits is same = (1, late awaited waits none refl is, same)

-- one is over, since its peer took too slowly
pub counted_slow : (ends new : Ends) (before left : ℕ) → new ≡ one_slow ends → left + 1 ≡ before → AreCounted ends new before left
counted_slow ends new before left is same = (1, slow none refl is, same)
