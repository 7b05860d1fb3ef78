-- How views are cut in two, and made one (own).
use Rattle.std.specs.Prelude.{false, ℕ, ◌+◌, ◌-◌, ◌^◌, List, [], ◌∷◌, drop, Option, None, Some}
use Rattle.counted_handles.specs.declared.view.Mark.{Mark}
use Rattle.counted_handles.specs.declared.view.Publishing.{Publishing}
use Rattle.counted_handles.specs.declared.view.Reading.{Reading}
use Rattle.counted_handles.specs.declared.view.Hold.{Hold}
use Rattle.counted_handles.specs.declared.view.Hold.TheVariants.{Once, Double, Loose, Mixed}
use Rattle.counted_handles.specs.declared.view.View.{View}
use Rattle.counted_handles.specs.declared.view.View.TheVariants.{Publishes, Reads, Hosts, Has, HasWeakly, Gone}

-- the owner of a share; none is spent (own)
abbrev pub owner_view : {T : Type 0} → Option (Mark T) → View T
owner_view None = Gone
owner_view (Some mark) = Has mark

-- the owner of a share that is alone (own)
abbrev pub once_view : {T : Type 0} → Option (Hold T) → View T
once_view None = Gone
once_view (Some (Once mark)) = Has mark
once_view (Some (Double mark)) = Gone
once_view (Some (Loose tie seen)) = Gone
once_view (Some (Mixed mark tie)) = Gone

-- a share goes to a seat of its own: what the reader or the publisher keeps, and what the new seat has (own)
abbrev pub kept_share : {T : Type 0} → View T → View T
kept_share (Reads r) = Reads (record r { share = None })
kept_share (Publishes p) = Publishes (record p { share = None })
kept_share view = view

abbrev pub given_share : {T : Type 0} → View T → View T
given_share (Reads r) = owner_view r.share
given_share (Publishes p) = once_view p.share
given_share view = Gone

-- a reader with so many of the publisher's grants, which has seen all that is published (own)
abbrev pub reader_of : {T : Type 0} → Publishing T → ℕ → View T
reader_of p n = Reads (record { seen = p.published; share = None; left = n; gone = []; name = p.name })

-- the same, with what a reader that the publisher took in has seen buried (own)
abbrev pub met_by : {T : Type 0} → Publishing T → List ℕ → ℕ → View T
met_by p gone n = Reads (record { seen = p.published; share = None; left = n; gone = gone; name = p.name })

-- what the reader taken in last has seen buried (own)
abbrev pub gone_of : {T : Type 0} → List (Reading T) → List ℕ
gone_of [] = []
gone_of (r ∷ rest) = r.gone

-- the publisher without these grants, and with one reader more (own)
abbrev pub with_reader : {T : Type 0} → Publishing T → ℕ → Publishing T
with_reader p n = record p { left = p.left - n; readers = p.readers + 1; fixed = None }

-- a reader's seat is taken in by the publisher's, with its grants: it is to be given back (own)
abbrev pub lodged : {T : Type 0} → Publishing T → Reading T → Publishing T
lodged p r = record p { left = p.left + r.left; readers = p.readers - 1; guests = r ∷ p.guests }

abbrev pub lodging : {T : Type 0} → View T → View T → View T
lodging (Publishes p) (Reads r) = Publishes (lodged p r)
lodging view guest = view

-- the reader taken in last is given back: what the publisher keeps, and what the reader has (own)
abbrev pub without_guest : {T : Type 0} → Publishing T → Reading T → List (Reading T) → Publishing T
without_guest p r rest = record p { left = p.left - r.left; readers = p.readers + 1; fixed = None; guests = rest }

abbrev pub kept_by_host : {T : Type 0} → Publishing T → List (Reading T) → View T
kept_by_host p [] = Publishes p
kept_by_host p (r ∷ rest) = Publishes (without_guest p r rest)

abbrev pub kept_home : {T : Type 0} → View T → View T
kept_home (Publishes p) = kept_by_host p p.guests
kept_home view = view

abbrev pub last_guest : {T : Type 0} → List (Reading T) → View T
last_guest [] = Gone
last_guest (r ∷ rest) = Reads r

abbrev pub sent_home : {T : Type 0} → View T → View T
sent_home (Publishes p) = last_guest p.guests
sent_home view = Gone

-- all grants go to a reader: what the publisher keeps, and what the reader has (own)
abbrev pub kept_back : {T : Type 0} → View T → View T
kept_back (Publishes p) = Publishes (with_reader p p.left)
kept_back view = view

abbrev pub handed_back : {T : Type 0} → View T → View T
handed_back (Publishes p) = reader_of p p.left
handed_back view = Gone

-- the reader taken in last is given back with all grants, and has then seen all that is published: what the publisher keeps (own)
abbrev pub met_guest : {T : Type 0} → Publishing T → Publishing T
met_guest p = record p { left = p.left - p.left; readers = p.readers + 1; fixed = None; guests = drop 1 p.guests }

abbrev pub kept_met : {T : Type 0} → View T → View T
kept_met (Publishes p) = Publishes (met_guest p)
kept_met view = view

-- the grants of one of the readers of a new cell, where nobody asks for fewer (own)
abbrev pub dealt_grants : ℕ
dealt_grants = 2 ^ 40

-- so many grants go to a reader of a new cell: what the publisher keeps, and what the reader has (own)
abbrev pub kept_dealt : {T : Type 0} → ℕ → View T → View T
kept_dealt n (Publishes p) = Publishes (with_reader p n)
kept_dealt n view = view

abbrev pub dealt : {T : Type 0} → ℕ → View T → View T
dealt n (Publishes p) = reader_of p n
dealt n view = Gone

-- what the reader has that is given back so (own)
abbrev pub handed_met : {T : Type 0} → View T → View T
handed_met (Publishes p) = met_by p (gone_of p.guests) p.left
handed_met view = Gone

-- a reader takes an owner in, weak or strong (own)
abbrev pub hosting : {T : Type 0} → View T → View T → View T
hosting (Reads r) (Has mark) = Hosts r (Once mark)
hosting (Reads r) (HasWeakly tie) = Hosts r (Loose tie false)
hosting view guest = view

-- what it has gained goes off: what it keeps, and what the new seat has (own)
abbrev pub less : {T : Type 0} → Hold T → Hold T
less (Once mark) = Once mark
less (Double mark) = Once mark
less (Loose tie seen) = Loose tie seen
less (Mixed mark tie) = Loose tie false

abbrev pub gained : {T : Type 0} → Hold T → View T
gained (Once mark) = Gone
gained (Double mark) = Has mark
gained (Loose tie seen) = Gone
gained (Mixed mark tie) = Has mark

abbrev pub kept_gain : {T : Type 0} → View T → View T
kept_gain (Hosts r hold) = Hosts r (less hold)
kept_gain view = view

abbrev pub given_gain : {T : Type 0} → View T → View T
given_gain (Hosts r hold) = gained hold
given_gain view = Gone

-- the owner that it has taken in goes off again (own)
abbrev pub lone_view : {T : Type 0} → Hold T → View T
lone_view (Once mark) = Has mark
lone_view (Double mark) = Gone
lone_view (Loose tie seen) = HasWeakly tie
lone_view (Mixed mark tie) = Gone

abbrev pub kept_reader : {T : Type 0} → View T → View T
kept_reader (Hosts r hold) = Reads r
kept_reader view = view

abbrev pub given_owner : {T : Type 0} → View T → View T
given_owner (Hosts r hold) = lone_view hold
given_owner view = Gone

-- the publisher takes an owner in (own)
abbrev pub sharing : {T : Type 0} → View T → View T → View T
sharing (Publishes p) (Has mark) = Publishes (record p { share = Some (Once mark) })
sharing view guest = view

-- a weak owner goes off the publisher: what it keeps, and what the weak owner's seat has (own)
abbrev pub untied : {T : Type 0} → Option (Hold T) → Option (Hold T)
untied None = None
untied (Some (Once mark)) = Some (Once mark)
untied (Some (Double mark)) = Some (Double mark)
untied (Some (Loose tie seen)) = Some (Loose tie seen)
untied (Some (Mixed mark tie)) = Some (Once mark)

abbrev pub tie_view : {T : Type 0} → Option (Hold T) → View T
tie_view None = Gone
tie_view (Some (Once mark)) = Gone
tie_view (Some (Double mark)) = Gone
tie_view (Some (Loose tie seen)) = Gone
tie_view (Some (Mixed mark tie)) = HasWeakly tie

abbrev pub kept_untied : {T : Type 0} → View T → View T
kept_untied (Publishes p) = Publishes (record p { share = untied p.share })
kept_untied view = view

abbrev pub given_tie : {T : Type 0} → View T → View T
given_tie (Publishes p) = tie_view p.share
given_tie view = Gone
