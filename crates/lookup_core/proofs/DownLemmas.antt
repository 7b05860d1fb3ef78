-- Where a name stands, by the closest of it and its ancestors that exist: what is found there for the name as it is spelt.
use Rattle.std.proofs.Common.{◌≡◌, ◌↔◌, refl, sym, ap, subst, ◌∙◌, ℕ, ◌+◌, ◌-◌, ◌≤◌, Bool, true, false, ◌&&◌, not, cond, if◌then◌else◌, List, [], ◌∷◌, ◌++◌, length, map, drop, All, Option, None, Some, true≢false, arith, length-append, Bor}
use Rattle.std.specs.Prelude.{IsNone, IfSome}
use Rattle.std.specs.Char.{to_ascii_lowercase}
use Rattle.std.specs.List.{find}
use Rattle.std.specs.Option.{option_copied, option_map, option_or}
use Rattle.std.proofs.lemmas.List.{length-map, map-append, drop_at}
use Rattle.std.proofs.lemmas.List.Elements.{filter_passes}
use Rattle.dns_name.specs.Name.{IsName, fold_name, is_same, is_under, wire_of, self_and_ancestors, asterisk}
use Rattle.dns_name.specs.Order.{is_same_Decides}
use Rattle.dns_name.proofs.LawLemmas.{under_from_ending}
use Rattle.dns_rdata.specs.Numbers.{type_NS, type_CNAME}
use Rattle.dns_rdata.specs.Record.{Record, owner_of}
use Rattle.zone_tree.specs.Zone.{apex_of, exists, is_of, rrset_of}
use Rattle.lookup_core.specs.declared.matched.Place.{Place}
use Rattle.lookup_core.specs.declared.matched.Place.TheVariants as place
use Rattle.lookup_core.specs.declared.matched.Matched.{Matched}
use Rattle.lookup_core.specs.declared.matched.Matched.TheVariants as matched
use Rattle.lookup_core.specs.Place.{is_cut, is_none_of, cut_of, closest_encloser, source_of, place_below}
use Rattle.lookup_core.specs.declared.look.Look.{Look}
use Rattle.lookup_core.specs.declared.look.Look.TheVariants.{Cut, Alias, Data, NoData, NoName}
use Rattle.lookup_core.specs.Look as look
use Rattle.lookup_core.specs.Shown.{AreAllAt, AreAllAtSource, AreFoundAt, AreServers, HasItsServers, at_owner, look_shown}
use Rattle.lookup_core.proofs.ApexLemmas.{cut_of-step}
use Rattle.lookup_core.proofs.LawLemmas.{and_left, by_name, by_source, by_test, look_by}
use Rattle.lookup_core.proofs.WalkLemmas.{find-self_and_ancestors, shorter_above, length-wire_of-above}
use Rattle.lookup_core.proofs.FoldLemmas.{exists-fold, rrsets_of-fold, rrset_of-fold, cut_of-fold, closest-fold, cut_of-closest}

-- one of a name and its ancestors that passes a test
pub record IsAbove (p : List (List ℕ) → Bool) (name other : List (List ℕ)) : Type 0 where
  pub front : List (List ℕ)
  pub is : name ≡ front ++ other
  pub passes : p other ≡ true

above_root : (p : List (List ℕ) → Bool) (other : List (List ℕ)) (b : Bool) → p [] ≡ b → cond b (Some []) None ≡ Some other → IsAbove p [] other
above_root p other true is e = let same : [] ≡ other = cc in record { front = []; is = same; passes = ap p (sym same) ∙ is }
above_root p other false is e = absurd (cc)

above_label : (p : List (List ℕ) → Bool) (label : List ℕ) (name other : List (List ℕ)) (b : Bool) → p (label ∷ name) ≡ b → cond b (Some (label ∷ name)) (find p (self_and_ancestors name)) ≡ Some other
    → (find p (self_and_ancestors name) ≡ Some other → IsAbove p name other) → IsAbove p (label ∷ name) other
above_label p label name other true is e rest = let same : label ∷ name ≡ other = cc in record { front = []; is = same; passes = ap p (sym same) ∙ is }
above_label p label name other false is e rest = let up = rest e in record { front = label ∷ up.front; is = ap (λ (n : List (List ℕ)). label ∷ n) up.is; passes = up.passes }

pub found_above : (p : List (List ℕ) → Bool) (name other : List (List ℕ)) → find p (self_and_ancestors name) ≡ Some other → IsAbove p name other
found_above p [] other e = above_root p other (p []) refl e
found_above p (label ∷ name) other e = above_label p label name other (p (label ∷ name)) refl e (found_above p name other)

-- where a name doesn't pass, the first one that does is above it
above_by : {X : Type 0} (b : Bool) (x : X) (o q : Option X) → b ≡ false → cond b (Some x) o ≡ q → o ≡ q
above_by true x o q none e = absurd (true≢false none)
above_by false x o q none e = e

-- the closest that exists is the name or above it, and is the name exactly where the name exists
module _ (zone : List Record) (name closest : List (List ℕ)) (near : find (exists zone) (self_and_ancestors name) ≡ Some closest) where
  pub under_closest : is_under name closest ≡ true
  under_closest =
      let up = found_above (exists zone) name closest near in
      under_from_ending name closest (fold_name up.front) (ap fold_name up.is ∙ map-append (map to_ascii_lowercase) up.front closest)

  pub closest_itself : exists zone name ≡ true → name ≡ closest
  closest_itself there = let both : Some name ≡ Some closest = sym (find-self_and_ancestors (exists zone) name there) ∙ near in cc both

  no_labels : (front : List (List ℕ)) → name ≡ front ++ closest → length name ≡ length closest → name ≡ closest
  no_labels [] is e = is
  no_labels (label ∷ front) is e = absurd (omega (arith, ap length is, length-append front closest))

  pub same_closest : is_same name closest ≡ true → name ≡ closest
  same_closest same =
      let up = found_above (exists zone) name closest near in
      no_labels up.front up.is (sym (length-map name (map to_ascii_lowercase)) ∙ ap length ((is_same_Decides name closest).0 same) ∙ length-map closest (map to_ascii_lowercase))

  level_by : (b c : Bool) → exists zone name ≡ b → is_same name closest ≡ c → c ≡ b
  level_by true true there same = refl
  level_by true false there same = absurd (true≢false (sym ((is_same_Decides name closest).1 (ap fold_name (closest_itself there))) ∙ same))
  level_by false true there same =
      absurd (true≢false (sym (found_above (exists zone) name closest near).passes ∙ ap (exists zone) (sym (same_closest same)) ∙ there))
  level_by false false there same = refl

  pub level_exists : is_same name closest ≡ exists zone name
  level_exists = level_by (exists zone name) (is_same name closest) refl refl

-- the first zone cut on the way down is the name or above it
cut_root : (zone : List Record) (cut : List (List ℕ)) (b : Bool) → is_cut zone [] ≡ b → cond b (Some []) None ≡ Some cut → IsAbove (is_cut zone) [] cut
cut_root zone cut b is e = above_root (is_cut zone) cut b is e

cut_step : (zone : List Record) (label : List ℕ) (name cut : List (List ℕ)) (o : Option (List (List ℕ))) (b : Bool) → cut_of zone name ≡ o → is_cut zone (label ∷ name) ≡ b
    → option_or o (cond b (Some (label ∷ name)) None) ≡ Some cut → (cut_of zone name ≡ Some cut → IsAbove (is_cut zone) name cut) → IsAbove (is_cut zone) (label ∷ name) cut
cut_step zone label name cut None true up is e rest = let same : label ∷ name ≡ cut = cc in record { front = []; is = same; passes = ap (is_cut zone) (sym same) ∙ is }
cut_step zone label name cut None false up is e rest = absurd (cc)
cut_step zone label name cut (Some first) b up is e rest =
    let above = rest (up ∙ e) in record { front = label ∷ above.front; is = ap (λ (n : List (List ℕ)). label ∷ n) above.is; passes = above.passes }

pub cut_above : (zone : List Record) (name cut : List (List ℕ)) → cut_of zone name ≡ Some cut → IsAbove (is_cut zone) name cut
cut_above zone [] cut e = cut_root zone cut (is_cut zone []) refl e
cut_above zone (label ∷ name) cut e =
    cut_step zone label name cut (cut_of zone name) (is_cut zone (label ∷ name)) refl refl (sym (cut_of-step zone (label ∷ name)) ∙ e) (cut_above zone name cut)

-- the owner of a zone cut's servers has as many labels as the cut
second_true : (b c : Bool) → (not b && not c) ≡ true → c ≡ false
second_true true c e = absurd (true≢false (sym e))
second_true false true e = absurd (true≢false (sym e))
second_true false false e = refl

owner_len_by : (zone : List Record) (cut : List (List ℕ)) (set : List Record) → set ≡ rrset_of zone cut type_NS → is_none_of set ≡ false → length (owner_of set) ≡ length cut
owner_len_by zone cut [] is some = absurd (true≢false some)
owner_len_by zone cut (r ∷ rs) is some =
    let passes : All (λ s. is_of cut type_NS s ≡ true) (r ∷ rs) = subst (All (λ s. is_of cut type_NS s ≡ true)) (sym is) (filter_passes (is_of cut type_NS) zone) in
    let same : is_same r.owner cut ≡ true = and_left (is_same r.owner cut) _ (passes 0 r (omega arith)) in
    sym (length-map r.owner (map to_ascii_lowercase)) ∙ ap length ((is_same_Decides r.owner cut).0 same) ∙ length-map cut (map to_ascii_lowercase)

pub servers_of : (zone : List Record) (name cut : List (List ℕ)) (servers : List Record) → cut_of zone name ≡ Some cut → servers ≡ rrset_of zone cut type_NS → AreServers zone name cut servers
servers_of zone name cut servers first is =
    let up = cut_above zone name cut first in
    let some : is_none_of servers ≡ false = ap is_none_of is ∙ second_true (is_same cut (apex_of zone)) (is_none_of (rrset_of zone cut type_NS)) up.passes in
    let len : length (owner_of servers) ≡ length cut = owner_len_by zone cut servers is some in
    let both = length-append up.front cut in
    let labels : length name ≡ length up.front + length cut = ap length up.is ∙ both in
    record {
      is = sym (ap (drop (length name - length (owner_of servers))) up.is ∙ drop_at up.front cut (length name - length (owner_of servers)) (omega (arith, labels, len)));
      set = is;
    }

-- where a name stands, by the first zone cut on the way down to it
abbrev by_cut : List Record → List (List ℕ) → Option (List (List ℕ)) → Place
by_cut zone name cut = elim cut [ Some c ↦ place.Cut c | None ↦ by_name zone (exists zone name) (source_of zone name) ]

-- all sets at a name in lower case are all sets at the name
pub all_at : (zone : List Record) (name : List (List ℕ)) (sets : List (List Record)) → AreAllAt zone (fold_name name) sets → AreAllAt zone name sets
all_at zone name sets all = record { records = all.records ∙ rrsets_of-fold zone name; whole = all.whole }

module _ (zone : List Record) (name closest : List (List ℕ)) (near : find (exists zone) (self_and_ancestors (fold_name name)) ≡ Some closest) where
  cuts_alike : cut_of zone closest ≡ option_map fold_name (cut_of zone name)
  cuts_alike = sym (cut_of-closest zone (fold_name name) closest near) ∙ cut_of-fold zone name

  cut_by : (o : Option (List (List ℕ))) (servers : Bor (List Record)) → cut_of zone name ≡ o → option_map (λ cut. rrset_of zone cut type_NS) (option_map fold_name o) ≡ Some servers.now
      → AreFoundAt zone name (by_cut zone name o) (matched.Cut servers)
  cut_by None servers first e = absurd (cc)
  cut_by (Some cut) servers first e = let is : rrset_of zone (fold_name cut) type_NS ≡ servers.now = cc in servers_of zone name cut servers.now first (sym is ∙ rrset_of-fold zone cut type_NS)

  pub at_cut : (servers : Bor (List Record)) → Some servers.now ≡ option_map (λ cut. rrset_of zone cut type_NS) (cut_of zone closest) → AreFoundAt zone name (place_below zone name) (matched.Cut servers)
  at_cut servers e = cut_by (cut_of zone name) servers refl (ap (option_map (λ cut. rrset_of zone cut type_NS)) (sym cuts_alike) ∙ sym e)

  none_by : (o : Option (List (List ℕ))) → None ≡ option_map (λ cut. rrset_of zone cut type_NS) (option_map fold_name o) → o ≡ None
  none_by None e = refl
  none_by (Some cut) e = absurd (cc)

  module _ (uncut : None ≡ option_map (λ cut. rrset_of zone cut type_NS) (cut_of zone closest)) where
    no_cut : cut_of zone name ≡ None
    no_cut = none_by (cut_of zone name) (uncut ∙ ap (option_map (λ cut. rrset_of zone cut type_NS)) cuts_alike)

    by_existence : (found : Matched) → AreFoundAt zone name (by_name zone (exists zone name) (source_of zone name)) found → AreFoundAt zone name (place_below zone name) found
    by_existence found e = subst (λ o. AreFoundAt zone name (by_cut zone name o) found) (sym no_cut) e

    pub at_name : (sets : Bor (List (List Record))) → exists zone (fold_name name) ≡ true → AreAllAt zone (fold_name name) sets.now → AreFoundAt zone name (place_below zone name) (matched.Exact sets)
    at_name sets there all =
        by_existence (matched.Exact sets)
        (subst (λ b. AreFoundAt zone name (by_name zone b (source_of zone name)) (matched.Exact sets)) (sym (sym (exists-fold zone name) ∙ there)) (all_at zone name sets.now all))

    -- the closest encloser of a name that doesn't exist
    record IsSource (source : List (List ℕ)) : Type 0 where
      is : source_of zone name ≡ Some source
      folded : fold_name source ≡ asterisk ∷ closest

    source_by : (missing : exists zone name ≡ false) (o : Option (List (List ℕ))) → find (exists zone) (self_and_ancestors name) ≡ o → option_map fold_name o ≡ Some closest → (source : List (List ℕ)) × IsSource source
    source_by missing None e f = absurd (cc)
    source_by missing (Some encloser) e f = let same : fold_name encloser ≡ closest = cc in (asterisk ∷ encloser, record { is = ap (λ o. elim o [ None ↦ None | Some c ↦ Some (asterisk ∷ c) ]) (encloses name missing e); folded = ap (λ (n : List (List ℕ)). asterisk ∷ n) same })
      where
        encloses : (n : List (List ℕ)) → exists zone n ≡ false → find (exists zone) (self_and_ancestors n) ≡ Some encloser → closest_encloser zone n ≡ Some encloser
        encloses [] none g = absurd (cc (above_by (exists zone []) [] None (Some encloser) none g))
        encloses (label ∷ n) none g = above_by (exists zone (label ∷ n)) (label ∷ n) (find (exists zone) (self_and_ancestors n)) (Some encloser) none g

    module _ (missing : exists zone (fold_name name) ≡ false) where
      at_name_is : exists zone name ≡ false
      at_name_is = sym (exists-fold zone name) ∙ missing

      source : (source : List (List ℕ)) × IsSource source
      source = source_by at_name_is (find (exists zone) (self_and_ancestors name)) refl (sym (closest-fold zone name) ∙ near)

      source_folds : (s : List (List ℕ)) → IsSource s → exists zone (asterisk ∷ closest) ≡ exists zone s
      source_folds s h = ap (exists zone) (sym h.folded) ∙ exists-fold zone s

      by_its_source : (found : Matched) (s : List (List ℕ)) → IsSource s → AreFoundAt zone name (by_source zone (Some s)) found → AreFoundAt zone name (place_below zone name) found
      by_its_source found s h e =
          by_existence found
          (subst (λ b. AreFoundAt zone name (by_name zone b (source_of zone name)) found) (sym at_name_is)
          (subst (λ o. AreFoundAt zone name (by_source zone o) found) (sym h.is) e))

      pub at_source : (sets : Bor (List (List Record))) → AreAllAtSource zone (asterisk ∷ closest) sets.now → AreFoundAt zone name (place_below zone name) (matched.Wild sets)
      at_source sets all =
          let s = source.0 in
          let there : exists zone s ≡ true = sym (source_folds s source.1) ∙ all.there in
          let at : AreAllAt zone (fold_name s) sets.now = subst (λ (n : List (List ℕ)). AreAllAt zone n sets.now) (sym source.1.folded) all.all in
          by_its_source (matched.Wild sets) s source.1 (subst (λ b. AreFoundAt zone name (cond b (place.Wild s) place.Missing) (matched.Wild sets)) (sym there) (all_at zone s sets.now at))

      pub at_none : exists zone (asterisk ∷ closest) ≡ false → AreFoundAt zone name (place_below zone name) matched.Missing
      at_none none =
          let s = source.0 in
          by_its_source matched.Missing s source.1 (subst (λ b. AreFoundAt zone name (cond b (place.Wild s) place.Missing) matched.Missing) (sym (sym (source_folds s source.1) ∙ none)) tt)

-- there is room for `*` in front of the closest of a name that doesn't exist
length-fold : (name : List (List ℕ)) → length (wire_of (fold_name name)) ≡ length (wire_of name)
length-fold [] = refl
length-fold (label ∷ name) =
    omega (arith, length-fold name, length-map label to_ascii_lowercase, length-append label (wire_of name), length-append (map to_ascii_lowercase label) (wire_of (fold_name name)))

length-above : (front name : List (List ℕ)) → length (wire_of name) ≤ length (wire_of (front ++ name))
length-above [] name = omega arith
length-above (label ∷ front) name = omega (arith, length-above front name, length-wire_of-above label (front ++ name))

above_missing : (zone : List Record) (name other : List (List ℕ)) → exists zone name ≡ false → find (exists zone) (self_and_ancestors name) ≡ Some other → IsName name → length (wire_of other) ≤ 253
above_missing zone [] other none e is = absurd (cc (above_by (exists zone []) [] None (Some other) none e))
above_missing zone (label ∷ name) other none e is =
    let up = found_above (exists zone) name other (above_by (exists zone (label ∷ name)) (label ∷ name) (find (exists zone) (self_and_ancestors name)) (Some other) none e) in
    let long = length-above up.front other in
    omega (arith, shorter_above label name is, long, ap (λ (n : List (List ℕ)). length (wire_of n)) up.is)

folded_room : (zone : List Record) (name closest : List (List ℕ)) (o : Option (List (List ℕ))) → exists zone name ≡ false → find (exists zone) (self_and_ancestors name) ≡ o → option_map fold_name o ≡ Some closest → IsName name
    → length (wire_of closest) ≤ 253
folded_room zone name closest None none e f is = absurd (cc)
folded_room zone name closest (Some other) none e f is =
    let same : fold_name other ≡ closest = cc in
    let short = above_missing zone name other none e is in
    omega (arith, short, length-fold other, ap (λ (n : List (List ℕ)). length (wire_of n)) same)

pub has_room : (zone : List Record) (name closest : List (List ℕ)) → exists zone (fold_name name) ≡ false → find (exists zone) (self_and_ancestors (fold_name name)) ≡ Some closest → IsName name → length (wire_of closest) ≤ 253
has_room zone name closest none near is =
    folded_room zone name closest (find (exists zone) (self_and_ancestors name)) (sym (exists-fold zone name) ∙ none) refl (sym (closest-fold zone name) ∙ near) is

-- the servers of the first zone cut on the way down to a name, by those on the way to its parent
pub first_servers : {X Y : Type 0} (f : X → Y) (o p : Option X) (y : Y) → Some y ≡ option_map f o → Some y ≡ option_map f (option_or o p)
first_servers f None p y e = absurd (cc)
first_servers f (Some x) p y e = e

pub no_first : {X Y : Type 0} (f : X → Y) (o : Option X) → None ≡ option_map f o → o ≡ None
no_first f None e = refl
no_first f (Some x) e = absurd (cc)

some_cons : (r : Record) (rs : List Record) → is_none_of (r ∷ rs) ≡ false
some_cons r rs = grind arith

servers_by : (zone : List Record) (name : List (List ℕ)) (set : List Record) (r : Option (Bor (List Record))) → (IsNone r ↔ (set ≡ [])) → IfSome r (λ s. s.now ≡ set) → set ≡ rrset_of zone name type_NS
    → option_copied r ≡ option_map (λ cut. rrset_of zone cut type_NS) (cond (not (is_none_of set)) (Some name) None)
servers_by zone name [] None none some is = refl
servers_by zone name (r ∷ rs) None none some is = absurd (cc (none.0 refl))
servers_by zone name [] (Some set) none some is = absurd (cc (none.1 refl))
servers_by zone name (r ∷ rs) (Some set) none some is =
    ap Some (some ∙ is) ∙ ap (λ b. option_map (λ cut. rrset_of zone cut type_NS) (cond (not b) (Some name) None)) (sym (some_cons r rs))

pub own_servers : (zone : List Record) (name : List (List ℕ)) (r : Option (Bor (List Record))) → (IsNone r ↔ (rrset_of zone name type_NS ≡ [])) → IfSome r (λ s. s.now ≡ rrset_of zone name type_NS)
    → is_cut zone name ≡ not (is_none_of (rrset_of zone name type_NS)) → option_copied r ≡ option_map (λ cut. rrset_of zone cut type_NS) (cond (is_cut zone name) (Some name) None)
own_servers zone name r none some is =
    servers_by zone name (rrset_of zone name type_NS) r none some refl ∙ ap (λ b. option_map (λ cut. rrset_of zone cut type_NS) (cond b (Some name) None)) (sym is)

-- what is found at a name, by where it stands and what was found there
module _ (zone : List Record) (name : List (List ℕ)) (rtype : ℕ) where
  pub cut_look : (p : Place) (servers : Bor (List Record)) → AreFoundAt zone name p (matched.Cut servers) → look.Cut (at_owner name servers.now) ≡ look_by zone name rtype p
  cut_look (place.Cut cut) servers h = ap look.Cut (sym h.is)
  cut_look place.Outside servers h = absurd h
  cut_look place.Exact servers h = absurd h
  cut_look (place.Wild at) servers h = absurd h
  cut_look place.Missing servers h = absurd h

  pub cut_servers : (p : Place) (servers : Bor (List Record)) → AreFoundAt zone name p (matched.Cut servers) → servers.now ≡ rrset_of zone (at_owner name servers.now) type_NS
  cut_servers (place.Cut cut) servers h = h.set ∙ ap (λ (n : List (List ℕ)). rrset_of zone n type_NS) h.is
  cut_servers place.Outside servers h = absurd h
  cut_servers place.Exact servers h = absurd h
  cut_servers (place.Wild at) servers h = absurd h
  cut_servers place.Missing servers h = absurd h

  pub exact_look : (p : Place) (sets : Bor (List (List Record))) (l : look.Look) → AreFoundAt zone name p (matched.Exact sets) → (AreAllAt zone name sets.now → l ≡ look.found_at zone name name rtype) → l ≡ look_by zone name rtype p
  exact_look place.Exact sets l h is = is h
  exact_look (place.Cut cut) sets l h is = absurd h
  exact_look place.Outside sets l h is = absurd h
  exact_look (place.Wild at) sets l h is = absurd h
  exact_look place.Missing sets l h is = absurd h

  pub wild_look : (p : Place) (sets : Bor (List (List Record))) (l : look.Look) → AreFoundAt zone name p (matched.Wild sets) → ((at : List (List ℕ)) → AreAllAt zone at sets.now → l ≡ look.found_at zone at name rtype) → l ≡ look_by zone name rtype p
  wild_look (place.Wild at) sets l h is = is at h
  wild_look (place.Cut cut) sets l h is = absurd h
  wild_look place.Outside sets l h is = absurd h
  wild_look place.Exact sets l h is = absurd h
  wild_look place.Missing sets l h is = absurd h

  pub missing_look : (p : Place) → AreFoundAt zone name p matched.Missing → look.NoName ≡ look_by zone name rtype p
  missing_look place.Missing h = refl
  missing_look (place.Cut cut) h = absurd h
  missing_look place.Outside h = absurd h
  missing_look place.Exact h = absurd h
  missing_look (place.Wild at) h = absurd h

  -- the records at a name are no zone cut
  abbrev is_referral : look.Look → Bool
  is_referral (look.Cut cut) = true
  is_referral _ = false

  not_referral : (at : List (List ℕ)) → is_referral (look.found_at zone at name rtype) ≡ false
  not_referral at =
      by_test (λ l. is_referral l ≡ false) (look.follows_aliases rtype && not (is_none_of (rrset_of zone at type_CNAME))) (look.Alias (look.owned_by name (rrset_of zone at type_CNAME)))
      (if is_none_of (look.data_at zone at rtype) then look.NoData else look.Data (look.owned_by name (look.data_at zone at rtype))) (λ _. refl)
      (λ _. by_test (λ l. is_referral l ≡ false) (is_none_of (look.data_at zone at rtype)) look.NoData (look.Data (look.owned_by name (look.data_at zone at rtype))) (λ _. refl) (λ _. refl))

  no_servers : (found : Look) → is_referral (look_shown name found) ≡ false → HasItsServers zone name found
  no_servers (Cut servers) e = absurd (true≢false e)
  no_servers (Alias set) e = tt
  no_servers (Data sets) e = tt
  no_servers NoData e = tt
  no_servers NoName e = tt

  pub found_servers : (at : List (List ℕ)) (found : Look) → look_shown name found ≡ look.found_at zone at name rtype → HasItsServers zone name found
  found_servers at found is = no_servers found (ap is_referral is ∙ not_referral at)

  pub exact_servers : (p : Place) (sets : Bor (List (List Record))) (found : Look) → AreFoundAt zone name p (matched.Exact sets) → (AreAllAt zone name sets.now → look_shown name found ≡ look.found_at zone name name rtype) → HasItsServers zone name found
  exact_servers place.Exact sets found h is = found_servers name found (is h)
  exact_servers (place.Cut cut) sets found h is = absurd h
  exact_servers place.Outside sets found h is = absurd h
  exact_servers (place.Wild at) sets found h is = absurd h
  exact_servers place.Missing sets found h is = absurd h

  pub wild_servers : (p : Place) (sets : Bor (List (List Record))) (found : Look) → AreFoundAt zone name p (matched.Wild sets) → ((at : List (List ℕ)) → AreAllAt zone at sets.now → look_shown name found ≡ look.found_at zone at name rtype) → HasItsServers zone name found
  wild_servers (place.Wild at) sets found h is = found_servers at found (is at h)
  wild_servers (place.Cut cut) sets found h is = absurd h
  wild_servers place.Outside sets found h is = absurd h
  wild_servers place.Exact sets found h is = absurd h
  wild_servers place.Missing sets found h is = absurd h

-- the sets of a name that exists are those of the closest
pub own_at : (zone : List Record) (closest : List (List ℕ)) (there : Bool) (own : List (List Record)) (r : Option (Bor (List (List Record)))) → IfSome r (λ sets. (there ≡ true) × (sets.now ≡ own))
    → (there ≡ true → AreAllAt zone closest own) → IfSome r (λ sets. AreAllAt zone closest sets.now)
own_at zone closest there own None h all = tt
own_at zone closest there own (Some sets) h all = subst (AreAllAt zone closest) (sym h.1) (all h.0)
