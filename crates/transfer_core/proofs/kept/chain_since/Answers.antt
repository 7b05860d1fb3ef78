use Rattle.std.proofs.Common.{◌≡◌, ◌≤◌, ℕ, List, [], ◌++◌, Option, Some, None, is_some, unwrap_or, length, drop, take, ap}
use Rattle.std.specs.Option.{option_map, option_and_then}
use Rattle.dns_rdata.specs.Record.{Record}
use Rattle.dns_rdata.specs.declared.numbers.Serial.{Serial}
use Rattle.zone_tree.specs.Zone.{soa_of}
use Rattle.zone_tree.specs.Version.{Version}
use Rattle.transfer_core.specs.Chain.{zones_of, reported, told_changes}
use Rattle.transfer_core.specs.Lists.{newest}
use Rattle.transfer_core.specs.Window.{AreKept, kept_for, changes_since}
use Rattle.transfer_core.proofs.WindowLemmas.{told_found}
use Rattle.transfer_core.proofs.kept.chain_since.Goals as goal

-- as it was found, by whether the asker tells a serial
told_for : (size : ℕ) (held : Option Serial) (all : List Version) (upto : ℕ) (older : List (List Record)) (o : Option (List Version)) → upto ≤ length all → AreKept older all → o ≡ kept_for size upto all held
    → told_changes (is_some o) (soa_of (newest [] (zones_of (take upto all)))) (unwrap_or o [])
    ≡ option_and_then (λ serial. changes_since size (zones_of (drop upto all)) upto serial.0 (older ++ zones_of (take upto all))) held
told_for size None all upto older o within kept e = ap (λ p. told_changes (is_some p) (soa_of (newest [] (zones_of (take upto all)))) (unwrap_or p [])) e
told_for size (Some serial) all upto older o within kept e = told_found size serial.0 all upto older o within kept e

-- what is told by the steps of those that are found
told_steps_of : (soa : List Record) (o found : Option (List Version)) → o ≡ found → told_changes (is_some o) soa (unwrap_or o []) ≡ option_map (reported soa) found
told_steps_of soa None found e = ap (option_map (reported soa)) e
told_steps_of soa (Some versions) found e = ap (option_map (reported soa)) e

pub returns-in_default-clause-reported : goal.returns-in_default-clause-reported
returns-in_default-clause-reported g c soa = told_steps_of soa None _ c.in_default.ensures.place

pub returns-in_default-clause-changes : goal.returns-in_default-clause-changes
returns-in_default-clause-changes g c older kept =
    told_for c.args.reach.window c.args.held (g.K.VersionList.versions c.args.kept.now) c.args.reach.upto older None c.requires kept c.in_default.ensures.place

pub returns-clause-reported : goal.returns-clause-reported
returns-clause-reported g c soa =
    told_steps_of soa (Some (drop c.in-Some.from (take c.args.reach.upto (g.K.VersionList.versions c.args.kept.now)))) _ c.in-Some.ensures.place

pub returns-clause-changes : goal.returns-clause-changes
returns-clause-changes g c older kept =
    told_for c.args.reach.window c.args.held (g.K.VersionList.versions c.args.kept.now) c.args.reach.upto older (Some (drop c.in-Some.from (take c.args.reach.upto (g.K.VersionList.versions c.args.kept.now)))) c.requires kept c.in-Some.ensures.place
