-- The page for a person (HTML Living Standard, 13.1).
use Rattle.std.specs.Prelude.{ℕ, ◌+◌, ◌-◌, ◌^◌, ◌%◌, List, ◌++◌, codes, decimal, length, drop, flat_map, Option, Some, None}
use Rattle.http_page.specs.Html.{escaped}
use Rattle.http_page.specs.Graph.{graph_text}
use Rattle.http_page.specs.Overview.{OverviewOf, SecondaryOf}

-- what stands before the zone's name: the page loads itself again each five seconds
unfoldable pub page_front : List ℕ
page_front = codes "<!DOCTYPE html>\n<html lang=\"en\"><head><meta charset=\"utf-8\"><meta http-equiv=\"refresh\" content=\"5\"><title>dnsd</title></head><body>\n<h1>"

-- what stands after the lines of the log
unfoldable pub page_back : List ℕ
page_back = codes "</pre>\n</body></html>\n"

-- what stands before the first secondary
unfoldable pub table_front : List ℕ
table_front = codes "<h2>secondaries</h2>\n<table><tr><th>address</th><th>sent</th><th>answered</th><th>given up</th><th>serial</th><th>behind</th></tr>\n"

-- what stands between the last secondary and the lines of the log
unfoldable pub table_back : List ℕ
table_back = codes "</table>\n<h2>log</h2>\n<pre>\n"

-- the zone's name
abbrev pub title_text : List ℕ → List ℕ
title_text zone = page_front ++ (escaped zone ++ codes "</h1>\n")

-- the zone's serial and number of records
abbrev pub zone_text : ℕ → ℕ → List ℕ
zone_text serial records = codes "<p>serial " ++ (decimal serial ++ (codes ", records " ++ decimal records))

-- the state of the zone, of the server and of its store
abbrev pub state_text : OverviewOf → List ℕ
state_text o = zone_text o.serial o.records ++ (codes ", up " ++ (decimal o.uptime ++ (codes " s, store " ++ (escaped o.store ++ codes "</p>\n"))))

-- a cell with a number
abbrev pub number_cell : ℕ → List ℕ
number_cell n = codes "<td>" ++ (decimal n ++ codes "</td>")

-- how far a serial is behind a zone's, on the circle of 2^32 (RFC 1982, 3)
abbrev pub behind : ℕ → ℕ → ℕ
behind zone serial = (zone + 2 ^ 32 - serial) % 2 ^ 32

-- the serial that a secondary last answered for, and how far that is behind the zone's
abbrev pub serial_cells : ℕ → Option ℕ → List ℕ
serial_cells zone None = codes "<td>none</td></tr>\n"
serial_cells zone (Some serial) = number_cell serial ++ (number_cell (behind zone serial) ++ codes "</tr>\n")

-- a secondary's row
abbrev pub secondary_text : ℕ → SecondaryOf → List ℕ
secondary_text zone s =
    codes "<tr><td>"
    ++ (escaped s.address ++ (codes "</td>" ++ (number_cell s.sent ++ (number_cell s.answered ++ (number_cell s.given_up ++ serial_cells zone s.serial)))))

-- the table of secondaries
abbrev pub table_text : ℕ → List SecondaryOf → List ℕ
table_text serial secondaries = table_front ++ (flat_map (secondary_text serial) secondaries ++ table_back)

-- a line of the log
abbrev pub line_text : List ℕ → List ℕ
line_text line = escaped line ++ codes "\n"

-- the page: the zone, its state, rates, secondaries, the last twenty lines of the log
abbrev pub page_text : OverviewOf → List ℕ
page_text o =
    title_text o.zone
    ++ (state_text o
    ++ (flat_map graph_text o.graphs
    ++ (table_text o.serial o.secondaries ++ (flat_map line_text (drop (length o.lines - 20) o.lines) ++ page_back))))
