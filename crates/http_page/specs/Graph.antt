-- Rates over time, as a line (SVG 2, 10.6).
use Rattle.std.specs.Prelude.{ℕ, ◌+◌, ◌-◌, ◌*◌, ◌/◌, ◌^◌, List, [], ◌∷◌, ◌++◌, codes, decimal, max, min}
use Rattle.http_page.specs.Html.{escaped}

-- what a graph shows, and its rates, the oldest first
pub record GraphOf : Type 0 where
  pub title : List ℕ
  pub rates : List ℕ

-- the highest of rates and of another
abbrev pub most_of : ℕ → List ℕ → ℕ
most_of most [] = most
most_of most (rate ∷ rates) = most_of (max most rate) rates

-- the height of a rate, of which the highest has 100
abbrev pub height_of : ℕ → ℕ → ℕ
height_of most rate = 100 * rate / max most 1

-- a point: its distance from the left, and from the top
abbrev pub point_text : ℕ → ℕ → ℕ → List ℕ
point_text x most rate = decimal x ++ (44 ∷ (decimal (100 - height_of most rate) ++ codes " "))

-- the points, 5 apart
abbrev pub points_text : ℕ → ℕ → List ℕ → List ℕ
points_text x most [] = []
points_text x most (rate ∷ rates) = point_text x most rate ++ points_text (min (x + 5) (2 ^ 64 - 1)) most rates

-- what stands between a graph's title and its points
unfoldable pub graph_front : List ℕ
graph_front = codes "</h2>\n<svg viewBox=\"0 0 600 100\" width=\"900\"><polyline fill=\"none\" stroke=\"#06c\" points=\""

-- what stands after them
unfoldable pub graph_back : List ℕ
graph_back = codes "\"/></svg>\n"

-- a graph's title, and its highest rate
abbrev pub title_text : List ℕ → ℕ → List ℕ
title_text title most = codes "<h2>" ++ (escaped title ++ (codes ", at most " ++ (decimal most ++ graph_front)))

-- a graph: its title, its highest rate, its line
abbrev pub graph_text : GraphOf → List ℕ
graph_text g = title_text g.title (most_of 0 g.rates) ++ (points_text 0 (most_of 0 g.rates) g.rates ++ graph_back)
