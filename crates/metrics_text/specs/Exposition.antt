-- The text of families of samples in Prometheus' exposition format, version 0.0.4.
use Rattle.std.specs.Prelude.{ℕ, ◌==◌, List, [], ◌∷◌, ◌++◌, codes, flat_map, if◌then◌else◌}
use Rattle.metrics_text.specs.declared.family.Kind.{Kind}
use Rattle.metrics_text.specs.declared.family.Kind.TheVariants.{Counter, Gauge, Histogram}
use Rattle.metrics_text.specs.Numbers.{number_text}
use Rattle.metrics_text.specs.Samples.{LabelOf, SampleOf}
use Rattle.metrics_text.specs.Families.{FamilyOf}

-- an octet of what a family says: a backslash and a line feed are escaped
abbrev pub help_octet : ℕ → List ℕ
help_octet o = if o == 92 then codes "\\\\" else if o == 10 then codes "\\n" else o ∷ []

-- an octet of a label's value: a quotation mark is escaped too
abbrev pub value_octet : ℕ → List ℕ
value_octet o = if o == 34 then codes "\\\"" else help_octet o

-- a label: its name, and its value in quotation marks
abbrev pub label_text : LabelOf → List ℕ
label_text l = l.name ++ (codes "=\"" ++ (flat_map value_octet l.value ++ codes "\""))

-- a label that isn't the first
abbrev pub after_comma : LabelOf → List ℕ
after_comma l = 44 ∷ label_text l

-- labels in braces, and nothing where there are none
abbrev pub labels_text : List LabelOf → List ℕ
labels_text [] = []
labels_text (l ∷ ls) = 123 ∷ (label_text l ++ (flat_map after_comma ls ++ codes "}"))

-- a sample's line: its family's name and what follows that, its labels, a space, its number
abbrev pub sample_line : List ℕ → SampleOf → List ℕ
sample_line name s = name ++ (s.suffix ++ (labels_text s.labels ++ (32 ∷ (number_text s.number ++ codes "\n"))))

-- the word of a kind
abbrev pub kind_word : Kind → List ℕ
kind_word Counter = codes "counter"
kind_word Gauge = codes "gauge"
kind_word Histogram = codes "histogram"

-- the line of what a family's samples say
abbrev pub help_line : List ℕ → List ℕ → List ℕ
help_line name help = codes "# HELP " ++ (name ++ (32 ∷ (flat_map help_octet help ++ codes "\n")))

-- the line of a family's kind
abbrev pub type_line : List ℕ → Kind → List ℕ
type_line name kind = codes "# TYPE " ++ (name ++ (32 ∷ (kind_word kind ++ codes "\n")))

-- a family's text
abbrev pub family_text : FamilyOf → List ℕ
family_text f = help_line f.name f.help ++ (type_line f.name f.kind ++ flat_map (sample_line f.name) f.samples)

-- the text of families
abbrev pub exposition : List FamilyOf → List ℕ
exposition families = flat_map family_text families
