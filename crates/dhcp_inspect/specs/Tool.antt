-- The program: its words, and what it makes of the file that it reads.
use Rattle.std.specs.Prelude.{◌≡◌, ℕ, true, List, [], unwrap_or}
use Rattle.dhcp_tool.specs.Texts.{Texts}
use Rattle.dhcp_inspect.specs.Header.{IsCapture}
use Rattle.dhcp_inspect.specs.Report.{report_on}

-- the words ask for a report: there are none
abbrev pub AsksForReport : List (List ℕ) → Type 0
AsksForReport words = words ≡ []

-- the report on a file that is a capture
abbrev pub report : List ℕ → List ℕ
report file = unwrap_or (report_on file) []

-- the files that the program reads: each is its own text
abbrev pub captures : Texts (List ℕ)
captures = record {
  text = λ file. file;
  IsOne = IsCapture;
  is_valid = λ file. true;
  printed = report;
  IsKept = λ file. Unit {0};
}
