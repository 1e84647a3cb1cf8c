-- An entry of a sheet, over any firing: a paragraph of the sheet, and what a firing says there.
use Rattle.std.specs.Prelude.{ℕ, List, [], ◌∷◌, map, ℤ}
use Prim.Native.String.{String}
use Rattle.text.specs.Bytes.{bytes}
use Rattle.sheet.specs.Firing.{Firing}
use Rattle.sheet.specs.Quantities.{Field}
use Rattle.document.specs.Schema.{Line, Row, plain}
use Rattle.document.specs.Reader.{Filled, Rule, Paragraph, one, many, key_of}
use Rattle.document.specs.Tests.{free}

abbrev pub line : String → List Field → Line
line k fs = record { key = bytes k; fields = fs }

pub record Entry : Type 0 where
  pub paragraph : Paragraph
  pub says : Firing → List Row

abbrev pub single : Line → Rule → (Firing → Row) → Entry
single l rule says = record { paragraph = one l rule; says = λ f. says f ∷ [] }

abbrev pub figure : Line → (Firing → ℤ) → Entry
figure l says = single l free (λ f. plain (says f ∷ []))

abbrev pub block : String → ℕ → ℕ → Line → Rule → (Firing → List Row) → Entry
block key a b l rule says = record { paragraph = many (bytes key) a b l rule; says = says }

-- the two views of a list of entries: its paragraphs, and its rows in a firing
abbrev pub paragraphs_of : List Entry → List Paragraph
paragraphs_of es = map (λ e. e.paragraph) es

abbrev pub fill : Firing → Entry → Filled
fill f e = record { key = key_of e.paragraph; rows = e.says f }
