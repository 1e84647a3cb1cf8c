-- Every edition of the sheet as one document, whose first line chooses the lines below it, and the sheet of a firing.
use Rattle.std.specs.Prelude.{List, ◌∷◌, ◌++◌, map, Bool, ℤ}
use Rattle.std.proofs.Math.Option.{none}
use Rattle.sheet.specs.Firing.{Firing}
use Rattle.document.specs.Reader.{Sheet, Paragraph, one, many, Document}
use Rattle.document.specs.Rows.{edition_in, analysed}
use Rattle.document.specs.Tests.{free, whole-rule}
use Rattle.document.specs.Entries.{Entry, paragraphs_of, fill}
use Rattle.document.specs.Document01.{opening, heading, fuelling, drying, loading, surfaces, ending}
use Rattle.document.specs.Sheet2.{staging_by}

-- what stands below the first line: document 01's sheet, and where the flue is analysed other stages
unfoldable pub entries_by : Bool → List Entry
entries_by flue = heading ++ (fuelling ++ (drying ++ (staging_by flue ++ (loading ++ (surfaces ++ ending)))))

abbrev pub entries_of : ℤ → List Entry
entries_of edition = entries_by (analysed edition)

abbrev pub lines_of : ℤ → List Paragraph
lines_of edition = paragraphs_of (entries_of edition)

abbrev pub document : Document
document = record { first = opening.paragraph; below = λ seen. lines_of (edition_in seen); whole = whole-rule }

-- THE SHEET OF A FIRING
abbrev pub sheet_of : Firing → Sheet
sheet_of f = map (fill f) (opening ∷ entries_of f.edition)

-- the same lines with form and range only
abbrev pub unruled : Paragraph → Paragraph
unruled (one l rule) = one l free
unruled (many key a b l rule) = many key a b l free

abbrev pub form_only : Document
form_only = record { first = document.first; below = λ seen. map unruled (document.below seen); whole = λ sheet. none }
