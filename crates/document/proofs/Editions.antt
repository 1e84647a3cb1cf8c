-- What the laws of any document say of this one and its firings. Assumes nothing.
use Prim.Native.Nat.{ℕ, ◌+◌}
use mathlib.Core.Path.{◌≡◌, refl, sym, subst}
use mathlib.Core.List.{List}
use mathlib.Core.Bool.{Bool, true, false}
use lib.Dec.{leb}
use Rattle.text.specs.Scanning.{count}
use Rattle.sheet.specs.Firing.{Firing}
use Rattle.document.specs.Reader.{Sheet, sound_paragraphs, paragraph_size, paragraphs_size, Sound, text_of, Good, read_of, Keeps}
use Rattle.sheet.specs.Quantities.{sheet_most}
use Rattle.document.specs.Entries.{paragraphs_of}
use Rattle.document.specs.Editions.{entries_by, entries_of, document, sheet_of}
use Rattle.document.specs.Rows.{edition_in, analysed, firing_of}
use Rattle.document.specs.Lawful.{Lawful}
use Rattle.document.proofs.Whole.{accepted, Accepted, kept}
use Rattle.document.proofs.Kept.{sheet-back}
use Rattle.document.proofs.Lawful.{sheet_lawful}

-- every line has a key without LF, fields, and ranges of at most nine digits, and all lines together at most 16,384 bytes
pub document-sound : Sound document
unfolding entries_by count
document-sound = record { first = refl; below = λ seen. sounds (analysed (edition_in seen)); small = λ seen. sizes (analysed (edition_in seen)) }
  where
    sounds : (t : Bool) → sound_paragraphs (paragraphs_of (entries_by t)) ≡ true
    sounds true = refl
    sounds false = refl

    sizes : (t : Bool) → leb (paragraph_size document.first + paragraphs_size (paragraphs_of (entries_by t))) sheet_most ≡ true
    sizes true = refl
    sizes false = refl

-- A FIRING AND ITS TEXT: every firing that keeps the rules is read as itself, and every accepted text is a firing's
pub firing-accepted : (f : Firing) → Keeps document (sheet_of f) → read_of document (text_of document (sheet_of f)) ≡ Good (sheet_of f)
firing-accepted f k = accepted document document-sound (sheet_of f) k

pub firing-kept : (text : List ℕ) (sheet : Sheet) → read_of document text ≡ Good sheet → Accepted document text (sheet_of (firing_of sheet))
firing-kept text sheet e =
    let a = kept document text sheet e in
    subst (λ (s : Sheet). Accepted document text s) (sym (sheet-back sheet a.keeps)) a

pub firing_lawful : (text : List ℕ) (sheet : Sheet) → read_of document text ≡ Good sheet → Lawful (firing_of sheet)
firing_lawful text sheet e = sheet_lawful sheet (kept document text sheet e).keeps
