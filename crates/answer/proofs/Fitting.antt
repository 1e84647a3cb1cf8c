-- Laws of a text in a room. Assumes nothing.
use Prim.Native.Nat.{ℕ, ◌≤◌, ◌<◌}
use mathlib.Core.Path.{◌≡◌, refl}
use mathlib.Core.List.{List}
use lib.ListN.{length}
use borrow.Author.Tests.{lt-ltb, le-ltb}
use Rattle.pen.specs.Writing.{over}
use Rattle.sheet.specs.declared.Refusal.TheVariants.{NoRoom}
use Rattle.sheet.specs.Refusals.{number}
use Rattle.answer.specs.declared.Answer.{Answer}
use Rattle.answer.specs.Answer.{refused_as, fitted, placed}

module _ (text : List ℕ) (room : ℕ) where
  pub too_little : room < length text → refused_as (number NoRoom) 0 0 ≡ fitted text room
  too_little h = rw (lt-ltb room (length text) h) refl

  pub enough : {n : ℕ} → length text ≤ room → n ≡ length text → ◌≡◌ {A = Answer} (record { refusal = 0; line = 0; field = 0; length = n }) (fitted text room)
  enough h e = rw (le-ltb room (length text) h, e) refl

module _ (text old : List ℕ) where
  pub untouched : length old < length text → old ≡ placed text old
  untouched h = rw (lt-ltb (length old) (length text) h) refl

  pub at_front : {new : List ℕ} → length text ≤ length old → new ≡ over 0 text old → new ≡ placed text old
  at_front h e = rw (le-ltb (length old) (length text) h) e
