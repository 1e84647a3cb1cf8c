-- Refusals 6, 7 and 9 of a line `wall`, in the order in which the code looks at them. Assumes nothing.
use Prim.Native.Nat.{ℕ, ◌≤◌, ◌<◌}
use mathlib.Core.Path.{◌≡◌, refl}
use mathlib.Core.Bool.{Bool, true, false, not}
use mathlib.Core.List.{List}
use mathlib.Core.Option.{Option, none, some}
use lib.ListN.{length}
use lib.IntN.{pos}
use lib.Signed.{lt_z}
use borrow.Author.Tests.{le-ltb, lt-ltb}
use Rattle.sheet.specs.declared.Refusal.{Refusal}
use Rattle.sheet.specs.declared.Refusal.TheVariants.{NoSuchWall, ReadTwice, Colder}
use Rattle.sheet.specs.Firing.{Stage, Section, Wall}
use Rattle.sheet.specs.Shown.{before}
use Rattle.document.specs.Tests.{when, ◌else◌, is_listed, is_read, wall_fault}
use Rattle.sections.proofs.Sections.{before-is}
use Rattle.walls.specs.declared.line.Wall.{Wall as Wallˢ}
use Rattle.walls.specs.Walls.{wall, six}

-- the rules one after the other, from the left
abbrev pub seven : List Wall → Wall → Option Refusal
seven ws x = when (is_read ws x.section x.stage) ReadTwice

abbrev pub nine : Wall → Option Refusal
nine x = when (lt_z x.surface x.air) Colder

abbrev pub in_order : List Section → ℕ → List Wall → Wall → Option Refusal
in_order S k ws x = (six S k x else seven ws x) else nine x

regrouped : (a b c d : Option Refusal) → a else (b else (c else d)) ≡ ((a else b) else c) else d
regrouped none none c d = refl
regrouped none (some r) c d = refl
regrouped (some r) b c d = refl

pub fault_is : (stages : List Stage) (S : List Section) (ws : List Wall) (x : Wall) → wall_fault stages S ws x ≡ in_order S (length stages) ws x
fault_is stages S ws x =
    regrouped (when (not (is_listed S x.section)) NoSuchWall) (when (lt_z (pos (length stages)) x.stage) NoSuchWall) (seven ws x) (nine x)

-- 6 by the section's place and the stage's number
staged : (a : Bool) → when (not a) NoSuchWall else when true NoSuchWall ≡ when true NoSuchWall
staged true = refl
staged false = refl

module _ (S : List Section) (k : ℕ) (w : Wallˢ) where
  abbrev place : ℕ
  place = before (pos w.section.0) S

  pub unlisted : length S ≤ place → six S k (wall w) ≡ when true NoSuchWall
  unlisted h = rw (before-is (pos w.section.0) S, le-ltb place (length S) h)

  pub unstaged : k < w.stage.0 → six S k (wall w) ≡ when true NoSuchWall
  unstaged h = rw (lt-ltb k w.stage.0 h) (staged (is_listed S (pos w.section.0)))

  pub both-there : place < length S → w.stage.0 ≤ k → six S k (wall w) ≡ when false NoSuchWall
  both-there h m = rw (before-is (pos w.section.0) S, lt-ltb place (length S) h, le-ltb k w.stage.0 m)
