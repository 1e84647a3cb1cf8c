-- A wall line and rule 6 on it. Assumes nothing.
use Prim.Native.Nat.{ℕ, ◌<◌}
use mathlib.Core.Path.{◌≡◌, refl, sym, ap, ◌∙◌, subst}
use mathlib.Core.Bool.{true, false}
use mathlib.Core.List.{List}
use mathlib.Core.Option.{Option, none}
use lib.Dec.{le→leb}
use lib.IntN.{pos}
use lib.ListN.{length}
use Rattle.sheet.specs.declared.Refusal.{Refusal}
use Rattle.sheet.specs.declared.Refusal.TheVariants.{NoSuchWall}
use Rattle.sheet.specs.Firing.{Section, Wall}
use Rattle.sheet.specs.Shown.{before}
use Rattle.document.specs.Schema.{Row}
use Rattle.document.specs.Tests.{when}
use Rattle.document.specs.Document01.{wall_line}
use Rattle.document.specs.Lawful.{In}
use Rattle.sheet.specs.Quantities.{stage_number, stages_most}
use Rattle.document.specs.Reader.{read_line}
use Rattle.document.specs.Rows.{wall_of}
use Rattle.document.proofs.Cases.{clash}
use Rattle.due.specs.declared.Place.{Place}
use Rattle.due.specs.Place.{good, After}
use Rattle.due.proofs.Lines.{Kept, ruled-after, not-met}
use Rattle.due.proofs.Places.{after_weaker}
use Rattle.due.specs.declared.Heard.{Heard}
use Rattle.walls.specs.declared.line.Wall.{Wall as Wallˢ}
use Rattle.walls.specs.declared.rows.NamedWall.{NamedWall}
use Rattle.walls.specs.Walls.{wall, six, nowhere, Named, WallAfter}

module _ {s : List ℕ} {p : Place} (l : Heard Wallˢ) (a : WallAfter s p l) (S : List Section) (k : ℕ) where
  abbrev by-six : Row → Option Refusal
  by-six row = six S k (wall_of row)

  abbrev Shown : Row → Type 0
  Shown row = wall l.said ≡ wall_of row

  said : {o : Option Refusal} → six S k (wall l.said) ≡ o → (row : Row) → Shown row → by-six row ≡ o
  said e row h = ap (λ (x : Wall). six S k x) (sym h) ∙ e

  -- where the section or the stage is not there the line is refused
  pub not_there : six S k (wall l.said) ≡ when true NoSuchWall
      → let r = nowhere p.line l.place l.said in After s p (read_line wall_line by-six) r.place (Named S r)
  not_there e =
      let r = nowhere p.line l.place l.said in
      after_weaker s p r.place (read_line wall_line by-six) (Kept s p l.place wall_line Shown (λ row. none) by-six true NoSuchWall) (Named S r)
      (λ row h. let u = said e row h.0 in let v = h.1 in clash cc)
      (ruled-after s p l.place wall_line Shown (λ row. none) by-six true NoSuchWall (said e) a.after)

  -- where both are there its place is the section's
  pub there : (at : ℕ) → six S k (wall l.said) ≡ when false NoSuchWall → before (pos l.said.section.0) S < length S
      → at ≡ before (pos l.said.section.0) S
      → let r : Heard NamedWall = record { place = l.place; said = record { wall = l.said; row = at } } in After s p (read_line wall_line by-six) r.place (Named S r)
  there at e listed h =
      let r : Heard NamedWall = record { place = l.place; said = record { wall = l.said; row = at } } in
      let staged : In stage_number (pos l.said.stage.0) = record {
        low = record { le = le→leb 1 l.said.stage.0 a.least };
        high = record { le = le→leb l.said.stage.0 stages_most a.most };
      } in
      let after = ruled-after s p l.place wall_line Shown (λ row. none) by-six false NoSuchWall (said e) a.after in
      after_weaker s p l.place (read_line wall_line by-six) (Kept s p l.place wall_line Shown (λ row. none) by-six false NoSuchWall) (Named S r)
      (λ row g. record { shown = g.0; placed = record { listed = listed; staged = staged }; here = h })
      (subst (λ (q : Place). After s p (read_line wall_line by-six) q (Kept s p l.place wall_line Shown (λ row. none) by-six false NoSuchWall))
      (not-met p.line l.place NoSuchWall (good l.place) false refl) after)
