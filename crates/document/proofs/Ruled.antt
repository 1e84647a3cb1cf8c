-- The rule of one entry over the rows under its key, in plain words: what was seen so far is what the whole sheet has. Assumes nothing.
use Prim.Native.Nat.{ℕ}
use mathlib.Core.Path.{◌≡◌, refl, ap, ◌∙◌}
use mathlib.Core.List.{List, [], ◌++◌, map}
use mathlib.Core.Option.{Option, none}
use mathlib.Core.Bool.{Bool, true, ◌&&◌}
use Rattle.text.specs.Bytes.{bytes}
use Rattle.sheet.specs.declared.Refusal.{Refusal}
use Rattle.sheet.specs.Firing.{Wall}
use Rattle.document.specs.Schema.{Row, at}
use Rattle.document.specs.Reader.{Sheet, rows_of, Paragraph, many, line_of, rule_of, key_of, filled}
use Rattle.sheet.specs.Quantities.{walls_most, Field}
use Rattle.document.specs.Tests.{wall_fault, wall-rule}
use Rattle.document.specs.Entries.{line}
use Rattle.document.specs.Document01.{section_line, sections}
use Rattle.document.specs.Rules.{Some, Every, NoTwo, SameNumber, Listed, Staged, SameReading, Warm, WallKeeps}
use Rattle.document.specs.Rows.{section_of, first, edition_in, stage_as, stages_in, sections_in, wall_as, walls_in}
use Rattle.document.proofs.Cases.{both}
use Rattle.document.proofs.Rules.{Asks, section-asks, wall-asks}
use Rattle.document.proofs.Lists.{every_with, every_one}
use Rattle.document.proofs.Above.{Same, Each, each_imp, each_with, each-every, every-each, no_two, two-never, each-made, RowsRuled}
use Rattle.document.proofs.Forms.{Keyed, above_key, settled, seen_above, seen_own}

abbrev pub RuledAt : Sheet → Paragraph → Type 0
RuledAt s p = RowsRuled p (above_key (key_of p) s) (rows_of (key_of p) s)

module _ (s : Sheet) (p : Paragraph) where
  -- one that does not look above
  pub alone : {P : Row → Type 0} → ((seen : Sheet) (row : Row) → Asks (rule_of p seen row) (P row)) → Same (RuledAt s p) (Every P (rows_of (key_of p) s))
  alone h = record {
    to = λ r. each-every (λ above row e. (h _ row).to e) [] (rows_of (key_of p) s) r.each;
    from = λ k. record { each = every-each (λ above row m. (h _ row).from m) [] (rows_of (key_of p) s) k };
  }

  -- one that looks at the things its rows are, and at those above
  among : {A : Type 0} (to : Row → A) (P : List A → A → Type 0)
      → ((above : List Row) (row : Row) → Asks (rule_of p (above_key (key_of p) s ++ filled (line_of p) above) row) (P (map to above) (to row)))
      → Same (RuledAt s p) (Each P [] (map to (rows_of (key_of p) s)))
  among to P h =
      let m = each-made to P [] (rows_of (key_of p) s) in
      record {
        to = λ r. m.to (each_imp (λ above row e. (h above row).to e) [] (rows_of (key_of p) s) r.each);
        from = λ k. record { each = each_imp (λ above row e. (h above row).from e) [] (rows_of (key_of p) s) (m.from k) };
      }

  -- and none
  pub unasked : ((seen : Sheet) (row : Row) → rule_of p seen row ≡ none) → RuledAt s p
  unasked h = record { each = every-each {P = λ row. Unit {0}} (λ above row m. h _ row) [] (rows_of (key_of p) s) (every_one (λ row. tt) (rows_of (key_of p) s)) }

-- 6: a section, and those above it
pub sections-ruled : (s : Sheet) → Same (RuledAt s sections.paragraph) (NoTwo SameNumber (sections_in s))
sections-ruled s =
    let m = among s sections.paragraph section_of (λ above x. ¬ Some (SameNumber x) above)
    (λ above row. rw (seen_own (bytes "section") s (filled section_line above)) (section-asks (map section_of above) (section_of row))) in
    record { to = λ r. no_two SameNumber (sections_in s) (m.to r); from = λ k. m.from (two-never SameNumber (sections_in s) k) }

-- 6, 7, 9: a reading, those above it, and all stages and sections; the line may have any columns
pub record Readings (s : Sheet) : Type 0 where
  pub listed : Every (Listed (sections_in s)) (walls_in s)
  pub staged : Every (Staged (stages_in s)) (walls_in s)
  pub once : NoTwo SameReading (walls_in s)
  pub warm : Every Warm (walls_in s)

-- neither the first line nor the stages nor the sections stand below the readings
abbrev pub ordered : List Paragraph → Bool
ordered ps = settled (bytes "sheet") (bytes "wall") ps && (settled (bytes "stage") (bytes "wall") ps && settled (bytes "section") (bytes "wall") ps)

module _ (columns : List Field) (s : Sheet) (ps : List Paragraph) (e : Keyed ps s) (o : ordered ps ≡ true) where
  -- a reading's rule by the rows that it looks at: so far of the sheet, and of the whole
  abbrev looked : Row → List Row → List Row → List Row → List Row → Option Refusal
  looked row top stages sections above =
      let edition = at (first top) 0 in
      wall_fault (map (stage_as edition) stages) (map section_of sections) (map (wall_as edition) above) (wall_as edition row)

  seen_so-far : (above : List Row) (row : Row) → wall-rule (above_key (bytes "wall") s ++ filled (line "wall" columns) above) row
      ≡ wall_fault (stages_in s) (sections_in s) (map (wall_as (edition_in s)) above) (wall_as (edition_in s) row)
  seen_so-far above row =
      let W = bytes "wall" in
      let b = both (settled (bytes "sheet") W ps) (settled (bytes "stage") W ps && settled (bytes "section") W ps) o in
      let c = both (settled (bytes "stage") W ps) (settled (bytes "section") W ps) b.1 in
      let more = filled (line "wall" columns) above in
      let seen : List ℕ → List Row = λ k. rows_of k (above_key W s ++ more) in
      let all : List ℕ → List Row = λ k. rows_of k s in
      ap (λ (x : List Row). looked row x (seen (bytes "stage")) (seen (bytes "section")) (seen W)) (seen_above (bytes "sheet") W ps s more e refl b.0)
      ∙ ap (λ (x : List Row). looked row (all (bytes "sheet")) x (seen (bytes "section")) (seen W)) (seen_above (bytes "stage") W ps s more e refl c.0)
      ∙ ap (λ (x : List Row). looked row (all (bytes "sheet")) (all (bytes "stage")) x (seen W)) (seen_above (bytes "section") W ps s more e refl c.1)
      ∙ ap (λ (x : List Row). looked row (all (bytes "sheet")) (all (bytes "stage")) (all (bytes "section")) x) (seen_own W s more)

  abbrev readings : Paragraph
  readings = many (bytes "walls") 0 walls_most (line "wall" columns) wall-rule

  pub walls-ruled : Same (RuledAt s readings) (Readings s)
  walls-ruled =
      let ws = walls_in s in
      let Keep : List Wall → Wall → Type 0 = WallKeeps (stages_in s) (sections_in s) in
      let m = among s readings (wall_as (edition_in s)) Keep
      (λ above row. rw (seen_so-far above row) (wall-asks (stages_in s) (sections_in s) (map (wall_as (edition_in s)) above) (wall_as (edition_in s) row))) in
      record {
        to = λ r.
            let k = m.to r in
            record {
              listed = each-every (λ above w h. h.0) [] ws k;
              staged = each-every (λ above w h. h.1.0) [] ws k;
              once = no_two SameReading ws (each_imp (λ above w h. h.1.1.0) [] ws k);
              warm = each-every (λ above w h. h.1.1.1) [] ws k;
            };
        from = λ k.
            let There : Wall → Type 0 = λ w. Listed (sections_in s) w × Staged (stages_in s) w in
            let there = every_with {R = There} (λ w a b. (a, b)) ws k.listed k.staged in
            let kept = every_with {R = λ w. There w × Warm w} (λ w a b. (a, b)) ws there k.warm in
            m.from
            (each_with {R = Keep} (λ above w a b. (a.0.0, (a.0.1, (b, a.1)))) [] ws
            (every-each {Q = λ above w. There w × Warm w} (λ above w h. h) [] ws kept) (two-never SameReading ws k.once));
      }
