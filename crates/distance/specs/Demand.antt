-- Document 01, "Distance from the unrounded value", and demand 3: how far a printed figure may be from the unrounded one. `nat_abs x` is |x|,
-- and `Every P l` says P of each element of the list l.
use Rattle.std.specs.Prelude.{ℕ, ◌+◌, ◌*◌, ◌≤◌, ◌<◌, ◌≡◌, cond, ◌||◌, List, ℤ, pos, nat_abs, ◌-ℤ◌, ◌*ℤ◌}
use Rattle.roots.specs.Root.{root}
use Rattle.text.specs.Bytes.{bytes}
use Rattle.sheet.specs.Firing.{Wall, Firing}
use Rattle.sheet.specs.Block.{sum}
use Rattle.document.specs.Reader.{Sheet, Good, read_of, same_key}
use Rattle.document.specs.Editions.{document}
use Rattle.document.specs.Rules.{Every}
use Rattle.document.specs.Rows.{firing_of}
use Rattle.formulas.specs.Rounding.{Rounding, fourth_power, power, exact}
use Rattle.formulas.specs.Formulas.{section_of, stage_of}
use Rattle.formulas.specs.Items.{sides_of}
use Rattle.formulas.specs.Report.{Figure, number, heat, share, Line, lines, Fraction, fraction, printed}

-- ---- THE UNROUNDED VALUE is a fraction of whole numbers: the report's own, with nothing rounded. For the root two stand in: what document
-- 01 says here of Δ√Δ, request T-02 says of Δ ⁴√Δ now. They are the greatest whole number of 1e-5 W/m² whose fourth power is not above that
-- of the exact term, and one unit more
pub data Stand : Type 0 where
  greatest one_more : Stand

-- n is the exact fourth power of the term
abbrev pub stand_in : Stand → ℕ → ℕ
stand_in greatest n = root (root n)
stand_in one_more n = root (root n) + 1

-- the fourth powers of the two enclose it, and every number whose own is not above it is at most the lesser
pub record Enclosed (n : ℕ) : Type 0 where
  pub low : fourth_power (stand_in greatest n) ≤ n
  pub high : n < fourth_power (stand_in one_more n)
  pub none_greater : (m : ℕ) → fourth_power m ≤ n → m ≤ stand_in greatest n

-- one of the two for each reading
abbrev pub Choice : Type 0
Choice = Wall → Stand

abbrev pub against : Choice → Rounding
against choice = exact (λ w a Δ. stand_in (choice w) (power a Δ))

abbrev pub unrounded : Firing → Choice → Line → Fraction
unrounded f choice l = fraction f (against choice) l.figure

-- ---- THE SURFACE: a reading's area times its stage's time, summed over all readings, in 0.01 m²·minutes
abbrev pub surface : Firing → ℕ
surface f = nat_abs (sum (λ w. (section_of f w).area *ℤ (stage_of f w).minutes) f.walls)

-- 1,000 square-metre-hours
abbrev pub thousand : ℕ
thousand = 1000 * 100 * 60

-- ---- WHAT IS ALLOWED, in the unit that is printed: to the firing number nothing, to a heat 4 kJ per tonne, to an efficiency 0.01 %
abbrev pub allowed : Figure → ℕ
allowed number = 0
allowed (heat q) = 4
allowed (share q) = 1

-- and by request T-02 2 kJ per tonne more for each 1,000 square-metre-hours: to x9 and x11, and to no other line
abbrev pub leeway : List ℕ → ℕ
leeway key = cond (same_key key (bytes "x9") || same_key key (bytes "x11")) 2 0

-- ---- A LINE IS NEAR where |printed − unrounded| ≤ allowed + leeway · surface / thousand. Multiplied out, |x − over/under| ≤ a/b is
abbrev pub Within : ℕ → ℕ → ℤ → Fraction → Type 0
Within a b x y = b * nat_abs (x *ℤ pos y.under -ℤ y.over) ≤ a * y.under

pub record Near (f : Firing) (choice : Choice) (l : Line) : Type 0 where
  pub is-fraction : 0 < (unrounded f choice l).under
  pub near : Within (allowed l.figure * thousand + leeway l.key * surface f) thousand (printed f l.figure) (unrounded f choice l)

-- ---- DEMAND 3: of every text that is accepted, whichever stand-in is chosen for each reading, every line of the report is near
pub record Demand3 : Type 0 where
  pub enclosed : (n : ℕ) → Enclosed n
  pub near : (text : List ℕ) (sheet : Sheet) → read_of document text ≡ Good sheet → (choice : Choice)
      → let f = firing_of sheet in Every (Near f choice) (lines (sides_of f.edition))
