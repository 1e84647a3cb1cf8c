-- Cells by section and stage: a reading that is laid into one is there, and the other cells stay as they were. Assumes nothing.
use Prim.Native.Nat.{ℕ, zero, suc, ◌≤◌, ◌<◌}
use mathlib.Core.Path.{◌≡◌, refl, ◌∙◌}
use mathlib.Core.List.{List}
use mathlib.Core.Logic.{◌≢◌}
use native.Mathlib.Decide.{dec_le}
use native.Mathlib.Omega.{arith}
use lib.ListN.{length, get_or, set, replicate, length-set, length-replicate, get_or-replicate}
use lib.Seq.{get_or-set_same, get_or-set_other}
use Rattle.std.specs.Prelude.{Option}
use Rattle.sheet.specs.declared.Reading.{Reading}
use Rattle.sheet.specs.declared.SectionReadings.{SectionReadings}
use Rattle.sheet.specs.Quantities.{stages_most, sections_most}
use Rattle.sheet.specs.Shown.{unread, unread_section, unread_sections, no_readings, cell, lay}

-- two numbers are the same or are not, and so are two cells
either_way : {P : Type 0} (a b : ℕ) → (a ≡ b → P) → (a ≢ b → P) → P
either_way {P} a b same other = here (dec_le a b) (dec_le b a)
  where
    here : Dec (a ≤ b) → Dec (b ≤ a) → P
    here (yes p) (yes q) = same (omega arith)
    here (yes p) (no q) = other (λ e. omega arith)
    here (no p) t = other (λ e. omega arith)

pub either-cell : {P : Type 0} (i j a b : ℕ) → (i ≡ a → j ≡ b → P) → ((i ≡ a → j ≢ b) → P) → P
either-cell i j a b same other = either_way i a (λ e. either_way j b (same e) (λ d. other (λ q. d))) (λ d. other (λ q. absurd (d q)))

-- as many sections as there can be, each with as many stages
pub record Whole (cells : List SectionReadings) : Type 0 where
  pub sections : length cells ≡ sections_most
  pub stages : (i : ℕ) → i < sections_most → length (get_or cells i no_readings).stages ≡ stages_most

module _ (cells : List SectionReadings) (i j : ℕ) (x : Option Reading) (whole : Whole cells) where
  -- the section's readings with this one
  abbrev changed : SectionReadings
  changed = record { stages = set (get_or cells i no_readings).stages j x }

  module _ (h : i < sections_most) where
    here : i < length cells
    here = omega (arith, whole.sections)

    row : get_or (lay cells i j x) i no_readings ≡ changed
    row = get_or-set_same cells i changed no_readings here

    pub lay-whole : Whole (lay cells i j x)
    lay-whole = record {
      sections = length-set cells i changed ∙ whole.sections;
      stages = λ k l. either_way k i
          (λ e. rw (e, row) (length-set (get_or cells i no_readings).stages j x ∙ whole.stages i h))
          (λ d. rw (get_or-set_other cells i k changed no_readings d) (whole.stages k l));
    }

    pub lay-same : j < stages_most → cell (lay cells i j x) i j ≡ x
    lay-same l =
        let there : j < length (get_or cells i no_readings).stages = omega (arith, whole.stages i h) in
        rw row (get_or-set_same (get_or cells i no_readings).stages j x unread there)

    pub lay-other : (a b : ℕ) → (a ≡ i → b ≢ j) → cell (lay cells i j x) a b ≡ cell cells a b
    lay-other a b d = either_way a i
        (λ e. rw (e, row) (get_or-set_other (get_or cells i no_readings).stages j b x unread (d e)))
        (λ n. rw (get_or-set_other cells i a changed no_readings n))

pub unread-whole : Whole unread_sections
unread-whole = record {
  sections = length-replicate sections_most unread_section;
  stages = λ i h. rw (get_or-replicate sections_most i unread_section no_readings h) (length-replicate stages_most unread);
}

blank : {A : Type 0} (a : A) (n k : ℕ) → get_or (replicate n a) k a ≡ a
blank a zero k = refl
blank a (suc n) zero = refl
blank a (suc n) (suc k) = blank a n k

blank-section : (n i j : ℕ) → cell (replicate n unread_section) i j ≡ unread
blank-section zero i j = refl
blank-section (suc n) zero j = blank unread stages_most j
blank-section (suc n) (suc i) j = blank-section n i j

-- where nothing was laid nothing was read
pub unread-cell : (i j : ℕ) → cell unread_sections i j ≡ unread
unread-cell i j = blank-section sections_most i j
