-- A room for any report: for each line as much as the longest can have. Assumes nothing.
use Prim.Native.Nat.{ℕ, ◌*◌, ◌≤◌}
use mathlib.Core.List.{List, [], ◌∷◌}
use native.Mathlib.Omega.{arith}
use borrow.Author.Rules.{rules}
use lib.IntN.{ℤ}
use lib.ListN.{length, length-append}
use mir.Syntax.{w64}
use mir.Val.{Val, SFits}
use denote.Array.{each}
use denote.Shadow.{shadow}
use denote.Signed.{SInt}
use Rattle.text.specs.Decimal.{line}
use Rattle.text.proofs.Decimal.{length-line, i64_width}
use Rattle.document.specs.Rules.{Every}
use Rattle.formulas.specs.Items.{shuttle, heats}
use Rattle.formulas.specs.Report.{lines, keys, heat_keys, lines_text}
use Rattle.report.proofs.Keys.{keys-short}
use Rattle.report.specs.Lengths.{key_most, line_most, report_most, heats_most}

-- what an array of numbers tells of each of them
pub each_fits : (xs : List ℤ) (us : List Val) → shadow (each ℤ (SInt w64).own_val xs us) → Every (SFits w64) xs
each_fits [] us p = tt
each_fits (x ∷ xs) [] p = absurd p
each_fits (x ∷ xs) (u ∷ us) p = (record { sfits = p.0.1 }, each_fits xs us p.1)

at_most : (ks : List (List ℕ)) (zs : List ℤ) → Every (λ k. length k ≤ key_most) ks → Every (SFits w64) zs → length (lines_text ks zs) ≤ line_most * length ks
unfolding lines_text
at_most [] zs p f = omega arith
at_most (k ∷ ks) [] p f = omega arith
at_most (k ∷ ks) (z ∷ zs) p f =
    omega (arith, length-append (line k z) (lines_text ks zs), length-line k z, i64_width z f.0, at_most ks zs p.1 f.1, p.0)

heat-keys-short : Every (λ k. length k ≤ key_most) (heat_keys shuttle)
unfolding heat_keys heats
heat-keys-short = search rules

-- THE GREATEST REPORT, and its heats
pub in_room : (zs : List ℤ) → Every (SFits w64) zs → length (lines_text (keys shuttle) zs) ≤ report_most
unfolding keys lines heats
in_room zs f = at_most (keys shuttle) zs keys-short f

pub heats_in_room : (zs : List ℤ) (us : List Val) → shadow (each ℤ (SInt w64).own_val zs us) → length (lines_text (heat_keys shuttle) zs) ≤ heats_most
unfolding heat_keys heats
heats_in_room zs us p = at_most (heat_keys shuttle) zs heat-keys-short (each_fits zs us p)
