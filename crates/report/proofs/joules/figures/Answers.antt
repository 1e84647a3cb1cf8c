-- Each heat in its place, then the two efficiencies. Assumes nothing.
use Prim.Native.Nat.{ℕ, ◌+◌}
use mathlib.Core.Path.{◌≡◌, refl, ◌∙◌, subst}
use mathlib.Core.List.{[], ◌∷◌}
use native.Mathlib.Omega.{arith}
use borrow.Author.Rules.{rules, sfits_of, set_long}
use lib.Dec.{lit<}
use lib.ListN.{set, take}
use lib.IntN.{ℤ, pos}
use mir.Syntax.{w32, w64}
use mir.Val.{SFits, to_z, of_z}
use mir.Facts.{to_z-of_z}
use Rattle.quantity.proofs.Casts.{widened}
use Rattle.formulas.specs.Items.{shuttle, heat_count}
use Rattle.formulas.specs.Report.{figures, line_count}
use Rattle.report.proofs.Filling.{filled, full}
use Rattle.report.proofs.Printing.{useful-at, withset-at, eff1_at, eff2_at, figures-long}
use Rattle.report.proofs.Printing.{per_tonne_can, of-fuel_can, number_is, per_tonne_is, eff1_is, eff2_is}
use Rattle.report.proofs.joules.figures.Goals as goal

pub loop-i-init : goal.loop-i-init
loop-i-init c = record { long = omega arith; filled = λ f n p e. e }

pub per_tonne-requires : goal.per_tonne-requires
per_tonne-requires c = per_tonne_can c.requires.1 c.loop-i.i (omega arith)

pub loop-i-preserved : goal.loop-i-preserved
loop-i-preserved c =
    let l = c.loop-i in
    let z = to_z w64 (of_z w64 c.per_tonne.result) in
    record {
      long = set_long ℤ l.out (l.i + 1) (line_count shuttle) z l.invariant.long;
      filled = λ f n p first. filled (l.i + 1) l.out (figures f) z (omega arith) (omega (arith, figures-long f)) (l.invariant.filled f n p first)
          (to_z-of_z {w = w64} (sfits_of c.per_tonne.type_inv) ∙ c.per_tonne.ensures ∙ per_tonne_is p l.i (omega arith));
    }

pub of_fuel-requires : goal.of_fuel-requires
of_fuel-requires c = of-fuel_can c.requires.1 useful-at (lit< tt)

pub of_fuel-requires-2 : goal.of_fuel-requires-2
of_fuel-requires-2 c = of-fuel_can c.requires.1 withset-at (lit< tt)

pub returns : goal.returns
returns c =
    let l = c.loop-i in
    let x = to_z w64 (of_z w64 c.of_fuel.result) in
    let y = to_z w64 (of_z w64 c.of_fuel-2.result) in
    λ f p.
    let long = figures-long f in
    let end : l.i ≡ heat_count shuttle = omega arith in
    let narrow : SFits w32 c.args.number.0 = search rules in
    let first = filled 0 (pos 0 ∷ []) (figures f) _ (lit< tt) (omega (arith, long)) refl (widened narrow ∙ number_is p) in
    let heats = subst (λ (i : ℕ). take (i + 1) l.out ≡ take (i + 1) (figures f)) end (l.invariant.filled f _ p first) in
    let eff1 = filled eff1_at l.out (figures f) x (omega arith) (omega (arith, long)) heats
    (to_z-of_z {w = w64} (sfits_of c.of_fuel.type_inv) ∙ c.of_fuel.ensures ∙ eff1_is p) in
    let long1 = set_long ℤ l.out eff1_at (line_count shuttle) x l.invariant.long in
    let eff2 = filled eff2_at (set l.out eff1_at x) (figures f) y (omega (arith, long1)) (omega (arith, long)) eff1
    (to_z-of_z {w = w64} (sfits_of c.of_fuel-2.type_inv) ∙ c.of_fuel-2.ensures ∙ eff2_is p) in
    full (line_count shuttle) _ (figures f) (set_long ℤ (set l.out eff1_at x) eff2_at (line_count shuttle) y long1) long eff2
