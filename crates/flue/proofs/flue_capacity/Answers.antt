-- What an analyser says is not negative, so it goes over into sizes. Assumes nothing.
use Prim.Native.Nat.{◌+◌, ◌≤◌}
use mathlib.Core.Path.{◌≡◌, refl, sym, subst, ap}
use mathlib.Core.Option.{some}
use mathlib.Core.List.{[], ◌∷◌}
use native.Mathlib.Omega.{arith}
use borrow.Author.Rules.{rules}
use lib.IntN.{pos, nat_abs}
use mir.Syntax.{w16, w64}
use mir.Val.{SFits}
use mir.Facts.{to_z-of_z}
use Rattle.std.proofs.Common.{Option, Some}
use Rattle.arith.specs.Nearest.{nearest}
use Rattle.arith.proofs.Ring.{v, ◌⊕◌}
use Rattle.arith.proofs.Order.{arithℤ, parts, abs-pos, abs≤⁺}
use Rattle.sheet.specs.declared.Analysis.{Analysis as Analysisˢ}
use Rattle.sheet.specs.declared.Stage.{Stage as Stageˢ}
use Rattle.sheet.specs.Firing.{Analysis}
use Rattle.sheet.specs.Shown.{analysis, stage}
use Rattle.sheet.specs.Quantities.{analysis_most}
use Rattle.document.specs.Lawful.{AnalysisIn, FlueIn, StageIn}
use Rattle.formulas.specs.Formulas.{capacity_by, analysed_heat, flue_capacity}
use Rattle.formulas.specs.Sizes.{analysed_heat_most}
use Rattle.formulas.proofs.Capacity.{analysed-most}
use Rattle.flue.proofs.flue_capacity.Goals as goal

-- what was said of a stage's flue
abbrev said : Analysisˢ → Analysis
said a = record { pair = a.pair.0; oxygen = a.oxygen.0 }

module _ (x : Stageˢ) (a : Analysisˢ) (e : x.analysis ≡ Some a) where
  is_said : pos (capacity_by (stage x) (some (said a))) ≡ flue_capacity (stage x)
  unfolding flue_capacity
  is_said = sym (ap (λ (o : Option Analysisˢ). pos (capacity_by (stage x) (analysis o))) e)

  module _ (h : StageIn (stage x)) where
    holds : AnalysisIn x.flue.0 x.co.0 (said a)
    holds = subst (λ (o : Option Analysisˢ). FlueIn x.flue.0 x.co.0 (analysis o)) e h.flue

    -- CO, the pair and oxygen as sizes
    together : nat_abs x.co.0 + nat_abs a.pair.0 + nat_abs a.oxygen.0 ≤ analysis_most
    together = omega (
      arithℤ,
      parts (x.co.0 ∷ a.pair.0 ∷ a.oxygen.0 ∷ []) (v 0 ⊕ v 1 ⊕ v 2),
      holds.together,
      abs-pos h.co.low,
      abs-pos holds.pair.low,
      abs-pos holds.oxygen.low,
    )

    -- and the heat that they are is small
    small : analysed_heat (nat_abs x.co.0) (nat_abs a.pair.0) (nat_abs a.oxygen.0) (nat_abs x.flue.0) ≤ analysed_heat_most
    small = analysed-most (nat_abs x.co.0) (nat_abs a.pair.0) (nat_abs a.oxygen.0) (nat_abs x.flue.0) (abs≤⁺ holds.pair.low holds.pair.high) together

pub returns-in_default : goal.returns-in_default
unfolding flue_capacity
returns-in_default c = rw c.in_default.is refl

pub analysed_heat-heat-requires : goal.analysed_heat-heat-requires
analysed_heat-heat-requires c =
    let x = c.args.stage in
    let a = c.in-Some.analysis in
    let h = holds x a c.in-Some.is c.requires in
    let co : SFits w16 x.co.0 = search rules in
    let pair : SFits w16 a.pair.0 = search rules in
    let oxygen : SFits w16 a.oxygen.0 = search rules in
    let flue : SFits w16 x.flue.0 = search rules in
    rw (to_z-of_z co, to_z-of_z pair, to_z-of_z oxygen, to_z-of_z flue) (together x a c.in-Some.is c.requires, abs≤⁺ h.flue.low h.flue.high)

-- the heat by the numbers as they stand
worth : (c : goal.After-analysed_heat-heat) → let x = c.args.stage in let a = c.in-Some.analysis in
    c.analysed_heat-heat.result ≡ analysed_heat (nat_abs x.co.0) (nat_abs a.pair.0) (nat_abs a.oxygen.0) (nat_abs x.flue.0)
worth c =
    let x = c.args.stage in
    let a = c.in-Some.analysis in
    let co : SFits w16 x.co.0 = search rules in
    let pair : SFits w16 a.pair.0 = search rules in
    let oxygen : SFits w16 a.oxygen.0 = search rules in
    let flue : SFits w16 x.flue.0 = search rules in
    rw (to_z-of_z co, to_z-of_z pair, to_z-of_z oxygen, to_z-of_z flue) at c.analysed_heat-heat.ensures

pub overflow_cast-heat : goal.overflow_cast-heat
overflow_cast-heat c = rw (worth c) (record { sfits = omega (arith, small c.args.stage c.in-Some.analysis c.in-Some.is c.requires) })

pub returns : goal.returns
unfolding nearest
returns told =
    let c = told.before.before in
    let fits : SFits w64 told.units.result.0 = search rules in
    rw (to_z-of_z fits, told.units.ensures, to_z-of_z (overflow_cast-heat c), worth c) (is_said c.args.stage c.in-Some.analysis c.in-Some.is)
