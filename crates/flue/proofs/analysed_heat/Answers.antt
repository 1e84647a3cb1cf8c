-- Each share times c of its gas, which is no more than the last row of its column.
use Rattle.std.proofs.Common.{ℕ, ◌≡◌, ◌+◌, ◌*◌, ◌-◌, ◌≤◌, ◌∷◌, ◌∙◌, refl, arith}
use native.Mathlib.Nat.{mul-le-mul}
use lib.Dec.{T, leb}
use Rattle.document.specs.Tests.{all}
use Rattle.formulas.specs.Tables.{FlueGases, flue_table, no_row}
use Rattle.formulas.specs.Formulas.{column_at, analysed_heat}
use Rattle.formulas.proofs.Capacity.{column-most}
use Rattle.flue.specs.Steps.{entry_most}
use Rattle.flue.proofs.Columns.{column-is}
use Rattle.flue.proofs.analysed_heat.Goals as goal

-- a share of any of the gases
term : (n t : ℕ) {r : ℕ} (gas : FlueGases → ℕ) → n ≤ 10000 → T (all (λ g. leb (gas g) entry_most) (no_row ∷ flue_table)) → r ≡ column_at gas t
    → n * r ≤ 10000 * (entry_most * 1000)
term n t gas h k e = rw e (mul-le-mul h (column-most gas entry_most k t))

pub overflow_mul-result : goal.overflow_mul-result
overflow_mul-result c =
    let t0 = term c.args.co c.args.t (λ g. g.co) (omega (arith, c.requires.0)) tt (c.between.ensures ∙ column-is (λ r. r.co) c.args.t) in
    record { fits = omega (arith, t0) }

pub overflow_mul-result-2 : goal.overflow_mul-result-2
overflow_mul-result-2 c =
    let t1 = term c.args.pair c.args.t (λ g. g.co2) (omega (arith, c.requires.0)) tt (c.between-2.ensures ∙ column-is (λ r. r.co2) c.args.t) in
    record { fits = omega (arith, t1) }

pub overflow_add-result : goal.overflow_add-result
overflow_add-result c =
    let t0 = term c.args.co c.args.t (λ g. g.co) (omega (arith, c.requires.0)) tt (c.between.ensures ∙ column-is (λ r. r.co) c.args.t) in
    let t1 = term c.args.pair c.args.t (λ g. g.co2) (omega (arith, c.requires.0)) tt (c.between-2.ensures ∙ column-is (λ r. r.co2) c.args.t) in
    record { fits = omega (arith, t0, t1) }

pub overflow_mul-result-3 : goal.overflow_mul-result-3
overflow_mul-result-3 c =
    let t2 = term c.args.oxygen c.args.t (λ g. g.o2) (omega (arith, c.requires.0)) tt (c.between-3.ensures ∙ column-is (λ r. r.o2) c.args.t) in
    record { fits = omega (arith, t2) }

pub overflow_add-result-2 : goal.overflow_add-result-2
overflow_add-result-2 c =
    let t0 = term c.args.co c.args.t (λ g. g.co) (omega (arith, c.requires.0)) tt (c.between.ensures ∙ column-is (λ r. r.co) c.args.t) in
    let t1 = term c.args.pair c.args.t (λ g. g.co2) (omega (arith, c.requires.0)) tt (c.between-2.ensures ∙ column-is (λ r. r.co2) c.args.t) in
    let t2 = term c.args.oxygen c.args.t (λ g. g.o2) (omega (arith, c.requires.0)) tt (c.between-3.ensures ∙ column-is (λ r. r.o2) c.args.t) in
    record { fits = omega (arith, t0, t1, t2) }

pub overflow_mul-result-4 : goal.overflow_mul-result-4
overflow_mul-result-4 c =
    let t3 = term (10000 - (c.args.co + c.args.pair + c.args.oxygen)) c.args.t (λ g. g.n2) (omega (arith, c.requires.0)) tt (c.between-4.ensures ∙ column-is (λ r. r.n2) c.args.t) in
    record { fits = omega (arith, t3) }

pub overflow_add-result-3 : goal.overflow_add-result-3
overflow_add-result-3 c =
    let t0 = term c.args.co c.args.t (λ g. g.co) (omega (arith, c.requires.0)) tt (c.between.ensures ∙ column-is (λ r. r.co) c.args.t) in
    let t1 = term c.args.pair c.args.t (λ g. g.co2) (omega (arith, c.requires.0)) tt (c.between-2.ensures ∙ column-is (λ r. r.co2) c.args.t) in
    let t2 = term c.args.oxygen c.args.t (λ g. g.o2) (omega (arith, c.requires.0)) tt (c.between-3.ensures ∙ column-is (λ r. r.o2) c.args.t) in
    let t3 = term (10000 - (c.args.co + c.args.pair + c.args.oxygen)) c.args.t (λ g. g.n2) (omega (arith, c.requires.0)) tt (c.between-4.ensures ∙ column-is (λ r. r.n2) c.args.t) in
    record { fits = omega (arith, t0, t1, t2, t3) }

pub returns : goal.returns
unfolding analysed_heat
returns c =
    let a = c.between.ensures ∙ column-is (λ r. r.co) c.args.t in
    let b = c.between-2.ensures ∙ column-is (λ r. r.co2) c.args.t in
    let d = c.between-3.ensures ∙ column-is (λ r. r.o2) c.args.t in
    let e = c.between-4.ensures ∙ column-is (λ r. r.n2) c.args.t in
    rw (a, b, d, e) refl
