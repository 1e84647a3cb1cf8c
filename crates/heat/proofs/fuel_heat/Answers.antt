-- Both heats of the fuel, from the limits of the sheet. Assumes nothing.
use Rattle.std.proofs.Common.{◌≡◌, sym, ◌∙◌, subst}
use Rattle.limits.proofs.Laws.{passed}
use Rattle.sheet.specs.Block.{total_gas, stages_of}
use Rattle.sheet.specs.Quantities.{gas_total}
use Rattle.document.specs.Lawful.{In}
use Rattle.formulas.specs.Formulas.{q2}
use Rattle.heat.proofs.Kept.{own, field}
use Rattle.heat.proofs.fuel_heat.Goals as goal

pub warmth_of-warmth-requires : goal.warmth_of-warmth-requires
warmth_of-warmth-requires c = (own c.requires.1).gas

-- the gas of all stages is within its limits, and so it is what was checked
pub q1-requires : goal.q1-requires
q1-requires c =
    let l = own c.requires.1 in
    let e = c.total_gas.ensures in
    let limits = subst (In gas_total) (sym e) l.total in
    let is = (passed c.checked-total.ensures (record { low = limits.low; high = limits.high })).0 ∙ e in
    record { gas = subst (In gas_total) (sym is) l.total; heating = l.heating }

pub q2-requires : goal.q2-requires
q2-requires c =
    let l = own c.requires.1 in
    let e = c.total_gas.ensures in
    let limits = subst (In gas_total) (sym e) l.total in
    let is = (passed c.checked-total.ensures (record { low = limits.low; high = limits.high })).0 ∙ e in
    let w = c.warmth_of-warmth.ensures in
    record {
      gas = subst (In gas_total) (sym is) l.total;
      start = w.cold;
      on = w.rise;
      at = rw c.from-at.ensures l.fuel_temperature;
      from = rw c.from-t.ensures l.ambient;
    }

pub returns : goal.returns
unfolding q2
returns c =
    let l = own c.requires.1 in
    let e = c.total_gas.ensures in
    let limits = subst (In gas_total) (sym e) l.total in
    let gas : c.checked-total.result.value.0 ≡ total_gas (stages_of c.args.sheet.stages) =
    (passed c.checked-total.ensures (record { low = limits.low; high = limits.high })).0 ∙ e in
    λ f k. (
      c.q1.ensures f (field k (λ g. total_gas g.stages) ∙ sym gas) (field k (λ g. g.fuel.heating)),
      rw (
        field k (λ g. total_gas g.stages) ∙ sym gas,
        field k (λ g. g.gas),
        field k (λ g. g.fuel.temperature) ∙ sym c.from-at.ensures,
        field k (λ g. g.ambient) ∙ sym c.from-t.ensures,
        ← c.warmth_of-warmth.ensures.heat c.from-at.result.0,
      ) c.q2.ensures,
    )
