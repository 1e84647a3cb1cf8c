-- Each heat by its function, from the limits of the sheet. Assumes nothing.
use Rattle.std.proofs.Common.{sym, ◌∙◌}
use Rattle.sheet.specs.declared.Sheet.{Sheet}
use Rattle.sheet.specs.Firing.{Firing}
use Rattle.formulas.specs.Formulas.{burning, x7, x8}
use Rattle.formulas.proofs.Sizes.{sized}
use Rattle.surface.specs.Cells.{Seen}
use Rattle.heat.specs.Balance.{Kept}
use Rattle.heat.proofs.Kept.{own, field}
use Rattle.heat.proofs.heats_of.Goals as goal

seen : {x : Sheet} {f : Firing} → Kept x f → Seen x.readings x.sections x.stages f
seen k = record { sections = field k (λ g. g.sections); stages = field k (λ g. g.stages); laid = k.shows.readings; rules = k.rules }

pub setter_heats-setters-requires-clause-loads : goal.setter_heats-setters-requires-clause-loads
setter_heats-setters-requires-clause-loads c =
    let l = own c.requires.1 in
    record { each = l.setters; other = rw c.from-t.ensures (sized l.ambient tt) }

pub setter_heats-setters-requires-clause-within : goal.setter_heats-setters-requires-clause-within
setter_heats-setters-requires-clause-within c = let l = own c.requires.1 in sized l.ware.highest tt

pub part_heats-parts-requires : goal.part_heats-parts-requires
part_heats-parts-requires c = let l = own c.requires.1 in record { each = l.parts; other = rw c.from-t.ensures (sized l.ambient tt) }

pub burning_of-requires : goal.burning_of-requires
burning_of-requires c = (own c.requires.1).gas

pub flue_heats-flue-requires : goal.flue_heats-flue-requires
flue_heats-flue-requires c =
    let l = own c.requires.1 in
    record { burning = c.burning_of.ensures.within; stages = l.stages; moisture = l.moisture; ambient = rw c.from-t.ensures l.ambient }

pub q5-q5-requires : goal.q5-q5-requires
q5-q5-requires c = let l = own c.requires.1 in record { ware = l.ware; ambient = rw c.from-t.ensures (sized l.ambient tt) }

pub x1-x1-requires : goal.x1-x1-requires
x1-x1-requires c = let l = own c.requires.1 in record { product = l.product; ware = l.ware }

pub x2-x2-requires : goal.x2-x2-requires
x2-x2-requires c = let l = own c.requires.1 in record { water = l.water; ambient = rw c.from-t.ensures l.ambient }

pub x3-x3-requires : goal.x3-x3-requires
x3-x3-requires c = (own c.requires.1).clay

pub x9-x9-requires : goal.x9-x9-requires
x9-x9-requires c = (c.requires.0, seen c.requires.1)

pub water_heat-water-requires : goal.water_heat-water-requires
water_heat-water-requires c = let l = own c.requires.1 in record { water = l.water; entry = l.ware.entry }

pub returns : goal.returns
unfolding x7 x8
returns c =
    λ f k.
    let t = field k (λ g. g.ambient) ∙ sym c.from-t.ensures in
    let burnt = field k burning ∙ sym c.burning_of.ensures.is in
    record {
      q1 = (c.fuel_heat-fuel.ensures f k).0;
      q2 = (c.fuel_heat-fuel.ensures f k).1;
      q3 = c.setter_heats-setters.ensures.figure f (field k (λ g. g.setters)) t;
      q5 = c.q5-q5.ensures f (field k (λ g. g.ware)) t;
      q8 = c.part_heats-parts.ensures.figure f (field k (λ g. g.parts)) t;
      x1 = c.x1-x1.ensures f (field k (λ g. g.product)) (field k (λ g. g.ware));
      x2 = c.x2-x2.ensures f (field k (λ g. g.water)) t;
      x3 = c.x3-x3.ensures f (field k (λ g. g.clay));
      x5 = c.setter_heats-setters.ensures.figure_2 f (field k (λ g. g.setters)) (field k (λ g. g.ware.highest));
      x7 = rw (burnt, field k (λ g. g.moisture), field k (λ g. g.stages), t) c.flue_heats-flue.ensures.figure;
      x8 = rw (burnt, field k (λ g. g.stages)) c.flue_heats-flue.ensures.figure_2;
      x9 = c.x9-x9.ensures f (seen k);
      x10 = c.part_heats-parts.ensures.figure_2 f (field k (λ g. g.parts)) t;
      water = c.water_heat-water.ensures f (field k (λ g. g.water)) (field k (λ g. g.ware.entry));
    }
