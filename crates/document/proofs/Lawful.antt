-- What the firing of a sheet that keeps document 01 is known to be, by name: group by group, and the rule of the whole. Assumes nothing.
use mathlib.Core.Path.{refl}
use Rattle.document.specs.Reader.{Sheet, Keeps}
use Rattle.document.specs.Editions.{document}
use Rattle.document.specs.Rows.{edition_in, firing_of}
use Rattle.document.specs.Lawful.{Lawful}
use Rattle.document.proofs.Entries.{sheets}
use Rattle.document.proofs.Kept.{form_kept, form_in, lines-kept, rules-kept}

pub sheet_lawful : (s : Sheet) → Keeps document s → Lawful (firing_of s)
sheet_lawful s k =
    let rules = rules-kept s k in
    let known = (sheets (edition_in s)).groups.known s refl (form_in s (form_kept s k)).each (lines-kept s k) in
    record {
      edition = known.opening.edition;
      number = known.heading.number;
      product = known.heading.product;
      ambient = known.heading.ambient;
      heating = known.fuelling.heating;
      fuel_temperature = known.fuelling.temperature;
      gas = known.fuelling.gas;
      moisture = known.drying.moisture;
      ware = known.drying.ware;
      water = known.drying.water;
      clay = known.drying.clay;
      stages = known.staging.each;
      own = known.staging.own;
      stages_some = known.staging.some;
      stages_most = known.staging.most;
      total = record { low = rules.total.0; high = rules.total.1 };
      setters = known.loading.setters;
      setters_most = known.loading.setters_most;
      parts = known.loading.parts;
      parts_most = known.loading.parts_most;
      sections = known.surfaces.sections;
      sections_some = known.surfaces.sections_some;
      sections_most = known.surfaces.sections_most;
      numbered = known.surfaces.numbered;
      walls = known.surfaces.walls;
      walls_most = known.surfaces.walls_most;
      once = known.surfaces.once;
      read = rules.read;
    }
