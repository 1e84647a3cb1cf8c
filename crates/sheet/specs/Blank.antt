-- What stands in a struct where nothing was read: 0 in every field, or the least of its quantity where that is above 0.
use Rattle.std.specs.Prelude.{Option, None, pos, nat_abs, replicate}
use Rattle.sheet.specs.declared.Stuff.{Stuff}
use Rattle.sheet.specs.declared.Analysis.{Analysis}
use Rattle.sheet.specs.declared.Stage.{Stage}
use Rattle.sheet.specs.declared.Setter.{Setter}
use Rattle.sheet.specs.declared.Part.{Part}
use Rattle.sheet.specs.declared.Section.{Section}
use Rattle.sheet.specs.declared.Head.{Head}
use Rattle.sheet.specs.declared.Sheet.{Sheet}
use Rattle.sheet.specs.Shown.{unread_sections}
use Rattle.sheet.specs.Quantities.{gases, stages_most, setters_most, parts_most, sections_most, edition, firing, product, heating, excess, minutes, section_number, place, area, stages_least, sections_least}

abbrev pub blank_stuff : Stuff
blank_stuff = record { material = record { 0 = 0 }; c = record { 0 = pos 0 } }

abbrev pub no_analysis : Option Analysis
no_analysis = None

abbrev pub blank_stage : Stage
blank_stage = record {
  gas = record { 0 = pos 0 };
  excess = record { 0 = excess.least };
  flue = record { 0 = pos 0 };
  co = record { 0 = pos 0 };
  analysis = no_analysis;
  minutes = record { 0 = minutes.least };
}

abbrev pub blank_setter : Setter
blank_setter = record { mass = record { 0 = pos 0 }; entry = record { 0 = pos 0 }; stuff = blank_stuff }

abbrev pub blank_part : Part
blank_part = record { mass = record { 0 = pos 0 }; stuff = blank_stuff; before = record { 0 = pos 0 }; firing = record { 0 = pos 0 } }

abbrev pub blank_section : Section
blank_section = record { number = record { 0 = nat_abs section_number.least }; place = record { 0 = nat_abs place.least }; area = record { 0 = area.least } }

abbrev pub blank_head : Head
blank_head = record {
  edition = record { 0 = nat_abs edition.least };
  firing = record { 0 = firing.least };
  product = record { 0 = product.least };
  ambient = record { 0 = pos 0 };
  fuel = record { heating = record { 0 = heating.least }; temperature = record { 0 = pos 0 } };
  gas = replicate gases (record { 0 = pos 0 });
  moisture = record { 0 = pos 0 };
  ware = record { green = record { 0 = pos 0 }; entry = record { 0 = pos 0 }; highest = record { 0 = pos 0 }; stuff = blank_stuff };
  water = record { adsorbed = record { 0 = pos 0 }; crystal = record { 0 = pos 0 }; flue = record { 0 = pos 0 } };
  clay = record { 0 = pos 0 };
}

abbrev pub blank_sheet : Sheet
blank_sheet = record {
  head = blank_head;
  stages = record { count = record { 0 = stages_least }; lines = replicate stages_most blank_stage };
  setters = record { count = record { 0 = 0 }; lines = replicate setters_most blank_setter };
  parts = record { count = record { 0 = 0 }; lines = replicate parts_most blank_part };
  sections = record { count = record { 0 = sections_least }; lines = replicate sections_most blank_section };
  readings = unread_sections;
}
