-- None of the first i numbers is this one, so it stands as far behind them as it does among the rest.
use Rattle.std.proofs.Common.{◌≡◌, ◌+◌, take, drop}
use Rattle.sections.specs.Sections.{place_of}
use Rattle.sections.proofs.section_place.Given as goal

abbrev pub invariant-loop-i : goal.invariant-loop-i
invariant-loop-i l = place_of l.number.0 (take l.count l.numbers) ≡ l.i + place_of l.number.0 (drop l.i (take l.count l.numbers))
