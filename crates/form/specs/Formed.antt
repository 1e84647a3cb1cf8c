-- What reading a line at a place gives: the judgement on its form (`formed_by` of crate document), as the code hands it out.
use Rattle.std.specs.Prelude.{ℕ, ◌+◌, List, drop, replicate, ℤ, pos, Result, Ok, Err}
use Rattle.std.proofs.lemmas.List.Edits.{sets}
use Rattle.sheet.specs.declared.Refusal.{Refusal}
use Rattle.sheet.specs.Quantities.{fields_most}
use Rattle.document.specs.Schema.{Judged, refused, values, formed_by}
use Rattle.form.specs.declared.Formed.{Formed}

abbrev pub zeros : List ℤ
zeros = replicate fields_most (pos 0)

-- a refused line has its refusal; one in form ends `size` bytes on, and its numbers fill the array from the front
abbrev pub handed : ℕ → Judged → Result Formed Refusal
handed at (refused r) = Err r
handed at (values row size) = Ok (record { next = at + size; values = sets zeros 0 row.numbers })

-- the array's numbers, zeros where the line is refused
abbrev pub values_in : Result Formed Refusal → List ℤ
values_in (Ok l) = l.values
values_in (Err r) = zeros

-- the line at a place, with a key that has its `=`, and n fields
unfoldable pub line_at : List ℕ → ℕ → List ℕ → ℕ → Result Formed Refusal
line_at s at key n = handed at (formed_by key n (drop at s))
