-- The lines behind the firing's, as many as there are heats. Assumes nothing.
use borrow.Author.Rules.{rules}
use Prim.Native.Nat.{ℕ, ◌≤◌}
use mathlib.Core.Path.{◌≡◌, ap, ◌∙◌, subst}
use mathlib.Core.List.{List, [], ◌∷◌}
use native.Mathlib.Omega.{arith}
use lib.IntN.{ℤ}
use lib.ListN.{length, drop}
use Rattle.text.specs.Bytes.{bytes}
use Rattle.pen.specs.Writing.{Written}
use Rattle.formulas.specs.Items.{shuttle, heats, heat_count}
use Rattle.formulas.specs.Report.{keys, heat_keys, lines_text}
use Rattle.report.specs.Lengths.{heats_most}
use Rattle.report.proofs.Keys.{heat-keys}
use Rattle.report.proofs.Lines.{keys-behind}
use Rattle.report.proofs.Room.{heats_in_room}
use Rattle.report.proofs.writing.write_heats.Statement.{statement}
use Rattle.report.proofs.writing.write_heats.Tie as tie

text : (zs : List ℤ) → length zs ≡ heat_count shuttle → lines_text (drop 1 (keys shuttle)) zs ≡ lines_text (heat_keys shuttle) zs
unfolding heat_keys heats
text zs e = ap (λ (ks : List (List ℕ)). lines_text ks zs) heat-keys ∙ keys-behind (heat_keys shuttle) (bytes "eff1" ∷ bytes "eff2" ∷ []) zs (omega arith)

most : (s : tie.Start) → length (lines_text (heat_keys shuttle) s.args.heats) ≤ heats_most
most s = heats_in_room s.args.heats s.well_formed.1.0.0 s.well_formed.1.0.1.1

same : (s : tie.Start) → lines_text (drop 1 (keys shuttle)) s.args.heats ≡ lines_text (heat_keys shuttle) s.args.heats
same s = text s.args.heats (omega arith)

returns : tie.Need-returns
returns c =
    let put = c.before.before in
    let s = put.before.before.before.before in
    let w = put.write_from in
    let lines = subst (λ (t : List ℕ). Written 0 t s.args.out.now w.new.out w.result) (same s) w.ensures in
    (lines, omega (arith, lines.ends, most s))

write-from-requires : tie.Need-write_from-requires
write-from-requires c κs =
    let s = c.before.before.before in
    (omega arith, omega (arith, ap length (same s), most s, s.requires))

pub write_heats_spec : {M : Type 1} → statement M
write_heats_spec = tie.close (tie.spec (λ c. search rules) write-from-requires (λ c. search rules) returns)
