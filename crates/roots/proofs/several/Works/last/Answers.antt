use Rattle.std.proofs.Common.{ℕ, ◌≡◌, get_or, map, sym, ◌∙◌, rules, arith}
use lib.ListN.{length-map}
use lib.Seq.{ext_get_or}
use Rattle.roots.specs.Root.{root}
use Rattle.roots.proofs.Sides.{from_fn-each, root-at}
use Rattle.roots.proofs.several.Works.last.Goals as goal

pub returns : goal.returns
returns c =
    let n = c.args.n in
    let made = c.from_fn.ensures.items in
    let P : ℕ → ℕ → Type 0 = λ k x. x ≡ root (get_or n k 0) in
    let each = from_fn-each made P (λ i y f' one. search rules) 0 in
    ext_get_or 0 c.from_fn.result (map root n) (omega (arith, made.long, length-map n root)) (λ k h. each k (omega (arith, made.long)) ∙ sym (root-at n k))
